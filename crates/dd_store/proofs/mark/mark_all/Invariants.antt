use Rattle.std.proofs.Common.{◌≡◌, ◌+◌, ◌++◌, take}
use Rattle.std.specs.Prelude.{vec_len, vec_capacity}
use Rattle.dd_store.specs.Laying.{all_marked, clean_records}
use Rattle.dd_store.proofs.mark.mark_all.Given as goal

abbrev pub invariant-loop-address : goal.invariant-loop-address
invariant-loop-address g l =
    (g.L.Lists.listing l.lists ≡ all_marked (take l.address-index l.addresses) (g.L.Lists.listing l.initial.lists))
    × (l.pending.items ≡ l.initial.pending.items ++ clean_records (take l.address-index l.addresses))
    × (vec_capacity l.pending ≡ vec_capacity l.initial.pending)
    × (vec_len l.pending ≡ vec_len l.initial.pending + l.address-index)
