use Rattle.std.proofs.Common.{◌≤◌}
use Rattle.std.specs.Prelude.{vec_len, vec_capacity}
use Rattle.dd_store.proofs.UsedSlots.{AreGathered}
use Rattle.dd_store.proofs.used.used_slots.Given as goal

abbrev pub invariant-loop-slot : goal.invariant-loop-slot
invariant-loop-slot g l =
    AreGathered (g.L.Lists.listing l.lists).table.b l.slot l.used.items
    × (vec_len l.used ≤ l.slot) × (l.count ≤ vec_capacity l.used)
