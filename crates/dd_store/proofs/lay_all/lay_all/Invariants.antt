use Rattle.std.proofs.Common.{◌≡◌, ◌+◌, ◌≤◌, ℕ, List, take}
use Rattle.dd_block.specs.declared.print.Fp.{Fp}
use Rattle.dd_rig.specs.Clock.{Elapses}
use Rattle.dd_rig.specs.Counts.{Frame}
use Rattle.dd_model.specs.State.{State}
use Rattle.dd_store.specs.Meaning.{Basis, Stands}
use Rattle.dd_store.specs.Keeping.{StoreView, IsStore, Holds, Kept}
use Rattle.dd_store.specs.Laying.{MayLayAll, all_laid}
use Rattle.dd_store.proofs.lay_all.lay_all.Given as goal

-- the first ones are laid
abbrev pub invariant-loop-address : goal.invariant-loop-address
invariant-loop-address g l =
    let world = g.R.Rig.world in
    let counts = g.R.Rig.counts in
    let clock = g.R.Rig.clock in
    let table = (g.L.Lists.listing l.lists).table in
    record {
      crash : g.R.Rig.tells → (basis : Basis) (print : List ℕ → Fp) (store : StoreView) (s : State) → store.journal.geo ≡ l.geo → store.table ≡ table → IsStore store → MayLayAll store l.addresses → Kept basis print store (world l.initial.rig) s s
          → Elapses (clock l.initial.rig) (clock l.rig) (λ o. Stands basis print o.flash o.disk s);
      laid : g.R.Rig.tells → (basis : Basis) (print : List ℕ → Fp) (store : StoreView) (s : State) → store.journal.geo ≡ l.geo → store.table ≡ table → IsStore store → MayLayAll store l.addresses → Kept basis print store (world l.initial.rig) s s
          → Kept basis print (all_laid (take l.address-index l.addresses) store) (world l.rig) s s;
      holds : g.R.Rig.tells → (print : List ℕ → Fp) (store : StoreView) (s : State) → store.journal.geo ≡ l.geo → store.table ≡ table → IsStore store → MayLayAll store l.addresses → Holds print store (world l.initial.rig) s
          → Holds print (all_laid (take l.address-index l.addresses) store) (world l.rig) s;
      unsaid : g.R.Rig.tells → Elapses (clock l.initial.rig) (clock l.rig) (λ o. o.out ≡ (world l.initial.rig).said);
      said : g.R.Rig.tells → (world l.rig).said ≡ (world l.initial.rig).said;
      flash : g.R.Rig.tells → (world l.rig).flash ≡ (world l.initial.rig).flash;
      reads : (counts l.rig).disk.reads ≤ (counts l.initial.rig).disk.reads;
      writes : (counts l.rig).disk.writes ≤ (counts l.initial.rig).disk.writes + l.address-index;
      frame : Frame (counts l.initial.rig) (counts l.rig) (g.R.Rig.device_size l.initial.rig) (g.R.Rig.device_size l.rig);
    }
