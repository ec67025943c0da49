use Rattle.std.proofs.Common.{◌≡◌, ◌+◌, ◌≤◌, [], length}
use Rattle.std.specs.Prelude.{Ok, IsTrue}
use Rattle.dd_rig.specs.Clock.{Elapses}
use Rattle.dd_rig.specs.Counts.{Frame}
use Rattle.dd_model.specs.State.{State}
use Rattle.dd_store.specs.Keeping.{Holds, Kept, slots_shown}
use Rattle.dd_store.specs.Rounds.{Cleans, KeepsSkipped, LoadsAtMost}
use Rattle.dd_store.specs.Serving.{Serves}
use Rattle.dd_store.proofs.store.Store.some_rounds.Given as goal
use Rattle.dd_store.specs.Meaning.{Basis}

-- rounds so far
abbrev pub invariant-rounds : goal.invariant-rounds
invariant-rounds g l =
    let world = g.R.Rig.world in
    let counts = g.R.Rig.counts in
    let clock = g.R.Rig.clock in
    let printed = g.F.Fingerprint.printed in
    record {
      serves : g.R.Rig.tells → (basis : Basis) (c s : State) → Kept basis (printed l.fn.self.print) l.fn.self.store (world l.fn.rig) c s
          → Serves {T = Unit {0}} basis (printed l.fn.self.print) (Ok tt) (clock l.fn.rig) (clock l.rig) l.self.store (world l.rig) c s s;
      holds : g.R.Rig.tells → (s : State) → Holds (printed l.fn.self.print) l.fn.self.store (world l.fn.rig) s → Holds (printed l.fn.self.print) l.self.store (world l.rig) s;
      unsaid : g.R.Rig.tells → Elapses (clock l.fn.rig) (clock l.rig) (λ o. o.out ≡ (world l.fn.rig).said);
      said : g.R.Rig.tells → (world l.rig).said ≡ (world l.fn.rig).said;
      slots : g.R.Rig.tells → slots_shown l.fn.self.store.journal.geo (world l.rig) ≡ slots_shown l.fn.self.store.journal.geo (world l.fn.rig);
      rows : Cleans l.fn.self.store l.self.store;
      skips : KeepsSkipped l.along l.fn.self.store l.self.store;
      up : IsTrue l.self.store.is_up;
      print : l.self.print ≡ l.fn.self.print;
      forgets : l.self.store.laid ≡ [];
      sinks : l.self.store.journal.epoch + length l.self.store.dirty ≤ l.fn.self.store.journal.epoch + length l.fn.self.store.dirty;
      reads : (counts l.rig).disk.reads ≤ (counts l.fn.rig).disk.reads;
      loads : LoadsAtMost 0 l.fn.self.store l.self.store (counts l.fn.rig).disk (counts l.rig).disk;
      frame : Frame (counts l.fn.rig) (counts l.rig) (g.R.Rig.device_size l.fn.rig) (g.R.Rig.device_size l.rig);
    }

abbrev pub decreases-rounds : goal.decreases-rounds
decreases-rounds g l = length l.self.store.dirty
