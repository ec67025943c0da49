use Rattle.std.proofs.Common.{◌≡◌, ◌≤◌, ◌+◌, ℕ, length}
use Rattle.dd_rig.specs.Clock.{Elapses}
use Rattle.dd_rig.specs.Counts.{Frame}
use Rattle.dd_model.specs.State.{State}
use Rattle.dd_store.specs.Keeping.{Kept}
use Rattle.dd_store.specs.Meaning.{Basis, sizes_of}
use Rattle.dd_answers.specs.Answering.{MayAnswer}
use Rattle.dd_gen.specs.Generator.{drawn_on}
use Rattle.dd_gen.specs.Running.{StandsWithin, Holding, sums_at}
use Rattle.dd_gen.specs.Sums.{AreBelow}
use Rattle.dd_gen.proofs.running.run_commands.Given as goal

-- The first n commands were served: the store holds the state behind them, and a crash so far leaves the state behind some of all.
abbrev pub invariant-loop-n : goal.invariant-loop-n
invariant-loop-n g l =
    let print = g.F.Fingerprint.printed l.fn.store.print in
    let sizes = sizes_of l.fn.store.store.journal.geo in
    let world = g.R.Rig.world in
    record {
      crash : g.R.Rig.tells → (basis : Basis) (start : State) → Kept basis print l.fn.store.store (world l.fn.rig) start start
          → Elapses (g.R.Rig.clock l.fn.rig) (g.R.Rig.clock l.rig) (λ o. StandsWithin basis print sizes start l.fn.seed l.fn.count o.flash o.disk × (o.out ≡ (world l.fn.rig).said));
      holds : g.R.Rig.tells → (basis : Basis) (start : State) → Kept basis print l.fn.store.store (world l.fn.rig) start start → Holding basis print sizes start l.fn.seed l._n l.store.store (world l.rig);
      sums : g.R.Rig.tells → (basis : Basis) (start : State) → Kept basis print l.fn.store.store (world l.fn.rig) start start → l.sums ≡ sums_at print sizes start l.fn.seed l._n;
      state : l.commands.numbers.x ≡ drawn_on sizes l.fn.seed l._n;
      small : AreBelow (l._n + 1) l.sums;
      said : g.R.Rig.tells → (world l.rig).said ≡ (world l.fn.rig).said;
      ready : (n : ℕ) → n + l._n ≤ l.fn.count + 1 → MayAnswer l.store.store n (g.R.Rig.device_size l.rig);
      same : (l.store.print ≡ l.fn.store.print) × (l.store.store.journal.geo ≡ l.fn.store.store.journal.geo);
      block : length l.block ≡ l.fn.store.store.journal.geo.block;
      frame : Frame (g.R.Rig.counts l.fn.rig) (g.R.Rig.counts l.rig) (g.R.Rig.device_size l.fn.rig) (g.R.Rig.device_size l.rig);
    }
