use Rattle.std.proofs.Common.{◌≡◌, ℕ, ◌+◌, ◌≤◌, List, sym, ◌∙◌, ap, subst, arith}
use Rattle.dd_block.specs.declared.geometry.Geometry.{Geometry}
use Rattle.dd_block.specs.declared.print.Fp.{Fp}
use Rattle.dd_rig.specs.Clock.{Elapses}
use Rattle.dd_rig.specs.World.{World}
use Rattle.dd_rig.proofs.Falling.{frame_trans}
use Rattle.dd_rig.proofs.Moments.{goes_on}
use Rattle.dd_model.specs.State.{Sizes, State}
use Rattle.dd_script.specs.Command.{after}
use Rattle.dd_store.specs.Keeping.{Kept}
use Rattle.dd_store.specs.Meaning.{sizes_of}
use Rattle.dd_store.specs.Serving.{GoesOn}
use Rattle.dd_loop.specs.Standing.{AllStandForEither, WithinCall}
use Rattle.dd_answers.specs.Answering.{StandsBy}
use Rattle.dd_gen.specs.Generator.{drawn}
use Rattle.dd_gen.specs.Running.{state_at, sums_at, Holding}
use Rattle.dd_gen.specs.Sums.{counted_by}
use Rattle.dd_gen.proofs.Ran.{all_within, drawn_next, holding_next, sums_more, within_either}
use Rattle.dd_gen.proofs.running.run_commands.Goals as goal

pub returns-in-Err-clause-crash : goal.returns-in-Err-clause-crash
returns-in-Err-clause-crash g c = λ t basis start kept.
    let print : List ℕ → Fp = g.F.Fingerprint.printed c.args.store.now.print in
    let sizes : Sizes = sizes_of c.args.store.now.store.journal.geo in
    let i = c.loop-n.invariant in
    let n : ℕ = c.loop-n._n in
    let old : World = g.R.Rig.world c.loop-n.rig in
    let printed : g.F.Fingerprint.printed c.loop-n.store.print ≡ print = ap g.F.Fingerprint.printed i.same.0 in
    let h : Holding basis print sizes start c.args.seed n c.loop-n.store.store old = i.holds t basis start kept in
    let one : State = state_at print sizes start c.args.seed h.k in
    let s : State = state_at print sizes start c.args.seed n in
    let call : Elapses (g.R.Rig.clock c.loop-n.rig) (g.R.Rig.clock c.run_one.new.rig) (WithinCall (StandsBy basis print) one s old) =
    subst (λ (p : List ℕ → Fp). Elapses (g.R.Rig.clock c.loop-n.rig) (g.R.Rig.clock c.run_one.new.rig) (WithinCall (StandsBy basis p) one s old)) printed
    (c.run_one.ensures.crash t basis one s (subst (λ (p : List ℕ → Fp). Kept basis p c.loop-n.store.store old one s) (sym printed) h.kept)) in
    let few : n ≤ c.args.count = omega (arith, c.loop-n-test.true) in
    goes_on (i.crash t basis start kept) call (λ o w. (within_either basis print sizes start c.args.seed n c.args.count few c.loop-n.store.store old h o.flash o.disk w.0, w.1 ∙ i.said t))

pub returns-in-Err-clause-stops : goal.returns-in-Err-clause-stops
returns-in-Err-clause-stops g c = λ t basis start kept.
    let print : List ℕ → Fp = g.F.Fingerprint.printed c.args.store.now.print in
    let sizes : Sizes = sizes_of c.args.store.now.store.journal.geo in
    let i = c.loop-n.invariant in
    let n : ℕ = c.loop-n._n in
    let old : World = g.R.Rig.world c.loop-n.rig in
    let new : World = g.R.Rig.world c.run_one.new.rig in
    let printed : g.F.Fingerprint.printed c.loop-n.store.print ≡ print = ap g.F.Fingerprint.printed i.same.0 in
    let h : Holding basis print sizes start c.args.seed n c.loop-n.store.store old = i.holds t basis start kept in
    let one : State = state_at print sizes start c.args.seed h.k in
    let s : State = state_at print sizes start c.args.seed n in
    let few : n ≤ c.args.count = omega (arith, c.loop-n-test.true) in
    all_within basis print sizes start c.args.seed n c.args.count few c.loop-n.store.store old new h
    (subst (λ (p : List ℕ → Fp). AllStandForEither (StandsBy basis p) one s new) printed
    (c.in-Err.ensures.stops t basis one s (subst (λ (p : List ℕ → Fp). Kept basis p c.loop-n.store.store old one s) (sym printed) h.kept)))

pub returns-in-Err-clause-frame : goal.returns-in-Err-clause-frame
returns-in-Err-clause-frame g c =
    frame_trans (g.R.Rig.counts c.args.rig.now) (g.R.Rig.counts c.loop-n.rig) (g.R.Rig.counts c.run_one.new.rig) (g.R.Rig.device_size c.args.rig.now) (g.R.Rig.device_size c.loop-n.rig) (g.R.Rig.device_size c.run_one.new.rig)
    c.loop-n.invariant.frame c.run_one.ensures.frame

pub loop-n-preserved : goal.loop-n-preserved
loop-n-preserved g c =
    let print : List ℕ → Fp = g.F.Fingerprint.printed c.args.store.now.print in
    let sizes : Sizes = sizes_of c.args.store.now.store.journal.geo in
    let seed : ℕ = c.args.seed in
    let i = c.loop-n.invariant in
    let n : ℕ = c.loop-n._n in
    let x : ℕ = c.loop-n.commands.numbers.x in
    let old : World = g.R.Rig.world c.loop-n.rig in
    let new : World = g.R.Rig.world c.run_one.new.rig in
    let printed : g.F.Fingerprint.printed c.loop-n.store.print ≡ print = ap g.F.Fingerprint.printed i.same.0 in
    record {
      crash = λ t basis start kept.
          let h : Holding basis print sizes start seed n c.loop-n.store.store old = i.holds t basis start kept in
          let one : State = state_at print sizes start seed h.k in
          let s : State = state_at print sizes start seed n in
          let call : Elapses (g.R.Rig.clock c.loop-n.rig) (g.R.Rig.clock c.run_one.new.rig) (WithinCall (StandsBy basis print) one s old) =
          subst (λ (p : List ℕ → Fp). Elapses (g.R.Rig.clock c.loop-n.rig) (g.R.Rig.clock c.run_one.new.rig) (WithinCall (StandsBy basis p) one s old)) printed
          (c.run_one.ensures.crash t basis one s (subst (λ (p : List ℕ → Fp). Kept basis p c.loop-n.store.store old one s) (sym printed) h.kept)) in
          let few : n ≤ c.args.count = omega (arith, c.loop-n-test.true) in
          goes_on (i.crash t basis start kept) call (λ o w. (within_either basis print sizes start seed n c.args.count few c.loop-n.store.store old h o.flash o.disk w.0, w.1 ∙ i.said t));
      holds = λ t basis start kept.
          let h : Holding basis print sizes start seed n c.loop-n.store.store old = i.holds t basis start kept in
          let one : State = state_at print sizes start seed h.k in
          let s : State = state_at print sizes start seed n in
          holding_next basis print sizes start seed n c.loop-n.store.store c.run_one.new.store.store old new h (drawn sizes x).command (ap (λ y. (drawn sizes y).command) i.state)
          (subst (λ (geo : Geometry). GoesOn basis print one s c.run_one.new.store.store new (after (sizes_of geo) s (drawn (sizes_of geo) x).command)) i.same.1
          (subst (λ (p : List ℕ → Fp). GoesOn basis p one s c.run_one.new.store.store new (after (sizes_of c.loop-n.store.store.journal.geo) s (drawn (sizes_of c.loop-n.store.store.journal.geo) x).command)) printed
          (c.in-Ok.ensures.goes t basis one s (subst (λ (p : List ℕ → Fp). Kept basis p c.loop-n.store.store old one s) (sym printed) h.kept))));
      sums = λ t basis start kept.
          let h : Holding basis print sizes start seed n c.loop-n.store.store old = i.holds t basis start kept in
          let one : State = state_at print sizes start seed h.k in
          let s : State = state_at print sizes start seed n in
          sums_more basis print sizes start seed n x c.loop-n.sums c.in-Ok.counted i.state (i.sums t basis start kept)
          (subst (λ (geo : Geometry). c.in-Ok.counted ≡ counted_by (sizes_of geo) s (drawn (sizes_of geo) x).command c.loop-n.sums) i.same.1
          (c.in-Ok.ensures.counts t basis one s (subst (λ (p : List ℕ → Fp). Kept basis p c.loop-n.store.store old one s) (sym printed) h.kept)));
      state = drawn_next sizes seed n x c.run_one.new.commands.numbers.x i.state (subst (λ (geo : Geometry). c.run_one.new.commands.numbers.x ≡ (drawn (sizes_of geo) x).state) i.same.1 c.run_one.ensures.state);
      small = c.in-Ok.ensures.below (n + 1) i.small;
      said = λ t. c.run_one.ensures.said t ∙ i.said t;
      ready = λ m few. c.in-Ok.ensures.ready m (i.ready (m + 1) (omega (arith, few)));
      same = (c.run_one.ensures.same.0 ∙ i.same.0, c.run_one.ensures.same.1 ∙ i.same.1);
      block = c.run_one.ensures.block ∙ i.block;
      frame = frame_trans (g.R.Rig.counts c.args.rig.now) (g.R.Rig.counts c.loop-n.rig) (g.R.Rig.counts c.run_one.new.rig) (g.R.Rig.device_size c.args.rig.now) (g.R.Rig.device_size c.loop-n.rig) (g.R.Rig.device_size c.run_one.new.rig)
          i.frame c.run_one.ensures.frame;
    }

pub returns-clause-holds : goal.returns-clause-holds
returns-clause-holds g c = λ t basis start kept.
    let all : c.loop-n._n ≡ c.args.count = omega (arith, c.loop-n-test.false, c.loop-n.auto._n-end) in
    subst (λ n. Holding basis (g.F.Fingerprint.printed c.args.store.now.print) (sizes_of c.args.store.now.store.journal.geo) start c.args.seed n c.loop-n.store.store (g.R.Rig.world c.loop-n.rig)) all (c.loop-n.invariant.holds t basis start kept)

pub returns-clause-sums : goal.returns-clause-sums
returns-clause-sums g c = λ t basis start kept.
    let all : c.loop-n._n ≡ c.args.count = omega (arith, c.loop-n-test.false, c.loop-n.auto._n-end) in
    subst (λ n. c.loop-n.sums ≡ sums_at (g.F.Fingerprint.printed c.args.store.now.print) (sizes_of c.args.store.now.store.journal.geo) start c.args.seed n) all (c.loop-n.invariant.sums t basis start kept)
