use Rattle.std.proofs.Common.{◌≡◌, ◌≢◌, ℕ, List, subst, sym, ◌∙◌, ap}
use Rattle.dd_block.specs.declared.print.Fp.{Fp}
use Rattle.dd_rig.proofs.Falling.{falls_self}
use Rattle.dd_rig.proofs.Moments.{goes_on}
use Rattle.dd_model.specs.State.{Sizes}
use Rattle.dd_store.specs.Meaning.{sizes_of}
use Rattle.dd_loop.specs.Saying.{IsIdle}
use Rattle.dd_loop.proofs.Lastly.{ending_since, first_by}
use Rattle.dd_gen.proofs.Ended.{caused_amid, last_within, last_behind, last_tells, memory_ending, never_refused, opened_ending}
use Rattle.dd_gen.proofs.opening.end_store.Goals as goal

pub returns-clause-crash : goal.returns-clause-crash
returns-clause-crash g c = λ t basis start kept.
    let print : List ℕ → Fp = g.F.Fingerprint.printed c.args.store.print in
    let sizes : Sizes = sizes_of c.args.store.store.journal.geo in
    goes_on (c.run_store-ending.ensures.crash t basis start kept) (c.finish.ensures.within t)
    (λ o h. last_within basis print sizes start c.args.seed c.args.count (g.R.Rig.world c.args.rig.now).said c.run_store-ending.result (g.R.Rig.world c.run_store-ending.new.rig) (c.run_store-ending.ensures.ends t basis start kept) o h)

pub returns-clause-left : goal.returns-clause-left
returns-clause-left g c = λ t basis start kept o may.
    let print : List ℕ → Fp = g.F.Fingerprint.printed c.args.store.print in
    let sizes : Sizes = sizes_of c.args.store.store.journal.geo in
    let same = c.finish.ensures.devices t in
    last_behind basis print sizes start c.args.seed c.args.count (g.R.Rig.world c.args.rig.now).said c.run_store-ending.result (g.R.Rig.world c.run_store-ending.new.rig) (g.R.Rig.world c.finish.new.rig)
    (g.R.Rig.counts c.run_store-ending.new.rig) (g.R.Rig.counts c.finish.new.rig) (c.run_store-ending.ensures.ends t basis start kept) (c.finish.ensures.said t) same.0 same.1 o may

pub returns-clause-tells : goal.returns-clause-tells
returns-clause-tells g c = λ t basis start kept.
    let print : List ℕ → Fp = g.F.Fingerprint.printed c.args.store.print in
    let sizes : Sizes = sizes_of c.args.store.store.journal.geo in
    record {
      ending = c.run_store-ending.result;
      status_is = c.finish.ensures.status;
      tells = last_tells basis print sizes start c.args.seed c.args.count c.run_store-ending.result (g.R.Rig.world c.args.rig.now) (g.R.Rig.world c.run_store-ending.new.rig) (g.R.Rig.world c.finish.new.rig)
          (g.R.Rig.counts c.args.rig.now) (g.R.Rig.counts c.run_store-ending.new.rig) (g.R.Rig.counts c.finish.new.rig) c.run_store-ending.ensures.frame.0 (c.run_store-ending.ensures.ends t basis start kept) (c.finish.ensures.said t);
    }

pub returns-clause-caused : goal.returns-clause-caused
returns-clause-caused g c = (
  c.run_store-ending.result,
  c.finish.ensures.status,
  caused_amid ⊥ ⊥ (λ never. never) c.run_store-ending.result (g.R.Rig.counts c.args.rig.now) (g.R.Rig.counts c.args.rig.now) (g.R.Rig.counts c.run_store-ending.new.rig) (g.R.Rig.counts c.finish.new.rig)
      (falls_self (g.R.Rig.counts c.args.rig.now)) c.finish.ensures.frame.0 c.run_store-ending.ensures.caused,
  λ t.
      ending_since c.run_store-ending.result (g.R.Rig.counts c.args.rig.now) (g.R.Rig.counts c.run_store-ending.new.rig) (g.R.Rig.counts c.finish.new.rig) (g.R.Rig.world c.args.rig.now) (g.R.Rig.world c.run_store-ending.new.rig)
      (g.R.Rig.world c.finish.new.rig) c.run_store-ending.ensures.frame.0 (c.run_store-ending.ensures.more t)
      (first_by c.run_store-ending.result ((g.R.Rig.world c.run_store-ending.new.rig).said ≡ (g.R.Rig.world c.args.rig.now).said)
      (λ why is. absurd (never_refused why c.run_store-ending.result (g.R.Rig.counts c.args.rig.now) (g.R.Rig.counts c.run_store-ending.new.rig) is c.run_store-ending.ensures.caused))
      (λ is. ap (λ rig. (g.R.Rig.world rig).said) (c.run_store-ending.ensures.memory is))) (c.finish.ensures.said t),
)

pub returns-clause-opened : goal.returns-clause-opened
returns-clause-opened g c =
    subst (λ (status : ℕ). (status ≢ 2) × (status ≢ 3)) (sym c.finish.ensures.status) (opened_ending c.run_store-ending.result (g.R.Rig.counts c.args.rig.now) (g.R.Rig.counts c.run_store-ending.new.rig) c.run_store-ending.ensures.caused)

pub returns-clause-early : goal.returns-clause-early
returns-clause-early g c = λ four.
    let same = c.run_store-ending.ensures.memory (memory_ending c.run_store-ending.result (g.R.Rig.counts c.args.rig.now) (g.R.Rig.counts c.run_store-ending.new.rig) c.run_store-ending.ensures.caused (sym c.finish.ensures.status ∙ four)) in
    subst (λ rig. IsIdle (g.R.Rig.counts rig) (g.R.Rig.counts c.finish.new.rig)) same c.finish.ensures.idle
