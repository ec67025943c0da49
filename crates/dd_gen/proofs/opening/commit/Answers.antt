use Rattle.std.proofs.Common.{◌≡◌, inl, inr, ℕ, List, sym, ◌∙◌, ap, subst}
use Rattle.dd_block.specs.declared.print.Fp.{Fp}
use Rattle.dd_rig.specs.Device.{Device, IsImage}
use Rattle.dd_rig.specs.World.{World}
use Rattle.dd_rig.proofs.Moments.{goes_on, widens}
use Rattle.dd_loop.specs.declared.ending.Ending.TheVariants.{Stopped}
use Rattle.dd_answers.proofs.Replying.{within_call}
use Rattle.dd_gen.specs.Large.{both_lines, Caused, SaysEnd, SaysFront}
use Rattle.dd_gen.proofs.Ran.{failed_either}
use Rattle.dd_gen.proofs.Ended.{commit_ended, stopped_cause, stopped_memory}
use Rattle.dd_gen.proofs.opening.commit.Goals as goal

pub returns-in-Err-clause-crash : goal.returns-in-Err-clause-crash
returns-in-Err-clause-crash g c = λ t basis one s kept.
    let print : List ℕ → Fp = g.F.Fingerprint.printed c.args.store.print in
    widens (within_call basis print one s (g.R.Rig.world c.args.rig.now) (c.flush.ensures.serves t basis one s kept).crash (c.flush.ensures.silent t).0) (λ o h. inl h)

pub returns-clause-crash : goal.returns-clause-crash
returns-clause-crash g c = λ t basis one s kept.
    let print : List ℕ → Fp = g.F.Fingerprint.printed c.args.store.print in
    let now = c.in-Ok.ensures.committed t basis one s kept in
    let counted : c.in-Ok.count ≡ s.count = c.in-Ok.ensures.count.0 ∙ sym kept.holds.means.lists.counted in
    goes_on (widens (within_call basis print one s (g.R.Rig.world c.args.rig.now) (c.flush.ensures.serves t basis one s kept).crash (c.flush.ensures.silent t).0) (λ o h. inl h)) (c.say_end.ensures.crash t)
    (λ o h. inr (
      now.stands o.flash o.disk h.0.0 h.0.1,
      subst (λ (said : List ℕ). SaysFront (both_lines c.args.sums s.count) said o.out) (c.flush.ensures.silent t).1
          (subst (λ (n : ℕ). SaysFront (both_lines c.args.sums n) (g.R.Rig.world c.flush.new.rig).said o.out) counted h.1),
    ))

pub returns-in-Err-clause-ends : goal.returns-in-Err-clause-ends
returns-in-Err-clause-ends g c = λ t basis one s kept.
    (failed_either basis ℕ (g.F.Fingerprint.printed c.args.store.print) c.in-Err.fault one s s c.flush.new.self.store (g.R.Rig.world c.flush.new.rig) (c.in-Err.ensures.serves t basis one s kept).leaves, (c.flush.ensures.silent t).1)

pub returns-clause-ends : goal.returns-clause-ends
returns-clause-ends g c = λ t basis one s kept.
    let print : List ℕ → Fp = g.F.Fingerprint.printed c.args.store.print in
    let now = c.in-Ok.ensures.committed t basis one s kept in
    let new : World = g.R.Rig.world c.say_end.new.rig in
    let same = c.say_end.ensures.devices t in
    let counted : c.in-Ok.count ≡ s.count = c.in-Ok.ensures.count.0 ∙ sym kept.holds.means.lists.counted in
    commit_ended basis print one s c.args.sums c.say_end.result (g.R.Rig.world c.args.rig.now).said new
    (subst (λ (said : List ℕ). SaysEnd c.say_end.result (both_lines c.args.sums s.count) said new.said) (c.flush.ensures.silent t).1
    (subst (λ (n : ℕ). SaysEnd c.say_end.result (both_lines c.args.sums n) (g.R.Rig.world c.flush.new.rig).said new.said) counted (c.say_end.ensures.said t)))
    (λ flash disk f d. now.stands flash disk (subst (λ (x : Device). IsImage x flash) same.0 f) (subst (λ (x : Device). IsImage x disk) same.1 d))

pub returns-in-Err-clause-caused : goal.returns-in-Err-clause-caused
returns-in-Err-clause-caused g c =
    subst (λ why. Caused ⊥ (Stopped why) (g.R.Rig.counts c.args.rig.now) (g.R.Rig.counts c.flush.new.rig)) (sym c.stopped_by.ensures) (stopped_cause c.in-Err.fault (g.R.Rig.counts c.args.rig.now) (g.R.Rig.counts c.flush.new.rig) c.in-Err.ensures.fails.0)

pub returns-in-Err-clause-memory : goal.returns-in-Err-clause-memory
returns-in-Err-clause-memory g c = λ e. stopped_memory c.in-Err.fault (ap Stopped (sym c.stopped_by.ensures) ∙ e)
