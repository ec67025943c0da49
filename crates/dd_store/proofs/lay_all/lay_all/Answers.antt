use Rattle.std.proofs.Common.{◌≡◌, ℕ, suc, ◌+◌, ◌<◌, List, length, take, refl, ◌∙◌, ap, subst, arith}
use Rattle.dd_rig.proofs.Moments.{starts, goes_on}
use Rattle.dd_rig.proofs.Falling.{frame_self, frame_trans}
use Rattle.dd_store.specs.Keeping.{Holds, Kept}
use Rattle.dd_store.specs.Laying.{all_laid}
use Rattle.dd_store.proofs.LayingAll.{laid_first_is, may_next, laid_none, laid_more, laid_lost, holds_lost, taken_next, whole}
use Rattle.dd_store.proofs.lay_all.lay_all.Goals as goal

pub returns-in-Err-clause-crash : goal.returns-in-Err-clause-crash
returns-in-Err-clause-crash g c = λ told basis print store s geo same is may kept.
    let i = c.loop-address.address-index in
    let all = c.args.addresses.now in
    let inv = c.loop-address.invariant in
    let lt : i < length all = omega arith in
    let now = all_laid (take i all) store in
    goes_on (inv.crash told basis print store s geo same is may kept)
    (c.lay_address.ensures.crash told basis print now s geo same (laid_first_is store all is may i) (may_next store all is may i lt) (inv.laid told basis print store s geo same is may kept)) (λ o stands. stands)

pub returns-in-Err-clause-kept : goal.returns-in-Err-clause-kept
returns-in-Err-clause-kept g c = λ told basis print store s geo same is may kept.
    let i = c.loop-address.address-index in
    let all = c.args.addresses.now in
    let inv = c.loop-address.invariant in
    let lt : i < length all = omega arith in
    let now = all_laid (take i all) store in
    laid_lost store all is may basis print (g.R.Rig.world c.lay_address.new.rig) s (take i all)
    (c.lay_address.ensures.kept told basis print now s geo same (laid_first_is store all is may i) (may_next store all is may i lt) (inv.laid told basis print store s geo same is may kept))

pub loop-address-init : goal.loop-address-init
loop-address-init g c =
    let all = c.args.addresses.now in
    let world = g.R.Rig.world c.args.rig.now in
    record {
      crash = λ told basis print store s geo same is may kept. starts _ _;
      laid = λ told basis print store s geo same is may kept. laid_none store all is may basis print world s kept;
      holds = λ told print store s geo same is may held. subst (λ (ns : List ℕ). Holds print (all_laid ns store) world s) may.unlaid held;
      unsaid = λ told. starts _ _;
      said = λ told. refl;
      flash = λ told. refl;
      reads = omega arith;
      writes = omega arith;
      frame = frame_self _ _;
    }

pub loop-address-preserved : goal.loop-address-preserved
loop-address-preserved g c =
    let i = c.loop-address.address-index in
    let all = c.args.addresses.now in
    let inv = c.loop-address.invariant in
    let lt : i < length all = omega arith in
    let next : suc i ≡ i + 1 = omega arith in
    record {
      crash = λ told basis print store s geo same is may kept.
          goes_on (inv.crash told basis print store s geo same is may kept)
          (c.lay_address.ensures.crash told basis print (all_laid (take i all) store) s geo same (laid_first_is store all is may i) (may_next store all is may i lt) (inv.laid told basis print store s geo same is may kept)) (λ o stands. stands);
      laid = λ told basis print store s geo same is may kept.
          subst (λ (n : ℕ). Kept basis print (all_laid (take n all) store) (g.R.Rig.world c.lay_address.new.rig) s s) next
          (laid_more store all is may basis print (g.R.Rig.world c.lay_address.new.rig) s i lt
          (c.in-Ok.ensures.laid told basis print (all_laid (take i all) store) s geo same (laid_first_is store all is may i) (may_next store all is may i lt) (inv.laid told basis print store s geo same is may kept)));
      holds = λ told print store s geo same is may held.
          subst (λ (ns : List ℕ). Holds print (all_laid ns store) (g.R.Rig.world c.lay_address.new.rig) s) (taken_next all i lt ∙ ap (λ n. take n all) next)
          (c.in-Ok.ensures.holds_laid told print (all_laid (take i all) store) s geo same (laid_first_is store all is may i) (may_next store all is may i lt) (inv.holds told print store s geo same is may held));
      unsaid = λ told. goes_on (inv.unsaid told) (c.lay_address.ensures.unsaid told) (λ o out. out ∙ inv.said told);
      said = λ told. c.lay_address.ensures.said told ∙ inv.said told;
      flash = λ told. c.lay_address.ensures.flash told ∙ inv.flash told;
      reads = omega (arith, inv.reads, c.lay_address.ensures.calls.1.0);
      writes = omega (arith, inv.writes, c.lay_address.ensures.calls.1.1);
      frame = frame_trans _ _ _ _ _ _ inv.frame c.lay_address.ensures.frame;
    }

pub returns-clause-kept : goal.returns-clause-kept
returns-clause-kept g c = λ told basis print store s geo same is may kept.
    let all = c.args.addresses.now in
    laid_lost store all is may basis print (g.R.Rig.world c.loop-address.rig) s _ (c.loop-address.invariant.laid told basis print store s geo same is may kept)

pub returns-clause-laid : goal.returns-clause-laid
returns-clause-laid g c = λ told basis print store s geo same is may kept.
    let all = c.args.addresses.now in
    let end : c.loop-address.address-index ≡ length all = omega arith in
    subst (λ (ns : List ℕ). Kept basis print (all_laid ns store) (g.R.Rig.world c.loop-address.rig) s s) (whole all c.loop-address.address-index end) (c.loop-address.invariant.laid told basis print store s geo same is may kept)

pub returns-in-Err-clause-holds : goal.returns-in-Err-clause-holds
returns-in-Err-clause-holds g c = λ told print store s geo same is may held.
    let i = c.loop-address.address-index in
    let all = c.args.addresses.now in
    let lt : i < length all = omega arith in
    holds_lost store all may print (g.R.Rig.world c.lay_address.new.rig) s (take i all)
    (c.lay_address.ensures.holds told print (all_laid (take i all) store) s geo same (laid_first_is store all is may i) (may_next store all is may i lt) (c.loop-address.invariant.holds told print store s geo same is may held))

pub returns-clause-holds : goal.returns-clause-holds
returns-clause-holds g c = λ told print store s geo same is may held.
    holds_lost store c.args.addresses.now may print (g.R.Rig.world c.loop-address.rig) s _ (c.loop-address.invariant.holds told print store s geo same is may held)

pub returns-clause-holds_laid : goal.returns-clause-holds_laid
returns-clause-holds_laid g c = λ told print store s geo same is may held.
    let all = c.args.addresses.now in
    let end : c.loop-address.address-index ≡ length all = omega arith in
    subst (λ (ns : List ℕ). Holds print (all_laid ns store) (g.R.Rig.world c.loop-address.rig) s) (whole all c.loop-address.address-index end) (c.loop-address.invariant.holds told print store s geo same is may held)
