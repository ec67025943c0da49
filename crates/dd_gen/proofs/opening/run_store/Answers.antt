use Rattle.std.proofs.Common.{◌≡◌, ℕ, ◌<◌, ◌^◌, List, refl, sym, ap, subst, arith}
use Rattle.dd_block.specs.declared.print.Fp.{Fp}
use Rattle.dd_rig.specs.Clock.{Elapses}
use Rattle.dd_rig.specs.World.{World}
use Rattle.dd_rig.proofs.Moments.{goes_on, widens}
use Rattle.dd_model.specs.State.{Sizes, State}
use Rattle.dd_store.specs.Keeping.{Kept}
use Rattle.dd_store.specs.Meaning.{sizes_of}
use Rattle.dd_gen.specs.Large.{CommitEnds, WithinCommit}
use Rattle.dd_gen.specs.Running.{state_at, Holding}
use Rattle.dd_gen.proofs.Ended.{leaves_behind, leaves_unsaid, leaves_within}
use Rattle.dd_gen.proofs.opening.run_store.Goals as goal

pub returns-in_default-clause-ends : goal.returns-in_default-clause-ends
returns-in_default-clause-ends g c = λ t basis start kept. (refl, λ flash disk f d. record { k = 0; few = omega arith; stands = kept.stands flash disk f d })

pub returns-in-Err-clause-crash : goal.returns-in-Err-clause-crash
returns-in-Err-clause-crash g c = λ t basis start kept.
    widens (c.run_commands.ensures.crash t basis start kept)
    (λ o h. leaves_unsaid basis (g.F.Fingerprint.printed c.args.store.print) (sizes_of c.args.store.store.journal.geo) start c.args.seed c.args.count (g.R.Rig.world c.args.rig.now).said o h.0 h.1)

pub returns-in-Ok-run_commands-clause-crash : goal.returns-in-Ok-run_commands-clause-crash
returns-in-Ok-run_commands-clause-crash g c = λ t basis start kept.
    let print : List ℕ → Fp = g.F.Fingerprint.printed c.args.store.print in
    let sizes : Sizes = sizes_of c.args.store.store.journal.geo in
    let said : List ℕ = (g.R.Rig.world c.args.rig.now).said in
    let middle : World = g.R.Rig.world c.run_commands.new.rig in
    let store = c.run_commands.new.store in
    let printed : g.F.Fingerprint.printed store.print ≡ print = ap g.F.Fingerprint.printed c.run_commands.ensures.same.0 in
    let h : Holding basis print sizes start c.args.seed c.args.count store.store middle = c.in-Ok-run_commands.ensures.holds t basis start kept in
    let one : State = state_at print sizes start c.args.seed h.k in
    let all : State = state_at print sizes start c.args.seed c.args.count in
    let fits : all.count < 2 ^ 64 = omega (arith, c.in-Ok-run_commands.ensures.ready.count, h.kept.holds.means.lists.counted) in
    let call : Elapses (g.R.Rig.clock c.run_commands.new.rig) (g.R.Rig.clock c.commit.new.rig) (WithinCommit basis print one all c.in-Ok-run_commands.sums said) =
    subst (λ (l : List ℕ). Elapses (g.R.Rig.clock c.run_commands.new.rig) (g.R.Rig.clock c.commit.new.rig) (WithinCommit basis print one all c.in-Ok-run_commands.sums l)) (c.run_commands.ensures.said t)
    (subst (λ (p : List ℕ → Fp). Elapses (g.R.Rig.clock c.run_commands.new.rig) (g.R.Rig.clock c.commit.new.rig) (WithinCommit basis p one all c.in-Ok-run_commands.sums middle.said)) printed
    (c.commit.ensures.crash t basis one all (subst (λ (p : List ℕ → Fp). Kept basis p store.store middle one all) (sym printed) h.kept))) in
    goes_on (widens (c.run_commands.ensures.crash t basis start kept) (λ o w. leaves_unsaid basis print sizes start c.args.seed c.args.count said o w.0 w.1)) call
    (λ o w. leaves_within basis print sizes start c.args.seed c.args.count said c.in-Ok-run_commands.sums (c.in-Ok-run_commands.ensures.sums t basis start kept) store.store middle h fits o w)

pub returns-in-Ok-run_commands-clause-ends : goal.returns-in-Ok-run_commands-clause-ends
returns-in-Ok-run_commands-clause-ends g c = λ t basis start kept.
    let print : List ℕ → Fp = g.F.Fingerprint.printed c.args.store.print in
    let sizes : Sizes = sizes_of c.args.store.store.journal.geo in
    let said : List ℕ = (g.R.Rig.world c.args.rig.now).said in
    let middle : World = g.R.Rig.world c.run_commands.new.rig in
    let new : World = g.R.Rig.world c.commit.new.rig in
    let store = c.run_commands.new.store in
    let printed : g.F.Fingerprint.printed store.print ≡ print = ap g.F.Fingerprint.printed c.run_commands.ensures.same.0 in
    let h : Holding basis print sizes start c.args.seed c.args.count store.store middle = c.in-Ok-run_commands.ensures.holds t basis start kept in
    let one : State = state_at print sizes start c.args.seed h.k in
    let all : State = state_at print sizes start c.args.seed c.args.count in
    let fits : all.count < 2 ^ 64 = omega (arith, c.in-Ok-run_commands.ensures.ready.count, h.kept.holds.means.lists.counted) in
    let ends : CommitEnds basis print one all c.in-Ok-run_commands.sums c.commit.result said new =
    subst (λ (l : List ℕ). CommitEnds basis print one all c.in-Ok-run_commands.sums c.commit.result l new) (c.run_commands.ensures.said t)
    (subst (λ (p : List ℕ → Fp). CommitEnds basis p one all c.in-Ok-run_commands.sums c.commit.result middle.said new) printed
    (c.commit.ensures.ends t basis one all (subst (λ (p : List ℕ → Fp). Kept basis p store.store middle one all) (sym printed) h.kept))) in
    leaves_behind basis print sizes start c.args.seed c.args.count said c.in-Ok-run_commands.sums (c.in-Ok-run_commands.ensures.sums t basis start kept) store.store middle h fits c.commit.result new ends
