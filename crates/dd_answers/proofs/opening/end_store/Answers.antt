use Rattle.std.proofs.Common.{◌≡◌, ◌≢◌, ◌⊎◌, ℕ, ◌≤◌, List, subst, sym, ◌∙◌, ap}
use Rattle.dd_block.specs.declared.print.Fp.{Fp}
use Rattle.dd_rig.proofs.Moments.{goes_on, widens}
use Rattle.dd_model.specs.State.{Sizes}
use Rattle.dd_script.specs.Command.{Command}
use Rattle.dd_script.specs.Output.{dialect_of}
use Rattle.dd_script.specs.Script.{commands_of}
use Rattle.dd_store.specs.Meaning.{sizes_of}
use Rattle.dd_loop.specs.Saying.{IsIdle}
use Rattle.dd_answers.specs.Serving.{IsBounded, IsServed}
use Rattle.dd_loop.proofs.Lastly.{ending_since, first_by}
use Rattle.dd_answers.proofs.Ended.{caused_later, memory_status, never_refused, opened_status, quiet_ending, served_status}
use Rattle.dd_answers.proofs.Lasting.{headline_from, headline_last, headline_behind, serves_last}
use Rattle.dd_answers.proofs.opening.end_store.Goals as goal

pub returns-clause-crash : goal.returns-clause-crash
returns-clause-crash g c = λ t u start kept.
    let print : List ℕ → Fp = g.F.Fingerprint.printed c.args.store.print in
    let sizes : Sizes = sizes_of c.args.store.store.journal.geo in
    let commands : List Command = commands_of (dialect_of sizes) (g.S.Source.rest c.args.source.now) in
    let said : List ℕ = (g.R.Rig.world c.args.rig.now).said in
    goes_on (widens (c.serve_store-ending.ensures.crash t u start kept) (λ o h. headline_from print (g.R.Rig.world c.args.rig.now) kept.0 kept.1 sizes start commands said o h)) (c.finish.ensures.within t)
    (λ o h. headline_last print (g.R.Rig.world c.args.rig.now) kept.0 kept.1 sizes start commands said c.serve_store-ending.result (g.R.Rig.world c.serve_store-ending.new.rig) (g.R.Rig.counts c.args.rig.now) (g.R.Rig.counts c.serve_store-ending.new.rig)
    (c.serve_store-ending.ensures.ends t u start kept) o h)

pub returns-clause-left : goal.returns-clause-left
returns-clause-left g c = λ t u start kept o may.
    let print : List ℕ → Fp = g.F.Fingerprint.printed c.args.store.print in
    let sizes : Sizes = sizes_of c.args.store.store.journal.geo in
    let commands : List Command = commands_of (dialect_of sizes) (g.S.Source.rest c.args.source.now) in
    let same = c.finish.ensures.devices t in
    headline_behind print (g.R.Rig.world c.args.rig.now) kept.0 kept.1 sizes start commands (g.R.Rig.world c.args.rig.now).said c.serve_store-ending.result (g.R.Rig.world c.serve_store-ending.new.rig) (g.R.Rig.world c.finish.new.rig)
    (g.R.Rig.counts c.args.rig.now) (g.R.Rig.counts c.serve_store-ending.new.rig) (g.R.Rig.counts c.finish.new.rig)
    (c.serve_store-ending.ensures.ends t u start kept) (c.finish.ensures.said t) same.0 same.1 o may

pub returns-clause-serves : goal.returns-clause-serves
returns-clause-serves g c = λ t u start kept.
    let print : List ℕ → Fp = g.F.Fingerprint.printed c.args.store.print in
    let sizes : Sizes = sizes_of c.args.store.store.journal.geo in
    let script : List ℕ = g.S.Source.rest c.args.source.now in
    serves_last print sizes start script 0 (g.R.Rig.world c.args.rig.now) c.serve_store-ending.result c.finish.result (g.R.Rig.world c.args.rig.now) (g.R.Rig.world c.serve_store-ending.new.rig) (g.R.Rig.world c.finish.new.rig)
    (g.R.Rig.counts c.args.rig.now) (g.R.Rig.counts c.serve_store-ending.new.rig) (g.R.Rig.counts c.finish.new.rig) (g.S.Source.tells → IsBounded sizes script → ⊥) (g.S.Source.failures c.args.source.now) (g.S.Source.failures c.serve_store-ending.new.source)
    c.serve_store-ending.ensures.frame.0 c.finish.ensures.frame.0 ((c.finish.ensures.devices t).1, c.finish.ensures.idle) (c.serve_store-ending.ensures.ends t u start kept) (c.finish.ensures.said t) c.finish.ensures.status
    (λ long. long u) (λ faulted is. (c.serve_store-ending.ensures.taken u (subst IsServed (sym is) tt)).1) c.serve_store-ending.ensures.caused

pub returns-clause-quiet : goal.returns-clause-quiet
returns-clause-quiet g c = λ t u start kept quiet still bounded.
    let print : List ℕ → Fp = g.F.Fingerprint.printed c.args.store.print in
    let sizes : Sizes = sizes_of c.args.store.store.journal.geo in
    let script : List ℕ = g.S.Source.rest c.args.source.now in
    subst (λ (status : ℕ). status ≡ 0 ⊎ status ≡ 4) (sym c.finish.ensures.status)
    (quiet_ending print (g.R.Rig.world c.args.rig.now) sizes start (commands_of (dialect_of sizes) script) (g.S.Source.tells → IsBounded sizes script → ⊥) c.serve_store-ending.result (g.R.Rig.world c.args.rig.now).said (g.R.Rig.world c.serve_store-ending.new.rig)
    (g.R.Rig.counts c.args.rig.now) (g.R.Rig.counts c.serve_store-ending.new.rig) (g.R.Rig.counts c.finish.new.rig) (g.S.Source.failures c.args.source.now) (g.S.Source.failures c.serve_store-ending.new.source)
    (c.serve_store-ending.ensures.ends t u start kept) c.serve_store-ending.ensures.caused c.finish.ensures.frame.0 quiet still (λ long. long u bounded))

pub returns-clause-caused : goal.returns-clause-caused
returns-clause-caused g c =
    let long : Type 0 = g.S.Source.tells → IsBounded (sizes_of c.args.store.store.journal.geo) (g.S.Source.rest c.args.source.now) → ⊥ in (
      c.serve_store-ending.result,
      c.finish.ensures.status,
      caused_later ⊥ long ⊥ long (λ never. absurd never) (λ h. h) c.serve_store-ending.result (g.R.Rig.counts c.args.rig.now) (g.R.Rig.counts c.serve_store-ending.new.rig)
          (g.R.Rig.counts c.finish.new.rig) (g.S.Source.failures c.args.source.now) (g.S.Source.failures c.serve_store-ending.new.source) c.finish.ensures.frame.0 c.serve_store-ending.ensures.caused,
      λ t.
          ending_since c.serve_store-ending.result (g.R.Rig.counts c.args.rig.now) (g.R.Rig.counts c.serve_store-ending.new.rig) (g.R.Rig.counts c.finish.new.rig) (g.R.Rig.world c.args.rig.now) (g.R.Rig.world c.serve_store-ending.new.rig)
          (g.R.Rig.world c.finish.new.rig) c.serve_store-ending.ensures.frame.0 (c.serve_store-ending.ensures.more t)
          (first_by c.serve_store-ending.result ((g.R.Rig.world c.serve_store-ending.new.rig).said ≡ (g.R.Rig.world c.args.rig.now).said)
          (λ why is. absurd (never_refused long why c.serve_store-ending.result (g.R.Rig.counts c.args.rig.now) (g.R.Rig.counts c.serve_store-ending.new.rig) (g.S.Source.failures c.args.source.now)
          (g.S.Source.failures c.serve_store-ending.new.source) is c.serve_store-ending.ensures.caused))
          (λ is. ap (λ rig. (g.R.Rig.world rig).said) (c.serve_store-ending.ensures.untaken is).1)) (c.finish.ensures.said t),
    )

pub returns-clause-taken : goal.returns-clause-taken
returns-clause-taken g c = λ u few.
    (c.serve_store-ending.ensures.taken u (served_status c.serve_store-ending.result (subst (λ (status : ℕ). status ≤ 1) c.finish.ensures.status few))).0

pub returns-clause-untaken : goal.returns-clause-untaken
returns-clause-untaken g c = λ four.
    let long : Type 0 = g.S.Source.tells → IsBounded (sizes_of c.args.store.store.journal.geo) (g.S.Source.rest c.args.source.now) → ⊥ in
    let same = c.serve_store-ending.ensures.untaken (memory_status long c.serve_store-ending.result (g.R.Rig.counts c.args.rig.now) (g.R.Rig.counts c.serve_store-ending.new.rig) (g.S.Source.failures c.args.source.now)
    (g.S.Source.failures c.serve_store-ending.new.source) c.serve_store-ending.ensures.caused (sym c.finish.ensures.status ∙ four)) in
    (same.0, subst (λ r. IsIdle (g.R.Rig.counts r) (g.R.Rig.counts c.finish.new.rig)) same.1 c.finish.ensures.idle)

pub returns-clause-opened : goal.returns-clause-opened
returns-clause-opened g c =
    let long : Type 0 = g.S.Source.tells → IsBounded (sizes_of c.args.store.store.journal.geo) (g.S.Source.rest c.args.source.now) → ⊥ in
    subst (λ (status : ℕ). (status ≢ 2) × (status ≢ 3)) (sym c.finish.ensures.status)
    (opened_status long c.serve_store-ending.result (g.R.Rig.counts c.args.rig.now) (g.R.Rig.counts c.serve_store-ending.new.rig) (g.S.Source.failures c.args.source.now) (g.S.Source.failures c.serve_store-ending.new.source)
    c.serve_store-ending.ensures.caused)
