use Rattle.std.proofs.Common.{◌≡◌, ◌≢◌, inl, inr, ℕ, List, refl, sym, ◌∙◌, ap, subst}
use Rattle.dd_block.specs.declared.print.Fp.{Fp}
use Rattle.dd_block.specs.declared.geometry.Geometry.{Geometry}
use Rattle.dd_rig.specs.Clock.{Elapses}
use Rattle.dd_rig.specs.Counts.{up_to}
use Rattle.dd_rig.specs.World.{World}
use Rattle.dd_rig.proofs.Moments.{goes_on, widens}
use Rattle.dd_model.specs.State.{Sizes}
use Rattle.dd_script.specs.Output.{dialect_of}
use Rattle.dd_script.specs.Reading.{IsTakenTo}
use Rattle.dd_script.specs.Script.{commands_of}
use Rattle.dd_store.specs.Keeping.{Kept}
use Rattle.dd_store.specs.Meaning.{sizes_of}
use Rattle.dd_loop.specs.declared.ending.Ending.{Ending}
use Rattle.dd_loop.specs.Ending.{ending_line, status_of, SaysLast, WithinLast}
use Rattle.dd_answers.specs.Headline.{Headline}
use Rattle.dd_recover.specs.Beginning.{basis_from}
use Rattle.dd_answers.proofs.Pacing.{based, basis_stays}
use Rattle.dd_rig.specs.declared.device.Dev.TheVariants.{Flash, Disk}
use Rattle.dd_answers.specs.Opening.{ending_of}
use Rattle.dd_answers.specs.Serving.{IsBounded, Serves}
use Rattle.dd_loop.proofs.Lastly.{ending_since, ending_later}
use Rattle.dd_loop.proofs.More.{more_same}
use Rattle.dd_answers.proofs.Ended.{opened_calls, Stops, stops, quiet_fault, refuses_first, unopened_within, unopened_behind, serves_unopened, by_three, caused_later, caused_since, fault_asked, opening_cause, quiet_behind, refuses_so, is_unserved, serves_since}
use Rattle.dd_answers.proofs.opening.serve.Goals as goal

pub returns-in-Err-clause-crash : goal.returns-in-Err-clause-crash
returns-in-Err-clause-crash g c = λ t u from.
    let print : List ℕ → Fp = g.F.Fingerprint.printed c.args.print in
    let old : World = g.R.Rig.world c.args.rig.now in
    let middle : World = g.R.Rig.world c.open_store.new.rig in
    let s : Stops c.in-Err.fault = stops from.basis c.args.print print from.stands.geo c.in-Err.fault middle from.start (c.in-Err.ensures.opens t from.basis from.start from.stands from.young) in
    let within : Elapses (g.R.Rig.clock c.open_store.new.rig) (g.R.Rig.clock c.finish.new.rig) (WithinLast (ending_line (ending_of c.in-Err.fault)) middle) =
    subst (λ (e : Ending). Elapses (g.R.Rig.clock c.open_store.new.rig) (g.R.Rig.clock c.finish.new.rig) (WithinLast (ending_line e) middle)) c.ending_of-ending.ensures (c.finish.ensures.within t) in
    goes_on (widens (c.open_store.ensures.time t) (λ o none. absurd none)) within
    (λ o w. inl (unopened_within c.in-Err.fault s old middle (c.open_store.ensures.leaves t).said (c.open_store.ensures.leaves t).own o w))

pub returns-in-Err-clause-left : goal.returns-in-Err-clause-left
returns-in-Err-clause-left g c = λ t u from o may.
    let print : List ℕ → Fp = g.F.Fingerprint.printed c.args.print in
    let old : World = g.R.Rig.world c.args.rig.now in
    let middle : World = g.R.Rig.world c.open_store.new.rig in
    let s : Stops c.in-Err.fault = stops from.basis c.args.print print from.stands.geo c.in-Err.fault middle from.start (c.in-Err.ensures.opens t from.basis from.start from.stands from.young) in
    let says : SaysLast (ending_line (ending_of c.in-Err.fault)) (g.R.Rig.counts c.open_store.new.rig) (g.R.Rig.counts c.finish.new.rig) middle (g.R.Rig.world c.finish.new.rig) =
    subst (λ (e : Ending). SaysLast (ending_line e) (g.R.Rig.counts c.open_store.new.rig) (g.R.Rig.counts c.finish.new.rig) middle (g.R.Rig.world c.finish.new.rig)) c.ending_of-ending.ensures (c.finish.ensures.said t) in
    inl (unopened_behind c.in-Err.fault s old middle (c.open_store.ensures.leaves t).said (c.open_store.ensures.leaves t).own (g.R.Rig.world c.finish.new.rig) (g.R.Rig.counts c.open_store.new.rig) (g.R.Rig.counts c.finish.new.rig)
    says (c.finish.ensures.devices t).0 (c.finish.ensures.devices t).1 o may)

pub returns-in-Err-clause-serves : goal.returns-in-Err-clause-serves
returns-in-Err-clause-serves g c = λ t u from.
    let print : List ℕ → Fp = g.F.Fingerprint.printed c.args.print in
    let old : World = g.R.Rig.world c.args.rig.now in
    let new : World = g.R.Rig.world c.finish.new.rig in
    let middle : World = g.R.Rig.world c.open_store.new.rig in
    let s : Stops c.in-Err.fault = stops from.basis c.args.print print from.stands.geo c.in-Err.fault middle from.start (c.in-Err.ensures.opens t from.basis from.start from.stands from.young) in
    let says : SaysLast (ending_line (ending_of c.in-Err.fault)) (g.R.Rig.counts c.open_store.new.rig) (g.R.Rig.counts c.finish.new.rig) middle new =
    subst (λ (e : Ending). SaysLast (ending_line e) (g.R.Rig.counts c.open_store.new.rig) (g.R.Rig.counts c.finish.new.rig) middle new) c.ending_of-ending.ensures (c.finish.ensures.said t) in
    subst (λ (status : ℕ). Serves print (sizes_of from.stands.geo) from.start (g.S.Source.rest c.args.source.now) 1 status old new (g.R.Rig.counts c.args.rig.now) (g.R.Rig.counts c.finish.new.rig))
    (sym (c.finish.ensures.status ∙ ap status_of c.ending_of-ending.ensures))
    (serves_unopened c.in-Err.fault s old middle (c.open_store.ensures.leaves t).said (c.open_store.ensures.leaves t).own print (sizes_of from.stands.geo) from.start (g.S.Source.rest c.args.source.now) 1 new
    (g.R.Rig.counts c.args.rig.now) (g.R.Rig.counts c.open_store.new.rig) (g.R.Rig.counts c.finish.new.rig) c.open_store.ensures.fails.1.0 c.finish.ensures.frame.0 says)

pub returns-in-Err-clause-quiet : goal.returns-in-Err-clause-quiet
returns-in-Err-clause-quiet g c = λ t u from quiet still bounded.
    inr (c.finish.ensures.status ∙ ap status_of c.ending_of-ending.ensures
    ∙ quiet_fault from.basis c.args.print (g.F.Fingerprint.printed c.args.print) from.stands.geo c.in-Err.fault (g.R.Rig.world c.open_store.new.rig) from.start (g.R.Rig.counts c.args.rig.now) (g.R.Rig.counts c.open_store.new.rig) (g.R.Rig.counts c.finish.new.rig)
    (c.in-Err.ensures.opens t from.basis from.start from.stands from.young) c.in-Err.ensures.fails.0 c.finish.ensures.frame.0 quiet)

pub returns-in-Err-clause-refused : goal.returns-in-Err-clause-refused
returns-in-Err-clause-refused g c = λ t three.
    let first = refuses_first c.args.print c.in-Err.fault (g.R.Rig.device_size c.args.rig.now) (g.R.Rig.world c.args.rig.now).flash.shown (c.in-Err.ensures.fault t) (sym (c.finish.ensures.status ∙ ap status_of c.ending_of-ending.ensures) ∙ three) in
    refuses_so c.in-Err.fault (g.R.Rig.device_size c.args.rig.now) (g.R.Rig.counts c.args.rig.now) (g.R.Rig.counts c.open_store.new.rig) (g.R.Rig.counts c.finish.new.rig) (g.R.Rig.world c.args.rig.now) (g.R.Rig.world c.open_store.new.rig)
    (g.R.Rig.world c.finish.new.rig) first c.ending_of-ending.result c.ending_of-ending.ensures c.open_store.ensures.fails.1.0 (c.open_store.ensures.leaves t).said (c.open_store.ensures.leaves t).shows (c.finish.ensures.said t) (c.finish.ensures.devices t)

pub returns-in-Ok-clause-crash : goal.returns-in-Ok-clause-crash
returns-in-Ok-clause-crash g c = λ t u from.
    let old : World = g.R.Rig.world c.args.rig.now in
    let script : List ℕ = g.S.Source.rest c.args.source.now in
    let kept = (c.in-Ok.ensures.holds t).kept (basis_from from) from.start (based from) in
    let printed = ap g.F.Fingerprint.printed c.in-Ok.ensures.opened.1 in
    let call = c.end_store.ensures.crash t u from.start (basis_from from, basis_stays from (g.R.Rig.world c.open_store.new.rig) ((c.open_store.ensures.leaves t).shows Flash) ((c.open_store.ensures.leaves t).shows Disk), (subst (λ (p : List ℕ → Fp). Kept (basis_from from) p c.in-Ok.store.store (g.R.Rig.world c.open_store.new.rig) from.start from.start) (sym printed) kept.1)) in
    let served : Elapses (g.R.Rig.clock c.open_store.new.rig) (g.R.Rig.clock c.end_store.new.rig) (Headline (basis_from from) (g.F.Fingerprint.printed c.args.print) (sizes_of from.stands.geo) from.start (commands_of (dialect_of (sizes_of from.stands.geo)) script) old.said) =
    by_three (λ (p : List ℕ → Fp) (geo : Geometry) (said : List ℕ). Elapses (g.R.Rig.clock c.open_store.new.rig) (g.R.Rig.clock c.end_store.new.rig) (Headline (basis_from from) p (sizes_of geo) from.start (commands_of (dialect_of (sizes_of geo)) script) said))
    printed kept.0 (c.open_store.ensures.leaves t).said call in
    goes_on (widens (c.open_store.ensures.time t) (λ o none. absurd none)) served (λ o h. inr h)

pub returns-in-Ok-clause-left : goal.returns-in-Ok-clause-left
returns-in-Ok-clause-left g c = λ t u from o may.
    let script : List ℕ = g.S.Source.rest c.args.source.now in
    let kept = (c.in-Ok.ensures.holds t).kept (basis_from from) from.start (based from) in
    let printed = ap g.F.Fingerprint.printed c.in-Ok.ensures.opened.1 in
    inr (by_three (λ (p : List ℕ → Fp) (geo : Geometry) (said : List ℕ). Headline (basis_from from) p (sizes_of geo) from.start (commands_of (dialect_of (sizes_of geo)) script) said o)
    printed kept.0 (c.open_store.ensures.leaves t).said
    (c.end_store.ensures.left t u from.start (basis_from from, basis_stays from (g.R.Rig.world c.open_store.new.rig) ((c.open_store.ensures.leaves t).shows Flash) ((c.open_store.ensures.leaves t).shows Disk), (subst (λ (p : List ℕ → Fp). Kept (basis_from from) p c.in-Ok.store.store (g.R.Rig.world c.open_store.new.rig) from.start from.start) (sym printed) kept.1)) o may))

pub returns-in-Ok-clause-serves : goal.returns-in-Ok-clause-serves
returns-in-Ok-clause-serves g c = λ t u from.
    let script : List ℕ = g.S.Source.rest c.args.source.now in
    let kept = (c.in-Ok.ensures.holds t).kept (basis_from from) from.start (based from) in
    let printed = ap g.F.Fingerprint.printed c.in-Ok.ensures.opened.1 in
    serves_since (g.F.Fingerprint.printed c.args.print) (sizes_of from.stands.geo) from.start script 1 c.end_store.result (g.R.Rig.world c.args.rig.now) (g.R.Rig.world c.open_store.new.rig) (g.R.Rig.world c.end_store.new.rig)
    (g.R.Rig.counts c.args.rig.now) (g.R.Rig.counts c.open_store.new.rig) (g.R.Rig.counts c.end_store.new.rig) c.open_store.ensures.fails.1.0 c.end_store.ensures.frame.0 (opened_calls (up_to 4 1 0) (g.R.Rig.counts c.args.rig.now) (g.R.Rig.counts c.open_store.new.rig) c.open_store.ensures.costs.calls) (c.open_store.ensures.leaves t).said
    (by_three (λ (p : List ℕ → Fp) (geo : Geometry) (said : List ℕ). Serves p (sizes_of geo) from.start script 0 c.end_store.result (g.R.Rig.world c.open_store.new.rig) (g.R.Rig.world c.end_store.new.rig) (g.R.Rig.counts c.open_store.new.rig) (g.R.Rig.counts c.end_store.new.rig))
    printed kept.0 (c.open_store.ensures.leaves t).said
    (c.end_store.ensures.serves t u from.start (basis_from from, basis_stays from (g.R.Rig.world c.open_store.new.rig) ((c.open_store.ensures.leaves t).shows Flash) ((c.open_store.ensures.leaves t).shows Disk), (subst (λ (p : List ℕ → Fp). Kept (basis_from from) p c.in-Ok.store.store (g.R.Rig.world c.open_store.new.rig) from.start from.start) (sym printed) kept.1))))

pub returns-in-Ok-clause-taken : goal.returns-in-Ok-clause-taken
returns-in-Ok-clause-taken g c = λ t u from few.
    subst (λ (geo : Geometry). IsTakenTo (dialect_of (sizes_of geo)) (g.S.Source.rest c.args.source.now) (g.S.Source.rest c.end_store.new.source)) ((c.in-Ok.ensures.holds t).kept (basis_from from) from.start (based from)).0 (c.end_store.ensures.taken u few)

pub returns-in-Ok-clause-quiet : goal.returns-in-Ok-clause-quiet
returns-in-Ok-clause-quiet g c = λ t u from quiet still bounded.
    let kept = (c.in-Ok.ensures.holds t).kept (basis_from from) from.start (based from) in
    let printed = ap g.F.Fingerprint.printed c.in-Ok.ensures.opened.1 in
    c.end_store.ensures.quiet t u from.start (basis_from from, basis_stays from (g.R.Rig.world c.open_store.new.rig) ((c.open_store.ensures.leaves t).shows Flash) ((c.open_store.ensures.leaves t).shows Disk), (subst (λ (p : List ℕ → Fp). Kept (basis_from from) p c.in-Ok.store.store (g.R.Rig.world c.open_store.new.rig) from.start from.start) (sym printed) kept.1))
    (quiet_behind (g.R.Rig.counts c.args.rig.now) (g.R.Rig.counts c.open_store.new.rig) (g.R.Rig.counts c.end_store.new.rig) c.open_store.ensures.fails.1.0 c.end_store.ensures.frame.0 quiet) still
    (subst (λ (geo : Geometry). IsBounded (sizes_of geo) (g.S.Source.rest c.args.source.now)) (sym kept.0) bounded)

pub returns-in-Ok-clause-caused : goal.returns-in-Ok-clause-caused
returns-in-Ok-clause-caused g c =
    let sizes : Sizes = sizes_of c.in-Ok.store.store.journal.geo in
    let h = c.end_store.ensures.caused in (
      h.0,
      h.1,
      caused_since (c.end_store.new.source ≡ c.args.source.now) ((x : Sizes) × (g.S.Source.tells → IsBounded x (g.S.Source.rest c.args.source.now) → ⊥)) (g.S.Source.tells → IsBounded sizes (g.S.Source.rest c.args.source.now) → ⊥) (λ long. (sizes, long))
          h.0 (g.R.Rig.counts c.args.rig.now) (g.R.Rig.counts c.open_store.new.rig) (g.R.Rig.counts c.end_store.new.rig) (g.S.Source.failures c.args.source.now) (g.S.Source.failures c.end_store.new.source) c.open_store.ensures.fails.1.0 h.2,
      λ t.
          ending_later h.0 (g.R.Rig.counts c.args.rig.now) (g.R.Rig.counts c.open_store.new.rig) (g.R.Rig.counts c.end_store.new.rig) (g.R.Rig.world c.args.rig.now) (g.R.Rig.world c.open_store.new.rig) (g.R.Rig.world c.end_store.new.rig)
          c.open_store.ensures.fails.1.0 (c.open_store.ensures.leaves t).said (h.3 t),
    )

pub returns-in-Ok-clause-unopened : goal.returns-in-Ok-clause-unopened
returns-in-Ok-clause-unopened g c = λ t fault first. absurd (c.in-Ok.ensures.fault t fault first)

pub returns-in-Err-clause-unopened : goal.returns-in-Err-clause-unopened
returns-in-Err-clause-unopened g c = λ t fault first.
    is_unserved c.in-Err.fault c.finish.result c.ending_of-ending.result (g.R.Rig.counts c.args.rig.now) (g.R.Rig.counts c.open_store.new.rig) (g.R.Rig.counts c.finish.new.rig)
    (g.R.Rig.world c.args.rig.now) (g.R.Rig.world c.open_store.new.rig) (g.R.Rig.world c.finish.new.rig)
    c.finish.ensures.status c.ending_of-ending.ensures c.open_store.ensures.fails.1.0 (c.open_store.ensures.leaves t).said (c.open_store.ensures.leaves t).shows (c.finish.ensures.said t) (c.finish.ensures.devices t)
    c.open_store.ensures.costs.calls c.finish.ensures.idle

pub returns-in-Err-clause-caused : goal.returns-in-Err-clause-caused
returns-in-Err-clause-caused g c =
    let old : World = g.R.Rig.world c.args.rig.now in
    let middle : World = g.R.Rig.world c.open_store.new.rig in
    let new : World = g.R.Rig.world c.finish.new.rig in
    let opening : Type 0 = c.args.source.now ≡ c.args.source.now in
    let long : Type 0 = (x : Sizes) × (g.S.Source.tells → IsBounded x (g.S.Source.rest c.args.source.now) → ⊥) in (
      ending_of c.in-Err.fault,
      c.finish.ensures.status ∙ ap status_of c.ending_of-ending.ensures,
      caused_later opening long opening long (λ h. h) (λ h. h) (ending_of c.in-Err.fault) (g.R.Rig.counts c.args.rig.now) (g.R.Rig.counts c.open_store.new.rig) (g.R.Rig.counts c.finish.new.rig)
          (g.S.Source.failures c.args.source.now) (g.S.Source.failures c.args.source.now) c.finish.ensures.frame.0
          (opening_cause opening long refl c.in-Err.fault (g.R.Rig.counts c.args.rig.now) (g.R.Rig.counts c.open_store.new.rig) (g.S.Source.failures c.args.source.now) (g.S.Source.failures c.args.source.now) c.in-Err.ensures.fails.0),
      λ t.
          ending_since (ending_of c.in-Err.fault) (g.R.Rig.counts c.args.rig.now) (g.R.Rig.counts c.open_store.new.rig) (g.R.Rig.counts c.finish.new.rig) old middle new c.open_store.ensures.fails.1.0 (more_same old middle (c.open_store.ensures.leaves t).said) (λ first. (c.open_store.ensures.leaves t).said)
          (subst (λ (e : Ending). SaysLast (ending_line e) (g.R.Rig.counts c.open_store.new.rig) (g.R.Rig.counts c.finish.new.rig) middle new) c.ending_of-ending.ensures (c.finish.ensures.said t)),
    )

pub returns-in-Err-clause-asked : goal.returns-in-Err-clause-asked
returns-in-Err-clause-asked g c = subst (λ (status : ℕ). status ≢ 2) (sym (c.finish.ensures.status ∙ ap status_of c.ending_of-ending.ensures)) (fault_asked c.in-Err.fault)
