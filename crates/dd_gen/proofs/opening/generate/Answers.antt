use Rattle.std.proofs.Common.{◌≡◌, ◌≢◌, ◌⊎◌, inl, inr, ℕ, List, sym, ◌∙◌, ap, subst}
use Rattle.dd_block.specs.declared.print.Fp.{Fp}
use Rattle.dd_block.specs.declared.geometry.Geometry.{Geometry}
use Rattle.dd_rig.specs.Clock.{Elapses}
use Rattle.dd_rig.specs.World.{World}
use Rattle.dd_rig.proofs.Falling.{falls_self}
use Rattle.dd_rig.proofs.Moments.{goes_on, widens}
use Rattle.dd_store.specs.Keeping.{Kept}
use Rattle.dd_store.specs.Meaning.{sizes_of}
use Rattle.dd_loop.specs.declared.ending.Ending.{Ending}
use Rattle.dd_loop.specs.Ending.{ending_line, status_of, SaysLast, WithinLast}
use Rattle.dd_answers.specs.Opening.{ending_of}
use Rattle.dd_answers.proofs.Ended.{Stops, stops, quiet_fault, refuses_first, unopened_within, unopened_behind, by_three, fault_asked, is_unserved, quiet_behind, refuses_so}
use Rattle.dd_loop.proofs.Lastly.{ending_since, ending_later}
use Rattle.dd_loop.proofs.More.{more_same}
use Rattle.dd_recover.specs.Beginning.{basis_from}
use Rattle.dd_answers.proofs.Pacing.{based}
use Rattle.dd_gen.specs.Large.{LeavesGenerated, TellsSums}
use Rattle.dd_gen.proofs.Ended.{caused_amid, opening_cause, quiet_cause, tells_since, unopened_tells}
use Rattle.dd_gen.proofs.opening.generate.Goals as goal

pub returns-in-Err-clause-crash : goal.returns-in-Err-clause-crash
returns-in-Err-clause-crash g c = λ t from.
    let print : List ℕ → Fp = g.F.Fingerprint.printed c.args.print in
    let old : World = g.R.Rig.world c.args.rig.now in
    let middle : World = g.R.Rig.world c.open_store.new.rig in
    let s : Stops c.in-Err.fault = stops from.basis c.args.print print from.stands.geo c.in-Err.fault middle from.start (c.in-Err.ensures.opens t from.basis from.start from.stands from.young) in
    let within : Elapses (g.R.Rig.clock c.open_store.new.rig) (g.R.Rig.clock c.finish.new.rig) (WithinLast (ending_line (ending_of c.in-Err.fault)) middle) =
    subst (λ (e : Ending). Elapses (g.R.Rig.clock c.open_store.new.rig) (g.R.Rig.clock c.finish.new.rig) (WithinLast (ending_line e) middle)) c.ending_of-ending.ensures (c.finish.ensures.within t) in
    goes_on (widens (c.open_store.ensures.time t) (λ o none. absurd none)) within
    (λ o w. inl (unopened_within c.in-Err.fault s old middle (c.open_store.ensures.leaves t).said (c.open_store.ensures.leaves t).own o w))

pub returns-in-Err-clause-left : goal.returns-in-Err-clause-left
returns-in-Err-clause-left g c = λ t from o may.
    let print : List ℕ → Fp = g.F.Fingerprint.printed c.args.print in
    let old : World = g.R.Rig.world c.args.rig.now in
    let middle : World = g.R.Rig.world c.open_store.new.rig in
    let s : Stops c.in-Err.fault = stops from.basis c.args.print print from.stands.geo c.in-Err.fault middle from.start (c.in-Err.ensures.opens t from.basis from.start from.stands from.young) in
    let says : SaysLast (ending_line (ending_of c.in-Err.fault)) (g.R.Rig.counts c.open_store.new.rig) (g.R.Rig.counts c.finish.new.rig) middle (g.R.Rig.world c.finish.new.rig) =
    subst (λ (e : Ending). SaysLast (ending_line e) (g.R.Rig.counts c.open_store.new.rig) (g.R.Rig.counts c.finish.new.rig) middle (g.R.Rig.world c.finish.new.rig)) c.ending_of-ending.ensures (c.finish.ensures.said t) in
    inl (unopened_behind c.in-Err.fault s old middle (c.open_store.ensures.leaves t).said (c.open_store.ensures.leaves t).own (g.R.Rig.world c.finish.new.rig) (g.R.Rig.counts c.open_store.new.rig) (g.R.Rig.counts c.finish.new.rig)
    says (c.finish.ensures.devices t).0 (c.finish.ensures.devices t).1 o may)

pub returns-in-Err-clause-tells : goal.returns-in-Err-clause-tells
returns-in-Err-clause-tells g c = λ t from.
    let print : List ℕ → Fp = g.F.Fingerprint.printed c.args.print in
    let old : World = g.R.Rig.world c.args.rig.now in
    let middle : World = g.R.Rig.world c.open_store.new.rig in
    let new : World = g.R.Rig.world c.finish.new.rig in
    let s : Stops c.in-Err.fault = stops from.basis c.args.print print from.stands.geo c.in-Err.fault middle from.start (c.in-Err.ensures.opens t from.basis from.start from.stands from.young) in
    let says : SaysLast (ending_line (ending_of c.in-Err.fault)) (g.R.Rig.counts c.open_store.new.rig) (g.R.Rig.counts c.finish.new.rig) middle new =
    subst (λ (e : Ending). SaysLast (ending_line e) (g.R.Rig.counts c.open_store.new.rig) (g.R.Rig.counts c.finish.new.rig) middle new) c.ending_of-ending.ensures (c.finish.ensures.said t) in
    record {
      ending = ending_of c.in-Err.fault;
      status_is = c.finish.ensures.status ∙ ap status_of c.ending_of-ending.ensures;
      tells = unopened_tells c.in-Err.fault s print (sizes_of from.stands.geo) from.start c.args.seed c.args.count old middle new (g.R.Rig.counts c.args.rig.now) (g.R.Rig.counts c.open_store.new.rig) (g.R.Rig.counts c.finish.new.rig)
          c.open_store.ensures.fails.1.0 (c.open_store.ensures.leaves t).said says;
    }

pub returns-in-Err-clause-quiet : goal.returns-in-Err-clause-quiet
returns-in-Err-clause-quiet g c = λ t from quiet.
    inr (c.finish.ensures.status ∙ ap status_of c.ending_of-ending.ensures
    ∙ quiet_fault from.basis c.args.print (g.F.Fingerprint.printed c.args.print) from.stands.geo c.in-Err.fault (g.R.Rig.world c.open_store.new.rig) from.start (g.R.Rig.counts c.args.rig.now) (g.R.Rig.counts c.open_store.new.rig) (g.R.Rig.counts c.finish.new.rig)
    (c.in-Err.ensures.opens t from.basis from.start from.stands from.young) c.in-Err.ensures.fails.0 c.finish.ensures.frame.0 quiet)

pub returns-in-Err-clause-caused : goal.returns-in-Err-clause-caused
returns-in-Err-clause-caused g c = (
  ending_of c.in-Err.fault,
  c.finish.ensures.status ∙ ap status_of c.ending_of-ending.ensures,
  caused_amid (Unit {0}) (Unit {0}) (λ h. h) (ending_of c.in-Err.fault) (g.R.Rig.counts c.args.rig.now) (g.R.Rig.counts c.args.rig.now) (g.R.Rig.counts c.open_store.new.rig) (g.R.Rig.counts c.finish.new.rig)
      (falls_self (g.R.Rig.counts c.args.rig.now)) c.finish.ensures.frame.0 (opening_cause c.in-Err.fault (g.R.Rig.counts c.args.rig.now) (g.R.Rig.counts c.open_store.new.rig) c.in-Err.ensures.fails.0),
  λ t.
      ending_since (ending_of c.in-Err.fault) (g.R.Rig.counts c.args.rig.now) (g.R.Rig.counts c.open_store.new.rig) (g.R.Rig.counts c.finish.new.rig) (g.R.Rig.world c.args.rig.now) (g.R.Rig.world c.open_store.new.rig)
      (g.R.Rig.world c.finish.new.rig) c.open_store.ensures.fails.1.0 (more_same _ _ (c.open_store.ensures.leaves t).said) (λ first. (c.open_store.ensures.leaves t).said)
      (subst (λ (e : Ending). SaysLast (ending_line e) (g.R.Rig.counts c.open_store.new.rig) (g.R.Rig.counts c.finish.new.rig) (g.R.Rig.world c.open_store.new.rig) (g.R.Rig.world c.finish.new.rig)) c.ending_of-ending.ensures (c.finish.ensures.said t)),
)

pub returns-in-Err-clause-asked : goal.returns-in-Err-clause-asked
returns-in-Err-clause-asked g c = subst (λ (status : ℕ). status ≢ 2) (sym (c.finish.ensures.status ∙ ap status_of c.ending_of-ending.ensures)) (fault_asked c.in-Err.fault)

pub returns-in-Err-clause-refused : goal.returns-in-Err-clause-refused
returns-in-Err-clause-refused g c = λ t three.
    let first = refuses_first c.args.print c.in-Err.fault (g.R.Rig.device_size c.args.rig.now) (g.R.Rig.world c.args.rig.now).flash.shown (c.in-Err.ensures.fault t) (sym (c.finish.ensures.status ∙ ap status_of c.ending_of-ending.ensures) ∙ three) in
    refuses_so c.in-Err.fault (g.R.Rig.device_size c.args.rig.now) (g.R.Rig.counts c.args.rig.now) (g.R.Rig.counts c.open_store.new.rig) (g.R.Rig.counts c.finish.new.rig) (g.R.Rig.world c.args.rig.now) (g.R.Rig.world c.open_store.new.rig)
    (g.R.Rig.world c.finish.new.rig) first c.ending_of-ending.result c.ending_of-ending.ensures c.open_store.ensures.fails.1.0 (c.open_store.ensures.leaves t).said (c.open_store.ensures.leaves t).shows (c.finish.ensures.said t) (c.finish.ensures.devices t)

pub returns-in-Ok-clause-crash : goal.returns-in-Ok-clause-crash
returns-in-Ok-clause-crash g c = λ t from.
    let old : World = g.R.Rig.world c.args.rig.now in
    let kept = (c.in-Ok.ensures.holds t).kept (basis_from from) from.start (based from) in
    let printed = ap g.F.Fingerprint.printed c.in-Ok.ensures.opened.1 in
    let call = c.end_store.ensures.crash t (basis_from from) from.start (subst (λ (p : List ℕ → Fp). Kept (basis_from from) p c.in-Ok.store.store (g.R.Rig.world c.open_store.new.rig) from.start from.start) (sym printed) kept.1) in
    let served : Elapses (g.R.Rig.clock c.open_store.new.rig) (g.R.Rig.clock c.end_store.new.rig) (LeavesGenerated (basis_from from) (g.F.Fingerprint.printed c.args.print) (sizes_of from.stands.geo) from.start c.args.seed c.args.count old.said) =
    by_three (λ (p : List ℕ → Fp) (geo : Geometry) (said : List ℕ). Elapses (g.R.Rig.clock c.open_store.new.rig) (g.R.Rig.clock c.end_store.new.rig) (LeavesGenerated (basis_from from) p (sizes_of geo) from.start c.args.seed c.args.count said))
    printed kept.0 (c.open_store.ensures.leaves t).said call in
    goes_on (widens (c.open_store.ensures.time t) (λ o none. absurd none)) served (λ o h. inr h)

pub returns-in-Ok-clause-left : goal.returns-in-Ok-clause-left
returns-in-Ok-clause-left g c = λ t from o may.
    let kept = (c.in-Ok.ensures.holds t).kept (basis_from from) from.start (based from) in
    let printed = ap g.F.Fingerprint.printed c.in-Ok.ensures.opened.1 in
    inr (by_three (λ (p : List ℕ → Fp) (geo : Geometry) (said : List ℕ). LeavesGenerated (basis_from from) p (sizes_of geo) from.start c.args.seed c.args.count said o)
    printed kept.0 (c.open_store.ensures.leaves t).said
    (c.end_store.ensures.left t (basis_from from) from.start (subst (λ (p : List ℕ → Fp). Kept (basis_from from) p c.in-Ok.store.store (g.R.Rig.world c.open_store.new.rig) from.start from.start) (sym printed) kept.1) o may))

pub returns-in-Ok-clause-tells : goal.returns-in-Ok-clause-tells
returns-in-Ok-clause-tells g c = λ t from.
    let old : World = g.R.Rig.world c.args.rig.now in
    let middle : World = g.R.Rig.world c.open_store.new.rig in
    let new : World = g.R.Rig.world c.end_store.new.rig in
    let kept = (c.in-Ok.ensures.holds t).kept (basis_from from) from.start (based from) in
    let printed = ap g.F.Fingerprint.printed c.in-Ok.ensures.opened.1 in
    tells_since (g.F.Fingerprint.printed c.args.print) (sizes_of from.stands.geo) from.start c.args.seed c.args.count c.end_store.result old middle new (g.R.Rig.counts c.args.rig.now) (g.R.Rig.counts c.open_store.new.rig) (g.R.Rig.counts c.end_store.new.rig)
    c.open_store.ensures.fails.1.0 (c.open_store.ensures.leaves t).said
    (subst (λ (p : List ℕ → Fp). TellsSums p (sizes_of from.stands.geo) from.start c.args.seed c.args.count c.end_store.result (g.R.Rig.counts c.open_store.new.rig) (g.R.Rig.counts c.end_store.new.rig) middle new) printed
    (subst (λ (geo : Geometry). TellsSums (g.F.Fingerprint.printed c.in-Ok.store.print) (sizes_of geo) from.start c.args.seed c.args.count c.end_store.result (g.R.Rig.counts c.open_store.new.rig) (g.R.Rig.counts c.end_store.new.rig) middle new) kept.0
    (c.end_store.ensures.tells t (basis_from from) from.start (subst (λ (p : List ℕ → Fp). Kept (basis_from from) p c.in-Ok.store.store middle from.start from.start) (sym printed) kept.1))))

pub returns-in-Ok-clause-quiet : goal.returns-in-Ok-clause-quiet
returns-in-Ok-clause-quiet g c = λ t from quiet.
    let h = c.end_store.ensures.caused in
    let later = quiet_behind (g.R.Rig.counts c.args.rig.now) (g.R.Rig.counts c.open_store.new.rig) (g.R.Rig.counts c.end_store.new.rig) c.open_store.ensures.fails.1.0 c.end_store.ensures.frame.0 quiet in
    subst (λ (status : ℕ). (status ≡ 0) ⊎ (status ≡ 4)) (sym h.1) (quiet_cause h.0 (g.R.Rig.counts c.open_store.new.rig) (g.R.Rig.counts c.end_store.new.rig) h.2 later)

pub returns-in-Ok-clause-caused : goal.returns-in-Ok-clause-caused
returns-in-Ok-clause-caused g c =
    let h = c.end_store.ensures.caused in (
      h.0,
      h.1,
      caused_amid ⊥ (Unit {0}) (λ never. absurd never) h.0 (g.R.Rig.counts c.args.rig.now) (g.R.Rig.counts c.open_store.new.rig) (g.R.Rig.counts c.end_store.new.rig) (g.R.Rig.counts c.end_store.new.rig)
          c.open_store.ensures.fails.1.0 (falls_self (g.R.Rig.counts c.end_store.new.rig)) h.2,
      λ t.
          ending_later h.0 (g.R.Rig.counts c.args.rig.now) (g.R.Rig.counts c.open_store.new.rig) (g.R.Rig.counts c.end_store.new.rig) (g.R.Rig.world c.args.rig.now) (g.R.Rig.world c.open_store.new.rig) (g.R.Rig.world c.end_store.new.rig)
          c.open_store.ensures.fails.1.0 (c.open_store.ensures.leaves t).said (h.3 t),
    )

pub returns-in-Ok-clause-unopened : goal.returns-in-Ok-clause-unopened
returns-in-Ok-clause-unopened g c = λ t fault first. absurd (c.in-Ok.ensures.fault t fault first)

pub returns-in-Err-clause-unopened : goal.returns-in-Err-clause-unopened
returns-in-Err-clause-unopened g c = λ t fault first.
    is_unserved c.in-Err.fault c.finish.result c.ending_of-ending.result (g.R.Rig.counts c.args.rig.now) (g.R.Rig.counts c.open_store.new.rig) (g.R.Rig.counts c.finish.new.rig)
    (g.R.Rig.world c.args.rig.now) (g.R.Rig.world c.open_store.new.rig) (g.R.Rig.world c.finish.new.rig)
    c.finish.ensures.status c.ending_of-ending.ensures c.open_store.ensures.fails.1.0 (c.open_store.ensures.leaves t).said (c.open_store.ensures.leaves t).shows (c.finish.ensures.said t) (c.finish.ensures.devices t)
    c.open_store.ensures.costs.calls c.finish.ensures.idle
