use Rattle.dd_store.proofs.Untouched.{slots_then}
use Rattle.std.proofs.Common.{ap, sym, ◌∙◌, subst}
use Rattle.std.specs.Prelude.{Ok, Err}
use Rattle.dd_store.specs.Keeping.{Kept}
use Rattle.dd_store.specs.Serving.{Serves}
use Rattle.dd_store.proofs.Growing.{round_grows}
use Rattle.dd_store.proofs.Holding.{holds_next, holds_write_failed}
use Rattle.dd_store.proofs.Serves.{serves_then, serves_down}
use Rattle.dd_store.proofs.store.Store.write_back.Goals as goal

pub returns-in-Err-lay-clause-serves : goal.returns-in-Err-lay-clause-serves
returns-in-Err-lay-clause-serves g c = λ told basis was s kept.
    let first = g.R.Rig.clock c.args.rig.now in
    let middle = g.R.Rig.clock c.commit.new.rig in
    let last = g.R.Rig.clock c.lay.new.rig in
    let committed = c.in-Ok.ensures.serves told basis was s kept in
    serves_then basis (g.F.Fingerprint.printed c.args.self.now.print) first middle last c.commit.new.self.store c.lay.new.self.store (g.R.Rig.world c.commit.new.rig) (g.R.Rig.world c.lay.new.rig) was s s
    (Err c.in-Err-lay.fault) committed.crash committed.leaves
    (λ k held. subst (λ f. Serves {T = Unit {0}} basis (g.F.Fingerprint.printed f) (Err c.in-Err-lay.fault) middle last c.lay.new.self.store (g.R.Rig.world c.lay.new.rig) k s s) c.commit.ensures.rests.print
    (c.in-Err-lay.ensures.serves told basis k s (subst (λ f. Kept basis (g.F.Fingerprint.printed f) c.commit.new.self.store (g.R.Rig.world c.commit.new.rig) k s) (sym c.commit.ensures.rests.print) held)))

pub returns-in-Ok-mark-clause-serves : goal.returns-in-Ok-mark-clause-serves
returns-in-Ok-mark-clause-serves g c = λ told basis was s kept.
    let print = g.F.Fingerprint.printed c.args.self.now.print in
    let first = g.R.Rig.clock c.args.rig.now in
    let second = g.R.Rig.clock c.commit.new.rig in
    let third = g.R.Rig.clock c.lay.new.rig in
    let last = g.R.Rig.clock c.mark.new.rig in
    let same = c.lay.ensures.print ∙ c.commit.ensures.rests.print in
    let committed = c.in-Ok.ensures.serves told basis was s kept in
    serves_then basis print first second last c.commit.new.self.store c.mark.new.self.store (g.R.Rig.world c.commit.new.rig) (g.R.Rig.world c.mark.new.rig) was s s
    (Ok tt) committed.crash committed.leaves
    (λ k held.
    let laid = c.in-Ok-lay.ensures.serves told basis k s (subst (λ f. Kept basis (g.F.Fingerprint.printed f) c.commit.new.self.store (g.R.Rig.world c.commit.new.rig) k s) (sym c.commit.ensures.rests.print) held) in
    subst (λ f. Serves {T = Unit {0}} basis (g.F.Fingerprint.printed f) (Ok tt) second last c.mark.new.self.store (g.R.Rig.world c.mark.new.rig) k s s) c.commit.ensures.rests.print
    (serves_then basis (g.F.Fingerprint.printed c.commit.new.self.print) second third last c.lay.new.self.store c.mark.new.self.store (g.R.Rig.world c.lay.new.rig) (g.R.Rig.world c.mark.new.rig) k s s
    (Ok tt) laid.crash laid.leaves
    (λ j now. subst (λ f. Serves {T = Unit {0}} basis (g.F.Fingerprint.printed f) (Ok tt) third last c.mark.new.self.store (g.R.Rig.world c.mark.new.rig) j s s) c.lay.ensures.print
    (c.in-Ok-mark.ensures.serves told basis j s (subst (λ f. Kept basis (g.F.Fingerprint.printed f) c.lay.new.self.store (g.R.Rig.world c.lay.new.rig) j s) (sym c.lay.ensures.print) now)))))

pub returns-in-Err-mark-clause-serves : goal.returns-in-Err-mark-clause-serves
returns-in-Err-mark-clause-serves g c = λ told basis was s kept.
    let print = g.F.Fingerprint.printed c.args.self.now.print in
    let first = g.R.Rig.clock c.args.rig.now in
    let second = g.R.Rig.clock c.commit.new.rig in
    let third = g.R.Rig.clock c.lay.new.rig in
    let last = g.R.Rig.clock c.mark.new.rig in
    let same = c.lay.ensures.print ∙ c.commit.ensures.rests.print in
    let committed = c.in-Ok.ensures.serves told basis was s kept in
    serves_down basis print first last c.mark.new.self.store _ (g.R.Rig.world c.mark.new.rig) was s s c.in-Err-mark.fault c.in-Err-mark.ensures.fault
    (serves_then basis print first second last c.commit.new.self.store c.mark.new.self.store (g.R.Rig.world c.commit.new.rig) (g.R.Rig.world c.mark.new.rig) was s s
    (Err c.in-Err-mark.fault) committed.crash committed.leaves
    (λ k held.
    let laid = c.in-Ok-lay.ensures.serves told basis k s (subst (λ f. Kept basis (g.F.Fingerprint.printed f) c.commit.new.self.store (g.R.Rig.world c.commit.new.rig) k s) (sym c.commit.ensures.rests.print) held) in
    subst (λ f. Serves {T = Unit {0}} basis (g.F.Fingerprint.printed f) (Err c.in-Err-mark.fault) second last c.mark.new.self.store (g.R.Rig.world c.mark.new.rig) k s s) c.commit.ensures.rests.print
    (serves_then basis (g.F.Fingerprint.printed c.commit.new.self.print) second third last c.lay.new.self.store c.mark.new.self.store (g.R.Rig.world c.lay.new.rig) (g.R.Rig.world c.mark.new.rig) k s s
    (Err c.in-Err-mark.fault) laid.crash laid.leaves
    (λ j now. subst (λ f. Serves {T = Unit {0}} basis (g.F.Fingerprint.printed f) (Err c.in-Err-mark.fault) third last c.mark.new.self.store (g.R.Rig.world c.mark.new.rig) j s s) c.lay.ensures.print
    (c.in-Err-mark.ensures.serves told basis j s (subst (λ f. Kept basis (g.F.Fingerprint.printed f) c.lay.new.self.store (g.R.Rig.world c.lay.new.rig) j s) (sym c.lay.ensures.print) now))))))

pub returns-in-Ok-mark-clause-grows : goal.returns-in-Ok-mark-clause-grows
returns-in-Ok-mark-clause-grows g c =
    round_grows c.args.self.now.store c.commit.new.self.store c.lay.new.self.store c.mark.new.self.store c.args.address c.mark.result c.commit.ensures.geometry c.commit.ensures.rows.0 c.commit.ensures.rows.1
    c.commit.ensures.epoch c.in-Ok-lay.ensures.store c.mark.ensures.ok c.mark.ensures.down

pub returns-in-Err-lay-clause-holds : goal.returns-in-Err-lay-clause-holds
returns-in-Err-lay-clause-holds g c = λ told s holds.
    let print = g.F.Fingerprint.printed in
    let world = g.R.Rig.world in
    holds_next {T = Unit {0}} (print c.args.self.now.print) (print c.commit.new.self.print) (ap print c.commit.ensures.rests.print) c.commit.new.self.store c.lay.new.self.store (world c.commit.new.rig) (world c.lay.new.rig) s s (Err c.in-Err-lay.fault)
    (c.in-Ok.ensures.holds told s holds) (λ held. c.in-Err-lay.ensures.holds told s held)

pub returns-in-Ok-mark-clause-holds : goal.returns-in-Ok-mark-clause-holds
returns-in-Ok-mark-clause-holds g c = λ told s holds.
    let print = g.F.Fingerprint.printed in
    let world = g.R.Rig.world in
    holds_next {T = Unit {0}} (print c.args.self.now.print) (print c.commit.new.self.print) (ap print c.commit.ensures.rests.print) c.commit.new.self.store c.mark.new.self.store (world c.commit.new.rig) (world c.mark.new.rig) s s (Ok tt)
    (c.in-Ok.ensures.holds told s holds)
    (λ held. holds_next {T = Unit {0}} (print c.commit.new.self.print) (print c.lay.new.self.print) (ap print c.lay.ensures.print) c.lay.new.self.store c.mark.new.self.store (world c.lay.new.rig) (world c.mark.new.rig) s s (Ok tt)
    (c.in-Ok-lay.ensures.holds told s held) (λ now. c.in-Ok-mark.ensures.holds told s now))

pub returns-in-Err-mark-clause-holds : goal.returns-in-Err-mark-clause-holds
returns-in-Err-mark-clause-holds g c = λ told s holds. holds_write_failed (Unit {0}) _ c.in-Err-mark.fault c.in-Err-mark.ensures.fault s s _ _

pub returns-in-Err-lay-clause-slots : goal.returns-in-Err-lay-clause-slots
returns-in-Err-lay-clause-slots g c = λ told.
    slots_then c.args.self.now.store.journal.geo (g.R.Rig.world c.args.rig.now) (g.R.Rig.world c.commit.new.rig) (g.R.Rig.world c.lay.new.rig) (c.commit.ensures.slots told) (c.lay.ensures.flash told)

pub returns-in-Err-mark-clause-slots : goal.returns-in-Err-mark-clause-slots
returns-in-Err-mark-clause-slots g c = λ told.
    slots_then c.args.self.now.store.journal.geo (g.R.Rig.world c.args.rig.now) (g.R.Rig.world c.commit.new.rig) (g.R.Rig.world c.mark.new.rig) (c.commit.ensures.slots told) (c.mark.ensures.flash told ∙ c.lay.ensures.flash told)

pub returns-in-Ok-mark-clause-slots : goal.returns-in-Ok-mark-clause-slots
returns-in-Ok-mark-clause-slots g c = λ told.
    slots_then c.args.self.now.store.journal.geo (g.R.Rig.world c.args.rig.now) (g.R.Rig.world c.commit.new.rig) (g.R.Rig.world c.mark.new.rig) (c.commit.ensures.slots told) (c.mark.ensures.flash told ∙ c.lay.ensures.flash told)
