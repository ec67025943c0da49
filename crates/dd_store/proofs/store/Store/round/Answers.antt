use Rattle.dd_store.proofs.Untouched.{slots_then}
use Rattle.std.proofs.Common.{ap, ◌∙◌}
use Rattle.std.specs.Prelude.{Ok, Err}
use Rattle.dd_store.proofs.Holding.{holds_next, holds_write_failed}
use Rattle.dd_store.proofs.Keeping.{round_skips}
use Rattle.dd_store.proofs.Serves.{serves_next, serves_down}
use Rattle.dd_store.proofs.store.Store.round.Goals as goal

pub returns-in-Err-lay_some-clause-serves : goal.returns-in-Err-lay_some-clause-serves
returns-in-Err-lay_some-clause-serves g c = λ told basis was s kept.
    let print = g.F.Fingerprint.printed in
    serves_next basis (print c.args.self.now.print) (print c.commit.new.self.print) (ap print c.commit.ensures.rests.print) (g.R.Rig.clock c.args.rig.now) (g.R.Rig.clock c.commit.new.rig) (g.R.Rig.clock c.lay_some.new.rig)
    c.commit.new.self.store c.lay_some.new.self.store (g.R.Rig.world c.commit.new.rig) (g.R.Rig.world c.lay_some.new.rig) was s s tt (Err c.in-Err-lay_some.fault)
    (c.in-Ok.ensures.serves told basis was s kept) (λ k held. c.in-Err-lay_some.ensures.serves told basis k s held)

pub returns-in-Ok-mark-clause-serves : goal.returns-in-Ok-mark-clause-serves
returns-in-Ok-mark-clause-serves g c = λ told basis was s kept.
    let print = g.F.Fingerprint.printed in
    let world = g.R.Rig.world in
    let clock = g.R.Rig.clock in
    serves_next basis (print c.args.self.now.print) (print c.commit.new.self.print) (ap print c.commit.ensures.rests.print) (clock c.args.rig.now) (clock c.commit.new.rig) (clock c.mark.new.rig)
    c.commit.new.self.store c.mark.new.self.store (world c.commit.new.rig) (world c.mark.new.rig) was s s tt (Ok tt)
    (c.in-Ok.ensures.serves told basis was s kept)
    (λ k held. serves_next basis (print c.commit.new.self.print) (print c.lay_some.new.self.print) (ap print c.lay_some.ensures.print) (clock c.commit.new.rig) (clock c.lay_some.new.rig) (clock c.mark.new.rig)
    c.lay_some.new.self.store c.mark.new.self.store (world c.lay_some.new.rig) (world c.mark.new.rig) k s s tt (Ok tt)
    (c.in-Ok-lay_some.ensures.serves told basis k s held) (λ j now. c.in-Ok-mark.ensures.serves told basis j s now))

pub returns-in-Err-mark-clause-serves : goal.returns-in-Err-mark-clause-serves
returns-in-Err-mark-clause-serves g c = λ told basis was s kept.
    let print = g.F.Fingerprint.printed in
    let world = g.R.Rig.world in
    let clock = g.R.Rig.clock in
    serves_down basis (print c.args.self.now.print) (clock c.args.rig.now) (clock c.mark.new.rig) c.mark.new.self.store _ (world c.mark.new.rig) was s s c.in-Err-mark.fault c.in-Err-mark.ensures.fault
    (serves_next basis (print c.args.self.now.print) (print c.commit.new.self.print) (ap print c.commit.ensures.rests.print) (clock c.args.rig.now) (clock c.commit.new.rig) (clock c.mark.new.rig)
    c.commit.new.self.store c.mark.new.self.store (world c.commit.new.rig) (world c.mark.new.rig) was s s tt (Err c.in-Err-mark.fault)
    (c.in-Ok.ensures.serves told basis was s kept)
    (λ k held. serves_next basis (print c.commit.new.self.print) (print c.lay_some.new.self.print) (ap print c.lay_some.ensures.print) (clock c.commit.new.rig) (clock c.lay_some.new.rig) (clock c.mark.new.rig)
    c.lay_some.new.self.store c.mark.new.self.store (world c.lay_some.new.rig) (world c.mark.new.rig) k s s tt (Err c.in-Err-mark.fault)
    (c.in-Ok-lay_some.ensures.serves told basis k s held) (λ j now. c.in-Err-mark.ensures.serves told basis j s now)))

pub returns-in-Err-lay_some-clause-holds : goal.returns-in-Err-lay_some-clause-holds
returns-in-Err-lay_some-clause-holds g c = λ told s holds.
    let print = g.F.Fingerprint.printed in
    let world = g.R.Rig.world in
    holds_next {T = Unit {0}} (print c.args.self.now.print) (print c.commit.new.self.print) (ap print c.commit.ensures.rests.print) c.commit.new.self.store c.lay_some.new.self.store (world c.commit.new.rig) (world c.lay_some.new.rig) s s (Err c.in-Err-lay_some.fault)
    (c.in-Ok.ensures.holds told s holds) (λ held. c.in-Err-lay_some.ensures.holds told s held)

pub returns-in-Ok-mark-clause-holds : goal.returns-in-Ok-mark-clause-holds
returns-in-Ok-mark-clause-holds g c = λ told s holds.
    let print = g.F.Fingerprint.printed in
    let world = g.R.Rig.world in
    holds_next {T = Unit {0}} (print c.args.self.now.print) (print c.commit.new.self.print) (ap print c.commit.ensures.rests.print) c.commit.new.self.store c.mark.new.self.store (world c.commit.new.rig) (world c.mark.new.rig) s s (Ok tt)
    (c.in-Ok.ensures.holds told s holds)
    (λ held. holds_next {T = Unit {0}} (print c.commit.new.self.print) (print c.lay_some.new.self.print) (ap print c.lay_some.ensures.print) c.lay_some.new.self.store c.mark.new.self.store (world c.lay_some.new.rig) (world c.mark.new.rig) s s (Ok tt)
    (c.in-Ok-lay_some.ensures.holds told s held) (λ now. c.in-Ok-mark.ensures.holds told s now))

pub returns-in-Err-mark-clause-holds : goal.returns-in-Err-mark-clause-holds
returns-in-Err-mark-clause-holds g c = λ told s holds. holds_write_failed (Unit {0}) _ c.in-Err-mark.fault c.in-Err-mark.ensures.fault s s _ _

pub returns-in-Ok-mark-clause-skips : goal.returns-in-Ok-mark-clause-skips
returns-in-Ok-mark-clause-skips g c =
    round_skips c.args.along c.args.self.now.store c.commit.new.self.store c.lay_some.new.self.store c.mark.new.self.store c.commit.new.self.store.journal
    c.in-Ok.ensures.store c.in-Ok-lay_some.ensures.store c.in-Ok-mark.ensures.ok c.in-Ok-lay_some.ensures.skips

pub returns-in-Err-lay_some-clause-slots : goal.returns-in-Err-lay_some-clause-slots
returns-in-Err-lay_some-clause-slots g c = λ told.
    slots_then c.args.self.now.store.journal.geo (g.R.Rig.world c.args.rig.now) (g.R.Rig.world c.commit.new.rig) (g.R.Rig.world c.lay_some.new.rig) (c.commit.ensures.slots told) (c.lay_some.ensures.flash told)

pub returns-in-Err-mark-clause-slots : goal.returns-in-Err-mark-clause-slots
returns-in-Err-mark-clause-slots g c = λ told.
    slots_then c.args.self.now.store.journal.geo (g.R.Rig.world c.args.rig.now) (g.R.Rig.world c.commit.new.rig) (g.R.Rig.world c.mark.new.rig) (c.commit.ensures.slots told) (c.mark.ensures.flash told ∙ c.lay_some.ensures.flash told)

pub returns-in-Ok-mark-clause-slots : goal.returns-in-Ok-mark-clause-slots
returns-in-Ok-mark-clause-slots g c = λ told.
    slots_then c.args.self.now.store.journal.geo (g.R.Rig.world c.args.rig.now) (g.R.Rig.world c.commit.new.rig) (g.R.Rig.world c.mark.new.rig) (c.commit.ensures.slots told) (c.mark.ensures.flash told ∙ c.lay_some.ensures.flash told)
