use Rattle.dd_store.proofs.Holding.{holds_forgotten}
use Rattle.dd_store.proofs.Keeping.{skips_unlaid}
use Rattle.dd_store.proofs.Serves.{unlaid_serves}
use Rattle.dd_store.proofs.store.Store.rounds.Goals as goal

pub returns-else-has_along-clause-serves : goal.returns-else-has_along-clause-serves
returns-else-has_along-clause-serves g c = λ told basis was s kept.
    unlaid_serves basis (g.F.Fingerprint.printed c.args.self.now.print) (g.R.Rig.clock c.args.rig.now) c.args.self.now.store c.forget.new.self.store (g.R.Rig.world c.args.rig.now) was s tt c.forget.ensures.store kept

pub returns-else-has_along-clause-holds : goal.returns-else-has_along-clause-holds
returns-else-has_along-clause-holds g c = λ told s holds.
    holds_forgotten (g.F.Fingerprint.printed c.args.self.now.print) c.args.self.now.store c.forget.new.self.store (g.R.Rig.world c.args.rig.now) s c.forget.ensures.store holds

pub returns-else-has_along-clause-skips : goal.returns-else-has_along-clause-skips
returns-else-has_along-clause-skips g c = skips_unlaid c.args.along c.args.self.now.store c.forget.new.self.store c.forget.ensures.store
