use Rattle.dd_store.proofs.Holding.{holds_forgotten}
use Rattle.dd_store.proofs.Serves.{unlaid_serves}
use Rattle.dd_store.proofs.store.Store.clean_out.Goals as goal

pub returns-in-None-clause-serves : goal.returns-in-None-clause-serves
returns-in-None-clause-serves g c = λ told basis was s kept.
    unlaid_serves basis (g.F.Fingerprint.printed c.args.self.now.print) (g.R.Rig.clock c.args.rig.now) c.args.self.now.store c.forget.new.self.store (g.R.Rig.world c.args.rig.now) was s tt c.forget.ensures.store kept

pub returns-in-None-clause-holds : goal.returns-in-None-clause-holds
returns-in-None-clause-holds g c = λ told s holds.
    holds_forgotten (g.F.Fingerprint.printed c.args.self.now.print) c.args.self.now.store c.forget.new.self.store (g.R.Rig.world c.args.rig.now) s c.forget.ensures.store holds
