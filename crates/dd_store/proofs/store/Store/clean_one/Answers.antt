use Rattle.dd_store.proofs.Holding.{holds_forgotten}
use Rattle.dd_store.proofs.Serves.{unlaid_serves}
use Rattle.dd_store.proofs.Ticking.{written_clean}
use Rattle.dd_store.proofs.store.Store.clean_one.Goals as goal

pub returns-then-is_dirty-clause-clean : goal.returns-then-is_dirty-clause-clean
returns-then-is_dirty-clause-clean g c = written_clean c.write_back.result c.args.self.now.store c.write_back.new.self.store c.write_back.new.self.store.journal c.args.address c.write_back.ensures.store

pub returns-else-is_dirty-clause-serves : goal.returns-else-is_dirty-clause-serves
returns-else-is_dirty-clause-serves g c = λ told basis was s kept.
    unlaid_serves basis (g.F.Fingerprint.printed c.args.self.now.print) (g.R.Rig.clock c.args.rig.now) c.args.self.now.store c.forget.new.self.store (g.R.Rig.world c.args.rig.now) was s tt c.forget.ensures.store kept

pub returns-else-is_dirty-clause-holds : goal.returns-else-is_dirty-clause-holds
returns-else-is_dirty-clause-holds g c = λ told s holds.
    holds_forgotten (g.F.Fingerprint.printed c.args.self.now.print) c.args.self.now.store c.forget.new.self.store (g.R.Rig.world c.args.rig.now) s c.forget.ensures.store holds
