use Rattle.dd_rig.specs.Counts.{CalledAtMost, nothing}
use Rattle.std.proofs.Common.{true, rules}
use Rattle.dd_store.proofs.Calm.{calm_by}
use Rattle.dd_store.proofs.store.Store.write.Goals as goal

pub returns-clause-serves : goal.returns-clause-serves
returns-clause-serves g c = λ told basis was s kept. c.bring-done.ensures.serves told basis was s kept (λ never. absurd (cc never))

pub returns-clause-costs : goal.returns-clause-costs
returns-clause-costs g c = record {
  little = search rules;
  disk = search rules;
  calm = calm_by c.args.address true c.args.self.now.store c.bring-done.new.self.store (CalledAtMost nothing (g.R.Rig.counts c.args.rig.now).disk (g.R.Rig.counts c.bring-done.new.rig).disk) c.bring-done.result c.bring-done.ensures.rows.made c.bring-done.ensures.disk;
  idle = search rules;
  loads = search rules;
}

pub returns-clause-holds : goal.returns-clause-holds
returns-clause-holds g c = λ told s holds. c.bring-done.ensures.holds told s holds (λ never. absurd (cc never))

pub returns-clause-tells : goal.returns-clause-tells
returns-clause-tells g c = λ told s holds. c.bring-done.ensures.tells told s holds (λ never. absurd (cc never))
