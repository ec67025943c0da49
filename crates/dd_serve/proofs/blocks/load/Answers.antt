use Rattle.dd_rig.specs.declared.device.Dev.TheVariants.{Flash}
use Rattle.dd_serve.proofs.Written.{only_read}
use Rattle.dd_serve.proofs.blocks.load.Goals as goal

pub returns-clause-blocks : goal.returns-clause-blocks
returns-clause-blocks g c = only_read c.args.slots.now.block Flash c.load.result (g.R.Rig.counts c.args.rig.now) (g.R.Rig.counts c.load.new.rig) c.load.ensures.counts
