use Rattle.dd_rig.specs.declared.device.Dev.TheVariants.{Disk}
use Rattle.dd_serve.proofs.Written.{only_read}
use Rattle.dd_serve.proofs.blocks.fetch.Goals as goal

pub returns-clause-blocks : goal.returns-clause-blocks
returns-clause-blocks g c = λ block. only_read block Disk c.read.result (g.R.Rig.counts c.args.rig.now) (g.R.Rig.counts c.read.new.self) c.read.ensures.counts
