use Rattle.std.proofs.Common.{◌+◌, ◌*◌, arith}
use Rattle.dd_serve.proofs.Writing.{wrote_only_flash}
use Rattle.dd_serve.proofs.Moments.{write_moment}
use Rattle.dd_serve.proofs.Written.{only_write}
use Rattle.dd_serve.proofs.blocks.save.Goals as goal

pub returns-clause-others : goal.returns-clause-others
returns-clause-others g c = λ told. wrote_only_flash (c.args.slots.now.base + c.args.slot * c.args.slots.now.block) c.args.slots.now.block _ _ (omega (arith, c.requires.flash.behind)) (c.save.ensures.any told)

pub returns-clause-time : goal.returns-clause-time
returns-clause-time g c = λ told. write_moment (c.args.slots.now.base + c.args.slot * c.args.slots.now.block) c.args.slots.now.block _ _ (g.R.Rig.world c.args.rig.now) (omega (arith, c.requires.flash.behind)) (c.save.ensures.time told)

pub returns-clause-blocks : goal.returns-clause-blocks
returns-clause-blocks g c = only_write c.args.slots.now.block c.save.result (g.R.Rig.counts c.args.rig.now) (g.R.Rig.counts c.save.new.rig) c.save.ensures.counts c.save.ensures.frame.0
