use Rattle.std.proofs.Common.{inl}
use Rattle.std.proofs.lemmas.Result.{on_ok_weaker}
use Rattle.dd_rig.proofs.Moments.{widens, goes_on}
use Rattle.dd_recover.proofs.Running.{then_published, while_published}
use Rattle.dd_recover.proofs.format.write_flash.Goals as goal

pub returns-clause-ok : goal.returns-clause-ok
returns-clause-ok g c = λ told.
    on_ok_weaker c.publish.result
    (then_published c.args.geo c.write_super.new.into c.write_super.ensures (g.R.Rig.world c.args.rig.now) (g.R.Rig.world c.write_regions.new.rig) (g.R.Rig.world c.publish.new.rig) (c.in_ok-write_regions.ensures.ok told))
    (c.publish.ensures.ok told)

pub returns-clause-time : goal.returns-clause-time
returns-clause-time g c = λ told.
    goes_on (widens (c.write_regions.ensures.time told) (λ o within. inl within)) (c.publish.ensures.time told)
    (while_published c.args.geo c.write_super.new.into c.write_super.ensures (g.R.Rig.world c.args.rig.now) (g.R.Rig.world c.write_regions.new.rig) (c.in_ok-write_regions.ensures.ok told))
