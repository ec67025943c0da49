use Rattle.std.proofs.Common.{◌+◌, arith}
use Rattle.dd_rig.specs.declared.device.Dev.TheVariants.{Flash, Disk}
use Rattle.dd_rig.proofs.Moments.{starts, goes_on, goes_on_same}
use Rattle.dd_recover.specs.Formatting.{IsUnusedOrFormatted}
use Rattle.dd_rig.specs.World.{WithinWrite}
use Rattle.dd_journal.specs.Sitting.{regions_size}
use Rattle.dd_recover.proofs.Bounds.{within_front}
use Rattle.dd_recover.proofs.Moments.{own_or_new}
use Rattle.dd_recover.proofs.Running.{while_written, once_ok}
use Rattle.dd_recover.proofs.format.format_flash.Goals as goal

pub returns-in_err-settle-clause-now : goal.returns-in_err-settle-clause-now
returns-in_err-settle-clause-now g c = λ told print.
    let world = g.R.Rig.world c.args.rig.now in
    let clock = g.R.Rig.clock c.args.rig.now in
    own_or_new world (g.R.Rig.world c.settle.new.rig) clock (g.R.Rig.clock c.settle.new.rig) (IsUnusedOrFormatted print c.args.geo world)
    (goes_on_same (goes_on_same (starts clock (λ o. IsUnusedOrFormatted print c.args.geo world o.flash o.disk)) (c.test.ensures.time told)) (c.settle.ensures.time told))
    (λ o left. g.met.R.Rig.only_now c.args.rig.now o told left)
    (λ o later may. g.met.R.Rig.counts_now c.settle.new.rig clock.moment o told later may)

pub returns-clause-ok : goal.returns-clause-ok
returns-clause-ok g c = λ told.
    let flash = g.met.R.Rig.shows_image c.args.rig.now Flash told in
    let disk = g.met.R.Rig.shows_image c.args.rig.now Disk told in
    let flash_size = g.met.R.Rig.has_size c.args.rig.now Flash told in
    let disk_size = g.met.R.Rig.has_size c.args.rig.now Disk told in
    once_ok c.args.geo (g.R.Rig.world c.args.rig.now) (g.R.Rig.world c.test.new.rig) (g.R.Rig.world c.settle.new.rig)
    (c.in_ok-test.ensures.world told) (c.in_ok-settle.ensures.ok told)
    (omega (arith, flash.same_length, flash_size, c.in_ok-test.ensures.room.0)) (omega (arith, disk.same_length, disk_size, c.in_ok-test.ensures.room.1)) (c.in_ok-test.ensures.unused told)
    c.map_err.result c.write_flash.result c.map_err.ensures.variant (g.R.Rig.world c.write_flash.new.rig) (c.write_flash.ensures.ok told)

pub returns-clause-crash : goal.returns-clause-crash
returns-clause-crash g c = λ told print.
    let world = g.R.Rig.world c.args.rig.now in
    let flash = g.met.R.Rig.shows_image c.args.rig.now Flash told in
    let disk = g.met.R.Rig.shows_image c.args.rig.now Disk told in
    let flash_size = g.met.R.Rig.has_size c.args.rig.now Flash told in
    let disk_size = g.met.R.Rig.has_size c.args.rig.now Disk told in
    goes_on (goes_on_same (goes_on_same (starts (g.R.Rig.clock c.args.rig.now) (λ o. IsUnusedOrFormatted print c.args.geo world o.flash o.disk)) (c.test.ensures.time told)) (c.settle.ensures.time told))
    (c.write_flash.ensures.time told)
    (while_written c.args.geo world (g.R.Rig.world c.test.new.rig) (g.R.Rig.world c.settle.new.rig)
    (c.in_ok-test.ensures.world told) (c.in_ok-settle.ensures.ok told)
    (omega (arith, flash.same_length, flash_size, c.in_ok-test.ensures.room.0)) (omega (arith, disk.same_length, disk_size, c.in_ok-test.ensures.room.1)) (c.in_ok-test.ensures.unused told) print)

pub returns-clause-now : goal.returns-clause-now
returns-clause-now g c = λ told print.
    let world = g.R.Rig.world c.args.rig.now in
    let clock = g.R.Rig.clock c.args.rig.now in
    own_or_new world (g.R.Rig.world c.write_flash.new.rig) clock (g.R.Rig.clock c.write_flash.new.rig) (IsUnusedOrFormatted print c.args.geo world)
    (returns-clause-crash g c told print)
    (λ o left. g.met.R.Rig.only_now c.args.rig.now o told left)
    (λ o later may. g.met.R.Rig.counts_now c.write_flash.new.rig clock.moment o told later may)

pub returns-clause-time : goal.returns-clause-time
returns-clause-time g c = λ told.
    let world = g.R.Rig.world c.args.rig.now in
    goes_on (goes_on_same (goes_on_same (starts (g.R.Rig.clock c.args.rig.now) (WithinWrite Flash 0 (64 + regions_size c.args.geo) world)) (c.test.ensures.time told)) (c.settle.ensures.time told))
    (c.write_flash.ensures.time told)
    (within_front c.args.geo world (g.met.R.Rig.shows_image c.args.rig.now Flash told) (g.met.R.Rig.shows_image c.args.rig.now Disk told)
    (g.R.Rig.world c.test.new.rig) (g.R.Rig.world c.settle.new.rig) (c.in_ok-test.ensures.world told) (c.in_ok-settle.ensures.ok told))
