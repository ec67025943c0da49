use Rattle.std.proofs.Common.{◌+◌, ◌≤◌, [], ◌∷◌, length, arith}
use Rattle.dd_rig.specs.declared.device.Dev.TheVariants.{Flash}
use Rattle.dd_rig.specs.World.{World}
use Rattle.dd_rig.proofs.Leaving.{write_leaves, leaves_both}
use Rattle.dd_rig.proofs.Moments.{widens, goes_on}
use Rattle.dd_rig.proofs.Pieces.{not_yet, one_more, within_piece}
use Rattle.dd_layout.specs.Layout.{region_at}
use Rattle.dd_journal.specs.Sitting.{regions_size}
use Rattle.dd_journal.proofs.Reaching.{leaves_wider}
use Rattle.dd_recover.proofs.format.write_regions.Goals as goal

pub returns-in_err-write-clause-outside : goal.returns-in_err-write-clause-outside
returns-in_err-write-clause-outside g c = λ told.
    let geo = c.args.geo in
    leaves_wider c.region_at.result 1 (region_at geo 0) (regions_size geo) _ _
    (write_leaves Flash c.region_at.result 1 _ _ (c.write.ensures.any told)) (omega (arith, c.region_at.ensures)) (omega (arith, c.region_at.ensures))

pub returns-clause-outside : goal.returns-clause-outside
returns-clause-outside g c = λ told.
    let geo = c.args.geo in
    leaves_both Flash c.region_at.result 1 c.region_at-2.result (length c.first_text.result) (region_at geo 0) (regions_size geo) _ _ _
    (write_leaves Flash c.region_at.result 1 _ _ (c.write.ensures.any told))
    (write_leaves Flash c.region_at-2.result (length c.first_text.result) _ _ (c.write-2.ensures.any told))
    (omega (arith, c.region_at.ensures)) (omega (arith, c.region_at.ensures)) (omega (arith, c.region_at-2.ensures)) (omega (arith, c.region_at-2.ensures, geo.log_least))

-- within the first write, and within the second one over what the first one left
pub returns-clause-time : goal.returns-clause-time
returns-clause-time g c = λ told.
    let geo = c.args.geo in
    let old : World = g.R.Rig.world c.args.rig.now in
    let middle : World = g.R.Rig.world c.write.new.self in
    let sized = g.met.R.Rig.has_size c.args.rig.now Flash told in
    let fits : region_at geo 0 + regions_size geo ≤ length old.flash.stable = omega (arith, c.requires, sized) in
    let low : region_at geo 0 ≤ c.region_at.result = omega (arith, c.region_at.ensures) in
    let high : c.region_at.result + 1 ≤ region_at geo 0 + regions_size geo = omega (arith, c.region_at.ensures) in
    let none = not_yet Flash (region_at geo 0) (regions_size geo) old in
    let some = one_more Flash (region_at geo 0) (regions_size geo) c.region_at.result (0 ∷ []) old old middle none low high fits (c.in_ok-write.ensures.ok told) in
    goes_on (widens (c.write.ensures.time told) (λ o within. within_piece Flash (region_at geo 0) (regions_size geo) c.region_at.result 1 old old o none low high fits within)) (c.write-2.ensures.time told)
    (λ o within. within_piece Flash (region_at geo 0) (regions_size geo) c.region_at-2.result (length c.first_text.result) old middle o some (omega (arith, c.region_at-2.ensures)) (omega (arith, c.region_at-2.ensures, geo.log_least)) fits within)
