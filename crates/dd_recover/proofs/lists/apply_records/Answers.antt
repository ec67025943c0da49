use Rattle.dd_record.specs.declared.rec.Rec.TheVariants.{Hit}
use Rattle.dd_recover.proofs.Replaying.{below_in}
use Rattle.dd_recover.proofs.lists.apply_records.Goals as goal

pub apply_record-requires : goal.apply_record-requires
apply_record-requires g c =
    below_in (g.L.Lists.listing c.args.lists.now).slots (g.L.Lists.listing c.loop-placed.lists).slots c.args.recs.now c.loop-placed.placed-index (record { at = 0; rec = Hit 0 })
    c.loop-placed.invariant.limits.2 c.loop-placed-test.true c.requires
