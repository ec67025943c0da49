use Rattle.std.proofs.Common.{◌≡◌, drop}
use Rattle.dd_model.specs.Listing.{Listing}
use Rattle.dd_model.specs.Applying.{SameLimits}
use Rattle.dd_record.specs.Replay.{replay}
use Rattle.dd_recover.specs.Opening.{first_unfit}
use Rattle.dd_recover.specs.Stages.{recs_of}
use Rattle.dd_recover.proofs.lists.apply_records.Given as goal

-- what is left is refused, and replayed, as all of it was
abbrev pub invariant-loop-placed : goal.invariant-loop-placed
invariant-loop-placed g l =
    let first : Listing = g.L.Lists.listing l.initial.lists in
    let now : Listing = g.L.Lists.listing l.lists in
    record {
      limits : SameLimits first now;
      fault : first_unfit first.acap first.bcap l.recs first.table ≡ first_unfit first.acap first.bcap (drop l.placed-index l.recs) now.table;
      rows : replay first.acap first.bcap (recs_of l.recs) first.table ≡ replay first.acap first.bcap (recs_of (drop l.placed-index l.recs)) now.table;
    }
