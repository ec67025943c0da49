use Rattle.std.proofs.Common.{sym, subst}
use Rattle.std.specs.Prelude.{Option, option_and_then}
use Rattle.dd_record.specs.Replay.{Touch}
use Rattle.dd_model.specs.Listing.{Listing}
use Rattle.dd_model.specs.Applying.{by_touch, IsApplied}
use Rattle.dd_model.proofs.Records.{hit_touch, link_given}
use Rattle.dd_model.proofs.applying.apply_hit.Goals as goal

pub try_touch-requires : goal.try_touch-requires
try_touch-requires g c = link_given (g.L.Lists.listing c.args.lists.now) c.args.address c.in-Slot.slot (g.met.L.Lists.kept c.args.lists.now) (sym c.in-Slot.ensures)

pub returns-in-Slot : goal.returns-in-Slot
returns-in-Slot g c =
    let lists : Listing = g.L.Lists.listing c.args.lists.now in
    subst (λ (o : Option Touch). IsApplied (option_and_then (by_touch lists) o) lists (g.L.Lists.listing c.try_touch.new.lists) c.try_touch.result)
    (sym (hit_touch lists c.args.address c.in-Slot.slot (g.met.L.Lists.kept c.args.lists.now) (sym c.in-Slot.ensures))) c.try_touch.ensures
