use Rattle.dd_model.specs.Listing.{Listing, touch_by}
use Rattle.dd_model.proofs.Applied.{may_told}
use Rattle.dd_model.proofs.applying.may_touch.Goals as goal

pub returns : goal.returns
returns g c = λ dirty.
    let lists : Listing = g.L.Lists.listing c.args.lists.now in
    may_told lists (touch_by c.args.address c.args.block dirty lists) c.victims-victims.result c.is_dirty_out-out.result c.is_referred-drop.result c.is_neither.result (g.met.L.Lists.kept c.args.lists.now)
    (c.victims-victims.ensures.next c.args.block dirty c.requires c.want_of.ensures) c.is_dirty_out-out.ensures c.is_referred-drop.ensures c.is_neither.ensures
