use Rattle.std.proofs.Common.{◌≡◌, ℕ, List, replicate, length, sym, ◌∙◌, ap, subst}
use Rattle.std.proofs.lemmas.List.{length-replicate}
use Rattle.dd_rig.specs.World.{World}
use Rattle.dd_slots.specs.Slots.{SlotsView}
use Rattle.dd_record.specs.Table.{link_of, link_at}
use Rattle.dd_record.specs.declared.row.Link.TheVariants as links
use Rattle.dd_model.specs.declared.kind.Kind.TheVariants.{Hit}
use Rattle.dd_model.specs.declared.given.Block.TheVariants.{Known}
use Rattle.dd_model.specs.Listing.{Listing}
use Rattle.dd_model.specs.State.{is_zero_block}
use Rattle.dd_model.proofs.Records.{link_given}
use Rattle.dd_model.proofs.Zeros.{zeros_are}
use Rattle.dd_serve.specs.Scratch.{Located, scratch_of}
use Rattle.dd_serve.proofs.Located.{located_hit, located_zeros}
use Rattle.dd_serve.proofs.SlotUses.{linked_below}
use Rattle.dd_serve.proofs.locating.locate.Goals as goal

pub load-requires-clause-slot : goal.load-requires-clause-slot
load-requires-clause-slot g c =
    let lists : Listing = g.L.Lists.listing c.args.lists.now in
    let link : link_at c.args.address lists.table.a ≡ links.Slot c.in-Slot.slot = sym (c.in-Slot.ensures ∙ ap link_of c.look.ensures) in
    linked_below lists c.args.slots.now (g.met.L.Lists.kept c.args.lists.now) c.requires.slots c.args.address c.in-Slot.slot link

pub returns-in_ok-load-in-Slot-clause-given : goal.returns-in_ok-load-in-Slot-clause-given
returns-in_ok-load-in-Slot-clause-given g c =
    let lists : Listing = g.L.Lists.listing c.args.lists.now in
    let link : link_at c.args.address lists.table.a ≡ links.Slot c.in-Slot.slot = sym (c.in-Slot.ensures ∙ ap link_of c.look.ensures) in
    link_given lists c.args.address c.in-Slot.slot (g.met.L.Lists.kept c.args.lists.now) link

pub returns-in_ok-load-in-Slot-clause-located : goal.returns-in_ok-load-in-Slot-clause-located
returns-in_ok-load-in-Slot-clause-located g c = λ t blocks count below sound.
    let printed = g.F.Fingerprint.printed c.args.print.now in
    let lists : Listing = g.L.Lists.listing c.args.lists.now in
    let slots : SlotsView = c.args.slots.now in
    let old : World = g.R.Rig.world c.args.rig.now in
    let link : link_at c.args.address lists.table.a ≡ links.Slot c.in-Slot.slot = sym (c.in-Slot.ensures ∙ ap link_of c.look.ensures) in
    subst (λ (w : World). Located printed (scratch_of blocks lists slots count) old w c.args.address c.load.new.into Hit (Known c.in-Slot.slot)) (sym (c.load.ensures.world t))
    (located_hit printed blocks count lists slots (g.met.L.Lists.kept c.args.lists.now) old sound c.args.address below c.in-Slot.slot c.load.new.into link (c.in_ok-load-in-Slot.ensures.bytes t))

pub returns-in-Zero-clause-located : goal.returns-in-Zero-clause-located
returns-in-Zero-clause-located g c = λ t blocks count below sound.
    let printed = g.F.Fingerprint.printed c.args.print.now in
    let lists : Listing = g.L.Lists.listing c.args.lists.now in
    let slots : SlotsView = c.args.slots.now in
    let old : World = g.R.Rig.world c.args.rig.now in
    let link : link_at c.args.address lists.table.a ≡ links.Zero = sym (c.in-Zero.ensures ∙ ap link_of c.look.ensures) in
    let block : List ℕ = c.put_zeros.new.block in
    let n : ℕ = length c.args.block.now in
    let is : block ≡ replicate n 0 = c.put_zeros.ensures in
    located_zeros printed blocks count lists slots (g.met.L.Lists.kept c.args.lists.now) old sound c.args.address below block link (ap is_zero_block is ∙ zeros_are n) (ap length is ∙ length-replicate n 0 ∙ c.requires.size.0)
