use Rattle.std.proofs.Common.{◌≡◌, ℕ, List, true, false, sym, ◌∙◌, ap, subst}
use Rattle.std.specs.Prelude.{IfOk}
use Rattle.std.proofs.lemmas.Result.{IfOk-weaker}
use Rattle.dd_rig.specs.World.{World}
use Rattle.dd_slots.specs.Slots.{SlotsView}
use Rattle.dd_model.specs.declared.kind.Kind.{Kind}
use Rattle.dd_model.specs.declared.kind.Kind.TheVariants.{Join}
use Rattle.dd_model.specs.declared.given.Block.{Block}
use Rattle.dd_model.specs.declared.given.Block.TheVariants.{Zero}
use Rattle.dd_model.specs.Listing.{Listing}
use Rattle.dd_model.specs.State.{is_zero_block}
use Rattle.dd_serve.specs.Scratch.{ScratchView, Found, Located, IsSound, scratch_of, block_of}
use Rattle.dd_serve.proofs.Located.{located_join, located_found}
use Rattle.dd_serve.proofs.locating.place.Goals as goal

pub returns-then-is_zeros-clause-located : goal.returns-then-is_zeros-clause-located
returns-then-is_zeros-clause-located g c = λ t blocks count below sound.
    let printed = g.F.Fingerprint.printed c.args.print.now in
    let lists : Listing = g.L.Lists.listing c.args.lists.now in
    let slots : SlotsView = c.args.slots.now in
    let old : World = g.R.Rig.world c.args.rig.now in
    let block : List ℕ = c.fetch.new.into in
    let is : block ≡ block_of slots.block old c.args.address = c.in_ok-fetch.ensures.bytes t ∙ ap (λ (n : ℕ). block_of n old c.args.address) c.requires.size.0 in
    let zeros : is_zero_block block ≡ true = sym c.is_zeros.ensures ∙ c.if-is_zeros.true in
    subst (λ (w : World). Located printed (scratch_of blocks lists slots count) old w c.args.address block Join Zero) (sym (c.fetch.ensures.world t))
    (located_join printed blocks count lists slots (g.met.L.Lists.kept c.args.lists.now) old sound c.args.address below block c.requires.lost is zeros)

pub returns-clause-located : goal.returns-clause-located
returns-clause-located g c = λ t blocks count below sound.
    let printed = g.F.Fingerprint.printed c.args.print.now in
    let lists : Listing = g.L.Lists.listing c.args.lists.now in
    let slots : SlotsView = c.args.slots.now in
    let scratch : ScratchView = scratch_of blocks lists slots count in
    let old : World = g.R.Rig.world c.args.rig.now in
    let between : World = g.R.Rig.world c.fetch.new.rig in
    let new : World = g.R.Rig.world c.find_or_save.new.rig in
    let block : List ℕ = c.fetch.new.into in
    let is : block ≡ block_of slots.block old c.args.address = c.in_ok-fetch.ensures.bytes t ∙ ap (λ (n : ℕ). block_of n old c.args.address) c.requires.size.0 in
    let some : is_zero_block block ≡ false = sym c.is_zeros.ensures ∙ c.if-is_zeros.false in
    let same : between ≡ old = c.fetch.ensures.world t in
    let found : IfOk c.find_or_save.result (λ found. Found printed scratch between new block found.0 found.1) =
    c.find_or_save.ensures.found t printed blocks count c.print-fp.ensures some (subst (λ (w : World). IsSound printed scratch w) (sym same) sound) in
    IfOk-weaker c.find_or_save.result (λ (found : Kind × Block). Found printed scratch between new block found.0 found.1) (λ (found : Kind × Block). Located printed scratch old new c.args.address block found.0 found.1)
    (λ f h. located_found printed blocks count lists slots (g.met.L.Lists.kept c.args.lists.now) old sound c.args.address below block new f.0 f.1 c.requires.lost is some (subst (λ (w : World). Found printed scratch w new block f.0 f.1) same h)) found
