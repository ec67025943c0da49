use Rattle.std.proofs.Common.{◌≡◌, ℕ, List, length, sym, ◌∙◌, ap, subst, arith, Some, None}
use Rattle.std.specs.Prelude.{is_some}
use Rattle.dd_block.specs.declared.print.Fp.{Fp}
use Rattle.dd_rig.specs.declared.device.Dev.TheVariants.{Flash}
use Rattle.dd_rig.specs.World.{World, shown}
use Rattle.dd_slots.specs.Slots.{SlotsView, saved}
use Rattle.dd_slots.proofs.Ranges.{slot_within}
use Rattle.std.proofs.lemmas.Option.{slice_get_within}
use Rattle.dd_slots.specs.declared.usage.Usage.TheVariants.{Free}
use Rattle.dd_model.specs.declared.kind.Kind.TheVariants.{Join, Miss}
use Rattle.dd_model.specs.declared.given.Block.TheVariants.{Known, Fresh}
use Rattle.dd_model.specs.Confirming.{Confirms}
use Rattle.dd_model.specs.Listing.{Listing}
use Rattle.dd_serve.specs.Scratch.{ScratchView, Found, scratch_of}
use Rattle.dd_serve.proofs.Located.{found_listed, found_fresh}
use Rattle.dd_serve.proofs.SlotUses.{one_is_free, fresh_given, free_unlisted}
use Rattle.dd_serve.proofs.locating.find_or_save.Goals as goal

pub save_new-requires-clause-free : goal.save_new-requires-clause-free
save_new-requires-clause-free g c = one_is_free (g.L.Lists.listing c.args.lists.now) c.args.slots.now (g.met.L.Lists.kept c.args.lists.now) c.requires.slots

pub returns-in-Some-clause-given : goal.returns-in-Some-clause-given
returns-in-Some-clause-given g c = ap is_some (rw c.in-Some.is at c.in_ok-slot.ensures.listed)

pub returns-in-Some-clause-found : goal.returns-in-Some-clause-found
returns-in-Some-clause-found g c = λ t print blocks count is some sound.
    let lists : Listing = g.L.Lists.listing c.args.lists.now in
    let slots : SlotsView = c.args.slots.now in
    let scratch : ScratchView = scratch_of blocks lists slots count in
    let old : World = g.R.Rig.world c.args.rig.now in
    let block : List ℕ = c.args.block.now in
    let confirms : Confirms (print block) block slots (shown Flash old) lists.table.b (Some c.in-Some.slot) =
    subst (λ (fp : Fp). Confirms fp block slots (shown Flash old) lists.table.b (Some c.in-Some.slot)) is (rw c.in-Some.is at (c.in_ok-slot.ensures.found t)) in
    subst (λ (w : World). Found print scratch old w block Join (Known c.in-Some.slot)) (sym (c.find.ensures.world t))
    (found_listed print blocks count lists slots (g.met.L.Lists.kept c.args.lists.now) old sound block c.in-Some.slot confirms)

pub returns-in_ok-slot-in-None-clause-given : goal.returns-in_ok-slot-in-None-clause-given
returns-in_ok-slot-in-None-clause-given g c = fresh_given (g.L.Lists.listing c.args.lists.now) c.args.slots.now (record { slot = c.in_ok-slot-in-None.slot; fp = c.args.fp }) c.requires.slots c.in_ok-slot-in-None.ensures.slot

pub returns-in_ok-slot-in-None-clause-found : goal.returns-in_ok-slot-in-None-clause-found
returns-in_ok-slot-in-None-clause-found g c = λ t print blocks count is some sound.
    let lists : Listing = g.L.Lists.listing c.args.lists.now in
    let slots : SlotsView = c.args.slots.now in
    let scratch : ScratchView = scratch_of blocks lists slots count in
    let old : World = g.R.Rig.world c.args.rig.now in
    let block : List ℕ = c.args.block.now in
    let slot : ℕ = c.in_ok-slot-in-None.slot in
    let confirms : Confirms (print block) block slots (shown Flash old) lists.table.b None =
    subst (λ (fp : Fp). Confirms fp block slots (shown Flash old) lists.table.b None) is (rw c.in-None.is at (c.in_ok-slot.ensures.found t)) in
    let free = c.in_ok-slot-in-None.ensures.slot in
    let long : length (shown Flash old) ≡ g.R.Rig.device_size c.args.rig.now Flash = (g.met.R.Rig.shows_image c.args.rig.now Flash t).same_length ∙ g.met.R.Rig.has_size c.args.rig.now Flash t in
    let within = slot_within slots.base slots.block (length slots.uses) slot (slice_get_within slots.uses slot Free free) in
    let found : Found print scratch old (saved slots slot block old) block Miss (Fresh (record { slot = slot; fp = print block })) =
    found_fresh print blocks count lists slots (g.met.L.Lists.kept c.args.lists.now) old sound block slot confirms some c.requires.size.0
    (free_unlisted lists slots slot c.requires.slots free) (omega (arith, long, within, c.requires.flash.flash)) in
    let wrote : g.R.Rig.world c.save_new.new.rig ≡ saved slots slot block old = c.in_ok-slot-in-None.ensures.world t ∙ ap (saved slots slot block) (c.find.ensures.world t) in
    subst (λ (w : World). Found print scratch old w block Miss (Fresh (record { slot = slot; fp = c.args.fp }))) (sym wrote)
    (subst (λ (fp : Fp). Found print scratch old (saved slots slot block old) block Miss (Fresh (record { slot = slot; fp = fp }))) (sym is) found)
