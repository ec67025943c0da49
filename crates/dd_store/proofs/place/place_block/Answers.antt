use Rattle.std.proofs.Common.{◌≡◌, ◌+◌, ◌<◌, ◌≤◌, length, ◌∙◌, ap, subst, arith}
use Rattle.std.proofs.lemmas.Option.{slice_get_within}
use Rattle.dd_rig.specs.declared.device.Dev.TheVariants.{Flash, Disk}
use Rattle.dd_rig.specs.Clock.{Elapses}
use Rattle.dd_rig.specs.World.{World}
use Rattle.dd_slots.specs.declared.usage.Usage.TheVariants.{Free, Used}
use Rattle.dd_slots.specs.Slots.{SlotsView, count_of, slot_from, block_in, saved, WithinSave, SavesSome}
use Rattle.dd_slots.proofs.Ranges.{slot_within, saved_slot}
use Rattle.dd_store.proofs.Known.{use_placed}
use Rattle.dd_store.proofs.Saving.{saved_crash, saved_holds, saved_kept}
use Rattle.dd_store.proofs.place.place_block.Goals as goal

pub returns-in_err-save-in-Some-clause-crash : goal.returns-in_err-save-in-Some-clause-crash
returns-in_err-save-in-Some-clause-crash g c = λ told basis print store was held has is kept.
    let world = g.R.Rig.world c.args.rig.now in
    let sized = g.met.R.Rig.has_size c.args.rig.now Flash told in
    saved_crash basis print store world (g.met.R.Rig.shows_image c.args.rig.now Flash told) (g.met.R.Rig.shows_image c.args.rig.now Disk told) was held kept is c.args.slots.now has
    (omega (arith, sized, c.requires.flash)) c.in-Some.slot c.in-Some.ensures.0 (g.R.Rig.clock c.args.rig.now) (g.R.Rig.clock c.save.new.rig)
    (subst (λ (v : SlotsView). Elapses (g.R.Rig.clock c.args.rig.now) (g.R.Rig.clock c.save.new.rig) (WithinSave v c.in-Some.slot world)) c.in-Some.ensures.1 (c.save.ensures.time told))

pub returns-in_err-save-in-Some-clause-kept : goal.returns-in_err-save-in-Some-clause-kept
returns-in_err-save-in-Some-clause-kept g c = λ told basis print store was held has is kept.
    let world = g.R.Rig.world c.args.rig.now in
    let sized = g.met.R.Rig.has_size c.args.rig.now Flash told in
    saved_kept basis print store world (g.met.R.Rig.shows_image c.args.rig.now Flash told) (g.met.R.Rig.shows_image c.args.rig.now Disk told) was held kept is c.args.slots.now has
    (omega (arith, sized, c.requires.flash)) c.in-Some.slot c.in-Some.ensures.0 (g.R.Rig.world c.save.new.rig)
    (subst (λ (v : SlotsView). SavesSome v c.in-Some.slot world (g.R.Rig.world c.save.new.rig)) c.in-Some.ensures.1 (c.save.ensures.any told))

pub returns-in_ok-save-in-Some-clause-shows : goal.returns-in_ok-save-in-Some-clause-shows
returns-in_ok-save-in-Some-clause-shows g c = λ told.
    let slots : SlotsView = c.args.slots.now in
    let world : World = g.R.Rig.world c.args.rig.now in
    let long : length world.flash.shown ≡ length world.flash.stable = (g.met.R.Rig.shows_image c.args.rig.now Flash told).same_length in
    let below : c.in-Some.slot < count_of slots = slice_get_within slots.uses c.in-Some.slot Free c.in-Some.ensures.0 in
    let fits : slot_from slots c.in-Some.slot + slots.block ≤ length world.flash.shown =
    omega (arith, slot_within slots.base slots.block (count_of slots) c.in-Some.slot below, g.met.R.Rig.has_size c.args.rig.now Flash told, long, c.requires.flash) in
    let wrote : g.R.Rig.world c.save.new.rig ≡ saved slots c.in-Some.slot c.args.block.now world =
    subst (λ (v : SlotsView). g.R.Rig.world c.save.new.rig ≡ saved v c.in-Some.slot c.args.block.now world) c.in-Some.ensures.1 (c.in_ok-save-in-Some.ensures.ok told) in
    ap (λ (w : World). block_in slots w.flash.shown c.in-Some.slot) wrote ∙ saved_slot slots c.in-Some.slot c.args.block.now world c.requires.size fits

pub returns-in_ok-save-in-Some-clause-crash : goal.returns-in_ok-save-in-Some-clause-crash
returns-in_ok-save-in-Some-clause-crash g c = λ told basis print store was held has is kept.
    let world = g.R.Rig.world c.args.rig.now in
    let sized = g.met.R.Rig.has_size c.args.rig.now Flash told in
    saved_crash basis print store world (g.met.R.Rig.shows_image c.args.rig.now Flash told) (g.met.R.Rig.shows_image c.args.rig.now Disk told) was held kept is c.args.slots.now has
    (omega (arith, sized, c.requires.flash)) c.in-Some.slot c.in-Some.ensures.0 (g.R.Rig.clock c.args.rig.now) (g.R.Rig.clock c.save.new.rig)
    (subst (λ (v : SlotsView). Elapses (g.R.Rig.clock c.args.rig.now) (g.R.Rig.clock c.save.new.rig) (WithinSave v c.in-Some.slot world)) c.in-Some.ensures.1 (c.save.ensures.time told))

pub returns-in_ok-save-in-Some-clause-kept : goal.returns-in_ok-save-in-Some-clause-kept
returns-in_ok-save-in-Some-clause-kept g c = λ told basis print store was held has is kept.
    let world = g.R.Rig.world c.args.rig.now in
    let sized = g.met.R.Rig.has_size c.args.rig.now Flash told in
    saved_kept basis print store world (g.met.R.Rig.shows_image c.args.rig.now Flash told) (g.met.R.Rig.shows_image c.args.rig.now Disk told) was held kept is c.args.slots.now has
    (omega (arith, sized, c.requires.flash)) c.in-Some.slot c.in-Some.ensures.0 (g.R.Rig.world c.save.new.rig)
    (subst (λ (v : SlotsView). SavesSome v c.in-Some.slot world (g.R.Rig.world c.save.new.rig)) c.in-Some.ensures.1 (c.save.ensures.any told))

pub returns-in_err-save-in-Some-clause-placed : goal.returns-in_err-save-in-Some-clause-placed
returns-in_err-save-in-Some-clause-placed g c = λ geo placed. use_placed geo c.args.slots.now c.take.new.self c.in-Some.slot Used c.in-Some.ensures.1 placed

pub returns-in_ok-save-in-Some-clause-placed : goal.returns-in_ok-save-in-Some-clause-placed
returns-in_ok-save-in-Some-clause-placed g c = λ geo placed. use_placed geo c.args.slots.now c.take.new.self c.in-Some.slot Used c.in-Some.ensures.1 placed

pub returns-in_err-save-in-Some-clause-holds : goal.returns-in_err-save-in-Some-clause-holds
returns-in_err-save-in-Some-clause-holds g c = λ told print store held has is holds.
    let world = g.R.Rig.world c.args.rig.now in
    let sized = g.met.R.Rig.has_size c.args.rig.now Flash told in
    saved_holds print store world (g.R.Rig.world c.save.new.rig) held is c.args.slots.now has (omega (arith, sized, c.requires.flash)) c.in-Some.slot c.in-Some.ensures.0
    (subst (λ (v : SlotsView). SavesSome v c.in-Some.slot world (g.R.Rig.world c.save.new.rig)) c.in-Some.ensures.1 (c.save.ensures.any told)) holds

pub returns-in_ok-save-in-Some-clause-holds : goal.returns-in_ok-save-in-Some-clause-holds
returns-in_ok-save-in-Some-clause-holds g c = λ told print store held has is holds.
    let world = g.R.Rig.world c.args.rig.now in
    let sized = g.met.R.Rig.has_size c.args.rig.now Flash told in
    saved_holds print store world (g.R.Rig.world c.save.new.rig) held is c.args.slots.now has (omega (arith, sized, c.requires.flash)) c.in-Some.slot c.in-Some.ensures.0
    (subst (λ (v : SlotsView). SavesSome v c.in-Some.slot world (g.R.Rig.world c.save.new.rig)) c.in-Some.ensures.1 (c.save.ensures.any told)) holds
