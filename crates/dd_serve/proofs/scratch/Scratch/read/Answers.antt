use Rattle.std.proofs.Common.{◌≡◌, ◌+◌, ◌<◌, ℕ, suc, sym, ◌∙◌, ap, subst, arith, Some}
use Rattle.std.specs.Prelude.{Option, IfSome}
use Rattle.dd_rig.specs.declared.device.Dev.{Dev}
use Rattle.dd_rig.specs.World.{World}
use Rattle.dd_slots.specs.declared.usage.Usage.TheVariants.{Used}
use Rattle.dd_slots.specs.Slots.{SlotsView, use_of}
use Rattle.dd_record.specs.declared.row.BRow.{BRow}
use Rattle.dd_model.specs.declared.done.Cut.{Cut}
use Rattle.dd_model.specs.Listing.{Listing, cut_of}
use Rattle.dd_model.specs.State.{content}
use Rattle.dd_model.specs.Reference.{Tells, reference, read_answer}
use Rattle.dd_serve.specs.Calls.{AsksFor, slots_for, looks_for, writes_for}
use Rattle.dd_serve.specs.Scratch.{ScratchView, Fits, FitsSlots, Located, IsSound, scratch_of, scratch_state, scratch_sizes, read_of, placed, slots_after}
use Rattle.dd_serve.proofs.Clean.{AreClean, clean_may}
use Rattle.dd_serve.proofs.Referenced.{after_read, read_state, read_sound, read_tells, read_slots, read_fits}
use Rattle.dd_serve.proofs.SlotUses.{drop_used}
use Rattle.dd_serve.proofs.scratch.Scratch.read.Goals as goal

pub touch-cut-requires-clause-clean : goal.touch-cut-requires-clause-clean
touch-cut-requires-clause-clean g c =
    let lists : Listing = g.L.Lists.listing c.self.inside.lists in
    clean_may c.args.address c.in_ok-kind.given lists (g.met.L.Lists.kept c.self.inside.lists) (subst (λ (k : ScratchView). AreClean k.lists.table.a) (sym c.self.view_is) c.requires.fits.clean)

pub touch-cut-requires-clause-used : goal.touch-cut-requires-clause-used
touch-cut-requires-clause-used g c =
    let lists : Listing = g.L.Lists.listing c.self.inside.lists in
    let fits : FitsSlots lists c.self.inside.slots = subst (λ (k : ScratchView). FitsSlots k.lists k.slots) (sym c.self.view_is) c.requires.fits.slots in
    subst (λ (s : SlotsView). IfSome (cut_of (read_of c.args.address c.in_ok-kind.given lists) lists).drop (λ row. use_of s row.slot ≡ Some Used)) (sym c.in_ok-kind.ensures.slots)
    (drop_used lists c.self.inside.slots (g.met.L.Lists.kept c.self.inside.lists) fits c.args.address c.in_ok-kind.given c.in_ok-kind.ensures.given)

pub returns-clause-answer : goal.returns-clause-answer
returns-clause-answer g c = λ t was_sound.
    let printed = g.F.Fingerprint.printed c.args.print.now in
    let lists : Listing = g.L.Lists.listing c.self.inside.lists in
    let scratch : ScratchView = scratch_of c.self.inside.blocks lists c.self.inside.slots c.self.inside.count in
    let same : scratch ≡ c.args.self.now = c.self.view_is in
    let old : World = g.R.Rig.world c.args.rig.now in
    let new : World = g.R.Rig.world c.locate.new.rig in
    let clean : AreClean lists.table.a = subst (λ (k : ScratchView). AreClean k.lists.table.a) (sym same) c.requires.fits.clean in
    let below : c.args.address < scratch.blocks = subst (λ (k : ScratchView). c.args.address < k.blocks) (sym same) c.requires.address in
    let sound : IsSound printed scratch old = subst (λ (k : ScratchView). IsSound printed k old) (sym same) was_sound in
    let l : Located printed scratch old new c.args.address c.locate.new.block c.in_ok-kind.kind c.in_ok-kind.given = c.in_ok-kind.ensures.located t scratch.blocks scratch.count below sound in
    subst (λ (k : ScratchView). Tells printed (record { kind = c.in_ok-kind.kind; cut = c.touch-cut.result }) (read_answer (scratch_sizes k) (scratch_state k old) c.args.address)) same
    (subst (λ (cut : Cut). Tells printed (record { kind = c.in_ok-kind.kind; cut = cut }) (read_answer (scratch_sizes scratch) (scratch_state scratch old) c.args.address)) (sym c.touch-cut.ensures.cut)
    (read_tells printed scratch old new c.args.address c.locate.new.block c.in_ok-kind.kind c.in_ok-kind.given (g.met.L.Lists.kept c.self.inside.lists) clean below l))

pub returns-clause-block : goal.returns-clause-block
returns-clause-block g c = λ t was_sound.
    let printed = g.F.Fingerprint.printed c.args.print.now in
    let lists : Listing = g.L.Lists.listing c.self.inside.lists in
    let scratch : ScratchView = scratch_of c.self.inside.blocks lists c.self.inside.slots c.self.inside.count in
    let same : scratch ≡ c.args.self.now = c.self.view_is in
    let old : World = g.R.Rig.world c.args.rig.now in
    let new : World = g.R.Rig.world c.locate.new.rig in
    let below : c.args.address < scratch.blocks = subst (λ (k : ScratchView). c.args.address < k.blocks) (sym same) c.requires.address in
    let sound : IsSound printed scratch old = subst (λ (k : ScratchView). IsSound printed k old) (sym same) was_sound in
    let l : Located printed scratch old new c.args.address c.locate.new.block c.in_ok-kind.kind c.in_ok-kind.given = c.in_ok-kind.ensures.located t scratch.blocks scratch.count below sound in
    l.block_is ∙ ap (λ (k : ScratchView). content (scratch_state k old).array c.args.address) same

pub returns-clause-state : goal.returns-clause-state
returns-clause-state g c = λ t was_sound.
    let printed = g.F.Fingerprint.printed c.args.print.now in
    let lists : Listing = g.L.Lists.listing c.self.inside.lists in
    let scratch : ScratchView = scratch_of c.self.inside.blocks lists c.self.inside.slots c.self.inside.count in
    let same : scratch ≡ c.args.self.now = c.self.view_is in
    let old : World = g.R.Rig.world c.args.rig.now in
    let new : World = g.R.Rig.world c.locate.new.rig in
    let clean : AreClean lists.table.a = subst (λ (k : ScratchView). AreClean k.lists.table.a) (sym same) c.requires.fits.clean in
    let below : c.args.address < scratch.blocks = subst (λ (k : ScratchView). c.args.address < k.blocks) (sym same) c.requires.address in
    let sound : IsSound printed scratch old = subst (λ (k : ScratchView). IsSound printed k old) (sym same) was_sound in
    let l : Located printed scratch old new c.args.address c.locate.new.block c.in_ok-kind.kind c.in_ok-kind.given = c.in_ok-kind.ensures.located t scratch.blocks scratch.count below sound in
    let cut : Option BRow = (cut_of (read_of c.args.address c.in_ok-kind.given lists) lists).drop in
    let slots : c.touch-cut.new.slots ≡ slots_after cut (placed c.in_ok-kind.given scratch.slots) = c.touch-cut.ensures.slots ∙ ap (slots_after cut) c.in_ok-kind.ensures.slots in
    let more : scratch.count + 1 ≡ suc scratch.count = omega arith in
    let after : scratch_of scratch.blocks (g.L.Lists.listing c.touch-cut.new.lists) c.touch-cut.new.slots (scratch.count + 1) ≡ after_read c.args.address c.in_ok-kind.given scratch =
    λ i. scratch_of scratch.blocks (c.touch-cut.ensures.lists i) (slots i) (more i) in
    ap (λ (k : ScratchView). scratch_state k new) after
    ∙ read_state printed scratch old new c.args.address c.locate.new.block c.in_ok-kind.kind c.in_ok-kind.given (g.met.L.Lists.kept c.self.inside.lists) clean below l
    ∙ ap (λ (k : ScratchView). reference (scratch_sizes k) (scratch_state k old) c.args.address (content (scratch_state k old).array c.args.address)) same

pub returns-clause-sound : goal.returns-clause-sound
returns-clause-sound g c = λ t was_sound.
    let printed = g.F.Fingerprint.printed c.args.print.now in
    let lists : Listing = g.L.Lists.listing c.self.inside.lists in
    let scratch : ScratchView = scratch_of c.self.inside.blocks lists c.self.inside.slots c.self.inside.count in
    let same : scratch ≡ c.args.self.now = c.self.view_is in
    let old : World = g.R.Rig.world c.args.rig.now in
    let new : World = g.R.Rig.world c.locate.new.rig in
    let clean : AreClean lists.table.a = subst (λ (k : ScratchView). AreClean k.lists.table.a) (sym same) c.requires.fits.clean in
    let below : c.args.address < scratch.blocks = subst (λ (k : ScratchView). c.args.address < k.blocks) (sym same) c.requires.address in
    let sound : IsSound printed scratch old = subst (λ (k : ScratchView). IsSound printed k old) (sym same) was_sound in
    let l : Located printed scratch old new c.args.address c.locate.new.block c.in_ok-kind.kind c.in_ok-kind.given = c.in_ok-kind.ensures.located t scratch.blocks scratch.count below sound in
    let cut : Option BRow = (cut_of (read_of c.args.address c.in_ok-kind.given lists) lists).drop in
    let slots : c.touch-cut.new.slots ≡ slots_after cut (placed c.in_ok-kind.given scratch.slots) = c.touch-cut.ensures.slots ∙ ap (slots_after cut) c.in_ok-kind.ensures.slots in
    let more : scratch.count + 1 ≡ suc scratch.count = omega arith in
    let after : scratch_of scratch.blocks (g.L.Lists.listing c.touch-cut.new.lists) c.touch-cut.new.slots (scratch.count + 1) ≡ after_read c.args.address c.in_ok-kind.given scratch =
    λ i. scratch_of scratch.blocks (c.touch-cut.ensures.lists i) (slots i) (more i) in
    subst (λ (k : ScratchView). IsSound printed k new) (sym after)
    (read_sound printed scratch old new c.args.address c.locate.new.block c.in_ok-kind.kind c.in_ok-kind.given (g.met.L.Lists.kept c.self.inside.lists) clean below l)

pub returns-clause-fits : goal.returns-clause-fits
returns-clause-fits g c =
    let lists : Listing = g.L.Lists.listing c.self.inside.lists in
    let scratch : ScratchView = scratch_of c.self.inside.blocks lists c.self.inside.slots c.self.inside.count in
    let same : scratch ≡ c.args.self.now = c.self.view_is in
    let size = g.R.Rig.device_size in
    let cut : Option BRow = (cut_of (read_of c.args.address c.in_ok-kind.given lists) lists).drop in
    let slots : c.touch-cut.new.slots ≡ slots_after cut (placed c.in_ok-kind.given scratch.slots) = c.touch-cut.ensures.slots ∙ ap (slots_after cut) c.in_ok-kind.ensures.slots in
    let more : scratch.count + 1 ≡ suc scratch.count = omega arith in
    let after : scratch_of scratch.blocks (g.L.Lists.listing c.touch-cut.new.lists) c.touch-cut.new.slots (scratch.count + 1) ≡ after_read c.args.address c.in_ok-kind.given scratch =
    λ i. scratch_of scratch.blocks (c.touch-cut.ensures.lists i) (slots i) (more i) in
    let fits : Fits scratch (size c.args.rig.now) = subst (λ (k : ScratchView). Fits k (size c.args.rig.now)) (sym same) c.requires.fits in
    subst (λ (k : ScratchView). Fits k (size c.locate.new.rig)) (sym after)
    (subst (λ (s : Dev → ℕ). Fits (after_read c.args.address c.in_ok-kind.given scratch) s) (sym c.locate.ensures.frame.1)
    (read_fits scratch (size c.args.rig.now) c.args.address c.in_ok-kind.given (g.met.L.Lists.kept c.self.inside.lists) c.in_ok-kind.ensures.given fits))

pub returns-clause-asks_for : goal.returns-clause-asks_for
returns-clause-asks_for g c = λ t was_sound.
    let printed = g.F.Fingerprint.printed c.args.print.now in
    let lists : Listing = g.L.Lists.listing c.self.inside.lists in
    let scratch : ScratchView = scratch_of c.self.inside.blocks lists c.self.inside.slots c.self.inside.count in
    let same : scratch ≡ c.args.self.now = c.self.view_is in
    let old : World = g.R.Rig.world c.args.rig.now in
    let new : World = g.R.Rig.world c.locate.new.rig in
    let kind = c.in_ok-kind.kind in
    let clean : AreClean lists.table.a = subst (λ (k : ScratchView). AreClean k.lists.table.a) (sym same) c.requires.fits.clean in
    let below : c.args.address < scratch.blocks = subst (λ (k : ScratchView). c.args.address < k.blocks) (sym same) c.requires.address in
    let sound : IsSound printed scratch old = subst (λ (k : ScratchView). IsSound printed k old) (sym same) was_sound in
    let l : Located printed scratch old new c.args.address c.locate.new.block kind c.in_ok-kind.given = c.in_ok-kind.ensures.located t scratch.blocks scratch.count below sound in
    let slots = read_slots printed scratch old new c.args.address c.locate.new.block kind c.in_ok-kind.given (g.met.L.Lists.kept c.self.inside.lists) clean below l c.in_ok-kind.ensures.given in
    let before = g.R.Rig.counts c.args.rig.now in
    let end = g.R.Rig.counts c.locate.new.rig in
    let asks : AsksFor scratch.slots.block scratch.lists.bcap (slots_for kind c.locate.new.block) (looks_for kind) (writes_for kind) before end = subst (λ n. AsksFor scratch.slots.block scratch.lists.bcap n (looks_for kind) (writes_for kind) before end) slots c.in_ok-kind.ensures.asks_for in
    subst (λ (k : ScratchView). AsksFor k.slots.block k.lists.bcap (slots_for kind c.locate.new.block) (looks_for kind) (writes_for kind) before end) same asks
