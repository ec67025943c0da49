use Rattle.std.proofs.Common.{◌∙◌, ap, List}
use Rattle.dd_slots.specs.declared.usage.Usage.{Usage}
use Rattle.dd_slots.specs.declared.usage.Usage.TheVariants.{Waiting}
use Rattle.dd_slots.specs.Slots.{SlotsView, settled, with_use}
use Rattle.dd_serve.proofs.SlotUses.{given_back}
use Rattle.dd_serve.proofs.locating.save_new.Goals as goal

pub returns-in-Err-clause-kept : goal.returns-in-Err-clause-kept
returns-in-Err-clause-kept g c =
    let slots : SlotsView = c.args.slots.now in
    c.give_back.ensures
    ∙ ap (λ (s : SlotsView). settled (with_use c.take_free-slot.result Waiting s)) c.take_free-slot.ensures.slots
    ∙ ap (λ (uses : List Usage). record slots { uses = uses }) (given_back slots.uses c.take_free-slot.result c.take_free-slot.ensures.free c.requires.none_waits)
