use Rattle.std.proofs.Common.{sym, ◌∙◌}
use Rattle.dd_store.proofs.UsedSlots.{none_has, some_has}
use Rattle.dd_store.proofs.used.is_listed.Goals as goal

pub returns-in-None : goal.returns-in-None
returns-in-None g c = sym (none_has c.args.slot (g.L.Lists.listing c.args.lists.now).table.b (sym c.block.ensures ∙ c.in-None.is))

pub returns-in-Some : goal.returns-in-Some
returns-in-Some g c = sym (some_has c.args.slot c.in-Some.field-0 (g.L.Lists.listing c.args.lists.now).table.b (sym c.block.ensures ∙ c.in-Some.is))
