use Rattle.std.proofs.Common.{◌==◌, List, subst, sym}
use Rattle.std.specs.List.{IsDistinct}
use Rattle.dd_record.specs.declared.row.BRow.{BRow}
use Rattle.dd_model.proofs.plain.PlainListsLists.confirm.Goals as goal

pub confirm-requires-clause-apart : goal.confirm-requires-clause-apart
confirm-requires-clause-apart g c = subst (λ (rows : List BRow). IsDistinct (λ x y. x.slot == y.slot) rows) (sym c.deref.ensures.value) c.args.self.now.keeps.fit.slots
