use Rattle.std.proofs.Common.{List, ◌∙◌, ap}
use Rattle.dd_record.specs.declared.row.ARow.{ARow}
use Rattle.dd_model.specs.Plain.{referrer_behind}
use Rattle.dd_model.proofs.Referring.{walk_is}
use Rattle.dd_model.proofs.plain.PlainListsLists.next_referrer.Goals as goal

pub returns : goal.returns
returns c = c.next_referrer.ensures ∙ ap (λ (rows : List ARow). referrer_behind c.args.slot c.args.skip c.args.after rows) c.deref.ensures.value ∙ walk_is c.args.slot c.args.skip c.args.after c.args.self.now.a.items
