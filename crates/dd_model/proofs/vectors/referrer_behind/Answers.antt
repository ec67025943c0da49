use Rattle.std.proofs.Common.{◌<◌, List, length, sym, ◌∙◌, ap, arith}
use Rattle.std.proofs.lemmas.Bool.{eq-eqb}
use Rattle.dd_record.specs.declared.row.ARow.{ARow}
use Rattle.dd_model.specs.Plain.{first_referrer}
use Rattle.dd_model.proofs.Referring.{behind_here}
use Rattle.dd_model.proofs.vectors.referrer_behind.Goals as goal

pub returns-then-row-address : goal.returns-then-row-address
returns-then-row-address c =
    let here : c.loop-i.i < length c.args.rows.now = omega arith in
    c.find_referrer.ensures ∙ ap (λ (rows : List ARow). first_referrer c.args.slot c.args.skip rows) c.behind.ensures
    ∙ sym (behind_here c.args.slot c.args.skip c.args.address c.args.rows.now c.loop-i.i _ here (sym c.refers.ensures ∙ c.if-refers.true) (eq-eqb _ _ c.if-row-address.true)) ∙ sym c.loop-i.invariant
