use Rattle.std.proofs.Common.{◌≡◌, false, length, ◌∙◌, ap, subst, arith}
use Rattle.dd_record.specs.Table.{Table, is_dirty_at}
use Rattle.dd_model.proofs.Restored.{dirty_listed, none_dirty_at}
use Rattle.dd_answers.proofs.serving.knows_dirty.Goals as goal

pub returns-clause-listed : goal.returns-clause-listed
returns-clause-listed g c =
    omega (arith, dirty_listed (g.L.Lists.listing c.lists.result.now) (g.met.L.Lists.kept c.lists.result.now), ap length c.lists.ensures.dirty, ap (λ (t : Table). length t.a) c.lists.ensures.table)

pub returns-clause-none : goal.returns-clause-none
returns-clause-none g c = λ empty address.
    subst (λ (t : Table). is_dirty_at address t.a ≡ false) c.lists.ensures.table (none_dirty_at (g.L.Lists.listing c.lists.result.now) (g.met.L.Lists.kept c.lists.result.now) (c.lists.ensures.dirty ∙ empty) address)
