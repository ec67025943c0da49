use Rattle.std.proofs.Common.{◌∙◌, ◌<◌, ap, sym, subst, refl, ℕ}
use Rattle.std.specs.List.{list_any}
use Rattle.dd_record.specs.declared.row.ARow.{ARow}
use Rattle.dd_record.specs.Table.{is_slot}
use Rattle.dd_meta.specs.Entries.{Meta, rows_of}
use Rattle.dd_meta.proofs.Referring.{dirty_refers, rest_refers}
use Rattle.dd_meta.proofs.meta.MetaCache.is_referred.Goals as goal

pub returns-then-has_any : goal.returns-then-has_any
returns-then-has_any c =
    let low : c.args.slot < c.self.inside.slots = subst (λ (n : ℕ). c.args.slot < n) (sym (ap (λ (m : Meta). m.slots) c.self.view_is)) c.requires in
    c.if-has_any.true ∙ sym (dirty_refers c.self.invariant c.args.slot low _ refl (sym c.has_any.ensures ∙ c.if-has_any.true))
    ∙ ap (λ (m : Meta). list_any (λ (row : ARow). is_slot c.args.slot row.link) (rows_of m)) c.self.view_is

pub returns-else-has_any : goal.returns-else-has_any
returns-else-has_any c =
    let low : c.args.slot < c.self.inside.slots = subst (λ (n : ℕ). c.args.slot < n) (sym (ap (λ (m : Meta). m.slots) c.self.view_is)) c.requires in
    rest_refers c.self.invariant c.args.slot low c.has_any-else-has_any.result c.has_any-else-has_any.ensures (sym c.has_any.ensures ∙ c.if-has_any.false)
    ∙ ap (λ (m : Meta). list_any (λ (row : ARow). is_slot c.args.slot row.link) (rows_of m)) c.self.view_is
