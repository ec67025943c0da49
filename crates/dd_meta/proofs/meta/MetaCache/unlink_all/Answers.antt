use Rattle.std.proofs.Common.{◌≡◌, ◌∙◌, ap, sym, subst, map, true, false}
use Rattle.std.specs.List.{AllByRecursion}
use Rattle.dd_record.specs.declared.row.ARow.{ARow}
use Rattle.dd_record.specs.Table.{is_slot}
use Rattle.dd_meta.specs.Entries.{Meta, rows_of, unlinked}
use Rattle.dd_meta.proofs.Unlinking.{clean_from, unlinked_rows}
use Rattle.dd_meta.proofs.Facts.{meta_kept}
use Rattle.dd_meta.proofs.meta.MetaCache.unlink_all.Goals as goal

pub invariant_of-self : goal.invariant_of-self
invariant_of-self c =
    let clean = clean_from c.args.slot c.self.inside.nodes (subst (λ (m : Meta). AllByRecursion (λ (row : ARow). is_slot c.args.slot row.link ≡ true → row.dirty ≡ false) (rows_of m)) (sym c.self.view_is) c.requires.clean) in
    c.unlink_referrers.ensures.matches c.self.inside.acap c.self.inside.index c.self.invariant clean

pub returns-clause-after : goal.returns-clause-after
returns-clause-after c =
    let clean = clean_from c.args.slot c.self.inside.nodes (subst (λ (m : Meta). AllByRecursion (λ (row : ARow). is_slot c.args.slot row.link ≡ true → row.dirty ≡ false) (rows_of m)) (sym c.self.view_is) c.requires.clean) in
    c.unlink_referrers.ensures.shows c.self.inside.acap c.self.inside.index c.self.invariant clean
    ∙ ap (λ (m : Meta). record { acap = m.acap; slots = m.slots; entries = map (unlinked c.args.slot) m.entries; dirty = m.dirty; owed = m.owed }) c.self.view_is

pub returns-clause-keeps : goal.returns-clause-keeps
returns-clause-keeps c =
    let clean = clean_from c.args.slot c.self.inside.nodes (subst (λ (m : Meta). AllByRecursion (λ (row : ARow). is_slot c.args.slot row.link ≡ true → row.dirty ≡ false) (rows_of m)) (sym c.self.view_is) c.requires.clean) in
    meta_kept (c.unlink_referrers.ensures.matches c.self.inside.acap c.self.inside.index c.self.invariant clean)

pub returns-clause-rows : goal.returns-clause-rows
returns-clause-rows c =
    let clean = clean_from c.args.slot c.self.inside.nodes (subst (λ (m : Meta). AllByRecursion (λ (row : ARow). is_slot c.args.slot row.link ≡ true → row.dirty ≡ false) (rows_of m)) (sym c.self.view_is) c.requires.clean) in
    ap rows_of (c.unlink_referrers.ensures.shows c.self.inside.acap c.self.inside.index c.self.invariant clean
    ∙ ap (λ (m : Meta). record { acap = m.acap; slots = m.slots; entries = map (unlinked c.args.slot) m.entries; dirty = m.dirty; owed = m.owed }) c.self.view_is) ∙ unlinked_rows c.args.slot c.args.self.now.entries
