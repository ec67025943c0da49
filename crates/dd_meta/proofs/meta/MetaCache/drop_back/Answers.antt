use Rattle.std.proofs.Common.{◌∙◌, ◌-◌, ap, sym, subst, set, None, slice_get, length}
use Rattle.dd_record.specs.declared.row.ARow.{ARow}
use Rattle.dd_lists.specs.Lists.{taken_out}
use Rattle.dd_lists.specs.Nodes.{Nodes, IsUnlisted, value_at}
use Rattle.dd_meta.specs.Entries.{Meta, rows_of}
use Rattle.dd_meta.specs.Matching.{Matches, shown}
use Rattle.dd_meta.proofs.Dropping.{back_clean, back_row, back_stored, back_unlisted, not_empty, dropped_matches, dropped_shown, dropped_rows, value_is}
use Rattle.dd_meta.proofs.Facts.{meta_kept}
use Rattle.dd_meta.proofs.Placed.{placed_is}
use Rattle.dd_meta.proofs.meta.MetaCache.drop_back.Goals as goal

pub part-requires-clause-placed : goal.part-requires-clause-placed
part-requires-clause-placed c = placed_is c.self.invariant c.in-Some.node c.in-Some.ensures.live

pub remove-requires : goal.remove-requires
remove-requires c =
    let last = sym c.back.ensures.last ∙ c.in-Some.is in
    back_stored c.self.invariant c.in-Some.node last (back_clean c.self.inside.acap c.self.inside.slots c.self.inside.nodes c.args.self.now c.in-Some.node c.self.view_is last c.requires.clean)

pub remove-requires-in-Some-clause-unlisted : goal.remove-requires-in-Some-clause-unlisted
remove-requires-in-Some-clause-unlisted c =
    let last = sym c.back.ensures.last ∙ c.in-Some.is in
    let clean = back_clean c.self.inside.acap c.self.inside.slots c.self.inside.nodes c.args.self.now c.in-Some.node c.self.view_is last c.requires.clean in
    let after = c.unlink.ensures ∙ ap (λ (n : Nodes ARow). record { values = n.values; recency = taken_out c.in-Some.node n.recency; referrers = n.referrers; waiting = n.waiting }) c.part.ensures in
    subst (λ (n : Nodes ARow). IsUnlisted c.in-Some.node n) (sym after) (back_unlisted c.self.invariant c.in-Some.node last clean)

pub invariant_of-self : goal.invariant_of-self
invariant_of-self c =
    let last = sym c.back.ensures.last ∙ c.in-Some.is in
    let clean = back_clean c.self.inside.acap c.self.inside.slots c.self.inside.nodes c.args.self.now c.in-Some.node c.self.view_is last c.requires.clean in
    let after = c.unlink.ensures ∙ ap (λ (n : Nodes ARow). record { values = n.values; recency = taken_out c.in-Some.node n.recency; referrers = n.referrers; waiting = n.waiting }) c.part.ensures in
    let all = c.remove-in-Some.ensures.after ∙ ap (λ (n : Nodes ARow). record { values = set n.values c.in-Some.node None; recency = n.recency; referrers = n.referrers; waiting = n.waiting }) after in
    subst (λ (n : Nodes ARow). Matches c.self.inside.acap c.self.inside.slots n c.remove.new.self) (sym all) (dropped_matches c.self.invariant c.in-Some.node last clean c.remove.new.self c.remove.ensures)

pub unreachable-requires : goal.unreachable-requires
unreachable-requires c = not_empty c.self.inside.acap c.self.inside.slots c.self.inside.nodes c.args.self.now c.self.view_is c.requires.some (sym c.back.ensures.last ∙ c.in-None.is)

pub returns-clause-row : goal.returns-clause-row
returns-clause-row c =
    let last = sym c.back.ensures.last ∙ c.in-Some.is in
    let after = c.unlink.ensures ∙ ap (λ (n : Nodes ARow). record { values = n.values; recency = taken_out c.in-Some.node n.recency; referrers = n.referrers; waiting = n.waiting }) c.part.ensures in
    sym (ap (λ (m : Meta). slice_get (rows_of m) (length (rows_of m) - 1)) c.self.view_is)
    ∙ back_row c.self.inside.acap c.self.inside.slots c.self.inside.nodes c.in-Some.node last
    ∙ value_is c.self.inside.nodes c.in-Some.node c.remove-in-Some.result (sym (ap (value_at c.in-Some.node) after) ∙ c.remove-in-Some.ensures.value)

pub returns-clause-after : goal.returns-clause-after
returns-clause-after c =
    let last = sym c.back.ensures.last ∙ c.in-Some.is in
    let clean = back_clean c.self.inside.acap c.self.inside.slots c.self.inside.nodes c.args.self.now c.in-Some.node c.self.view_is last c.requires.clean in
    let after = c.unlink.ensures ∙ ap (λ (n : Nodes ARow). record { values = n.values; recency = taken_out c.in-Some.node n.recency; referrers = n.referrers; waiting = n.waiting }) c.part.ensures in
    let all = c.remove-in-Some.ensures.after ∙ ap (λ (n : Nodes ARow). record { values = set n.values c.in-Some.node None; recency = n.recency; referrers = n.referrers; waiting = n.waiting }) after in
    ap (shown c.self.inside.acap c.self.inside.slots) all ∙ dropped_shown c.self.invariant c.in-Some.node last clean c.remove.new.self c.remove.ensures c.args.self.now c.self.view_is

pub returns-clause-keeps : goal.returns-clause-keeps
returns-clause-keeps c =
    let last = sym c.back.ensures.last ∙ c.in-Some.is in
    let clean = back_clean c.self.inside.acap c.self.inside.slots c.self.inside.nodes c.args.self.now c.in-Some.node c.self.view_is last c.requires.clean in
    let after = c.unlink.ensures ∙ ap (λ (n : Nodes ARow). record { values = n.values; recency = taken_out c.in-Some.node n.recency; referrers = n.referrers; waiting = n.waiting }) c.part.ensures in
    let all = c.remove-in-Some.ensures.after ∙ ap (λ (n : Nodes ARow). record { values = set n.values c.in-Some.node None; recency = n.recency; referrers = n.referrers; waiting = n.waiting }) after in
    meta_kept (subst (λ (n : Nodes ARow). Matches c.self.inside.acap c.self.inside.slots n c.remove.new.self) (sym all) (dropped_matches c.self.invariant c.in-Some.node last clean c.remove.new.self c.remove.ensures))

pub returns-clause-rows : goal.returns-clause-rows
returns-clause-rows c =
    let last = sym c.back.ensures.last ∙ c.in-Some.is in
    let clean = back_clean c.self.inside.acap c.self.inside.slots c.self.inside.nodes c.args.self.now c.in-Some.node c.self.view_is last c.requires.clean in
    let after = c.unlink.ensures ∙ ap (λ (n : Nodes ARow). record { values = n.values; recency = taken_out c.in-Some.node n.recency; referrers = n.referrers; waiting = n.waiting }) c.part.ensures in
    let all = c.remove-in-Some.ensures.after ∙ ap (λ (n : Nodes ARow). record { values = set n.values c.in-Some.node None; recency = n.recency; referrers = n.referrers; waiting = n.waiting }) after in
    ap rows_of (ap (shown c.self.inside.acap c.self.inside.slots) all ∙ dropped_shown c.self.invariant c.in-Some.node last clean c.remove.new.self c.remove.ensures c.args.self.now c.self.view_is) ∙ dropped_rows c.args.self.now.entries
