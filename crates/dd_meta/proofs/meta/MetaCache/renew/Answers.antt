use Rattle.std.proofs.Common.{◌≡◌, ◌∙◌, ap, sym, subst, false}
use Rattle.std.specs.Prelude.{IfSome}
use Rattle.std.proofs.lemmas.Bool.{false≢true}
use Rattle.dd_record.specs.declared.row.ARow.{ARow}
use Rattle.dd_record.specs.Table.{a_row}
use Rattle.dd_lists.specs.Nodes.{Nodes}
use Rattle.dd_meta.specs.Entries.{Meta, Renews, is_listed_address, rows_of}
use Rattle.dd_meta.specs.Keeping.{IsMeta}
use Rattle.dd_meta.specs.Matching.{Matches, shown}
use Rattle.dd_meta.proofs.Facts.{meta_kept}
use Rattle.dd_meta.proofs.Rows.{first_in, first_node, first_out}
use Rattle.dd_meta.proofs.Fronting.{moved_matches, moved_renews}
use Rattle.dd_meta.proofs.meta.MetaCache.renew.Goals as goal

pub move_front-requires : goal.move_front-requires
move_front-requires c = (first_in c.self.invariant c.args.address _ c.in-Some.node _ c.first.ensures c.from.ensures c.in-Some.is).0

pub invariant_of-self : goal.invariant_of-self
invariant_of-self c =
    let here = first_in c.self.invariant c.args.address _ c.in-Some.node _ c.first.ensures c.from.ensures c.in-Some.is in
    subst (λ (n : Nodes ARow). Matches c.self.inside.acap c.self.inside.slots n c.self.inside.index) (sym c.move_front.ensures) (moved_matches c.self.invariant c.in-Some.node here.0)

pub unreachable-requires : goal.unreachable-requires
unreachable-requires c =
    let out : is_listed_address c.args.address c.args.self.now ≡ false = sym (ap (is_listed_address c.args.address) c.self.view_is) ∙ first_out c.self.invariant c.args.address _ _ c.first.ensures c.from.ensures c.in-None.is in
    false≢true (sym out ∙ c.requires)

pub returns-clause-after : goal.returns-clause-after
returns-clause-after c =
    let here = first_in c.self.invariant c.args.address _ c.in-Some.node _ c.first.ensures c.from.ensures c.in-Some.is in
    subst (λ (m : Meta). IfSome (a_row c.args.address (rows_of m)) (Renews m (shown c.self.inside.acap c.self.inside.slots c.move_front.new.self))) c.self.view_is
    (subst (λ (n : Nodes ARow). IfSome (a_row c.args.address (rows_of (shown c.self.inside.acap c.self.inside.slots c.self.inside.nodes))) (Renews (shown c.self.inside.acap c.self.inside.slots c.self.inside.nodes) (shown c.self.inside.acap c.self.inside.slots n))) (sym c.move_front.ensures)
    (moved_renews c.self.invariant c.in-Some.node here.0 c.args.address here.1 (first_node c.self.invariant c.args.address _ c.in-Some.node _ c.first.ensures c.from.ensures c.in-Some.is)))

pub returns-clause-keeps : goal.returns-clause-keeps
returns-clause-keeps c =
    let here = first_in c.self.invariant c.args.address _ c.in-Some.node _ c.first.ensures c.from.ensures c.in-Some.is in
    subst (λ (n : Nodes ARow). IsMeta (shown c.self.inside.acap c.self.inside.slots n)) (sym c.move_front.ensures) (meta_kept (moved_matches c.self.invariant c.in-Some.node here.0))
