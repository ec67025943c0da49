use Rattle.std.proofs.Common.{refl, sym, ◌∙◌, arith}
use Rattle.dd_lists.proofs.Members.{first_is, none_since, moved_first}
use Rattle.dd_lists.proofs.Views.{place_within, listed_place, before_is, distinct_is}
use Rattle.dd_lists.proofs.lists.Lists.is_first.Goals as goal

pub index-requires : goal.index-requires
index-requires c =
    let within = place_within c.args.number c.self.invariant c.self.view_is (listed_place c.args.number c.self.invariant c.self.view_is c.requires) refl refl in
    omega (arith, within.back)

pub returns-clause-first : goal.returns-clause-first
returns-clause-first c =
    λ list there.
    first_is c.number.result _ c.is_none.result c.is_none.ensures
    (c.number.ensures ∙ before_is c.self.inside.room c.self.inside.next.items c.self.inside.prev.items c.args.self.now c.args.number c.index.result.now c.self.invariant c.self.view_is c.index.ensures list there)

pub returns-clause-stays : goal.returns-clause-stays
returns-clause-stays c =
    λ first.
    moved_first c.args.number c.args.self.now.lists
    (λ l. distinct_is c.self.inside.room c.self.inside.next.items c.self.inside.prev.items c.args.self.now l c.self.invariant c.self.view_is)
    (λ l there.
    sym (before_is c.self.inside.room c.self.inside.next.items c.self.inside.prev.items c.args.self.now c.args.number c.index.result.now c.self.invariant c.self.view_is c.index.ensures l there)
    ∙ sym c.number.ensures ∙ none_since c.number.result c.is_none.result c.is_none.ensures first)
