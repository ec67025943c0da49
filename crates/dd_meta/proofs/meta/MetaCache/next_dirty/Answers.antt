use Rattle.std.proofs.Common.{◌≡◌, ◌∙◌, ap, sym, subst, Some, true, ℕ, Option}
use Rattle.std.specs.Prelude.{option_map}
use Rattle.dd_lists.specs.Lists.{is_in}
use Rattle.dd_lists.proofs.Members.{listed_from}
use Rattle.dd_meta.specs.Entries.{Meta}
use Rattle.dd_meta.specs.Matching.{address_of}
use Rattle.dd_meta.specs.Walks.{next_of, IsWalked}
use Rattle.dd_meta.proofs.Rows.{first_in}
use Rattle.dd_meta.proofs.Walking.{waits_node, waits_next, waits_some}
use Rattle.dd_meta.proofs.meta.MetaCache.next_dirty.Goals as goal

pub prev-requires : goal.prev-requires
prev-requires c =
    let here = first_in c.self.invariant c.in-Some.address _ c.in-Some-first.node _ c.first.ensures c.from.ensures c.in-Some-first.is in
    let walked : is_in c.in-Some.address c.args.self.now.dirty ≡ true = subst (λ (o : Option ℕ). IsWalked o c.args.self.now.dirty) c.in-Some.is c.requires in
    listed_from c.in-Some-first.node 0 c.self.inside.nodes.waiting
    (waits_node c.self.invariant c.in-Some-first.node c.in-Some.address here.0 here.1 (ap (λ (m : Meta). is_in c.in-Some.address m.dirty) c.self.view_is ∙ walked))

pub returns-in-Some-first : goal.returns-in-Some-first
returns-in-Some-first c =
    let here = first_in c.self.invariant c.in-Some.address _ c.in-Some-first.node _ c.first.ensures c.from.ensures c.in-Some-first.is in
    let walked : is_in c.in-Some.address c.args.self.now.dirty ≡ true = subst (λ (o : Option ℕ). IsWalked o c.args.self.now.dirty) c.in-Some.is c.requires in
    let there = ap (λ (m : Meta). is_in c.in-Some.address m.dirty) c.self.view_is ∙ walked in
    c.address_of.ensures
    ∙ ap (option_map (address_of c.self.inside.nodes)) (c.prev.ensures.prev 0 (waits_node c.self.invariant c.in-Some-first.node c.in-Some.address here.0 here.1 there))
    ∙ waits_next c.self.invariant c.in-Some-first.node c.in-Some.address here.0 here.1 there
    ∙ ap (λ (m : Meta). next_of (Some c.in-Some.address) m.dirty) c.self.view_is
    ∙ sym (ap (λ o. next_of o c.args.self.now.dirty) c.in-Some.is)

pub returns-in-None-first : goal.returns-in-None-first
returns-in-None-first c =
    let walked : is_in c.in-Some.address c.args.self.now.dirty ≡ true = subst (λ (o : Option ℕ). IsWalked o c.args.self.now.dirty) c.in-Some.is c.requires in
    absurd (waits_some c.self.invariant c.in-Some.address _ _ c.first.ensures c.from.ensures c.in-None-first.is (ap (λ (m : Meta). is_in c.in-Some.address m.dirty) c.self.view_is ∙ walked))
