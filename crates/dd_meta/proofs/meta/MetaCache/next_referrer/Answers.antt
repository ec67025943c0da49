use Rattle.std.proofs.Common.{◌≡◌, ◌∙◌, ◌<◌, ap, sym, subst, Some, true, ℕ, Option, None}
use Rattle.dd_lists.specs.Lists.{is_in, list_at}
use Rattle.dd_lists.proofs.Members.{listed_from}
use Rattle.dd_lists.proofs.Found.{first_in_list, behind_in_list}
use Rattle.dd_meta.specs.Entries.{Meta, owed_to}
use Rattle.dd_meta.specs.Walks.{but, next_of, IsWalked}
use Rattle.dd_meta.proofs.Rows.{first_in}
use Rattle.dd_meta.proofs.Stepping.{but_in}
use Rattle.dd_meta.proofs.Walking.{list_listed, owed_node, owed_some, owed_first, owed_next}
use Rattle.dd_meta.proofs.meta.MetaCache.next_referrer.Goals as goal

pub pass-requires-clause-listed : goal.pass-requires-clause-listed
pass-requires-clause-listed c =
    list_listed c.front.result c.args.slot c.self.inside.nodes.referrers (λ n e. first_in_list n (list_at c.args.slot c.self.inside.nodes.referrers) (sym c.front.ensures.first ∙ e))

pub next-requires : goal.next-requires
next-requires c =
    let low : c.args.slot < c.self.inside.slots = subst (λ (n : ℕ). c.args.slot < n) (sym (ap (λ (m : Meta). m.slots) c.self.view_is)) c.requires.slot in
    let here = first_in c.self.invariant c.in-Some.address _ c.in-Some-first.node _ c.first.ensures c.from.ensures c.in-Some-first.is in
    let walked : is_in c.in-Some.address (but c.args.skip (owed_to c.args.slot c.args.self.now)) ≡ true = subst (λ (o : Option ℕ). IsWalked o (but c.args.skip (owed_to c.args.slot c.args.self.now))) c.in-Some.is c.requires.walked in
    let there = ap (λ (m : Meta). is_in c.in-Some.address (owed_to c.args.slot m)) c.self.view_is ∙ (but_in c.in-Some.address c.args.skip (owed_to c.args.slot c.args.self.now) walked).0 in
    listed_from c.in-Some-first.node c.args.slot c.self.inside.nodes.referrers (owed_node c.self.invariant c.args.slot low c.in-Some-first.node c.in-Some.address here.0 here.1 there)

pub pass-requires-in-Some-first-clause-listed : goal.pass-requires-in-Some-first-clause-listed
pass-requires-in-Some-first-clause-listed c =
    let low : c.args.slot < c.self.inside.slots = subst (λ (n : ℕ). c.args.slot < n) (sym (ap (λ (m : Meta). m.slots) c.self.view_is)) c.requires.slot in
    let here = first_in c.self.invariant c.in-Some.address _ c.in-Some-first.node _ c.first.ensures c.from.ensures c.in-Some-first.is in
    let walked : is_in c.in-Some.address (but c.args.skip (owed_to c.args.slot c.args.self.now)) ≡ true = subst (λ (o : Option ℕ). IsWalked o (but c.args.skip (owed_to c.args.slot c.args.self.now))) c.in-Some.is c.requires.walked in
    let there = ap (λ (m : Meta). is_in c.in-Some.address (owed_to c.args.slot m)) c.self.view_is ∙ (but_in c.in-Some.address c.args.skip (owed_to c.args.slot c.args.self.now) walked).0 in
    let inside = owed_node c.self.invariant c.args.slot low c.in-Some-first.node c.in-Some.address here.0 here.1 there in
    list_listed c.next.result c.args.slot c.self.inside.nodes.referrers (λ n e. behind_in_list c.in-Some-first.node n (list_at c.args.slot c.self.inside.nodes.referrers) (sym (c.next.ensures.next c.args.slot inside) ∙ e))

pub returns-in-None : goal.returns-in-None
returns-in-None c =
    let low : c.args.slot < c.self.inside.slots = subst (λ (n : ℕ). c.args.slot < n) (sym (ap (λ (m : Meta). m.slots) c.self.view_is)) c.requires.slot in
    owed_first c.self.invariant c.args.slot low c.args.skip c.front.result c.pass.result c.pass.ensures c.front.ensures.first
    ∙ ap (λ (m : Meta). next_of None (but c.args.skip (owed_to c.args.slot m))) c.self.view_is
    ∙ sym (ap (λ o. next_of o (but c.args.skip (owed_to c.args.slot c.args.self.now))) c.in-None.is)

pub returns-in-Some-first : goal.returns-in-Some-first
returns-in-Some-first c =
    let low : c.args.slot < c.self.inside.slots = subst (λ (n : ℕ). c.args.slot < n) (sym (ap (λ (m : Meta). m.slots) c.self.view_is)) c.requires.slot in
    let here = first_in c.self.invariant c.in-Some.address _ c.in-Some-first.node _ c.first.ensures c.from.ensures c.in-Some-first.is in
    let walked : is_in c.in-Some.address (but c.args.skip (owed_to c.args.slot c.args.self.now)) ≡ true = subst (λ (o : Option ℕ). IsWalked o (but c.args.skip (owed_to c.args.slot c.args.self.now))) c.in-Some.is c.requires.walked in
    let there = ap (λ (m : Meta). is_in c.in-Some.address (owed_to c.args.slot m)) c.self.view_is ∙ (but_in c.in-Some.address c.args.skip (owed_to c.args.slot c.args.self.now) walked).0 in
    let inside = owed_node c.self.invariant c.args.slot low c.in-Some-first.node c.in-Some.address here.0 here.1 there in
    owed_next c.self.invariant c.args.slot low c.args.skip c.next.result c.pass-in-Some-first.result c.pass-in-Some-first.ensures c.in-Some-first.node c.in-Some.address here.0 here.1
    (ap (λ (m : Meta). is_in c.in-Some.address (but c.args.skip (owed_to c.args.slot m))) c.self.view_is ∙ walked) (c.next.ensures.next c.args.slot inside)
    ∙ ap (λ (m : Meta). next_of (Some c.in-Some.address) (but c.args.skip (owed_to c.args.slot m))) c.self.view_is
    ∙ sym (ap (λ o. next_of o (but c.args.skip (owed_to c.args.slot c.args.self.now))) c.in-Some.is)

pub returns-in-None-first : goal.returns-in-None-first
returns-in-None-first c =
    let low : c.args.slot < c.self.inside.slots = subst (λ (n : ℕ). c.args.slot < n) (sym (ap (λ (m : Meta). m.slots) c.self.view_is)) c.requires.slot in
    let walked : is_in c.in-Some.address (but c.args.skip (owed_to c.args.slot c.args.self.now)) ≡ true = subst (λ (o : Option ℕ). IsWalked o (but c.args.skip (owed_to c.args.slot c.args.self.now))) c.in-Some.is c.requires.walked in
    let there = ap (λ (m : Meta). is_in c.in-Some.address (owed_to c.args.slot m)) c.self.view_is ∙ (but_in c.in-Some.address c.args.skip (owed_to c.args.slot c.args.self.now) walked).0 in
    absurd (owed_some c.self.invariant c.args.slot low c.in-Some.address _ _ c.first.ensures c.from.ensures c.in-None-first.is there)
