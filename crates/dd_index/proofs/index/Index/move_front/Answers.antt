use Rattle.std.proofs.Common.{ℕ, List, subst, sym, ap, arith}
use Rattle.dd_index.specs.Index.{Index, Fronts}
use Rattle.dd_index.proofs.Under.{stored_listed, stored_is, stored_low, stored_in, moved_chained, moved_fronts}
use Rattle.dd_index.proofs.index.Index.move_front.Goals as goal

pub is_first-requires : goal.is_first-requires
is_first-requires c = stored_listed c.self.invariant c.args.node (stored_is c.self.invariant c.args.self.now c.self.view_is c.args.node c.requires)

pub index-requires : goal.index-requires
index-requires c = let low = stored_low c.self.invariant c.args.self.now c.self.view_is c.args.node c.requires in omega (arith, low)

pub move_front-requires : goal.move_front-requires
move_front-requires c = stored_in c.self.invariant c.args.self.now c.self.view_is c.args.node c.index.result.now c.bucket-list.result c.requires c.index.ensures c.bucket-list.ensures.value

pub invariant_of-self : goal.invariant_of-self
invariant_of-self c = moved_chained c.self.invariant c.args.node c.move_front.new.self c.move_front.ensures

pub returns-then-not-is_first : goal.returns-then-not-is_first
returns-then-not-is_first c =
    moved_fronts c.self.inside.buckets c.self.inside.keys.items c.self.inside.chains c.args.self.now c.args.node c.move_front.new.self c.self.invariant c.self.view_is c.move_front.ensures

pub returns-else-not-is_first : goal.returns-else-not-is_first
returns-else-not-is_first c =
    let chains = c.self.inside.chains in
    subst (λ (v : Index). Fronts c.args.self.now v c.args.node) c.self.view_is
    (moved_fronts c.self.inside.buckets c.self.inside.keys.items chains c.args.self.now c.args.node chains c.self.invariant c.self.view_is
    (ap (λ (ls : List (List ℕ)). record chains { lists = ls }) (sym (c.is_first.ensures.stays c.if-not-is_first.false))))
