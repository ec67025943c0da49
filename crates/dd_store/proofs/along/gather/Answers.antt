use Rattle.std.proofs.Common.{◌≡◌, ◌++◌, ◌∷◌, [], List, ℕ, Some, None, sym, ◌∙◌, ap, arith, length, length-append}
use Rattle.dd_model.specs.Listing.{left_of, next_of}
use Rattle.dd_model.proofs.Stepping.{next_among}
use Rattle.dd_store.specs.Rounds.{walk_of}
use Rattle.dd_store.proofs.Walks.{walk_apart, taken_more, taken_all}
use Rattle.dd_store.proofs.along.gather.Goals as goal

pub returns-in-None-clause-first : goal.returns-in-None-clause-first
returns-in-None-clause-first g c =
    let walk = walk_of c.args.along (g.L.Lists.listing c.args.lists.now).dirty (g.L.Lists.referrers c.args.lists.now) in
    let last : next_of c.walk.after walk ≡ None = sym c.next_along.ensures ∙ c.in-None.is in
    taken_all walk c.walk.into.items c.walk.after c.args.most c.walk.invariant.so_far last c.walk.invariant.few

pub walk-preserved : goal.walk-preserved
walk-preserved g c =
    let lists = g.L.Lists.listing c.args.lists.now in
    let referrers = g.L.Lists.referrers c.args.lists.now in
    let walk = walk_of c.args.along lists.dirty referrers in
    let next : next_of c.walk.after walk ≡ Some c.in-Some.address = sym c.next_along.ensures ∙ c.in-Some.is in
    record {
      walked = next_among c.walk.after c.in-Some.address walk next;
      so_far = ap (λ (ns : List ℕ). ns ++ left_of (Some c.in-Some.address) walk) c.push_reserved.ensures.items
          ∙ taken_more walk c.walk.into.items c.walk.after c.in-Some.address
          (walk_apart lists referrers (g.met.L.Lists.kept c.args.lists.now) (λ slot. g.met.L.Lists.walked c.args.lists.now slot) c.args.along) c.walk.invariant.so_far next;
      few = omega (arith, ap (λ (ns : List ℕ). length ns) c.push_reserved.ensures.items, length-append c.walk.into.items (c.in-Some.address ∷ []), c.walk-test.true, c.len.ensures);
      capacity = c.push_reserved.ensures.capacity ∙ c.walk.invariant.capacity;
    }
