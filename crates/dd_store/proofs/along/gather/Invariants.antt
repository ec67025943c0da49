use Rattle.std.proofs.Common.{◌≡◌, ◌-◌, ◌≤◌, ◌++◌, length}
use Rattle.std.specs.Prelude.{vec_capacity}
use Rattle.dd_model.specs.Listing.{IsWalked, left_of}
use Rattle.dd_store.specs.Rounds.{walk_of}
use Rattle.dd_store.proofs.along.gather.Given as goal

-- what was taken, and what the walk still comes to
abbrev pub invariant-walk : goal.invariant-walk
invariant-walk g l =
    let walk = walk_of l.along (g.L.Lists.listing l.lists).dirty (g.L.Lists.referrers l.lists) in
    record {
      walked : IsWalked l.after walk;
      so_far : l.into.items ++ left_of l.after walk ≡ walk;
      few : length l.into.items ≤ l.most;
      capacity : vec_capacity l.into ≡ vec_capacity l.initial.into;
    }

abbrev pub decreases-walk : goal.decreases-walk
decreases-walk g l = l.most - length l.into.items
