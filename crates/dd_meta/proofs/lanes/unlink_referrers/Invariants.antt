use Rattle.std.proofs.Common.{length, ◌+◌}
use Rattle.dd_lists.specs.Lists.{list_at}
use Rattle.dd_meta.proofs.Unlinking.{Unlinking}
use Rattle.dd_meta.proofs.lanes.unlink_referrers.Given as goal

abbrev pub invariant-loop-node : goal.invariant-loop-node
invariant-loop-node l = Unlinking l.slot l.slots l.fn.nodes l.nodes

abbrev pub decreases-loop-node : goal.decreases-loop-node
decreases-loop-node l = length (list_at (l.slots + l.slot) l.nodes.referrers)
