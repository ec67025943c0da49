use Rattle.std.proofs.Common.{◌≤◌, length}
use Rattle.dd_rigmem.proofs.replay.last_sync.Given as goal

abbrev pub invariant-loop-end : goal.invariant-loop-end
invariant-loop-end l = l.end ≤ length l.events

abbrev pub decreases-loop-end : goal.decreases-loop-end
decreases-loop-end l = l.end
