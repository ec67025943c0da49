use Rattle.std.proofs.Common.{◌≡◌, length}
use Rattle.dd_policy.proofs.restoring.clear_blocks.Given as goal

abbrev pub invariant-loop-blocks : goal.invariant-loop-blocks
invariant-loop-blocks l = (l.blocks.bcap ≡ l.fn.blocks.bcap) × (l.blocks.slots ≡ l.fn.blocks.slots)

abbrev pub decreases-loop-blocks : goal.decreases-loop-blocks
decreases-loop-blocks l = length l.blocks.rows
