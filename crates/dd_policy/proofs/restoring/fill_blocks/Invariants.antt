use Rattle.std.proofs.Common.{◌≡◌, drop}
use Rattle.dd_policy.proofs.restoring.fill_blocks.Given as goal

abbrev pub invariant-loop-at : goal.invariant-loop-at
invariant-loop-at l = l.blocks ≡ record { bcap = l.fn.blocks.bcap; slots = l.fn.blocks.slots; rows = drop l.at l.b }
