use Rattle.std.proofs.Common.{length}
use Rattle.dd_index.specs.Index.{nodes_of}
use Rattle.dd_index.specs.Chains.{from_on}
use Rattle.dd_data.specs.Matching.{key_of, has_print}
use Rattle.dd_data.proofs.Seeking.{IsSought}
use Rattle.dd_data.proofs.walks.seek.Given as goal

abbrev pub invariant-loop-at : goal.invariant-loop-at
invariant-loop-at l = IsSought (has_print l.prints l.fp) (nodes_of (key_of l.fp) l.index) l.fn.from l.at

abbrev pub decreases-loop-at : goal.decreases-loop-at
decreases-loop-at l = length (from_on l.at (nodes_of (key_of l.fp) l.index))
