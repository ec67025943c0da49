use Rattle.std.proofs.Common.{◌≡◌, length}
use Rattle.dd_meta.proofs.meta.MetaCache.clear.Given as goal

abbrev pub invariant-loop-node : goal.invariant-loop-node
invariant-loop-node l = (l.self.acap ≡ l.fn.self.acap) × (l.self.slots ≡ l.fn.self.slots)

abbrev pub decreases-loop-node : goal.decreases-loop-node
decreases-loop-node l = length l.self.entries
