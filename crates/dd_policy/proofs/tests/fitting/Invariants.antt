use Rattle.std.proofs.Common.{◌≡◌, ◌≤◌}
use Rattle.dd_policy.proofs.tests.fitting.Given as goal

abbrev pub invariant-loop-step : goal.invariant-loop-step
invariant-loop-step g l = ((g.A.Lists.listing l.first).slots ≡ 24) × ((g.B.Lists.listing l.second).slots ≡ 24) × (l.fit ≤ l._step)
