use Rattle.std.proofs.Common.{◌≡◌, drop}
use Rattle.dd_model.specs.Orphans.{is_linked_to}
use Rattle.dd_model.proofs.orphans.is_linked_to.Given as goal

abbrev pub invariant-loop-row : goal.invariant-loop-row
invariant-loop-row l = is_linked_to l.slot l.rows ≡ is_linked_to l.slot (drop l.row-index l.rows)
