use Rattle.std.proofs.Common.{◌≡◌, drop}
use Rattle.dd_model.specs.Plain.{behind_row}
use Rattle.dd_model.proofs.vectors.referrer_behind.Given as goal

abbrev pub invariant-loop-i : goal.invariant-loop-i
invariant-loop-i l = behind_row l.slot l.skip l.address l.rows ≡ behind_row l.slot l.skip l.address (drop l.i l.rows)
