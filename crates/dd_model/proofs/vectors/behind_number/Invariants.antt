use Rattle.std.proofs.Common.{◌≡◌, ◌==◌, drop}
use Rattle.dd_record.specs.Listed.{row_behind}
use Rattle.dd_model.proofs.vectors.behind_number.Given as goal

abbrev pub invariant-loop-i : goal.invariant-loop-i
invariant-loop-i l = row_behind (λ other. other == l.number) l.numbers ≡ row_behind (λ other. other == l.number) (drop l.i l.numbers)
