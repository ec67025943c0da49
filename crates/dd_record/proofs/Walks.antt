-- The row behind a row.
use Rattle.std.proofs.Common.{◌≡◌, Bool, true, false, List, [], ◌∷◌, ◌++◌, refl}
use Rattle.std.specs.List.{AllByRecursion}
use Rattle.std.specs.Prelude.{slice_get}
use Rattle.dd_record.specs.Listed.{row_behind}

-- where no row in front of it passes, the row behind the one that passes is the first of the rest
pub row_behind-append : {Row : Type 0} (passes : Row → Bool) (front : List Row) (row : Row) (behind : List Row)
    → AllByRecursion (λ r. passes r ≡ false) front → passes row ≡ true → row_behind passes (front ++ row ∷ behind) ≡ slice_get behind 0
row_behind-append passes [] row behind h is = rw is refl
row_behind-append passes (r ∷ rows) row behind h is = rw h.0 (row_behind-append passes rows row behind h.1 is)
