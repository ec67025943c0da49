-- The walk of plain vectors comes to each dirty address that is linked to a slot, once: a law of `Lists`.
use Rattle.std.specs.Prelude.{◌≡◌, ℕ, ◌==◌, ◌&&◌, ◌||◌, Bool, true, false, List, [], ◌∷◌, map, filter, refl}
use Rattle.std.proofs.Common.{cond, ap}
use Rattle.std.specs.List.{AllByRecursion, IsDistinct}
use Rattle.dd_slots.specs.Numbers.{is_among, Enumerates}
use Rattle.dd_record.specs.declared.row.ARow.{ARow}
use Rattle.dd_model.specs.Listing.{is_owed, is_referrer}
use Rattle.dd_model.specs.Plain.{owed_to}

among_if : (n : ℕ) (b : Bool) (row : ARow) (passing : List ARow) (rest : Bool) → is_among n (map (λ (r : ARow). r.address) passing) ≡ rest
    → is_among n (map (λ (r : ARow). r.address) (cond b (row ∷ passing) passing)) ≡ (b && n == row.address || rest)
among_if n true row passing rest is = ap (λ t. n == row.address || t) is
among_if n false row passing rest is = is

among_owed : (slot n : ℕ) (rows : List ARow) → is_among n (owed_to slot rows) ≡ is_referrer slot rows n
among_owed slot n [] = refl
among_owed slot n (row ∷ rows) = among_if n (is_owed slot row) row (filter (λ r. is_owed slot r) rows) (is_referrer slot rows n) (among_owed slot n rows)

others_owed : (slot n : ℕ) (rows : List ARow) → AllByRecursion (λ row. (n == row.address) ≡ false) rows → AllByRecursion (λ m. (n == m) ≡ false) (owed_to slot rows)
others_owed slot n [] h = tt
others_owed slot n (row ∷ rows) h = by_test (is_owed slot row) (others_owed slot n rows h.1)
  where
    by_test : (b : Bool) → AllByRecursion (λ m. (n == m) ≡ false) (owed_to slot rows) → AllByRecursion (λ m. (n == m) ≡ false) (map (λ (r : ARow). r.address) (cond b (row ∷ filter (λ r. is_owed slot r) rows) (filter (λ r. is_owed slot r) rows)))
    by_test true rest = (h.0, rest)
    by_test false rest = rest

once_owed : (slot : ℕ) (rows : List ARow) → IsDistinct (λ x y. x.address == y.address) rows → IsDistinct (λ m n. m == n) (owed_to slot rows)
unfolding IsDistinct
once_owed slot [] h = tt
once_owed slot (row ∷ rows) h = by_test (is_owed slot row) (once_owed slot rows h.1)
  where
    by_test : (b : Bool) → IsDistinct (λ m n. m == n) (owed_to slot rows) → IsDistinct (λ m n. m == n) (map (λ (r : ARow). r.address) (cond b (row ∷ filter (λ r. is_owed slot r) rows) (filter (λ r. is_owed slot r) rows)))
    by_test true rest = (others_owed slot row.address rows h.0, rest)
    by_test false rest = rest

pub owed_ones : (slot : ℕ) (rows : List ARow) → IsDistinct (λ x y. x.address == y.address) rows → Enumerates (is_referrer slot rows) (owed_to slot rows)
owed_ones slot rows apart = record { each = λ n. among_owed slot n rows; once = once_owed slot rows apart }
