-- A walk along numbers, step by step: it comes to each of them, in their order.
use Rattle.std.proofs.Common.{◌≡◌, ℕ, ◌==◌, Bool, true, false, cond, List, [], ◌∷◌, refl, ◌∙◌, ap, subst, Some, None}
use Rattle.std.specs.Prelude.{Option, slice_get}
use Rattle.std.specs.List.{AllByRecursion, IsDistinct}
use Rattle.std.proofs.lemmas.Bool.{eq-eqb, or_right}
use Rattle.dd_slots.specs.Numbers.{is_among}
use Rattle.dd_record.specs.Listed.{row_behind}
use Rattle.dd_model.specs.Listing.{next_of, left_of, behind}
use Rattle.dd_model.proofs.Oldest.{first_among}

-- the next one is the first of those that are left
next_behind : (number : ℕ) (numbers : List ℕ) → row_behind (λ other. other == number) numbers ≡ slice_get (behind number numbers) 0
next_behind number [] = refl
next_behind number (other ∷ numbers) = by_test (other == number) (next_behind number numbers)
  where
    by_test : (b : Bool) → row_behind (λ n. n == number) numbers ≡ slice_get (behind number numbers) 0
        → cond b (slice_get numbers 0) (row_behind (λ n. n == number) numbers) ≡ slice_get (cond b numbers (behind number numbers)) 0
    by_test true rest = refl
    by_test false rest = rest

pub next_left : (after : Option ℕ) (numbers : List ℕ) → next_of after numbers ≡ slice_get (left_of after numbers) 0
next_left None numbers = refl
next_left (Some number) numbers = next_behind number numbers

-- what holds of each holds of the one behind a number
behind_all : (P : ℕ → Type 0) (number next : ℕ) (rest numbers : List ℕ) → AllByRecursion P numbers → behind number numbers ≡ next ∷ rest → P next
behind_all P number next rest [] all is = absurd (cc is)
behind_all P number next rest (other ∷ numbers) all is = by_test (other == number) is (λ e. behind_all P number next rest numbers all.1 e)
  where
    by_test : (b : Bool) → cond b numbers (behind number numbers) ≡ next ∷ rest → (behind number numbers ≡ next ∷ rest → P next) → P next
    by_test true e later = (subst (AllByRecursion P) e all.1).0
    by_test false e later = later e

-- behind the next one the others are left
from_number : (number next : ℕ) (rest numbers : List ℕ) → IsDistinct (λ m n. m == n) numbers → behind number numbers ≡ next ∷ rest → behind next numbers ≡ rest
unfolding IsDistinct
from_number number next rest [] apart is = absurd (cc is)
from_number number next rest (other ∷ numbers) apart is = by_test (other == number) is (λ e. from_number number next rest numbers apart.1 e)
  where
    by_test : (b : Bool) → cond b numbers (behind number numbers) ≡ next ∷ rest → (behind number numbers ≡ next ∷ rest → behind next numbers ≡ rest) → cond (other == next) numbers (behind next numbers) ≡ rest
    by_test true e later =
        ap (λ b. cond b numbers (behind next numbers)) (subst (AllByRecursion (λ n. (other == n) ≡ false)) e apart.0).0
        ∙ ap (behind next) e ∙ ap (λ b. cond b rest (behind next rest)) (eq-eqb next next refl)
    by_test false e later = ap (λ b. cond b numbers (behind next numbers)) (behind_all (λ n. (other == n) ≡ false) number next rest numbers apart.0 e) ∙ later e

pub left_next : (after : Option ℕ) (next : ℕ) (rest numbers : List ℕ) → IsDistinct (λ m n. m == n) numbers → left_of after numbers ≡ next ∷ rest → left_of (Some next) numbers ≡ rest
left_next None next rest numbers apart is = ap (behind next) is ∙ ap (λ b. cond b rest (behind next rest)) (eq-eqb next next refl)
left_next (Some number) next rest numbers apart is = from_number number next rest numbers apart is

among_behind : (number next : ℕ) (numbers : List ℕ) → row_behind (λ other. other == number) numbers ≡ Some next → is_among next numbers ≡ true
among_behind number next [] is = absurd (cc is)
among_behind number next (other ∷ numbers) is = by_test (other == number) is (λ e. among_behind number next numbers e)
  where
    by_test : (b : Bool) → cond b (slice_get numbers 0) (row_behind (λ n. n == number) numbers) ≡ Some next → (row_behind (λ n. n == number) numbers ≡ Some next → is_among next numbers ≡ true) → is_among next (other ∷ numbers) ≡ true
    by_test true e later = or_right (next == other) (is_among next numbers) (first_among numbers next e)
    by_test false e later = or_right (next == other) (is_among next numbers) (later e)

-- what a walk came to is among the numbers: so it goes on from there
pub next_among : (after : Option ℕ) (next : ℕ) (numbers : List ℕ) → next_of after numbers ≡ Some next → is_among next numbers ≡ true
next_among None next numbers is = first_among numbers next is
next_among (Some number) next numbers is = among_behind number next numbers is
