-- Walks along rows, place by place, and what they count.
use Rattle.std.proofs.Common.{◌≡◌, ℕ, zero, suc, ◌+◌, ◌<◌, ◌≤◌, ◌==◌, Bool, true, false, cond, List, [], ◌∷◌, length, get_or, take, refl, sym, ◌∙◌, ap, subst, arith, Some, None}
use Rattle.std.specs.Prelude.{Option, slice_get, count_by, filter, if◌then◌else◌}
use Rattle.std.specs.Int.{from_bool}
use Rattle.std.specs.List.{AllByRecursion, IsDistinct}
use Rattle.std.proofs.lemmas.Bool.{eq-eqb}
use Rattle.std.proofs.lemmas.List.{take_all}
use Rattle.std.proofs.lemmas.List.Sums.{count_by_more_yes, count_by_more_no}
use Rattle.std.proofs.lemmas.Option.{slice_get_within, get_or_from_slice_get}
use Rattle.dd_record.specs.Listed.{row_behind}
use Rattle.dd_model.proofs.Kept.{got}
use Rattle.dd_model.proofs.Searching.{all_more}

-- the row behind the one at a place is the one at the next
pub walk_next : {Row : Type 0} (key : Row → ℕ) (rows : List Row) (i : ℕ) (row : Row) → IsDistinct (λ x y. key x == key y) rows → slice_get rows i ≡ Some row → row_behind (λ r. key r == key row) rows ≡ slice_get rows (i + 1)
unfolding IsDistinct
walk_next key [] i row apart is = absurd (cc is)
walk_next key (r ∷ rows) zero row apart is =
    let same : r ≡ row = cc is in
    ap (λ b. cond b (slice_get rows 0) (row_behind (λ x. key x == key row) rows)) (eq-eqb (key r) (key row) (ap key same))
walk_next key (r ∷ rows) (suc i) row apart is =
    let more : suc i + 1 ≡ suc (i + 1) = omega arith in
    ap (λ b. cond b (slice_get rows 0) (row_behind (λ x. key x == key row) rows)) (got (λ y. (key r == key y) ≡ false) rows i row is apart.0)
    ∙ walk_next key rows i row apart.1 is
    ∙ ap (λ n. slice_get (r ∷ rows) n) (sym more)

-- behind the last row there is none
past_last : {Row : Type 0} (rows : List Row) (i : ℕ) → slice_get rows i ≡ None → length rows ≤ i
past_last [] i h = omega arith
past_last (row ∷ rows) zero h = absurd (cc h)
past_last (row ∷ rows) (suc i) h = omega (arith, past_last rows i h)

-- where a walk stands, at a row or behind the last one
pub stands : {Row : Type 0} (rows : List Row) (i : ℕ) (at : Option Row) (row : Row) → at ≡ slice_get rows i → at ≡ Some row → slice_get rows i ≡ Some row
stands rows i at row next is = sym next ∙ is

pub ended : {Row : Type 0} (rows : List Row) (i : ℕ) (at : Option Row) → at ≡ slice_get rows i → at ≡ None → length rows ≤ i
ended rows i at next is = past_last rows i (sym next ∙ is)

pub count_more : {Row : Type 0} (p : Row → Bool) (rows : List Row) (i : ℕ) (row : Row) → slice_get rows i ≡ Some row → count_by p (take i rows) + (if p row then 1 else 0) ≡ count_by p (take (i + 1) rows)
count_more p rows i row is = by_test (p row) refl
  where
    low : i < length rows
    low = slice_get_within rows i row is

    here : get_or rows i row ≡ row
    here = get_or_from_slice_get rows i row row is

    by_test : (b : Bool) → p row ≡ b → count_by p (take i rows) + (if b then 1 else 0) ≡ count_by p (take (i + 1) rows)
    by_test true e = omega (arith, count_by_more_yes p rows i row low (ap p here ∙ e))
    by_test false e = omega (arith, count_by_more_no p rows i row low (ap p here ∙ e))

pub all_next : {Row : Type 0} (P : Row → Type 0) (rows : List Row) (i : ℕ) (row : Row) → slice_get rows i ≡ Some row → AllByRecursion P (take i rows) → P row → AllByRecursion P (take (i + 1) rows)
all_next P rows i row is all here = all_more P rows i row (slice_get_within rows i row is) all (subst P (sym (get_or_from_slice_get rows i row row is)) here)

-- a walk doesn't end before the last row
pub goes_on : {Row : Type 0} (rows : List Row) (i : ℕ) (at : Option Row) → at ≡ slice_get rows i → i < length rows → ((row : Row) → at ≡ Some row → ⊥) → ⊥
goes_on rows i at next low ends = by_row (slice_get rows i) refl
  where
    by_row : (o : Option _) → slice_get rows i ≡ o → ⊥
    by_row None is = omega (arith, low, past_last rows i is)
    by_row (Some row) is = ends row (next ∙ is)

abbrev pub one_by : Bool → ℕ
one_by b = if b then 1 else 0

pub one_of : (b : Bool) → from_bool b ≡ one_by b
one_of true = refl
one_of false = refl

pub one_most : (b : Bool) → one_by b ≤ 1
one_most true = omega arith
one_most false = omega arith

-- how far a walk came, and how many of the rows that it came by pass
pub record Counted {Row : Type 0} (p : Row → Bool) (rows : List Row) (i : ℕ) (at : Option Row) (count : ℕ) : Type 0 where
  pub next : at ≡ slice_get rows i
  pub few : count ≤ i
  pub counted : count ≡ count_by p (take i rows)

pub count_step : {Row : Type 0} (key : Row → ℕ) (p : Row → Bool) (rows : List Row) (i count n : ℕ) (at after : Option Row) (row : Row) → IsDistinct (λ x y. key x == key y) rows
    → at ≡ slice_get rows i → count ≤ i → count ≡ count_by p (take i rows) → at ≡ Some row → n ≡ one_by (p row) → after ≡ row_behind (λ r. key r == key row) rows → Counted p rows (i + 1) after (count + n)
count_step key p rows i count n at after row apart next few counted is one behind =
    let here : slice_get rows i ≡ Some row = sym next ∙ is in
    record {
      next = behind ∙ walk_next key rows i row apart here;
      few = omega (arith, few, one, one_most (p row));
      counted = omega (arith, counted, one, count_more p rows i row here);
    }

filter_short : {Row : Type 0} (p : Row → Bool) (rows : List Row) → length (filter p rows) ≤ length rows
filter_short p [] = omega arith
filter_short p (row ∷ rows) = by_test (p row) (filter_short p rows)
  where
    by_test : (b : Bool) → length (filter p rows) ≤ length rows → length (cond b (row ∷ filter p rows) (filter p rows)) ≤ suc (length rows)
    by_test true h = omega arith
    by_test false h = omega arith

-- where a walk came by all rows there are none behind
pub all_past : {Row : Type 0} (p : Row → Bool) (rows : List Row) (i : ℕ) → length rows ≤ i → length (filter p rows) ≤ i
all_past p rows i h = omega (arith, h, filter_short p rows)

pub all_taken : {Row : Type 0} (P : Row → Type 0) (rows : List Row) (i : ℕ) → length rows ≤ i → AllByRecursion P (take i rows) → AllByRecursion P rows
all_taken P rows i h all = subst (λ (rs : List _). AllByRecursion P rs) (take_all i rows h) all
