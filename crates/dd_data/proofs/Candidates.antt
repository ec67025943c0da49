-- The rows with one fingerprint, for a search that compares their blocks one after the other.
use Rattle.std.proofs.Common.{◌≡◌, ◌+◌, ◌≤◌, ◌==◌, Bool, true, false, List, [], ◌∷◌, ◌++◌, length, refl, sym, ◌∙◌, ap, subst, arith, Option, Some, None, cond, slice_get, length-append}
use Rattle.std.specs.Prelude.{filter}
use Rattle.std.specs.Str.{bytes_eq}
use Rattle.std.specs.List.{AllByRecursion, IsDistinct}
use Rattle.std.proofs.lemmas.Bool.{eq-eqb, both_ways}
use Rattle.std.proofs.lemmas.List.{append-nil, append_assoc}
use Rattle.std.proofs.lemmas.Slice.Eq.{bytes_eq-Decides}
use Rattle.dd_block.specs.declared.print.Fp.{Fp}
use Rattle.dd_record.specs.declared.row.BRow.{BRow}
use Rattle.dd_record.specs.Table.{b_row}
use Rattle.dd_record.specs.Listed.{b_walk, row_behind}
use Rattle.dd_record.proofs.Walks.{row_behind-append}
use Rattle.dd_data.specs.Blocks.{alike}

-- where a walk stands: it came by the rows in front, and what is left begins with its row
pub record IsPassed (all front : List BRow) (at : Option BRow) : Type 0 where
  pub left : List BRow
  pub split : all ≡ front ++ left
  pub head : at ≡ slice_get left 0

all_at : (P : BRow → Type 0) (front : List BRow) (row : BRow) (behind : List BRow) → AllByRecursion P (front ++ row ∷ behind) → P row
all_at P [] row behind all = all.0
all_at P (r ∷ front) row behind all = all_at P front row behind all.1

other_slots : (front : List BRow) (row : BRow) (behind : List BRow) → IsDistinct (λ x y. x.slot == y.slot) (front ++ row ∷ behind) → AllByRecursion (λ r. (r.slot == row.slot) ≡ false) front
unfolding IsDistinct
other_slots [] row behind apart = tt
other_slots (r ∷ front) row behind apart = (all_at (λ y. (r.slot == y.slot) ≡ false) front row behind apart.0, other_slots front row behind apart.1)

pub pass_start : (all : List BRow) → IsPassed all [] (b_walk None all)
pass_start all = record { left = all; split = refl; head = refl }

-- one row further
pub pass_on : (all front : List BRow) (row : BRow) → IsDistinct (λ x y. x.slot == y.slot) all → IsPassed all front (Some row) → IsPassed all (front ++ row ∷ []) (b_walk (Some row.slot) all)
pass_on all front row apart s = by_left s.left s.split s.head
  where
    by_left : (left : List BRow) → all ≡ front ++ left → Some row ≡ slice_get left 0 → IsPassed all (front ++ row ∷ []) (b_walk (Some row.slot) all)
    by_left [] split head = absurd (cc)
    by_left (r ∷ behind) split head =
        let same : row ≡ r = cc in
        let whole : all ≡ front ++ row ∷ behind = split ∙ ap (λ (x : BRow). front ++ x ∷ behind) (sym same) in
        record {
          left = behind;
          split = whole ∙ sym (append_assoc front (row ∷ []) behind);
          head =
              ap (row_behind (λ (x : BRow). x.slot == row.slot)) whole
              ∙ row_behind-append (λ (x : BRow). x.slot == row.slot) front row behind (other_slots front row behind (subst (λ (l : List BRow). IsDistinct (λ x y. x.slot == y.slot) l) whole apart)) (eq-eqb row.slot row.slot refl);
        }

pub pass_end : (all front : List BRow) → IsPassed all front None → all ≡ front
pass_end all front s = by_left s.left s.split s.head
  where
    by_left : (left : List BRow) → all ≡ front ++ left → None ≡ slice_get left 0 → all ≡ front
    by_left [] split head = split ∙ append-nil front
    by_left (r ∷ behind) split head = absurd (cc)

-- what holds of all rows holds of the one that the walk came to, and there are more than it came by
pub pass_has : (P : BRow → Type 0) (all front : List BRow) (row : BRow) → AllByRecursion P all → IsPassed all front (Some row) → P row
pass_has P all front row holds s = by_left s.left s.split s.head
  where
    by_left : (left : List BRow) → all ≡ front ++ left → Some row ≡ slice_get left 0 → P row
    by_left [] split head = absurd (cc)
    by_left (r ∷ behind) split head =
        let same : row ≡ r = cc in
        all_at P front row behind (subst (λ (l : List BRow). AllByRecursion P l) (split ∙ ap (λ (x : BRow). front ++ x ∷ behind) (sym same)) holds)

pub pass_less : (all front : List BRow) (row : BRow) → IsPassed all front (Some row) → length front + 1 ≤ length all
pass_less all front row s = by_left s.left s.split s.head
  where
    by_left : (left : List BRow) → all ≡ front ++ left → Some row ≡ slice_get left 0 → length front + 1 ≤ length all
    by_left [] split head = absurd (cc)
    by_left (r ∷ behind) split head = let size : length all ≡ length front + length (r ∷ behind) = ap (λ (l : List BRow). length l) split ∙ length-append front (r ∷ behind) in omega arith

-- the rows with a fingerprint
all_filter : (p : BRow → Bool) (P : BRow → Type 0) (rows : List BRow) → AllByRecursion P rows → AllByRecursion P (filter p rows)
all_filter p P [] all = tt
all_filter p P (r ∷ rows) all = step (p r) (all_filter p P rows all.1)
  where
    step : (b : Bool) → AllByRecursion P (filter p rows) → AllByRecursion P (cond b (r ∷ filter p rows) (filter p rows))
    step true later = (all.0, later)
    step false later = later

apart_filter : (p : BRow → Bool) (rows : List BRow) → IsDistinct (λ x y. x.slot == y.slot) rows → IsDistinct (λ x y. x.slot == y.slot) (filter p rows)
unfolding IsDistinct
apart_filter p [] apart = tt
apart_filter p (r ∷ rows) apart = step (p r) (apart_filter p rows apart.1)
  where
    step : (b : Bool) → IsDistinct (λ x y. x.slot == y.slot) (filter p rows) → IsDistinct (λ x y. x.slot == y.slot) (cond b (r ∷ filter p rows) (filter p rows))
    step true later = (all_filter p (λ y. (r.slot == y.slot) ≡ false) rows apart.0, later)
    step false later = later

-- their slots are apart
pub alike_apart : (fp : Fp) (rows : List BRow) → IsDistinct (λ x y. x.slot == y.slot) rows → IsDistinct (λ x y. x.slot == y.slot) (alike fp rows)
alike_apart fp rows apart = apart_filter (λ row. bytes_eq row.fp.0 fp.0) rows apart

-- each has the fingerprint, and is the row of its slot
likes : (fp : Fp) (rows : List BRow) → AllByRecursion (λ row. row.fp ≡ fp) (alike fp rows)
likes fp [] = tt
likes fp (r ∷ rows) = step (bytes_eq r.fp.0 fp.0) refl (likes fp rows)
  where
    step : (b : Bool) → bytes_eq r.fp.0 fp.0 ≡ b → AllByRecursion (λ row. row.fp ≡ fp) (alike fp rows) → AllByRecursion (λ row. row.fp ≡ fp) (cond b (r ∷ alike fp rows) (alike fp rows))
    step true e later = (λ i. record { 0 = (bytes_eq-Decides r.fp.0 fp.0).0 e i }, later)
    step false e later = later

found_later : (first : BRow) (all rows : List BRow) → AllByRecursion (λ y. (first.slot == y.slot) ≡ false) rows → AllByRecursion (λ row. b_row row.slot all ≡ Some row) rows → AllByRecursion (λ row. b_row row.slot (first ∷ all) ≡ Some row) rows
found_later first all [] others found = tt
found_later first all (r ∷ rows) others found = (ap (λ b. cond b (Some first) (b_row r.slot all)) others.0 ∙ found.0, found_later first all rows others.1 found.1)

slots_found : (rows : List BRow) → IsDistinct (λ x y. x.slot == y.slot) rows → AllByRecursion (λ row. b_row row.slot rows ≡ Some row) rows
unfolding IsDistinct
slots_found [] apart = tt
slots_found (r ∷ rows) apart = (ap (λ b. cond b (Some r) (b_row r.slot rows)) (eq-eqb r.slot r.slot refl), found_later r rows rows apart.0 (slots_found rows apart.1))

both_all : (P Q : BRow → Type 0) (rows : List BRow) → AllByRecursion P rows → AllByRecursion Q rows → AllByRecursion (λ row. P row × Q row) rows
both_all P Q [] p q = tt
both_all P Q (r ∷ rows) p q = ((p.0, q.0), both_all P Q rows p.1 q.1)

pub alike_found : (fp : Fp) (rows : List BRow) → IsDistinct (λ x y. x.slot == y.slot) rows → AllByRecursion (λ row. (b_row row.slot rows ≡ Some row) × (row.fp ≡ fp)) (alike fp rows)
alike_found fp rows apart =
    both_all (λ row. b_row row.slot rows ≡ Some row) (λ row. row.fp ≡ fp) (alike fp rows)
    (all_filter (λ row. bytes_eq row.fp.0 fp.0) (λ row. b_row row.slot rows ≡ Some row) rows (slots_found rows apart)) (likes fp rows)

-- what holds of each of them holds of each row that has the fingerprint
pub alike_all : (P : BRow → Type 0) (fp : Fp) (rows : List BRow) → AllByRecursion P (alike fp rows) → AllByRecursion (λ row. row.fp ≡ fp → P row) rows
alike_all P fp [] all = tt
alike_all P fp (r ∷ rows) all = step (alike_all P fp rows) (bytes_eq r.fp.0 fp.0) refl all
  where
    step : (AllByRecursion P (alike fp rows) → AllByRecursion (λ row. row.fp ≡ fp → P row) rows) → (b : Bool) → bytes_eq r.fp.0 fp.0 ≡ b → AllByRecursion P (cond b (r ∷ alike fp rows) (alike fp rows))
        → AllByRecursion (λ row. row.fp ≡ fp → P row) (r ∷ rows)
    step later true e holds = (λ same. holds.0, later holds.1)
    step later false e holds = (λ same. absurd (both_ways _ e ((bytes_eq-Decides r.fp.0 fp.0).1 (ap (λ (f : Fp). f.0) same))), later holds)
