-- A search among the rows of blocks, row by row.
use Rattle.std.proofs.Common.{◌≡◌, ℕ, zero, suc, ◌+◌, ◌<◌, ◌≤◌, ◌==◌, Bool, true, false, cond, List, [], ◌∷◌, length, get_or, take, refl, sym, ◌∙◌, ap, subst, arith, Some}
use Rattle.std.specs.Prelude.{count_by, if◌then◌else◌}
use Rattle.std.specs.List.{AllByRecursion, IsDistinct}
use Rattle.std.proofs.lemmas.Bool.{eq-eqb}
use Rattle.std.proofs.lemmas.List.Sums.{count_by_more_yes, count_by_more_no, sum_by-take-drop}
use Rattle.dd_record.specs.declared.row.BRow.{BRow}
use Rattle.dd_record.specs.Table.{b_row}
use Rattle.dd_block.specs.declared.print.Fp.{Fp}
use Rattle.dd_rig.specs.declared.tallies.Counts.{Counts}
use Rattle.dd_rig.specs.Counts.{Makes, up_to, nothing}
use Rattle.dd_model.specs.Confirming.{IsCandidate}

-- one element more
pub all_more : {X : Type 0} (P : X → Type 0) (xs : List X) (i : ℕ) (d : X) → i < length xs → AllByRecursion P (take i xs) → P (get_or xs i d) → AllByRecursion P (take (i + 1) xs)
all_more P [] i d h all here = absurd (omega arith)
all_more P (x ∷ xs) zero d h all here = (here, tt)
all_more P (x ∷ xs) (suc i) d h all here =
    let more : suc i + 1 ≡ suc (i + 1) = omega arith in
    subst (λ (n : ℕ). AllByRecursion P (take n (x ∷ xs))) (sym more) (all.0, all_more P xs i d (omega arith) all.1 here)

pub element : {X : Type 0} (P : X → Type 0) (xs : List X) (i : ℕ) (d : X) → i < length xs → AllByRecursion P xs → P (get_or xs i d)
element P [] i d h all = absurd (omega arith)
element P (x ∷ xs) zero d h all = all.0
element P (x ∷ xs) (suc i) d h all = element P xs i d (omega arith) all.1

-- those that passed so far and the next one are no more than all
pub count_next : {X : Type 0} (p : X → Bool) (xs : List X) (i : ℕ) (d : X) → i < length xs → count_by p (take i xs) + (if p (get_or xs i d) then 1 else 0) ≤ count_by p (take (i + 1) xs)
count_next p xs i d h = by_test (p (get_or xs i d)) refl
  where
    by_test : (b : Bool) → p (get_or xs i d) ≡ b → count_by p (take i xs) + (if b then 1 else 0) ≤ count_by p (take (i + 1) xs)
    by_test true is = omega (arith, count_by_more_yes p xs i d h is)
    by_test false is = omega (arith, count_by_more_no p xs i d h is)

count_part : {X : Type 0} (p : X → Bool) (xs : List X) (i : ℕ) → count_by p (take i xs) ≤ count_by p xs
count_part p xs i = omega (arith, sum_by-take-drop (λ x. if p x then 1 else 0) xs i)

pub count_so_far : {X : Type 0} (p : X → Bool) (xs : List X) (i : ℕ) (d : X) → i < length xs → count_by p (take i xs) + (if p (get_or xs i d) then 1 else 0) ≤ count_by p xs
count_so_far p xs i d h = omega (arith, count_next p xs i d h, count_part p xs (i + 1))

-- where the slots are apart each row is that of its slot
pub row_at : (rows : List BRow) (i : ℕ) (d : BRow) → IsDistinct (λ x y. x.slot == y.slot) rows → i < length rows → b_row (get_or rows i d).slot rows ≡ Some (get_or rows i d)
unfolding IsDistinct
row_at [] i d apart h = absurd (omega arith)
row_at (row ∷ rows) zero d apart h = ap (λ b. cond b (Some row) (b_row row.slot rows)) (eq-eqb row.slot row.slot refl)
row_at (row ∷ rows) (suc i) d apart h =
    ap (λ b. cond b (Some row) (b_row (get_or rows i d).slot rows)) (element (λ r. (row.slot == r.slot) ≡ false) rows i d (omega arith) apart.0)
    ∙ row_at rows i d apart.1 (omega arith)

-- a row that is found by its slot and has the fingerprint
pub candidate : (rows : List BRow) (fp : Fp) (row : BRow) → b_row row.slot rows ≡ Some row → row.fp ≡ fp → IsCandidate fp rows row.slot
candidate rows fp row found print = found ∙ ap (λ (p : Fp). Some (record { slot = row.slot; fp = p })) print

-- reads, and further ones
pub reads_more : (n m most : ℕ) (first second third : Counts) → Makes (up_to n 0 0) nothing first second → Makes (up_to m 0 0) nothing second third → n + m ≤ most → Makes (up_to most 0 0) nothing first third
reads_more n m most first second third h k fits = (
  (omega (arith, h.0.0, k.0.0, fits), omega (arith, h.0.1, k.0.1), omega (arith, h.0.2, k.0.2)),
  (omega (arith, h.1.0, k.1.0), omega (arith, h.1.1, k.1.1), omega (arith, h.1.2, k.1.2)),
)
