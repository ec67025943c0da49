-- The slots that are listed, gathered one after the other.
use Rattle.std.proofs.Common.{◌≡◌, ◌⊎◌, ⊎_elim, ℕ, ◌+◌, ◌<◌, ◌==◌, Bool, true, false, cond, List, [], ◌∷◌, ◌++◌, refl, sym, ◌∙◌, ap, arith, Some, None}
use Rattle.std.specs.Prelude.{◌||◌}
use Rattle.std.specs.List.{AllByRecursion}
use Rattle.dd_slots.specs.Numbers.{is_among}
use Rattle.dd_slots.proofs.Numbers.{among_snoc, same_number}
use Rattle.dd_record.specs.declared.row.BRow.{BRow}
use Rattle.dd_record.specs.Table.{has_slot, b_row}

pub none_has : (slot : ℕ) (b : List BRow) → b_row slot b ≡ None → has_slot slot b ≡ false
none_has slot [] is = refl
none_has slot (r ∷ b) is = by_test (r.slot == slot) is (λ e. none_has slot b e)
  where
    by_test : (t : Bool) → cond t (Some r) (b_row slot b) ≡ None → (b_row slot b ≡ None → has_slot slot b ≡ false) → (t || has_slot slot b) ≡ false
    by_test true e next = absurd (cc e)
    by_test false e next = next e

pub some_has : (slot : ℕ) (row : BRow) (b : List BRow) → b_row slot b ≡ Some row → has_slot slot b ≡ true
some_has slot row [] is = absurd (cc is)
some_has slot row (r ∷ b) is = by_test (r.slot == slot) is (λ e. some_has slot row b e)
  where
    by_test : (t : Bool) → cond t (Some r) (b_row slot b) ≡ Some row → (b_row slot b ≡ Some row → has_slot slot b ≡ true) → (t || has_slot slot b) ≡ true
    by_test true e next = refl
    by_test false e next = next e

-- the listed slots below a number were gathered
pub record AreGathered (b : List BRow) (i : ℕ) (used : List ℕ) : Type 0 where
  pub below : AllByRecursion (λ slot. slot < i) used
  pub each : (slot : ℕ) → slot < i → is_among slot used ≡ has_slot slot b

weaker : (i : ℕ) (used : List ℕ) → AllByRecursion (λ slot. slot < i) used → AllByRecursion (λ slot. slot < i + 1) used
weaker i [] h = tt
weaker i (n ∷ used) h = (omega (arith, h.0), weaker i used h.1)

one_behind : (i : ℕ) (used : List ℕ) (n : ℕ) → n < i → AllByRecursion (λ slot. slot < i) used → AllByRecursion (λ slot. slot < i) (used ++ n ∷ [])
one_behind i [] n lt h = (lt, tt)
one_behind i (m ∷ used) n lt h = (h.0, one_behind i used n lt h.1)

apart : (m n : ℕ) → n < m → (m == n) ≡ false
apart m n lt = grind arith

not_among : (i : ℕ) (used : List ℕ) → AllByRecursion (λ slot. slot < i) used → is_among i used ≡ false
not_among i [] h = refl
not_among i (n ∷ used) h = ap (λ b. b || is_among i used) (apart i n h.0) ∙ not_among i used h.1

last_or : (slot i : ℕ) → slot < i + 1 → (slot ≡ i) ⊎ (slot < i)
last_or slot i lt = grind arith

or_right : (b : Bool) → (b || true) ≡ true
or_right true = refl
or_right false = refl

or_none : (b : Bool) → (b || false) ≡ b
or_none true = refl
or_none false = refl

other : (m n : ℕ) → m < n → (m == n) ≡ false
other m n lt = grind arith

module _ (b : List BRow) (i : ℕ) (used : List ℕ) (so_far : AreGathered b i used) where
  -- the next one is listed
  pub one_listed : has_slot i b ≡ true → AreGathered b (i + 1) (used ++ i ∷ [])
  one_listed listed = record {
    below = one_behind (i + 1) used i (omega arith) (weaker i used so_far.below);
    each = λ slot lt. among_snoc slot i used ∙ ⊎_elim
        (λ same. ap (λ t. is_among slot used || t) (ap (λ n. n == i) same ∙ same_number i) ∙ or_right (is_among slot used) ∙ sym (ap (λ n. has_slot n b) same ∙ listed))
        (λ before. ap (λ t. is_among slot used || t) (other slot i before) ∙ or_none (is_among slot used) ∙ so_far.each slot before)
        (last_or slot i lt);
  }

  -- or it isn't
  pub one_not : has_slot i b ≡ false → AreGathered b (i + 1) used
  one_not unlisted = record {
    below = weaker i used so_far.below;
    each = λ slot lt. ⊎_elim
        (λ same. ap (λ n. is_among n used) same ∙ not_among i used so_far.below ∙ sym (ap (λ n. has_slot n b) same ∙ unlisted))
        (λ before. so_far.each slot before)
        (last_or slot i lt);
  }

pub none_gathered : (b : List BRow) → AreGathered b 0 []
none_gathered b = record { below = tt; each = λ slot never. absurd (omega (arith, never)) }
