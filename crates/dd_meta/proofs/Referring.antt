-- Who refers to a slot: some dirty address but one, or any.
use Rattle.std.proofs.Common.{◌≡◌, ◌≢◌, ◌⊎◌, inl, inr, ℕ, ◌+◌, ◌<◌, ◌==◌, not, Bool, true, false, List, [], ◌∷◌, refl, sym, ◌∙◌, ap, subst, Option, Some, None, cond, slice_get, is_some}
use Rattle.std.specs.Prelude.{◌&&◌, ◌||◌, option_map}
use Rattle.std.specs.List.{AllByRecursion, IsDistinct, list_any}
use Rattle.std.proofs.lemmas.Bool.{eq-eqb, ne_eqb, eqb-true, both_ways, and_parts, or_cases, or_left, or_right}
use Rattle.dd_record.specs.declared.row.ARow.{ARow}
use Rattle.dd_record.specs.Table.{is_slot, a_row}
use Rattle.dd_lists.specs.Lists.{is_in, list_at}
use Rattle.dd_lists.specs.Nodes.{Nodes}
use Rattle.dd_lists.proofs.Found.{first_in_list}
use Rattle.dd_index.specs.Index.{Index}
use Rattle.dd_meta.specs.Entries.{Meta, rows_of, owed_to}
use Rattle.dd_meta.specs.Matching.{row_at, listed, shown, home_of, is_home, Matches}
use Rattle.dd_meta.specs.Keeping.{is_owed, refers, IsReferrer, IsMeta}
use Rattle.dd_meta.specs.Walks.{but}
use Rattle.dd_meta.proofs.Homes.{dirty_home, clean_home}
use Rattle.dd_meta.proofs.Stepping.{but_in, turn}
use Rattle.dd_meta.proofs.Facts.{bool_same, and_true, any_row, some_row, rows_are}

-- a test that passes one of some rows
any_found : (p : ARow → Bool) (rows : List ARow) → list_any p rows ≡ true → (row : ARow) × (p row ≡ true) × ((q : ARow → Bool) → q row ≡ true → list_any q rows ≡ true)
any_found p [] h = absurd (both_ways false refl h)
any_found p (row ∷ rows) h =
    elim (or_cases (p row) (list_any p rows) h) [
      | inl here ↦ (row, here, λ q passes. or_left (q row) (list_any q rows) passes)
      | inr later ↦ let found = any_found p rows later in (found.0, found.1, λ q passes. or_right (q row) (list_any q rows) (found.2 q passes))
    ]

other_rows : (p : ARow → Bool) (address : ℕ) (rows : List ARow) → AllByRecursion (λ (row : ARow). (address == row.address) ≡ false) rows → list_any (λ row. p row && address == row.address) rows ≡ false
other_rows p address [] all = refl
other_rows p address (row ∷ rows) all = ap (λ t. (p row && t) || list_any (λ r. p r && address == r.address) rows) all.0 ∙ ap (λ t. t || list_any (λ r. p r && address == r.address) rows) (and_no (p row)) ∙ other_rows p address rows all.1
  where
    and_no : (b : Bool) → (b && false) ≡ false
    and_no true = refl
    and_no false = refl

-- of rows that no two of which have one address, the one of an address
the_row : (p : ARow → Bool) (address : ℕ) (rows : List ARow) → IsDistinct (λ (x y : ARow). x.address == y.address) rows → list_any (λ row. p row && address == row.address) rows ≡ true → option_map p (a_row address rows) ≡ Some true
unfolding IsDistinct
the_row p address [] d h = absurd (both_ways false refl h)
the_row p address (row ∷ rows) d h = step (row.address == address) refl (the_row p address rows d.1)
  where
    step : (b : Bool) → (row.address == address) ≡ b → (list_any (λ r. p r && address == r.address) rows ≡ true → option_map p (a_row address rows) ≡ Some true) → option_map p (cond b (Some row) (a_row address rows)) ≡ Some true
    step true e later =
        elim (or_cases (p row && address == row.address) (list_any (λ r. p r && address == r.address) rows) h) [
          | inl here ↦ ap Some (and_parts _ _ here).0
          | inr there ↦ absurd (both_ways _ (other_rows p address rows (subst (λ (a : ℕ). AllByRecursion (λ (r : ARow). (a == r.address) ≡ false) rows) (eqb-true _ _ e) d.0)) there)
        ]
    step false e later =
        elim (or_cases (p row && address == row.address) (list_any (λ r. p r && address == r.address) rows) h) [
          | inl here ↦ absurd (both_ways _ (turn address row.address ∙ e) (and_parts _ _ here).1)
          | inr there ↦ later there
        ]

map_test : (p q : ARow → Bool) (o : Option ARow) → option_map p o ≡ Some true → ((row : ARow) → o ≡ Some row → p row ≡ true → q row ≡ true) → option_map q o ≡ Some true
map_test p q None h to = absurd (cc)
map_test p q (Some row) h to = let passes : p row ≡ true = cc in ap Some (to row refl passes)

pub found_address : (address : ℕ) (rows : List ARow) (row : ARow) → a_row address rows ≡ Some row → row.address ≡ address
found_address address [] row h = absurd (cc)
found_address address (r ∷ rows) row h = step (r.address == address) refl h (found_address address rows row)
  where
    step : (b : Bool) → (r.address == address) ≡ b → cond b (Some r) (a_row address rows) ≡ Some row → (a_row address rows ≡ Some row → row.address ≡ address) → row.address ≡ address
    step true e h later = let same : r ≡ row = cc in ap (λ (x : ARow). x.address) (sym same) ∙ eqb-true _ _ e
    step false e h later = later h

but_keeps : (a s : ℕ) (xs : List ℕ) → a ≢ s → is_in a xs ≡ true → is_in a (but s xs) ≡ true
but_keeps a s [] other h = h
but_keeps a s (y ∷ ys) other h = step (y == s) refl (or_cases (a == y) (is_in a ys) h) (but_keeps a s ys other)
  where
    step : (b : Bool) → (y == s) ≡ b → ((a == y) ≡ true) ⊎ (is_in a ys ≡ true) → (is_in a ys ≡ true → is_in a (but s ys) ≡ true) → is_in a (cond (not b) (y ∷ but s ys) (but s ys)) ≡ true
    step true e here later = elim here [ inl is ↦ absurd (other (eqb-true a y is ∙ eqb-true y s e)) | inr there ↦ later there ]
    step false e here later = elim here [ inl is ↦ or_left (a == y) (is_in a (but s ys)) is | inr there ↦ or_right (a == y) (is_in a (but s ys)) (later there) ]

none_left : (a s : ℕ) (xs : List ℕ) → slice_get (but s xs) 0 ≡ None → is_in a xs ≡ true → a ≢ s → ⊥
none_left a s xs none there other = both_ways _ (empty_list (but s xs) none) (but_keeps a s xs other there)
  where
    empty_list : (ys : List ℕ) → slice_get ys 0 ≡ None → is_in a ys ≡ false
    empty_list [] e = refl
    empty_list (y ∷ ys) e = absurd (cc)

-- the first of a slot's dirty addresses but one
pub first_referrer : (meta : Meta) → IsMeta meta → (slot skip : ℕ) (o : Option ℕ) → o ≡ slice_get (but skip (owed_to slot meta)) 0 → IsReferrer slot skip (rows_of meta) o
first_referrer meta m slot skip None first = none_refers (list_any (λ row. refers slot skip row) (rows_of meta)) refl
  where
    none_refers : (b : Bool) → list_any (λ row. refers slot skip row) (rows_of meta) ≡ b → b ≡ false
    none_refers false e = refl
    none_refers true e =
        let found = any_found (λ row. refers slot skip row) (rows_of meta) e in
        let owed = and_parts _ _ found.1 in
        let there : is_in found.0.address (owed_to slot meta) ≡ true =
        m.owed slot found.0.address ∙ found.2 (λ row. is_owed slot row && found.0.address == row.address) (and_true _ _ owed.0 (eq-eqb _ _ refl)) in
        absurd (none_left found.0.address skip (owed_to slot meta) (sym first) there (λ same. both_ways _ (ap not (eq-eqb _ _ same)) owed.1))
first_referrer meta m slot skip (Some address) first =
    let there = but_in address skip (owed_to slot meta) (first_in_list address (but skip (owed_to slot meta)) (sym first)) in
    map_test (is_owed slot) (λ row. refers slot skip row) (a_row address (rows_of meta))
    (the_row (is_owed slot) address (rows_of meta) m.addresses (sym (m.owed slot address) ∙ there.0))
    (λ row found owed. and_true _ _ owed (ap not (ne_eqb _ _ (λ same. there.1 (sym (found_address address (rows_of meta) row found) ∙ same)))))

-- any address of a slot
module _ {acap slots : ℕ} {nodes : Nodes ARow} {index : Index} (k : Matches acap slots nodes index) (slot : ℕ) (low : slot < slots) where
  here_in : (list n : ℕ) → slice_get (list_at list nodes.referrers) 0 ≡ Some n → (is_in n (listed nodes) ≡ true) × (is_home list (home_of slots (row_at nodes n)) ≡ true)
  here_in list n e = and_parts _ _ (sym (k.referring list n) ∙ first_in_list n (list_at list nodes.referrers) e)

  by_row : (n : ℕ) → is_in n (listed nodes) ≡ true → is_slot slot (row_at nodes n).link ≡ true → list_any (λ row. is_slot slot row.link) (rows_of (shown acap slots nodes)) ≡ true
  by_row n here link = ap (list_any (λ row. is_slot slot row.link)) (rows_are k) ∙ any_row k (λ row. is_slot slot row.link) (listed nodes) n here link

  pub dirty_refers : (o : Option ℕ) → slice_get (list_at slot nodes.referrers) 0 ≡ o → is_some o ≡ true → list_any (λ row. is_slot slot row.link) (rows_of (shown acap slots nodes)) ≡ true
  dirty_refers None e h = absurd (both_ways false refl h)
  dirty_refers (Some n) e h =
      let found = here_in slot n e in
      by_row n found.0 (and_parts _ _ (sym (dirty_home slots slot (row_at nodes n).dirty (row_at nodes n).link low) ∙ found.1)).1

  pub clean_refers : (o : Option ℕ) → slice_get (list_at (slots + slot) nodes.referrers) 0 ≡ o → is_some o ≡ true → list_any (λ row. is_slot slot row.link) (rows_of (shown acap slots nodes)) ≡ true
  clean_refers None e h = absurd (both_ways false refl h)
  clean_refers (Some n) e h =
      let found = here_in (slots + slot) n e in
      by_row n found.0 (and_parts _ _ (sym (clean_home slots slot (row_at nodes n).dirty (row_at nodes n).link (k.below n found.0)) ∙ found.1)).1

  empty : (xs : List ℕ) → is_some (slice_get xs 0) ≡ false → (n : ℕ) → is_in n xs ≡ false
  empty [] e n = refl
  empty (x ∷ xs) e n = absurd (both_ways _ e refl)

  pub none_refers : is_some (slice_get (list_at slot nodes.referrers) 0) ≡ false → is_some (slice_get (list_at (slots + slot) nodes.referrers) 0) ≡ false → list_any (λ row. is_slot slot row.link) (rows_of (shown acap slots nodes)) ≡ false
  none_refers dirty clean =
      ap (list_any (λ row. is_slot slot row.link)) (rows_are k)
      ∙ bool_same _ false
      (λ h.
      let found = some_row k (λ row. is_slot slot row.link) (listed nodes) h in
      absurd (by_dirty found.0 found.1 found.2 (row_at nodes found.0).dirty refl))
      (λ h. absurd (both_ways false refl h))
    where
      by_dirty : (n : ℕ) → is_in n (listed nodes) ≡ true → is_slot slot (row_at nodes n).link ≡ true → (b : Bool) → (row_at nodes n).dirty ≡ b → ⊥
      by_dirty n here link true e =
          both_ways _ (empty (list_at slot nodes.referrers) dirty n)
          (k.referring slot n ∙ and_true _ _ here (dirty_home slots slot (row_at nodes n).dirty (row_at nodes n).link low ∙ and_true _ _ e link))
      by_dirty n here link false e =
          both_ways _ (empty (list_at (slots + slot) nodes.referrers) clean n)
          (k.referring (slots + slot) n ∙ and_true _ _ here (clean_home slots slot (row_at nodes n).dirty (row_at nodes n).link (k.below n here) ∙ and_true _ _ (ap not e) link))

  pub rest_refers : (b : Bool) → b ≡ is_some (slice_get (list_at (slots + slot) nodes.referrers) 0) → is_some (slice_get (list_at slot nodes.referrers) 0) ≡ false → b ≡ list_any (λ row. is_slot slot row.link) (rows_of (shown acap slots nodes))
  rest_refers true is dirty = sym (clean_refers (slice_get (list_at (slots + slot) nodes.referrers) 0) refl (sym is))
  rest_refers false is dirty = sym (none_refers dirty (sym is))
