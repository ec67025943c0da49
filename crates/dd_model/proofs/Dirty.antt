-- Which addresses are dirty after a touch, after one was cleaned, and among rows.
use Rattle.std.proofs.Common.{◌≡◌, ℕ, zero, suc, ◌+◌, ◌≤◌, ◌==◌, Bool, true, false, cond, List, [], ◌∷◌, ◌++◌, length, take, map, refl, sym, ◌∙◌, ap, subst, arith, Some, None}
use Rattle.std.specs.Prelude.{Option, filter, not, ◌&&◌, ◌||◌, reverse, slice_get, if◌then◌else◌}
use Rattle.std.specs.List.{IsDistinct, AllByRecursion}
use Rattle.std.proofs.lemmas.Bool.{eqb-true, and_right}
use Rattle.std.proofs.lemmas.Cmp.{nat_eq_equiv}
use Rattle.std.proofs.lemmas.List.{reverse-append, map-append}
use Rattle.std.proofs.lemmas.List.Elements.{filter-append}
use Rattle.std.proofs.lemmas.Map.Made.{is_member-filter}
use Rattle.dd_record.specs.declared.row.ARow.{ARow}
use Rattle.dd_record.specs.declared.row.BRow.{BRow}
use Rattle.dd_record.specs.declared.row.Link.TheVariants as links
use Rattle.dd_record.specs.Table.{is_slot, a_row, is_dirty, is_dirty_at}
use Rattle.dd_record.specs.Replay.{Touch, a_moved, linked_row, unlinked_from, is_clean_cut, cleaned}
use Rattle.dd_slots.specs.Numbers.{is_among, Enumerates}
use Rattle.dd_slots.proofs.Numbers.{by_test, one_more, none_pass}
use Rattle.dd_model.specs.Listing.{dirtied, dirty_of_rows}
use Rattle.dd_model.proofs.Kept.{apart_filter}

-- a change of rows that keeps addresses and what is dirty
module _ (f : ARow → ARow) (same_address : (row : ARow) → (f row).address ≡ row.address) (same_dirty : (row : ARow) → (f row).dirty ≡ row.dirty) where
  pub dirty_map : (address : ℕ) (rows : List ARow) → is_dirty_at address (map f rows) ≡ is_dirty_at address rows
  dirty_map address [] = refl
  dirty_map address (row ∷ rows) = ap (λ n. is_dirty (cond (n == address) (Some (f row)) (a_row address (map f rows)))) (same_address row) ∙ by_test (row.address == address) (dirty_map address rows)
    where
      by_test : (b : Bool) → is_dirty_at address (map f rows) ≡ is_dirty_at address rows → is_dirty (cond b (Some (f row)) (a_row address (map f rows))) ≡ is_dirty (cond b (Some row) (a_row address rows))
      by_test true rest = same_dirty row
      by_test false rest = rest

-- where what is cut off isn't dirty
pub dirty_take : (address n : ℕ) (rows : List ARow) → length rows ≤ n + 1 → is_clean_cut (slice_get rows n) ≡ true → is_dirty_at address (take n rows) ≡ is_dirty_at address rows
dirty_take address zero [] few clean = refl
dirty_take address (suc n) [] few clean = refl
dirty_take address zero (row ∷ []) few clean = sym (by_test (row.address == address))
  where
    is_clean : (b : Bool) → not b ≡ true → b ≡ false
    is_clean true h = absurd (cc h)
    is_clean false h = refl

    by_test : (b : Bool) → is_dirty (cond b (Some row) None) ≡ false
    by_test true = is_clean row.dirty clean
    by_test false = refl
dirty_take address zero (row ∷ (other ∷ rows)) few clean = absurd (omega arith)
dirty_take address (suc n) (row ∷ rows) few clean = by_test (row.address == address) (dirty_take address n rows (omega arith) clean)
  where
    by_test : (b : Bool) → is_dirty_at address (take n rows) ≡ is_dirty_at address rows → is_dirty (cond b (Some row) (a_row address (take n rows))) ≡ is_dirty (cond b (Some row) (a_row address rows))
    by_test true rest = refl
    by_test false rest = rest

-- another address stays as it is where one is taken out
pub dirty_filter : (address other : ℕ) (rows : List ARow) → (other == address) ≡ false → is_dirty_at address (filter (λ row. not (row.address == other)) rows) ≡ is_dirty_at address rows
dirty_filter address other [] apart = refl
dirty_filter address other (row ∷ rows) apart = by_test (row.address == other) refl (dirty_filter address other rows apart)
  where
    by_address : (b : Bool) → is_dirty_at address (filter (λ r. not (r.address == other)) rows) ≡ is_dirty_at address rows
        → is_dirty (cond b (Some row) (a_row address (filter (λ r. not (r.address == other)) rows))) ≡ is_dirty (cond b (Some row) (a_row address rows))
    by_address true rest = refl
    by_address false rest = rest

    by_test : (b : Bool) → (row.address == other) ≡ b → is_dirty_at address (filter (λ r. not (r.address == other)) rows) ≡ is_dirty_at address rows
        → is_dirty_at address (cond (not b) (row ∷ filter (λ r. not (r.address == other)) rows) (filter (λ r. not (r.address == other)) rows)) ≡ is_dirty_at address (row ∷ rows)
    by_test true here rest = rest
        ∙ sym (ap (λ b. is_dirty (cond b (Some row) (a_row address rows))) (ap (λ n. n == address) (eqb-true row.address other here) ∙ apart))
    by_test false away rest = by_address (row.address == address) rest

-- the address in front
pub dirty_moved : (touch : Touch) (rows : List ARow) (address : ℕ) → is_dirty_at address (a_moved touch rows) ≡ (if touch.address == address then (touch.dirty || is_dirty_at touch.address rows) else is_dirty_at address rows)
dirty_moved touch rows address = by_test (touch.address == address) refl
  where
    by_test : (b : Bool) → (touch.address == address) ≡ b
        → is_dirty (cond b (Some (linked_row touch rows)) (a_row address (filter (λ row. not (row.address == touch.address)) rows))) ≡ (if b then (touch.dirty || is_dirty_at touch.address rows) else is_dirty_at address rows)
    by_test true here = refl
    by_test false away = dirty_filter address touch.address rows away

unlinked_if_address : (b : Bool) (row : ARow) → (cond b (record row { link = links.Lost }) row).address ≡ row.address
unlinked_if_address true row = refl
unlinked_if_address false row = refl

pub unlinked_address : (cut : Option BRow) (row : ARow) → (unlinked_from cut row).address ≡ row.address
unlinked_address None row = refl
unlinked_address (Some c) row = unlinked_if_address (is_slot c.slot row.link) row

unlinked_if_dirty : (b : Bool) (row : ARow) → (cond b (record row { link = links.Lost }) row).dirty ≡ row.dirty
unlinked_if_dirty true row = refl
unlinked_if_dirty false row = refl

unlinked_dirty : (cut : Option BRow) (row : ARow) → (unlinked_from cut row).dirty ≡ row.dirty
unlinked_dirty None row = refl
unlinked_dirty (Some c) row = unlinked_if_dirty (is_slot c.slot row.link) row

-- which addresses are dirty after a touch
pub dirty_touched : (acap : ℕ) (touch : Touch) (rows : List ARow) (cut : Option BRow) → length (a_moved touch rows) ≤ acap + 1 → is_clean_cut (slice_get (a_moved touch rows) acap) ≡ true → (address : ℕ)
    → is_dirty_at address (map (unlinked_from cut) (take acap (a_moved touch rows))) ≡ (if touch.address == address then (touch.dirty || is_dirty_at touch.address rows) else is_dirty_at address rows)
dirty_touched acap touch rows cut few clean address =
    dirty_map (unlinked_from cut) (unlinked_address cut) (unlinked_dirty cut) address (take acap (a_moved touch rows))
    ∙ dirty_take address acap (a_moved touch rows) few clean
    ∙ dirty_moved touch rows address

-- and their list
module _ (p q : ℕ → Bool) (touched : ℕ) (dirty : Bool) (after : (n : ℕ) → q n ≡ (if touched == n then (dirty || p touched) else p n)) where
  as_before : (b : Bool) (n : ℕ) → (touched == n) ≡ b → (dirty || p touched) ≡ p touched → (if b then (dirty || p touched) else p n) ≡ p n
  as_before true n here same = same ∙ ap p (eqb-true touched n here)
  as_before false n away same = refl

  with_it : (b : Bool) (n : ℕ) → (touched == n) ≡ b → dirty ≡ true → (if b then (dirty || p touched) else p n) ≡ (p n || b)
  with_it true n here is = ap (λ d. d || p touched) is ∙ sym (or_true (p n))
    where
      or_true : (b : Bool) → (b || true) ≡ true
      or_true true = refl
      or_true false = refl
  with_it false n away is = sym (or_none (p n))
    where
      or_none : (b : Bool) → (b || false) ≡ b
      or_none true = refl
      or_none false = refl

  not_new : (d m : Bool) → (d && not m) ≡ false → (d || m) ≡ m
  not_new true true h = refl
  not_new true false h = absurd (cc h)
  not_new false m h = refl

  is_new : (d m : Bool) → (d && not m) ≡ true → (d ≡ true) × (m ≡ false)
  is_new true true h = absurd (cc h)
  is_new true false h = (refl, refl)
  is_new false m h = absurd (cc h)

  pub dirtied_ones : (addresses : List ℕ) → Enumerates p addresses → Enumerates q (dirtied touched dirty addresses)
  dirtied_ones addresses h = by_case (dirty && not (is_among touched addresses)) refl
    where
      by_case : (b : Bool) → (dirty && not (is_among touched addresses)) ≡ b → Enumerates q (if b then addresses ++ touched ∷ [] else addresses)
      by_case true new =
          let parts = is_new dirty (is_among touched addresses) new in
          one_more p q addresses touched h (sym (h.each touched) ∙ parts.1) (λ n. after n ∙ with_it (touched == n) n refl parts.0 ∙ ap (λ b. p n || b) (nat_eq_equiv.symm touched n))
      by_case false old =
          let same : (dirty || p touched) ≡ p touched = not_new dirty (p touched) (ap (λ b. dirty && not b) (sym (h.each touched)) ∙ old) in
          by_test p q addresses h (λ n. sym (after n ∙ as_before (touched == n) n refl same))

-- one address is clean
pub dirty_cleaned : (address : ℕ) (rows : List ARow) (n : ℕ) → is_dirty_at n (cleaned address rows) ≡ (is_dirty_at n rows && not (n == address))
dirty_cleaned address [] n = refl
dirty_cleaned address (row ∷ rows) n = by_address (row.address == address) refl (dirty_cleaned address rows n)
  where
    Rest : Type 0
    Rest = is_dirty_at n (cleaned address rows) ≡ (is_dirty_at n rows && not (n == address))

    and_all : (b : Bool) → (b && true) ≡ b
    and_all true = refl
    and_all false = refl

    by_number : (b : Bool) → (row.address == n) ≡ b → (row.address == address) ≡ false → Rest
        → is_dirty (cond b (Some row) (a_row n (cleaned address rows))) ≡ (is_dirty (cond b (Some row) (a_row n rows)) && not (n == address))
    by_number true here away rest = sym (ap (λ b. row.dirty && not b) (ap (λ m. m == address) (sym (eqb-true row.address n here)) ∙ away) ∙ and_all row.dirty)
    by_number false there away rest = rest

    clean_number : (b : Bool) → (row.address == n) ≡ b → (row.address == address) ≡ true → Rest
        → is_dirty (cond b (Some (record row { dirty = false })) (a_row n (cleaned address rows))) ≡ (is_dirty (cond b (Some row) (a_row n rows)) && not (n == address))
    clean_number true here at rest = sym (ap (λ b. row.dirty && not b) (ap (λ m. m == address) (sym (eqb-true row.address n here)) ∙ at) ∙ and_right row.dirty false refl)
    clean_number false there at rest = rest

    by_address : (b : Bool) → (row.address == address) ≡ b → Rest → is_dirty_at n (cond b (record row { dirty = false }) row ∷ cleaned address rows) ≡ (is_dirty_at n (row ∷ rows) && not (n == address))
    by_address true at rest = clean_number (row.address == n) refl at rest
    by_address false away rest = by_number (row.address == n) refl away rest

pub cleaned_ones : (p q : ℕ → Bool) (address : ℕ) (addresses : List ℕ) → Enumerates p addresses → ((n : ℕ) → q n ≡ (p n && not (n == address))) → Enumerates q (filter (λ other. not (other == address)) addresses)
cleaned_ones p q address addresses h after = record {
  each = λ n. is_member-filter nat_eq_equiv (λ other. not (other == address)) n (λ x same. ap (λ m. not (m == address)) (eqb-true n x same)) addresses
      ∙ ap (λ b. b && not (n == address)) (h.each n) ∙ sym (after n);
  once = apart_filter (λ n. n) (λ other. not (other == address)) addresses h.once;
}

-- the dirty addresses of rows, one row more in front
abbrev pub if_dirty : ARow → List ℕ
if_dirty row = if row.dirty then row.address ∷ [] else []

pub dirty_cons : (row : ARow) (rows : List ARow) → dirty_of_rows (row ∷ rows) ≡ dirty_of_rows rows ++ if_dirty row
dirty_cons row rows =
    ap (λ rs. map (λ (r : ARow). r.address) (filter (λ r. r.dirty) rs)) (reverse-append (row ∷ []) rows)
    ∙ ap (map (λ (r : ARow). r.address)) (filter-append (λ (r : ARow). r.dirty) (reverse rows) (row ∷ []))
    ∙ map-append (λ (r : ARow). r.address) (filter (λ r. r.dirty) (reverse rows)) (filter (λ r. r.dirty) (row ∷ []))
    ∙ ap (λ ns. dirty_of_rows rows ++ ns) (by_test row.dirty)
  where
    by_test : (b : Bool) → map (λ (r : ARow). r.address) (cond b (row ∷ []) []) ≡ (if b then row.address ∷ [] else [])
    by_test true = refl
    by_test false = refl

not_dirty : (address : ℕ) (rows : List ARow) → AllByRecursion (λ row. (address == row.address) ≡ false) rows → is_dirty_at address rows ≡ false
not_dirty address [] h = refl
not_dirty address (row ∷ rows) h = ap (λ b. is_dirty (cond b (Some row) (a_row address rows))) (nat_eq_equiv.symm row.address address ∙ h.0) ∙ not_dirty address rows h.1

-- each of them once, where the addresses are apart
pub dirty_ones_of : (rows : List ARow) → IsDistinct (λ x y. x.address == y.address) rows → Enumerates (λ address. is_dirty_at address rows) (dirty_of_rows rows)
unfolding IsDistinct
dirty_ones_of [] h = none_pass (λ address. false) (λ n. refl)
dirty_ones_of (row ∷ rows) h = subst (Enumerates (λ address. is_dirty_at address (row ∷ rows))) (sym (dirty_cons row rows)) (by_dirty row.dirty refl (dirty_ones_of rows h.1))
  where
    out : is_dirty_at row.address rows ≡ false
    out = not_dirty row.address rows h.0

    is_one : (b : Bool) (n : ℕ) → (row.address == n) ≡ b → row.dirty ≡ true → is_dirty (cond b (Some row) (a_row n rows)) ≡ (is_dirty_at n rows || b)
    is_one true n here dirty = dirty ∙ sym (or_true (is_dirty_at n rows))
      where
        or_true : (b : Bool) → (b || true) ≡ true
        or_true true = refl
        or_true false = refl
    is_one false n away dirty = sym (or_none (is_dirty_at n rows))
      where
        or_none : (b : Bool) → (b || false) ≡ b
        or_none true = refl
        or_none false = refl

    is_none_of : (b : Bool) (n : ℕ) → (row.address == n) ≡ b → row.dirty ≡ false → is_dirty_at n rows ≡ is_dirty (cond b (Some row) (a_row n rows))
    is_none_of true n here clean = ap (λ m. is_dirty_at m rows) (sym (eqb-true row.address n here)) ∙ out ∙ sym clean
    is_none_of false n away clean = refl

    append_none : (ns : List ℕ) → ns ++ [] ≡ ns
    append_none [] = refl
    append_none (n ∷ ns) = ap (λ (ms : List ℕ). n ∷ ms) (append_none ns)

    by_dirty : (b : Bool) → row.dirty ≡ b → Enumerates (λ address. is_dirty_at address rows) (dirty_of_rows rows) → Enumerates (λ address. is_dirty_at address (row ∷ rows)) (dirty_of_rows rows ++ (if b then row.address ∷ [] else []))
    by_dirty true dirty rest = one_more (λ n. is_dirty_at n rows) (λ n. is_dirty_at n (row ∷ rows)) (dirty_of_rows rows) row.address rest out
        (λ n. is_one (row.address == n) n refl dirty ∙ ap (λ b. is_dirty_at n rows || b) (nat_eq_equiv.symm row.address n))
    by_dirty false clean rest = subst (Enumerates (λ address. is_dirty_at address (row ∷ rows))) (sym (append_none (dirty_of_rows rows)))
        (by_test (λ n. is_dirty_at n rows) (λ n. is_dirty_at n (row ∷ rows)) (dirty_of_rows rows) rest (λ n. is_none_of (row.address == n) n refl clean))
