-- A reference keeps rows that fit each other so.
use Rattle.std.proofs.Common.{◌≡◌, ◌⊎◌, ⊎_elim, ℕ, suc, ◌≤◌, ◌==◌, Bool, true, false, List, [], ◌∷◌, length, take, refl, sym, ap, ◌∙◌, subst, arith, Some, None, cond}
use Rattle.std.specs.Prelude.{Option, filter, not, ◌&&◌, ◌||◌, slice_get}
use Rattle.std.specs.Str.{bytes_eq}
use Rattle.std.specs.List.{AllByRecursion, IsDistinct, list_any}
use Rattle.std.proofs.lemmas.Bool.{eq-eqb, eqb-true}
use Rattle.std.proofs.lemmas.Slice.Eq.{bytes_eq-Decides}
use Rattle.dd_record.specs.declared.row.ARow.{ARow}
use Rattle.dd_record.specs.declared.row.BRow.{BRow}
use Rattle.dd_record.specs.declared.row.Link.{Link}
use Rattle.dd_record.specs.declared.row.Link.TheVariants.{Lost, Slot, Zero}
use Rattle.dd_record.specs.Table.{Table, RowsFit, b_row, is_slot, link_fits, slot_fits}
use Rattle.dd_record.specs.Replay.{Touch, a_moved, b_after, b_moved, cleaned, cleaned_row, cut_block, linked_row, touched, unlinked_from}
use Rattle.dd_record.proofs.Lists.{all_filter, all_map, all_of, all_take, any_filter, any_take, apart_filter, apart_map, apart_take}

both : (a b : Bool) → a ≡ true → b ≡ true → (a && b) ≡ true
both true b is_a is_b = is_b
both false b is_a is_b = absurd (cc is_a)

each : (a b : Bool) → (a && b) ≡ true → (a ≡ true) × (b ≡ true)
each true b h = (refl, h)
each false b h = absurd (cc h)

not_true : (b : Bool) → not b ≡ true → b ≡ false
not_true true h = absurd (cc h)
not_true false h = refl

not_false : (b : Bool) → b ≡ false → not b ≡ true
not_false true h = absurd (cc h)
not_false false h = refl

turned : (m n : ℕ) (b : Bool) → (m == n) ≡ b → (n == m) ≡ b
turned m n true e = eq-eqb n m (sym (eqb-true m n e))
turned m n false e = by_test (n == m) refl
  where
    by_test : (c : Bool) → (n == m) ≡ c → c ≡ false
    by_test true is = absurd (cc (eq-eqb m n (sym (eqb-true n m is)), e))
    by_test false is = refl

-- whether a block has this slot and this fingerprint
abbrev holds : ℕ → List ℕ → BRow → Bool
holds slot fp block = block.slot == slot && bytes_eq block.fp.0 fp

-- no block apart from this slot holds it
none_holds : (slot : ℕ) (fp : List ℕ) (rows : List BRow) → AllByRecursion (λ (row : BRow). (slot == row.slot) ≡ false) rows → list_any (holds slot fp) rows ≡ false
none_holds slot fp [] apart = refl
none_holds slot fp (row ∷ rows) apart = ap (λ t. t && bytes_eq row.fp.0 fp || list_any (holds slot fp) rows) (turned slot row.slot false apart.0) ∙ none_holds slot fp rows apart.1

-- the row of a slot is the one that holds what some row of that slot does
holds_it : (slot : ℕ) (fp : List ℕ) (rows : List BRow) (block : BRow) → IsDistinct (λ (x y : BRow). x.slot == y.slot) rows → b_row slot rows ≡ Some block → list_any (holds slot fp) rows ≡ true → holds slot fp block ≡ true
unfolding IsDistinct
holds_it slot fp [] block apart found h = absurd (cc h)
holds_it slot fp (row ∷ rows) block apart found h = by_test (row.slot == slot) refl found h (holds_it slot fp rows block apart.1)
  where
    here : (b : Bool) → (b || list_any (holds slot fp) rows) ≡ true → list_any (holds slot fp) rows ≡ false → b ≡ true
    here true is none = refl
    here false is none = absurd (cc (is, none))

    by_test : (b : Bool) → (row.slot == slot) ≡ b → cond b (Some row) (b_row slot rows) ≡ Some block → (b && bytes_eq row.fp.0 fp || list_any (holds slot fp) rows) ≡ true
        → (b_row slot rows ≡ Some block → list_any (holds slot fp) rows ≡ true → holds slot fp block ≡ true) → holds slot fp block ≡ true
    by_test true is same any rest =
        let none : list_any (holds slot fp) rows ≡ false =
        none_holds slot fp rows (subst (λ (n : ℕ). AllByRecursion (λ (y : BRow). (n == y.slot) ≡ false) rows) (eqb-true row.slot slot is) apart.0) in
        let it : row ≡ block = cc same in
        subst (λ (r : BRow). holds slot fp r ≡ true) it (both (row.slot == slot) (bytes_eq row.fp.0 fp) is (here (bytes_eq row.fp.0 fp) any none))
    by_test false is same any rest = rest same any

-- where a slot isn't listed, nothing holds it
none_listed : (slot : ℕ) (fp : List ℕ) (rows : List BRow) → b_row slot rows ≡ None → list_any (holds slot fp) rows ≡ false
none_listed slot fp [] none = refl
none_listed slot fp (row ∷ rows) none = by_test (row.slot == slot) none (none_listed slot fp rows)
  where
    by_test : (b : Bool) → cond b (Some row) (b_row slot rows) ≡ None → (b_row slot rows ≡ None → list_any (holds slot fp) rows ≡ false) → (b && bytes_eq row.fp.0 fp || list_any (holds slot fp) rows) ≡ false
    by_test true is rest = absurd (cc is)
    by_test false is rest = rest is

-- a block that is referenced is the listed one with its slot, or its slot isn't listed
abbrev pub IsOne : List BRow → BRow → Type 0
IsOne rows block = (b_row block.slot rows ≡ Some block) ⊎ (b_row block.slot rows ≡ None)

-- and zeros are always
abbrev pub IsOneOf : List BRow → Option BRow → Type 0
IsOneOf rows None = Unit {0}
IsOneOf rows (Some block) = IsOne rows block

module _ (block : BRow) (rows : List BRow) (apart : IsDistinct (λ (x y : BRow). x.slot == y.slot) rows) (one : IsOne rows block) where
  moved_apart : IsDistinct (λ (x y : BRow). x.slot == y.slot) (b_moved block rows)
  unfolding IsDistinct
  moved_apart = (
    all_filter (λ (row : BRow). (block.slot == row.slot) ≡ false) (λ row. not (row.slot == block.slot)) rows (others rows),
    apart_filter (λ (x y : BRow). x.slot == y.slot) (λ row. not (row.slot == block.slot)) rows apart,
  )
    where
      others : (xs : List BRow) → AllByRecursion (λ (row : BRow). not (row.slot == block.slot) ≡ true → (block.slot == row.slot) ≡ false) xs
      others [] = tt
      others (row ∷ xs) = (λ other. turned row.slot block.slot false (not_true (row.slot == block.slot) other), others xs)

  -- what a row of these holds is held with the block in front of the others
  moved_holds : (slot : ℕ) (fp : List ℕ) → list_any (holds slot fp) rows ≡ true → list_any (holds slot fp) (b_moved block rows) ≡ true
  moved_holds slot fp h = by_test (block.slot == slot) refl
    where
      in_front : block.slot ≡ slot → holds slot fp block ≡ true
      in_front same = ⊎_elim
          (λ found. holds_it slot fp rows block apart (subst (λ (n : ℕ). b_row n rows ≡ Some block) same found) h)
          (λ none. absurd (cc (h, none_listed slot fp rows (subst (λ (n : ℕ). b_row n rows ≡ None) same none))))
          one

      by_test : (b : Bool) → (block.slot == slot) ≡ b → (holds slot fp block || list_any (holds slot fp) (filter (λ row. not (row.slot == block.slot)) rows)) ≡ true
      by_test true is = ap (λ t. t || list_any (holds slot fp) (filter (λ row. not (row.slot == block.slot)) rows)) (in_front (eqb-true block.slot slot is))
      by_test false is =
          ap (λ t. t && bytes_eq block.fp.0 fp || list_any (holds slot fp) (filter (λ row. not (row.slot == block.slot)) rows)) is
          ∙ any_filter (holds slot fp) (λ row. not (row.slot == block.slot)) rows (λ row here. other row (each (row.slot == slot) (bytes_eq row.fp.0 fp) here).0) h
        where
          other : (row : BRow) → (row.slot == slot) ≡ true → not (row.slot == block.slot) ≡ true
          other row here = not_false (row.slot == block.slot)
              (turned block.slot row.slot false (ap (λ n. block.slot == n) (eqb-true row.slot slot here) ∙ is))

-- a link that fits some blocks fits the first of them, where it isn't to the one behind them
still_fits : (n : ℕ) (rows : List BRow) (link : Link) (fp : List ℕ) → length rows ≤ suc n → slot_fits rows link fp ≡ true
    → ((cut : BRow) → slice_get rows n ≡ Some cut → is_slot cut.slot link ≡ false) → slot_fits (take n rows) link fp ≡ true
still_fits n rows Lost fp short fits apart = refl
still_fits n rows (Slot slot) fp short fits apart = ⊎_elim (λ here. here)
    (λ behind. absurd (cc (turned behind.0.slot slot true (each (behind.0.slot == slot) (bytes_eq behind.0.fp.0 fp) behind.2).0, apart behind.0 behind.1)))
    (any_take (holds slot fp) n rows short fits)
still_fits n rows Zero fp short fits apart = refl

-- a row that is unlinked from what falls off fits where it does unless it is linked to that
unlinked_fits : (rows : List BRow) (cut : Option BRow) (row : ARow) → (((c : BRow) → cut ≡ Some c → is_slot c.slot row.link ≡ false) → link_fits rows row ≡ true) → link_fits rows (unlinked_from cut row) ≡ true
unlinked_fits rows None row fits = fits (λ c is. absurd (cc is))
unlinked_fits rows (Some cut) row fits = by_test (is_slot cut.slot row.link) refl
  where
    by_test : (b : Bool) → is_slot cut.slot row.link ≡ b → link_fits rows (cond b (record row { link = Lost }) row) ≡ true
    by_test true is = refl
    by_test false is = fits (λ c same. let it : cut ≡ c = cc same in subst (λ (r : BRow). is_slot r.slot row.link ≡ false) it is)

short_filter : {X : Type 0} (p : X → Bool) (xs : List X) → length (filter p xs) ≤ length xs
short_filter p [] = omega arith
short_filter p (x ∷ xs) = by_test (p x) (short_filter p xs)
  where
    by_test : (b : Bool) → length (filter p xs) ≤ length xs → length (cond b (x ∷ filter p xs) (filter p xs)) ≤ length (x ∷ xs)
    by_test true short = omega (arith, short)
    by_test false short = omega (arith, short)

moved_link : (block : BRow) (rows : List BRow) (link : Link) (fp : List ℕ) → IsDistinct (λ (x y : BRow). x.slot == y.slot) rows → IsOne rows block → slot_fits rows link fp ≡ true → slot_fits (b_moved block rows) link fp ≡ true
moved_link block rows Lost fp apart one fits = refl
moved_link block rows (Slot slot) fp apart one fits = moved_holds block rows apart one slot fp fits
moved_link block rows Zero fp apart one fits = refl

front_link : (block : BRow) (rows : List BRow) → slot_fits (b_moved block rows) (Slot block.slot) block.fp.0 ≡ true
front_link block rows = ap (λ t. t || list_any (holds block.slot block.fp.0) (filter (λ row. not (row.slot == block.slot)) rows))
    (both (block.slot == block.slot) (bytes_eq block.fp.0 block.fp.0) (eq-eqb block.slot block.slot refl) ((bytes_eq-Decides block.fp.0 block.fp.0).1 refl))

same_address : (cut : Option BRow) (row : ARow) → (unlinked_from cut row).address ≡ row.address
same_address None row = refl
same_address (Some cut) row = by_test (is_slot cut.slot row.link)
  where
    by_test : (b : Bool) → (cond b (record row { link = Lost }) row).address ≡ row.address
    by_test true = refl
    by_test false = refl

module _ (acap bcap address : ℕ) (dirty : Bool) (table : Table) (fit : RowsFit table) (few : length table.b ≤ bcap) where
  abbrev touch_by : Option BRow → Touch
  touch_by block = record { address = address; block = block; dirty = dirty }

  -- what fits B before fits it behind, unless it is linked to what falls off
  stays : (block : Option BRow) → IsOneOf table.b block → (row : ARow) → link_fits table.b row ≡ true → link_fits (b_after bcap block table.b) (unlinked_from (cut_block bcap block table.b) row) ≡ true
  stays None one row fits = fits
  stays (Some block) one row fits =
      let short = short_filter (λ (r : BRow). not (r.slot == block.slot)) table.b in
      unlinked_fits (take bcap (b_moved block table.b)) (slice_get (b_moved block table.b) bcap) row
      (still_fits bcap (b_moved block table.b) row.link row.fp.0 (omega (arith, short, few)) (moved_link block table.b row.link row.fp.0 fit.slots one fits))

  front : (block : Option BRow) → link_fits (b_after bcap block table.b) (unlinked_from (cut_block bcap block table.b) (linked_row (touch_by block) table.a)) ≡ true
  front None = refl
  front (Some block) =
      let short = short_filter (λ (r : BRow). not (r.slot == block.slot)) table.b in
      unlinked_fits (take bcap (b_moved block table.b)) (slice_get (b_moved block table.b) bcap) (linked_row (touch_by (Some block)) table.a)
      (still_fits bcap (b_moved block table.b) (Slot block.slot) block.fp.0 (omega (arith, short, few)) (front_link block table.b))

  slots_after : (block : Option BRow) → IsOneOf table.b block → IsDistinct (λ (x y : BRow). x.slot == y.slot) (b_after bcap block table.b)
  slots_after None one = fit.slots
  slots_after (Some block) one = apart_take (λ (x y : BRow). x.slot == y.slot) bcap (b_moved block table.b) (moved_apart block table.b fit.slots one)

  a_apart : (block : Option BRow) → IsDistinct (λ (x y : ARow). x.address == y.address) (a_moved (touch_by block) table.a)
  unfolding IsDistinct
  a_apart block = (
    all_filter (λ (row : ARow). (address == row.address) ≡ false) (λ row. not (row.address == address)) table.a (others table.a),
    apart_filter (λ (x y : ARow). x.address == y.address) (λ row. not (row.address == address)) table.a fit.addresses,
  )
    where
      others : (xs : List ARow) → AllByRecursion (λ (row : ARow). not (row.address == address) ≡ true → (address == row.address) ≡ false) xs
      others [] = tt
      others (row ∷ xs) = (λ other. turned row.address address false (not_true (row.address == address) other), others xs)

  -- a reference keeps rows that fit so
  pub touched_fits : (block : Option BRow) → IsOneOf table.b block → RowsFit (touched acap bcap (touch_by block) table)
  touched_fits block one =
      let cut : Option BRow = cut_block bcap block table.b in
      let after : List BRow = b_after bcap block table.b in
      record {
        slots = slots_after block one;
        addresses = apart_map (λ (x y : ARow). x.address == y.address) (unlinked_from cut) (take acap (a_moved (touch_by block) table.a))
            (λ x y. ap (λ n. n == (unlinked_from cut y).address) (same_address cut x) ∙ ap (λ n. x.address == n) (same_address cut y))
            (apart_take (λ (x y : ARow). x.address == y.address) acap (a_moved (touch_by block) table.a) (a_apart block));
        links = all_map (λ row. link_fits after (unlinked_from cut row) ≡ true) (λ row. link_fits after row ≡ true) (unlinked_from cut) (take acap (a_moved (touch_by block) table.a)) (λ row h. h)
            (all_take (λ row. link_fits after (unlinked_from cut row) ≡ true) acap (a_moved (touch_by block) table.a) (
              front block,
              all_filter (λ row. link_fits after (unlinked_from cut row) ≡ true) (λ row. not (row.address == address)) table.a
                  (all_of (λ row. link_fits table.b row ≡ true) (λ row. not (row.address == address) ≡ true → link_fits after (unlinked_from cut row) ≡ true) table.a (λ row fits other. stays block one row fits) fit.links),
            ));
      }

-- a row that was made clean is otherwise as before
cleaned_same : {X : Type 0} (f : ARow → X) (address : ℕ) (row : ARow) → f (record row { dirty = false }) ≡ f row → f (cleaned_row address row) ≡ f row
cleaned_same f address row same = by_test (row.address == address)
  where
    by_test : (b : Bool) → f (cond b (record row { dirty = false }) row) ≡ f row
    by_test true = same
    by_test false = refl

-- and so does a write-back
pub cleaned_fits : (address : ℕ) (table : Table) → RowsFit table → RowsFit (record table { a = cleaned address table.a })
cleaned_fits address table fit = record {
  slots = fit.slots;
  addresses = apart_map (λ (x y : ARow). x.address == y.address) (cleaned_row address) table.a
      (λ x y. ap (λ n. n == (cleaned_row address y).address) (cleaned_same (λ (r : ARow). r.address) address x refl) ∙ ap (λ n. x.address == n) (cleaned_same (λ (r : ARow). r.address) address y refl)) fit.addresses;
  links = all_map (λ row. link_fits table.b row ≡ true) (λ row. link_fits table.b row ≡ true) (cleaned_row address) table.a
      (λ row fits. cleaned_same (link_fits table.b) address row refl ∙ fits) fit.links;
}
