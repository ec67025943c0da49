-- Rows, with one more in front and the last one away where there are too many.
use Rattle.std.proofs.Common.{◌≡◌, ℕ, zero, suc, ◌-◌, ◌≤◌, ◌==◌, ⊎_elim, Bool, true, false, cond, List, [], ◌∷◌, length, take, refl, sym, ◌∙◌, ap, arith, Some, None}
use Rattle.std.specs.Prelude.{Option, filter, find, not, slice_get, is_some, if◌then◌else◌, option_map}
use Rattle.std.proofs.lemmas.Bool.{eq-eqb, ne_eqb, cases_eq}
use Rattle.std.proofs.lemmas.List.{take_all}
use Rattle.dd_record.specs.declared.row.ARow.{ARow}
use Rattle.dd_record.specs.declared.row.BRow.{BRow}
use Rattle.dd_record.specs.Table.{a_row, b_row}
use Rattle.dd_record.specs.Replay.{b_after, cut_block}
use Rattle.dd_model.specs.Listing.{last_of_full}
use Rattle.dd_model.proofs.Kept.{filter_none, filter_less, found_key}
use Rattle.dd_model.proofs.Falling.{listed_stays, last_falls}
use Rattle.dd_data.specs.Blocks.{in_front}
use Rattle.dd_policy.specs.Coupling.{roomy, roomy_for, out_for}

none_or : {Row : Type 0} (b : Bool) (x : Row) (o : Option Row) → cond b (Some x) o ≡ None → (b ≡ false) × (o ≡ None)
none_or true x o h = absurd (cc h)
none_or false x o h = (refl, h)

front_full : {Row : Type 0} (cap : ℕ) (row : Row) (rows : List Row) → 1 ≤ cap → length rows ≡ cap → row ∷ take (length rows - 1) rows ≡ take cap (row ∷ rows)
front_full zero row rows some full = absurd (omega (arith, some))
front_full (suc n) row rows some full = let less : length rows - 1 ≡ n = omega (arith, full) in ap (λ m. row ∷ take m rows) less

pub roomy_front : {Row : Type 0} (cap : ℕ) (row : Row) (rows : List Row) → 1 ≤ cap → length rows ≤ cap → row ∷ roomy cap rows ≡ take cap (row ∷ rows)
roomy_front cap row rows some few = ⊎_elim
    (λ full. ap (λ b. row ∷ (if b then take (length rows - 1) rows else rows)) (eq-eqb (length rows) cap full) ∙ front_full cap row rows some full)
    (λ less. ap (λ b. row ∷ (if b then take (length rows - 1) rows else rows)) (ne_eqb (length rows) cap less) ∙ sym (take_all cap (row ∷ rows) (omega arith)))
    (cases_eq (length rows) cap)

module _ {Row : Type 0} (key : Row → ℕ) where
  pub find_take : (k n : ℕ) (rows : List Row) → find (λ r. key r == k) rows ≡ None → find (λ r. key r == k) (take n rows) ≡ None
  find_take k zero [] h = refl
  find_take k (suc n) [] h = refl
  find_take k zero (r ∷ rows) h = refl
  find_take k (suc n) (r ∷ rows) h =
      let parts = none_or (key r == k) r (find (λ x. key x == k) rows) h in
      ap (λ b. cond b (Some r) (find (λ x. key x == k) (take n rows))) parts.0 ∙ find_take k n rows parts.1

  pub find_roomy : (k cap : ℕ) (rows : List Row) → find (λ r. key r == k) rows ≡ None → find (λ r. key r == k) (roomy cap rows) ≡ None
  find_roomy k cap rows none = by_test (length rows == cap)
    where
      by_test : (b : Bool) → find (λ r. key r == k) (cond b (take (length rows - 1) rows) rows) ≡ None
      by_test true = find_take k (length rows - 1) rows none
      by_test false = none

  -- a row that isn't listed, in front
  pub fresh_front : (cap k : ℕ) (row : Row) (rows : List Row) → 1 ≤ cap → length rows ≤ cap → find (λ r. key r == k) rows ≡ None → row ∷ roomy cap rows ≡ take cap (row ∷ filter (λ r. not (key r == k)) rows)
  fresh_front cap k row rows some few none = roomy_front cap row rows some few ∙ ap (λ (rs : List Row). take cap (row ∷ rs)) (sym (filter_none key k rows none))

  -- one that is listed
  pub listed_front : (cap k : ℕ) (row : Row) (rows : List Row) → length rows ≤ cap → is_some (find (λ r. key r == k) rows) ≡ true → row ∷ filter (λ r. not (key r == k)) rows ≡ take cap (row ∷ filter (λ r. not (key r == k)) rows)
  listed_front cap k row rows few is = sym (take_all cap (row ∷ filter (λ r. not (key r == k)) rows) (omega (arith, few, filter_less key k rows is)))

-- an address in front, whose row is taken away from the others
module _ (address acap : ℕ) (row : ARow) (rows : List ARow) (some : 1 ≤ acap) (few : length rows ≤ acap) where
  pub address_front : row ∷ filter (λ other. not (other.address == address)) (roomy_for address acap rows) ≡ take acap (row ∷ filter (λ other. not (other.address == address)) rows)
  address_front = by_row (a_row address rows) refl
    where
      by_row : (o : Option ARow) → a_row address rows ≡ o
          → row ∷ filter (λ other. not (other.address == address)) (if is_some o then rows else roomy acap rows) ≡ take acap (row ∷ filter (λ other. not (other.address == address)) rows)
      by_row None is =
          ap (λ (rs : List ARow). row ∷ rs) (filter_none (λ (r : ARow). r.address) address (roomy acap rows) (find_roomy (λ (r : ARow). r.address) address acap rows is))
          ∙ fresh_front (λ (r : ARow). r.address) acap address row rows some few is
      by_row (Some found) is = listed_front (λ (r : ARow). r.address) acap address row rows few (ap is_some is)

  pub address_out : out_for address acap rows ≡ option_map (λ (r : ARow). r.address) (slice_get (row ∷ filter (λ other. not (other.address == address)) rows) acap)
  address_out = by_row (a_row address rows) refl
    where
      by_row : (o : Option ARow) → a_row address rows ≡ o
          → (if is_some o then None else option_map (λ (r : ARow). r.address) (last_of_full acap rows)) ≡ option_map (λ (r : ARow). r.address) (slice_get (row ∷ filter (λ other. not (other.address == address)) rows) acap)
      by_row None is = ap (option_map (λ (r : ARow). r.address)) (sym (last_falls (λ (r : ARow). r.address) acap some address row rows few is))
      by_row (Some found) is = ap (option_map (λ (r : ARow). r.address)) (sym (listed_stays (λ (r : ARow). r.address) acap some address row rows few (ap is_some is)))

-- a listed block in front
module _ (slot bcap : ℕ) (rows : List BRow) (some : 1 ≤ bcap) (few : length rows ≤ bcap) where
  listed_too : (row : BRow) → b_row slot rows ≡ Some row → is_some (b_row row.slot rows) ≡ true
  listed_too row is = ap (λ n. is_some (b_row n rows)) (found_key (λ (r : BRow). r.slot) slot rows row is) ∙ ap is_some is

  pub block_front : in_front (b_row slot rows) rows ≡ b_after bcap (b_row slot rows) rows
  block_front = by_row (b_row slot rows) refl
    where
      by_row : (o : Option BRow) → b_row slot rows ≡ o → in_front o rows ≡ b_after bcap o rows
      by_row None is = refl
      by_row (Some row) is = listed_front (λ (r : BRow). r.slot) bcap row.slot row rows few (listed_too row is)

  pub block_stays : cut_block bcap (b_row slot rows) rows ≡ None
  block_stays = by_row (b_row slot rows) refl
    where
      by_row : (o : Option BRow) → b_row slot rows ≡ o → cut_block bcap o rows ≡ None
      by_row None is = refl
      by_row (Some row) is = listed_stays (λ (r : BRow). r.slot) bcap some row.slot row rows few (listed_too row is)
