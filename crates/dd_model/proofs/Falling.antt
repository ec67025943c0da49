-- What the next touch lets fall off.
use Rattle.std.proofs.Common.{◌≡◌, ⊎_elim, ℕ, zero, suc, ◌-◌, ◌≤◌, ◌==◌, Bool, true, List, ◌∷◌, length, refl, sym, ◌∙◌, ap, arith, Some, None}
use Rattle.std.specs.Prelude.{Option, filter, find, not, slice_get, is_some, option_map, if◌then◌else◌}
use Rattle.std.proofs.lemmas.Bool.{eq-eqb, ne_eqb, cases_eq}
use Rattle.std.proofs.lemmas.Option.{slice_get_past}
use Rattle.dd_record.specs.declared.row.ARow.{ARow}
use Rattle.dd_record.specs.declared.row.BRow.{BRow}
use Rattle.dd_record.specs.Table.{a_row, b_row}
use Rattle.dd_record.specs.Replay.{Touch, cut_block, linked_row}
use Rattle.dd_model.specs.declared.given.Block.{Block}
use Rattle.dd_model.specs.declared.given.Block.TheVariants.{Known, Fresh, Zero}
use Rattle.dd_model.specs.declared.given.Want.{Want}
use Rattle.dd_model.specs.Listing.{Listing, IsListing, IsGiven, want_of, is_fresh, row_of, touch_by, cut_of, victims_of, victims_from, last_of_full}
use Rattle.dd_model.proofs.Kept.{filter_none, filter_less, found_key}

-- the last row of a full list is the one at the last place
last_is : {Row : Type 0} (cap : ℕ) (rows : List Row) → 1 ≤ cap → length rows ≤ cap → last_of_full cap rows ≡ slice_get rows (cap - 1)
last_is cap rows some few = ⊎_elim
    (λ full. ap (λ b. if b then slice_get rows (cap - 1) else None) (eq-eqb (length rows) cap full))
    (λ less. ap (λ b. if b then slice_get rows (cap - 1) else None) (ne_eqb (length rows) cap less) ∙ sym (slice_get_past rows (cap - 1) (omega arith)))
    (cases_eq (length rows) cap)

-- the row at the last place, in a list with one in front
behind_front : {Row : Type 0} (cap : ℕ) (row : Row) (rows : List Row) → 1 ≤ cap → slice_get (row ∷ rows) cap ≡ slice_get rows (cap - 1)
behind_front zero row rows some = absurd (omega arith)
behind_front (suc n) row rows some = ap (slice_get rows) (omega arith)

module _ {Row : Type 0} (key : Row → ℕ) (cap : ℕ) (some : 1 ≤ cap) (k : ℕ) (row : Row) (rows : List Row) (few : length rows ≤ cap) where
  -- nothing falls off where the key is listed
  pub listed_stays : is_some (find (λ r. key r == k) rows) ≡ true → slice_get (row ∷ filter (λ r. not (key r == k)) rows) cap ≡ None
  listed_stays is =
      behind_front cap row (filter (λ r. not (key r == k)) rows) some
      ∙ slice_get_past (filter (λ r. not (key r == k)) rows) (cap - 1) (omega (arith, filter_less key k rows is))

  -- else the last one where the list is full
  pub last_falls : find (λ r. key r == k) rows ≡ None → slice_get (row ∷ filter (λ r. not (key r == k)) rows) cap ≡ last_of_full cap rows
  last_falls none =
      behind_front cap row (filter (λ r. not (key r == k)) rows) some
      ∙ ap (λ rs. slice_get rs (cap - 1)) (filter_none key k rows none)
      ∙ sym (last_is cap rows some few)

module _ (lists : Listing) (kept : IsListing lists) (address : ℕ) (touch : Touch) (at : touch.address ≡ address) where
  address_falls : (o : Option ARow) → a_row address lists.table.a ≡ o
      → (if is_some o then None else option_map (λ (row : ARow). row.address) (last_of_full lists.acap lists.table.a)) ≡ (cut_of touch lists).out
  address_falls None none = ap (option_map (λ (row : ARow). row.address))
      (sym (last_falls (λ (row : ARow). row.address) lists.acap kept.acap_least touch.address (linked_row touch lists.table.a) lists.table.a kept.a_few (ap (λ n. a_row n lists.table.a) at ∙ none)))
  address_falls (Some row) is = ap (option_map (λ (row : ARow). row.address))
      (sym (listed_stays (λ (row : ARow). row.address) lists.acap kept.acap_least touch.address (linked_row touch lists.table.a) lists.table.a kept.a_few (ap (λ n. is_some (a_row n lists.table.a)) at ∙ ap is_some is)))

known_stays : (lists : Listing) (kept : IsListing lists) (slot : ℕ) (o : Option BRow) → b_row slot lists.table.b ≡ o → cut_block lists.bcap o lists.table.b ≡ None
known_stays lists kept slot None is = refl
known_stays lists kept slot (Some row) is = listed_stays (λ (r : BRow). r.slot) lists.bcap kept.bcap_least row.slot row lists.table.b kept.b_few
    (ap (λ n. is_some (b_row n lists.table.b)) (found_key (λ (r : BRow). r.slot) slot lists.table.b row is) ∙ ap is_some is)

block_falls : (lists : Listing) (kept : IsListing lists) (block : Block) → IsGiven lists block
    → (if is_fresh (want_of block) then last_of_full lists.bcap lists.table.b else None) ≡ cut_block lists.bcap (row_of block lists.table.b) lists.table.b
block_falls lists kept (Known slot) given = sym (known_stays lists kept slot (b_row slot lists.table.b) refl)
block_falls lists kept (Fresh row) given = sym (last_falls (λ (r : BRow). r.slot) lists.bcap kept.bcap_least row.slot row lists.table.b kept.b_few given.1)
block_falls lists kept Zero given = refl

-- victims are what the next touch lets fall off
pub victims_next : (lists : Listing) (address : ℕ) (want : Want) → IsListing lists → (block : Block) (dirty : Bool) → IsGiven lists block → want ≡ want_of block
    → victims_of address want lists ≡ victims_from (cut_of (touch_by address block dirty lists) lists)
victims_next lists address want kept block dirty given is = λ i. record {
  out = address_falls lists kept address (touch_by address block dirty lists) refl (a_row address lists.table.a) refl i;
  drop = (ap (λ w. if is_fresh w then last_of_full lists.bcap lists.table.b else None) is ∙ block_falls lists kept block given) i;
}
