-- Listed slots and the distinct blocks that they hold.
use Rattle.std.proofs.Common.{◌≡◌, ◌⊎◌, inl, inr, ⊎_elim, ℕ, zero, suc, ◌≤◌, ◌==◌, Bool, true, false, cond, not, List, [], ◌∷◌, map, take, length, refl, ap, sym, ◌∙◌, subst, arith, Option, Some, None, eq-eqb}
use Rattle.std.specs.Prelude.{filter, slice_get, IfSome}
use Rattle.std.specs.Bool.{one_answer}
use Rattle.std.specs.List.{AllByRecursion, IsDistinct}
use Rattle.std.specs.Str.{bytes_eq}
use Rattle.std.proofs.lemmas.Bool.{false≢true, eqb-true}
use Rattle.std.proofs.lemmas.Slice.Eq.{bytes_eq-Decides}
use Rattle.dd_record.specs.declared.row.BRow.{BRow}
use Rattle.dd_record.specs.Table.{has_slot}
use Rattle.dd_record.specs.Replay.{b_moved}
use Rattle.dd_model.specs.Reference.{block_moved}
use Rattle.dd_model.specs.Rows.{held_block}
use Rattle.dd_model.proofs.Answering.{or_cases, or_left, or_right}

pub slot_front : (row : BRow) (b : List BRow) → has_slot row.slot (row ∷ b) ≡ true
slot_front row b = or_left (row.slot == row.slot) (has_slot row.slot b) (eq-eqb row.slot row.slot refl)

pub slot_behind : (row : BRow) (slot : ℕ) (b : List BRow) → has_slot slot b ≡ true → has_slot slot (row ∷ b) ≡ true
slot_behind row slot b h = or_right (row.slot == slot) (has_slot slot b) h

pub slot_cases : (row : BRow) (slot : ℕ) (b : List BRow) → has_slot slot (row ∷ b) ≡ true → (row.slot ≡ slot) ⊎ (has_slot slot b ≡ true)
slot_cases row slot b h = ⊎_elim (λ same. inl (eqb-true row.slot slot same)) (λ there. inr there) (or_cases (row.slot == slot) (has_slot slot b) h)

if_some_more : (found : Option BRow) (row : BRow) (b : List BRow) → IfSome found (λ r. has_slot r.slot b ≡ true) → IfSome found (λ r. has_slot r.slot (row ∷ b) ≡ true)
if_some_more None row b h = h
if_some_more (Some r) row b h = slot_behind row r.slot b h

-- the slot of the row at a place is listed
pub slot_get : (n : ℕ) (b : List BRow) → IfSome (slice_get b n) (λ row. has_slot row.slot b ≡ true)
slot_get n [] = tt
slot_get zero (row ∷ b) = slot_front row b
slot_get (suc n) (row ∷ b) = if_some_more (slice_get b n) row b (slot_get n b)

moved_by : (row : BRow) (slot : ℕ) (other : BRow) (b : List BRow) (t : Bool) → (other.slot == row.slot) ≡ t → ((other.slot ≡ slot) ⊎ (has_slot slot b ≡ true))
    → (has_slot slot b ≡ true → has_slot slot (b_moved row b) ≡ true)
    → has_slot slot (row ∷ cond (not t) (other ∷ filter (λ r. not (r.slot == row.slot)) b) (filter (λ r. not (r.slot == row.slot)) b)) ≡ true
moved_by row slot other b true same h ih =
    ⊎_elim (λ front. or_left (row.slot == slot) (has_slot slot (filter (λ r. not (r.slot == row.slot)) b)) (eq-eqb row.slot slot (sym (eqb-true other.slot row.slot same) ∙ front))) (λ there. ih there) h
moved_by row slot other b false apart h ih =
    ⊎_elim
    (λ front. slot_behind row slot (other ∷ filter (λ r. not (r.slot == row.slot)) b) (or_left (other.slot == slot) (has_slot slot (filter (λ r. not (r.slot == row.slot)) b)) (eq-eqb other.slot slot front)))
    (λ there. ⊎_elim
    (λ same. or_left (row.slot == slot) (has_slot slot (other ∷ filter (λ r. not (r.slot == row.slot)) b)) (eq-eqb row.slot slot same))
    (λ behind. slot_behind row slot (other ∷ filter (λ r. not (r.slot == row.slot)) b) (slot_behind other slot (filter (λ r. not (r.slot == row.slot)) b) behind))
    (slot_cases row slot (filter (λ r. not (r.slot == row.slot)) b) (ih there)))
    h

-- a listed slot stays listed where a row moves to the front
pub slot_moved : (row : BRow) (slot : ℕ) (b : List BRow) → has_slot slot b ≡ true → has_slot slot (b_moved row b) ≡ true
slot_moved row slot [] h = absurd (false≢true h)
slot_moved row slot (other ∷ b) h = moved_by row slot other b (other.slot == row.slot) refl (slot_cases other slot b h) (λ there. slot_moved row slot b there)

abbrev pub IsSlotOf : ℕ → Option BRow → Type 0
IsSlotOf slot None = ⊥
IsSlotOf slot (Some row) = row.slot ≡ slot

-- a slot of a list that is at most one too long is in its cut, or is that of the row cut off
pub slot_cut : (slot n : ℕ) (b : List BRow) → length b ≤ suc n → has_slot slot b ≡ true → (has_slot slot (take n b) ≡ true) ⊎ IsSlotOf slot (slice_get b n)
slot_cut slot n [] short h = absurd (false≢true h)
slot_cut slot zero (row ∷ []) short h = ⊎_elim (λ same. inr same) (λ there. absurd (false≢true there)) (slot_cases row slot [] h)
slot_cut slot zero (row ∷ other ∷ b) short h = absurd (omega (arith, short))
slot_cut slot (suc n) (row ∷ b) short h =
    ⊎_elim (λ same. inl (or_left (row.slot == slot) (has_slot slot (take n b)) (eq-eqb row.slot slot same)))
    (λ there. ⊎_elim (λ kept. inl (slot_behind row slot (take n b) kept)) (λ last. inr last) (slot_cut slot n b (omega (arith, short)) there))
    (slot_cases row slot b h)

pub map_cond : {X Y : Type 0} (h : X → Y) (t : Bool) (x : X) (xs : List X) → map h (cond t (x ∷ xs) xs) ≡ cond t (h x ∷ map h xs) (map h xs)
map_cond h true x xs = refl
map_cond h false x xs = refl

module _ (held : ℕ → List ℕ) where
  -- what holds of all blocks holds of the one in a listed slot
  pub held_all : (P : List ℕ → Type 0) (slot : ℕ) (b : List BRow) → AllByRecursion P (map (held_block held) b) → has_slot slot b ≡ true → P (held slot)
  held_all P slot [] all h = absurd (false≢true h)
  held_all P slot (row ∷ b) all h = ⊎_elim (λ same. subst (λ n. P (held n)) same all.0) (λ there. held_all P slot b all.1 there) (slot_cases row slot b h)

  apart_from : (row : BRow) (j : ℕ) (b : List BRow) → AllByRecursion (λ z. bytes_eq (held row.slot) z ≡ false) (map (held_block held) b) → has_slot j b ≡ true → held row.slot ≡ held j → ⊥
  apart_from row j b all h same = false≢true (sym (held_all (λ z. bytes_eq (held row.slot) z ≡ false) j b all h) ∙ (bytes_eq-Decides (held row.slot) (held j)).1 same)

  -- distinct blocks lie in distinct slots
  pub one_slot : (b : List BRow) → IsDistinct bytes_eq (map (held_block held) b) → (i j : ℕ) → has_slot i b ≡ true → has_slot j b ≡ true → held i ≡ held j → i ≡ j
  unfolding IsDistinct
  one_slot [] distinct i j hi hj same = absurd (false≢true hi)
  one_slot (row ∷ b) distinct i j hi hj same =
      ⊎_elim
      (λ i_front. ⊎_elim (λ j_front. sym i_front ∙ j_front) (λ j_behind. absurd (apart_from row j b distinct.0 j_behind (ap held i_front ∙ same))) (slot_cases row j b hj))
      (λ i_behind. ⊎_elim (λ j_front. absurd (apart_from row i b distinct.0 i_behind (ap held j_front ∙ sym same))) (λ j_behind. one_slot b distinct.1 i j i_behind j_behind same) (slot_cases row j b hj))
      (slot_cases row i b hi)

  -- two slots are one exactly where they hold one block
  pub one_block : (i j : ℕ) → (held i ≡ held j → i ≡ j) → (i == j) ≡ bytes_eq (held i) (held j)
  one_block i j one =
      one_answer {P = i ≡ j} (i == j) (bytes_eq (held i) (held j)) (eqb-true i j, eq-eqb i j)
      ((λ same. one ((bytes_eq-Decides (held i) (held j)).0 same)), (λ same. (bytes_eq-Decides (held i) (held j)).1 (ap held same)))

  -- no listed slot but the row's own holds the row's block
  abbrev pub HoldsAlone : BRow → List BRow → Type 0
  HoldsAlone row b = (i : ℕ) → has_slot i b ≡ true → held i ≡ held row.slot → i ≡ row.slot

  -- a listed row does
  pub listed_alone : (row : BRow) (b : List BRow) → IsDistinct bytes_eq (map (held_block held) b) → has_slot row.slot b ≡ true → HoldsAlone row b
  listed_alone row b distinct listed i h same = one_slot b distinct i row.slot h listed same

  pub blocks_filtered : (row : BRow) (b : List BRow) → HoldsAlone row b
      → map (held_block held) (filter (λ other. not (other.slot == row.slot)) b) ≡ filter (λ other. not (bytes_eq other (held row.slot))) (map (held_block held) b)
  blocks_filtered row [] alone = refl
  blocks_filtered row (other ∷ b) alone =
      map_cond (held_block held) (not (other.slot == row.slot)) other (filter (λ r. not (r.slot == row.slot)) b)
      ∙ ap (λ t. cond (not t) (held other.slot ∷ map (held_block held) (filter (λ r. not (r.slot == row.slot)) b)) (map (held_block held) (filter (λ r. not (r.slot == row.slot)) b)))
      (one_block other.slot row.slot (alone other.slot (slot_front other b)))
      ∙ ap (λ rest. cond (not (bytes_eq (held other.slot) (held row.slot))) (held other.slot ∷ rest) rest) (blocks_filtered row b (λ i h. alone i (slot_behind other i b h)))

  -- moving the row to the front moves its block there
  pub blocks_moved : (row : BRow) (b : List BRow) → HoldsAlone row b → map (held_block held) (b_moved row b) ≡ block_moved (held row.slot) (map (held_block held) b)
  blocks_moved row b alone = ap (λ rest. held row.slot ∷ rest) (blocks_filtered row b alone)
