-- The dirty addresses behind a reference, and the rows of a slot.
use Rattle.std.proofs.Common.{◌≡◌, ℕ, zero, suc, ◌<◌, ◌≤◌, ◌==◌, Bool, true, false, cond, List, [], ◌∷◌, ◌++◌, length, map, take, refl, sym, ◌∙◌, ap, arith, Some, None}
use Rattle.std.specs.Prelude.{Option, not, filter, slice_get, if◌then◌else◌, ◌&&◌, ◌||◌, IfSome}
use Rattle.std.specs.List.{AllByRecursion, list_any}
use Rattle.std.proofs.lemmas.Bool.{false≢true, eq-eqb}
use Rattle.dd_lists.specs.Lists.{is_in, list_at}
use Rattle.dd_record.specs.declared.row.ARow.{ARow}
use Rattle.dd_record.specs.declared.row.BRow.{BRow}
use Rattle.dd_record.specs.Table.{is_slot, is_link}
use Rattle.dd_record.specs.Replay.{a_moved, b_moved, cut_block, is_free_cut, link_to, unlinked_from}
use Rattle.dd_meta.specs.Entries.{with_dirty, dirty_by}
use Rattle.dd_meta.specs.Matching.{IsBelow}
use Rattle.dd_meta.proofs.Numbers.{filter_all}
use Rattle.dd_model.specs.Listing.{dirtied, is_owed, refers}
use Rattle.dd_model.proofs.Kept.{all_take, all_filter, all_of}
use Rattle.dd_model.proofs.DirtyLinks.{none_any, cut_apart}
use Rattle.dd_model.proofs.Answering.{not_true, and_true, or_none}

turned : {X : Type 0} (b : Bool) (x y : X) → cond b x y ≡ cond (not b) y x
turned true x y = refl
turned false x y = refl

-- an address with a row that is dirty where it becomes so or was so
pub dirty_after : (row : ARow) (dirty was : Bool) (xs : List ℕ) → row.dirty ≡ (dirty || was) → is_in row.address xs ≡ was → dirty_by row xs ≡ dirtied row.address dirty xs
dirty_after row dirty was xs e is = ap (λ b. if b then with_dirty row.address xs else filter (λ other. not (row.address == other)) xs) e ∙ by_case dirty was is
  where
    by_case : (d w : Bool) → is_in row.address xs ≡ w → (if d || w then with_dirty row.address xs else filter (λ other. not (row.address == other)) xs) ≡ dirtied row.address d xs
    by_case true w h = turned (is_in row.address xs) xs (xs ++ row.address ∷ [])
    by_case false true h = ap (λ b. cond b xs (xs ++ row.address ∷ [])) h
    by_case false false h = filter_all (λ other. row.address == other) xs h

-- what a touch links to
pub links : (o : Option BRow) → is_link (link_to o) ≡ true
links None = refl
links (Some row) = refl

pub links_below : (slots : ℕ) (o : Option BRow) → IfSome o (λ row. row.slot < slots) → IsBelow slots (link_to o)
links_below slots None h = tt
links_below slots (Some row) h = h

-- no links are taken where no block falls off
pub none_unlinked : (rows : List ARow) → rows ≡ map (unlinked_from None) rows
none_unlinked [] = refl
none_unlinked (row ∷ rows) = ap (λ (rs : List ARow). row ∷ rs) (none_unlinked rows)

-- only clean addresses are linked to a block that falls off
module _ (acap bcap : ℕ) (room : 1 ≤ bcap) (address : ℕ) (dirty : Bool) (a : List ARow) (b : List BRow) where
  clean_by : (block : BRow) (cut : Option BRow) → IfSome cut (λ c. (block.slot == c.slot) ≡ false) → is_free_cut address a cut ≡ true
      → IfSome cut (λ c. AllByRecursion (λ row. is_slot c.slot row.link ≡ true → row.dirty ≡ false) (take acap (a_moved (record { address = address; block = Some block; dirty = dirty }) a)))
  clean_by block None apart free = tt
  clean_by block (Some cut) apart free =
      let Clean : ARow → Type 0 = λ row. is_slot cut.slot row.link ≡ true → row.dirty ≡ false in
      all_take Clean acap (a_moved (record { address = address; block = Some block; dirty = dirty }) a) (
        λ is. absurd (false≢true (sym apart ∙ is)),
        all_filter Clean (λ row. not (row.address == address)) a
            (all_of (λ (row : ARow). (is_slot cut.slot row.link && row.dirty && not (row.address == address)) ≡ false) (λ row. not (row.address == address) ≡ true → Clean row) a
            (λ row h other is. clean_row (is_slot cut.slot row.link) row.dirty (not (row.address == address)) h other is)
            (none_any (λ row. is_slot cut.slot row.link && row.dirty && not (row.address == address)) a (not_true (list_any (λ row. is_slot cut.slot row.link && row.dirty && not (row.address == address)) a) free))),
      )
    where
      clean_row : (s d t : Bool) → (s && d && t) ≡ false → t ≡ true → s ≡ true → d ≡ false
      clean_row true d true h is there = and_true d h
      clean_row false d t h is there = absurd (false≢true there)
      clean_row true d false h is there = absurd (false≢true is)

  pub clean_cut : (block : Option BRow) → is_free_cut address a (cut_block bcap block b) ≡ true
      → IfSome (cut_block bcap block b) (λ c. AllByRecursion (λ row. is_slot c.slot row.link ≡ true → row.dirty ≡ false) (take acap (a_moved (record { address = address; block = block; dirty = dirty }) a)))
  clean_cut None free = tt
  clean_cut (Some block) free = clean_by block (slice_get (b_moved block b) bcap) (cut_apart block b bcap room) free

-- no list behind the last
pub no_list : (lists : List (List ℕ)) (i : ℕ) → length lists ≤ i → list_at i lists ≡ []
no_list [] i h = refl
no_list (xs ∷ lists) zero h = absurd (omega (arith, h))
no_list (xs ∷ lists) (suc i) h = no_list lists i (omega (arith, h))

-- no row refers to a slot where none is owed to it
pub none_refers : (slot skip : ℕ) (rows : List ARow) → ((n : ℕ) → list_any (λ row. is_owed slot row && n == row.address) rows ≡ false) → list_any (λ row. refers slot skip row) rows ≡ false
none_refers slot skip [] h = refl
none_refers slot skip (row ∷ rows) h =
    let first = (or_none (is_owed slot row && row.address == row.address) (list_any (λ r. is_owed slot r && row.address == r.address) rows) (h row.address)).0 in
    let owed : is_owed slot row ≡ false = and_true (is_owed slot row) (ap (λ b. is_owed slot row && b) (sym (eq-eqb row.address row.address refl)) ∙ first) in
    ap (λ b. (b && not (row.address == skip)) || list_any (λ r. refers slot skip r) rows) owed
    ∙ none_refers slot skip rows (λ n. (or_none (is_owed slot row && n == row.address) (list_any (λ r. is_owed slot r && n == r.address) rows) (h n)).1)
