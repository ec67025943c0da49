-- What the lists answer, on the state that their rows show: whether a block is listed, and what falls off.
use Rattle.std.proofs.Common.{◌≡◌, ◌≢◌, ⊎_elim, ℕ, zero, suc, ◌<◌, ◌≤◌, ◌==◌, Bool, true, false, cond, not, List, [], ◌∷◌, map, length, refl, ap, sym, ◌∙◌, Option, Some, None}
use Rattle.std.specs.Prelude.{is_some, option_map, slice_get, ◌||◌}
use Rattle.std.specs.List.{AllByRecursion}
use Rattle.std.specs.Str.{bytes_eq}
use Rattle.std.proofs.lemmas.Bool.{eqb-true}
use Rattle.std.proofs.lemmas.Slice.Eq.{bytes_eq-Decides}
use Rattle.dd_block.specs.declared.print.Fp.{Fp}
use Rattle.dd_slots.specs.Slots.{SlotsView, block_in}
use Rattle.dd_record.specs.declared.row.ARow.{ARow}
use Rattle.dd_record.specs.declared.row.BRow.{BRow}
use Rattle.dd_record.specs.Table.{Table, has_slot, b_row}
use Rattle.dd_record.specs.Replay.{b_moved, cut_block}
use Rattle.dd_model.specs.declared.done.Done.{Done}
use Rattle.dd_model.specs.State.{Sizes, State, is_zero_block, is_known}
use Rattle.dd_model.specs.Reference.{Answer, Tells, dropped, fallen}
use Rattle.dd_model.specs.Rows.{held_block, Shows}
use Rattle.dd_model.specs.Confirming.{Confirms}
use Rattle.dd_model.specs.Listing.{cut_by}
use Rattle.dd_model.proofs.Filters.{all_filter}
use Rattle.dd_model.proofs.Slots.{slot_cases}
use Rattle.dd_model.proofs.CutLinks.{IsListedLink}
use Rattle.dd_model.proofs.RecordLaws.{HasBlock, MayMove}
use Rattle.dd_model.proofs.ShownLaws.{fallen-shown, dropped-zeros, dropped-block}

module _ (held : ℕ → List ℕ) where
  -- a block that lies in a listed slot is listed
  known_in : (slot : ℕ) (row : BRow) (b : List BRow) → b_row slot b ≡ Some row → is_known (held slot) (map (held_block held) b) ≡ true
  known_in slot row [] is = absurd (cc is)
  known_in slot row (other ∷ b) is = by_test (other.slot == slot) refl is (λ e. known_in slot row b e)
    where
      or_true : (t : Bool) → (t || true) ≡ true
      or_true true = refl
      or_true false = refl

      by_test : (t : Bool) → (other.slot == slot) ≡ t → cond t (Some other) (b_row slot b) ≡ Some row → (b_row slot b ≡ Some row → is_known (held slot) (map (held_block held) b) ≡ true)
          → (bytes_eq (held other.slot) (held slot) || is_known (held slot) (map (held_block held) b)) ≡ true
      by_test true same e later = ap (λ t. t || is_known (held slot) (map (held_block held) b)) ((bytes_eq-Decides (held other.slot) (held slot)).1 (ap held (eqb-true other.slot slot same)))
      by_test false differ e later = ap (λ t. bytes_eq (held other.slot) (held slot) || t) (later e) ∙ or_true (bytes_eq (held other.slot) (held slot))

  -- a block that lies in no listed slot with its fingerprint is not listed
  known_none : (print : List ℕ → Fp) (block : List ℕ) (b : List BRow) → AllByRecursion (λ row. row.fp ≡ print (held row.slot)) b → AllByRecursion (λ row. row.fp ≡ print block → held row.slot ≢ block) b
      → is_known block (map (held_block held) b) ≡ false
  known_none print block [] prints none = refl
  known_none print block (row ∷ b) prints none = ap (λ t. t || is_known block (map (held_block held) b)) (by_test (bytes_eq (held row.slot) block) refl) ∙ known_none print block b prints.1 none.1
    where
      by_test : (t : Bool) → bytes_eq (held row.slot) block ≡ t → t ≡ false
      by_test true same = let is : held row.slot ≡ block = (bytes_eq-Decides (held row.slot) block).0 same in absurd (none.0 (prints.0 ∙ ap print is) is)
      by_test false differ = refl

  -- nor does any listed slot hold it
  none_holds : (print : List ℕ → Fp) (block : List ℕ) (i : ℕ) (b : List BRow) → AllByRecursion (λ row. row.fp ≡ print (held row.slot)) b → AllByRecursion (λ row. row.fp ≡ print block → held row.slot ≢ block) b
      → has_slot i b ≡ true → held i ≢ block
  none_holds print block i [] prints none listed = absurd (cc listed)
  none_holds print block i (row ∷ b) prints none listed = λ is. ⊎_elim
      (λ same. let here : held row.slot ≡ block = ap held same ∙ is in none.0 (prints.0 ∙ ap print here) here)
      (λ there. none_holds print block i b prints.1 none.1 there is)
      (slot_cases row i b listed)

-- where the rows show a state, a search tells whether the block is one of its listed blocks
pub known_found : (print : List ℕ → Fp) (block : List ℕ) (slots : SlotsView) (flash : List ℕ) (table : Table) (count : ℕ) (s : State) (found : Option ℕ)
    → Shows print (block_in slots flash) table count s → Confirms (print block) block slots flash table.b found → is_known block s.blocks ≡ is_some found
known_found print block slots flash table count s None shows none = ap (is_known block) shows.blocks ∙ known_none (block_in slots flash) print block table.b shows.b_prints none
known_found print block slots flash table count s (Some slot) shows some =
    ap (is_known block) shows.blocks
    ∙ ap (λ (x : List ℕ). is_known x (map (held_block (block_in slots flash)) table.b)) (sym some.1)
    ∙ known_in (block_in slots flash) slot (record { slot = slot; fp = print block }) table.b some.0

-- a block that was not found, and then was put into a slot that isn't listed, may move to the front
pub may_move-fresh : (print : List ℕ → Fp) (block : List ℕ) (slots : SlotsView) (flash : List ℕ) (held : ℕ → List ℕ) (table : Table) (count : ℕ) (s : State) (slot : ℕ)
    → Shows print (block_in slots flash) table count s → Confirms (print block) block slots flash table.b None → is_zero_block block ≡ false
    → held slot ≡ block → ((i : ℕ) → has_slot i table.b ≡ true → held i ≡ block_in slots flash i)
    → MayMove print held table.b (Some (record { slot = slot; fp = print block }))
may_move-fresh print block slots flash held table count s slot shows none isnt saved same = (
  ap is_zero_block saved ∙ isnt,
  ap print (sym saved),
  λ i listed is. absurd (none_holds (block_in slots flash) print block i table.b shows.b_prints none listed (sym (same i listed) ∙ is ∙ saved)),
)

cut_printed : (print : List ℕ → Fp) (held : ℕ → List ℕ) (n : ℕ) (b : List BRow) → AllByRecursion (λ row. row.fp ≡ print (held row.slot)) b
    → option_map (λ (row : BRow). row.fp) (slice_get b n) ≡ option_map print (option_map (held_block held) (slice_get b n))
cut_printed print held n [] prints = refl
cut_printed print held zero (row ∷ b) prints = ap Some prints.0
cut_printed print held (suc n) (row ∷ b) prints = cut_printed print held n b prints.1

module _ (print : List ℕ → Fp) (held : ℕ → List ℕ) (sizes : Sizes) (s : State) (table : Table) (count address : ℕ) (dirty : Bool) (shows : Shows print held table count s)
    (inside : address < length s.array) (links : AllByRecursion (λ (row : ARow). IsListedLink table.b row.link) table.a) (short : length table.b ≤ sizes.bcap) where
  -- the fingerprint of the block that falls off
  pub dropped_print : (block : Option BRow) (x : List ℕ) → HasBlock held block x → MayMove print held table.b block
      → option_map (λ (row : BRow). row.fp) (cut_block sizes.bcap block table.b) ≡ option_map print (dropped sizes s x)
  dropped_print None x has may = ap (option_map print) (sym (dropped-zeros print held sizes s table count address dirty shows inside links x has))
  dropped_print (Some row) x has may =
      cut_printed print held sizes.bcap (b_moved row table.b) (may.1, all_filter (λ (r : BRow). r.fp ≡ print (held r.slot)) (λ other. not (other.slot == row.slot)) table.b shows.b_prints)
      ∙ ap (option_map print) (sym (dropped-block print held sizes s table count address dirty shows inside links row may.0 may.1 may.2 short)
      ∙ ap (dropped sizes s) has)

  -- what a touch lets fall off is what the reference answers
  pub cut_tells : (block : Option BRow) (x : List ℕ) (done : Done) (answer : Answer) → HasBlock held block x → MayMove print held table.b block
      → done.cut ≡ cut_by sizes.acap sizes.bcap (record { address = address; block = block; dirty = dirty }) table → done.kind ≡ answer.kind
      → answer.out ≡ fallen sizes s address → answer.drop ≡ dropped sizes s x → Tells print done answer
  cut_tells block x done answer has may cut kind out drop = record {
    kind = kind;
    out = ap (λ c. c.out) cut ∙ sym (fallen-shown print held sizes s table count address dirty shows inside links block) ∙ sym out;
    drop = ap (λ c. option_map (λ (row : BRow). row.fp) c.drop) cut ∙ dropped_print block x has may ∙ ap (option_map print) (sym drop);
  }
