-- Rows of which none is dirty.
use Rattle.std.proofs.Common.{◌≡◌, ℕ, ◌==◌, Bool, true, false, cond, List, [], ◌∷◌, take, refl, ap, ◌∙◌, Some, None}
use Rattle.std.specs.Prelude.{Option, filter, not, ◌&&◌, ◌||◌, IfSome}
use Rattle.std.specs.List.{AllByRecursion, list_any}
use Rattle.dd_record.specs.declared.row.ARow.{ARow}
use Rattle.dd_record.specs.declared.row.BRow.{BRow}
use Rattle.dd_record.specs.declared.row.Link.TheVariants.{Lost}
use Rattle.dd_record.specs.Table.{a_row, is_dirty, is_dirty_at, is_slot}
use Rattle.dd_record.specs.Replay.{Touch, linked_row, unlinked_from}
use Rattle.dd_model.specs.declared.given.Block.{Block}
use Rattle.dd_model.specs.Listing.{Listing, IsListing, refers, may_refer, cut_of, referred}
use Rattle.dd_model.proofs.Allowed.{may_touch_now}
use Rattle.dd_model.proofs.Kept.{all_take, all_filter, all_map, all_of}
use Rattle.dd_serve.specs.Scratch.{read_of}

abbrev pub AreClean : List ARow → Type 0
AreClean rows = AllByRecursion (λ row. row.dirty ≡ false) rows

clean_at : (address : ℕ) (rows : List ARow) → AreClean rows → is_dirty_at address rows ≡ false
clean_at address [] clean = refl
clean_at address (row ∷ rows) clean = by_test (row.address == address) (clean_at address rows clean.1)
  where
    by_test : (t : Bool) → is_dirty_at address rows ≡ false → is_dirty (cond t (Some row) (a_row address rows)) ≡ false
    by_test true rest = clean.0
    by_test false rest = rest

and_false : (s t : Bool) → (s && false && t) ≡ false
and_false true t = refl
and_false false t = refl

none_refers : (slot skip : ℕ) (rows : List ARow) → AreClean rows → list_any (λ row. refers slot skip row) rows ≡ false
none_refers slot skip [] clean = refl
none_refers slot skip (row ∷ rows) clean =
    ap (λ d. is_slot slot row.link && d && not (row.address == skip) || list_any (λ r. refers slot skip r) rows) clean.0
    ∙ ap (λ t. t || list_any (λ r. refers slot skip r) rows) (and_false (is_slot slot row.link) (not (row.address == skip)))
    ∙ none_refers slot skip rows clean.1

if_any : {X : Type 0} (P : X → Type 0) (o : Option X) → ((x : X) → P x) → IfSome o P
if_any P None h = tt
if_any P (Some x) h = h x

-- so any of them may fall off
pub clean_may : (address : ℕ) (given : Block) (lists : Listing) → IsListing lists → AreClean lists.table.a → may_refer (read_of address given lists) lists ≡ true
clean_may address given lists kept clean = may_touch_now lists (read_of address given lists) kept
    (if_any (λ out. is_dirty_at out lists.table.a ≡ false) (cut_of (read_of address given lists) lists).out (λ out. clean_at out lists.table.a clean))
    (if_any (λ (drop : BRow). list_any (λ row. refers drop.slot address row) lists.table.a ≡ false) (cut_of (read_of address given lists) lists).drop (λ drop. none_refers drop.slot address lists.table.a clean))

unlinked_clean : (cut : Option BRow) (row : ARow) → row.dirty ≡ false → (unlinked_from cut row).dirty ≡ false
unlinked_clean None row clean = clean
unlinked_clean (Some drop) row clean = by_test (is_slot drop.slot row.link)
  where
    by_test : (t : Bool) → (cond t (record row { link = Lost }) row).dirty ≡ false
    by_test true = clean
    by_test false = clean

-- behind a read none is dirty either
pub clean_after : (address : ℕ) (given : Block) (lists : Listing) → AreClean lists.table.a → AreClean (referred (read_of address given lists) lists).table.a
clean_after address given lists clean =
    let touch : Touch = read_of address given lists in
    all_map (λ row. row.dirty ≡ false) (λ row. row.dirty ≡ false) (unlinked_from (cut_of touch lists).drop) (take lists.acap (linked_row touch lists.table.a ∷ filter (λ row. not (row.address == address)) lists.table.a))
    (unlinked_clean (cut_of touch lists).drop)
    (all_take (λ row. row.dirty ≡ false) lists.acap (linked_row touch lists.table.a ∷ filter (λ row. not (row.address == address)) lists.table.a) (
      clean_at address lists.table.a clean,
      all_filter (λ row. row.dirty ≡ false) (λ row. not (row.address == address)) lists.table.a (all_of (λ row. row.dirty ≡ false) (λ row. not (row.address == address) ≡ true → row.dirty ≡ false) lists.table.a (λ row is passes. is) clean),
    ))
