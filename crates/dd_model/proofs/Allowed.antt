-- When a touch may be done: the victims aren't dirty, and no dirty address is linked to the block that falls off.
use Rattle.std.proofs.Common.{◌≡◌, ℕ, zero, suc, ◌≤◌, ◌==◌, true, false, cond, List, [], ◌∷◌, refl, sym, ◌∙◌, ap, arith, Some, None}
use Rattle.std.specs.Prelude.{Option, filter, not, slice_get, option_map, IfSome}
use Rattle.std.specs.List.{AllByRecursion, IsDistinct, list_any}
use Rattle.std.proofs.lemmas.Bool.{and_from, eq-eqb, not-true}
use Rattle.std.proofs.lemmas.Cmp.{nat_eq_equiv}
use Rattle.dd_record.specs.declared.row.ARow.{ARow}
use Rattle.dd_record.specs.declared.row.BRow.{BRow}
use Rattle.dd_record.specs.Table.{a_row, is_dirty, is_dirty_at}
use Rattle.dd_record.specs.Replay.{Touch, cut_address, cut_block, linked_row, is_clean_cut, is_free_cut}
use Rattle.dd_model.specs.Listing.{Listing, IsListing, refers, may_refer, cut_of}
use Rattle.dd_model.proofs.Kept.{got, all_filter, all_any, apart_filter}
use Rattle.dd_model.proofs.Dirty.{dirty_filter}

-- where the addresses are apart each row is that of its address
row_of_place : (rows : List ARow) (i : ℕ) (row : ARow) → IsDistinct (λ x y. x.address == y.address) rows → slice_get rows i ≡ Some row → is_dirty_at row.address rows ≡ row.dirty
unfolding IsDistinct
row_of_place [] i row apart is = absurd (cc is)
row_of_place (r ∷ rows) zero row apart is =
    let same : r ≡ row = cc is in
    ap (λ (x : ARow). is_dirty (cond (r.address == x.address) (Some r) (a_row x.address rows))) (sym same)
    ∙ ap (λ b. is_dirty (cond b (Some r) (a_row r.address rows))) (eq-eqb r.address r.address refl)
    ∙ ap (λ (x : ARow). x.dirty) same
row_of_place (r ∷ rows) (suc i) row apart is =
    ap (λ b. is_dirty (cond b (Some r) (a_row row.address rows))) (got (λ (x : ARow). (r.address == x.address) ≡ false) rows i row is apart.0)
    ∙ row_of_place rows i row apart.1 is

others : (address : ℕ) (rows : List ARow) → AllByRecursion (λ row. (address == row.address) ≡ false) (filter (λ row. not (row.address == address)) rows)
others address rows = all_filter (λ row. (address == row.address) ≡ false) (λ row. not (row.address == address)) rows
    (all_any (λ row. not (row.address == address) ≡ true → (address == row.address) ≡ false) rows (λ row h. nat_eq_equiv.symm address row.address ∙ not-true (row.address == address) h))

-- the row that falls off is dirty where its address is
pub cut_dirty : (lists : Listing) (touch : Touch) (row : ARow) → IsListing lists → cut_address lists.acap touch lists.table.a ≡ Some row → is_dirty_at row.address lists.table.a ≡ row.dirty
cut_dirty lists touch row kept is = by_cap lists.acap kept.acap_least is
  where
    stay : List ARow
    stay = filter (λ r. not (r.address == touch.address)) lists.table.a

    by_cap : (cap : ℕ) → 1 ≤ cap → slice_get (linked_row touch lists.table.a ∷ stay) cap ≡ Some row → is_dirty_at row.address lists.table.a ≡ row.dirty
    by_cap zero some e = absurd (omega arith)
    by_cap (suc n) some e =
        sym (dirty_filter row.address touch.address lists.table.a (got (λ (r : ARow). (touch.address == r.address) ≡ false) stay n row e (others touch.address lists.table.a)))
        ∙ row_of_place stay n row (apart_filter (λ (r : ARow). r.address) (λ r. not (r.address == touch.address)) lists.table.a kept.fit.addresses) e

clean_cut : (lists : Listing) (touch : Touch) (o : Option ARow) → IsListing lists → cut_address lists.acap touch lists.table.a ≡ o
    → IfSome (option_map (λ (row : ARow). row.address) o) (λ out. is_dirty_at out lists.table.a ≡ false) → is_clean_cut o ≡ true
clean_cut lists touch None kept is h = refl
clean_cut lists touch (Some row) kept is h = ap not (sym (cut_dirty lists touch row kept is) ∙ h)

free_cut : (address : ℕ) (rows : List ARow) (o : Option BRow) → IfSome o (λ drop. list_any (λ row. refers drop.slot address row) rows ≡ false) → is_free_cut address rows o ≡ true
free_cut address rows None h = refl
free_cut address rows (Some drop) h = ap not h

pub may_touch_now : (lists : Listing) (touch : Touch) → IsListing lists → IfSome (cut_of touch lists).out (λ out. is_dirty_at out lists.table.a ≡ false)
    → IfSome (cut_of touch lists).drop (λ drop. list_any (λ row. refers drop.slot touch.address row) lists.table.a ≡ false) → may_refer touch lists ≡ true
may_touch_now lists touch kept out drop = and_from (is_clean_cut (cut_address lists.acap touch lists.table.a)) (is_free_cut touch.address lists.table.a (cut_block lists.bcap touch.block lists.table.b))
    (clean_cut lists touch (cut_address lists.acap touch lists.table.a) kept refl out)
    (free_cut touch.address lists.table.a (cut_block lists.bcap touch.block lists.table.b) drop)
