-- An address made clean, said of rows and of addresses.
use Rattle.std.proofs.Common.{◌≡◌, ℕ, ◌==◌, not, Bool, true, false, List, [], ◌∷◌, map, refl, sym, ◌∙◌, ap, subst, Some, cond, is_some}
use Rattle.std.specs.List.{AllByRecursion, IsDistinct}
use Rattle.std.proofs.lemmas.Bool.{eqb-true}
use Rattle.dd_record.specs.declared.row.ARow.{ARow}
use Rattle.dd_record.specs.Table.{a_row}
use Rattle.dd_record.specs.Replay.{cleaned}
use Rattle.dd_lists.specs.Lists.{without}
use Rattle.dd_meta.specs.Entries.{Meta, Writes, rows_of, row_of, row_named, owed_to}
use Rattle.dd_meta.specs.Keeping.{IsMeta}
use Rattle.dd_meta.specs.Walks.{but}
use Rattle.dd_meta.proofs.Marking.{marked}
use Rattle.dd_meta.proofs.Placed.{some_is}
use Rattle.dd_meta.proofs.Referring.{found_address}
use Rattle.dd_meta.proofs.Stepping.{turn}

pub without_but : (a : ℕ) (xs : List ℕ) → without a xs ≡ but a xs
without_but a [] = refl
without_but a (x ∷ xs) = ap (λ t. cond (not t) (x ∷ without a xs) (without a xs)) (turn a x) ∙ ap (λ (l : List ℕ). cond (not (x == a)) (x ∷ l) l) (without_but a xs)

-- a row in the place of that of an address
abbrev placed : ℕ → ARow → ARow → ARow
placed a row other = cond (other.address == a) row other

placed_none : (a : ℕ) (row : ARow) (rows : List ARow) → AllByRecursion (λ (r : ARow). (a == r.address) ≡ false) rows → map (placed a row) rows ≡ cleaned a rows
placed_none a row [] all = refl
placed_none a row (r ∷ rows) all =
    let out : (r.address == a) ≡ false = turn r.address a ∙ all.0 in
    ap (λ t. cond t row r ∷ map (placed a row) rows) out ∙ ap (λ (l : List ARow). r ∷ l) (placed_none a row rows all.1)
    ∙ sym (ap (λ t. cond t (record { address = r.address; link = r.link; dirty = false; fp = r.fp }) r ∷ cleaned a rows) out)

placed_clean : (a : ℕ) (row : ARow) (rows : List ARow) → IsDistinct (λ (x y : ARow). x.address == y.address) rows → a_row a rows ≡ Some row → map (placed a (marked false row)) rows ≡ cleaned a rows
unfolding IsDistinct
placed_clean a row [] d h = refl
placed_clean a row (r ∷ rows) d h = step (r.address == a) refl h (placed_clean a row rows d.1)
  where
    step : (b : Bool) → (r.address == a) ≡ b → cond b (Some r) (a_row a rows) ≡ Some row → (a_row a rows ≡ Some row → map (placed a (marked false row)) rows ≡ cleaned a rows)
        → cond b (marked false row) r ∷ map (placed a (marked false row)) rows ≡ cond b (record { address = r.address; link = r.link; dirty = false; fp = r.fp }) r ∷ cleaned a rows
    step false e found later = ap (λ (l : List ARow). r ∷ l) (later found)
    step true e found later =
        let same : r ≡ row = cc in
        ap (λ (x : ARow). marked false x ∷ map (placed a (marked false row)) rows) (sym same)
        ∙ ap (λ (l : List ARow). marked false r ∷ l) (placed_none a (marked false row) rows (subst (λ (n : ℕ). AllByRecursion (λ (x : ARow). (n == x.address) ≡ false) rows) (eqb-true _ _ e) d.0))

module _ (old new : Meta) (k : IsMeta old) (address node : ℕ) (has : is_some (row_of node old) ≡ true) (found : row_of node old ≡ a_row address (rows_of old)) (w : Writes old new node (marked false (row_named node old))) where
  named : a_row address (rows_of old) ≡ Some (row_named node old)
  named = sym found ∙ some_is (row_of node old) has

  own : (row_named node old).address ≡ address
  own = found_address address (rows_of old) (row_named node old) named

  pub clean_rows : rows_of new ≡ cleaned address (rows_of old)
  clean_rows = w.rows ∙ ap (λ a. map (placed a (marked false (row_named node old))) (rows_of old)) own ∙ placed_clean address (row_named node old) (rows_of old) k.addresses named

  pub clean_dirty : new.dirty ≡ but address old.dirty
  clean_dirty = w.dirty ∙ ap (λ a. without a old.dirty) own ∙ without_but address old.dirty

  pub clean_owed : (slot : ℕ) → owed_to slot new ≡ but address (owed_to slot old)
  clean_owed slot = w.owed slot ∙ ap (λ a. without a (owed_to slot old)) own ∙ without_but address (owed_to slot old)
