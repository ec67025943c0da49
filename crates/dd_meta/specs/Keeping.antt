-- What holds of every metadata cache, said of what it shows.
use Rattle.std.specs.Prelude.{◌≡◌, ℕ, ◌≤◌, ◌==◌, ◌&&◌, not, Bool, true, false, List, length, Option, Some, None, option_map}
use Rattle.std.specs.List.{AllByRecursion, IsDistinct, list_any}
use Rattle.dd_record.specs.declared.row.ARow.{ARow}
use Rattle.dd_record.specs.Table.{is_slot, a_row, is_dirty_at, IsDirtyLinked}
use Rattle.dd_lists.specs.Lists.{is_in}
use Rattle.dd_meta.specs.Entries.{Meta, rows_of, owed_to}
use Rattle.dd_meta.specs.Matching.{IsBelow}

-- whether a row is dirty and linked to a slot, and whether it is so and isn't of that address
abbrev pub is_owed : ℕ → ARow → Bool
is_owed slot row = is_slot slot row.link && row.dirty

abbrev pub refers : ℕ → ℕ → ARow → Bool
refers slot skip row = is_slot slot row.link && row.dirty && not (row.address == skip)

-- some dirty address but that one is linked to the slot; or there is none
abbrev pub IsReferrer : ℕ → ℕ → List ARow → Option ℕ → Type 0
IsReferrer slot skip rows None = list_any (λ row. refers slot skip row) rows ≡ false
IsReferrer slot skip rows (Some address) = option_map (λ row. refers slot skip row) (a_row address rows) ≡ Some true

-- no address is listed twice, nor two under one node, and no more than there is room for; a dirty one is linked, and stands once among
-- the dirty ones and, where it has a slot, among those of the slot
pub record IsMeta (meta : Meta) : Type 0 where
  pub some : 1 ≤ meta.acap
  pub few : length meta.entries ≤ meta.acap
  pub nodes : IsDistinct (λ x y. x.node == y.node) meta.entries
  pub sized : length meta.owed ≡ meta.slots
  pub addresses : IsDistinct (λ x y. x.address == y.address) (rows_of meta)
  pub linked : AllByRecursion IsDirtyLinked (rows_of meta)
  pub below : AllByRecursion (λ row. IsBelow meta.slots row.link) (rows_of meta)
  pub dirty : (address : ℕ) → is_in address meta.dirty ≡ is_dirty_at address (rows_of meta)
  pub dirty_once : IsDistinct (λ x y. x == y) meta.dirty
  pub owed : (slot address : ℕ) → is_in address (owed_to slot meta) ≡ list_any (λ row. is_owed slot row && address == row.address) (rows_of meta)
  pub owed_once : (slot : ℕ) → IsDistinct (λ x y. x == y) (owed_to slot meta)
