-- Walks along a list of rows.
use Rattle.std.specs.Prelude.{ℕ, ◌==◌, Bool, List, [], ◌∷◌, Option, Some, None, if◌then◌else◌, slice_get}
use Rattle.dd_record.specs.declared.row.BRow.{BRow}
use Rattle.dd_record.specs.declared.row.ARow.{ARow}

-- the row behind the first one that passes
abbrev pub row_behind : {Row : Type 0} → (Row → Bool) → List Row → Option Row
row_behind passes [] = None
row_behind passes (row ∷ rows) = if passes row then slice_get rows 0 else row_behind passes rows

-- the first row, or the row behind that of an address
abbrev pub a_walk : Option ℕ → List ARow → Option ARow
a_walk None rows = slice_get rows 0
a_walk (Some address) rows = row_behind (λ row. row.address == address) rows

-- the first row, or the row behind that of a slot
abbrev pub b_walk : Option ℕ → List BRow → Option BRow
b_walk None rows = slice_get rows 0
b_walk (Some slot) rows = row_behind (λ row. row.slot == slot) rows
