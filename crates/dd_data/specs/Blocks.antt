-- The listed blocks as rows, and what the calls make of them.
use Rattle.std.specs.Prelude.{ℕ, ◌-◌, ◌<◌, ◌≤◌, ◌==◌, List, filter, length, Option, Some, None, slice_get}
use Rattle.std.specs.Str.{bytes_eq}
use Rattle.std.specs.List.{AllByRecursion, IsDistinct}
use Rattle.dd_block.specs.declared.print.Fp.{Fp}
use Rattle.dd_record.specs.declared.row.BRow.{BRow}
use Rattle.dd_record.specs.Table.{b_row}
use Rattle.dd_record.specs.Replay.{b_moved}

-- the rows of the listed blocks, the most recently referenced first; how many there may be, and how many slots there are
pub record Data : Type 0 where
  pub bcap : ℕ
  pub slots : ℕ
  pub rows : List BRow

-- the rows with a fingerprint
abbrev pub alike : Fp → List BRow → List BRow
alike fp rows = filter (λ row. bytes_eq row.fp.0 fp.0) rows

-- the rows after one of them, where there is one, was moved to the front
abbrev pub in_front : Option BRow → List BRow → List BRow
in_front None rows = rows
in_front (Some row) rows = b_moved row rows

-- the rows after the row of a slot was moved to the front
abbrev pub fronted_row : ℕ → List BRow → List BRow
fronted_row slot rows = in_front (b_row slot rows) rows

-- the last row
abbrev pub last_row : List BRow → Option BRow
last_row rows = slice_get rows (length rows - 1)

-- what holds of all rows that are listed
pub record IsData (blocks : Data) : Type 0 where
  pub some : 1 ≤ blocks.bcap
  pub few : length blocks.rows ≤ blocks.bcap
  pub below : AllByRecursion (λ row. row.slot < blocks.slots) blocks.rows
  pub apart : IsDistinct (λ x y. x.slot == y.slot) blocks.rows
