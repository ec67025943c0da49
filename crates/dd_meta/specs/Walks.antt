-- Walks along addresses, those that go on from one, and the dirty ones of rows.
use Rattle.std.specs.Prelude.{ℕ, IsTrue, ◌==◌, not, List, filter, map, reverse, Option, Some, None, slice_get, ⊤}
use Rattle.dd_record.specs.declared.row.ARow.{ARow}
use Rattle.dd_record.specs.Listed.{row_behind}
use Rattle.dd_lists.specs.Lists.{is_in}

-- the addresses but that one
abbrev pub but : ℕ → List ℕ → List ℕ
but address addresses = filter (λ other. not (other == address)) addresses

-- the first of some addresses, or the one behind an address
abbrev pub next_of : Option ℕ → List ℕ → Option ℕ
next_of None addresses = slice_get addresses 0
next_of (Some address) addresses = row_behind (λ other. other == address) addresses

-- what a walk goes on from is among the addresses
abbrev pub IsWalked : Option ℕ → List ℕ → Type 0
IsWalked None addresses = ⊤
IsWalked (Some address) addresses = IsTrue (is_in address addresses)

-- the dirty addresses of rows, from the last one on
abbrev pub dirty_of_rows : List ARow → List ℕ
dirty_of_rows rows = map (λ row. row.address) (filter (λ row. row.dirty) (reverse rows))
