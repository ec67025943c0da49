-- The rows of both lists, front first, and which of them fit each other.
use Rattle.std.specs.Prelude.{ℕ, suc, IsTrue, ◌==◌, ◌&&◌, Bool, true, false, List, [], ◌∷◌, Option, Some, None, if◌then◌else◌, find, is_none}
use Rattle.std.specs.Str.{bytes_eq}
use Rattle.std.specs.List.{AllByRecursion, IsDistinct, list_any}
use Rattle.dd_record.specs.declared.row.BRow.{BRow}
use Rattle.dd_record.specs.declared.row.ARow.{ARow}
use Rattle.dd_record.specs.declared.row.Link.{Link}
use Rattle.dd_record.specs.declared.row.Link.TheVariants.{Lost, Slot, Zero}

-- both lists of rows
pub record Table : Type 0 where
  pub b : List BRow
  pub a : List ARow

-- no rows
abbrev pub empty_table : Table
empty_table = record { b = []; a = [] }

-- whether a link is to this slot
abbrev pub is_slot : ℕ → Link → Bool
is_slot slot Lost = false
is_slot slot (Slot other) = other == slot
is_slot slot Zero = false

-- whether a row with this link is linked: to a slot, or to zeros
abbrev pub is_link : Link → Bool
is_link Lost = false
is_link (Slot slot) = true
is_link Zero = true

-- a row that is dirty is linked
abbrev pub IsDirtyLinked : ARow → Type 0
IsDirtyLinked row = IsTrue row.dirty → IsTrue (is_link row.link)

-- whether a slot is listed
abbrev pub has_slot : ℕ → List BRow → Bool
has_slot slot rows = list_any (λ row. row.slot == slot) rows

-- the row of a slot
abbrev pub b_row : ℕ → List BRow → Option BRow
b_row slot rows = find (λ row. row.slot == slot) rows

-- the row of an address
abbrev pub a_row : ℕ → List ARow → Option ARow
a_row address rows = find (λ row. row.address == address) rows

-- the link of a row, if there is one
abbrev pub link_of : Option ARow → Link
link_of None = Lost
link_of (Some row) = row.link

-- the link of an address
abbrev pub link_at : ℕ → List ARow → Link
link_at address rows = link_of (a_row address rows)

-- whether there is a row and it is dirty
abbrev pub is_dirty : Option ARow → Bool
is_dirty None = false
is_dirty (Some row) = row.dirty

-- whether an address is listed and dirty
abbrev pub is_dirty_at : ℕ → List ARow → Bool
is_dirty_at address rows = is_dirty (a_row address rows)

-- a slot is in a B row with this fingerprint
abbrev pub slot_fits : List BRow → Link → List ℕ → Bool
slot_fits b Lost fp = true
slot_fits b (Slot slot) fp = list_any (λ block. block.slot == slot && bytes_eq block.fp.0 fp) b
slot_fits b Zero fp = true

-- the slot of an A row, where it has one, is in a B row with the same fingerprint
abbrev pub link_fits : List BRow → ARow → Bool
link_fits b row = slot_fits b row.link row.fp.0

-- the rows fit each other
pub record RowsFit (table : Table) : Type 0 where
  pub slots : IsDistinct (λ x y. x.slot == y.slot) table.b
  pub addresses : IsDistinct (λ x y. x.address == y.address) table.a
  pub links : AllByRecursion (λ row. IsTrue (link_fits table.b row)) table.a

-- the place of the first row that doesn't fit those before it, counted from a number
abbrev pub first_bad : {Row : Type 0} → (List Row → Row → Bool) → List Row → ℕ → List Row → Option ℕ
first_bad fits before place [] = None
first_bad fits before place (row ∷ rows) = if fits before row then first_bad fits (row ∷ before) (suc place) rows else Some place

-- the slot of a B row is in no earlier one
abbrev pub b_fits : List BRow → BRow → Bool
b_fits before row = is_none (b_row row.slot before)

-- the address of an A row is in no earlier one, and its slot fits
abbrev pub a_fits : List BRow → List ARow → ARow → Bool
a_fits b before row = is_none (a_row row.address before) && link_fits b row

-- the first B row that doesn't fit
abbrev pub first_bad_b : Table → Option ℕ
first_bad_b table = first_bad b_fits [] 0 table.b

-- the first A row that doesn't fit
abbrev pub first_bad_a : Table → Option ℕ
first_bad_a table = first_bad (a_fits table.b) [] 0 table.a
