-- The listed addresses with their nodes, the dirty ones by age, and those that each slot is owed by.
use Rattle.std.specs.Prelude.{◌≡◌, ℕ, ◌-◌, ◌==◌, ◌&&◌, not, Bool, false, List, [], ◌∷◌, ◌++◌, map, filter, find, length, Option, Some, option_map, unwrap_or, if◌then◌else◌, slice_get}
use Rattle.std.specs.List.{list_any}
use Rattle.dd_record.specs.declared.row.ARow.{ARow}
use Rattle.dd_record.specs.declared.row.Link.TheVariants as links
use Rattle.dd_record.specs.Table.{is_slot}
use Rattle.dd_lists.specs.Lists.{is_in, list_at, without}

-- a listed address: its node and its row
pub record Entry : Type 0 where
  pub node : ℕ
  pub row : ARow

-- the entries, the most recently referenced first, the dirty addresses, oldest first, and the dirty ones linked to each slot
pub record Meta : Type 0 where
  pub acap : ℕ
  pub slots : ℕ
  pub entries : List Entry
  pub dirty : List ℕ
  pub owed : List (List ℕ)

abbrev pub rows_of : Meta → List ARow
rows_of meta = map (λ entry. entry.row) meta.entries

-- the dirty addresses linked to a slot, in the order of a walk
abbrev pub owed_to : ℕ → Meta → List ℕ
owed_to slot meta = list_at slot meta.owed

-- the node of an address, and the row of a node
abbrev pub node_of : ℕ → Meta → Option ℕ
node_of address meta = option_map (λ entry. entry.node) (find (λ entry. entry.row.address == address) meta.entries)

abbrev pub row_of : ℕ → Meta → Option ARow
row_of node meta = option_map (λ entry. entry.row) (find (λ entry. entry.node == node) meta.entries)

-- no row
abbrev pub blank : ARow
blank = record { address = 0; link = links.Lost; dirty = false; fp = record { 0 = [] } }

-- the row of a node that has one
abbrev pub row_named : ℕ → Meta → ARow
row_named node meta = unwrap_or (row_of node meta) blank

-- whether an address is listed
abbrev pub is_listed_address : ℕ → Meta → Bool
is_listed_address address meta = list_any (λ entry. entry.row.address == address) meta.entries

-- the address at the back
abbrev pub last_address : Meta → Option ℕ
last_address meta = option_map (λ entry. entry.row.address) (slice_get meta.entries (length meta.entries - 1))

-- the dirty addresses after one became dirty, which it may have been
abbrev pub with_dirty : ℕ → List ℕ → List ℕ
with_dirty address dirty = if is_in address dirty then dirty else dirty ++ address ∷ []

-- the dirty addresses after an address has this row
abbrev pub dirty_by : ARow → List ℕ → List ℕ
dirty_by row dirty = if row.dirty then with_dirty row.address dirty else without row.address dirty

-- the dirty addresses of a slot after an address has this row
abbrev pub owed_by : ℕ → ARow → List ℕ → List ℕ
owed_by slot row owed = if row.dirty && is_slot slot row.link then row.address ∷ without row.address owed else without row.address owed

-- an address in front of the others, with the row that it has or a blank one
pub record Brings (old new : Meta) (address node : ℕ) : Type 0 where
  pub row : ARow
  pub is : row.address ≡ address
  pub known : (known : ℕ) → node_of address old ≡ Some known → known ≡ node
  pub entries : new.entries ≡ record { node = node; row = row } ∷ filter (λ entry. not (entry.row.address == address)) old.entries
  pub dirty : new.dirty ≡ old.dirty
  pub owed : new.owed ≡ old.owed
  pub acap : new.acap ≡ old.acap
  pub slots : new.slots ≡ old.slots

-- the row in front of the others, at the node that its address had or, where it wasn't listed, at some node
pub record Fronts (old new : Meta) (row : ARow) : Type 0 where
  pub node : ℕ
  pub known : (known : ℕ) → node_of row.address old ≡ Some known → known ≡ node
  pub entries : new.entries ≡ record { node = node; row = row } ∷ filter (λ entry. not (entry.row.address == row.address)) old.entries
  pub rows : rows_of new ≡ row ∷ filter (λ other. not (other.address == row.address)) (rows_of old)
  pub dirty : new.dirty ≡ dirty_by row old.dirty
  pub owed : (slot : ℕ) → owed_to slot new ≡ owed_by slot row (owed_to slot old)
  pub acap : new.acap ≡ old.acap
  pub slots : new.slots ≡ old.slots

-- the row that its address has in front of the others, at its node
pub record Renews (old new : Meta) (row : ARow) : Type 0 where
  pub node : ℕ
  pub known : node_of row.address old ≡ Some node
  pub entries : new.entries ≡ record { node = node; row = row } ∷ filter (λ entry. not (entry.row.address == row.address)) old.entries
  pub rows : rows_of new ≡ row ∷ filter (λ other. not (other.address == row.address)) (rows_of old)
  pub dirty : new.dirty ≡ old.dirty
  pub owed : new.owed ≡ old.owed
  pub acap : new.acap ≡ old.acap
  pub slots : new.slots ≡ old.slots

-- an entry with this row, if it is of that node
abbrev pub written : ℕ → ARow → Entry → Entry
written node row entry = if entry.node == node then record { node = entry.node; row = row } else entry

-- a row in the place of another one of its address
abbrev pub replaced : ARow → ARow → ARow
replaced row other = if other.address == row.address then row else other

-- the node's address has this row now
pub record Writes (old new : Meta) (node : ℕ) (row : ARow) : Type 0 where
  pub entries : new.entries ≡ map (written node row) old.entries
  pub rows : rows_of new ≡ map (replaced row) (rows_of old)
  pub dirty : new.dirty ≡ dirty_by row old.dirty
  pub owed : (slot : ℕ) → owed_to slot new ≡ owed_by slot row (owed_to slot old)
  pub acap : new.acap ≡ old.acap
  pub slots : new.slots ≡ old.slots

-- a row, and an entry, without its link to a slot
abbrev pub unlinked_row : ℕ → ARow → ARow
unlinked_row slot row = if is_slot slot row.link then record row { link = links.Lost } else row

abbrev pub unlinked : ℕ → Entry → Entry
unlinked slot entry = if is_slot slot entry.row.link then record { node = entry.node; row = record entry.row { link = links.Lost } } else entry
