-- The metadata cache and the data cache, coupled: what both list, and what holds of them.
use Rattle.std.specs.Prelude.{◌≡◌, ℕ, ◌-◌, ◌==◌, not, ◌&&◌, ◌||◌, Bool, false, List, [], length, take, Option, Some, None, option_map, if◌then◌else◌, is_some}
use Rattle.dd_slots.specs.Numbers.{Enumerates}
use Rattle.dd_record.specs.declared.row.ARow.{ARow}
use Rattle.dd_record.specs.Table.{a_row, is_slot}
use Rattle.dd_meta.specs.Entries.{Meta, rows_of, owed_to}
use Rattle.dd_data.specs.Blocks.{Data}
use Rattle.dd_model.specs.declared.given.Block.{Block}
use Rattle.dd_model.specs.declared.given.Block.TheVariants.{Known, Fresh, Zero}
use Rattle.dd_model.specs.Listing.{Listing, IsListing, listing_of, last_of_full, is_referrer}

-- both lists, how long they may be, and the dirty addresses by age
abbrev pub listing_in : Meta → Data → Listing
listing_in meta blocks = listing_of meta.acap blocks.bcap blocks.slots blocks.rows (rows_of meta) meta.dirty

-- they are lists, over the same slots; and the dirty addresses linked to each slot are those that the rows tell
pub record Couples (slots : ℕ) (meta : Meta) (blocks : Data) : Type 0 where
  pub kept : IsListing (listing_in meta blocks)
  pub meta_slots : meta.slots ≡ slots
  pub data_slots : blocks.slots ≡ slots
  pub sized : length meta.owed ≡ slots
  pub walked : (slot : ℕ) → Enumerates (is_referrer slot (rows_of meta)) (owed_to slot meta)

-- the rows with room for one more: the last one is taken away where there are as many as there may be
abbrev pub roomy : {Row : Type 0} → ℕ → List Row → List Row
roomy cap rows = if length rows == cap then take (length rows - 1) rows else rows

-- the rows with room for an address, which needs none where it is listed; and the address that falls off
abbrev pub roomy_for : (address acap : ℕ) → List ARow → List ARow
roomy_for address acap rows = if is_some (a_row address rows) then rows else roomy acap rows

abbrev pub out_for : (address acap : ℕ) → List ARow → Option ℕ
out_for address acap rows = if is_some (a_row address rows) then None else option_map (λ row. row.address) (last_of_full acap rows)

-- whether a reference to the block in a slot leaves a row as it is: it is linked to the slot, and is dirty where it becomes so
abbrev pub is_renewed : (slot : ℕ) (dirty : Bool) → Option ARow → Bool
is_renewed slot dirty None = false
is_renewed slot dirty (Some row) = is_slot slot row.link && (not dirty || row.dirty)

-- the slot of the block that is referenced, where the row stays as it is
abbrev pub renewed_slot : Block → (dirty : Bool) → Option ARow → Option ℕ
renewed_slot (Known slot) dirty row = if is_renewed slot dirty row then Some slot else None
renewed_slot (Fresh block) dirty row = None
renewed_slot Zero dirty row = None

-- the rows that are listed behind a search for one that doesn't fit: all, where there is none
abbrev pub taken : {Row : Type 0} → Option ℕ → List Row → List Row
taken None rows = rows
taken (Some index) rows = []
