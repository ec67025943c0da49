-- A write-back: blocks are laid on the disk, and marked clean once it was synced.
use Rattle.std.specs.Prelude.{◌≡◌, ℕ, ◌<◌, ◌≤◌, ◌==◌, length, List, [], ◌∷◌, ◌++◌, map, true, false, Some}
use Rattle.std.specs.List.{AllByRecursion, IsDistinct}
use Rattle.dd_block.specs.declared.geometry.Geometry.{Geometry}
use Rattle.dd_block.specs.Geometry.{slot_count}
use Rattle.dd_slots.specs.Numbers.{is_among}
use Rattle.dd_record.specs.declared.row.ARow.{ARow}
use Rattle.dd_record.specs.declared.rec.Rec.{Rec}
use Rattle.dd_record.specs.declared.rec.Rec.TheVariants.{Clean}
use Rattle.dd_record.specs.Table.{a_row, is_dirty_at}
use Rattle.dd_record.specs.Replay.{cleaned}
use Rattle.dd_model.specs.Listing.{Listing, without, IsLinkBelow}
use Rattle.dd_store.specs.Keeping.{StoreView}

-- an address whose block may be laid: it is dirty and isn't laid, and nothing is pending
pub record MayLay (store : StoreView) (address : ℕ) : Type 0 where
  pub below : address < store.journal.geo.blocks
  pub dirty : is_dirty_at address store.table.a ≡ true
  pub unlaid : is_among address store.laid ≡ false
  pub none : store.pending ≡ []

-- the address is laid behind the others
abbrev pub laid_store : ℕ → StoreView → StoreView
laid_store address store = record store { laid = store.laid ++ address ∷ [] }

-- these addresses clean, one after the other
abbrev pub all_cleaned : List ℕ → List ARow → List ARow
all_cleaned [] rows = rows
all_cleaned (address ∷ addresses) rows = all_cleaned addresses (cleaned address rows)

-- numbers without these
abbrev pub all_without : List ℕ → List ℕ → List ℕ
all_without [] numbers = numbers
all_without (number ∷ others) numbers = all_without others (without number numbers)

-- a Clean record of each
abbrev pub clean_records : List ℕ → List Rec
clean_records addresses = map (λ address. Clean address) addresses

-- the laid addresses are clean, and their records pending
abbrev pub marked_store : StoreView → StoreView
marked_store store = record store {
  table = record store.table { a = all_cleaned store.laid store.table.a };
  pending = clean_records store.laid;
  dirty = all_without store.laid store.dirty;
  laid = [];
}

-- a dirty row of the store may be laid
pub record MayLayRow (store : StoreView) (row : ARow) : Type 0 where
  pub listed : a_row row.address store.table.a ≡ Some row
  pub dirty : row.dirty ≡ true
  pub may : MayLay store row.address

-- these addresses may be laid one after the other: they are dirty and distinct, and nothing is pending or laid
pub record MayLayAll (store : StoreView) (addresses : List ℕ) : Type 0 where
  pub none : store.pending ≡ []
  pub unlaid : store.laid ≡ []
  pub dirty : AllByRecursion (λ address. is_dirty_at address store.table.a ≡ true) addresses
  pub apart : IsDistinct (λ x y. x == y) addresses
  pub few : length addresses ≤ store.journal.geo.group

-- a store that has laid these addresses
abbrev pub all_laid : List ℕ → StoreView → StoreView
all_laid addresses store = record store { laid = addresses }

-- a row whose address is within a geometry, and whose slot, where it has one
abbrev pub IsPlacedRow : Geometry → ARow → Type 0
IsPlacedRow geo row = (row.address < geo.blocks) × IsLinkBelow (slot_count geo) row.link

-- lists in which these addresses were made clean, one after the other
abbrev pub all_marked : List ℕ → Listing → Listing
all_marked addresses lists = record lists {
  table = record { b = lists.table.b; a = all_cleaned addresses lists.table.a };
  dirty = all_without addresses lists.dirty;
}
