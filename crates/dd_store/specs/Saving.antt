-- The slots of a flash, and one that a new block may take.
use Rattle.std.specs.Prelude.{◌≡◌, ◌<◌, ℕ, List, length, Some, if◌then◌else◌, slice_get}
use Rattle.dd_block.specs.declared.geometry.Geometry.{Geometry}
use Rattle.dd_block.specs.Geometry.{slot_count}
use Rattle.dd_layout.specs.Layout.{slot_at}
use Rattle.dd_slots.specs.declared.usage.Usage.{Usage}
use Rattle.dd_slots.specs.declared.usage.Usage.TheVariants.{Free, Used}
use Rattle.dd_record.specs.declared.row.BRow.{BRow}
use Rattle.dd_record.specs.Table.{has_slot}
use Rattle.dd_slots.specs.Slots.{SlotsView, count_of}
use Rattle.dd_store.specs.Keeping.{StoreView}

-- the slots lie where the geometry puts them
pub record AreSlotsOf (geo : Geometry) (slots : SlotsView) : Type 0 where
  pub from : slots.base ≡ slot_at geo 0
  pub size : slots.block ≡ geo.block
  pub count : count_of slots ≡ slot_count geo

-- the store's slots are used as these are
pub record HasSlots (store : StoreView) (slots : SlotsView) : Type 0 where
  pub placed : AreSlotsOf store.journal.geo slots
  pub same : store.uses ≡ slots.uses

-- each slot of the flash is used where it is listed, and free where it isn't
pub record AreUsesOf (geo : Geometry) (rows : List BRow) (uses : List Usage) : Type 0 where
  pub count : length uses ≡ slot_count geo
  pub each : (slot : ℕ) → slot < slot_count geo → slice_get uses slot ≡ Some (if has_slot slot rows then Used else Free)
