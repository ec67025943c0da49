-- What a scratch keeps, and what its rows and both devices stand for.
use Rattle.std.specs.Prelude.{◌≡◌, ℕ, ◌+◌, ◌*◌, ◌<◌, ◌≤◌, false, List, map, Option, slice_range, slice_index, filter, nat_lt, if◌then◌else◌}
use Rattle.std.specs.List.{AllByRecursion}
use Rattle.dd_block.specs.declared.print.Fp.{Fp}
use Rattle.dd_rig.specs.declared.device.Dev.{Dev}
use Rattle.dd_rig.specs.declared.device.Dev.TheVariants.{Flash, Disk}
use Rattle.dd_rig.specs.Device.{IsImage, IsOutside}
use Rattle.dd_rig.specs.World.{World, Outcome, shown}
use Rattle.dd_slots.specs.declared.usage.Usage.TheVariants.{Used}
use Rattle.dd_slots.specs.Slots.{SlotsView, block_in, use_of, with_use, is_used, is_waiting, settled, count_of, slots_end}
use Rattle.dd_record.specs.declared.row.BRow.{BRow}
use Rattle.dd_record.specs.Table.{has_slot}
use Rattle.dd_record.specs.Replay.{Touch}
use Rattle.dd_model.specs.declared.kind.Kind.{Kind}
use Rattle.dd_model.specs.declared.kind.Kind.TheVariants.{Join, Miss}
use Rattle.dd_model.specs.declared.given.Block.{Block}
use Rattle.dd_model.specs.declared.given.Block.TheVariants.{Known, Fresh, Zero}
use Rattle.dd_model.specs.State.{Sizes, State, IsState, array_of, content, is_known}
use Rattle.dd_model.specs.Reference.{read_kind}
use Rattle.dd_model.specs.Rows.{Shows, entry_of, held_block}
use Rattle.dd_model.specs.Listing.{Listing, row_of, touch_by}
use Rattle.dd_store.specs.Referring.{IsThere, IsPlaced, slots_let_go}
use Rattle.dd_loop.specs.Saying.{front_of}

-- both lists, the slots of the flash, and how many references were made; the disk has so many blocks
pub record ScratchView : Type 0 where
  pub blocks : ℕ
  pub lists : Listing
  pub slots : SlotsView
  pub count : ℕ

abbrev pub scratch_of : (blocks : ℕ) → Listing → SlotsView → (count : ℕ) → ScratchView
scratch_of blocks lists slots count = record { blocks = blocks; lists = lists; slots = slots; count = count }

abbrev pub scratch_sizes : ScratchView → Sizes
scratch_sizes scratch = record { block = scratch.slots.block; blocks = scratch.blocks; acap = scratch.lists.acap; bcap = scratch.lists.bcap }

-- the block in a slot, as the flash reads
abbrev pub held_in : SlotsView → World → ℕ → List ℕ
held_in slots world slot = block_in slots (shown Flash world) slot

-- the block at an address of the disk
abbrev pub block_of : ℕ → World → ℕ → List ℕ
block_of block world address = slice_range (shown Disk world) (address * block) (address * block + block)

-- the state for which rows and devices stand
abbrev pub scratch_state : ScratchView → World → State
scratch_state scratch world = record {
  array = array_of scratch.slots.block scratch.blocks (shown Disk world);
  addresses = map entry_of scratch.lists.table.a;
  blocks = map (held_block (held_in scratch.slots world)) scratch.lists.table.b;
  count = scratch.count;
}

-- that state keeps its rules, and the rows show it
abbrev pub IsSound : (List ℕ → Fp) → ScratchView → World → Type 0
IsSound printed scratch world =
    Shows printed (held_in scratch.slots world) scratch.lists.table scratch.count (scratch_state scratch world) × IsState (scratch_sizes scratch) (scratch_state scratch world)

-- the slots of a scratch over lists: there is one more than listed blocks at most, those of listed blocks are used, and the others free
pub record FitsSlots (lists : Listing) (slots : SlotsView) : Type 0 where
  pub lists_slots : lists.slots ≡ lists.bcap + 1
  pub count : count_of slots ≡ lists.bcap + 1
  pub used : (slot : ℕ) → is_used (use_of slots slot) ≡ has_slot slot lists.table.b
  pub none_waits : (slot : ℕ) → is_waiting (use_of slots slot) ≡ false

-- the slots begin behind the first 64 bytes, and lie on the flash
pub record FitsFlash (slots : SlotsView) (size : Dev → ℕ) : Type 0 where
  pub behind : 64 ≤ slots.base
  pub flash : slots_end slots ≤ size Flash

-- a scratch over devices of these sizes: no address is dirty
pub record Fits (scratch : ScratchView) (size : Dev → ℕ) : Type 0 where
  pub block : 0 < scratch.slots.block
  pub block_most : scratch.slots.block ≤ 4096
  pub flash : FitsFlash scratch.slots size
  pub disk : scratch.blocks * scratch.slots.block ≤ size Disk
  pub slots : FitsSlots scratch.lists scratch.slots
  pub clean : AllByRecursion (λ row. row.dirty ≡ false) scratch.lists.table.a

-- the ranges that were written in the first 64 bytes of the flash
abbrev pub front_ranges : World → List (ℕ × ℕ)
front_ranges world = filter (λ range. nat_lt range.0 64) world.flash.ranges

-- A replay writes the flash behind its first 64 bytes and syncs nothing, and the disk stays.
pub record Scratched (before after : World) : Type 0 where
  pub disk : after.disk ≡ before.disk
  pub front : front_of after ≡ front_of before
  pub stable : after.flash.stable ≡ before.flash.stable
  pub ranges : front_ranges after ≡ front_ranges before

-- the same, and nothing is said
abbrev pub OnlyFlash : World → World → Type 0
OnlyFlash before after = Scratched before after × (after.said ≡ before.said)

-- What a crash within a replay leaves of both devices: each of the first 64 bytes of the flash as a crash at its start might have left
-- it, and of the disk the same.
pub record KeepsImages (first : World) (on_flash on_disk : List ℕ) : Type 0 where
  pub front : (place : ℕ) → place < 64 → IsOutside first.flash.ranges place → slice_index on_flash place ≡ slice_index first.flash.stable place
  pub disk : IsImage first.disk on_disk

abbrev pub KeepsDevices : World → Outcome → Type 0
KeepsDevices first o = KeepsImages first o.flash o.disk

-- the same, and nothing is said
abbrev pub IsWithin : World → Outcome → Type 0
IsWithin world o = (o.out ≡ world.said) × KeepsDevices world o

-- the slot of a fresh block is used from now on
abbrev pub placed : Block → SlotsView → SlotsView
placed (Known slot) slots = slots
placed (Fresh row) slots = with_use row.slot Used slots
placed Zero slots = slots

-- a block that isn't zeros was found: it is listed, or it lies in a fresh slot
pub record Found (printed : List ℕ → Fp) (scratch : ScratchView) (before after : World) (block : List ℕ) (kind : Kind) (given : Block) : Type 0 where
  pub kind_is : kind ≡ (if is_known block (scratch_state scratch before).blocks then Join else Miss)
  pub state : scratch_state scratch after ≡ scratch_state scratch before
  pub sound : IsSound printed scratch after
  pub there : IsThere printed (held_in scratch.slots after) (row_of given scratch.lists.table.b) block
  pub in_place : IsPlaced (scratch_state scratch before) scratch.lists.table (row_of given scratch.lists.table.b) block

-- the content of an address was found: it is listed, it lies in a fresh slot, or it is zeros
pub record Located (printed : List ℕ → Fp) (scratch : ScratchView) (before after : World) (address : ℕ) (block : List ℕ) (kind : Kind) (given : Block) : Type 0 where
  pub kind_is : kind ≡ read_kind (scratch_state scratch before) address
  pub block_is : block ≡ content (scratch_state scratch before).array address
  pub state : scratch_state scratch after ≡ scratch_state scratch before
  pub sound : IsSound printed scratch after
  pub there : IsThere printed (held_in scratch.slots after) (row_of given scratch.lists.table.b) block
  pub in_place : IsPlaced (scratch_state scratch before) scratch.lists.table (row_of given scratch.lists.table.b) block

-- an address is read with a block
abbrev pub read_of : ℕ → Block → Listing → Touch
read_of address given lists = touch_by address given false lists

-- the slot of a block that fell off is free
abbrev pub slots_after : Option BRow → SlotsView → SlotsView
slots_after drop slots = settled (slots_let_go drop slots)
