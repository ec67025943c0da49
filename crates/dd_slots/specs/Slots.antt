-- The slots of a flash: where each of them lies, and what it is used for.
use Rattle.std.specs.Prelude.{◌≡◌, ℕ, ◌+◌, ◌*◌, ◌<◌, Bool, true, false, List, length, map, take, drop, Option, Some, None, if◌then◌else◌, slice_get, slice_set}
use Rattle.std.specs.List.{list_any}
use Rattle.dd_rig.specs.declared.device.Dev.TheVariants.{Flash}
use Rattle.dd_rig.specs.Device.{write_bytes}
use Rattle.dd_rig.specs.World.{World, Outcome, on_device, ShowsSome, WithinWrite}
use Rattle.dd_rig.specs.Leaves.{LeavesShown}
use Rattle.dd_slots.specs.declared.usage.Usage.{Usage}
use Rattle.dd_slots.specs.declared.usage.Usage.TheVariants.{Free, Used, Waiting}
use Rattle.dd_slots.specs.Numbers.{is_among}

-- places of so many bytes each, one behind the other from a place of the flash on, and what each is used for
pub record SlotsView : Type 0 where
  pub base : ℕ
  pub block : ℕ
  pub uses : List Usage

-- how many slots there are
abbrev pub count_of : SlotsView → ℕ
count_of slots = length slots.uses

-- where a slot begins
abbrev pub slot_from : SlotsView → ℕ → ℕ
slot_from slots slot = slots.base + slot * slots.block

-- where the last slot ends
abbrev pub slots_end : SlotsView → ℕ
slots_end slots = slots.base + count_of slots * slots.block

-- the block in a slot, where the flash shows these bytes
abbrev pub block_in : SlotsView → List ℕ → ℕ → List ℕ
block_in slots flash slot = take slots.block (drop (slot_from slots slot) flash)

-- what a slot is used for, where there is such a slot
abbrev pub use_of : SlotsView → ℕ → Option Usage
use_of slots slot = slice_get slots.uses slot

-- whether a slot is free, or is used, or waits
abbrev pub is_free : Option Usage → Bool
is_free (Some Free) = true
is_free (Some Used) = false
is_free (Some Waiting) = false
is_free None = false

abbrev pub is_used : Option Usage → Bool
is_used (Some Free) = false
is_used (Some Used) = true
is_used (Some Waiting) = false
is_used None = false

abbrev pub is_waiting : Option Usage → Bool
is_waiting (Some Free) = false
is_waiting (Some Used) = false
is_waiting (Some Waiting) = true
is_waiting None = false

-- whether some slot is free
abbrev pub has_free : SlotsView → Bool
has_free slots = list_any (λ usage. is_free (Some usage)) slots.uses

-- the slot is used for this from now on
abbrev pub with_use : ℕ → Usage → SlotsView → SlotsView
with_use slot usage slots = record slots { uses = slice_set slots.uses slot usage }

-- what waits is free
abbrev pub freed : Usage → Usage
freed Free = Free
freed Used = Used
freed Waiting = Free

-- every waiting slot is free
abbrev pub settled : SlotsView → SlotsView
settled slots = record slots { uses = map freed slots.uses }

-- the slots among these are used, and the others are free
pub record AreNew (base block count : ℕ) (used : List ℕ) (slots : SlotsView) : Type 0 where
  pub same_base : slots.base ≡ base
  pub same_block : slots.block ≡ block
  pub same_count : count_of slots ≡ count
  pub each : (slot : ℕ) → slot < count → use_of slots slot ≡ Some (if is_among slot used then Used else Free)

-- some slot was free and is used now; or none was free
abbrev pub Takes : (old new : SlotsView) → Option ℕ → Type 0
Takes old new None = (has_free old ≡ false) × (new ≡ old)
Takes old new (Some slot) = (use_of old slot ≡ Some Free) × (new ≡ with_use slot Used old)

-- the flash shows these bytes in the slot, and they may be lost in a crash before the next sync
abbrev pub saved : SlotsView → ℕ → List ℕ → World → World
saved slots slot bytes world = on_device Flash (write_bytes (slot_from slots slot) bytes) world

-- the flash shows some bytes in the slot, or nothing changed
abbrev pub SavesSome : SlotsView → ℕ → (old new : World) → Type 0
SavesSome slots slot old new = ShowsSome Flash (slot_from slots slot) slots.block old new

-- a crash leaves any bytes in the slot
abbrev pub WithinSave : SlotsView → ℕ → World → Outcome → Type 0
WithinSave slots slot world outcome = WithinWrite Flash (slot_from slots slot) slots.block world outcome

-- what a read gives stays as it was but for the slot
abbrev pub LeavesOthers : SlotsView → ℕ → (old new : World) → Type 0
LeavesOthers slots slot old new = LeavesShown Flash (slot_from slots slot) slots.block old new
