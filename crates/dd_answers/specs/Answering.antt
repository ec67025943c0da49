-- What a store answers to lines.
use Rattle.std.specs.Prelude.{◌≡◌, ◌+◌, ◌-◌, ◌*◌, ◌<◌, ◌≤◌, ◌^◌, ℕ, true, false, List, length, take, Result, Ok, Err, IsTrue}
use Rattle.dd_block.specs.declared.print.Fp.{Fp}
use Rattle.dd_rig.specs.declared.device.Dev.{Dev}
use Rattle.dd_rig.specs.declared.device.Dev.TheVariants as dev
use Rattle.dd_block.specs.declared.geometry.Geometry.{Geometry}
use Rattle.dd_rig.specs.World.{World, shown}
use Rattle.dd_layout.specs.Layout.{flash_need, disk_need}
use Rattle.dd_record.specs.Table.{Table}
use Rattle.dd_journal.specs.Regions.{Says}
use Rattle.dd_model.specs.State.{State}
use Rattle.dd_script.specs.declared.reply.Stop.TheVariants as stop
use Rattle.dd_script.specs.Text.{ended, fault_text}
use Rattle.dd_store.specs.declared.fault.StoreFault.{StoreFault}
use Rattle.dd_store.specs.declared.fault.StoreFault.TheVariants.{FlashRead, DiskRead, FlashWrite, DiskWrite}
use Rattle.dd_store.specs.Keeping.{StoreView, Kept}
use Rattle.dd_store.specs.Meaning.{HasBehind, Basis, Stands, dirty_rows, sizes_of}
use Rattle.dd_loop.specs.declared.cache.Written.{Written}
use Rattle.dd_loop.specs.declared.halt.Halt.{Halt}
use Rattle.dd_loop.specs.declared.halt.Halt.TheVariants.{Stopped}
use Rattle.dd_loop.specs.Terms.{Terms}

-- what stays as it is while a store answers
abbrev pub store_terms : (List ℕ → Fp) → StoreView → Terms
store_terms print store = record { print = print; sizes = sizes_of store.journal.geo; reads_only = false }

-- the devices stand for a state by these fingerprints
abbrev pub StandsBy : (basis : Basis) → (List ℕ → Fp) → (flash disk : List ℕ) → State → Type 0
StandsBy basis print flash disk s = Stands basis print flash disk s

-- what the devices of a world have that the flash spells: how far its epoch is ahead of what its count explains, and what lies behind
-- the slots and behind the array
pub record IsBasisOf (basis : Basis) (world : World) : Type 0 where
  pub geo : Geometry
  pub table : Table
  pub count : ℕ
  pub says : Says (shown dev.Flash world) geo 2 table count
  pub room : basis.room ≡ says.reading.epoch + 2 * dirty_rows table.a - 3 * count
  pub behind : HasBehind basis geo (shown dev.Flash world) (shown dev.Disk world)

-- a store holds a state and has committed another, on what the world had in which the run began
abbrev pub KeptSince : (List ℕ → Fp) → StoreView → (first now : World) → (committed held : State) → Type 0
KeptSince print store first now committed held = (basis : Basis) × IsBasisOf basis first × Kept basis print store now committed held

-- the devices stand for a state on that
abbrev pub StandsSince : (List ℕ → Fp) → (first : World) → (flash disk : List ℕ) → State → Type 0
StandsSince print first flash disk s = (basis : Basis) × IsBasisOf basis first × StandsBy basis print flash disk s

-- so many lines more may be answered: the store is up, its numbers leave room for them, and the devices are large enough
pub record MayAnswer (store : StoreView) (lines : ℕ) (size : Dev → ℕ) : Type 0 where
  pub up : IsTrue store.is_up
  pub count : store.count + lines < 2 ^ 63
  pub epoch : store.journal.epoch + length store.dirty + 4 * lines < 2 ^ 63
  pub flash : flash_need store.journal.geo ≤ size dev.Flash
  pub disk : disk_need store.journal.geo ≤ size dev.Disk

-- a failed read is told by a line, and any other fault stops the run
abbrev pub TellsFault : StoreFault → Result Written Halt → List ℕ → Type 0
TellsFault FlashRead (Ok written) text = (written.faulted ≡ true) × (take written.size text ≡ ended (fault_text dev.Flash))
TellsFault FlashRead (Err halt) text = ⊥
TellsFault DiskRead (Ok written) text = (written.faulted ≡ true) × (take written.size text ≡ ended (fault_text dev.Disk))
TellsFault DiskRead (Err halt) text = ⊥
TellsFault FlashWrite (Ok written) text = ⊥
TellsFault FlashWrite (Err halt) text = halt ≡ Stopped stop.Flash
TellsFault DiskWrite (Ok written) text = ⊥
TellsFault DiskWrite (Err halt) text = halt ≡ Stopped stop.Disk
