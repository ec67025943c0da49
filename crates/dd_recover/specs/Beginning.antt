-- Devices over which a run begins, and what they have then.
use Rattle.std.specs.Prelude.{◌≡◌, ◌≤◌, ◌<◌, ◌+◌, ◌-◌, ◌*◌, ◌^◌, ℕ, List, drop}
use Rattle.dd_block.specs.declared.print.Fp.{Fp}
use Rattle.dd_rig.specs.World.{World, shown}
use Rattle.dd_rig.specs.declared.device.Dev.TheVariants.{Flash, Disk}
use Rattle.dd_layout.specs.Layout.{disk_need, flash_need}
use Rattle.dd_model.specs.State.{Sizes, State}
use Rattle.dd_store.specs.Meaning.{Basis, Stands, dirty_rows, sizes_of}
use Rattle.dd_recover.specs.Opening.{IsYoung}

-- the devices show what stands for a state, with a snapshot whose epoch and count are below 2^62
pub record Begins (print : List ℕ → Fp) (world : World) : Type 0 where
  pub start : State
  pub basis : Basis
  pub stands : Stands basis print (shown Flash world) (shown Disk world) start
  pub young : IsYoung stands

-- what the devices have then: how far the epoch is ahead of what the count explains, and what lies behind the slots and behind the array
abbrev pub basis_from : {print : List ℕ → Fp} {world : World} → Begins print world → Basis
basis_from {print} {world} from = record {
  room = from.stands.says.reading.epoch + 2 * dirty_rows from.stands.table.a - 3 * from.stands.count;
  flash = drop (flash_need from.stands.geo) (shown Flash world);
  disk = drop (disk_need from.stands.geo) (shown Disk world);
}

-- the sizes that the flash says
abbrev pub sizes_from : {print : List ℕ → Fp} {world : World} → Begins print world → Sizes
sizes_from from = sizes_of from.stands.geo

-- it begins with no more room than this, and with the same behind the slots and behind the array
pub record GoesOnFrom {print : List ℕ → Fp} {world : World} (basis : Basis) (begins : Begins print world) : Type 0 where
  pub room : (basis_from begins).room ≤ basis.room
  pub flash : (basis_from begins).flash ≡ basis.flash
  pub disk : (basis_from begins).disk ≡ basis.disk

-- A run over devices that show these bytes begins with this state, as long as three times the references since the format, and the room,
-- are below 2^62.
abbrev pub BeginsAt : (basis : Basis) → (List ℕ → Fp) → State → (flash disk : List ℕ) → Type 0
BeginsAt basis print s flash disk =
    (world : World) → shown Flash world ≡ flash → shown Disk world ≡ disk → 3 * s.count + basis.room < 2 ^ 62 → (begins : Begins print world) × (begins.start ≡ s) × GoesOnFrom basis begins
