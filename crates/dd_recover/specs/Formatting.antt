-- What a format refuses, and what it leaves.
use Rattle.std.specs.Prelude.{drop, ◌≡◌, ◌≢◌, ◌⊎◌, ℕ, ◌≤◌, ◌==◌, nat_lt, List, [], ◌∷◌, ◌++◌, length, Option, Some, None, Result, Ok, Err, if◌then◌else◌, slice_index, ⊤}
use Rattle.std.specs.Option.{option_or}
use Rattle.dd_block.specs.declared.print.Fp.{Fp}
use Rattle.dd_block.specs.declared.geometry.Geometry.{Geometry}
use Rattle.dd_rig.specs.declared.device.Dev.{Dev}
use Rattle.dd_rig.specs.declared.device.Dev.TheVariants.{Flash, Disk}
use Rattle.dd_rig.specs.declared.tallies.Counts.{Counts}
use Rattle.dd_rig.specs.Counts.{Rose}
use Rattle.dd_rig.specs.World.{World, shown}
use Rattle.dd_block.specs.Bytes.{StandsAt}
use Rattle.dd_layout.specs.Layout.{region_bytes, flash_need, disk_need}
use Rattle.dd_layout.specs.Super.{super_text}
use Rattle.dd_record.specs.declared.head.Head.{Head}
use Rattle.dd_record.specs.Spelling.{head_text}
use Rattle.dd_model.specs.State.{State, array_of, fresh}
use Rattle.dd_recover.specs.Beginning.{BeginsAt}
use Rattle.dd_store.specs.Meaning.{Basis, Stands}
use Rattle.dd_recover.specs.declared.fault.FormatFault.{FormatFault}
use Rattle.dd_recover.specs.declared.fault.FormatFault.TheVariants.{FlashSmall, DiskSmall, InUse, FlashRead, FlashWrite, DiskWrite}

-- why devices of these sizes are too small for a geometry, the flash first
abbrev pub small_fault : Geometry → (Dev → ℕ) → Option FormatFault
small_fault geo size =
    if nat_lt (size Flash) (flash_need geo) then Some (FlashSmall (flash_need geo) (size Flash))
    else if nat_lt (size Disk) (disk_need geo) then Some (DiskSmall (disk_need geo) (size Disk))
    else None

-- a flash whose byte 0 is 1 is in use
abbrev pub in_use_fault : List ℕ → Option FormatFault
in_use_fault flash = if slice_index flash 0 == 1 then Some InUse else None

-- the first condition under which devices aren't formatted: the sizes, and then byte 0 of the flash
abbrev pub format_fault : Geometry → (Dev → ℕ) → List ℕ → Option FormatFault
format_fault geo size flash = option_or (small_fault geo size) (in_use_fault flash)

-- An answer tells whether the devices are too small: it is that fault, or they aren't.
abbrev pub TellsSmall : Result Unit FormatFault → Option FormatFault → Type 0
TellsSmall (Err (FlashSmall need have)) fault = fault ≡ Some (FlashSmall need have)
TellsSmall (Err (DiskSmall need have)) fault = fault ≡ Some (DiskSmall need have)
TellsSmall answer fault = fault ≡ None

-- An answer is the first condition, or there is none; a read of byte 0 that failed tells nothing of that byte.
abbrev pub TellsFault : Result Unit FormatFault → Option FormatFault → Type 0
TellsFault (Ok done) fault = fault ≡ None
TellsFault (Err FlashRead) fault = Unit {0}
TellsFault (Err FlashWrite) fault = fault ≡ None
TellsFault (Err DiskWrite) fault = fault ≡ None
TellsFault (Err refused) fault = fault ≡ Some refused

-- an answer by the sizes alone
abbrev pub IsSmall : Result Unit FormatFault → Type 0
IsSmall (Err (FlashSmall need have)) = Unit {0}
IsSmall (Err (DiskSmall need have)) = Unit {0}
IsSmall answer = ⊥

-- an answer from before the first sync
abbrev pub IsEarly : Result Unit FormatFault → Type 0
IsEarly (Ok done) = ⊥
IsEarly (Err FlashWrite) = ⊥
IsEarly (Err DiskWrite) = ⊥
IsEarly (Err early) = Unit {0}

-- the count that tells of a failed call
abbrev pub FormatFaulted : FormatFault → Counts → Counts → Type 0
FormatFaulted FlashRead before after = Rose before.flash.failed_reads after.flash.failed_reads
FormatFaulted FlashWrite before after = Rose before.flash.failed_writes after.flash.failed_writes
FormatFaulted DiskWrite before after = Rose before.disk.failed_writes after.disk.failed_writes
FormatFaulted other before after = ⊤

-- the array as a disk has it, with empty lists and no references
abbrev pub formatted_state : Geometry → List ℕ → State
formatted_state geo disk = fresh (array_of geo.block geo.blocks disk)

-- the header of a snapshot of version 2 without rows, before the first reference
abbrev pub first_head : Head
first_head = record { version = 2; epoch = 1; count = 0; len_a = 0; len_b = 0 }

-- an open gate, that header, and a closed gate behind it
abbrev pub first_text : List ℕ
first_text = 1 ∷ head_text first_head ++ 0 ∷ []

-- the flash begins with the superblock and the first text of region 0, and region 1's gate is 0
pub record IsFresh (geo : Geometry) (flash : List ℕ) : Type 0 where
  pub size : flash_need geo ≤ length flash
  pub super : StandsAt flash 0 (super_text geo)
  pub region : StandsAt (region_bytes geo flash 0) 0 first_text
  pub other : slice_index (region_bytes geo flash 1) 0 ≡ 0

-- what a format begins with: an epoch of 1, and what lies behind the slots and behind the array
abbrev pub fresh_basis : Geometry → (flash disk : List ℕ) → Basis
fresh_basis geo flash disk = record { room = 1; flash = drop (flash_need geo) flash; disk = drop (disk_need geo) disk }

-- both devices stand, by this geometry, for what the disk showed with empty lists and for nothing else, and the flash has the
-- bytes of a fresh one
pub record IsFormatted (print : List ℕ → Fp) (geo : Geometry) (old : World) (flash disk : List ℕ) : Type 0 where
  pub stands : Stands (fresh_basis geo flash disk) print flash disk (formatted_state geo (shown Disk old))
  pub only : (basis : Basis) (s : State) → Stands basis print flash disk s → s ≡ formatted_state geo (shown Disk old)
  pub geometry : stands.geo ≡ geo
  -- so a run begins with that
  pub again : BeginsAt (fresh_basis geo flash disk) print (formatted_state geo (shown Disk old)) flash disk
  pub bytes : IsFresh geo flash

-- what a crash within a format adds: a flash that isn't in use, or devices that are formatted
abbrev pub IsUnusedOrFormatted : (List ℕ → Fp) → Geometry → World → (flash disk : List ℕ) → Type 0
IsUnusedOrFormatted print geo old flash disk = (slice_index flash 0 ≢ 1) ⊎ IsFormatted print geo old flash disk
