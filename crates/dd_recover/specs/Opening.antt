-- Why devices aren't opened, in the order in which they are tested, and what an opening answers.
use Rattle.std.specs.Prelude.{◌≡◌, ◌⊎◌, ℕ, ◌+◌, ◌*◌, ◌<◌, ◌≤◌, ◌^◌, ◌==◌, nat_lt, List, [], ◌∷◌, length, take, Option, Some, None, Result, Ok, Err, IsTrue, if◌then◌else◌, option_map, ⊤}
use Rattle.std.specs.Option.{option_or}
use Rattle.dd_block.specs.declared.print.Fp.{Fp}
use Rattle.dd_block.specs.declared.geometry.Geometry.{Geometry}
use Rattle.dd_rig.specs.declared.device.Dev.{Dev}
use Rattle.dd_rig.specs.declared.device.Dev.TheVariants.{Flash, Disk}
use Rattle.dd_rig.specs.declared.tallies.Counts.{Counts}
use Rattle.dd_rig.specs.Counts.{Rose}
use Rattle.dd_rig.specs.World.{World}
use Rattle.dd_layout.specs.Layout.{region_at, flash_need, disk_need}
use Rattle.dd_layout.specs.Super.{super_fault, super_text}
use Rattle.dd_record.specs.Replay.{after_rec}
use Rattle.dd_record.specs.Table.{Table}
use Rattle.dd_model.specs.declared.given.Misfit.{Misfit}
use Rattle.dd_model.specs.Listing.{misfit_of}
use Rattle.dd_model.specs.State.{State}
use Rattle.dd_journal.specs.declared.fault.JournalFault.{JournalFault}
use Rattle.dd_journal.specs.declared.fault.JournalFault.TheVariants as journal_fault_is
use Rattle.dd_journal.specs.declared.found.Placed.{Placed}
use Rattle.dd_journal.specs.Faults.{journal_fault}
use Rattle.dd_journal.specs.Logged.{placed_records}
use Rattle.dd_journal.specs.Regions.{Reading, Spells}
use Rattle.dd_store.specs.Keeping.{StoreView, Kept}
use Rattle.dd_store.specs.Meaning.{Basis, Stands}
use Rattle.dd_store.specs.Serving.{StoreOf}
use Rattle.dd_recover.specs.declared.opening_fault.OpenFault.{OpenFault}
use Rattle.dd_recover.specs.declared.opening_fault.OpenFault.TheVariants.{Memory, FlashRead, FlashWrite, DiskWrite, FlashSmall, DiskSmall, Super, NoRegion, Snapshot, Group, Worn, Version1}

-- a flash of fewer than 64 bytes has no superblock; else the first check that its superblock breaks
abbrev pub front_fault : (Dev → ℕ) → List ℕ → Option OpenFault
front_fault size flash = if nat_lt (size Flash) 64 then Some (FlashSmall 64 (size Flash)) else option_map (λ fault. Super fault) (super_fault (take 64 flash))

-- devices of these sizes are too small for a geometry, the flash first
abbrev pub small_for : Geometry → (Dev → ℕ) → Option OpenFault
small_for geo size =
    if nat_lt (size Flash) (flash_need geo) then Some (FlashSmall (flash_need geo) (size Flash))
    else if nat_lt (size Disk) (disk_need geo) then Some (DiskSmall (disk_need geo) (size Disk))
    else None

-- a condition under which no journal is found is one under which nothing is opened
abbrev pub opening_of : JournalFault → OpenFault
opening_of (journal_fault_is.Memory e) = Memory e
opening_of journal_fault_is.FlashRead = FlashRead
opening_of journal_fault_is.NoRegion = NoRegion
opening_of (journal_fault_is.Snapshot region at) = Snapshot region at
opening_of (journal_fault_is.Group region at) = Group region at
opening_of (journal_fault_is.Worn value) = Worn value

-- the sizes for its geometry, and then the conditions under which no journal is found
abbrev pub body_fault : Geometry → (Dev → ℕ) → List ℕ → Option OpenFault
body_fault geo size flash = option_or (small_for geo size) (option_map opening_of (journal_fault geo flash))

-- where a row that doesn't fit stands in its region, whose snapshot has so many B rows
abbrev pub misfit_at : ℕ → Misfit → ℕ
misfit_at len_b misfit = if misfit.in_a then 33 + 36 * len_b + 44 * misfit.index else 33 + 36 * misfit.index

-- the first row that doesn't fit those before it, B rows before A rows
abbrev pub rows_fault : Reading → Option OpenFault
rows_fault r = option_map (λ misfit. Snapshot r.region (region_at r.geo r.region + misfit_at (length r.table.b) misfit)) (misfit_of r.table)

-- behind a record: it stands at a place and doesn't fit, or the others are looked at
abbrev pub unfit_or : ℕ → (Table → Option ℕ) → Option Table → Option ℕ
unfit_or at others None = Some at
unfit_or at others (Some table) = others table

-- the place of the first record that doesn't fit the rows behind those before it
abbrev pub first_unfit : (acap bcap : ℕ) → List Placed → Table → Option ℕ
first_unfit acap bcap [] table = None
first_unfit acap bcap (placed ∷ recs) table = unfit_or placed.at (first_unfit acap bcap recs) (after_rec acap bcap placed.rec table)

abbrev pub records_fault : Reading → Option OpenFault
records_fault r = option_map (λ at. Group r.region at) (first_unfit r.geo.acap r.geo.bcap (placed_records r) r.table)

-- a flash of version 1 isn't opened
abbrev pub version_fault : ℕ → Option OpenFault
version_fault version = if version == 1 then Some Version1 else None

-- the rows, the records, and behind all else the version
abbrev pub reading_fault : Reading → Option OpenFault
reading_fault r = option_or (rows_fault r) (option_or (records_fault r) (version_fault r.version))

-- the first condition under which devices aren't opened: in front of the geometry, by it, or in what the flash spells by it
abbrev pub IsFirstFault : (Dev → ℕ) → (flash : List ℕ) → OpenFault → Type 0
IsFirstFault size flash fault =
    (front_fault size flash ≡ Some fault)
    ⊎ ((front_fault size flash ≡ None) × (geo : Geometry) × (take 64 flash ≡ super_text geo)
    × ((body_fault geo size flash ≡ Some fault) ⊎ ((body_fault geo size flash ≡ None) × (r : Reading) × Spells flash r × (r.geo ≡ geo) × (reading_fault r ≡ Some fault))))

-- An opening is refused by the first condition, and an Ok comes only where there is none. Want of memory and failed calls tell nothing of
-- the devices.
abbrev pub TellsOpening : {T : Type 0} → Result T OpenFault → (Dev → ℕ) → (flash : List ℕ) → Type 0
TellsOpening (Ok store) size flash = (fault : OpenFault) → IsFirstFault size flash fault → ⊥
TellsOpening (Err (Memory e)) size flash = ⊤
TellsOpening (Err FlashRead) size flash = ⊤
TellsOpening (Err FlashWrite) size flash = ⊤
TellsOpening (Err DiskWrite) size flash = ⊤
TellsOpening (Err refused) size flash = IsFirstFault size flash refused

-- the epoch and the count of the snapshot are below 2^62
abbrev pub IsYoung : {basis : Basis} {print : List ℕ → Fp} {flash disk : List ℕ} {s : State} → Stands basis print flash disk s → Type 0
IsYoung stands = (stands.says.reading.epoch < 2 ^ 62) × (stands.says.reading.count < 2 ^ 62)

-- devices that stand for a state, with a snapshot that is young, are opened with it, unless there was no memory or a call failed
abbrev pub Opens : {F : Type 0} → (basis : Basis) → (print : F) → (List ℕ → Fp) → Geometry → Result (StoreOf F) OpenFault → World → State → Type 0
Opens basis print printed geo (Ok opened) new s = (opened.print ≡ print) × (opened.store.journal.geo ≡ geo) × Kept basis printed opened.store new s s
Opens basis print printed geo (Err (Memory e)) new s = ⊤
Opens basis print printed geo (Err FlashRead) new s = ⊤
Opens basis print printed geo (Err FlashWrite) new s = ⊤
Opens basis print printed geo (Err DiskWrite) new s = ⊤
Opens basis print printed geo (Err refused) new s = ⊥

-- a store that was opened, on every rig: it is up, nothing is pending or laid, its numbers are small, and the devices are large enough
pub record IsOpened (store : StoreView) (size : Dev → ℕ) : Type 0 where
  pub up : IsTrue store.is_up
  pub flash : flash_need store.journal.geo ≤ size Flash
  pub disk : disk_need store.journal.geo ≤ size Disk
  pub epoch : store.journal.epoch < 2 ^ 62
  pub count : store.count < 2 ^ 62 + 2 ^ 19
  pub committed : store.count ≡ store.journal.committed
  pub pending : store.pending ≡ []
  pub laid : store.laid ≡ []
  pub dirty : length store.dirty ≤ store.journal.geo.acap

-- a sync failed, of the flash or of the disk
abbrev pub IsUnsynced : {T : Type 0} → Result T OpenFault → Type 0
IsUnsynced (Err FlashWrite) = ⊤
IsUnsynced (Err DiskWrite) = ⊤
IsUnsynced other = ⊥

-- the count that tells of a failed call
abbrev pub OpenFaulted : OpenFault → Counts → Counts → Type 0
OpenFaulted FlashRead before after = Rose before.flash.failed_reads after.flash.failed_reads
OpenFaulted FlashWrite before after = Rose before.flash.failed_writes after.flash.failed_writes
OpenFaulted DiskWrite before after = Rose before.disk.failed_writes after.disk.failed_writes
OpenFaulted other before after = ⊤
