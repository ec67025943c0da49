-- What the parts of an opening answer. These are contracts of private functions: what is to be believed of an opening stands in
-- Opening.
use Rattle.std.specs.Prelude.{◌≡◌, ℕ, ◌+◌, List, length, map, Option, Some, None, Result, Ok, Err, option_map, ⊤}
use Rattle.std.specs.Option.{option_or}
use Rattle.dd_block.specs.declared.print.Fp.{Fp}
use Rattle.dd_block.specs.declared.geometry.Geometry.{Geometry}
use Rattle.dd_rig.specs.World.{World}
use Rattle.dd_layout.specs.Layout.{region_at}
use Rattle.dd_record.specs.declared.rec.Rec.{Rec}
use Rattle.dd_record.specs.Table.{Table, RowsFit}
use Rattle.dd_record.specs.Replay.{replay}
use Rattle.dd_model.specs.State.{State}
use Rattle.dd_model.specs.Listing.{misfit_of}
use Rattle.dd_journal.specs.declared.found.Found.{Found}
use Rattle.dd_journal.specs.declared.found.Placed.{Placed}
use Rattle.dd_journal.specs.Found.{found_table, found_records}
use Rattle.dd_journal.specs.Sitting.{Sits}
use Rattle.dd_store.specs.Keeping.{StoreView}
use Rattle.dd_store.specs.Meaning.{HasBehind, Basis, KeepsPace, Means}
use Rattle.dd_recover.specs.declared.opening_fault.OpenFault.{OpenFault}
use Rattle.dd_recover.specs.declared.opening_fault.OpenFault.TheVariants.{Memory, FlashRead, FlashWrite, DiskWrite, Snapshot, Group}
use Rattle.dd_recover.specs.Opening.{misfit_at, first_unfit, version_fault}

-- An answer is this fault, or there is none; want of memory and failed calls tell nothing of the devices.
abbrev pub Tells : {T : Type 0} → Result T OpenFault → Option OpenFault → Type 0
Tells (Ok value) fault = fault ≡ None
Tells (Err (Memory e)) fault = ⊤
Tells (Err FlashRead) fault = ⊤
Tells (Err FlashWrite) fault = ⊤
Tells (Err DiskWrite) fault = ⊤
Tells (Err refused) fault = fault ≡ Some refused

-- a call failed
abbrev pub IsCallFault : {T : Type 0} → Result T OpenFault → Type 0
IsCallFault (Err FlashRead) = ⊤
IsCallFault (Err FlashWrite) = ⊤
IsCallFault (Err DiskWrite) = ⊤
IsCallFault other = ⊥

-- the first row of a region that doesn't fit those before it
abbrev pub rows_refused : Geometry → ℕ → Table → Option OpenFault
rows_refused geo region table = option_map (λ misfit. Snapshot region (region_at geo region + misfit_at (length table.b) misfit)) (misfit_of table)

-- the first record of a region that doesn't fit the rows behind those before it
abbrev pub records_refused : (acap bcap region : ℕ) → List Placed → Table → Option OpenFault
records_refused acap bcap region recs table = option_map (λ at. Group region at) (first_unfit acap bcap recs table)

-- what a region is refused for that has these rows and records
abbrev pub refused_by : Geometry → (region version : ℕ) → Table → List Placed → Option OpenFault
refused_by geo region version table recs =
    option_or (rows_refused geo region table) (option_or (records_refused geo.acap geo.bcap region recs table) (version_fault version))

-- what is refused of what was found
abbrev pub found_fault : Geometry → Found → Option OpenFault
found_fault geo found = refused_by geo found.region found.head.version (found_table found) found.recs.items

-- the records of a list, without their places
abbrev pub recs_of : List Placed → List Rec
recs_of recs = map (λ placed. placed.rec) recs

-- the journal that was found sits on the rig and keeps pace, behind the slots and the array lies what the basis has, and by the rows behind its records both devices mean this state
pub record FoundMeans (basis : Basis) (print : List ℕ → Fp) (geo : Geometry) (found : Found) (world : World) (s : State) : Type 0 where
  pub rows : Table
  pub replayed : replay geo.acap geo.bcap (found_records found) (found_table found) ≡ Some rows
  pub sits : Sits found.journal world rows
  pub pace : KeepsPace basis.room found.journal.epoch rows.a found.journal.committed
  pub behind : HasBehind basis geo world.flash.shown world.disk.shown
  pub means : Means print geo world.flash.shown world.disk.shown rows found.journal.committed s

-- a store has the journal that was found, and the rows behind its records
pub record HasFound (geo : Geometry) (found : Found) (store : StoreView) : Type 0 where
  pub journal : store.journal ≡ found.journal
  pub version : found.head.version ≡ 2
  pub counted : store.count ≡ found.journal.committed
  pub fit : RowsFit (found_table found)
  pub replayed : replay geo.acap geo.bcap (found_records found) (found_table found) ≡ Some store.table
