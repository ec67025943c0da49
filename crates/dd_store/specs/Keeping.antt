-- What holds between a store and a rig: the state that the store holds, and the one that is committed.
use Rattle.std.specs.Prelude.{◌≡◌, ◌⊎◌, ℕ, ◌+◌, ◌*◌, ◌<◌, ◌≤◌, ◌==◌, Bool, true, false, List, [], length, Some, IsTrue, slice_get, ⊤}
use Rattle.std.specs.List.{AllByRecursion, IsDistinct}
use Rattle.dd_block.specs.Bytes.{part}
use Rattle.dd_block.specs.declared.print.Fp.{Fp}
use Rattle.dd_block.specs.declared.geometry.Geometry.{Geometry}
use Rattle.dd_block.specs.Geometry.{slot_count}
use Rattle.dd_rig.specs.Device.{IsImage}
use Rattle.dd_rig.specs.World.{World}
use Rattle.dd_slots.specs.declared.usage.Usage.{Usage}
use Rattle.dd_slots.specs.Numbers.{is_among, Enumerates}
use Rattle.dd_slots.specs.Slots.{is_free, is_used}
use Rattle.dd_layout.specs.Layout.{slot_at, disk_block}
use Rattle.dd_record.specs.declared.rec.Rec.{Rec}
use Rattle.dd_record.specs.declared.rec.Rec.TheVariants.{Hit, Link, Store, Zero, Clean}
use Rattle.dd_record.specs.Spelling.{IsRec}
use Rattle.dd_record.specs.Table.{Table, RowsFit, has_slot, is_dirty_at}
use Rattle.dd_record.specs.Replay.{replay, count_after}
use Rattle.dd_model.specs.State.{State, content}
use Rattle.dd_journal.specs.Regions.{AreRows}
use Rattle.dd_journal.specs.Sitting.{JournalView, Sits, IsStablePart}
use Rattle.dd_store.specs.Meaning.{Basis, Means, Stands, dirty_rows}

-- what a contract sees of a store
pub record StoreView : Type 0 where
  pub is_up : Bool
  pub journal : JournalView
  -- the rows of both lists
  pub table : Table
  -- how many references there were
  pub count : ℕ
  -- the records since the last commit, the oldest first
  pub pending : List Rec
  -- the dirty addresses, the one that became dirty longest ago first
  pub dirty : List ℕ
  -- what each slot is used for
  pub uses : List Usage
  -- the addresses that were written to the disk since it was synced, in their order
  pub laid : List ℕ

-- whether a new block may take a slot now
abbrev pub is_spare : ℕ → List Usage → Bool
is_spare slot uses = is_free (slice_get uses slot)

-- whatever a crash leaves now stands for this state
abbrev pub AllStand : Basis → (List ℕ → Fp) → World → State → Type 0
AllStand basis print world s = (flash disk : List ℕ) → IsImage world.flash flash → IsImage world.disk disk → Stands basis print flash disk s

-- over what both devices show, the store's rows and count mean this state, and the disk has the content of each laid address
pub record Holds (print : List ℕ → Fp) (store : StoreView) (world : World) (s : State) : Type 0 where
  pub means : Means print store.journal.geo world.flash.shown world.disk.shown store.table store.count s
  pub laid : (address : ℕ) → is_among address store.laid ≡ true → disk_block store.journal.geo world.disk.shown address ≡ content s.array address

-- the bytes of all slots, as the flash shows them
abbrev pub slots_shown : Geometry → World → List ℕ
slots_shown geo world = part world.flash.shown (slot_at geo 0) (slot_count geo * geo.block)

-- a slot of the flash, and a block of the disk, that no crash changes
abbrev pub IsStableSlot : Geometry → World → ℕ → Type 0
IsStableSlot geo world slot = IsStablePart world.flash (slot_at geo slot) geo.block

abbrev pub IsStableBlock : Geometry → World → ℕ → Type 0
IsStableBlock geo world address = IsStablePart world.disk (address * geo.block) geo.block

-- the epoch keeps pace with the count, behind a commit of what is pending too
abbrev pub StaysInPace : (room : ℕ) → StoreView → Type 0
StaysInPace room store = store.journal.epoch + length store.pending + 2 * dirty_rows store.table.a ≤ 3 * store.count + room

-- The store holds one state, and the devices are sure of another one, the committed one. It holds between any two calls of the rig.
pub record Kept (basis : Basis) (print : List ℕ → Fp) (store : StoreView) (world : World) (committed held : State) : Type 0 where
  pub up : IsTrue store.is_up
  pub pace : StaysInPace basis.room store
  pub holds : Holds print store world held
  pub counted : committed.count ≡ store.journal.committed
  -- whatever a crash leaves stands for the committed state, and the journal sits on the rig with these rows
  pub stands : AllStand basis print world committed
  pub rows : Table
  pub sits : Sits store.journal world rows
  pub fit : RowsFit rows
  -- the pending records lead from there to the store's rows
  pub replayed : replay store.journal.geo.acap store.journal.geo.bcap store.pending rows ≡ Some store.table
  -- a slot of the committed rows is stable, and isn't free
  pub slots_stable : (slot : ℕ) → has_slot slot rows.b ≡ true → IsStableSlot store.journal.geo world slot
  pub slots_kept : (slot : ℕ) → has_slot slot rows.b ≡ true → is_spare slot store.uses ≡ false
  -- a block of the disk is stable whose address isn't dirty in the committed rows, or isn't in the store's
  pub blocks_committed : (address : ℕ) → address < store.journal.geo.blocks → is_dirty_at address rows.a ≡ false → IsStableBlock store.journal.geo world address
  pub blocks_held : (address : ℕ) → address < store.journal.geo.blocks → is_dirty_at address store.table.a ≡ false → IsStableBlock store.journal.geo world address

-- the slot that a record names isn't free
abbrev pub NamesKept : List Usage → Rec → Type 0
NamesKept uses (Hit address) = ⊤
NamesKept uses (Link address slot dirty) = is_spare slot uses ≡ false
NamesKept uses (Store address slot fp dirty) = is_spare slot uses ≡ false
NamesKept uses (Zero address dirty) = ⊤
NamesKept uses (Clean address) = ⊤

-- what the type of a store that is up keeps: it speaks of no rig
pub record IsStore (store : StoreView) : Type 0 where
  pub journal_up : IsTrue store.journal.is_up
  pub version : store.journal.version ≡ 2
  pub rows : AreRows store.journal.geo store.journal.version store.table
  pub fit : RowsFit store.table
  pub few : length store.pending ≤ store.journal.geo.group
  pub records : AllByRecursion (IsRec store.journal.geo store.journal.version) store.pending
  pub counted : store.count ≡ count_after store.journal.committed store.pending
  -- exactly the listed slots are used: each other one of the flash is free, or waits for a commit
  pub sized : length store.uses ≡ slot_count store.journal.geo
  pub used : (slot : ℕ) → is_used (slice_get store.uses slot) ≡ has_slot slot store.table.b
  -- and none that a pending record names is free
  pub named : AllByRecursion (NamesKept store.uses) store.pending
  -- exactly the dirty addresses, each once
  pub dirty : Enumerates (λ address. is_dirty_at address store.table.a) store.dirty
  -- laid addresses are dirty, each once, and nothing is pending while one is laid
  pub laid : (address : ℕ) → is_among address store.laid ≡ true → is_dirty_at address store.table.a ≡ true
  pub laid_once : IsDistinct (λ x y. x == y) store.laid
  pub few_laid : length store.laid ≤ store.journal.geo.group
  pub laid_alone : (store.laid ≡ []) ⊎ (store.pending ≡ [])
