-- What the calls of a store answer, and what they keep.
use Rattle.std.specs.Prelude.{◌≡◌, ◌⊎◌, ℕ, ◌+◌, ◌<◌, ◌≤◌, ◌^◌, Bool, false, List, [], length, Result, Ok, Err, IsTrue, ⊤}
use Rattle.dd_block.specs.declared.print.Fp.{Fp}
use Rattle.dd_block.specs.declared.geometry.Geometry.{Geometry}
use Rattle.dd_block.specs.Geometry.{slot_count}
use Rattle.dd_rig.specs.declared.device.Dev.{Dev}
use Rattle.dd_rig.specs.declared.device.Dev.TheVariants.{Flash, Disk}
use Rattle.dd_rig.specs.declared.tallies.Counts.{Counts}
use Rattle.dd_rig.specs.Clock.{Clock, Elapses}
use Rattle.dd_rig.specs.Counts.{Rose}
use Rattle.dd_rig.specs.World.{World}
use Rattle.dd_slots.specs.declared.usage.Usage.{Usage}
use Rattle.dd_layout.specs.Layout.{flash_need, disk_need}
use Rattle.dd_record.specs.declared.rec.Rec.{Rec}
use Rattle.dd_model.specs.State.{State}
use Rattle.dd_model.specs.Listing.{Listing}
use Rattle.dd_journal.specs.Sitting.{JournalView}
use Rattle.dd_store.specs.declared.fault.StoreFault.{StoreFault}
use Rattle.dd_store.specs.declared.fault.StoreFault.TheVariants.{FlashRead, DiskRead, FlashWrite, DiskWrite}
use Rattle.dd_store.specs.Keeping.{StoreView, Holds, Kept}
use Rattle.dd_store.specs.Committing.{StandForEither, AllStandForEither, committed_store}
use Rattle.dd_store.specs.Laying.{laid_store, marked_store}
use Rattle.dd_store.specs.Meaning.{Basis}

-- when a store may lay and mark: it is up, and the devices are large enough
pub record IsReady (store : StoreView) (size : Dev → ℕ) : Type 0 where
  pub up : IsTrue store.is_up
  pub flash : flash_need store.journal.geo ≤ size Flash
  pub disk : disk_need store.journal.geo ≤ size Disk

-- when a store may be called: it is up, its numbers are small, and the devices are large enough
pub record MayCall (store : StoreView) (size : Dev → ℕ) : Type 0 where
  pub up : IsTrue store.is_up
  pub count : store.count < 2 ^ 63
  pub epoch : store.journal.epoch < 2 ^ 63
  pub flash : flash_need store.journal.geo ≤ size Flash
  pub disk : disk_need store.journal.geo ≤ size Disk

-- a store that is up holds this state, and has committed one of two
pub record GoesOn (basis : Basis) (print : List ℕ → Fp) (c s : State) (store : StoreView) (world : World) (held : State) : Type 0 where
  pub committed : State
  pub either : (committed ≡ c) ⊎ (committed ≡ s)
  pub kept : Kept basis print store world committed held

-- where a call leaves the devices: after Ok the store holds the next state; after a failed read it holds what it held; after a failed
-- write or sync a crash leaves one of the two that it might have left before
abbrev pub Leaves : {T : Type 0} → (basis : Basis) → (List ℕ → Fp) → Result T StoreFault → (c s next : State) → StoreView → World → Type 0
Leaves basis print (Ok answer) c s next store world = GoesOn basis print c s store world next
Leaves basis print (Err FlashRead) c s next store world = GoesOn basis print c s store world s
Leaves basis print (Err DiskRead) c s next store world = GoesOn basis print c s store world s
Leaves basis print (Err FlashWrite) c s next store world = AllStandForEither basis print c s world
Leaves basis print (Err DiskWrite) c s next store world = AllStandForEither basis print c s world

-- A call on a store that holds s and has committed c: a crash within it leaves devices that stand for c or for s, and behind it
-- the store goes on, with the next state after Ok.
pub record Serves {T : Type 0} (basis : Basis) (print : List ℕ → Fp) (result : Result T StoreFault) (before after : Clock) (store : StoreView) (world : World) (c s next : State) : Type 0 where
  pub crash : Elapses before after (λ o. StandForEither basis print c s o.flash o.disk)
  pub leaves : Leaves basis print result c s next store world

-- what the store holds behind a call, whatever is committed: after Ok the next state, and after a failed read what it held
abbrev pub HoldsThen : {T : Type 0} → (List ℕ → Fp) → Result T StoreFault → (s next : State) → StoreView → World → Type 0
HoldsThen print (Ok answer) s next store world = Holds print store world next
HoldsThen print (Err FlashRead) s next store world = Holds print store world s
HoldsThen print (Err DiskRead) s next store world = Holds print store world s
HoldsThen print (Err FlashWrite) s next store world = ⊤
HoldsThen print (Err DiskWrite) s next store world = ⊤

-- on every rig: a call that answers a failed write or sync leaves the store down, and any other one leaves it up
abbrev pub StaysUp : {T : Type 0} → Result T StoreFault → StoreView → Type 0
StaysUp (Ok answer) store = IsTrue store.is_up
StaysUp (Err FlashRead) store = IsTrue store.is_up
StaysUp (Err DiskRead) store = IsTrue store.is_up
StaysUp (Err FlashWrite) store = store.is_up ≡ false
StaysUp (Err DiskWrite) store = store.is_up ≡ false

-- and the count that tells it rose
abbrev pub Faulted : StoreFault → Counts → Counts → Type 0
Faulted FlashRead before after = Rose before.flash.failed_reads after.flash.failed_reads
Faulted DiskRead before after = Rose before.disk.failed_reads after.disk.failed_reads
Faulted FlashWrite before after = Rose before.flash.failed_writes after.flash.failed_writes
Faulted DiskWrite before after = Rose before.disk.failed_writes after.disk.failed_writes

-- laying an address fails by a read of the flash or by its write
abbrev pub IsLayFault : StoreFault → Type 0
IsLayFault FlashRead = ⊤
IsLayFault DiskRead = ⊥
IsLayFault FlashWrite = ⊥
IsLayFault DiskWrite = ⊤

-- whatever it answers: the geometry stays, there is one reference more at most, and the epoch and the number of
-- dirty addresses together rise by 4 at most
pub record GrowsLittle (old new : StoreView) : Type 0 where
  pub same_geo : new.journal.geo ≡ old.journal.geo
  pub count : new.count ≤ old.count + 1
  pub epoch : new.journal.epoch + length new.dirty ≤ old.journal.epoch + length old.dirty + 4

-- what a contract sees of a store with fingerprints of this type
pub record StoreOf (F : Type 0) : Type 0 where
  pub print : F
  pub store : StoreView

-- a store of these parts
abbrev pub store_of : Bool → JournalView → Listing → ℕ → List Rec → List Usage → List ℕ → StoreView
store_of is_up journal lists count pending uses laid = record {
  is_up = is_up;
  journal = journal;
  table = lists.table;
  count = count;
  pending = pending;
  dirty = lists.dirty;
  uses = uses;
  laid = laid;
}

-- lists as long as a geometry says, over its slots
pub record HasLimits (geo : Geometry) (lists : Listing) : Type 0 where
  pub acap : lists.acap ≡ geo.acap
  pub bcap : lists.bcap ≡ geo.bcap
  pub slots : lists.slots ≡ slot_count geo

-- nothing is laid
abbrev pub unlaid : StoreView → StoreView
unlaid store = record store { laid = [] }

-- a store that goes down
abbrev pub downed : StoreView → StoreView
downed store = record store { is_up = false }

-- what a call that lays leaves of the store: laid one more, or laid none, or down
abbrev pub LaysOn : Result Unit StoreFault → ℕ → (old new : StoreView) → Type 0
LaysOn (Ok done) address old new = new ≡ laid_store address old
LaysOn (Err FlashRead) address old new = new ≡ unlaid old
LaysOn (Err DiskRead) address old new = ⊥
LaysOn (Err FlashWrite) address old new = ⊥
LaysOn (Err DiskWrite) address old new = new ≡ downed old

-- a store that committed, laid an address and marked it clean
abbrev pub written_back : ℕ → StoreView → JournalView → StoreView
written_back address store journal = marked_store (laid_store address (committed_store (unlaid store) journal))
