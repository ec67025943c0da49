-- What a format and an opening cost, why they fail, and what they leave: the words that the contracts of both calls share.
use Rattle.std.specs.Prelude.{◌≡◌, ◌+◌, ℕ, List, Result, Err, IfErr}
use Rattle.dd_block.specs.declared.print.Fp.{Fp}
use Rattle.dd_block.specs.declared.geometry.Geometry.{Geometry}
use Rattle.dd_rig.specs.declared.device.Dev.{Dev}
use Rattle.dd_rig.specs.declared.device.Dev.TheVariants.{Flash, Disk}
use Rattle.dd_rig.specs.declared.tallies.Counts.{Counts}
use Rattle.dd_rig.specs.Counts.{Frame, Makes, Rose, up_to, nothing}
use Rattle.dd_rig.specs.Device.{IsImage}
use Rattle.dd_rig.specs.Leaves.{SameOutside}
use Rattle.dd_rig.specs.World.{World, IsOwn, shown}
use Rattle.dd_model.specs.State.{State}
use Rattle.dd_journal.specs.Regions.{Says}
use Rattle.dd_journal.specs.Sitting.{IsStable, Sits, regions_size}
use Rattle.dd_store.specs.Keeping.{StoreView, Kept}
use Rattle.dd_store.specs.Meaning.{Basis, Stands}
use Rattle.dd_recover.specs.declared.fault.FormatFault.{FormatFault}
use Rattle.dd_recover.specs.declared.fault.FormatFault.TheVariants as format_fault_is
use Rattle.dd_recover.specs.declared.opening_fault.OpenFault.{OpenFault}
use Rattle.dd_recover.specs.declared.opening_fault.OpenFault.TheVariants as open_fault_is
use Rattle.dd_recover.specs.Formatting.{IsEarly}
use Rattle.dd_recover.specs.Opening.{IsUnsynced}

-- it fails where the count that tells so rose; no count falls, and each device has its size
abbrev pub FailsBy : {T E : Type 0} → (E → Counts → Counts → Type 0) → Result T E → Counts → Counts → (size size_after : Dev → ℕ) → Type 0
FailsBy faulted result before after size size_after = IfErr result (λ fault. faulted fault before after) × Frame before after size size_after

-- What a format costs: a read of the flash, a sync of each device, and four writes and two syncs of the flash behind them.
pub record CostsOfFormat (result : Result Unit FormatFault) (before after : Counts) : Type 0 where
  pub calls : Makes (up_to 1 7 99) (up_to 0 1 0) before after
  -- a refusal comes before any write, and so does a failed read
  pub early : IsEarly result → Makes (up_to 1 0 0) nothing before after
  -- where the disk's sync failed, the flash was synced before, and nothing was written
  pub order : result ≡ Err format_fault_is.DiskWrite → Rose before.flash.writes after.flash.writes
  pub unwritten : result ≡ Err format_fault_is.DiskWrite → Makes (up_to 1 1 0) (up_to 0 1 0) before after

-- What a format leaves, whatever it answers: the flash shows what it showed but for the superblock and both regions, the disk shows what it
-- showed, and nothing was said.
pub record LeavesOfFormat (geo : Geometry) (result : Result Unit FormatFault) (old new : World) : Type 0 where
  pub outside : SameOutside 0 (64 + regions_size geo) (shown Flash old) (shown Flash new)
  pub disk : shown Disk new ≡ shown Disk old
  pub said : new.said ≡ old.said
  -- a refusal and a failed read leave all as it was; where the disk's sync failed, the flash shows what it showed
  pub early : IsEarly result → new ≡ old
  pub unwritten : result ≡ Err format_fault_is.DiskWrite → shown Flash new ≡ shown Flash old

-- What the store of an Ok holds: the rows and the count that the flash says, whether or not the blocks agree with them, with a journal that
-- sits on the rig; and where the devices stand for a state, that state, which it has committed.
pub record HoldsShown (print : List ℕ → Fp) (store : StoreView) (old new : World) : Type 0 where
  pub says : Says (shown Flash old) store.journal.geo 2 store.table store.count
  pub sits : Sits store.journal new store.table
  pub kept : (basis : Basis) (s : State) (stands : Stands basis print (shown Flash old) (shown Disk old) s) → (store.journal.geo ≡ stands.geo) × Kept basis print store new s s

-- What an opening costs: a sync of each device, and four reads of the flash behind them. It writes nothing.
pub record CostsOfOpening {T : Type 0} (result : Result T OpenFault) (before after : Counts) : Type 0 where
  pub calls : Makes (up_to 4 1 0) (up_to 0 1 0) before after
  -- where a sync failed nothing was read; where it is the disk's, the flash was synced before
  pub unsynced : IsUnsynced result → Makes (up_to 0 1 0) (up_to 0 1 0) before after
  pub order : result ≡ Err open_fault_is.DiskWrite → Rose before.flash.writes after.flash.writes

-- What an opening leaves, whatever it answers: both devices show what they showed, nothing was said, and a crash leaves what a crash before
-- might have left.
pub record LeavesOfOpening {T : Type 0} (result : Result T OpenFault) (old new : World) : Type 0 where
  pub shows : (device : Dev) → shown device new ≡ shown device old
  pub said : new.said ≡ old.said
  pub own : (flash disk : List ℕ) → IsImage new.flash flash → IsImage new.disk disk → IsOwn old flash disk
  -- but where a sync failed, both devices are stable
  pub stable : (IsUnsynced result → ⊥) → IsStable new.flash × IsStable new.disk
