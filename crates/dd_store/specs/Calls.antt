-- What each call of a store keeps, and what it costs: the words that the contracts of its calls share.
use Rattle.std.specs.Prelude.{◌≡◌, ◌≢◌, ◌<◌, ◌≤◌, ◌*◌, ℕ, Bool, List, [], ◌∷◌, length, true, false, Option, None, Result, IfOk, IfErr, IfSome, OnOk, if◌then◌else◌}
use Rattle.dd_block.specs.declared.print.Fp.{Fp}
use Rattle.dd_rig.specs.declared.device.Dev.{Dev}
use Rattle.dd_rig.specs.declared.tallies.Counts.{Counts}
use Rattle.dd_rig.specs.Clock.{Clock, Elapses}
use Rattle.dd_rig.specs.Counts.{CalledAtMost, Frame, Makes, Rose, up_to, nothing}
use Rattle.dd_rig.specs.World.{World}
use Rattle.dd_record.specs.Table.{is_link, link_at}
use Rattle.dd_model.specs.declared.done.Done.{Done}
use Rattle.dd_model.specs.declared.given.Want.TheVariants.{Fresh}
use Rattle.dd_model.specs.declared.kind.Kind.TheVariants.{Hit}
use Rattle.dd_model.specs.Confirming.{candidates}
use Rattle.dd_model.specs.Listing.{next_of}
use Rattle.dd_model.specs.State.{is_zero_block}
use Rattle.dd_journal.specs.Calls.{CostsOfCommit}
use Rattle.dd_store.specs.declared.fault.StoreFault.{StoreFault}
use Rattle.dd_store.specs.declared.fault.StoreFault.TheVariants.{FlashRead, DiskRead}
use Rattle.dd_store.specs.Keeping.{StoreView}
use Rattle.dd_store.specs.Rounds.{Cleans, HasRoom, LoadsAtMost}
use Rattle.dd_store.specs.Bringing.{IsPrepared, References, HitCalls, IsCalm, want_for, saves, fetches, IsReadFault}
use Rattle.dd_store.specs.Serving.{StoreOf, StaysUp, Faulted, GrowsLittle}

-- nothing is said: not behind the call, and a crash within it leaves the output as it was
abbrev pub IsSilent : Clock → Clock → World → World → Type 0
IsSilent before after old new = Elapses before after (λ o. o.out ≡ old.said) × (new.said ≡ old.said)

-- whatever it answers: it is down behind a failed write or sync and else up, has the same fingerprints, and nothing is laid
pub record Rests {T F : Type 0} (result : Result T StoreFault) (old new : StoreOf F) : Type 0 where
  pub up : StaysUp result new.store
  pub print : new.print ≡ old.print
  pub forgets : new.store.laid ≡ []

-- it fails where the count that tells so rose; no count falls, and each device has its size
abbrev pub FailsBy : {T : Type 0} → Result T StoreFault → Counts → Counts → (size size_after : Dev → ℕ) → Type 0
FailsBy result before after size size_after = IfErr result (λ fault. Faulted fault before after) × Frame before after size size_after

-- it doesn't read the disk, and so never fails by that
abbrev pub IsNoFetch : {T : Type 0} → Result T StoreFault → Counts → Counts → Type 0
IsNoFetch result before after = IfErr result (λ fault. fault ≢ DiskRead) × (after.disk.reads ≤ before.disk.reads)

-- What a reference leaves of the rows: behind an Ok it was made; behind a failed read all is as it was, but that dirty addresses may be
-- clean.
pub record LeavesRows (address : ℕ) (dirty : Bool) (result : Result Done StoreFault) (old new : StoreView) : Type 0 where
  pub made : IfOk result (References address dirty old new)
  pub failed : IfErr result (λ fault. IsReadFault fault → Cleans old new)
  pub grows : GrowsLittle old new

-- What a write-back leaves of the rows: dirty addresses are clean, behind a failed read too; no reference is made.
pub record CleansBy {T : Type 0} (result : Result T StoreFault) (old new : StoreView) : Type 0 where
  pub cleaned : OnOk result (Cleans old new)
  pub failed : IfErr result (λ fault. fault ≡ FlashRead → Cleans old new)
  pub count : new.count ≡ old.count
  pub grows : GrowsLittle old new

-- it takes the address that became dirty longest ago, if there is one, and the others stay in their order
abbrev pub TakesOldest : Result (Option ℕ) StoreFault → (old new : StoreView) → Type 0
TakesOldest result old new = IfOk result (λ done. (done ≡ next_of None old.dirty) × IfSome done (λ address. old.dirty ≡ address ∷ new.dirty))

-- What a read costs.
pub record CostsOfRead (print : List ℕ → Fp) (address : ℕ) (result : Result Done StoreFault) (block : List ℕ) (old new : StoreView) (before after : Counts) : Type 0 where
  -- a linked address calls no disk; with room for its record it makes one read of its slot, or none where it is zeros
  pub hit : is_link (link_at address old.table.a) ≡ true → CalledAtMost nothing before.disk after.disk
  pub hit_calls : length old.pending < old.journal.geo.group → HitCalls (link_at address old.table.a) result before after
  pub hit_reads : IfOk result (λ done. done.kind ≡ Hit → is_zero_block block ≡ false → Rose before.flash.reads after.flash.reads)
  -- a reference that may be made at once writes a slot at most, and reads the slots of its fingerprint and one block of the disk
  pub little : IfOk result (λ done. IsPrepared address (want_for done.kind) old → is_link (link_at address old.table.a) ≡ false
      → Makes (up_to (candidates (print block) old.table.b) (saves done.kind) (saves done.kind * old.journal.geo.block)) (up_to 1 0 0) before after)
  -- where nothing dirty falls off it makes one read of the disk at most, and none for a hit
  pub disk : IfOk result (λ done. HasRoom address (want_for done.kind) old → CalledAtMost (up_to 1 0 0) before.disk after.disk)
  pub calm : IfOk result (λ done. IsCalm done.cut → CalledAtMost (up_to (fetches done.kind) 0 0) before.disk after.disk)
  pub idle : HasRoom address Fresh old → CalledAtMost (up_to 1 0 0) before.disk after.disk
  -- it raises the load of the disk by 1 at most, and by nothing where the address is linked
  pub loads : OnOk result (LoadsAtMost (if is_link (link_at address old.table.a) then 0 else 1) old new before.disk after.disk)

-- What a write costs.
pub record CostsOfWrite (print : List ℕ → Fp) (address : ℕ) (result : Result Done StoreFault) (block : List ℕ) (old new : StoreView) (before after : Counts) : Type 0 where
  -- a reference that may be made at once writes a slot at most, reads the slots of its fingerprint, and calls no disk
  pub little : IfOk result (λ done. IsPrepared address (want_for done.kind) old
      → Makes (up_to (candidates (print block) old.table.b) (saves done.kind) (saves done.kind * old.journal.geo.block)) nothing before after)
  -- where nothing dirty falls off it calls no disk
  pub disk : IfOk result (λ done. HasRoom address (want_for done.kind) old → CalledAtMost nothing before.disk after.disk)
  pub calm : IfOk result (λ done. IsCalm done.cut → CalledAtMost nothing before.disk after.disk)
  pub idle : HasRoom address Fresh old → CalledAtMost nothing before.disk after.disk
  -- it raises the load of the disk by 2 at most
  pub loads : OnOk result (LoadsAtMost 2 old new before.disk after.disk)

-- What a commit costs: that of the journal's, for the pending records and the rows.
abbrev pub CostsOfFlush : (old : StoreView) (before after : Counts) → Type 0
CostsOfFlush old before after = CostsOfCommit old.journal (length old.pending) old.table before after
