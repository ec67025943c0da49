-- What a store holds, whatever is committed, behind a commit and behind a write of the disk.
use Rattle.std.proofs.Common.{◌≡◌, inr, ⊎_elim, ℕ, ◌+◌, ◌*◌, ◌≤◌, true, List, length, sym, ◌∙◌, ap, subst, arith}
use Rattle.std.specs.Prelude.{Result, Ok, Err, OnOk}
use Rattle.dd_block.specs.Bytes.{part}
use Rattle.dd_block.specs.declared.print.Fp.{Fp}
use Rattle.dd_block.specs.declared.geometry.Geometry.{Geometry}
use Rattle.dd_layout.specs.Layout.{region_at, slot_at, disk_block, disk_need}
use Rattle.dd_rig.specs.declared.device.Dev.TheVariants.{Flash, Disk}
use Rattle.dd_rig.specs.Device.{Device, IsImage, overwrite, write_bytes}
use Rattle.dd_rig.specs.World.{World, ShowsSome, on_device}
use Rattle.dd_rig.specs.Leaves.{LeavesShown}
use Rattle.dd_slots.specs.Numbers.{is_among}
use Rattle.dd_model.specs.State.{State, content}
use Rattle.dd_journal.specs.Sitting.{JournalView, regions_size}
use Rattle.dd_store.specs.declared.fault.StoreFault.{StoreFault}
use Rattle.dd_store.specs.declared.fault.StoreFault.TheVariants.{FlashRead, DiskRead, FlashWrite, DiskWrite}
use Rattle.dd_store.specs.Meaning.{Means}
use Rattle.dd_store.specs.Keeping.{StoreView, IsStore, Holds}
use Rattle.dd_store.specs.Committing.{committed_store}
use Rattle.dd_store.specs.Laying.{MayLay, laid_store}
use Rattle.dd_store.specs.Serving.{HoldsThen, unlaid}
use Rattle.dd_store.proofs.Agreeing.{means_same}
use Rattle.dd_store.proofs.Altering.{Alters, alters_disk, written_there}
use Rattle.dd_store.proofs.Laying.{block_stays, lay_means, among_more}
use Rattle.dd_store.proofs.Parts.{part_outside, regions_before, block_within}

-- what holds in any case
pub on_ok : {T E : Type 0} {P : Type 0} (result : Result T E) → P → OnOk result P
on_ok (Ok value) p = p
on_ok (Err e) p = tt

-- what is laid may be forgotten
pub holds_unlaid : (print : List ℕ → Fp) (store : StoreView) (world : World) (s : State) → Holds print store world s → Holds print (unlaid store) world s
holds_unlaid print store world s holds = record { means = holds.means; laid = λ address never. absurd (cc never) }

-- behind a commit
module _ (print : List ℕ → Fp) (store : StoreView) (old new : World) (flash_shows : IsImage old.flash old.flash.shown) (flash_now : IsImage new.flash new.flash.shown) (same_size : length new.flash.stable ≡ length old.flash.stable)
    (s : State) (is : IsStore store) (journal : JournalView) (same_geo : journal.geo ≡ store.journal.geo) (leaves : LeavesShown Flash (region_at store.journal.geo 0) (regions_size store.journal.geo) old new) where
  means_now : Means print store.journal.geo old.flash.shown old.disk.shown store.table store.count s → Means print store.journal.geo new.flash.shown new.disk.shown store.table store.count s
  means_now means = means_same store.journal.geo old.flash.shown old.disk.shown new.flash.shown new.disk.shown print store.table store.count s is.fit
      (record {
        slots = λ slot listed. part_outside (region_at store.journal.geo 0) (regions_size store.journal.geo) (slot_at store.journal.geo slot) store.journal.geo.block old.flash.shown new.flash.shown
            (flash_shows.same_length ∙ sym same_size ∙ sym flash_now.same_length) leaves.same_shown (inr (regions_before store.journal.geo slot));
        blocks = λ address below clean. ap (λ (d : Device). disk_block store.journal.geo d.shown address) leaves.same_other;
      })
      means

  pub holds_committed : Holds print store old s → Holds print (committed_store store journal) new s
  holds_committed holds = record {
    means = subst (λ (g : Geometry). Means print g new.flash.shown new.disk.shown store.table store.count s) (sym same_geo) (means_now holds.means);
    laid = λ address laid. subst (λ (g : Geometry). disk_block g new.disk.shown address ≡ content s.array address) (sym same_geo)
        (ap (λ (d : Device). disk_block store.journal.geo d.shown address) leaves.same_other ∙ holds.laid address laid);
  }

-- behind a write of the block of a dirty address, by the geometry, the place and the size that a call was given
module _ (print : List ℕ → Fp) (store : StoreView) (old new : World) (disk_shows : IsImage old.disk old.disk.shown) (geo : Geometry) (same : store.journal.geo ≡ geo) (sized : disk_need geo ≤ length old.disk.stable)
    (s : State) (is : IsStore store) (holds : Holds print store old s) (address : ℕ) (may : MayLay store address) (at n : ℕ) (at_is : at ≡ address * geo.block) (n_is : n ≡ geo.block) (shows_some : ShowsSome Disk at n old new) where
  by_call : (P : ℕ → ℕ → Type 0) → P at n → P (address * store.journal.geo.block) store.journal.geo.block
  by_call P h = subst (λ (g : Geometry). P (address * g.block) g.block) (sym same) (subst (λ k. P (address * geo.block) k) n_is (subst (λ p. P p n) at_is h))

  some : ShowsSome Disk (address * store.journal.geo.block) store.journal.geo.block old new
  some = by_call (λ p k. ShowsSome Disk p k old new) shows_some

  alters : Alters (address * store.journal.geo.block) store.journal.geo.block old.disk new.disk
  alters = (alters_disk (address * store.journal.geo.block) store.journal.geo.block old new some).0

  same_flash : new.flash ≡ old.flash
  same_flash = (alters_disk (address * store.journal.geo.block) store.journal.geo.block old new some).1

  fits : address * store.journal.geo.block + store.journal.geo.block ≤ length old.disk.stable
  fits = omega (arith, block_within store.journal.geo address may.below, subst (λ (g : Geometry). disk_need g ≤ length old.disk.stable) (sym same) sized)

  stays : (laid : ℕ) → is_among laid store.laid ≡ true → disk_block store.journal.geo new.disk.shown laid ≡ content s.array laid
  stays laid there =
      block_stays print store.journal old new address alters same_flash fits laid (λ e. absurd (cc (there, may.unlaid, ap (λ m. is_among m store.laid) e))) ∙ holds.laid laid there

  -- whatever was written there
  pub holds_laying : Holds print store new s
  holds_laying = record { means = lay_means print store.journal old new address alters same_flash fits store.table store.count s is.fit may.dirty holds.means; laid = stays }

  -- and where it is the content
  pub holds_laid : (bytes : List ℕ) → length bytes ≡ n → bytes ≡ content s.array address → new ≡ on_device Disk (write_bytes at bytes) old → Holds print (laid_store address store) new s
  holds_laid bytes long content_is wrote_at =
      let wrote : new ≡ on_device Disk (write_bytes (address * store.journal.geo.block) bytes) old = by_call (λ p k. new ≡ on_device Disk (write_bytes p bytes) old) wrote_at in
      let size : length bytes ≡ store.journal.geo.block = by_call (λ p k. length bytes ≡ k) long in
      let there : part (overwrite (address * store.journal.geo.block) bytes old.disk.shown) (address * store.journal.geo.block) (length bytes) ≡ bytes =
      written_there (address * store.journal.geo.block) bytes old.disk.shown (omega (arith, size, fits, disk_shows.same_length)) in
      let shown : disk_block store.journal.geo new.disk.shown address ≡ content s.array address =
      ap (λ (w : World). disk_block store.journal.geo w.disk.shown address) wrote
      ∙ ap (λ k. part (overwrite (address * store.journal.geo.block) bytes old.disk.shown) (address * store.journal.geo.block) k) (sym size) ∙ there ∙ content_is in
      record {
        means = holds_laying.means;
        laid = λ laid among. ⊎_elim (λ e. subst (λ m. disk_block store.journal.geo new.disk.shown m ≡ content s.array m) e shown) (λ was. stays laid was) (among_more laid address store.laid among);
      }

-- calls one after the other, of which the second one speaks of an equal print
pub holds_next : {T : Type 0} (print later : List ℕ → Fp) → later ≡ print → (between store : StoreView) (before after : World) (s next : State) (result : Result T StoreFault)
    → Holds print between before s → (Holds later between before s → HoldsThen {T = T} later result s next store after) → HoldsThen {T = T} print result s next store after
holds_next {T} print later same between store before after s next result held call =
    subst (λ (p : List ℕ → Fp). HoldsThen {T = T} p result s next store after) same (call (subst (λ (p : List ℕ → Fp). Holds p between before s) (sym same) held))

-- the value of an Ok, and of an error, of another type
pub holds_err : (T U : Type 0) (print : List ℕ → Fp) (fault : StoreFault) (s next : State) (store : StoreView) (world : World) → HoldsThen {T = T} print (Err fault) s next store world → HoldsThen {T = U} print (Err fault) s next store world
holds_err T U print FlashRead s next store world h = h
holds_err T U print DiskRead s next store world h = h
holds_err T U print FlashWrite s next store world h = h
holds_err T U print DiskWrite s next store world h = h

-- where the fault is known
pub holds_read_failed : (T : Type 0) (print : List ℕ → Fp) (fault : StoreFault) → fault ≡ FlashRead → (s next : State) (store : StoreView) (world : World) → Holds print store world s → HoldsThen {T = T} print (Err fault) s next store world
holds_read_failed T print fault is s next store world holds = subst (λ (f : StoreFault). HoldsThen {T = T} print (Err f) s next store world) (sym is) holds

pub holds_write_failed : (T : Type 0) (print : List ℕ → Fp) (fault : StoreFault) → fault ≡ DiskWrite → (s next : State) (store : StoreView) (world : World) → HoldsThen {T = T} print (Err fault) s next store world
holds_write_failed T print fault is s next store world = subst (λ (f : StoreFault). HoldsThen {T = T} print (Err f) s next store world) (sym is) tt

-- where what is laid is forgotten, and no call is made
pub holds_forgotten : (print : List ℕ → Fp) (store now : StoreView) (world : World) (s : State) → now ≡ unlaid store → Holds print store world s → Holds print now world s
holds_forgotten print store now world s is holds = subst (λ (v : StoreView). Holds print v world s) (sym is) (holds_unlaid print store world s holds)

-- a fault says nothing of the next state
pub holds_fault : (T U : Type 0) (print : List ℕ → Fp) (fault : StoreFault) (s next other : State) (store : StoreView) (world : World) → HoldsThen {T = T} print (Err fault) s next store world → HoldsThen {T = U} print (Err fault) s other store world
holds_fault T U print FlashRead s next other store world h = h
holds_fault T U print DiskRead s next other store world h = h
holds_fault T U print FlashWrite s next other store world h = h
holds_fault T U print DiskWrite s next other store world h = h

-- a write of the flash that failed
pub holds_down : (T : Type 0) (print : List ℕ → Fp) (fault : StoreFault) → fault ≡ FlashWrite → (s next : State) (store : StoreView) (world : World) → HoldsThen {T = T} print (Err fault) s next store world
holds_down T print fault is s next store world = subst (λ (f : StoreFault). HoldsThen {T = T} print (Err f) s next store world) (sym is) tt

-- a read of the disk that failed
pub holds_disk_failed : (T : Type 0) (print : List ℕ → Fp) (fault : StoreFault) → fault ≡ DiskRead → (s next : State) (store : StoreView) (world : World) → Holds print store world s → HoldsThen {T = T} print (Err fault) s next store world
holds_disk_failed T print fault is s next store world holds = subst (λ (f : StoreFault). HoldsThen {T = T} print (Err f) s next store world) (sym is) holds

-- behind a read a store holds what it held, with nothing laid
pub holds_behind : (print : List ℕ → Fp) (old new : StoreView) (before after : World) (s : State) → new ≡ unlaid old → after ≡ before → Holds print old before s → Holds print new after s
holds_behind print old new before after s is same holds =
    subst (λ (v : StoreView). Holds print v after s) (sym is) (subst (λ (w : World). Holds print (unlaid old) w s) (sym same) (holds_unlaid print old before s holds))
