-- Calls of a store one after the other.
use Rattle.std.proofs.Common.{◌≡◌, ◌⊎◌, inl, inr, ⊎_elim, List, ℕ, refl, sym, ◌∙◌, subst}
use Rattle.std.specs.Prelude.{Result, Ok, Err, OnOk}
use Rattle.dd_block.specs.declared.print.Fp.{Fp}
use Rattle.dd_rig.specs.Clock.{Clock, Elapses}
use Rattle.dd_rig.specs.World.{World}
use Rattle.dd_rig.proofs.Moments.{starts, goes_on}
use Rattle.dd_model.specs.State.{State}
use Rattle.dd_store.specs.declared.fault.StoreFault.{StoreFault}
use Rattle.dd_store.specs.declared.fault.StoreFault.TheVariants.{FlashRead, DiskRead, FlashWrite, DiskWrite}
use Rattle.dd_store.specs.Meaning.{Basis, Stands}
use Rattle.dd_store.specs.Keeping.{StoreView, Kept}
use Rattle.dd_store.specs.Committing.{StandForEither}
use Rattle.dd_store.specs.Serving.{GoesOn, Leaves, Serves, unlaid}
use Rattle.dd_store.proofs.Flushing.{kept_unlaid}

module _ (basis : Basis) (print : List ℕ → Fp) (k c s : State) (one_of : (k ≡ c) ⊎ (k ≡ s)) where
  -- what stands for one of two states, of which the first is one of two others
  either_wider : (flash disk : List ℕ) → StandForEither basis print k s flash disk → StandForEither basis print c s flash disk
  either_wider flash disk (inl stands) = ⊎_elim (λ is. inl (subst (Stands basis print flash disk) is stands)) (λ is. inr (subst (Stands basis print flash disk) is stands)) one_of
  either_wider flash disk (inr stands) = inr stands

  goes_on_wider : (store : StoreView) (world : World) (held : State) → GoesOn basis print k s store world held → GoesOn basis print c s store world held
  goes_on_wider store world held goes = record {
    committed = goes.committed;
    either = ⊎_elim (λ is. ⊎_elim (λ was. inl (is ∙ was)) (λ was. inr (is ∙ was)) one_of) (λ is. inr is) goes.either;
    kept = goes.kept;
  }

  leaves_wider : {T : Type 0} (result : Result T StoreFault) (next : State) (store : StoreView) (world : World) → Leaves basis print result k s next store world → Leaves basis print result c s next store world
  leaves_wider (Ok value) next store world leaves = goes_on_wider store world next leaves
  leaves_wider (Err FlashRead) next store world leaves = goes_on_wider store world s leaves
  leaves_wider (Err DiskRead) next store world leaves = goes_on_wider store world s leaves
  leaves_wider (Err FlashWrite) next store world leaves = λ flash disk flash_image disk_image. either_wider flash disk (leaves flash disk flash_image disk_image)
  leaves_wider (Err DiskWrite) next store world leaves = λ flash disk flash_image disk_image. either_wider flash disk (leaves flash disk flash_image disk_image)

-- a call that kept the state, and another one behind it: together they serve as the second does
pub serves_then : {T : Type 0} (basis : Basis) (print : List ℕ → Fp) (first middle last : Clock) (between store : StoreView) (before after : World) (c s next : State) (result : Result T StoreFault)
    → Elapses first middle (λ o. StandForEither basis print c s o.flash o.disk) → GoesOn basis print c s between before s
    → ((k : State) → Kept basis print between before k s → Serves basis print result middle last store after k s next) → Serves basis print result first last store after c s next
serves_then basis print first middle last between store before after c s next result crash goes call =
    let after_it = call goes.committed goes.kept in
    record {
      crash = goes_on crash after_it.crash (λ o stands. either_wider basis print goes.committed c s goes.either o.flash o.disk stands);
      leaves = leaves_wider basis print goes.committed c s goes.either result next store after after_it.leaves;
    }

-- behind an Ok a store goes on
pub on_leaves : {T : Type 0} (basis : Basis) (print : List ℕ → Fp) (result : Result T StoreFault) (c s next : State) (store : StoreView) (world : World) → Leaves basis print result c s next store world → OnOk result (GoesOn basis print c s store world next)
on_leaves basis print (Ok value) c s next store world leaves = leaves
on_leaves basis print (Err fault) c s next store world leaves = tt

-- where its state was committed, it still is
pub kept_sure : {T E : Type 0} (basis : Basis) (print : List ℕ → Fp) (result : Result T E) (store : StoreView) (world : World) (s : State) → OnOk result (GoesOn basis print s s store world s) → OnOk result (Kept basis print store world s s)
kept_sure basis print (Ok value) store world s goes = subst (λ (c : State). Kept basis print store world c s) (⊎_elim (λ is. is) (λ is. is) goes.either) goes.kept
kept_sure basis print (Err fault) store world s goes = tt

-- the value of an Ok, and of an error, of another type
pub serves_ok : {T U : Type 0} (basis : Basis) (print : List ℕ → Fp) (first last : Clock) (store : StoreView) (world : World) (c s next : State) (value : T) (other : U)
    → Serves basis print (Ok value) first last store world c s next → Serves basis print (Ok other) first last store world c s next
serves_ok basis print first last store world c s next value other serves = record { crash = serves.crash; leaves = serves.leaves }

pub serves_err : (basis : Basis) (T U : Type 0) (print : List ℕ → Fp) (first last : Clock) (store : StoreView) (world : World) (c s next : State) (fault : StoreFault)
    → Serves {T = T} basis print (Err fault) first last store world c s next → Serves {T = U} basis print (Err fault) first last store world c s next
serves_err basis T U print first last store world c s next fault serves = record { crash = serves.crash; leaves = by_fault fault serves.leaves }
  where
    by_fault : (f : StoreFault) → Leaves {T = T} basis print (Err f) c s next store world → Leaves {T = U} basis print (Err f) c s next store world
    by_fault FlashRead h = h
    by_fault DiskRead h = h
    by_fault FlashWrite h = h
    by_fault DiskWrite h = h

-- a store that is down isn't spoken of
pub serves_down : {T : Type 0} (basis : Basis) (print : List ℕ → Fp) (first last : Clock) (store other : StoreView) (world : World) (c s next : State) (fault : StoreFault) → fault ≡ DiskWrite
    → Serves {T = T} basis print (Err fault) first last store world c s next → Serves {T = T} basis print (Err fault) first last other world c s next
serves_down {T} basis print first last store other world c s next fault is serves =
    let as_disk : Serves {T = T} basis print (Err DiskWrite) first last store world c s next = subst (λ (f : StoreFault). Serves {T = T} basis print (Err f) first last store world c s next) is serves in
    subst (λ (f : StoreFault). Serves {T = T} basis print (Err f) first last other world c s next) (sym is) (record { crash = as_disk.crash; leaves = as_disk.leaves })

-- the same, where the second one speaks of an equal print
pub serves_next : {T U : Type 0} (basis : Basis) (print later : List ℕ → Fp) → later ≡ print → (first middle last : Clock) (between store : StoreView) (before after : World) (c s next : State) (value : T) (result : Result U StoreFault)
    → Serves {T = T} basis print (Ok value) first middle between before c s s
    → ((k : State) → Kept basis later between before k s → Serves {T = U} basis later result middle last store after k s next) → Serves {T = U} basis print result first last store after c s next
serves_next {U = U} basis print later same first middle last between store before after c s next value result so_far call =
    serves_then basis print first middle last between store before after c s next result so_far.crash so_far.leaves
    (λ k kept. subst (λ (p : List ℕ → Fp). Serves {T = U} basis p result middle last store after k s next) same (call k (subst (λ (p : List ℕ → Fp). Kept basis p between before k s) (sym same) kept)))

-- where what is laid is forgotten, and no call is made
pub unlaid_serves : {T : Type 0} (basis : Basis) (print : List ℕ → Fp) (clock : Clock) (store now : StoreView) (world : World) (c s : State) (value : T) → now ≡ unlaid store → Kept basis print store world c s → Serves {T = T} basis print (Ok value) clock clock now world c s s
unlaid_serves {T} basis print clock store now world c s value is kept =
    subst (λ (v : StoreView). Serves {T = T} basis print (Ok value) clock clock v world c s s) (sym is)
    (record { crash = starts clock _; leaves = record { committed = c; either = inl refl; kept = kept_unlaid basis print store world c s kept } })
