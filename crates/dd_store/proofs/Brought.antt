-- Calls one after the other that bring a content: reads, room that is made, and the step.
use Rattle.std.proofs.Common.{◌≡◌, ◌⊎◌, ⊎_elim, inl, ℕ, Bool, true, false, List, refl, sym, ◌∙◌, ap, subst, Some}
use Rattle.std.specs.Prelude.{Result, Ok, Err}
use Rattle.dd_block.specs.declared.geometry.Geometry.{Geometry}
use Rattle.dd_block.specs.declared.print.Fp.{Fp}
use Rattle.dd_rig.specs.Clock.{Clock, AddsNone}
use Rattle.dd_rig.specs.World.{World}
use Rattle.dd_rig.proofs.Moments.{starts, widens}
use Rattle.dd_record.specs.declared.row.BRow.{BRow}
use Rattle.dd_record.specs.declared.rec.Rec.{Rec}
use Rattle.dd_record.specs.Table.{b_row, has_slot}
use Rattle.dd_record.specs.Replay.{Touch}
use Rattle.dd_model.specs.declared.done.Done.{Done}
use Rattle.dd_model.specs.declared.given.Block.{Block}
use Rattle.dd_model.specs.declared.given.Block.TheVariants as given
use Rattle.dd_model.specs.Listing.{row_of, touch_by}
use Rattle.dd_model.specs.Reference.{reference, Tells}
use Rattle.dd_model.specs.State.{State}
use Rattle.dd_model.proofs.Kept.{found_key}
use Rattle.dd_store.specs.declared.fault.StoreFault.{StoreFault}
use Rattle.dd_store.specs.declared.fault.StoreFault.TheVariants.{FlashRead, DiskRead, FlashWrite, DiskWrite}
use Rattle.dd_store.specs.Bringing.{Carries, answer_for}
use Rattle.dd_store.specs.Keeping.{StoreView, IsStore, Kept, Holds}
use Rattle.dd_store.specs.Meaning.{Basis, sizes_of}
use Rattle.dd_store.specs.Referring.{RecordFits, listing_in, is_fresh_block, kind_of, done_of, referred_store}
use Rattle.dd_store.specs.Rounds.{Cleans}
use Rattle.dd_store.specs.Serving.{GoesOn, Leaves, Serves, unlaid}
use Rattle.dd_store.proofs.Answered.{refers_of, tells_as}
use Rattle.dd_store.proofs.Carried.{carries_still}
use Rattle.dd_store.proofs.Flushing.{kept_unlaid}
use Rattle.dd_store.proofs.LayingRow.{behind_read, kept_read}
use Rattle.dd_store.proofs.Prepared.{same_touch}
use Rattle.dd_store.proofs.Referring.{holds_referred, kept_referred}
use Rattle.dd_store.proofs.Serves.{serves_then}
use Rattle.dd_store.proofs.UsedSlots.{some_has}

-- behind a read a store holds what it held, with nothing laid
pub kept_behind : (basis : Basis) (print : List ℕ → Fp) (old new : StoreView) (before after : World) (c s : State) → new ≡ unlaid old → after ≡ before → Kept basis print old before c s → Kept basis print new after c s
kept_behind basis print old new before after c s is same kept =
    subst (λ (v : StoreView). Kept basis print v after c s) (sym is) (kept_unlaid basis print old after c s (kept_read basis print old before after c s same kept))

-- a read in front of a call
pub serves_behind : {T : Type 0} (basis : Basis) (print : List ℕ → Fp) (result : Result T StoreFault) {first middle last : Clock} {store : StoreView} {world : World} {c s next : State}
    → AddsNone first middle → Serves basis print result middle last store world c s next → Serves basis print result first last store world c s next
serves_behind basis print result time serves = record { crash = behind_read time serves.crash; leaves = serves.leaves }

-- a read that failed
pub serves_failed : (basis : Basis) (T : Type 0) (print : List ℕ → Fp) (fault : StoreFault) → (fault ≡ FlashRead) ⊎ (fault ≡ DiskRead) → (first last : Clock) (store : StoreView) (world : World) (c s next : State)
    → AddsNone first last → Kept basis print store world c s → Serves {T = T} basis print (Err fault) first last store world c s next
serves_failed basis T print fault read first last store world c s next time kept =
    let goes : GoesOn basis print c s store world s = record { committed = c; either = inl refl; kept = kept } in
    ⊎_elim
    (λ flash. subst (λ (f : StoreFault). Serves {T = T} basis print (Err f) first last store world c s next) (sym flash) (record { crash = widens time (λ o none. absurd none); leaves = goes }))
    (λ disk. subst (λ (f : StoreFault). Serves {T = T} basis print (Err f) first last store world c s next) (sym disk) (record { crash = widens time (λ o none. absurd none); leaves = goes }))
    read

-- the block of a row that is listed, or zeros
pub listed_row : (block : Block) (b : List BRow) → is_fresh_block block ≡ false → (row : BRow) → row_of block b ≡ Some row → has_slot row.slot b ≡ true
listed_row (given.Known slot) b known row found = some_has row.slot row b (ap (λ n. b_row n b) (found_key (λ (r : BRow). r.slot) slot b row found) ∙ found)
listed_row (given.Fresh fresh) b known row found = absurd (cc known)
listed_row given.Zero b known row found = absurd (cc found)

-- room was made, and then the step with a listed block or with zeros
module _ (basis : Basis) (print : List ℕ → Fp) (old middle : StoreView) (before after : World) (c s : State) (its : Rec) (address : ℕ) (block : Block) (dirty : Bool) (bytes : List ℕ)
    (cleans : Cleans old middle) (is : IsStore middle) (fits : RecordFits middle its (touch_by address block dirty (listing_in middle))) (known : is_fresh_block block ≡ false)
    (kept : Kept basis print old before c s) (carries : Carries print old before.flash.shown s (touch_by address block dirty (listing_in old)) bytes) where
  there : (k : State) → Kept basis print middle after k s → Carries print middle after.flash.shown s (touch_by address block dirty (listing_in middle)) bytes
  there k held = subst (λ (t : Touch). Carries print middle after.flash.shown s t bytes) (sym (same_touch old middle cleans address block dirty))
      (carries_still print old middle before after s cleans kept.holds held.holds (touch_by address block dirty (listing_in old)) bytes (listed_row block old.table.b known) carries)

  pub joined : (first last : Clock) (new : StoreView) (done : Done) → new ≡ referred_store its (touch_by address block dirty (listing_in middle)) middle
      → Serves {T = Unit {0}} basis print (Ok tt) first last middle after c s s → Serves basis print (Ok done) first last new after c s (reference (sizes_of old.journal.geo) s address bytes)
  joined first last new done new_is serves = serves_then basis print first last last middle new after after c s (reference (sizes_of old.journal.geo) s address bytes) (Ok done) serves.crash serves.leaves
      (λ k held. record {
        crash = starts last _;
        leaves = record {
          committed = k;
          either = inl refl;
          kept = subst (λ (v : StoreView). Kept basis print v after k (reference (sizes_of old.journal.geo) s address bytes)) (sym new_is)
              (subst (λ (g : Geometry). Kept basis print (referred_store its (touch_by address block dirty (listing_in middle)) middle) after k (reference (sizes_of g) s address bytes)) cleans.geometry
              (kept_referred print middle after s is held.holds its (touch_by address block dirty (listing_in middle)) bytes (refers_of print middle after.flash.shown s its _ bytes fits (there k held)) basis k held));
        };
      })

-- and what is held then, whatever is committed, and what is answered
module _ (print : List ℕ → Fp) (old middle : StoreView) (before after : World) (s : State) (its : Rec) (address : ℕ) (block : Block) (dirty : Bool) (bytes : List ℕ)
    (cleans : Cleans old middle) (is : IsStore middle) (fits : RecordFits middle its (touch_by address block dirty (listing_in middle))) (known : is_fresh_block block ≡ false)
    (was : Holds print old before s) (held : Holds print middle after s) (carries : Carries print old before.flash.shown s (touch_by address block dirty (listing_in old)) bytes) where
  still : Carries print middle after.flash.shown s (touch_by address block dirty (listing_in middle)) bytes
  still = subst (λ (t : Touch). Carries print middle after.flash.shown s t bytes) (sym (same_touch old middle cleans address block dirty))
      (carries_still print old middle before after s cleans was held (touch_by address block dirty (listing_in old)) bytes (listed_row block old.table.b known) carries)

  pub joined_holds : (new : StoreView) → new ≡ referred_store its (touch_by address block dirty (listing_in middle)) middle → Holds print new after (reference (sizes_of old.journal.geo) s address bytes)
  joined_holds new new_is = subst (λ (v : StoreView). Holds print v after (reference (sizes_of old.journal.geo) s address bytes)) (sym new_is)
      (subst (λ (g : Geometry). Holds print (referred_store its (touch_by address block dirty (listing_in middle)) middle) after (reference (sizes_of g) s address bytes)) cleans.geometry
      (holds_referred print middle after s is held its (touch_by address block dirty (listing_in middle)) bytes (refers_of print middle after.flash.shown s its _ bytes fits still)))

  pub joined_tells : (done : Done) → done ≡ done_of middle its (touch_by address block dirty (listing_in middle))
      → kind_of its ≡ (answer_for dirty (sizes_of old.journal.geo) s address bytes).kind → Tells print done (answer_for dirty (sizes_of old.journal.geo) s address bytes)
  joined_tells done done_is kind = subst (λ (d : Done). Tells print d (answer_for dirty (sizes_of old.journal.geo) s address bytes)) (sym done_is)
      (subst (λ (g : Geometry). kind_of its ≡ (answer_for dirty (sizes_of g) s address bytes).kind → Tells print (done_of middle its (touch_by address block dirty (listing_in middle))) (answer_for dirty (sizes_of g) s address bytes)) cleans.geometry
      (tells_as print middle after s is held its (touch_by address block dirty (listing_in middle)) bytes (refers_of print middle after.flash.shown s its _ bytes fits still)) kind)

-- a fault says nothing of the next state
pub serves_fault : (basis : Basis) (T U : Type 0) (print : List ℕ → Fp) (first last : Clock) (store : StoreView) (world : World) (c s next other : State) (fault : StoreFault)
    → Serves {T = T} basis print (Err fault) first last store world c s next → Serves {T = U} basis print (Err fault) first last store world c s other
serves_fault basis T U print first last store world c s next other fault serves = record { crash = serves.crash; leaves = by_fault fault serves.leaves }
  where
    by_fault : (f : StoreFault) → Leaves {T = T} basis print (Err f) c s next store world → Leaves {T = U} basis print (Err f) c s other store world
    by_fault FlashRead h = h
    by_fault DiskRead h = h
    by_fault FlashWrite h = h
    by_fault DiskWrite h = h
