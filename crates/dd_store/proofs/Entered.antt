-- A block that isn't listed got a slot, and the step was made: from the fields of a store to its view.
use Rattle.std.proofs.Common.{◌≡◌, ◌⊎◌, inl, inr, ℕ, ◌+◌, ◌<◌, Bool, true, false, List, length, refl, sym, ◌∙◌, ap, subst, Some, if◌then◌else◌}
use Rattle.std.specs.Prelude.{◌||◌, IfSome, Err, slice_get, slice_set}
use Rattle.dd_block.specs.declared.geometry.Geometry.{Geometry}
use Rattle.dd_block.specs.declared.print.Fp.{Fp}
use Rattle.dd_rig.specs.Clock.{Clock, Elapses}
use Rattle.dd_rig.specs.World.{World}
use Rattle.dd_rig.proofs.Moments.{widens}
use Rattle.dd_slots.specs.declared.usage.Usage.{Usage}
use Rattle.dd_slots.specs.declared.usage.Usage.TheVariants.{Used}
use Rattle.dd_layout.specs.Layout.{slot_block}
use Rattle.dd_record.specs.declared.row.Link.TheVariants.{Lost}
use Rattle.dd_record.specs.declared.rec.Rec.{Rec}
use Rattle.dd_record.specs.declared.rec.Rec.TheVariants.{Store}
use Rattle.dd_record.specs.Spelling.{IsFp}
use Rattle.dd_record.specs.Table.{link_at}
use Rattle.dd_record.specs.Replay.{Touch, cut_block}
use Rattle.dd_model.specs.declared.done.Cut.{Cut}
use Rattle.dd_model.specs.declared.given.Block.TheVariants as given
use Rattle.dd_model.specs.declared.given.Want.TheVariants as wants
use Rattle.dd_model.specs.declared.kind.Kind.TheVariants.{Miss, New}
use Rattle.dd_model.specs.Listing.{Listing, IsListing, IsGiven, touch_by, may_refer, cut_of}
use Rattle.dd_model.specs.Reference.{reference, Tells}
use Rattle.dd_model.specs.State.{State, content, is_zero_block, is_known, is_at_hand}
use Rattle.dd_journal.specs.Sitting.{JournalView}
use Rattle.dd_store.specs.declared.fault.StoreFault.TheVariants.{FlashWrite}
use Rattle.dd_store.specs.Bringing.{IsPrepared, Carries, answer_for}
use Rattle.dd_store.specs.Keeping.{StoreView, IsStore, Holds, Kept, is_spare}
use Rattle.dd_store.specs.Meaning.{Basis, Stands, sizes_of}
use Rattle.dd_store.specs.Referring.{RecordFits, referred_store, listing_in}
use Rattle.dd_store.specs.Serving.{HasLimits, Serves, store_of}
use Rattle.dd_store.proofs.Answered.{refers_of, tells_as}
use Rattle.dd_store.proofs.Fresh.{row_at, fresh_given, fresh_cut_used, fresh_fits}
use Rattle.dd_store.proofs.Known.{known_listing, listing_same}
use Rattle.dd_store.proofs.Located.{carries_fresh}
use Rattle.dd_store.proofs.Prepared.{room_may}
use Rattle.dd_store.proofs.Referred.{referred_is}
use Rattle.dd_store.proofs.Referring.{holds_referred, kept_referred}
use Rattle.dd_store.proofs.Telling.{kind_miss, kind_new}
use Rattle.dd_store.proofs.Uses.{spare_unlisted}

-- a block whose write failed
pub entered_failed : (basis : Basis) (print : List ℕ → Fp) (first last : Clock) (old new : StoreView) (world : World) (c s next : State) → Elapses first last (λ o. Stands basis print o.flash o.disk c) → Kept basis print old world c s
    → Serves {T = Cut} basis print (Err FlashWrite) first last new world c s next
entered_failed basis print first last old new world c s next crash kept = record {
  crash = widens crash (λ o stands. inl stands);
  leaves = λ flash disk flash_image disk_image. inl (kept.stands flash disk flash_image disk_image);
}

module _ (is_up : Bool) (journal : JournalView) (lists : Listing) (count : ℕ) (pending : List Rec) (uses : List Usage) (laid : List ℕ) where
  abbrev was : StoreView
  was = store_of is_up journal lists count pending uses laid

  module _ (is : IsStore was) (geo : Geometry) (limits : HasLimits geo lists) (same_geo : journal.geo ≡ geo) (listing : IsListing lists)
      (address slot : ℕ) (fp : Fp) (dirty : Bool) (prepared : IsPrepared address wants.Fresh was) (spare : is_spare slot uses ≡ true) where
    abbrev touch : Touch
    touch = touch_by address (given.Fresh (row_at slot fp)) dirty (listing_in was)

    abbrev its : Rec
    its = Store address slot fp dirty

    same : lists ≡ listing_in was
    same = listing_same geo lists was limits same_geo refl refl

    whole : IsListing (listing_in was)
    whole = known_listing geo lists was limits same_geo refl refl listing

    pub given_in : IsGiven lists (given.Fresh (row_at slot fp))
    given_in = subst (λ (l : Listing). IsGiven l (given.Fresh (row_at slot fp))) (sym same) (fresh_given was is slot fp spare)

    pub entered_may : may_refer (touch_by address (given.Fresh (row_at slot fp)) dirty lists) lists ≡ true
    entered_may = subst (λ (l : Listing). may_refer (touch_by address (given.Fresh (row_at slot fp)) dirty l) l ≡ true) (sym same)
        (room_may was whole address (given.Fresh (row_at slot fp)) dirty (fresh_given was is slot fp spare) prepared.room)

    pub entered_used : IfSome (cut_block lists.bcap (Some (row_at slot fp)) lists.table.b) (λ row. slice_get (slice_set uses slot Used) row.slot ≡ Some Used)
    entered_used = fresh_cut_used was is slot fp spare lists.bcap

    module _ (anew : (dirty ≡ true) ⊎ (link_at address lists.table.a ≡ Lost)) where
      pub entered_fits : RecordFits was its touch
      entered_fits = fresh_fits was is slot fp spare whole address dirty anew prepared.room

      pub entered_is : address < journal.geo.blocks → slot < journal.geo.bcap + journal.geo.spare → IsFp fp → IsStore (referred_store its touch was)
      entered_is below within printed = referred_is was is its touch entered_fits (below, within, printed) prepared.free

      module _ (print : List ℕ → Fp) (world : World) (s : State) (holds : Holds print was world s) (block : List ℕ) (below : address < journal.geo.blocks) (long : length block ≡ journal.geo.block)
          (there : slot_block journal.geo world.flash.shown slot ≡ block) (printed : fp ≡ print block) (some : is_zero_block block ≡ false) (unknown : is_known block s.blocks ≡ false)
          (read : dirty ≡ false → block ≡ content s.array address) where
        carries : Carries print was world.flash.shown s touch block
        carries = carries_fresh print was world s holds address below block dirty long read slot fp (spare_unlisted was is slot spare) there printed some unknown

        -- what is held then, whatever is committed
        pub entered_holds : Holds print (referred_store its touch was) world (reference (sizes_of journal.geo) s address block)
        entered_holds = holds_referred print was world s is holds its touch block (refers_of print was world.flash.shown s its touch block entered_fits carries)

        pub entered_kept : (basis : Basis) (c : State) → Kept basis print was world c s → Kept basis print (referred_store its touch was) world c (reference (sizes_of journal.geo) s address block)
        entered_kept basis c kept = kept_referred print was world s is holds its touch block (refers_of print was world.flash.shown s its touch block entered_fits carries) basis c kept

        away : is_at_hand block s.blocks ≡ false
        away = ap (λ b. b || is_known block s.blocks) some ∙ unknown

        kind : (b : Bool) → dirty ≡ b → (if b then New else Miss) ≡ (answer_for b (sizes_of journal.geo) s address block).kind
        kind true e = sym (kind_new print was world s is holds block away)
        kind false e = sym (by_link anew)
          where
            by_link : (dirty ≡ true) ⊎ (link_at address lists.table.a ≡ Lost) → (answer_for false (sizes_of journal.geo) s address block).kind ≡ Miss
            by_link (inl is_dirty) = absurd (cc (sym e ∙ is_dirty))
            by_link (inr lost) = kind_miss print was world s is holds address lost (ap (λ (x : List ℕ). is_at_hand x s.blocks) (sym (read e)) ∙ away)

        pub entered_tells : (cut : Cut) → cut ≡ cut_of (touch_by address (given.Fresh (row_at slot fp)) dirty lists) lists
            → Tells print (record { kind = if dirty then New else Miss; cut = cut }) (answer_for dirty (sizes_of journal.geo) s address block)
        entered_tells cut cut_is = subst (λ (v : Cut). Tells print (record { kind = if dirty then New else Miss; cut = v }) (answer_for dirty (sizes_of journal.geo) s address block))
            (sym (cut_is ∙ ap (λ (l : Listing). cut_of (touch_by address (given.Fresh (row_at slot fp)) dirty l) l) same))
            (tells_as print was world s is holds its touch block (refers_of print was world.flash.shown s its touch block entered_fits carries) (kind dirty refl))
