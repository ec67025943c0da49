-- A reference with a block that isn't listed: what the lists are asked, and what becomes of the slots.
use Rattle.std.proofs.Common.{◌≡◌, ◌⊎◌, ℕ, suc, ◌<◌, ◌==◌, Bool, true, false, cond, List, [], ◌∷◌, ◌++◌, length, refl, sym, ◌∙◌, ap, arith, Some, None, if◌then◌else◌}
use Rattle.std.specs.Prelude.{Option, IfSome, slice_get, slice_set, ◌||◌}
use Rattle.dd_block.specs.declared.print.Fp.{Fp}
use Rattle.dd_slots.specs.declared.usage.Usage.{Usage}
use Rattle.dd_slots.specs.declared.usage.Usage.TheVariants.{Used}
use Rattle.dd_slots.specs.Slots.{is_used}
use Rattle.dd_record.specs.declared.row.BRow.{BRow}
use Rattle.dd_record.specs.declared.row.Link.TheVariants.{Lost}
use Rattle.dd_record.specs.declared.rec.Rec.{Rec}
use Rattle.dd_record.specs.declared.rec.Rec.TheVariants.{Store}
use Rattle.dd_record.specs.Table.{has_slot, b_row, link_at}
use Rattle.dd_record.specs.Replay.{Touch, cut_block, b_moved, touched}
use Rattle.dd_model.specs.declared.given.Block.TheVariants as given
use Rattle.dd_model.specs.declared.given.Want.TheVariants as wants
use Rattle.dd_model.specs.Listing.{Listing, IsListing, IsGiven, touch_by, referred, cut_of}
use Rattle.dd_model.proofs.Records.{store_touch}
use Rattle.dd_model.proofs.Slots.{slot_get}
use Rattle.dd_journal.specs.Sitting.{JournalView}
use Rattle.dd_store.specs.Keeping.{StoreView, IsStore, is_spare}
use Rattle.dd_store.specs.Referring.{RecordFits, used_by, let_go, listing_in, referred_store}
use Rattle.dd_store.specs.Rounds.{HasRoom}
use Rattle.dd_store.specs.Serving.{store_of}
use Rattle.dd_store.proofs.Prepared.{fits_prepared}
use Rattle.dd_store.proofs.Uses.{spare_unlisted, spare_below}
use Rattle.dd_store.proofs.Using.{used_is, has_moved, now_used, cut_used}

-- the row of a block that gets a slot
abbrev pub row_at : ℕ → Fp → BRow
row_at slot fp = record { slot = slot; fp = fp }

unlisted_none : (slot : ℕ) (b : List BRow) → has_slot slot b ≡ false → b_row slot b ≡ None
unlisted_none slot [] is = refl
unlisted_none slot (row ∷ b) is = by_test (row.slot == slot) is (λ e. unlisted_none slot b e)
  where
    by_test : (t : Bool) → (t || has_slot slot b) ≡ false → (has_slot slot b ≡ false → b_row slot b ≡ None) → cond t (Some row) (b_row slot b) ≡ None
    by_test true e rest = absurd (cc e)
    by_test false e rest = rest e

all_used : (o : Option BRow) (uses : List Usage) → IfSome o (λ row. is_used (slice_get uses row.slot) ≡ true) → IfSome o (λ row. slice_get uses row.slot ≡ Some Used)
all_used None uses h = tt
all_used (Some row) uses h = used_is (slice_get uses row.slot) h

module _ (store : StoreView) (is : IsStore store) (slot : ℕ) (fp : Fp) (spare : is_spare slot store.uses ≡ true) where
  -- a free slot may be given to the block
  pub fresh_given : IsGiven (listing_in store) (given.Fresh (row_at slot fp))
  fresh_given = (spare_below store is slot spare, unlisted_none slot store.table.b (spare_unlisted store is slot spare))

  within : slot < length store.uses
  within = omega (arith, spare_below store is slot spare, is.sized)

  -- exactly the slots of the blocks in front and behind are used then
  moved_used : (n : ℕ) → is_used (slice_get (slice_set store.uses slot Used) n) ≡ has_slot n (b_moved (row_at slot fp) store.table.b)
  moved_used n = now_used n slot store.uses within ∙ ap (λ h. if n == slot then true else h) (is.used n) ∙ sym (has_moved n (row_at slot fp) store.table.b)

  -- so that of the block that falls off is
  pub fresh_cut_used : (bcap : ℕ) → IfSome (cut_block bcap (Some (row_at slot fp)) store.table.b) (λ row. slice_get (slice_set store.uses slot Used) row.slot ≡ Some Used)
  fresh_cut_used bcap = all_used (slice_get (b_moved (row_at slot fp) store.table.b) bcap) (slice_set store.uses slot Used)
      (cut_used (slice_get (b_moved (row_at slot fp) store.table.b) bcap) (b_moved (row_at slot fp) store.table.b) (slice_set store.uses slot Used) (slot_get bcap (b_moved (row_at slot fp) store.table.b)) moved_used)

  -- its record fits
  pub fresh_fits : IsListing (listing_in store) → (address : ℕ) (dirty : Bool) → (dirty ≡ true) ⊎ (link_at address store.table.a ≡ Lost) → HasRoom address wants.Fresh store
      → RecordFits store (Store address slot fp dirty) (touch_by address (given.Fresh (row_at slot fp)) dirty (listing_in store))
  fresh_fits listing address dirty anew room =
      fits_prepared store listing (Store address slot fp dirty) address (given.Fresh (row_at slot fp)) dirty fresh_given room refl (store_touch (listing_in store) address (row_at slot fp) dirty fresh_given anew)

-- the store as its fields are behind the reference
module _ (is_up : Bool) (journal : JournalView) (lists : Listing) (count : ℕ) (pending : List Rec) (uses : List Usage) (laid : List ℕ)
    (its : Rec) (address slot : ℕ) (fp : Fp) (dirty : Bool) (acap : lists.acap ≡ journal.geo.acap) (bcap : lists.bcap ≡ journal.geo.bcap) where
  abbrev was : StoreView
  was = store_of is_up journal lists count pending uses laid

  abbrev touch : Touch
  touch = touch_by address (given.Fresh (row_at slot fp)) dirty lists

  pub fresh_store : (now : Listing) (n : ℕ) (recs : List Rec) (us : List Usage) (ns : List ℕ) → now ≡ referred touch lists → n ≡ suc count → recs ≡ pending ++ its ∷ []
      → us ≡ let_go (cut_of touch lists).drop (slice_set uses slot Used) → ns ≡ []
      → store_of is_up journal now n recs us ns ≡ referred_store its (touch_by address (given.Fresh (row_at slot fp)) dirty (listing_in was)) was
  fresh_store now n recs us ns now_is n_is recs_is us_is ns_is =
      let table_is : now.table ≡ touched journal.geo.acap journal.geo.bcap touch lists.table = ap (λ (l : Listing). l.table) now_is ∙ (λ i. touched (acap i) (bcap i) touch lists.table) in
      let uses_is : us ≡ let_go (cut_block journal.geo.bcap touch.block lists.table.b) (used_by touch.block uses) =
      us_is ∙ (λ i. let_go (cut_block (bcap i) touch.block lists.table.b) (slice_set uses slot Used)) in
      λ i. record was {
        table = table_is i;
        count = n_is i;
        pending = recs_is i;
        dirty = ap (λ (l : Listing). l.dirty) now_is i;
        uses = uses_is i;
        laid = ns_is i;
      }
