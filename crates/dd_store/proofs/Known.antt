-- A reference that takes no slot: what the lists are asked, and what becomes of the slots.
use Rattle.std.proofs.Common.{◌≡◌, ℕ, zero, suc, ◌+◌, ◌==◌, Bool, true, false, List, [], ◌∷◌, ◌++◌, refl, sym, ◌∙◌, ap, subst, Some, None, if◌then◌else◌}
use Rattle.std.proofs.lemmas.Bool.{eqb-true}
use Rattle.std.specs.Prelude.{Option, IfSome, slice_get, slice_set}
use Rattle.std.proofs.lemmas.List.{length-set}
use Rattle.dd_block.specs.declared.geometry.Geometry.{Geometry}
use Rattle.dd_slots.specs.declared.usage.Usage.{Usage}
use Rattle.dd_slots.specs.declared.usage.Usage.TheVariants.{Used, Waiting}
use Rattle.dd_slots.specs.Slots.{SlotsView, with_use}
use Rattle.dd_record.specs.declared.row.BRow.{BRow}
use Rattle.dd_record.specs.Table.{has_slot, b_row}
use Rattle.dd_record.specs.declared.rec.Rec.{Rec}
use Rattle.dd_record.specs.Replay.{Touch, cut_block, b_moved, touched}
use Rattle.dd_model.specs.declared.given.Block.{Block}
use Rattle.dd_model.specs.declared.given.Block.TheVariants as given
use Rattle.dd_model.specs.Listing.{Listing, IsListing, row_of, touch_by, referred, cut_of}
use Rattle.dd_model.proofs.Kept.{found_key}
use Rattle.dd_model.proofs.Slots.{slot_get}
use Rattle.dd_journal.specs.Sitting.{JournalView}
use Rattle.dd_store.specs.Keeping.{StoreView, IsStore}
use Rattle.dd_store.specs.Referring.{used_by, let_go, slots_let_go, listing_in, is_fresh_block, referred_store}
use Rattle.dd_store.specs.Saving.{AreSlotsOf}
use Rattle.dd_store.specs.Serving.{HasLimits, store_of}
use Rattle.dd_store.proofs.UsedSlots.{some_has}
use Rattle.dd_store.proofs.Using.{used_is, has_moved}

same_set : {X : Type 0} (xs : List X) (i : ℕ) (x : X) → slice_get xs i ≡ Some x → slice_set xs i x ≡ xs
same_set [] i x is = refl
same_set (y ∷ xs) zero x is = ap (λ z. z ∷ xs) (sym (cc is))
same_set (y ∷ xs) (suc i) x is = ap (λ zs. y ∷ zs) (same_set xs i x is)

module _ (store : StoreView) (is : IsStore store) where
  used_slot : (slot : ℕ) → has_slot slot store.table.b ≡ true → slice_get store.uses slot ≡ Some Used
  used_slot slot listed = used_is (slice_get store.uses slot) (is.used slot ∙ listed)

  row_listed : (slot : ℕ) (o : Option BRow) → b_row slot store.table.b ≡ o → IfSome o (λ row. has_slot row.slot store.table.b ≡ true)
  row_listed slot None found = tt
  row_listed slot (Some row) found =
      some_has row.slot row store.table.b (ap (λ n. b_row n store.table.b) (found_key (λ (r : BRow). r.slot) slot store.table.b row found) ∙ found)

  -- the slot of a known block is used already
  by_row : (o : Option BRow) → IfSome o (λ row. has_slot row.slot store.table.b ≡ true) → used_by o store.uses ≡ store.uses
  by_row None listed = refl
  by_row (Some row) listed = same_set store.uses row.slot Used (used_slot row.slot listed)

  known_listed : (block : Block) → is_fresh_block block ≡ false → IfSome (row_of block store.table.b) (λ row. has_slot row.slot store.table.b ≡ true)
  known_listed (given.Known slot) known = row_listed slot (b_row slot store.table.b) refl
  known_listed (given.Fresh row) known = absurd (cc known)
  known_listed given.Zero known = tt

  pub known_used : (block : Block) → is_fresh_block block ≡ false → used_by (row_of block store.table.b) store.uses ≡ store.uses
  known_used block known = by_row (row_of block store.table.b) (known_listed block known)

  -- and so is that of the block that falls off
  moved_listed : (row : BRow) → has_slot row.slot store.table.b ≡ true → (slot : ℕ) → has_slot slot (b_moved row store.table.b) ≡ true → has_slot slot store.table.b ≡ true
  moved_listed row listed slot there = by_test (slot == row.slot) refl (sym (has_moved slot row store.table.b) ∙ there)
    where
      by_test : (t : Bool) → (slot == row.slot) ≡ t → (if t then true else has_slot slot store.table.b) ≡ true → has_slot slot store.table.b ≡ true
      by_test true same e = ap (λ n. has_slot n store.table.b) (eqb-true slot row.slot same) ∙ listed
      by_test false other e = e

  by_cut : (row : BRow) → has_slot row.slot store.table.b ≡ true → (o : Option BRow) → IfSome o (λ cut. has_slot cut.slot (b_moved row store.table.b) ≡ true) → IfSome o (λ cut. slice_get store.uses cut.slot ≡ Some Used)
  by_cut row listed None there = tt
  by_cut row listed (Some cut) there = used_slot cut.slot (moved_listed row listed cut.slot there)

  of_row : (bcap : ℕ) (o : Option BRow) → IfSome o (λ row. has_slot row.slot store.table.b ≡ true) → IfSome (cut_block bcap o store.table.b) (λ row. slice_get store.uses row.slot ≡ Some Used)
  of_row bcap None listed = tt
  of_row bcap (Some row) listed = by_cut row listed (slice_get (b_moved row store.table.b) bcap) (slot_get bcap (b_moved row store.table.b))

  pub cut_is_used : (bcap : ℕ) (block : Block) → is_fresh_block block ≡ false → IfSome (cut_block bcap (row_of block store.table.b) store.table.b) (λ row. slice_get store.uses row.slot ≡ Some Used)
  cut_is_used bcap block known = of_row bcap (row_of block store.table.b) (known_listed block known)

-- the lists are the store's
pub listing_same : (geo : Geometry) (lists : Listing) (store : StoreView) → HasLimits geo lists → store.journal.geo ≡ geo → store.table ≡ lists.table → store.dirty ≡ lists.dirty → lists ≡ listing_in store
listing_same geo lists store limits same table dirty = λ i. record {
  acap = (limits.acap ∙ ap (λ (g : Geometry). g.acap) (sym same)) i;
  bcap = (limits.bcap ∙ ap (λ (g : Geometry). g.bcap) (sym same)) i;
  slots = (limits.slots ∙ ap (λ (g : Geometry). g.bcap + g.spare) (sym same)) i;
  table = sym table i;
  dirty = sym dirty i;
}

pub let_go_placed : (geo : Geometry) (slots : SlotsView) (cut : Option BRow) → AreSlotsOf geo slots → AreSlotsOf geo (slots_let_go cut slots)
let_go_placed geo slots None placed = placed
let_go_placed geo slots (Some cut) placed = record { from = placed.from; size = placed.size; count = length-set slots.uses cut.slot Waiting ∙ placed.count }

pub use_placed : (geo : Geometry) (old new : SlotsView) (slot : ℕ) (usage : Usage) → new ≡ with_use slot usage old → AreSlotsOf geo old → AreSlotsOf geo new
use_placed geo old new slot usage is placed =
    subst (AreSlotsOf geo) (sym is) (record { from = placed.from; size = placed.size; count = length-set old.uses slot usage ∙ placed.count })

-- the store as its fields are behind the reference
module _ (is_up : Bool) (journal : JournalView) (lists : Listing) (count : ℕ) (pending : List Rec) (uses : List Usage) (laid : List ℕ) (is : IsStore (store_of is_up journal lists count pending uses laid))
    (its : Rec) (address : ℕ) (block : Block) (dirty : Bool) (known : is_fresh_block block ≡ false) (acap : lists.acap ≡ journal.geo.acap) (bcap : lists.bcap ≡ journal.geo.bcap) where
  abbrev was : StoreView
  was = store_of is_up journal lists count pending uses laid

  abbrev touch : Touch
  touch = touch_by address block dirty lists

  pub known_store : (now : Listing) (n : ℕ) (recs : List Rec) (us : List Usage) (ns : List ℕ) → now ≡ referred touch lists → n ≡ suc count → recs ≡ pending ++ its ∷ [] → us ≡ let_go (cut_of touch lists).drop uses → ns ≡ []
      → store_of is_up journal now n recs us ns ≡ referred_store its (touch_by address block dirty (listing_in was)) was
  known_store now n recs us ns now_is n_is recs_is us_is ns_is =
      let table_is : now.table ≡ touched journal.geo.acap journal.geo.bcap touch lists.table = ap (λ (l : Listing). l.table) now_is ∙ (λ i. touched (acap i) (bcap i) touch lists.table) in
      let uses_is : us ≡ let_go (cut_block journal.geo.bcap touch.block lists.table.b) (used_by touch.block uses) =
      us_is ∙ (λ i. let_go (cut_block (bcap i) touch.block lists.table.b) uses) ∙ ap (let_go (cut_block journal.geo.bcap touch.block lists.table.b)) (sym (known_used was is block known)) in
      λ i. record was {
        table = table_is i;
        count = n_is i;
        pending = recs_is i;
        dirty = ap (λ (l : Listing). l.dirty) now_is i;
        uses = uses_is i;
        laid = ns_is i;
      }

-- what the lists keep holds of the store's
pub known_listing : (geo : Geometry) (lists : Listing) (store : StoreView) → HasLimits geo lists → store.journal.geo ≡ geo → store.table ≡ lists.table → store.dirty ≡ lists.dirty → IsListing lists → IsListing (listing_in store)
known_listing geo lists store limits same table dirty is = subst (λ (l : Listing). IsListing l) (listing_same geo lists store limits same table dirty) is
