-- A store over devices that are stable and stand for a state by its rows.
use Rattle.std.proofs.Common.{◌≡◌, inl, ℕ, ◌*◌, ◌<◌, ◌≤◌, ◌==◌, Bool, true, false, List, [], ◌∷◌, length, drop, refl, ap, subst, sym, ◌∙◌, arith, Some, if◌then◌else◌}
use Rattle.std.specs.Prelude.{IsTrue, ◌||◌, slice_get}
use Rattle.std.specs.List.{AllByRecursion, IsDistinct}
use Rattle.std.proofs.lemmas.Bool.{eqb-true}
use Rattle.dd_block.specs.Bytes.{part}
use Rattle.dd_block.specs.Geometry.{slot_count}
use Rattle.dd_block.specs.declared.geometry.Geometry.{Geometry}
use Rattle.dd_block.specs.declared.print.Fp.{Fp}
use Rattle.dd_layout.specs.Layout.{slot_at, flash_need, disk_need}
use Rattle.dd_rig.specs.Device.{IsImage}
use Rattle.dd_rig.specs.World.{World}
use Rattle.dd_slots.specs.Numbers.{is_among}
use Rattle.dd_slots.specs.declared.usage.Usage.{Usage}
use Rattle.dd_slots.specs.declared.usage.Usage.TheVariants.{Free, Used}
use Rattle.dd_slots.specs.Slots.{SlotsView, is_used, AreNew}
use Rattle.dd_slots.proofs.Marks.{within}
use Rattle.dd_record.specs.declared.row.BRow.{BRow}
use Rattle.dd_record.specs.declared.rec.Rec.{Rec}
use Rattle.dd_record.specs.Spelling.{IsB}
use Rattle.dd_record.specs.Replay.{replay, count_after}
use Rattle.dd_record.specs.Table.{has_slot, is_dirty_at}
use Rattle.dd_model.specs.State.{State}
use Rattle.dd_model.specs.Listing.{Listing, IsListing}
use Rattle.dd_journal.specs.Regions.{AreRows}
use Rattle.dd_journal.specs.Sitting.{JournalView, Sits, IsStable}
use Rattle.dd_store.specs.Meaning.{Basis, Means, KeepsPace, HasBehind}
use Rattle.dd_store.specs.Keeping.{StoreView, Kept, IsStore}
use Rattle.dd_store.specs.Saving.{AreUsesOf, AreSlotsOf}
use Rattle.dd_store.specs.Serving.{store_of}
use Rattle.dd_store.proofs.Sure.{kept_of}
use Rattle.dd_store.proofs.Uses.{listed_kept}

-- what it holds is committed
pub kept_new : (basis : Basis) (print : List ℕ → Fp) (store : StoreView) (world : World) (s : State) → IsTrue store.is_up → IsStore store → store.pending ≡ [] → store.laid ≡ []
    → IsStable world.flash → IsStable world.disk → disk_need store.journal.geo ≤ length world.disk.stable
    → Sits store.journal world store.table
    → KeepsPace basis.room store.journal.epoch store.table.a store.count → HasBehind basis store.journal.geo world.flash.shown world.disk.shown → Means print store.journal.geo world.flash.shown world.disk.shown store.table store.count s → Kept basis print store world s s
kept_new basis print store world s up is none unlaid flash disk sized sits pace behind means =
    let blocks = λ (address : ℕ) (below : address < store.journal.geo.blocks) (clean : is_dirty_at address store.table.a ≡ false) (bytes : List ℕ) (image : IsImage world.disk bytes).
    ap (λ (b : List ℕ). part b (address * store.journal.geo.block) store.journal.geo.block) (disk bytes image) in
    let counted : store.count ≡ store.journal.committed = is.counted ∙ ap (λ (recs : List Rec). count_after store.journal.committed recs) none ∙ omega arith in
    kept_of basis print store world store.table s s
    (record {
      version = is.version;
      sits = sits;
      pace = subst (λ (n : ℕ). KeepsPace basis.room store.journal.epoch store.table.a n) counted pace;
      fit = is.fit;
      slots = λ slot listed bytes image. ap (λ (b : List ℕ). part b (slot_at store.journal.geo slot) store.journal.geo.block) (flash bytes image);
      blocks = blocks;
      means = subst (λ (n : ℕ). Means print store.journal.geo world.flash.shown world.disk.shown store.table n s) counted means;
      size = sized;
      flash_behind = λ bytes image. ap (λ (b : List ℕ). drop (flash_need store.journal.geo) b) (flash bytes image) ∙ behind.0;
      disk_behind = λ bytes image. ap (λ (b : List ℕ). drop (disk_need store.journal.geo) b) (disk bytes image) ∙ behind.1;
    })
    up
    (let empty = ap (λ (recs : List Rec). length recs) none in omega (arith, pace, empty))
    (record { means = means; laid = λ address there. absurd (cc (sym there ∙ ap (is_among address) unlaid)) })
    (ap (λ (recs : List Rec). replay store.journal.geo.acap store.journal.geo.bcap recs store.table) none)
    (listed_kept store is) blocks

has_below : (geo : Geometry) (slot : ℕ) (b : List BRow) → AllByRecursion (IsB geo) b → has_slot slot b ≡ true → slot < slot_count geo
has_below geo slot [] all h = absurd (cc h)
has_below geo slot (row ∷ b) all h = by_test (row.slot == slot) refl h (λ e. has_below geo slot b all.1 e)
  where
    by_test : (t : Bool) → (row.slot == slot) ≡ t → (t || has_slot slot b) ≡ true → (has_slot slot b ≡ true → slot < slot_count geo) → slot < slot_count geo
    by_test true same e next = subst (λ n. n < slot_count geo) (eqb-true row.slot slot same) all.0.slot
    by_test false differ e next = next e

-- where each slot is used as the rows say, exactly the listed ones are used
used_so : (geo : Geometry) (b : List BRow) (uses : List Usage) → AllByRecursion (IsB geo) b → AreUsesOf geo b uses → (slot : ℕ) → is_used (slice_get uses slot) ≡ has_slot slot b
used_so geo b uses right so slot = by_tests (is_used (slice_get uses slot)) (has_slot slot b) refl refl
  where
    told : (h : Bool) → is_used (Some (if h then Used else Free)) ≡ h
    told true = refl
    told false = refl

    below : slot < slot_count geo → is_used (slice_get uses slot) ≡ has_slot slot b
    below lt = ap is_used (so.each slot lt) ∙ told (has_slot slot b)

    by_tests : (t h : Bool) → is_used (slice_get uses slot) ≡ t → has_slot slot b ≡ h → t ≡ h
    by_tests true h is has = sym is ∙ below (omega (arith, within is_used uses slot refl is, so.count)) ∙ has
    by_tests false true is has = sym is ∙ below (has_below geo slot b right has) ∙ has
    by_tests false false is has = refl

-- a store that was made keeps what its type keeps
pub new_is : (geo : Geometry) (journal : JournalView) (lists : Listing) (count : ℕ) (uses : List Usage) → IsListing lists → AreRows geo 2 lists.table → IsTrue journal.is_up → journal.geo ≡ geo → journal.version ≡ 2
    → count ≡ journal.committed → AreUsesOf geo lists.table.b uses → IsStore (store_of true journal lists count [] uses [])
unfolding IsDistinct
new_is geo journal lists count uses listing rows up same version counted so = record {
  journal_up = up;
  version = version;
  rows = subst (λ v. AreRows journal.geo v lists.table) (sym version) (subst (λ (g : Geometry). AreRows g 2 lists.table) (sym same) rows);
  fit = listing.fit;
  few = omega arith;
  records = tt;
  counted = omega (arith, counted);
  sized = so.count ∙ ap (λ (g : Geometry). slot_count g) (sym same);
  used = used_so geo lists.table.b uses rows.b_rows so;
  named = tt;
  dirty = listing.dirty_ones;
  laid = λ address never. absurd (cc never);
  laid_once = tt;
  few_laid = omega arith;
  laid_alone = inl refl;
}

-- a store as its fields are when it was made
pub made_of : (P : StoreView → Type 0) (journal other : JournalView) (lists : Listing) (count : ℕ) (uses : List Usage) (pending : List Rec) (laid : List ℕ) → other ≡ journal → pending ≡ [] → laid ≡ []
    → P (store_of true journal lists count [] uses []) → P (store_of true other lists count pending uses laid)
made_of P journal other lists count uses pending laid same no_pending no_laid h =
    subst (λ (j : JournalView). P (store_of true j lists count pending uses laid)) (sym same)
    (subst (λ (recs : List Rec). P (store_of true journal lists count recs uses laid)) (sym no_pending)
    (subst (λ (ns : List ℕ). P (store_of true journal lists count [] uses ns)) (sym no_laid) h))

-- slots that were made of the listed ones are used as the rows say, and lie where the geometry puts them
module _ (geo : Geometry) (base n m : ℕ) (used items : List ℕ) (slots : SlotsView) (made : AreNew base geo.block n used slots) (n_is : n ≡ slot_count geo) (m_is : m ≡ slot_count geo) where
  pub uses_of : (b : List BRow) → used ≡ items → ((slot : ℕ) → slot < m → is_among slot items ≡ has_slot slot b) → AreUsesOf geo b slots.uses
  uses_of b same each = record {
    count = made.same_count ∙ n_is;
    each = λ slot lt. made.each slot (omega (arith, lt, n_is)) ∙ ap (λ t. Some (if t then Used else Free)) (ap (is_among slot) same ∙ each slot (omega (arith, lt, m_is)));
  }

  pub slots_of : base ≡ slot_at geo 0 → AreSlotsOf geo slots
  slots_of from = record { from = made.same_base ∙ from; size = made.same_block; count = made.same_count ∙ n_is }
