-- A commit: each outcome within it stands for the state committed before or for the one held, and behind it that one is committed.
use Rattle.std.proofs.Common.{◌≡◌, inl, inr, ⊎_elim, ℕ, ◌+◌, ◌*◌, ◌<◌, ◌≤◌, false, List, [], ◌∷◌, length, drop, refl, sym, ◌∙◌, ap, subst, arith, Some}
use Rattle.std.specs.Prelude.{IsTrue, Result, Ok, Err, OnOk}
use Rattle.dd_block.specs.Bytes.{part}
use Rattle.dd_block.specs.declared.geometry.Geometry.{Geometry}
use Rattle.dd_layout.specs.Layout.{region_at, slot_at, disk_block, flash_need, disk_need}
use Rattle.dd_block.specs.declared.print.Fp.{Fp}
use Rattle.dd_rig.specs.declared.device.Dev.TheVariants.{Flash}
use Rattle.dd_rig.specs.Device.{Device, IsImage, add_range}
use Rattle.dd_rig.specs.World.{World, Outcome, MayLeave, WithinWrite}
use Rattle.dd_rig.specs.Clock.{Clock, Elapses}
use Rattle.dd_rig.specs.Leaves.{LeavesShown}
use Rattle.dd_record.specs.declared.rec.Rec.{Rec}
use Rattle.dd_record.specs.Table.{Table, is_dirty_at}
use Rattle.dd_record.specs.Replay.{replay, count_after}
use Rattle.dd_model.specs.State.{State, content}
use Rattle.dd_journal.specs.Regions.{Says}
use Rattle.dd_journal.specs.Sitting.{JournalView, Sits, Leads, MayCommit, IsEither, IsStablePart, IsStable, regions_size}
use Rattle.dd_store.specs.Meaning.{Basis, Means, KeepsPace}
use Rattle.dd_store.specs.Keeping.{StoreView, IsStore, Kept, IsStableBlock}
use Rattle.dd_store.specs.Committing.{StandForEither, AllStandForEither, committed_store}
use Rattle.dd_store.proofs.Altering.{alters_within, from_before, image_stays}
use Rattle.dd_store.proofs.Agreeing.{means_same}
use Rattle.dd_store.proofs.Moments.{before_or_within}
use Rattle.dd_store.proofs.Parts.{LiesApart, part_outside, regions_before, behind_same}
use Rattle.dd_store.proofs.Sole.{means_one, are_linked}
use Rattle.dd_store.proofs.Sure.{Sure, sure_of, kept_of, stands_from, in_version}
use Rattle.dd_store.proofs.Uses.{listed_kept_then}

module _ (basis : Basis) (print : List ℕ → Fp) (store : StoreView) (old : World) (flash_shows : IsImage old.flash old.flash.shown) (disk_shows : IsImage old.disk old.disk.shown)
    (c s : State) (is : IsStore store) (kept : Kept basis print store old c s) where
  sure : Sure basis print store.journal old kept.rows c
  sure = sure_of basis print store old flash_shows disk_shows c s kept

  pub leads : Leads store.journal old store.pending kept.rows store.table
  leads = record { sits = kept.sits; replayed = kept.replayed }

  pub may_commit : MayCommit store.journal store.table store.count store.pending
  may_commit = record { few = is.few; records = is.records; rows = is.rows; fit = is.fit; counted = is.counted }

  -- where nothing was pending both states are one
  pub nothing_pending : store.pending ≡ [] → (kept.rows ≡ store.table) × (c ≡ s)
  nothing_pending none =
      let rows_same : kept.rows ≡ store.table = same_rows store.pending none kept.replayed in
      let counts : store.journal.committed ≡ store.count = sym (is.counted ∙ ap (λ (recs : List Rec). count_after store.journal.committed recs) none ∙ omega arith) in (
        rows_same,
        means_one print store.journal.geo old.flash.shown old.disk.shown store.table store.count c s (are_linked store.journal.geo store.journal.version store.table.a is.rows.a_rows)
            (subst (λ (n : ℕ). Means print store.journal.geo old.flash.shown old.disk.shown store.table n c) counts
            (subst (λ (t : Table). Means print store.journal.geo old.flash.shown old.disk.shown t store.journal.committed c) rows_same sure.means))
            kept.holds.means,
      )
    where
      same_rows : (recs : List Rec) → recs ≡ [] → replay store.journal.geo.acap store.journal.geo.bcap recs kept.rows ≡ Some store.table → kept.rows ≡ store.table
      same_rows recs none is = cc (subst (λ (rs : List Rec). replay store.journal.geo.acap store.journal.geo.bcap rs kept.rows ≡ Some store.table) none is)

  -- behind a commit of nothing
  pub committed_none : store.pending ≡ [] → Kept basis print (committed_store store store.journal) old s s
  committed_none none =
      let same = nothing_pending none in
      kept_of basis print (committed_store store store.journal) old store.table s s
      (subst (λ (t : Table). Sure basis print store.journal old t s) same.0 (subst (λ (state : State). Sure basis print store.journal old kept.rows state) same.1 sure))
      kept.up (omega (arith, kept.pace)) (record { means = kept.holds.means; laid = kept.holds.laid }) refl (listed_kept_then store is) kept.blocks_held

module _ (basis : Basis) (print : List ℕ → Fp) (store : StoreView) (old : World) (flash_shows : IsImage old.flash old.flash.shown) (disk_shows : IsImage old.disk old.disk.shown) (sized : flash_need store.journal.geo ≤ length old.flash.stable)
    (c s : State) (is : IsStore store) (kept : Kept basis print store old c s) where
  surely : Sure basis print store.journal old kept.rows c
  surely = sure_of basis print store old flash_shows disk_shows c s kept

  behind_regions : (slot : ℕ) → LiesApart (region_at store.journal.geo 0) (regions_size store.journal.geo) (slot_at store.journal.geo slot) store.journal.geo.block
  behind_regions slot = inr (regions_before store.journal.geo slot)

  in_version_2 : (flash : List ℕ) (rows : Table) (count : ℕ) (says : Says flash store.journal.geo store.journal.version rows count) → KeepsPace basis.room says.reading.epoch rows.a count
      → (said : Says flash store.journal.geo 2 rows count) × KeepsPace basis.room said.reading.epoch rows.a count
  in_version_2 flash rows count says pace = in_version (λ epoch. KeepsPace basis.room epoch rows.a count) flash store.journal.geo store.journal.version 2 rows count is.version says pace

  regions_fit : region_at store.journal.geo 0 + regions_size store.journal.geo ≤ length old.flash.stable
  regions_fit = omega (arith, regions_before store.journal.geo 0, sized)

  -- what lies behind the slots isn't written
  still_behind : (bytes : List ℕ) → IsImage (add_range (region_at store.journal.geo 0) (regions_size store.journal.geo) old.flash) bytes → drop (flash_need store.journal.geo) bytes ≡ basis.flash
  still_behind bytes image =
      let range = add_range (region_at store.journal.geo 0) (regions_size store.journal.geo) old.flash in
      let was = from_before (region_at store.journal.geo 0) (regions_size store.journal.geo) old.flash range (alters_within (region_at store.journal.geo 0) (regions_size store.journal.geo) old.flash) regions_fit bytes image in
      behind_same (flash_need store.journal.geo) (region_at store.journal.geo 0) (regions_size store.journal.geo) was.before bytes was.same_length was.same_outside (omega (arith, regions_before store.journal.geo 0))
      ∙ surely.flash_behind was.before was.is_image

  -- what a crash within a commit leaves
  abbrev pub WithinCommit : Outcome → Type 0
  WithinCommit o = IsEither store.journal old.flash kept.rows store.table store.count o.flash × WithinWrite Flash (region_at store.journal.geo 0) (regions_size store.journal.geo) old o

  pub while_committing : 0 < length store.pending → (o : Outcome) → WithinCommit o → StandForEither basis print c s o.flash o.disk
  while_committing some o within = ⊎_elim
      (λ says. inl (stands_from basis print store.journal.geo old.flash.shown old.disk.shown o.flash o.disk kept.rows store.journal.committed c (in_version_2 o.flash kept.rows store.journal.committed says.says (omega (arith, says.epoch, surely.pace))) kept.fit
      (record {
        slots = λ slot listed. image_stays (region_at store.journal.geo 0) (regions_size store.journal.geo) old.flash (add_range (region_at store.journal.geo 0) (regions_size store.journal.geo) old.flash) (alters_within (region_at store.journal.geo 0) (regions_size store.journal.geo) old.flash) regions_fit
            (slot_at store.journal.geo slot) store.journal.geo.block (behind_regions slot) (kept.slots_stable slot listed) o.flash within.1.flash;
        blocks = λ address below clean. kept.blocks_committed address below clean o.disk within.1.disk;
      })
      surely.means (omega (arith, surely.size, within.1.disk.same_length)) (still_behind o.flash within.1.flash, surely.disk_behind o.disk within.1.disk)))
      (λ committed. inr (stands_from basis print store.journal.geo old.flash.shown old.disk.shown o.flash o.disk store.table store.count s (in_version_2 o.flash store.table store.count committed.says (omega (arith, committed.epoch, kept.pace, some))) is.fit
      (record {
        slots = λ slot listed. part_outside (region_at store.journal.geo 0) (regions_size store.journal.geo) (slot_at store.journal.geo slot) store.journal.geo.block old.flash.shown o.flash (flash_shows.same_length ∙ sym within.1.flash.same_length) committed.outside (behind_regions slot);
        blocks = λ address below clean. kept.blocks_held address below clean o.disk within.1.disk;
      })
      kept.holds.means (omega (arith, surely.size, within.1.disk.same_length)) (still_behind o.flash within.1.flash, surely.disk_behind o.disk within.1.disk)))
      within.0

  -- behind the call, whatever it answered
  pub behind_commit : 0 < length store.pending → (new : World) (first last : Clock) → Elapses first last WithinCommit
      → ((o : Outcome) → first.left_since first.moment o → MayLeave old o)
      → ((o : Outcome) → first.moment ≤ last.moment → MayLeave new o → last.left_since first.moment o)
      → AllStandForEither basis print c s new
  behind_commit some new first last within only_now counts_now = λ flash disk flash_image disk_image.
      let o : Outcome = record { flash = flash; disk = disk; out = new.said } in
      ⊎_elim (λ before. inl (kept.stands flash disk before.flash before.disk)) (λ here. while_committing some o here)
      (before_or_within old new first last WithinCommit within only_now counts_now o (record { flash = flash_image; disk = disk_image; out = refl }))

  -- behind a commit of records that succeeded
  module _ (new : World) (flash_now : IsImage new.flash new.flash.shown) (same_size : length new.flash.stable ≡ length old.flash.stable) (journal : JournalView) (same_geo : journal.geo ≡ store.journal.geo) (same_version : journal.version ≡ store.journal.version) (counted : journal.committed ≡ store.count)
      (some : 0 < length store.pending) (next : journal.epoch ≤ store.journal.epoch + 1) (sits : Sits journal new store.table) (stable : IsStable new.flash) (leaves : LeavesShown Flash (region_at store.journal.geo 0) (regions_size store.journal.geo) old new) where
    means_now : Means print store.journal.geo new.flash.shown new.disk.shown store.table store.count s
    means_now = means_same store.journal.geo old.flash.shown old.disk.shown new.flash.shown new.disk.shown print store.table store.count s is.fit
        (record {
          slots = λ slot listed. part_outside (region_at store.journal.geo 0) (regions_size store.journal.geo) (slot_at store.journal.geo slot) store.journal.geo.block old.flash.shown new.flash.shown
              (flash_shows.same_length ∙ sym same_size ∙ sym flash_now.same_length) leaves.same_shown (behind_regions slot);
          blocks = λ address below clean. ap (λ (d : Device). disk_block store.journal.geo d.shown address) leaves.same_other;
        })
        kept.holds.means

    means_then : Means print journal.geo new.flash.shown new.disk.shown store.table store.count s
    means_then = subst (λ (g : Geometry). Means print g new.flash.shown new.disk.shown store.table store.count s) (sym same_geo) means_now

    blocks_then : (address : ℕ) → address < journal.geo.blocks → is_dirty_at address store.table.a ≡ false → IsStableBlock journal.geo new address
    blocks_then = subst (λ (g : Geometry). (address : ℕ) → address < g.blocks → is_dirty_at address store.table.a ≡ false → IsStableBlock g new address) (sym same_geo)
        (λ address below clean. subst (λ (d : Device). IsStablePart d (address * store.journal.geo.block) store.journal.geo.block) (sym leaves.same_other) (kept.blocks_held address below clean))

    -- and what lies behind the slots, and behind the array, is as it was
    shown_behind : drop (flash_need store.journal.geo) new.flash.shown ≡ basis.flash
    shown_behind =
        behind_same (flash_need store.journal.geo) (region_at store.journal.geo 0) (regions_size store.journal.geo) old.flash.shown new.flash.shown (flash_shows.same_length ∙ sym same_size ∙ sym flash_now.same_length) leaves.same_shown (omega (arith, regions_before store.journal.geo 0))
        ∙ surely.flash_behind old.flash.shown flash_shows

    flash_then : (bytes : List ℕ) → IsImage new.flash bytes → drop (flash_need journal.geo) bytes ≡ basis.flash
    flash_then = subst (λ (g : Geometry). (bytes : List ℕ) → IsImage new.flash bytes → drop (flash_need g) bytes ≡ basis.flash) (sym same_geo)
        (λ bytes image. ap (λ (b : List ℕ). drop (flash_need store.journal.geo) b) (stable bytes image) ∙ shown_behind)

    disk_then : (bytes : List ℕ) → IsImage new.disk bytes → drop (disk_need journal.geo) bytes ≡ basis.disk
    disk_then = subst (λ (g : Geometry). (bytes : List ℕ) → IsImage new.disk bytes → drop (disk_need g) bytes ≡ basis.disk) (sym same_geo)
        (λ bytes image. surely.disk_behind bytes (subst (λ (d : Device). IsImage d bytes) leaves.same_other image))

    pub committed_some : Kept basis print (committed_store store journal) new s s
    committed_some =
        kept_of basis print (committed_store store journal) new store.table s s
        (record {
          version = same_version ∙ is.version;
          sits = sits;
          pace = omega (arith, kept.pace, some, next, counted);
          fit = is.fit;
          slots = λ slot listed. λ bytes image. ap (λ (b : List ℕ). part b (slot_at journal.geo slot) journal.geo.block) (stable bytes image);
          blocks = blocks_then;
          means = subst (λ (n : ℕ). Means print journal.geo new.flash.shown new.disk.shown store.table n s) (sym counted) means_then;
          size = subst (λ (d : Device). disk_need journal.geo ≤ length d.stable) (sym leaves.same_other) (subst (λ (g : Geometry). disk_need g ≤ length old.disk.stable) (sym same_geo) surely.size);
          flash_behind = flash_then;
          disk_behind = disk_then;
        })
        kept.up
        (omega (arith, kept.pace, some, next))
        (record {
          means = means_then;
          laid = λ address laid. subst (λ (g : Geometry). disk_block g new.disk.shown address ≡ content s.array address) (sym same_geo)
              (ap (λ (d : Device). disk_block store.journal.geo d.shown address) leaves.same_other ∙ kept.holds.laid address laid);
        })
        refl (listed_kept_then store is) blocks_then

-- Behind a commit that succeeded, whether there was something to commit or not.
module _ (basis : Basis) (print : List ℕ → Fp) (store : StoreView) (old : World) (flash_shows : IsImage old.flash old.flash.shown) (disk_shows : IsImage old.disk old.disk.shown) (sized : flash_need store.journal.geo ≤ length old.flash.stable)
    (c s : State) (is : IsStore store) (kept : Kept basis print store old c s)
    (new : World) (flash_now : IsImage new.flash new.flash.shown) (same_size : length new.flash.stable ≡ length old.flash.stable) (journal : JournalView) (same_geo : journal.geo ≡ store.journal.geo) (same_version : journal.version ≡ store.journal.version)
    (leaves : LeavesShown Flash (region_at store.journal.geo 0) (regions_size store.journal.geo) old new) (next : journal.epoch ≤ store.journal.epoch + 1) (empty : store.pending ≡ [] → (new ≡ old) × (journal ≡ store.journal)) where
  committed_any : (counted : journal.committed ≡ store.count) → Sits journal new store.table → (0 < length store.pending → IsStable new.flash) → Kept basis print (committed_store store journal) new s s
  committed_any counted sits stable = by_pending store.pending refl
    where
      by_pending : (recs : List Rec) → store.pending ≡ recs → Kept basis print (committed_store store journal) new s s
      by_pending [] none =
          let same = empty none in
          subst (λ (w : World). Kept basis print (committed_store store journal) w s s) (sym same.0)
          (subst (λ (j : JournalView). Kept basis print (committed_store store j) old s s) (sym same.1)
          (committed_none basis print store old flash_shows disk_shows c s is kept none))
      by_pending (rec ∷ recs) some =
          let more : 0 < length store.pending = subst (λ (rs : List Rec). 0 < length rs) (sym some) (omega arith) in
          committed_some basis print store old flash_shows disk_shows sized c s is kept new flash_now same_size journal same_geo same_version counted more next sits
          (stable more) leaves

  pub committed_ok : {E : Type 0} (result : Result Unit E) → OnOk result (IsTrue journal.is_up × (journal.committed ≡ store.count)) → OnOk result (Sits journal new store.table) → OnOk result (0 < length store.pending → IsStable new.flash)
      → OnOk result (Kept basis print (committed_store store journal) new s s)
  committed_ok (Ok done) ok sits stable = committed_any ok.1 sits stable
  committed_ok (Err e) ok sits stable = tt
