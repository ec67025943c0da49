-- A block of the disk is written whose address is dirty in the committed rows, while nothing is pending.
use Rattle.std.proofs.Common.{◌≡◌, ◌⊎◌, inl, inr, ⊎_elim, ℕ, ◌+◌, ◌*◌, ◌≤◌, ◌==◌, true, false, List, [], ◌∷◌, ◌++◌, length, drop, refl, sym, ◌∙◌, ap, subst, arith}
use Rattle.std.proofs.lemmas.Bool.{eqb-true, or_cases}
use Rattle.dd_slots.proofs.Numbers.{among_snoc}
use Rattle.dd_block.specs.Bytes.{part}
use Rattle.dd_block.specs.declared.print.Fp.{Fp}
use Rattle.dd_block.specs.declared.geometry.Geometry.{Geometry}
use Rattle.dd_rig.specs.Clock.{Clock, Elapses}
use Rattle.dd_rig.proofs.Moments.{widens}
use Rattle.dd_layout.specs.Layout.{region_at, slot_at, slot_block, disk_block, disk_need}
use Rattle.dd_rig.specs.declared.device.Dev.TheVariants.{Disk}
use Rattle.dd_rig.specs.Device.{Device, IsImage, add_range, overwrite, write_bytes}
use Rattle.dd_rig.specs.World.{World, Outcome, WithinWrite, ShowsSome, on_device}
use Rattle.dd_record.specs.Table.{Table, RowsFit, is_dirty_at}
use Rattle.dd_model.specs.State.{State, content}
use Rattle.dd_journal.specs.Sitting.{JournalView, IsStablePart, regions_size}
use Rattle.dd_store.specs.Meaning.{Basis, Means, Stands}
use Rattle.dd_slots.specs.Numbers.{is_among}
use Rattle.dd_store.specs.Keeping.{StoreView, IsStore, Kept}
use Rattle.dd_store.specs.Laying.{MayLay, laid_store}
use Rattle.dd_store.proofs.Altering.{Alters, alters_within, from_before, alters_disk, shown_stays, stable_stays, written_there}
use Rattle.dd_store.proofs.Agreeing.{means_same}
use Rattle.dd_store.proofs.Committing.{nothing_pending}
use Rattle.dd_store.proofs.Parts.{blocks_apart, block_within, behind_same}
use Rattle.dd_store.proofs.Sure.{Sure, sure_of, kept_of}

-- what the devices are sure of, where a block of the disk changes whose address the rows have dirty
module _ (print : List ℕ → Fp) (journal : JournalView) (old new : World) (address : ℕ)
    (alters : Alters (address * journal.geo.block) journal.geo.block old.disk new.disk) (same_flash : new.flash ≡ old.flash)
    (fits : address * journal.geo.block + journal.geo.block ≤ length old.disk.stable) where
  pub block_stays : (clean : ℕ) → (address ≡ clean → ⊥) → disk_block journal.geo new.disk.shown clean ≡ disk_block journal.geo old.disk.shown clean
  block_stays clean other = shown_stays (address * journal.geo.block) journal.geo.block old.disk new.disk alters fits (clean * journal.geo.block) journal.geo.block (blocks_apart address clean journal.geo.block other)

  is_other : (table : Table) → is_dirty_at address table.a ≡ true → (clean : ℕ) → is_dirty_at clean table.a ≡ false → address ≡ clean → ⊥
  is_other table dirty clean is same = absurd (cc (is, dirty, ap (λ n. is_dirty_at n table.a) same))

  pub lay_means : (table : Table) (count : ℕ) (s : State) → RowsFit table → is_dirty_at address table.a ≡ true → Means print journal.geo old.flash.shown old.disk.shown table count s → Means print journal.geo new.flash.shown new.disk.shown table count s
  lay_means table count s fit dirty means = means_same journal.geo old.flash.shown old.disk.shown new.flash.shown new.disk.shown print table count s fit
      (record {
        slots = λ slot listed. ap (λ (d : Device). slot_block journal.geo d.shown slot) same_flash;
        blocks = λ clean below is. block_stays clean (is_other table dirty clean is);
      })
      means

  pub lay_stable : (table : Table) → is_dirty_at address table.a ≡ true → (clean : ℕ) → is_dirty_at clean table.a ≡ false → IsStablePart old.disk (clean * journal.geo.block) journal.geo.block → IsStablePart new.disk (clean * journal.geo.block) journal.geo.block
  lay_stable table dirty clean is stable = stable_stays (address * journal.geo.block) journal.geo.block old.disk new.disk alters fits (clean * journal.geo.block) journal.geo.block (blocks_apart address clean journal.geo.block (is_other table dirty clean is)) stable

  behind_still : (basis : Basis) (rows : Table) (c : State) → Sure basis print journal old rows c → address * journal.geo.block + journal.geo.block ≤ disk_need journal.geo → (bytes : List ℕ) → IsImage new.disk bytes → drop (disk_need journal.geo) bytes ≡ basis.disk
  behind_still basis rows c sure inside bytes image =
      let was = from_before (address * journal.geo.block) journal.geo.block old.disk new.disk alters fits bytes image in
      behind_same (disk_need journal.geo) (address * journal.geo.block) journal.geo.block was.before bytes was.same_length was.same_outside inside ∙ sure.disk_behind was.before was.is_image

  pub sure_disk : (basis : Basis) (rows : Table) (c : State) → Sure basis print journal old rows c → is_dirty_at address rows.a ≡ true → address * journal.geo.block + journal.geo.block ≤ disk_need journal.geo → Sure basis print journal new rows c
  sure_disk basis rows c sure dirty inside = record {
    version = sure.version;
    sits = record {
      stable = subst (λ (d : Device). IsStablePart d (region_at journal.geo 0) (regions_size journal.geo)) (sym same_flash) sure.sits.stable;
      each = λ bytes image. sure.sits.each bytes (subst (λ (d : Device). IsImage d bytes) same_flash image);
    };
    pace = sure.pace;
    fit = sure.fit;
    slots = λ slot listed. subst (λ (d : Device). IsStablePart d (slot_at journal.geo slot) journal.geo.block) (sym same_flash) (sure.slots slot listed);
    blocks = λ clean below is. lay_stable rows dirty clean is (sure.blocks clean below is);
    means = lay_means rows journal.committed c sure.fit dirty sure.means;
    size = omega (arith, sure.size, alters.same_size);
    flash_behind = λ bytes image. sure.flash_behind bytes (subst (λ (d : Device). IsImage d bytes) same_flash image);
    disk_behind = behind_still basis rows c sure inside;
  }

-- a number is among some with one more behind them
pub among_more : (n m : ℕ) (ns : List ℕ) → is_among n (ns ++ m ∷ []) ≡ true → (m ≡ n) ⊎ (is_among n ns ≡ true)
among_more n m ns h = ⊎_elim (λ was. inr was) (λ same. inl (sym (eqb-true n m same))) (or_cases (is_among n ns) (n == m) (sym (among_snoc n m ns) ∙ h))

module _ (basis : Basis) (print : List ℕ → Fp) (store : StoreView) (old new : World) (flash_shows : IsImage old.flash old.flash.shown) (disk_shows : IsImage old.disk old.disk.shown) (sized : disk_need store.journal.geo ≤ length old.disk.stable)
    (s : State) (is : IsStore store) (kept : Kept basis print store old s s) (address : ℕ) (may : MayLay store address)
    (alters : Alters (address * store.journal.geo.block) store.journal.geo.block old.disk new.disk) (same_flash : new.flash ≡ old.flash) where
  fits : address * store.journal.geo.block + store.journal.geo.block ≤ length old.disk.stable
  fits = omega (arith, block_within store.journal.geo address may.below, sized)

  rows_are : kept.rows ≡ store.table
  rows_are = (nothing_pending basis print store old flash_shows disk_shows s s is kept may.none).0

  dirty_there : is_dirty_at address kept.rows.a ≡ true
  dirty_there = ap (λ (t : Table). is_dirty_at address t.a) rows_are ∙ may.dirty

  isn_t_laid : (laid : ℕ) → is_among laid store.laid ≡ true → address ≡ laid → ⊥
  isn_t_laid laid there same = absurd (cc (there, may.unlaid, ap (λ n. is_among n store.laid) same))

  laid_stays : (laid : ℕ) → is_among laid store.laid ≡ true → disk_block store.journal.geo new.disk.shown laid ≡ content s.array laid
  laid_stays laid there = block_stays print store.journal old new address alters same_flash fits laid (isn_t_laid laid there) ∙ kept.holds.laid laid there

  -- whatever was written there, the same is kept
  pub kept_laying : Kept basis print store new s s
  kept_laying = kept_of basis print store new kept.rows s s
      (sure_disk print store.journal old new address alters same_flash fits basis kept.rows s (sure_of basis print store old flash_shows disk_shows s s kept) dirty_there (block_within store.journal.geo address may.below))
      kept.up kept.pace
      (record { means = lay_means print store.journal old new address alters same_flash fits store.table store.count s is.fit may.dirty kept.holds.means; laid = laid_stays })
      kept.replayed kept.slots_kept
      (λ clean below not_dirty. lay_stable print store.journal old new address alters same_flash fits store.table may.dirty clean not_dirty (kept.blocks_held clean below not_dirty))

  -- and where the disk shows the content there, it is laid
  pub kept_laid : disk_block store.journal.geo new.disk.shown address ≡ content s.array address → Kept basis print (laid_store address store) new s s
  kept_laid shows = record {
    up = kept_laying.up;
    pace = kept_laying.pace;
    holds = record {
      means = kept_laying.holds.means;
      laid = λ laid there. ⊎_elim (λ same. subst (λ n. disk_block store.journal.geo new.disk.shown n ≡ content s.array n) same shows) (λ was. laid_stays laid was) (among_more laid address store.laid there);
    };
    counted = kept_laying.counted;
    stands = kept_laying.stands;
    rows = kept_laying.rows;
    sits = kept_laying.sits;
    fit = kept_laying.fit;
    replayed = kept_laying.replayed;
    slots_stable = kept_laying.slots_stable;
    slots_kept = kept_laying.slots_kept;
    blocks_committed = kept_laying.blocks_committed;
    blocks_held = kept_laying.blocks_held;
  }

module _ (basis : Basis) (print : List ℕ → Fp) (store : StoreView) (old : World) (flash_shows : IsImage old.flash old.flash.shown) (disk_shows : IsImage old.disk old.disk.shown) (sized : disk_need store.journal.geo ≤ length old.disk.stable)
    (s : State) (is : IsStore store) (kept : Kept basis print store old s s) (address : ℕ) (may : MayLay store address) where
  -- a crash within the write
  pub while_laying : (o : Outcome) → WithinWrite Disk (address * store.journal.geo.block) store.journal.geo.block old o → Stands basis print o.flash o.disk s
  while_laying o within =
      let middle : World = on_device Disk (add_range (address * store.journal.geo.block) store.journal.geo.block) old in
      (kept_laying basis print store old middle flash_shows disk_shows sized s is kept address may (alters_within (address * store.journal.geo.block) store.journal.geo.block old.disk) refl).stands o.flash o.disk within.flash within.disk

  -- behind it, whether it failed or not
  pub once_laid : (new : World) → ShowsSome Disk (address * store.journal.geo.block) store.journal.geo.block old new → Kept basis print store new s s
  once_laid new shows =
      let changed = alters_disk (address * store.journal.geo.block) store.journal.geo.block old new shows in
      kept_laying basis print store old new flash_shows disk_shows sized s is kept address may changed.0 changed.1

  -- and where it succeeded with the content
  pub once_shown : (new : World) (bytes : List ℕ) → length bytes ≡ store.journal.geo.block → bytes ≡ content s.array address → ShowsSome Disk (address * store.journal.geo.block) store.journal.geo.block old new
      → new ≡ on_device Disk (write_bytes (address * store.journal.geo.block) bytes) old → Kept basis print (laid_store address store) new s s
  once_shown new bytes long content_is shows wrote =
      let changed = alters_disk (address * store.journal.geo.block) store.journal.geo.block old new shows in
      let there : part (overwrite (address * store.journal.geo.block) bytes old.disk.shown) (address * store.journal.geo.block) (length bytes) ≡ bytes =
      written_there (address * store.journal.geo.block) bytes old.disk.shown (omega (arith, long, block_within store.journal.geo address may.below, sized, disk_shows.same_length)) in
      kept_laid basis print store old new flash_shows disk_shows sized s is kept address may changed.0 changed.1
      (ap (λ (w : World). disk_block store.journal.geo w.disk.shown address) wrote
      ∙ ap (λ n. part (overwrite (address * store.journal.geo.block) bytes old.disk.shown) (address * store.journal.geo.block) n) (sym long)
      ∙ there ∙ content_is)

-- The same by the geometry, the place and the size that a call was given.
module _ (basis : Basis) (print : List ℕ → Fp) (store : StoreView) (old : World) (flash_shows : IsImage old.flash old.flash.shown) (disk_shows : IsImage old.disk old.disk.shown)
    (geo : Geometry) (same : store.journal.geo ≡ geo) (sized : disk_need geo ≤ length old.disk.stable)
    (s : State) (is : IsStore store) (kept : Kept basis print store old s s) (address : ℕ) (may : MayLay store address) (at n : ℕ) (at_is : at ≡ address * geo.block) (n_is : n ≡ geo.block) where
  its_size : disk_need store.journal.geo ≤ length old.disk.stable
  its_size = subst (λ (g : Geometry). disk_need g ≤ length old.disk.stable) (sym same) sized

  by_call : (P : ℕ → ℕ → Type 0) → P at n → P (address * store.journal.geo.block) store.journal.geo.block
  by_call P h = subst (λ (g : Geometry). P (address * g.block) g.block) (sym same) (subst (λ k. P (address * geo.block) k) n_is (subst (λ p. P p n) at_is h))

  pub laid_crash : (first last : Clock) → Elapses first last (WithinWrite Disk at n old) → Elapses first last (λ o. Stands basis print o.flash o.disk s)
  laid_crash first last within = widens (by_call (λ p k. Elapses first last (WithinWrite Disk p k old)) within) (while_laying basis print store old flash_shows disk_shows its_size s is kept address may)

  pub laid_kept : (new : World) → ShowsSome Disk at n old new → Kept basis print store new s s
  laid_kept new shows = once_laid basis print store old flash_shows disk_shows its_size s is kept address may new (by_call (λ p k. ShowsSome Disk p k old new) shows)

  pub laid_shows : (new : World) (bytes : List ℕ) → length bytes ≡ n → bytes ≡ content s.array address → ShowsSome Disk at n old new → new ≡ on_device Disk (write_bytes at bytes) old → Kept basis print (laid_store address store) new s s
  laid_shows new bytes long content_is shows wrote =
      once_shown basis print store old flash_shows disk_shows its_size s is kept address may new bytes
      (by_call (λ p k. length bytes ≡ k) long) content_is (by_call (λ p k. ShowsSome Disk p k old new) shows)
      (by_call (λ p k. new ≡ on_device Disk (write_bytes p bytes) old) wrote)
