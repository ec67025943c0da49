-- A store over what was found.
use Rattle.std.proofs.Common.{◌≡◌, ℕ, ◌+◌, ◌<◌, ◌≤◌, ◌^◌, true, List, [], length, refl, sym, ◌∙◌, ap, subst, arith, Some, Ok, Err}
use Rattle.std.specs.Prelude.{Result, IfOk}
use Rattle.std.specs.Result.{MatchResult, is_ok}
use Rattle.std.proofs.lemmas.List.{length-map}
use Rattle.std.proofs.lemmas.List.Sums.{count_by-le-length}
use Rattle.dd_block.specs.declared.geometry.Geometry.{Geometry}
use Rattle.dd_block.specs.declared.print.Fp.{Fp}
use Rattle.dd_rig.specs.declared.device.Dev.{Dev}
use Rattle.dd_rig.specs.declared.device.Dev.TheVariants.{Flash, Disk}
use Rattle.dd_rig.specs.World.{World}
use Rattle.dd_layout.specs.Layout.{flash_need, disk_need}
use Rattle.dd_record.specs.Table.{Table}
use Rattle.dd_record.specs.Replay.{raises, replay}
use Rattle.dd_model.specs.Listing.{Listing, IsListing}
use Rattle.dd_model.specs.State.{State}
use Rattle.dd_model.proofs.Restored.{dirty_few}
use Rattle.dd_journal.specs.declared.found.Found.{Found}
use Rattle.dd_journal.specs.declared.found.Placed.{Placed}
use Rattle.dd_journal.specs.Found.{IsFound, found_table, found_records}
use Rattle.dd_journal.specs.Sitting.{JournalView, Sits}
use Rattle.dd_store.specs.Keeping.{StoreView, Kept}
use Rattle.dd_store.specs.Meaning.{HasBehind, Basis, KeepsPace, Means}
use Rattle.dd_store.specs.Serving.{HasLimits, store_of}
use Rattle.dd_recover.specs.Opening.{IsOpened}
use Rattle.dd_recover.specs.Stages.{FoundMeans}

-- what holds of an Ok holds of it behind a call that changes no Ok
pub ok_along : (T E F : Type 0) (P Q : T → Type 0) (R : E → Type 0) (was : Result T E) (now : Result T F) → MatchResult was (λ x. now ≡ Ok x) R → is_ok now ≡ is_ok was
    → ((x : T) → P x → Q x) → IfOk was P → IfOk now Q
ok_along T E F P Q R (Ok x) now is same here h = subst (λ (r : Result T F). IfOk r Q) (sym is) (here x h)
ok_along T E F P Q R (Err e) (Ok x) is same here h = absurd (cc same)
ok_along T E F P Q R (Err e) (Err f) is same here h = tt

module _ (geo : Geometry) (found : Found) (is : IsFound geo found) where
  same_geo : found.journal.geo ≡ geo
  same_geo = ap (λ (j : JournalView). j.geo) is.journal

  -- as many records as a log has
  few_records : found.journal.committed < 2 ^ 62 + 2 ^ 19
  few_records = omega (
    arith,
    ap (λ (j : JournalView). j.committed) is.journal,
    count_by-le-length raises (found_records found),
    length-map found.recs.items (λ (p : Placed). p.rec),
    is.few,
    is.count,
    geo.log_most,
  )

  -- a store over lists that are kept
  pub opened_is : (lists : Listing) (count : ℕ) (size : Dev → ℕ) (store : StoreView) → IsListing lists → HasLimits geo lists → count ≡ found.journal.committed
      → flash_need geo ≤ size Flash → disk_need geo ≤ size Disk → store ≡ store_of true found.journal lists count [] store.uses [] → IsOpened store size
  opened_is lists count size store kept limits counted flash disk same =
      let below : count < 2 ^ 62 + 2 ^ 19 = omega (arith, counted, few_records) in
      let young : found.journal.epoch < 2 ^ 62 = omega (arith, ap (λ (j : JournalView). j.epoch) is.journal, is.epoch) in
      let few : length lists.dirty ≤ found.journal.geo.acap = omega (arith, dirty_few lists kept, limits.acap, ap (λ (g : Geometry). g.acap) same_geo) in
      let here : IsOpened (store_of true found.journal lists count [] store.uses []) size = record {
        up = refl;
        flash = subst (λ (g : Geometry). flash_need g ≤ size Flash) (sym same_geo) flash;
        disk = subst (λ (g : Geometry). disk_need g ≤ size Disk) (sym same_geo) disk;
        epoch = young;
        count = below;
        committed = counted;
        pending = refl;
        laid = refl;
        dirty = few;
      } in
      subst (λ (v : StoreView). IsOpened v size) (sym same) here

-- a store that keeps what both devices mean by the rows that it was made of
pub found_kept : (basis : Basis) (print : List ℕ → Fp) (geo : Geometry) (found : Found) (world : World) (s : State) (rows : Table) (count : ℕ) (store : StoreView)
    → replay geo.acap geo.bcap (found_records found) (found_table found) ≡ Some rows → count ≡ found.journal.committed
    → (Sits found.journal world rows → KeepsPace basis.room found.journal.epoch rows.a count → HasBehind basis geo world.flash.shown world.disk.shown → Means print geo world.flash.shown world.disk.shown rows count s → Kept basis print store world s s)
    → FoundMeans basis print geo found world s → Kept basis print store world s s
found_kept basis print geo found world s rows count store replayed counted keeps means =
    let both : Some means.rows ≡ Some rows = sym means.replayed ∙ replayed in
    let one : means.rows ≡ rows = cc both in
    keeps (subst (λ (t : Table). Sits found.journal world t) one means.sits)
    (subst (λ (n : ℕ). KeepsPace basis.room found.journal.epoch rows.a n) (sym counted) (subst (λ (t : Table). KeepsPace basis.room found.journal.epoch t.a found.journal.committed) one means.pace))
    means.behind
    (subst (λ (n : ℕ). Means print geo world.flash.shown world.disk.shown rows n s) (sym counted)
    (subst (λ (t : Table). Means print geo world.flash.shown world.disk.shown t found.journal.committed s) one means.means))
