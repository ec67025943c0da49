-- A store that lays one address.
use Rattle.std.proofs.Common.{◌≡◌, inr, ⊎_elim, ℕ, ◌<◌, ◌==◌, Bool, true, false, cond, List, [], ◌∷◌, length, refl, sym, ◌∙◌, ap, subst, arith, Some, length-append}
use Rattle.std.specs.Prelude.{Ok, Err}
use Rattle.std.proofs.lemmas.Bool.{eqb-true}
use Rattle.dd_block.specs.declared.print.Fp.{Fp}
use Rattle.dd_block.specs.declared.geometry.Geometry.{Geometry}
use Rattle.dd_block.specs.Geometry.{slot_count}
use Rattle.dd_rig.specs.Device.{IsImage}
use Rattle.dd_rig.specs.World.{World}
use Rattle.dd_rig.specs.Clock.{Clock, Elapses}
use Rattle.dd_rig.proofs.Moments.{widens}
use Rattle.dd_slots.proofs.Numbers.{distinct_snoc}
use Rattle.dd_record.specs.declared.row.ARow.{ARow}
use Rattle.dd_record.specs.declared.row.Link.{Link}
use Rattle.dd_record.specs.declared.row.Link.TheVariants.{Lost, Slot, Zero}
use Rattle.dd_record.specs.Spelling.{IsA, IsLinkWith}
use Rattle.dd_record.specs.Table.{a_row, is_dirty, is_dirty_at, is_link}
use Rattle.dd_model.specs.State.{State}
use Rattle.dd_model.specs.Listing.{IsLinkBelow}
use Rattle.dd_store.specs.declared.fault.StoreFault.{StoreFault}
use Rattle.dd_store.specs.declared.fault.StoreFault.TheVariants.{FlashRead, DiskWrite}
use Rattle.dd_store.specs.Meaning.{Basis, Stands}
use Rattle.dd_store.specs.Keeping.{StoreView, IsStore, Kept}
use Rattle.dd_store.specs.Laying.{MayLay, MayLayRow, laid_store, IsPlacedRow}
use Rattle.dd_store.specs.Serving.{Serves}
use Rattle.dd_store.proofs.Committing.{nothing_pending}
use Rattle.dd_store.proofs.Laying.{among_more}
use Rattle.dd_store.proofs.LayingRow.{found_row}

-- its type keeps what it keeps
pub laid_one_is : (store : StoreView) (address : ℕ) → IsStore store → MayLay store address → length store.laid < store.journal.geo.group → IsStore (laid_store address store)
laid_one_is store address is may few = record {
  journal_up = is.journal_up;
  version = is.version;
  rows = is.rows;
  fit = is.fit;
  few = is.few;
  records = is.records;
  counted = is.counted;
  sized = is.sized;
  used = is.used;
  named = is.named;
  dirty = is.dirty;
  laid = λ at there. ⊎_elim (λ same. ap (λ n. is_dirty_at n store.table.a) (sym same) ∙ may.dirty) (λ was. is.laid at was) (among_more at address store.laid there);
  laid_once = distinct_snoc store.laid address is.laid_once may.unlaid;
  few_laid = omega (arith, length-append store.laid (address ∷ []), few);
  laid_alone = inr may.none;
}

-- the row of an address
pub found_address : (address : ℕ) (rows : List ARow) (row : ARow) → a_row address rows ≡ Some row → row.address ≡ address
found_address address [] row is = absurd (cc is)
found_address address (r ∷ rows) row is = by_test (λ e. found_address address rows row e) (r.address == address) refl is
  where
    by_test : (a_row address rows ≡ Some row → row.address ≡ address) → (b : Bool) → (r.address == address) ≡ b → cond b (Some r) (a_row address rows) ≡ Some row → row.address ≡ address
    by_test next true here e = let same : r ≡ row = cc e in ap (λ (x : ARow). x.address) (sym same) ∙ eqb-true r.address address here
    by_test next false other e = next e

module _ (store : StoreView) (is : IsStore store) (address : ℕ) (row : ARow) (found : a_row address store.table.a ≡ Some row) where
  keeps : IsA store.journal.geo store.journal.version row
  keeps = found_row (IsA store.journal.geo store.journal.version) address store.table.a row is.rows.a_rows found

  link_below : (link : Link) → IsLinkWith store.journal.geo store.journal.version link row.fp → IsLinkBelow (slot_count store.journal.geo) link
  link_below Lost with = tt
  link_below (Slot slot) with = with
  link_below Zero with = tt

  pub row_at : row.address ≡ address
  row_at = found_address address store.table.a row found

  pub row_placed : (geo : Geometry) → store.journal.geo ≡ geo → IsPlacedRow geo row
  row_placed geo same = subst (λ (g : Geometry). IsPlacedRow g row) same (keeps.address, link_below row.link keeps.link)

  pub row_linked : MayLay store address → is_link row.link ≡ true
  row_linked may = keeps.linked (ap is_dirty (sym found) ∙ may.dirty)

  pub row_may : MayLay store address → MayLayRow store row
  row_may may = record {
    listed = ap (λ n. a_row n store.table.a) row_at ∙ found;
    dirty = ap is_dirty (sym found) ∙ may.dirty;
    may = subst (λ n. MayLay store n) (sym row_at) may;
  }

-- what the call serves
module _ (basis : Basis) (print : List ℕ → Fp) (store : StoreView) (old : World) (flash_shows : IsImage old.flash old.flash.shown) (disk_shows : IsImage old.disk old.disk.shown) (c s : State) (is : IsStore store) (kept : Kept basis print store old c s)
    (none : store.pending ≡ []) where
  pub one_state : Kept basis print store old s s
  one_state = subst (λ (state : State). Kept basis print store old state s) (nothing_pending basis print store old flash_shows disk_shows c s is kept none).1 kept

module _ (basis : Basis) (print : List ℕ → Fp) (new : World) (c s : State) (first last : Clock) (crash : Elapses first last (λ o. Stands basis print o.flash o.disk s)) where
  -- behind Ok, or a failed read
  pub lay_serves : {T : Type 0} (value : T) (store : StoreView) → Kept basis print store new s s → Serves {T = T} basis print (Ok value) first last store new c s s
  lay_serves value store held = record { crash = widens crash (λ o stands. inr stands); leaves = record { committed = s; either = inr refl; kept = held } }

  pub read_fails : {T : Type 0} (fault : StoreFault) → fault ≡ FlashRead → (store : StoreView) → Kept basis print store new s s → Serves {T = T} basis print (Err fault) first last store new c s s
  read_fails {T} fault is store held =
      subst (λ (f : StoreFault). Serves {T = T} basis print (Err f) first last store new c s s) (sym is)
      (record { crash = widens crash (λ o stands. inr stands); leaves = record { committed = s; either = inr refl; kept = held } })

  -- behind a failed write
  pub write_fails : {T : Type 0} (fault : StoreFault) → fault ≡ DiskWrite → (store down : StoreView) → Kept basis print store new s s → Serves {T = T} basis print (Err fault) first last down new c s s
  write_fails {T} fault is store down held =
      subst (λ (f : StoreFault). Serves {T = T} basis print (Err f) first last down new c s s) (sym is) (record {
        crash = widens crash (λ o stands. inr stands);
        leaves = λ flash disk flash_image disk_image. inr (held.stands flash disk flash_image disk_image);
      })
