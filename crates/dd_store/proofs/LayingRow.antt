-- A dirty row that is laid: what is written is the content of its address.
use Rattle.std.proofs.Common.{◌≡◌, ℕ, ◌<◌, ◌==◌, Bool, true, false, cond, List, [], ◌∷◌, length, replicate, sym, ◌∙◌, ap, subst, arith, Some}
use Rattle.std.specs.List.{AllByRecursion}
use Rattle.dd_block.specs.declared.print.Fp.{Fp}
use Rattle.dd_block.specs.declared.geometry.Geometry.{Geometry}
use Rattle.dd_rig.specs.Clock.{Clock, Elapses, AddsNone}
use Rattle.dd_rig.specs.World.{World, Outcome}
use Rattle.dd_rig.proofs.Moments.{starts, goes_on, goes_on_same}
use Rattle.dd_slots.specs.Slots.{SlotsView, block_in}
use Rattle.dd_layout.specs.Layout.{slot_block}
use Rattle.dd_record.specs.declared.row.ARow.{ARow}
use Rattle.dd_record.specs.declared.row.Link.{Link}
use Rattle.dd_record.specs.declared.row.Link.TheVariants.{Slot, Zero}
use Rattle.dd_record.specs.Table.{a_row}
use Rattle.dd_model.specs.State.{State, content, is_zero_block}
use Rattle.dd_model.specs.Rows.{LinkTells, RowTells}
use Rattle.dd_model.proofs.Zeros.{zeros_are, zeros_same}
use Rattle.dd_store.specs.Keeping.{StoreView, Holds, Kept}
use Rattle.dd_store.specs.Laying.{MayLayRow}
use Rattle.dd_store.specs.Saving.{AreSlotsOf}
use Rattle.dd_store.proofs.Saving.{block_there}
use Rattle.dd_store.proofs.Sole.{length_at}
use Rattle.dd_store.specs.Meaning.{Basis}

-- a call that leaves the world as it was
pub kept_read : (basis : Basis) (print : List ℕ → Fp) (store : StoreView) (old new : World) (c s : State) → new ≡ old → Kept basis print store old c s → Kept basis print store new c s
kept_read basis print store old new c s same kept = subst (λ (w : World). Kept basis print store w c s) (sym same) kept

pub holds_read : (print : List ℕ → Fp) (store : StoreView) (old new : World) (s : State) → new ≡ old → Holds print store old s → Holds print store new s
holds_read print store old new s same holds = subst (λ (w : World). Holds print store w s) (sym same) holds

pub behind_read : {first middle last : Clock} {P : Outcome → Type 0} → AddsNone first middle → Elapses middle last P → Elapses first last P
behind_read {first} {P = P} read call = goes_on (goes_on_same (starts first P) read) call (λ o here. here)

-- what holds of each row holds of the one that is found
pub found_row : (P : ARow → Type 0) (address : ℕ) (rows : List ARow) (row : ARow) → AllByRecursion P rows → a_row address rows ≡ Some row → P row
found_row P address [] row all is = absurd (cc is)
found_row P address (r ∷ rows) row all is = by_test (λ e. found_row P address rows row all.1 e) (r.address == address) is
  where
    by_test : (a_row address rows ≡ Some row → P row) → (b : Bool) → cond b (Some r) (a_row address rows) ≡ Some row → P row
    by_test next true e = let same : r ≡ row = cc e in subst P same all.0
    by_test next false e = next e

module _ (print : List ℕ → Fp) (store : StoreView) (world : World) (geo : Geometry) (same : store.journal.geo ≡ geo) (s : State) (holds : Holds print store world s) (row : ARow) (may : MayLayRow store row) where
  tells : RowTells print (slot_block store.journal.geo world.flash.shown) s.array row
  tells = found_row (RowTells print (slot_block store.journal.geo world.flash.shown) s.array) row.address store.table.a row holds.means.lists.a_rows may.listed

  by_link : (link : Link) → row.link ≡ link → LinkTells print (slot_block store.journal.geo world.flash.shown) (content s.array row.address) link row.fp
  by_link link is = subst (λ (l : Link). LinkTells print (slot_block store.journal.geo world.flash.shown) (content s.array row.address) l row.fp) is tells

  -- the slot of a row holds it
  pub slot_content : (slots : SlotsView) (slot : ℕ) → AreSlotsOf geo slots → row.link ≡ Slot slot → block_in slots world.flash.shown slot ≡ content s.array row.address
  slot_content slots slot placed is = block_there geo slots world.flash.shown slot placed ∙ ap (λ (g : Geometry). slot_block g world.flash.shown slot) (sym same) ∙ (by_link (Slot slot) is).0

  -- and that of a zero row is zeros
  pub zero_content : (zeros : List ℕ) → zeros ≡ replicate geo.block 0 → length zeros ≡ geo.block → row.link ≡ Zero → zeros ≡ content s.array row.address
  zero_content zeros are long is =
      let inside : row.address < length s.array = omega (arith, may.may.below, holds.means.array_length) in
      let its_length : length (content s.array row.address) ≡ store.journal.geo.block = length_at store.journal.geo.block s.array row.address holds.means.array_blocks inside in
      let size : store.journal.geo.block ≡ geo.block = ap (λ (g : Geometry). g.block) same in
      zeros_same zeros (content s.array row.address) (ap is_zero_block are ∙ zeros_are geo.block) (by_link Zero is).0 (long ∙ sym size ∙ sym its_length)
