-- A slot is written that neither the committed rows nor the store's list.
use Rattle.std.proofs.Common.{◌≡◌, ℕ, ◌+◌, ◌*◌, ◌≤◌, Bool, true, false, List, length, refl, sym, ◌∙◌, ap, subst, arith, Some}
use Rattle.dd_block.specs.Bytes.{part}
use Rattle.dd_block.specs.Geometry.{slot_count}
use Rattle.dd_block.specs.declared.geometry.Geometry.{Geometry}
use Rattle.dd_block.specs.declared.print.Fp.{Fp}
use Rattle.dd_rig.specs.declared.device.Dev.TheVariants.{Flash}
use Rattle.dd_rig.specs.Device.{Device, IsImage, add_range}
use Rattle.dd_rig.specs.Clock.{Clock, Elapses}
use Rattle.dd_rig.proofs.Moments.{widens}
use Rattle.dd_rig.specs.World.{World, Outcome, WithinWrite, ShowsSome, on_device}
use Rattle.dd_slots.specs.declared.usage.Usage.TheVariants.{Free}
use Rattle.dd_slots.specs.Slots.{SlotsView, count_of, slot_from, slots_end, block_in, use_of, is_free, SavesSome, WithinSave}
use Rattle.dd_layout.specs.Layout.{slot_at, slot_block, disk_block, flash_need}
use Rattle.dd_record.specs.Table.{has_slot}
use Rattle.dd_model.specs.State.{State}
use Rattle.dd_journal.specs.Sitting.{IsStablePart}
use Rattle.dd_store.specs.Meaning.{Basis, Stands}
use Rattle.dd_store.specs.Keeping.{StoreView, IsStore, Holds, Kept, is_spare}
use Rattle.dd_store.specs.Saving.{AreSlotsOf, HasSlots}
use Rattle.dd_store.proofs.Altering.{Alters, alters_within, alters_flash}
use Rattle.dd_store.proofs.Parts.{slot_within}
use Rattle.dd_store.proofs.Sure.{Sure, sure_of, kept_of, sure_flash, means_still}
use Rattle.dd_store.proofs.Uses.{spare_unlisted, spare_below}

module _ (basis : Basis) (print : List ℕ → Fp) (store : StoreView) (old new : World) (flash_shows : IsImage old.flash old.flash.shown) (disk_shows : IsImage old.disk old.disk.shown) (sized : flash_need store.journal.geo ≤ length old.flash.stable)
    (c s : State) (kept : Kept basis print store old c s) (is : IsStore store) (slot : ℕ) (spare : is_spare slot store.uses ≡ true)
    (alters : Alters (slot_at store.journal.geo slot) store.journal.geo.block old.flash new.flash) (same_disk : new.disk ≡ old.disk) where
  -- a spare slot isn't listed in the committed rows
  is_not : (b : Bool) → has_slot slot kept.rows.b ≡ b → b ≡ false
  is_not true listed = absurd (cc (kept.slots_kept slot listed, spare))
  is_not false listed = refl

  unlisted : has_slot slot kept.rows.b ≡ false
  unlisted = is_not (has_slot slot kept.rows.b) refl

  inside : slot_at store.journal.geo slot + store.journal.geo.block ≤ flash_need store.journal.geo
  inside = slot_within store.journal.geo slot (spare_below store is slot spare)

  fits : slot_at store.journal.geo slot + store.journal.geo.block ≤ length old.flash.stable
  fits = omega (arith, inside, sized)

  sure : Sure basis print store.journal new kept.rows c
  sure = sure_flash basis print store.journal old new kept.rows c (sure_of basis print store old flash_shows disk_shows c s kept) slot unlisted alters same_disk fits inside

  -- whatever was written there, the same is kept
  pub kept_saving : Kept basis print store new c s
  kept_saving = kept_of basis print store new kept.rows c s sure kept.up kept.pace
      (record {
        means = means_still print store.journal old new slot alters same_disk fits store.table store.count s is.fit (spare_unlisted store is slot spare) kept.holds.means;
        laid = λ address is. ap (λ (d : Device). disk_block store.journal.geo d.shown address) same_disk ∙ kept.holds.laid address is;
      })
      kept.replayed kept.slots_kept
      (λ address below clean. subst (λ (d : Device). IsStablePart d (address * store.journal.geo.block) store.journal.geo.block) (sym same_disk) (kept.blocks_held address below clean))

module _ (basis : Basis) (print : List ℕ → Fp) (store : StoreView) (old : World) (flash_shows : IsImage old.flash old.flash.shown) (disk_shows : IsImage old.disk old.disk.shown) (sized : flash_need store.journal.geo ≤ length old.flash.stable)
    (c s : State) (kept : Kept basis print store old c s) (is : IsStore store) (slot : ℕ) (spare : is_spare slot store.uses ≡ true) where
  -- a crash within the write
  pub while_saving : (o : Outcome) → WithinWrite Flash (slot_at store.journal.geo slot) store.journal.geo.block old o → Stands basis print o.flash o.disk c
  while_saving o within =
      let middle : World = on_device Flash (add_range (slot_at store.journal.geo slot) store.journal.geo.block) old in
      (kept_saving basis print store old middle flash_shows disk_shows sized c s kept is slot spare (alters_within (slot_at store.journal.geo slot) store.journal.geo.block old.flash) refl).stands o.flash o.disk within.flash within.disk

  -- and behind it, whether it failed or not
  pub once_saved : (new : World) → ShowsSome Flash (slot_at store.journal.geo slot) store.journal.geo.block old new → Kept basis print store new c s
  once_saved new shows =
      let changed = alters_flash (slot_at store.journal.geo slot) store.journal.geo.block old new shows in
      kept_saving basis print store old new flash_shows disk_shows sized c s kept is slot spare changed.0 changed.1

-- The same by the slots of the flash.
slot_place : (geo : Geometry) (slots : SlotsView) (slot : ℕ) → AreSlotsOf geo slots → slot_from slots slot ≡ slot_at geo slot
slot_place geo slots slot placed = ap (λ n. slots.base + slot * n) placed.size ∙ ap (λ n. n + slot * geo.block) placed.from ∙ omega arith

-- the block in a slot
pub block_there : (geo : Geometry) (slots : SlotsView) (flash : List ℕ) (slot : ℕ) → AreSlotsOf geo slots → block_in slots flash slot ≡ slot_block geo flash slot
block_there geo slots flash slot placed = ap (λ at. part flash at slots.block) (slot_place geo slots slot placed) ∙ ap (λ n. part flash (slot_at geo slot) n) placed.size

-- they end where the flash that is used ends
pub slots_need : (geo : Geometry) (slots : SlotsView) → AreSlotsOf geo slots → slots_end slots ≡ flash_need geo
slots_need geo slots placed = ap (λ n. slots.base + count_of slots * n) placed.size ∙ ap (λ n. slots.base + n * geo.block) placed.count ∙ ap (λ n. n + slot_count geo * geo.block) placed.from ∙ omega arith

module _ (basis : Basis) (print : List ℕ → Fp) (store : StoreView) (old : World) (flash_shows : IsImage old.flash old.flash.shown) (disk_shows : IsImage old.disk old.disk.shown)
    (c s : State) (kept : Kept basis print store old c s) (is : IsStore store) (slots : SlotsView) (has : HasSlots store slots) (large : slots_end slots ≤ length old.flash.stable)
    (slot : ℕ) (free : use_of slots slot ≡ Some Free) where
  placed : AreSlotsOf store.journal.geo slots
  placed = has.placed

  spare : is_spare slot store.uses ≡ true
  spare = ap (is_spare slot) has.same ∙ ap is_free free

  sized : flash_need store.journal.geo ≤ length old.flash.stable
  sized = omega (arith, slots_need store.journal.geo slots placed, large)

  by_slots : (P : ℕ → ℕ → Type 0) → P (slot_from slots slot) slots.block → P (slot_at store.journal.geo slot) store.journal.geo.block
  by_slots P h = subst (λ at. P at store.journal.geo.block) (slot_place store.journal.geo slots slot placed) (subst (λ n. P (slot_from slots slot) n) placed.size h)

  pub saved_crash : (first last : Clock) → Elapses first last (WithinSave slots slot old) → Elapses first last (λ o. Stands basis print o.flash o.disk c)
  saved_crash first last within = widens (by_slots (λ at n. Elapses first last (WithinWrite Flash at n old)) within) (while_saving basis print store old flash_shows disk_shows sized c s kept is slot spare)

  pub saved_kept : (new : World) → SavesSome slots slot old new → Kept basis print store new c s
  saved_kept new shows = once_saved basis print store old flash_shows disk_shows sized c s kept is slot spare new (by_slots (λ at n. ShowsSome Flash at n old new) shows)

-- what a store holds behind a write of a slot that it may use, whatever is committed
pub saved_holds : (print : List ℕ → Fp) (store : StoreView) (old new : World) (s : State) (is : IsStore store) (slots : SlotsView) → HasSlots store slots → slots_end slots ≤ length old.flash.stable
    → (slot : ℕ) → use_of slots slot ≡ Some Free → SavesSome slots slot old new → Holds print store old s → Holds print store new s
saved_holds print store old new s is slots has large slot free shows holds =
    let spare : is_spare slot store.uses ≡ true = ap (is_spare slot) has.same ∙ ap is_free free in
    let sized : flash_need store.journal.geo ≤ length old.flash.stable = omega (arith, slots_need store.journal.geo slots has.placed, large) in
    let fits : slot_at store.journal.geo slot + store.journal.geo.block ≤ length old.flash.stable = omega (arith, slot_within store.journal.geo slot (spare_below store is slot spare), sized) in
    let wrote : ShowsSome Flash (slot_at store.journal.geo slot) store.journal.geo.block old new =
    subst (λ at. ShowsSome Flash at store.journal.geo.block old new) (slot_place store.journal.geo slots slot has.placed) (subst (λ n. ShowsSome Flash (slot_from slots slot) n old new) has.placed.size shows) in
    let changed = alters_flash (slot_at store.journal.geo slot) store.journal.geo.block old new wrote in
    record {
      means = means_still print store.journal old new slot changed.0 changed.1 fits store.table store.count s is.fit (spare_unlisted store is slot spare) holds.means;
      laid = λ address there. ap (λ (d : Device). disk_block store.journal.geo d.shown address) changed.1 ∙ holds.laid address there;
    }
