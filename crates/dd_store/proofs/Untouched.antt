-- The slots of the flash read as they did, behind what writes the disk and the regions alone.
use Rattle.std.proofs.Common.{◌≡◌, inr, ⊎_elim, ◌*◌, Bool, true, false, length, Ok, Err, sym, ◌∙◌, ap, if◌then◌else◌}
use Rattle.std.specs.Prelude.{Result, IfOk}
use Rattle.dd_block.specs.Bytes.{part}
use Rattle.dd_block.specs.Geometry.{slot_count}
use Rattle.dd_block.specs.declared.geometry.Geometry.{Geometry}
use Rattle.dd_layout.specs.Layout.{region_at, slot_at}
use Rattle.dd_rig.specs.declared.device.Dev.TheVariants.{Flash, Disk}
use Rattle.dd_rig.specs.Device.{Device, IsImage}
use Rattle.dd_rig.specs.Leaves.{LeavesShown}
use Rattle.dd_rig.specs.World.{World, SyncsOrStays}
use Rattle.dd_model.specs.declared.done.Done.{Done}
use Rattle.dd_model.specs.declared.kind.Kind.TheVariants.{Dup, Miss, New}
use Rattle.dd_journal.specs.Sitting.{regions_size}
use Rattle.dd_store.specs.declared.fault.StoreFault.{StoreFault}
use Rattle.dd_store.specs.Keeping.{slots_shown}
use Rattle.dd_store.proofs.Parts.{part_outside, regions_before}

-- a commit
pub slots_outside : (geo : Geometry) (old new : World) → IsImage old.flash old.flash.shown → IsImage new.flash new.flash.shown → length new.flash.stable ≡ length old.flash.stable
    → LeavesShown Flash (region_at geo 0) (regions_size geo) old new → slots_shown geo new ≡ slots_shown geo old
slots_outside geo old new shows shows_now same_size leaves =
    part_outside (region_at geo 0) (regions_size geo) (slot_at geo 0) (slot_count geo * geo.block) old.flash.shown new.flash.shown
    (shows.same_length ∙ sym same_size ∙ sym shows_now.same_length) leaves.same_shown (inr (regions_before geo 0))

-- a sync of the disk
pub synced_flash : (old new : World) → SyncsOrStays Disk old new → new.flash ≡ old.flash
synced_flash old new syncs = ⊎_elim (λ same. ap (λ (w : World). w.flash) same) (λ synced. ap (λ (w : World). w.flash) synced) syncs

-- calls behind which the slots are the same, and then some that leave the flash
pub slots_then : (geo : Geometry) (old middle new : World) → slots_shown geo middle ≡ slots_shown geo old → new.flash ≡ middle.flash → slots_shown geo new ≡ slots_shown geo old
slots_then geo old middle new first next = ap (λ (d : Device). part d.shown (slot_at geo 0) (slot_count geo * geo.block)) next ∙ first

pub for_dup : (P : Type 0) (result : Result Done StoreFault) → P → IfOk result (λ done. done.kind ≡ Dup → P)
for_dup P (Ok done) p = λ dup. p
for_dup P (Err fault) p = tt

fresh_no_dup : (dirty : Bool) → (if dirty then New else Miss) ≡ Dup → ⊥
fresh_no_dup true is = cc is
fresh_no_dup false is = cc is

-- a block that isn't listed makes no dup
pub fresh_dup : (P : Type 0) (dirty : Bool) (result : Result Done StoreFault) → IfOk result (λ done. done.kind ≡ (if dirty then New else Miss)) → IfOk result (λ done. done.kind ≡ Dup → P)
fresh_dup P dirty (Ok done) is = λ dup. absurd (fresh_no_dup dirty (sym is ∙ dup))
fresh_dup P dirty (Err fault) is = tt
