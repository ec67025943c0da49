-- A format from call to call.
use Rattle.std.proofs.Common.{◌≡◌, ◌≢◌, inr, ℕ, ◌≤◌, List, length, get_or, take, drop, Ok, Err, ◌∙◌, ap, subst}
use Rattle.std.specs.Prelude.{Result, OnOk}
use Rattle.std.specs.Result.{is_ok}
use Rattle.dd_block.specs.declared.print.Fp.{Fp}
use Rattle.dd_block.specs.declared.geometry.Geometry.{Geometry}
use Rattle.dd_layout.specs.Layout.{flash_need, disk_need}
use Rattle.dd_layout.specs.Super.{super_text}
use Rattle.dd_rig.specs.Device.{IsImage}
use Rattle.dd_rig.specs.World.{World, Outcome}
use Rattle.dd_journal.specs.Gates.{open_over, WithinPublish}
use Rattle.dd_recover.specs.Formatting.{IsFormatted, IsUnusedOrFormatted}
use Rattle.dd_recover.specs.Writing.{super_body, settled, with_regions, formatted_world, WithinFormat}
use Rattle.dd_recover.proofs.Laying.{while_formatting, is_formatted}
use Rattle.dd_recover.proofs.Texts.{super_body_is}

-- the superblock is published once the regions are written
pub then_published : (geo : Geometry) (text : List ℕ) → text ≡ super_text geo → (old middle new : World) → middle ≡ with_regions geo old
    → new ≡ open_over 0 (take 63 (drop 1 text)) middle → new ≡ formatted_world geo old
then_published geo text is old middle new first second =
    second ∙ ap (λ (b : List ℕ). open_over 0 b middle) (super_body_is geo text is) ∙ ap (open_over 0 (super_body geo)) first

pub while_published : (geo : Geometry) (text : List ℕ) → text ≡ super_text geo → (old middle : World) → middle ≡ with_regions geo old
    → (o : Outcome) → WithinPublish 0 (take 63 (drop 1 text)) middle o → WithinFormat geo old o
while_published geo text is old middle first o within =
    inr (subst (λ (w : World). WithinPublish 0 (super_body geo) w o) first (subst (λ (b : List ℕ). WithinPublish 0 b middle o) (super_body_is geo text is) within))

-- the devices as they are tested, synced and written
module _ (geo : Geometry) (world tested synced : World) (is_tested : tested ≡ world) (is_synced : synced ≡ settled tested)
    (sized : flash_need geo ≤ length world.flash.shown) (room : disk_need geo ≤ length world.disk.shown) (unused : get_or world.flash.shown 0 0 ≢ 1) where
  synced_is : synced ≡ settled world
  synced_is = is_synced ∙ ap settled is_tested

  pub while_written : (print : List ℕ → Fp) (o : Outcome) → WithinFormat geo synced o → IsUnusedOrFormatted print geo world o.flash o.disk
  while_written print o within = while_formatting geo world sized unused print room o (subst (λ (w : World). WithinFormat geo w o) synced_is within)

  once_written : (new : World) → new ≡ formatted_world geo synced → (print : List ℕ → Fp) (flash disk : List ℕ) → IsImage new.flash flash → IsImage new.disk disk → IsFormatted print geo world flash disk
  once_written new is print flash disk image other =
      let now : new ≡ formatted_world geo (settled world) = is ∙ ap (formatted_world geo) synced_is in
      is_formatted geo world sized unused print room flash disk
      (subst (λ (w : World). IsImage w.flash flash) now image) (subst (λ (w : World). IsImage w.disk disk) now other)

  -- an answer that is Ok where the writes were
  pub once_ok : {E F : Type 0} (answer : Result Unit F) (wrote : Result Unit E) → is_ok answer ≡ is_ok wrote → (new : World) → OnOk wrote (new ≡ formatted_world geo synced)
      → OnOk answer ((print : List ℕ → Fp) (flash disk : List ℕ) → IsImage new.flash flash → IsImage new.disk disk → IsFormatted print geo world flash disk)
  once_ok (Ok done) (Ok other) same new is = once_written new is
  once_ok (Ok done) (Err e) same new is = absurd (cc same)
  once_ok (Err f) wrote same new is = tt
