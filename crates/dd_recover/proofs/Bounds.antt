-- A crash within a format leaves what a crash within one write of the superblock and both regions may.
use Rattle.std.proofs.Common.{◌≡◌, ◌⊎◌, inl, inr, ℕ, ◌+◌, ◌<◌, ◌≤◌, [], ◌∷◌, ◌∙◌, ap, subst, arith}
use Rattle.dd_block.specs.declared.geometry.Geometry.{Geometry}
use Rattle.dd_layout.specs.Layout.{region_at}
use Rattle.dd_rig.specs.declared.device.Dev.TheVariants.{Flash}
use Rattle.dd_rig.specs.Device.{IsImage, add_range, overwrite}
use Rattle.dd_rig.specs.World.{World, Outcome, WithinWrite}
use Rattle.dd_rig.proofs.Images.{sync_adds_none}
use Rattle.dd_rig.proofs.Overwrite.{overwrite_outside}
use Rattle.dd_journal.specs.Sitting.{regions_size}
use Rattle.dd_recover.specs.Formatting.{first_text}
use Rattle.dd_recover.specs.Writing.{super_body, settled, WithinFormat}
use Rattle.dd_recover.proofs.Laying.{regions_over, length-body_over}
use Rattle.dd_recover.proofs.Texts.{length-super_body}

-- all bytes of the superblock and of both regions
abbrev front : Geometry → ℕ
front geo = 64 + regions_size geo

is_behind : (n place : ℕ) → (place < 0) ⊎ (0 + n ≤ place) → n ≤ place
is_behind n place (inl before) = absurd (omega arith)
is_behind n place (inr behind) = omega arith

module _ (geo : Geometry) (world : World) (shows : IsImage world.flash world.flash.shown) (other : IsImage world.disk world.disk.shown) where
  flash_within : (o : Outcome) → WithinFormat geo (settled world) o → IsImage (add_range 0 (front geo) world.flash) o.flash
  flash_within o (inl within) = record {
    same_length = within.flash.same_length ∙ shows.same_length;
    same_outside = λ place out.
        let behind = is_behind (front geo) place out.0 in
        within.flash.same_outside place (inr (omega arith), tt) ∙ shows.same_outside place out.1;
  }
  flash_within o (inr (inl within)) = record {
    same_length = within.flash.same_length ∙ shows.same_length;
    same_outside = λ place out.
        let behind = is_behind (front geo) place out.0 in
        within.flash.same_outside place (inr (omega (arith, length-super_body geo)), (inr (omega (arith, geo.log_least)), (inr (omega (arith, geo.log_least)), tt)))
        ∙ shows.same_outside place out.1;
  }
  flash_within o (inr (inr within)) = record {
    same_length = within.flash.same_length ∙ length-body_over geo world.flash.shown ∙ shows.same_length;
    same_outside = λ place out.
        let behind = is_behind (front geo) place out.0 in
        within.flash.same_outside place (inr (omega arith), tt)
        ∙ overwrite_outside 1 (super_body geo) (regions_over geo world.flash.shown) place (inr (omega (arith, length-super_body geo)))
        ∙ overwrite_outside (region_at geo 0) first_text (overwrite (region_at geo 1) (0 ∷ []) world.flash.shown) place (inr (omega (arith, geo.log_least)))
        ∙ overwrite_outside (region_at geo 1) (0 ∷ []) world.flash.shown place (inr (omega (arith, geo.log_least)))
        ∙ shows.same_outside place out.1;
  }

  -- the disk and the output stay
  others_within : (o : Outcome) → WithinFormat geo (settled world) o → IsImage world.disk o.disk × (o.out ≡ world.said)
  others_within o (inl within) = (sync_adds_none world.disk o.disk other within.disk, within.out)
  others_within o (inr (inl within)) = (sync_adds_none world.disk o.disk other within.disk, within.out)
  others_within o (inr (inr within)) = (sync_adds_none world.disk o.disk other within.disk, within.out)

  pub within_front : (tested synced : World) → tested ≡ world → synced ≡ settled tested → (o : Outcome) → WithinFormat geo synced o → WithinWrite Flash 0 (front geo) world o
  within_front tested synced is_tested is_synced o within =
      let here = subst (λ (w : World). WithinFormat geo w o) (is_synced ∙ ap settled is_tested) within in
      let others = others_within o here in
      record { flash = flash_within o here; disk = others.0; out = others.1 }
