-- The bytes of a flash while it is formatted, and at the end.
use Rattle.std.proofs.Common.{◌≡◌, ◌≢◌, ◌⊎◌, inl, inr, ⊎_elim, ℕ, zero, suc, ◌+◌, ◌<◌, ◌≤◌, List, [], ◌∷◌, length, get_or, refl, sym, ◌∙◌, ap, subst, arith}
use Rattle.dd_block.specs.declared.print.Fp.{Fp}
use Rattle.dd_block.specs.declared.geometry.Geometry.{Geometry}
use Rattle.dd_block.specs.Bytes.{StandsAt}
use Rattle.dd_layout.specs.Layout.{region_at, region_size, region_bytes, flash_need, disk_need}
use Rattle.dd_rig.specs.declared.device.Dev.TheVariants.{Flash}
use Rattle.dd_rig.specs.Device.{IsImage, overwrite}
use Rattle.dd_rig.specs.World.{World, Outcome, WithinWrite}
use Rattle.dd_rig.proofs.Overwrite.{length-overwrite, overwrite_outside, overwrite_inside}
use Rattle.dd_journal.specs.Gates.{write_stable}
use Rattle.dd_journal.specs.Sitting.{regions_size}
use Rattle.dd_journal.proofs.Places.{is_one}
use Rattle.dd_journal.proofs.Reaching.{synced_is_stable}
use Rattle.dd_journal.proofs.Standing.{stands, part_byte, part_length}
use Rattle.dd_journal.proofs.Transfer.{gate_byte}
use Rattle.dd_recover.specs.Formatting.{IsFormatted, IsUnusedOrFormatted, first_text, IsFresh}
use Rattle.dd_recover.specs.Writing.{super_body, settled, with_regions, formatted_world, WithinFormat}
use Rattle.dd_recover.proofs.Fresh.{formatted}
use Rattle.dd_recover.proofs.Texts.{length-super_body, super_text_is}

-- the bytes that are shown once both regions are written
abbrev pub regions_over : Geometry → List ℕ → List ℕ
regions_over geo old = overwrite (region_at geo 0) first_text (overwrite (region_at geo 1) (0 ∷ []) old)

-- and once the superblock is written behind its gate
abbrev pub body_over : Geometry → List ℕ → List ℕ
body_over geo old = overwrite 1 (super_body geo) (regions_over geo old)

length-regions_over : (geo : Geometry) (old : List ℕ) → length (regions_over geo old) ≡ length old
length-regions_over geo old = length-overwrite (region_at geo 0) first_text (overwrite (region_at geo 1) (0 ∷ []) old) ∙ length-overwrite (region_at geo 1) (0 ∷ []) old

pub length-body_over : (geo : Geometry) (old : List ℕ) → length (body_over geo old) ≡ length old
length-body_over geo old = length-overwrite 1 (super_body geo) (regions_over geo old) ∙ length-regions_over geo old

-- a flash whose gate is open, and whose other bytes are those
module _ (geo : Geometry) (old flash : List ℕ) (sized : flash_need geo ≤ length old) (same_length : length flash ≡ length old) (gate : get_or flash 0 0 ≡ 1)
    (rest : (place : ℕ) → 1 ≤ place → get_or flash place 0 ≡ get_or (body_over geo old) place 0) where
  super_byte : (k : ℕ) → k < length (1 ∷ super_body geo) → get_or flash (0 + k) 0 ≡ get_or (1 ∷ super_body geo) k 0
  super_byte zero lt = gate
  super_byte (suc k) lt =
      let place : 0 + suc k ≡ suc k = omega arith in
      ap (λ (p : ℕ). get_or flash p 0) place ∙ rest (suc k) (omega arith)
      ∙ overwrite_inside 1 (super_body geo) (regions_over geo old) (suc k) k (omega arith) (omega arith) (omega (arith, sized, length-super_body geo, length-regions_over geo old))

  -- behind the superblock the regions stand as they were written
  behind_super : (place : ℕ) → 64 ≤ place → get_or flash place 0 ≡ get_or (regions_over geo old) place 0
  behind_super place behind = rest place (omega arith) ∙ overwrite_outside 1 (super_body geo) (regions_over geo old) place (inr (omega (arith, length-super_body geo)))

  region_byte : (k : ℕ) → k < length first_text → get_or (region_bytes geo flash 0) (0 + k) 0 ≡ get_or first_text k 0
  region_byte k lt =
      let place : 0 + k ≡ k = omega arith in
      ap (λ (p : ℕ). get_or (region_bytes geo flash 0) p 0) place
      ∙ part_byte flash (region_at geo 0) (region_size geo) k (omega arith)
      ∙ behind_super (region_at geo 0 + k) (omega arith)
      ∙ overwrite_inside (region_at geo 0) first_text (overwrite (region_at geo 1) (0 ∷ []) old) (region_at geo 0 + k) k refl lt
      (omega (arith, sized, geo.log_least, length-overwrite (region_at geo 1) (0 ∷ []) old))

  other_gate : get_or (region_bytes geo flash 1) 0 0 ≡ 0
  other_gate = gate_byte geo flash 1 ∙ behind_super (region_at geo 1) (omega arith)
      ∙ overwrite_outside (region_at geo 0) first_text (overwrite (region_at geo 1) (0 ∷ []) old) (region_at geo 1) (inr (omega (arith, geo.log_least)))
      ∙ overwrite_inside (region_at geo 1) (0 ∷ []) old (region_at geo 1) 0 (omega arith) (omega arith) (omega (arith, sized))

  is_fresh : IsFresh geo flash
  is_fresh = record {
    size = omega (arith, sized, same_length);
    super = subst (StandsAt flash 0) (sym (super_text_is geo)) (stands flash 0 (1 ∷ super_body geo) (omega (arith, sized, same_length, length-super_body geo)) super_byte);
    region = stands (region_bytes geo flash 0) 0 first_text
        (omega (arith, geo.log_least, part_length flash (region_at geo 0) (region_size geo) (omega (arith, sized, same_length)))) region_byte;
    other = other_gate;
  }

-- over devices whose flash isn't in use
module _ (geo : Geometry) (world : World) (sized : flash_need geo ≤ length world.flash.shown) (unused : get_or world.flash.shown 0 0 ≢ 1) where
  -- while the regions are written
  while_regions : (o : Outcome) → WithinWrite Flash (region_at geo 0) (regions_size geo) (settled world) o → get_or o.flash 0 0 ≢ 1
  while_regions o within one = unused (sym (within.flash.same_outside 0 (inl (omega arith), tt)) ∙ one)

  -- while the superblock is written behind its gate
  while_body : (o : Outcome) → WithinWrite Flash 1 (length (super_body geo)) (with_regions geo (settled world)) o → get_or o.flash 0 0 ≢ 1
  while_body o within one = unused (sym (within.flash.same_outside 0 (inl (omega arith), (inl (omega arith), (inl (omega arith), tt)))) ∙ one)

  -- while the gate is opened
  while_gate : (o : Outcome) → WithinWrite Flash 0 1 (write_stable 1 (super_body geo) (with_regions geo (settled world))) o → (get_or o.flash 0 0 ≢ 1) ⊎ IsFresh geo o.flash
  while_gate o within = ⊎_elim
      (λ one. inr (is_fresh geo world.flash.shown o.flash sized (within.flash.same_length ∙ length-body_over geo world.flash.shown) one
      (λ place behind. within.flash.same_outside place (inr behind, tt))))
      (λ not_one. inl not_one)
      (is_one (get_or o.flash 0 0))

  -- in the end
  in_the_end : (flash : List ℕ) → IsImage (formatted_world geo (settled world)).flash flash → IsFresh geo flash
  in_the_end flash image =
      let long = length-body_over geo world.flash.shown in
      is_fresh geo world.flash.shown flash sized (image.same_length ∙ length-overwrite 0 (1 ∷ []) (body_over geo world.flash.shown) ∙ long)
      (image.same_outside 0 tt ∙ overwrite_inside 0 (1 ∷ []) (body_over geo world.flash.shown) 0 0 (omega arith) (omega arith) (omega (arith, long, sized)))
      (λ place behind. image.same_outside place tt ∙ overwrite_outside 0 (1 ∷ []) (body_over geo world.flash.shown) place (inr behind))

  module _ (print : List ℕ → Fp) (room : disk_need geo ≤ length world.disk.shown) where
    -- such a flash beside the disk as it is stable
    with_disk : (flash disk : List ℕ) → IsImage (settled world).disk disk → IsFresh geo flash → IsFormatted print geo world flash disk
    with_disk flash disk image fresh = subst (λ (d : List ℕ). IsFormatted print geo world flash d) (sym (synced_is_stable world.disk disk image)) (formatted print geo world flash fresh room)

    pub while_formatting : (o : Outcome) → WithinFormat geo (settled world) o → IsUnusedOrFormatted print geo world o.flash o.disk
    while_formatting o (inl within) = inl (while_regions o within)
    while_formatting o (inr (inl within)) = inl (while_body o within)
    while_formatting o (inr (inr within)) = ⊎_elim (λ not_one. inl not_one) (λ fresh. inr (with_disk o.flash o.disk within.disk fresh)) (while_gate o within)

    pub is_formatted : (flash disk : List ℕ) → IsImage (formatted_world geo (settled world)).flash flash → IsImage (formatted_world geo (settled world)).disk disk → IsFormatted print geo world flash disk
    is_formatted flash disk image other = with_disk flash disk other (in_the_end flash image)
