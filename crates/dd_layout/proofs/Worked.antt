-- The superblock and the offsets of the worked geometry.
use Rattle.std.proofs.Common.{◌≡◌, ◌∷◌, replicate, refl, Some, None, arith}
use Rattle.dd_block.specs.declared.geometry.Geometry.{Geometry}
use Rattle.dd_layout.specs.declared.superblock.SuperFault.TheVariants as faults
use Rattle.dd_layout.specs.Layout.{region_size, region_at, slot_at, flash_need, disk_need}
use Rattle.dd_layout.specs.Super.{super_text, super_fault}

abbrev worked : Geometry
worked = record {
  block = 16;
  blocks = 8;
  acap = 3;
  bcap = 2;
  spare = 1;
  group = 8;
  log = 392;
  block_least = omega arith;
  block_most = omega arith;
  block_multiple = refl;
  blocks_least = omega arith;
  blocks_most = omega arith;
  acap_least = omega arith;
  acap_most = omega arith;
  bcap_least = omega arith;
  bcap_most = omega arith;
  spare_least = omega arith;
  spare_most = omega arith;
  group_least = omega arith;
  group_most = omega arith;
  log_least = omega arith;
  log_most = omega arith;
}

region_size_worked : region_size worked ≡ 629
region_size_worked = refl

region_one : region_at worked 1 ≡ 693
region_one = refl

slot_zero : slot_at worked 0 ≡ 1322
slot_zero = refl

need_worked : flash_need worked ≡ 1370
need_worked = refl

disk_worked : disk_need worked ≡ 128
disk_worked = refl

super_worked : super_text worked ≡ 1 ∷ 0 ∷ 0 ∷ 0 ∷ 0x43 ∷ 0x44 ∷ 0x53 ∷ 0x42 ∷ 1 ∷ 0 ∷ 0 ∷ 0 ∷ 0x10 ∷ 0 ∷ 0 ∷ 0 ∷ 8 ∷ 0 ∷ 0 ∷ 0 ∷ 3 ∷ 0 ∷ 0 ∷ 0 ∷ 2 ∷ 0 ∷ 0 ∷ 0 ∷ 1 ∷ 0 ∷ 0 ∷ 0
    ∷ 8 ∷ 0 ∷ 0 ∷ 0 ∷ 0x88 ∷ 1 ∷ 0 ∷ 0 ∷ replicate 24 0
super_worked = refl

super_read : super_fault (super_text worked) ≡ None
super_read = refl

super_zero : super_fault (replicate 64 0) ≡ Some (faults.Gate 0)
super_zero = refl
