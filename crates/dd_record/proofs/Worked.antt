-- The spellings of worked values, and their faults.
use Rattle.std.proofs.Common.{◌≡◌, ℕ, List, true, [], ◌∷◌, ◌++◌, replicate, refl, Some, None, arith}
use Rattle.dd_block.specs.declared.geometry.Geometry.{Geometry}
use Rattle.dd_block.specs.Print.{first_byte}
use Rattle.dd_record.specs.declared.rec.Rec.{Rec}
use Rattle.dd_record.specs.declared.rec.Rec.TheVariants.{Hit, Store, Zero, Clean}
use Rattle.dd_record.specs.declared.head.Head.{Head}
use Rattle.dd_record.specs.declared.row.Link.TheVariants as links
use Rattle.dd_record.specs.declared.fault.What.TheVariants as what
use Rattle.dd_record.specs.Spelling.{head_text, a_text, group_text, rec_text, fields_text, zero_fp}
use Rattle.dd_record.specs.Faults.{head_fault, a_fault, rec_fault}
use Rattle.dd_record.specs.Replay.{count_after}

abbrev worked : Geometry
worked = record {
  block = 16;
  blocks = 8;
  acap = 3;
  bcap = 2;
  spare = 1;
  group = 8;
  log = 392;
  block_least = omega arith;
  block_most = omega arith;
  block_multiple = refl;
  blocks_least = omega arith;
  blocks_most = omega arith;
  acap_least = omega arith;
  acap_most = omega arith;
  bcap_least = omega arith;
  bcap_most = omega arith;
  spare_least = omega arith;
  spare_most = omega arith;
  group_least = omega arith;
  group_most = omega arith;
  log_least = omega arith;
  log_most = omega arith;
}

-- the header of a flash that was just formatted
abbrev formatted : Head
formatted = record { version = 2; epoch = 1; count = 0; len_a = 0; len_b = 0 }

formatted_head : head_text formatted
    ≡ 0x44 ∷ 0x4c ∷ 0x52 ∷ 0x31 ∷ 2 ∷ 0 ∷ 0 ∷ 0 ∷ 1 ∷ replicate 23 0
formatted_head = refl

formatted_head_read : head_fault worked (head_text formatted) ≡ None
formatted_head_read = refl

-- the header that was written before there was a version 2
older_head_read : head_fault worked (head_text (record formatted { version = 1 })) ≡ None
older_head_read = refl

newer_head : head_fault worked (head_text (record formatted { version = 3 })) ≡ Some (record { at = 4; what = what.Version })
newer_head = refl

-- address 5, zero and dirty
abbrev zero_row : List ℕ
zero_row = 5 ∷ 0 ∷ 0 ∷ 0 ∷ 6 ∷ 0 ∷ 0 ∷ 0 ∷ 0xff ∷ 0xff ∷ 0xff ∷ 0xff ∷ replicate 32 0

zero_row_text : a_text (record { address = 5; link = links.Zero; dirty = true; fp = zero_fp }) ≡ zero_row
zero_row_text = refl

zero_row_read : a_fault worked 2 zero_row ≡ None
zero_row_read = refl

zero_row_in_version_1 : a_fault worked 1 zero_row ≡ Some (record { at = 4; what = what.Flags })
zero_row_in_version_1 = refl

zero_row_with_slot : a_fault worked 2 (5 ∷ 0 ∷ 0 ∷ 0 ∷ 4 ∷ replicate 39 0) ≡ Some (record { at = 8; what = what.Slot })
zero_row_with_slot = refl

zero_row_with_print : a_fault worked 2 (5 ∷ 0 ∷ 0 ∷ 0 ∷ 4 ∷ 0 ∷ 0 ∷ 0 ∷ 0xff ∷ 0xff ∷ 0xff ∷ 0xff ∷ 1 ∷ replicate 31 0)
    ≡ Some (record { at = 12; what = what.Unused })
zero_row_with_print = refl

-- the group of the command w 5 ab, stored in slot 0
abbrev store_ab : Rec
store_ab = Store 5 0 (first_byte (0xab ∷ [])) true

group_ab : group_text (store_ab ∷ []) ≡ 1 ∷ 1 ∷ 0 ∷ 0 ∷ 0 ∷ 3 ∷ 0 ∷ 0 ∷ 0 ∷ 1 ∷ 0 ∷ 0 ∷ 0 ∷ 5 ∷ 0 ∷ 0 ∷ 0 ∷ 0 ∷ 0 ∷ 0 ∷ 0 ∷ 0xab ∷ replicate 31 0
group_ab = refl

record_read : rec_fault worked 1 (rec_text store_ab) ≡ None
record_read = refl

-- the record of the command d 5
zero_text : rec_text (Zero 5 true) ≡ 5 ∷ 0 ∷ 0 ∷ 0 ∷ 1 ∷ 0 ∷ 0 ∷ 0 ∷ 5 ∷ replicate 39 0
zero_text = refl

zero_read : rec_fault worked 2 (rec_text (Zero 5 true)) ≡ None
zero_read = refl

zero_in_version_1 : rec_fault worked 1 (rec_text (Zero 5 true)) ≡ Some (record { at = 0; what = what.Kind })
zero_in_version_1 = refl

zero_with_slot : rec_fault worked 2 (fields_text 5 1 5 1 (replicate 32 0)) ≡ Some (record { at = 12; what = what.Unused })
zero_with_slot = refl

wrong_kind : rec_fault worked 2 (9 ∷ replicate 47 0) ≡ Some (record { at = 0; what = what.Kind })
wrong_kind = refl

used_in_hit : rec_fault worked 2 (1 ∷ replicate 11 0 ++ 1 ∷ replicate 35 0) ≡ Some (record { at = 12; what = what.Unused })
used_in_hit = refl

counted : count_after 4 (Hit 1 ∷ Clean 1 ∷ Zero 1 true ∷ []) ≡ 6
counted = refl
