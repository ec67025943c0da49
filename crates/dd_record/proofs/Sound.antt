-- The text of a value that keeps its rules has no fault.
use Rattle.std.proofs.Common.{◌≡◌, ℕ, ◌<◌, ◌^◌, Bool, true, false, List, [], None, refl, arith}
use Rattle.std.specs.Prelude.{nat_le}
use Rattle.std.proofs.lemmas.Bool.{lt-ltb, le-leb}
use Rattle.std.proofs.lemmas.Bool.Decides.{nat_tests}
use Rattle.std.proofs.lemmas.List.{take_all}
use Rattle.dd_block.specs.Bytes.{part, u32_at}
use Rattle.dd_block.specs.Geometry.{slot_count}
use Rattle.dd_block.specs.declared.geometry.Geometry.{Geometry}
use Rattle.dd_block.specs.declared.print.Fp.{Fp}
use Rattle.dd_block.proofs.Fields.{u32_read}
use Rattle.dd_record.specs.declared.head.Head.{Head}
use Rattle.dd_record.specs.declared.row.ARow.{ARow}
use Rattle.dd_record.specs.declared.row.BRow.{BRow}
use Rattle.dd_record.specs.declared.row.Link.{Link}
use Rattle.dd_record.specs.declared.row.Link.TheVariants.{Lost, Slot, Zero}
use Rattle.dd_record.specs.declared.rec.Rec.{Rec}
use Rattle.dd_record.specs.declared.rec.Rec.TheVariants as recs
use Rattle.dd_record.specs.Spelling.{head_text, a_text, b_text, rec_text, flags_of, slot_field, bit_of, is_version, IsHead, IsA, IsB, IsLinkWith, IsRec}
use Rattle.dd_record.specs.Faults.{head_fault, a_fault, b_fault, fields_fault, rec_fault, are_flags, is_print_field, is_slot_field}
use Rattle.dd_record.proofs.RowLaws.{flags_small, slot_small}
use Rattle.dd_record.proofs.RecordLaws.{bit_small, AreFields}

pub version_small : (version : ℕ) → is_version version ≡ true → version < 2 ^ 32
version_small version h = grind (arith, nat_tests)

pub head_sound : (geo : Geometry) (head : Head) → IsHead geo head → head_fault geo (head_text head) ≡ None
head_sound geo head is =
    let len_a : u32_at (head_text head) 24 ≡ head.len_a = u32_read head.len_a [] (omega (arith, is.len_a)) in
    let len_b : u32_at (head_text head) 28 ≡ head.len_b = u32_read head.len_b [] (omega (arith, is.len_b)) in
    let version : u32_at (head_text head) 4 ≡ head.version = u32_read head.version [] (version_small head.version is.version) in
    rw (version, is.version, len_a, le-leb head.len_a geo.acap is.len_a, len_b, le-leb head.len_b geo.bcap is.len_b) refl

pub b_sound : (geo : Geometry) (row : BRow) → IsB geo row → b_fault geo (b_text row) ≡ None
b_sound geo row is =
    let slot : u32_at (b_text row) 0 ≡ row.slot = u32_read row.slot [] (omega (arith, is.slot)) in
    rw (slot, lt-ltb row.slot (slot_count geo) is.slot) refl

flags_right : (geo : Geometry) (version : ℕ) (link : Link) (dirty : Bool) (fp : Fp) → IsLinkWith geo version link fp → are_flags version (flags_of link dirty) ≡ true
flags_right geo version Lost dirty fp h = refl
flags_right geo version (Slot slot) true fp h = refl
flags_right geo version (Slot slot) false fp h = refl
flags_right geo version Zero true fp h = rw h.0 refl
flags_right geo version Zero false fp h = rw h.0 refl

slot_right : (geo : Geometry) (version : ℕ) (link : Link) (dirty : Bool) (fp : Fp) → IsLinkWith geo version link fp
    → is_slot_field geo (flags_of link dirty) (slot_field link) ≡ true
slot_right geo version Lost dirty fp h = refl
slot_right geo version (Slot slot) true fp h = lt-ltb slot (slot_count geo) h
slot_right geo version (Slot slot) false fp h = lt-ltb slot (slot_count geo) h
slot_right geo version Zero true fp h = refl
slot_right geo version Zero false fp h = refl

-- the fingerprint beside zeros has no byte but zeros
print_right : (geo : Geometry) (version : ℕ) (link : Link) (dirty : Bool) (fp : Fp) → IsLinkWith geo version link fp
    → is_print_field (flags_of link dirty) fp.0 ≡ true
print_right geo version Lost dirty fp h = refl
print_right geo version (Slot slot) true fp h = refl
print_right geo version (Slot slot) false fp h = refl
print_right geo version Zero true fp h = rw h.1 refl
print_right geo version Zero false fp h = rw h.1 refl

pub a_sound : (geo : Geometry) (version : ℕ) (row : ARow) → IsA geo version row → a_fault geo version (a_text row) ≡ None
a_sound geo version row is =
    let address : u32_at (a_text row) 0 ≡ row.address = u32_read row.address [] (omega (arith, is.address)) in
    let flags : u32_at (a_text row) 4 ≡ flags_of row.link row.dirty = u32_read (flags_of row.link row.dirty) [] (flags_small row.link row.dirty) in
    let slot : u32_at (a_text row) 8 ≡ slot_field row.link = u32_read (slot_field row.link) [] (slot_small geo version row.link row.fp is.link) in
    let print : part (a_text row) 12 32 ≡ row.fp.0 = take_all 32 row.fp.0 (omega (arith, is.fp)) in
    rw (
      address,
      lt-ltb row.address geo.blocks is.address,
      flags,
      flags_right geo version row.link row.dirty row.fp is.link,
      slot,
      slot_right geo version row.link row.dirty row.fp is.link,
      print,
      print_right geo version row.link row.dirty row.fp is.link,
    ) refl

bit_right : (b : Bool) → nat_le (bit_of b) 1 ≡ true
bit_right true = refl
bit_right false = refl

pub rec_sound : (geo : Geometry) (version : ℕ) (rec : Rec) → IsRec geo version rec → rec_fault geo version (rec_text rec) ≡ None
rec_sound geo version (recs.Hit a) is =
    let address : u32_at (rec_text (recs.Hit a)) 8 ≡ a = u32_read a [] (omega (arith, is)) in
    rw (address, lt-ltb a geo.blocks is) refl
rec_sound geo version (recs.Link a s d) is =
    let dirty : u32_at (rec_text (recs.Link a s d)) 4 ≡ bit_of d = u32_read (bit_of d) [] (bit_small d) in
    let address : u32_at (rec_text (recs.Link a s d)) 8 ≡ a = u32_read a [] (omega (arith, is.0)) in
    let slot : u32_at (rec_text (recs.Link a s d)) 12 ≡ s = u32_read s [] (omega (arith, is.1)) in
    rw (dirty, bit_right d, address, lt-ltb a geo.blocks is.0, slot, lt-ltb s (slot_count geo) is.1) refl
rec_sound geo version (recs.Store a s p d) is =
    let dirty : u32_at (rec_text (recs.Store a s p d)) 4 ≡ bit_of d = u32_read (bit_of d) [] (bit_small d) in
    let address : u32_at (rec_text (recs.Store a s p d)) 8 ≡ a = u32_read a [] (omega (arith, is.0)) in
    let slot : u32_at (rec_text (recs.Store a s p d)) 12 ≡ s = u32_read s [] (omega (arith, is.1)) in
    rw (dirty, bit_right d, address, lt-ltb a geo.blocks is.0, slot, lt-ltb s (slot_count geo) is.1) refl
rec_sound geo version (recs.Clean a) is =
    let address : u32_at (rec_text (recs.Clean a)) 8 ≡ a = u32_read a [] (omega (arith, is)) in
    rw (address, lt-ltb a geo.blocks is) refl
rec_sound geo version (recs.Zero a d) is =
    let dirty : u32_at (rec_text (recs.Zero a d)) 4 ≡ bit_of d = u32_read (bit_of d) [] (bit_small d) in
    let address : u32_at (rec_text (recs.Zero a d)) 8 ≡ a = u32_read a [] (omega (arith, is.0)) in
    rw (is.1, dirty, bit_right d, address, lt-ltb a geo.blocks is.0) refl

-- the fields of the text of a record that keeps its rules have no fault
pub fields_sound : (geo : Geometry) (version : ℕ) (rec : Rec) (bytes : List ℕ) (kind dirty address slot : ℕ) (fp : Fp) → IsRec geo version rec → bytes ≡ rec_text rec
    → AreFields bytes kind dirty address slot fp → fields_fault geo version kind dirty address slot fp.0 ≡ None
fields_sound geo version rec bytes kind dirty address slot fp is e are =
    rw (are.kind_is, are.dirty_is, are.address_is, are.slot_is, are.print_is, e) (rec_sound geo version rec is)
