-- What is read of the bytes of a row, and the bytes of what is read.
use Rattle.std.proofs.Common.{◌≡◌, ℕ, zero, suc, ◌<◌, ◌^◌, ◌==◌, Bool, true, false, not, ◌||◌, List, [], ◌++◌, length, take, replicate, Some, None, refl, ap, sym, ◌∙◌, arith}
use Rattle.std.specs.Prelude.{Option, if◌then◌else◌, is_none}
use Rattle.std.proofs.lemmas.List.{take_all}
use Rattle.std.proofs.Math.Seq.{take-add}
use Rattle.std.specs.Int.{w32, to_le_bytes}
use Rattle.std.proofs.lemmas.Bool.{ltb-true, eqb-true}
use Rattle.std.proofs.lemmas.Bool.Decides.{nat_tests}
use Rattle.dd_block.specs.Bytes.{part, u32_at, first_nonzero}
use Rattle.dd_block.specs.Geometry.{slot_count}
use Rattle.dd_block.specs.declared.geometry.Geometry.{Geometry}
use Rattle.dd_block.specs.declared.print.Fp.{Fp}
use Rattle.dd_block.proofs.Fields.{u32_read, zeros}
use Rattle.dd_record.specs.declared.row.ARow.{ARow}
use Rattle.dd_record.specs.declared.row.BRow.{BRow}
use Rattle.dd_record.specs.declared.row.Link.{Link}
use Rattle.dd_record.specs.declared.row.Link.TheVariants.{Lost, Slot, Zero}
use Rattle.dd_record.specs.Table.{is_link}
use Rattle.dd_record.specs.Spelling.{a_text, b_text, flags_of, slot_field, no_slot, zero_fp, IsA, IsB, IsFp, IsLinkWith}
use Rattle.dd_record.specs.Faults.{are_flags, are_dirty_flags, are_slot_flags, are_zero_flags, is_all_zero, is_print_field, is_slot_field, is_slot_number, link_of_fields}

abbrev fp_of : List ℕ → Fp
fp_of bytes = record { 0 = bytes }

-- a fingerprint is its bytes
pub fp_same : (p q : Fp) → p.0 ≡ q.0 → p ≡ q
fp_same p q e = ap fp_of e

b_same : (x y : BRow) → x.slot ≡ y.slot → x.fp ≡ y.fp → x ≡ y
b_same x y slot fp = λ i. record { slot = slot i; fp = fp i }

-- the row that a text spells is what is read of it
pub b_back : (geo : Geometry) (row read : BRow) (bytes : List ℕ) → IsB geo row → bytes ≡ b_text row
    → read.slot ≡ u32_at bytes 0 → read.fp.0 ≡ part bytes 4 32 → read ≡ row
b_back geo row read bytes is e slot fp = b_same read row
    (slot ∙ ap (λ xs. u32_at xs 0) e ∙ u32_read row.slot [] (omega (arith, is.slot)))
    (fp_same read.fp row.fp (fp ∙ ap (λ xs. part xs 4 32) e ∙ take_all 32 row.fp.0 (omega (arith, is.fp))))

a_same : (x y : ARow) → x.address ≡ y.address → x.link ≡ y.link → x.dirty ≡ y.dirty → x.fp ≡ y.fp → x ≡ y
a_same x y address link dirty fp = λ i. record { address = address i; link = link i; dirty = dirty i; fp = fp i }

pub flags_small : (link : Link) (dirty : Bool) → flags_of link dirty < 2 ^ 32
flags_small Lost dirty = omega arith
flags_small (Slot slot) true = omega arith
flags_small (Slot slot) false = omega arith
flags_small Zero true = omega arith
flags_small Zero false = omega arith

pub slot_small : (geo : Geometry) (version : ℕ) (link : Link) (fp : Fp) → IsLinkWith geo version link fp → slot_field link < 2 ^ 32
slot_small geo version Lost fp h = omega arith
slot_small geo version (Slot slot) fp h = omega arith
slot_small geo version Zero fp h = omega arith

link_back : (link : Link) (dirty : Bool) → link_of_fields (flags_of link dirty) (slot_field link) ≡ link
link_back Lost dirty = refl
link_back (Slot slot) true = refl
link_back (Slot slot) false = refl
link_back Zero true = refl
link_back Zero false = refl

dirty_back : (link : Link) (dirty : Bool) → (dirty ≡ true → is_link link ≡ true) → are_dirty_flags (flags_of link dirty) ≡ dirty
dirty_back Lost true linked = absurd (cc (linked refl))
dirty_back Lost false linked = refl
dirty_back (Slot slot) true linked = refl
dirty_back (Slot slot) false linked = refl
dirty_back Zero true linked = refl
dirty_back Zero false linked = refl

pub a_back : (geo : Geometry) (version : ℕ) (row read : ARow) (bytes : List ℕ) → IsA geo version row → bytes ≡ a_text row
    → read.address ≡ u32_at bytes 0 → read.link ≡ link_of_fields (u32_at bytes 4) (u32_at bytes 8) → read.dirty ≡ are_dirty_flags (u32_at bytes 4)
    → read.fp.0 ≡ part bytes 12 32 → read ≡ row
a_back geo version row read bytes is e address link dirty fp =
    let flags : u32_at bytes 4 ≡ flags_of row.link row.dirty =
    ap (λ xs. u32_at xs 4) e ∙ u32_read (flags_of row.link row.dirty) [] (flags_small row.link row.dirty) in
    let slot : u32_at bytes 8 ≡ slot_field row.link =
    ap (λ xs. u32_at xs 8) e ∙ u32_read (slot_field row.link) [] (slot_small geo version row.link row.fp is.link) in
    a_same read row
    (address ∙ ap (λ xs. u32_at xs 0) e ∙ u32_read row.address [] (omega (arith, is.address)))
    (link ∙ rw (flags, slot) (link_back row.link row.dirty))
    (dirty ∙ ap are_dirty_flags flags ∙ dirty_back row.link row.dirty is.linked)
    (fp_same read.fp row.fp (fp ∙ ap (λ xs. part xs 12 32) e ∙ take_all 32 row.fp.0 (omega (arith, is.fp))))

-- flags are spelled as they were read
pub flags_kept : (version flags slot : ℕ) → are_flags version flags ≡ true → flags_of (link_of_fields flags slot) (are_dirty_flags flags) ≡ flags
flags_kept version zero slot h = refl
flags_kept version (suc zero) slot h = refl
flags_kept version (suc (suc zero)) slot h = absurd (cc h)
flags_kept version (suc (suc (suc zero))) slot h = refl
flags_kept version (suc (suc (suc (suc zero)))) slot h = refl
flags_kept version (suc (suc (suc (suc (suc zero))))) slot h = absurd (cc h)
flags_kept version (suc (suc (suc (suc (suc (suc zero)))))) slot h = refl
flags_kept version (suc (suc (suc (suc (suc (suc (suc n))))))) slot h = absurd (grind (arith, nat_tests))

-- zeros are in version 2 alone
pub zero_flags_version : (version flags : ℕ) → are_flags version flags ≡ true → are_zero_flags flags ≡ true → version ≡ 2
zero_flags_version version zero h zeros = absurd (cc zeros)
zero_flags_version version (suc zero) h zeros = absurd (cc zeros)
zero_flags_version version (suc (suc zero)) h zeros = absurd (cc zeros)
zero_flags_version version (suc (suc (suc zero))) h zeros = absurd (cc zeros)
zero_flags_version version (suc (suc (suc (suc zero)))) h zeros = eqb-true version 2 h
zero_flags_version version (suc (suc (suc (suc (suc zero))))) h zeros = absurd (cc zeros)
zero_flags_version version (suc (suc (suc (suc (suc (suc zero)))))) h zeros = eqb-true version 2 h
zero_flags_version version (suc (suc (suc (suc (suc (suc (suc n))))))) h zeros = absurd (grind (arith, nat_tests))

-- dirty flags are those of a link
pub linked_kept : (flags slot : ℕ) → are_dirty_flags flags ≡ true → is_link (link_of_fields flags slot) ≡ true
linked_kept zero slot h = absurd (cc h)
linked_kept (suc zero) slot h = refl
linked_kept (suc (suc zero)) slot h = absurd (cc h)
linked_kept (suc (suc (suc zero))) slot h = refl
linked_kept (suc (suc (suc (suc zero)))) slot h = refl
linked_kept (suc (suc (suc (suc (suc zero))))) slot h = absurd (cc h)
linked_kept (suc (suc (suc (suc (suc (suc zero)))))) slot h = refl
linked_kept (suc (suc (suc (suc (suc (suc (suc n))))))) slot h = absurd (grind (arith, nat_tests))

slot_if : (geo : Geometry) (b z : Bool) (slot : ℕ) → (if b then is_slot_number geo slot else slot == no_slot) ≡ true
    → slot_field (if b then Slot slot else if z then Zero else Lost) ≡ slot
slot_if geo true z slot h = refl
slot_if geo false true slot h = sym (eqb-true slot no_slot h)
slot_if geo false false slot h = sym (eqb-true slot no_slot h)

pub slot_kept : (geo : Geometry) (flags slot : ℕ) → is_slot_field geo flags slot ≡ true → slot_field (link_of_fields flags slot) ≡ slot
slot_kept geo flags slot h = slot_if geo (are_slot_flags flags) (are_zero_flags flags) slot h

no_byte : (o : Option ℕ) → is_none o ≡ true → o ≡ None
no_byte None h = refl
no_byte (Some x) h = absurd (cc h)

-- a fingerprint without a byte but zeros
pub zero_print : (fp : Fp) → IsFp fp → is_all_zero fp.0 ≡ true → fp ≡ zero_fp
zero_print fp size h = fp_same fp zero_fp (zeros fp.0 (no_byte (first_nonzero fp.0) h) ∙ ap (λ n. replicate n 0) size)

not_or : (b kept : Bool) → (not b || kept) ≡ true → b ≡ true → kept ≡ true
not_or true kept h e = h
not_or false kept h e = absurd (cc e)

link_if : (geo : Geometry) (version : ℕ) (b z : Bool) (slot : ℕ) (fp : Fp) → (if b then is_slot_number geo slot else slot == no_slot) ≡ true
    → (z ≡ true → version ≡ 2) → (z ≡ true → fp ≡ zero_fp) → IsLinkWith geo version (if b then Slot slot else if z then Zero else Lost) fp
link_if geo version true z slot fp h two zeros = ltb-true slot (slot_count geo) h
link_if geo version false true slot fp h two zeros = (two refl, zeros refl)
link_if geo version false false slot fp h two zeros = tt

pub link_kept : (geo : Geometry) (version flags slot : ℕ) (fp : Fp) → are_flags version flags ≡ true → is_slot_field geo flags slot ≡ true
    → is_print_field flags fp.0 ≡ true → IsFp fp → IsLinkWith geo version (link_of_fields flags slot) fp
link_kept geo version flags slot fp flags_are slot_is print_is size =
    link_if geo version (are_slot_flags flags) (are_zero_flags flags) slot fp slot_is (zero_flags_version version flags flags_are)
    (λ z. zero_print fp size (not_or (are_zero_flags flags) (is_all_zero fp.0) print_is z))

-- the bytes of a row, from its fields
pub a_spelled : (bytes : List ℕ) (row : ARow) (flags slot : ℕ) → length bytes ≡ 44 → take 4 bytes ≡ to_le_bytes w32 row.address
    → take 8 bytes ≡ take 4 bytes ++ to_le_bytes w32 flags → take 12 bytes ≡ take 8 bytes ++ to_le_bytes w32 slot
    → row.fp.0 ≡ part bytes 12 32 → flags_of row.link row.dirty ≡ flags → slot_field row.link ≡ slot → bytes ≡ a_text row
a_spelled bytes row flags slot size address_is flags_is slot_is fp_is flags_same slot_same =
    sym (take_all 44 bytes (omega (arith, size))) ∙ take-add 12 32 bytes
    ∙ rw (slot_is, flags_is, address_is, ← fp_is, ← flags_same, ← slot_same) refl

zero_with : (geo : Geometry) (version : ℕ) (link : Link) (fp : Fp) → IsLinkWith geo version link fp → link ≡ Zero → fp ≡ zero_fp
zero_with geo version Lost fp is e = absurd (cc e)
zero_with geo version (Slot slot) fp is e = absurd (cc e)
zero_with geo version Zero fp is e = is.1

-- a row that is zero has zeros for its fingerprint, as its writer wants it
pub zero_row_print : (geo : Geometry) (version : ℕ) (row : ARow) → IsA geo version row → row.link ≡ Zero → row.fp ≡ zero_fp
zero_row_print geo version row is e = zero_with geo version row.link row.fp is.link e
