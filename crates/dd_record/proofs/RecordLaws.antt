-- The record that five fields spell, and the fields that spell it.
use Rattle.std.proofs.Common.{◌≡◌, ℕ, zero, suc, ◌<◌, ◌^◌, ◌==◌, Bool, true, false, List, [], ◌∷◌, Some, None, refl, ap, ◌∙◌, arith}
use Rattle.std.specs.Prelude.{Option, if◌then◌else◌, nat_le}
use Rattle.std.proofs.lemmas.List.{take_all}
use Rattle.std.proofs.lemmas.Bool.{ltb-true, eqb-true}
use Rattle.std.proofs.lemmas.Bool.Decides.{nat_tests}
use Rattle.dd_block.specs.Bytes.{part, u32_at}
use Rattle.dd_block.specs.declared.geometry.Geometry.{Geometry}
use Rattle.dd_block.specs.declared.print.Fp.{Fp}
use Rattle.dd_block.proofs.Fields.{u32_read}
use Rattle.dd_block.specs.Geometry.{slot_count}
use Rattle.dd_record.specs.declared.fault.RowFault.{RowFault}
use Rattle.dd_record.specs.declared.rec.Rec.{Rec}
use Rattle.dd_record.specs.declared.rec.Rec.TheVariants.{Hit, Link, Store, Zero, Clean}
use Rattle.dd_record.specs.Spelling.{fields_text, rec_text, rec_of_fields, bit_of, IsRec, IsFp}
use Rattle.dd_record.specs.Faults.{Check, kind_check, dirty_check, address_check, slot_check, print_check, first_fault, fields_fault}
use Rattle.dd_record.proofs.RowLaws.{fp_same, zero_print}

kept_if : (b : Bool) (rest : Option RowFault) (fault : RowFault) → (if b then rest else Some fault) ≡ None → (b ≡ true) × (rest ≡ None)
kept_if true rest fault h = (refl, h)
kept_if false rest fault h = absurd (cc h)

-- a list of checks that are all kept: the first one, and the others
kept_first : (c : Check) (cs : List Check) → first_fault (c ∷ cs) ≡ None → (c.kept ≡ true) × (first_fault cs ≡ None)
kept_first c cs h = kept_if c.kept (first_fault cs) (record { at = c.at; what = c.what }) h

bit_kept : (n : ℕ) → nat_le n 1 ≡ true → bit_of (n == 1) ≡ n
bit_kept zero h = refl
bit_kept (suc zero) h = refl
bit_kept (suc (suc n)) h = absurd (grind (arith, nat_tests))

-- what the rules of the five fields give
record Kept (geo : Geometry) (version kind dirty address slot : ℕ) (print : List ℕ) : Type 0 where
  kind_is : (kind_check version kind).kept ≡ true
  dirty_is : (dirty_check kind dirty).kept ≡ true
  address_is : address < geo.blocks
  slot_is : (slot_check geo kind slot).kept ≡ true
  print_is : (print_check kind print).kept ≡ true

kept : (geo : Geometry) (version kind dirty address slot : ℕ) (print : List ℕ) → fields_fault geo version kind dirty address slot print ≡ None
    → Kept geo version kind dirty address slot print
kept geo version kind dirty address slot print h =
    let fifth_on : List Check = print_check kind print ∷ [] in
    let fourth_on : List Check = slot_check geo kind slot ∷ fifth_on in
    let third_on : List Check = address_check geo address ∷ fourth_on in
    let first = kept_first (kind_check version kind) (dirty_check kind dirty ∷ third_on) h in
    let second = kept_first (dirty_check kind dirty) third_on first.1 in
    let third = kept_first (address_check geo address) fourth_on second.1 in
    let fourth = kept_first (slot_check geo kind slot) fifth_on third.1 in
    let fifth = kept_first (print_check kind print) [] fourth.1 in
    record {
      kind_is = first.0;
      dirty_is = second.0;
      address_is = ltb-true address geo.blocks third.0;
      slot_is = fourth.0;
      print_is = fifth.0;
    }

-- the fields spell a record of that version
Spell : Geometry → (version kind dirty address slot : ℕ) → Fp → Type 0
Spell geo version kind dirty address slot fp =
    (fields_text kind dirty address slot fp.0 ≡ rec_text (rec_of_fields kind dirty address slot fp))
    × IsRec geo version (rec_of_fields kind dirty address slot fp)

spelled : (geo : Geometry) (version kind dirty address slot : ℕ) (fp : Fp) → IsFp fp → Kept geo version kind dirty address slot fp.0
    → Spell geo version kind dirty address slot fp
unfolding Spell
spelled geo version zero dirty address slot fp whole k = absurd (cc k.kind_is)
spelled geo version (suc zero) dirty address slot fp whole k =
    let dirty_zero : dirty ≡ 0 = eqb-true dirty 0 k.dirty_is in
    let slot_zero : slot ≡ 0 = eqb-true slot 0 k.slot_is in
    (rw (dirty_zero, slot_zero, zero_print fp whole k.print_is) refl, k.address_is)
spelled geo version (suc (suc zero)) dirty address slot fp whole k =
    (rw (bit_kept dirty k.dirty_is, zero_print fp whole k.print_is) refl, (k.address_is, ltb-true slot (slot_count geo) k.slot_is))
spelled geo version (suc (suc (suc zero))) dirty address slot fp whole k =
    (rw (bit_kept dirty k.dirty_is) refl, (k.address_is, ltb-true slot (slot_count geo) k.slot_is, whole))
spelled geo version (suc (suc (suc (suc zero)))) dirty address slot fp whole k =
    let dirty_zero : dirty ≡ 0 = eqb-true dirty 0 k.dirty_is in
    let slot_zero : slot ≡ 0 = eqb-true slot 0 k.slot_is in
    (rw (dirty_zero, slot_zero, zero_print fp whole k.print_is) refl, k.address_is)
spelled geo version (suc (suc (suc (suc (suc zero))))) dirty address slot fp whole k =
    let slot_zero : slot ≡ 0 = eqb-true slot 0 k.slot_is in
    (rw (bit_kept dirty k.dirty_is, slot_zero, zero_print fp whole k.print_is) refl, (k.address_is, eqb-true version 2 k.kind_is))
spelled geo version (suc (suc (suc (suc (suc (suc n)))))) dirty address slot fp whole k = let h = k.kind_is in absurd (grind (arith, nat_tests))

-- five fields that keep their rules are the text of the record that they spell
pub fields_spelled : (geo : Geometry) (version kind dirty address slot : ℕ) (fp : Fp) → IsFp fp → fields_fault geo version kind dirty address slot fp.0 ≡ None
    → (fields_text kind dirty address slot fp.0 ≡ rec_text (rec_of_fields kind dirty address slot fp))
    × IsRec geo version (rec_of_fields kind dirty address slot fp)
unfolding Spell
fields_spelled geo version kind dirty address slot fp whole h = spelled geo version kind dirty address slot fp whole (kept geo version kind dirty address slot fp.0 h)

-- the fields that are read of bytes
pub record AreFields (bytes : List ℕ) (kind dirty address slot : ℕ) (fp : Fp) : Type 0 where
  pub kind_is : kind ≡ u32_at bytes 0
  pub dirty_is : dirty ≡ u32_at bytes 4
  pub address_is : address ≡ u32_at bytes 8
  pub slot_is : slot ≡ u32_at bytes 12
  pub print_is : fp.0 ≡ part bytes 16 32

pub bit_small : (b : Bool) → bit_of b < 2 ^ 32
bit_small true = omega arith
bit_small false = omega arith

bit_back : (b : Bool) → (bit_of b == 1) ≡ b
bit_back true = refl
bit_back false = refl

-- the record that a text spells is what is read of it
pub rec_back : (geo : Geometry) (version : ℕ) (rec : Rec) (bytes : List ℕ) (kind dirty address slot : ℕ) (fp : Fp) → IsRec geo version rec → bytes ≡ rec_text rec
    → AreFields bytes kind dirty address slot fp → rec_of_fields kind dirty address slot fp ≡ rec
rec_back geo version (Hit a) bytes kind dirty address slot fp is e are =
    let kind_same : kind ≡ 1 = are.kind_is ∙ ap (λ xs. u32_at xs 0) e in
    let address_same : address ≡ a = are.address_is ∙ ap (λ xs. u32_at xs 8) e ∙ u32_read a [] (omega (arith, is)) in
    rw (kind_same, address_same) refl
rec_back geo version (Link a s d) bytes kind dirty address slot fp is e are =
    let kind_same : kind ≡ 2 = are.kind_is ∙ ap (λ xs. u32_at xs 0) e in
    let dirty_same : dirty ≡ bit_of d = are.dirty_is ∙ ap (λ xs. u32_at xs 4) e ∙ u32_read (bit_of d) [] (bit_small d) in
    let address_same : address ≡ a = are.address_is ∙ ap (λ xs. u32_at xs 8) e ∙ u32_read a [] (omega (arith, is.0)) in
    let slot_same : slot ≡ s = are.slot_is ∙ ap (λ xs. u32_at xs 12) e ∙ u32_read s [] (omega (arith, is.1)) in
    rw (kind_same, address_same, slot_same, dirty_same, bit_back d) refl
rec_back geo version (Store a s p d) bytes kind dirty address slot fp is e are =
    let kind_same : kind ≡ 3 = are.kind_is ∙ ap (λ xs. u32_at xs 0) e in
    let dirty_same : dirty ≡ bit_of d = are.dirty_is ∙ ap (λ xs. u32_at xs 4) e ∙ u32_read (bit_of d) [] (bit_small d) in
    let address_same : address ≡ a = are.address_is ∙ ap (λ xs. u32_at xs 8) e ∙ u32_read a [] (omega (arith, is.0)) in
    let slot_same : slot ≡ s = are.slot_is ∙ ap (λ xs. u32_at xs 12) e ∙ u32_read s [] (omega (arith, is.1)) in
    let print_same : fp ≡ p = fp_same fp p (are.print_is ∙ ap (λ xs. part xs 16 32) e ∙ take_all 32 p.0 (omega (arith, is.2))) in
    rw (kind_same, address_same, slot_same, dirty_same, bit_back d, print_same) refl
rec_back geo version (Clean a) bytes kind dirty address slot fp is e are =
    let kind_same : kind ≡ 4 = are.kind_is ∙ ap (λ xs. u32_at xs 0) e in
    let address_same : address ≡ a = are.address_is ∙ ap (λ xs. u32_at xs 8) e ∙ u32_read a [] (omega (arith, is)) in
    rw (kind_same, address_same) refl
rec_back geo version (Zero a d) bytes kind dirty address slot fp is e are =
    let kind_same : kind ≡ 5 = are.kind_is ∙ ap (λ xs. u32_at xs 0) e in
    let dirty_same : dirty ≡ bit_of d = are.dirty_is ∙ ap (λ xs. u32_at xs 4) e ∙ u32_read (bit_of d) [] (bit_small d) in
    let address_same : address ≡ a = are.address_is ∙ ap (λ xs. u32_at xs 8) e ∙ u32_read a [] (omega (arith, is.0)) in
    rw (kind_same, address_same, dirty_same, bit_back d) refl
