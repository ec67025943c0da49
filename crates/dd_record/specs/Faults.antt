-- The first field of a header, of a row or of a record that breaks its rule, in the order of the format.
use Rattle.std.specs.Prelude.{ℕ, ◌+◌, ◌*◌, ◌==◌, not, ◌&&◌, ◌||◌, nat_le, nat_lt, Bool, List, [], ◌∷◌, Option, Some, None, is_none, if◌then◌else◌}
use Rattle.std.specs.Str.{bytes_eq}
use Rattle.dd_block.specs.Bytes.{part, u32_at, first_nonzero}
use Rattle.dd_block.specs.declared.geometry.Geometry.{Geometry}
use Rattle.dd_block.specs.Geometry.{slot_count}
use Rattle.dd_record.specs.declared.fault.RowFault.{RowFault}
use Rattle.dd_record.specs.declared.fault.What.{What}
use Rattle.dd_record.specs.declared.fault.What.TheVariants as what
use Rattle.dd_record.specs.declared.row.Link.{Link}
use Rattle.dd_record.specs.declared.row.Link.TheVariants.{Lost, Slot, Zero}
use Rattle.dd_record.specs.Spelling.{head_magic, is_version, no_slot}

-- a field at a place keeps its rule, or breaks it in this way
pub record Check : Type 0 where
  pub at : ℕ
  pub what : What
  pub kept : Bool

-- a field, what is wrong where it breaks its rule, and whether it keeps it
abbrev pub check : ℕ → What → Bool → Check
check at what kept = record { at = at; what = what; kept = kept }

-- a field that is used keeps its rule, and one that isn't is zero
abbrev pub check_used : Bool → ℕ → What → Bool → ℕ → Check
check_used used at rule kept number = if used then check at rule kept else check at what.Unused (number == 0)

-- the first check that isn't kept
abbrev pub first_fault : List Check → Option RowFault
first_fault [] = None
first_fault (c ∷ cs) = if c.kept then first_fault cs else Some (record { at = c.at; what = c.what })

-- whether a slot of the flash has this number
abbrev pub is_slot_number : Geometry → ℕ → Bool
is_slot_number geo slot = nat_lt slot (slot_count geo)

-- the first field of a header that breaks its rule
abbrev pub head_fault : Geometry → List ℕ → Option RowFault
head_fault geo bytes = first_fault (
    check 0 what.Magic (bytes_eq (part bytes 0 4) head_magic)
    ∷ check 4 what.Version (is_version (u32_at bytes 4))
    ∷ check 24 what.LenA (nat_le (u32_at bytes 24) geo.acap)
    ∷ check 28 what.LenB (nat_le (u32_at bytes 28) geo.bcap)
    ∷ [])

-- the first field of the row of a block that breaks its rule
abbrev pub b_fault : Geometry → List ℕ → Option RowFault
b_fault geo bytes = first_fault (check 0 what.Slot (is_slot_number geo (u32_at bytes 0)) ∷ [])

-- flags of a link to a slot: 1, and 3 where it is dirty
abbrev pub are_slot_flags : ℕ → Bool
are_slot_flags flags = flags == 1 || flags == 3

-- flags of zeros: 4, and 6 where they are dirty
abbrev pub are_zero_flags : ℕ → Bool
are_zero_flags flags = flags == 4 || flags == 6

-- 0 is lost; zeros are in version 2 alone
abbrev pub are_flags : ℕ → ℕ → Bool
are_flags version flags = flags == 0 || are_slot_flags flags || (are_zero_flags flags && version == 2)

-- the flags of a dirty row
abbrev pub are_dirty_flags : ℕ → Bool
are_dirty_flags flags = flags == 3 || flags == 6

-- the slot field of a row, by its flags
abbrev pub is_slot_field : Geometry → ℕ → ℕ → Bool
is_slot_field geo flags slot = if are_slot_flags flags then is_slot_number geo slot else slot == no_slot

-- whether there is no byte but zeros
abbrev pub is_all_zero : List ℕ → Bool
is_all_zero bytes = is_none (first_nonzero bytes)

-- the fingerprint of a row, by its flags
abbrev pub is_print_field : ℕ → List ℕ → Bool
is_print_field flags print = not (are_zero_flags flags) || is_all_zero print

-- the link that the flags and the slot field of a row spell
abbrev pub link_of_fields : ℕ → ℕ → Link
link_of_fields flags slot = if are_slot_flags flags then Slot slot else if are_zero_flags flags then Zero else Lost

-- the first field of the row of an address that breaks its rule, in a version
abbrev pub a_fault : Geometry → ℕ → List ℕ → Option RowFault
a_fault geo version bytes = first_fault (
    check 0 what.Address (nat_lt (u32_at bytes 0) geo.blocks)
    ∷ check 4 what.Flags (are_flags version (u32_at bytes 4))
    ∷ check 8 what.Slot (is_slot_field geo (u32_at bytes 4) (u32_at bytes 8))
    ∷ check 12 what.Unused (is_print_field (u32_at bytes 4) (part bytes 12 32))
    ∷ [])

-- whether a version has records of a kind: 1 to 4, and 5 in version 2 alone
abbrev pub is_kind : ℕ → ℕ → Bool
is_kind version kind = nat_le 1 kind && (nat_le kind 4 || (kind == 5 && version == 2))

-- whether records of a kind have a slot
abbrev pub uses_slot : ℕ → Bool
uses_slot kind = kind == 2 || kind == 3

-- whether records of a kind say that an address becomes dirty
abbrev pub uses_dirty : ℕ → Bool
uses_dirty kind = kind == 2 || kind == 3 || kind == 5

-- whether records of a kind have a fingerprint
abbrev pub uses_print : ℕ → Bool
uses_print kind = kind == 3

-- the rules of the five fields of a record: the version has its kind
abbrev pub kind_check : ℕ → ℕ → Check
kind_check version kind = check 0 what.Kind (is_kind version kind)

-- dirty is 0 or 1
abbrev pub dirty_check : ℕ → ℕ → Check
dirty_check kind dirty = check_used (uses_dirty kind) 4 what.Dirty (nat_le dirty 1) dirty

-- the address is on the disk
abbrev pub address_check : Geometry → ℕ → Check
address_check geo address = check 8 what.Address (nat_lt address geo.blocks)

-- the slot is on the flash
abbrev pub slot_check : Geometry → ℕ → ℕ → Check
slot_check geo kind slot = check_used (uses_slot kind) 12 what.Slot (is_slot_number geo slot) slot

-- a fingerprint that isn't used is zero
abbrev pub print_check : ℕ → List ℕ → Check
print_check kind print = check 16 what.Unused (uses_print kind || is_all_zero print)

-- the first of them that isn't kept
abbrev pub fields_fault : Geometry → (version kind dirty address slot : ℕ) → List ℕ → Option RowFault
fields_fault geo version kind dirty address slot print =
    first_fault (kind_check version kind ∷ dirty_check kind dirty ∷ address_check geo address ∷ slot_check geo kind slot ∷ print_check kind print ∷ [])

-- the first field of a record that breaks its rule, in a version
abbrev pub rec_fault : Geometry → ℕ → List ℕ → Option RowFault
rec_fault geo version bytes = fields_fault geo version (u32_at bytes 0) (u32_at bytes 4) (u32_at bytes 8) (u32_at bytes 12) (part bytes 16 32)

-- a count of records is refused at its first byte
abbrev pub count_fault : Geometry → ℕ → ℕ → Option RowFault
count_fault geo room count = first_fault (check 0 what.Count (nat_le 1 count && nat_le count geo.group && nat_le (48 * count + 6) room) ∷ [])
