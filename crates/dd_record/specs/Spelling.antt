-- The one spelling of a header, of a row and of a record, and the rules of their fields.
use Rattle.std.specs.Prelude.{◌≡◌, ℕ, ◌+◌, ◌*◌, ◌<◌, ◌≤◌, ◌^◌, ◌==◌, ◌||◌, Bool, IsTrue, List, ◌∷◌, ◌++◌, length, replicate, codes, if◌then◌else◌, ⊤}
use Rattle.std.specs.Int.{w32, w64, to_le_bytes}
use Rattle.std.specs.List.{flat_map}
use Rattle.dd_block.specs.declared.print.Fp.{Fp}
use Rattle.dd_block.specs.declared.geometry.Geometry.{Geometry}
use Rattle.dd_block.specs.Geometry.{slot_count}
use Rattle.dd_record.specs.declared.row.BRow.{BRow}
use Rattle.dd_record.specs.declared.row.ARow.{ARow}
use Rattle.dd_record.specs.declared.row.Link.{Link}
use Rattle.dd_record.specs.declared.row.Link.TheVariants.{Lost, Slot, Zero}
use Rattle.dd_record.specs.declared.head.Head.{Head}
use Rattle.dd_record.specs.declared.rec.Rec.{Rec}
use Rattle.dd_record.specs.declared.rec.Rec.TheVariants as recs
use Rattle.dd_record.specs.Table.{IsDirtyLinked}

-- 32 zero bytes stand where a row or a record has no fingerprint
abbrev pub zero_fp : Fp
zero_fp = record { 0 = replicate 32 0 }

-- the first bytes of a snapshot
abbrev pub head_magic : List ℕ
head_magic = codes "DLR1"

-- a header
abbrev pub head_text : Head → List ℕ
head_text head = head_magic ++ to_le_bytes w32 head.version ++ to_le_bytes w64 head.epoch ++ to_le_bytes w64 head.count
    ++ to_le_bytes w32 head.len_a ++ to_le_bytes w32 head.len_b

-- the row of a block
abbrev pub b_text : BRow → List ℕ
b_text row = to_le_bytes w32 row.slot ++ row.fp.0

-- 0 lost; 1 in a slot, 3 so and dirty; 4 zero, 6 so and dirty
abbrev pub flags_of : Link → Bool → ℕ
flags_of Lost dirty = 0
flags_of (Slot slot) dirty = if dirty then 3 else 1
flags_of Zero dirty = if dirty then 6 else 4

-- the slot field of an address that has no slot
abbrev pub no_slot : ℕ
no_slot = 4294967295

-- the slot of a link
abbrev pub slot_field : Link → ℕ
slot_field Lost = no_slot
slot_field (Slot slot) = slot
slot_field Zero = no_slot

-- the row of an address
abbrev pub a_text : ARow → List ℕ
a_text row = to_le_bytes w32 row.address ++ to_le_bytes w32 (flags_of row.link row.dirty) ++ to_le_bytes w32 (slot_field row.link) ++ row.fp.0

-- dirty as a number
abbrev pub bit_of : Bool → ℕ
bit_of dirty = if dirty then 1 else 0

-- the five fields of a record
abbrev pub fields_text : (kind dirty address slot : ℕ) → List ℕ → List ℕ
fields_text kind dirty address slot print = to_le_bytes w32 kind ++ to_le_bytes w32 dirty ++ to_le_bytes w32 address ++ to_le_bytes w32 slot ++ print

-- a record, with zeros in the fields that its kind doesn't use
abbrev pub rec_text : Rec → List ℕ
rec_text (recs.Hit address) = fields_text 1 0 address 0 zero_fp.0
rec_text (recs.Link address slot dirty) = fields_text 2 (bit_of dirty) address slot zero_fp.0
rec_text (recs.Store address slot fp dirty) = fields_text 3 (bit_of dirty) address slot fp.0
rec_text (recs.Clean address) = fields_text 4 0 address 0 zero_fp.0
rec_text (recs.Zero address dirty) = fields_text 5 (bit_of dirty) address 0 zero_fp.0

-- the record that five fields spell
abbrev pub rec_of_fields : (kind dirty address slot : ℕ) → Fp → Rec
rec_of_fields kind dirty address slot fp =
    if kind == 1 then recs.Hit address
    else if kind == 2 then recs.Link address slot (dirty == 1)
    else if kind == 3 then recs.Store address slot fp (dirty == 1)
    else if kind == 4 then recs.Clean address
    else recs.Zero address (dirty == 1)

-- an open gate, a count, and that many records
abbrev pub group_text : List Rec → List ℕ
group_text group = 1 ∷ to_le_bytes w32 (length group) ++ flat_map rec_text group

-- version 1 has no zero block
abbrev pub is_version : ℕ → Bool
is_version version = version == 1 || version == 2

-- rows and records are spelled in version 1 or 2
abbrev pub IsVersion : ℕ → Type 0
IsVersion version = IsTrue (is_version version)

-- a fingerprint is 32 bytes
abbrev pub IsFp : Fp → Type 0
IsFp fp = length fp.0 ≡ 32

-- the rules of a header
pub record IsHead (geo : Geometry) (head : Head) : Type 0 where
  pub version : IsVersion head.version
  pub epoch : head.epoch < 2 ^ 64
  pub count : head.count < 2 ^ 64
  pub len_a : head.len_a ≤ geo.acap
  pub len_b : head.len_b ≤ geo.bcap

-- the rules of the row of a block
pub record IsB (geo : Geometry) (row : BRow) : Type 0 where
  pub slot : row.slot < slot_count geo
  pub fp : IsFp row.fp

-- a link to a slot of the flash, or in version 2 to zeros, with zeros for the fingerprint
abbrev pub IsLinkWith : Geometry → ℕ → Link → Fp → Type 0
IsLinkWith geo version Lost fp = ⊤
IsLinkWith geo version (Slot slot) fp = slot < slot_count geo
IsLinkWith geo version Zero fp = (version ≡ 2) × (fp ≡ zero_fp)

-- the rules of the row of an address in a version
pub record IsA (geo : Geometry) (version : ℕ) (row : ARow) : Type 0 where
  pub address : row.address < geo.blocks
  pub link : IsLinkWith geo version row.link row.fp
  pub linked : IsDirtyLinked row
  pub fp : IsFp row.fp

-- the rules of a record in a version
abbrev pub IsRec : Geometry → ℕ → Rec → Type 0
IsRec geo version (recs.Hit address) = address < geo.blocks
IsRec geo version (recs.Link address slot dirty) = (address < geo.blocks) × (slot < slot_count geo)
IsRec geo version (recs.Store address slot fp dirty) = (address < geo.blocks) × (slot < slot_count geo) × IsFp fp
IsRec geo version (recs.Clean address) = address < geo.blocks
IsRec geo version (recs.Zero address dirty) = (address < geo.blocks) × (version ≡ 2)

-- a count is right for a group where so much room is left: the gate behind the group lies in the log
abbrev pub IsRightCount : Geometry → ℕ → ℕ → Type 0
IsRightCount geo room count = (1 ≤ count) × (count ≤ geo.group) × (48 * count + 6 ≤ room)
