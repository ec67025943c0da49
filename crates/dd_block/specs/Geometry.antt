-- The ranges of a geometry's numbers, and the first number that is out of its range.
use Rattle.std.specs.Prelude.{◌≡◌, ℕ, ◌+◌, ◌*◌, ◌%◌, ◌==◌, ◌&&◌, nat_le, Bool, Option, Some, None, Result, Ok, Err, if◌then◌else◌}
use Rattle.dd_block.specs.declared.geometry.Geometry.{Geometry}
use Rattle.dd_block.specs.declared.geometry.GeometryFault.{GeometryFault}
use Rattle.dd_block.specs.declared.geometry.GeometryFault.TheVariants as faults

-- whether n lies from low to high
abbrev pub is_within : ℕ → ℕ → ℕ → Bool
is_within low high n = nat_le low n && nat_le n high

-- how many bytes a block may have
abbrev pub is_block_size : ℕ → Bool
is_block_size n = is_within 16 4096 n && n % 16 == 0

-- how many blocks a disk may have
abbrev pub is_block_count : ℕ → Bool
is_block_count n = is_within 1 16777216 n

-- how many addresses, or how many distinct blocks, a list may have
abbrev pub is_capacity : ℕ → Bool
is_capacity n = is_within 1 65536 n

-- how many spare slots there may be
abbrev pub is_spare : ℕ → Bool
is_spare n = is_within 1 1024 n

-- how many records a group may have
abbrev pub is_group : ℕ → Bool
is_group n = is_within 8 1024 n

-- a log has room for a whole group
abbrev pub is_log : ℕ → ℕ → Bool
is_log group n = is_within (8 + 48 * group) 16777216 n

-- the first number that is out of its range
abbrev pub geometry_fault : (block blocks acap bcap spare group log : ℕ) → Option GeometryFault
geometry_fault block blocks acap bcap spare group log =
    if is_block_size block then
    if is_block_count blocks then
    if is_capacity acap then
    if is_capacity bcap then
    if is_spare spare then
    if is_group group then
    if is_log group log then None
    else Some (faults.Log log)
    else Some (faults.Group group)
    else Some (faults.Spare spare)
    else Some (faults.Bcap bcap)
    else Some (faults.Acap acap)
    else Some (faults.Blocks blocks)
    else Some (faults.Block block)

-- the geometry is made of these numbers
pub record HasNumbers (geo : Geometry) (block blocks acap bcap spare group log : ℕ) : Type 0 where
  pub block_size : geo.block ≡ block
  pub block_count : geo.blocks ≡ blocks
  pub address_capacity : geo.acap ≡ acap
  pub block_capacity : geo.bcap ≡ bcap
  pub spare_count : geo.spare ≡ spare
  pub group_size : geo.group ≡ group
  pub log_size : geo.log ≡ log

-- how many slots a flash has: one for each block that may be listed, and the spare ones
abbrev pub slot_count : Geometry → ℕ
slot_count geo = geo.bcap + geo.spare

-- an Err is this fault, and an Ok comes where there is none
abbrev pub GivesFault : {T F : Type 0} → Result T F → Option F → Type 0
GivesFault (Ok value) fault = fault ≡ None
GivesFault (Err e) fault = fault ≡ Some e
