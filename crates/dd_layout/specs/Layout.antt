-- Where the parts of a flash and of a disk stand, in bytes.
use Rattle.std.specs.Prelude.{ℕ, ◌+◌, ◌*◌, List}
use Rattle.dd_block.specs.declared.geometry.Geometry.{Geometry}
use Rattle.dd_block.specs.Bytes.{part}
use Rattle.dd_block.specs.Geometry.{slot_count}

-- a gate, a snapshot with as many rows as there may be, and a log
abbrev pub region_size : Geometry → ℕ
region_size geo = 33 + 36 * geo.bcap + 44 * geo.acap + geo.log

-- where the region 0 or 1 begins
abbrev pub region_at : Geometry → ℕ → ℕ
region_at geo region = 64 + region * region_size geo

-- the bytes of a region
abbrev pub region_bytes : Geometry → List ℕ → ℕ → List ℕ
region_bytes geo flash region = part flash (region_at geo region) (region_size geo)

-- where a slot begins, behind both regions
abbrev pub slot_at : Geometry → ℕ → ℕ
slot_at geo slot = 64 + 2 * region_size geo + slot * geo.block

-- how many bytes of a flash are used
abbrev pub flash_need : Geometry → ℕ
flash_need geo = 64 + 2 * region_size geo + slot_count geo * geo.block

-- how many bytes of a disk are used
abbrev pub disk_need : Geometry → ℕ
disk_need geo = geo.blocks * geo.block

-- the block in a slot of the flash
abbrev pub slot_block : Geometry → List ℕ → ℕ → List ℕ
slot_block geo flash slot = part flash (slot_at geo slot) geo.block

-- the block of the disk at an address
abbrev pub disk_block : Geometry → List ℕ → ℕ → List ℕ
disk_block geo disk address = part disk (address * geo.block) geo.block
