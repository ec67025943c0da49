-- The superblock: its one spelling, and the first check that bytes break.
use Rattle.std.specs.Prelude.{ℕ, ◌+◌, ◌==◌, List, ◌∷◌, ◌++◌, replicate, slice_index, codes, Option, Some, None, if◌then◌else◌, option_map}
use Rattle.std.specs.Option.{option_or}
use Rattle.std.specs.Str.{bytes_eq}
use Rattle.std.specs.Int.{w32, to_le_bytes}
use Rattle.dd_block.specs.declared.geometry.Geometry.{Geometry}
use Rattle.dd_block.specs.declared.geometry.GeometryFault.{GeometryFault}
use Rattle.dd_block.specs.Geometry.{geometry_fault}
use Rattle.dd_block.specs.Bytes.{part, u32_at, first_nonzero}
use Rattle.dd_layout.specs.declared.superblock.SuperFault.{SuperFault}
use Rattle.dd_layout.specs.declared.superblock.SuperFault.TheVariants as faults

-- what a superblock is known by
abbrev pub super_magic : List ℕ
super_magic = codes "CDSB"

-- the seven numbers of a geometry
abbrev pub numbers_text : Geometry → List ℕ
numbers_text geo = to_le_bytes w32 geo.block ++ to_le_bytes w32 geo.blocks ++ to_le_bytes w32 geo.acap ++ to_le_bytes w32 geo.bcap
    ++ to_le_bytes w32 geo.spare ++ to_le_bytes w32 geo.group ++ to_le_bytes w32 geo.log

-- an open gate, the magic, version 1 and the geometry, with zeros between and behind
abbrev pub super_text : Geometry → List ℕ
super_text geo = 1 ∷ replicate 3 0 ++ super_magic ++ to_le_bytes w32 1 ++ numbers_text geo ++ replicate 24 0

-- the first of n bytes from a place on that isn't zero
abbrev pub nonzero_place : List ℕ → ℕ → ℕ → Option ℕ
nonzero_place bytes at n = option_map (λ i. at + i) (first_nonzero (part bytes at n))

-- the first padding byte that isn't zero
abbrev pub padding_fault : List ℕ → Option ℕ
padding_fault bytes = option_or (nonzero_place bytes 1 3) (nonzero_place bytes 40 24)

-- the first of the seven numbers that is out of its range
abbrev pub numbers_fault : List ℕ → Option GeometryFault
numbers_fault bytes = geometry_fault (u32_at bytes 12) (u32_at bytes 16) (u32_at bytes 20) (u32_at bytes 24) (u32_at bytes 28)
    (u32_at bytes 32) (u32_at bytes 36)

-- the gate, the magic and the version
abbrev pub kind_fault : List ℕ → Option SuperFault
kind_fault bytes =
    if slice_index bytes 0 == 1 then
    if bytes_eq (part bytes 4 4) super_magic then
    if u32_at bytes 8 == 1 then None
    else Some (faults.Version (u32_at bytes 8))
    else Some faults.Magic
    else Some (faults.Gate (slice_index bytes 0))

-- the first check that 64 bytes break, or none where they are a superblock
abbrev pub super_fault : List ℕ → Option SuperFault
super_fault bytes = option_or (kind_fault bytes)
    (option_or (option_map (λ fault. faults.Geometry fault) (numbers_fault bytes)) (option_map (λ at. faults.Padding at) (padding_fault bytes)))
