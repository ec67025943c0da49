-- The text of a superblock from the checks that its bytes keep, and its geometry from the text.
use Rattle.std.proofs.Common.{◌≡◌, ℕ, ◌+◌, ◌<◌, ◌≤◌, List, [], ◌∷◌, ◌++◌, length, take, drop, get_or, slice_index, replicate, Some, None, refl, ap, sym, ◌∙◌, arith, length-drop, length-take}
use Rattle.std.specs.Prelude.{Option, option_map}
use Rattle.std.specs.Option.{option_or}
use Rattle.std.proofs.Math.Seq.{take-add}
use Rattle.std.proofs.lemmas.List.{take_all}
use Rattle.std.proofs.lemmas.Slice.Eq.{bytes_eq-Decides}
use Rattle.std.specs.Int.{w32, to_le_bytes}
use Rattle.dd_block.specs.declared.geometry.Geometry.{Geometry}
use Rattle.dd_block.specs.Bytes.{part, u32_at, first_nonzero}
use Rattle.dd_block.proofs.Fields.{u32_part, u32_read, zeros}
use Rattle.dd_block.proofs.Geometries.{same_geometry, geometry_sound}
use Rattle.dd_layout.specs.Super.{super_text, super_magic, numbers_text, kind_fault, super_fault, padding_fault, nonzero_place}

-- what the gate, the magic and the version are where no check fails
record IsKind (bytes : List ℕ) : Type 0 where
  gate : slice_index bytes 0 ≡ 1
  magic : part bytes 4 4 ≡ super_magic
  version : u32_at bytes 8 ≡ 1

is_kind : (bytes : List ℕ) → kind_fault bytes ≡ None → IsKind bytes
is_kind bytes h = record {
  gate = grind (arith);
  magic = (bytes_eq-Decides (part bytes 4 4) super_magic).0 (grind (arith));
  version = grind (arith);
}

no_place : (at : ℕ) (o : Option ℕ) → option_map (λ i. at + i) o ≡ None → o ≡ None
no_place at None h = refl
no_place at (Some i) h = cc h

or_none : {T : Type 0} (o p : Option T) → option_or o p ≡ None → (o ≡ None) × (p ≡ None)
or_none None p h = (refl, h)
or_none (Some x) p h = cc h

-- the bytes of a part without a byte but zeros
zero_part : (bytes : List ℕ) (at n : ℕ) → at + n ≤ length bytes → nonzero_place bytes at n ≡ None → part bytes at n ≡ replicate n 0
zero_part bytes at n long h =
    let size : length (part bytes at n) ≡ n = omega (arith, length-take n (drop at bytes), length-drop at bytes) in
    zeros (part bytes at n) (no_place at (first_nonzero (part bytes at n)) h) ∙ ap (λ k. replicate k 0) size

first_byte_of : (bytes : List ℕ) → 1 ≤ length bytes → take 1 bytes ≡ slice_index bytes 0 ∷ []
first_byte_of [] h = absurd (omega arith)
first_byte_of (b ∷ bytes) h = refl

-- 64 bytes that keep every check are the text of the geometry whose numbers they spell
pub super_spelled : (bytes : List ℕ) (geo : Geometry) → length bytes ≡ 64 → ((i : ℕ) → get_or bytes i 0 < 256)
    → kind_fault bytes ≡ None → take 40 bytes ≡ take 12 bytes ++ numbers_text geo → padding_fault bytes ≡ None → bytes ≡ super_text geo
super_spelled bytes geo size small kind numbers padding =
    let is = is_kind bytes kind in
    let paddings = or_none (nonzero_place bytes 1 3) (nonzero_place bytes 40 24) padding in
    let gate : take 1 bytes ≡ 1 ∷ [] = first_byte_of bytes (omega arith) ∙ ap (λ b. b ∷ []) is.gate in
    let front : take 4 bytes ≡ 1 ∷ replicate 3 0 =
    take-add 1 3 bytes ∙ rw (gate, zero_part bytes 1 3 (omega arith) paddings.0) refl in
    let named : take 8 bytes ≡ 1 ∷ replicate 3 0 ++ super_magic = take-add 4 4 bytes ∙ rw (front, is.magic) refl in
    let version : part bytes 8 4 ≡ to_le_bytes w32 1 = u32_part bytes 8 (omega arith) small ∙ ap (to_le_bytes w32) is.version in
    let known : take 12 bytes ≡ 1 ∷ replicate 3 0 ++ super_magic ++ to_le_bytes w32 1 = take-add 8 4 bytes ∙ rw (named, version) refl in
    let all : take 64 bytes ≡ take 40 bytes ++ replicate 24 0 =
    take-add 40 24 bytes ∙ ap (λ rest. take 40 bytes ++ rest) (zero_part bytes 40 24 (omega arith) paddings.1) in
    sym (take_all 64 bytes (omega arith)) ∙ all ∙ rw (numbers, known) refl

-- the number at a place of one text is that of the other
numbers_same : (xs ys : List ℕ) (at n m : ℕ) → xs ≡ ys → u32_at xs at ≡ n → u32_at ys at ≡ m → n ≡ m
numbers_same xs ys at n m e hn hm = sym hn ∙ ap (λ bytes. u32_at bytes at) e ∙ hm

-- two geometries with one text are one
pub super_text_same : (g h : Geometry) → super_text g ≡ super_text h → g ≡ h
super_text_same g h e = same_geometry g h
    (numbers_same (super_text g) (super_text h) 12 g.block h.block e (u32_read g.block [] (omega arith)) (u32_read h.block [] (omega arith)))
    (numbers_same (super_text g) (super_text h) 16 g.blocks h.blocks e (u32_read g.blocks [] (omega arith)) (u32_read h.blocks [] (omega arith)))
    (numbers_same (super_text g) (super_text h) 20 g.acap h.acap e (u32_read g.acap [] (omega arith)) (u32_read h.acap [] (omega arith)))
    (numbers_same (super_text g) (super_text h) 24 g.bcap h.bcap e (u32_read g.bcap [] (omega arith)) (u32_read h.bcap [] (omega arith)))
    (numbers_same (super_text g) (super_text h) 28 g.spare h.spare e (u32_read g.spare [] (omega arith)) (u32_read h.spare [] (omega arith)))
    (numbers_same (super_text g) (super_text h) 32 g.group h.group e (u32_read g.group [] (omega arith)) (u32_read h.group [] (omega arith)))
    (numbers_same (super_text g) (super_text h) 36 g.log h.log e (u32_read g.log [] (omega arith)) (u32_read h.log [] (omega arith)))

-- the text of a geometry has no fault
pub super_sound : (geo : Geometry) → super_fault (super_text geo) ≡ None
super_sound geo = rw (
  u32_read geo.block [] (omega arith),
  u32_read geo.blocks [] (omega arith),
  u32_read geo.acap [] (omega arith),
  u32_read geo.bcap [] (omega arith),
  u32_read geo.spare [] (omega arith),
  u32_read geo.group [] (omega arith),
  u32_read geo.log [] (omega arith),
  geometry_sound geo,
) refl
