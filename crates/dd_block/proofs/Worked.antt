-- The definitions on worked values.
use Rattle.std.proofs.Common.{◌≡◌, [], ◌∷◌, replicate, refl, Some, None, Ok, Err, codes}
use Rattle.hex.specs.Hex.{encode_with, decode_pairs}
use Rattle.dd_block.specs.declared.geometry.GeometryFault.TheVariants as faults
use Rattle.dd_block.specs.declared.text.TextFault.TheVariants.{Empty, Odd, Long, Digit}
use Rattle.dd_block.specs.Geometry.{geometry_fault}
use Rattle.dd_block.specs.Text.{block_text, block_of_text}
use Rattle.dd_block.specs.Lcg.{next_state, draw}

text_ab : block_text (0xab ∷ replicate 15 0) ≡ codes "ab"
unfolding encode_with block_text
text_ab = refl

text_zero : block_text (replicate 16 0) ≡ codes "00"
unfolding encode_with block_text
text_zero = refl

text_inner : block_text (0xab ∷ 0 ∷ 2 ∷ replicate 13 0) ≡ codes "ab0002"
unfolding encode_with block_text
text_inner = refl

read_upper : block_of_text 16 (codes "aB01") ≡ Ok (0xab ∷ 1 ∷ replicate 14 0)
unfolding decode_pairs
read_upper = refl

read_empty : block_of_text 16 [] ≡ Err Empty
unfolding decode_pairs
read_empty = refl

read_odd : block_of_text 16 (codes "abc") ≡ Err Odd
unfolding decode_pairs
read_odd = refl

read_digit : block_of_text 16 (codes "abcgxx") ≡ Err (Digit 3)
unfolding decode_pairs
read_digit = refl

read_long : block_of_text 16 (replicate 34 49) ≡ Err Long
unfolding decode_pairs
read_long = refl

right : geometry_fault 16 8 3 2 1 8 392 ≡ None
right = refl

odd_block : geometry_fault 15 8 3 2 1 8 392 ≡ Some (faults.Block 15)
odd_block = refl

small_log : geometry_fault 16 8 3 2 1 8 391 ≡ Some (faults.Log 391)
small_log = refl

first_draw : draw 1 ≡ 1817669548
first_draw = refl

second_draw : draw (next_state 1) ≡ 2187888307
second_draw = refl

third_draw : draw (next_state (next_state 1)) ≡ 2784682393
third_draw = refl
