-- Numbers read from bytes, and the bytes that spell them.
use Rattle.std.proofs.Common.{◌≡◌, ℕ, zero, suc, ◌+◌, ◌<◌, ◌≤◌, ◌^◌, List, [], ◌∷◌, ◌++◌, length, take, drop, get_or, slice_index, replicate, Some, None, cond, Bool, true, false, not, ◌==◌, refl, ap, sym, ◌∙◌, arith, length-take, get_or-take, ⊎_elim, subst, get_or-drop, length-drop}
use Rattle.std.proofs.lemmas.Bool.{cases_lt}
use Rattle.std.proofs.lemmas.List.{get_or_past}
use Rattle.std.specs.Int.{w32, w64, to_le_bytes}
use Rattle.std.proofs.lemmas.Nat.{le_bytes_4, le_bytes_8}
use Rattle.byteorder.specs.Endian.{little_from}
use Rattle.byteorder.specs.Numbers.{little_number-reads_back}
use Rattle.std.specs.Prelude.{nat_lt}
use Rattle.std.specs.List.{position_or_len}
use Rattle.std.proofs.lemmas.Bool.Decides.{nat_tests}
use Rattle.dd_block.specs.Bytes.{part, u32_at, u64_at, first_nonzero}

-- the first bytes of some are bytes too
pub front_small : (n : ℕ) (bytes : List ℕ) → ((i : ℕ) → get_or bytes i 0 < 256) → (i : ℕ) → get_or (take n bytes) i 0 < 256
front_small n bytes small i = ⊎_elim
    (λ (lt : i < n). subst (λ b. b < 256) (sym (get_or-take n bytes i 0 lt)) (small i))
    (λ (ge : n ≤ i). subst (λ b. b < 256) (sym (get_or_past (take n bytes) i 0 (omega (arith, length-take n bytes)))) (omega arith))
    (cases_lt i n)

-- the first four bytes spell the number that they are read as
pub u32_spelled : (bytes : List ℕ) (n : ℕ) → 4 ≤ length bytes → ((i : ℕ) → get_or bytes i 0 < 256) → n ≡ little_from 0 4 bytes → to_le_bytes w32 n ≡ take 4 bytes
u32_spelled bytes n long small e =
    let size : length (take 4 bytes) ≡ 4 = simp length-take (omega arith) in
    let b0 : get_or (take 4 bytes) 0 0 ≡ get_or bytes 0 0 = get_or-take 4 bytes 0 0 (omega arith) in
    let b1 : get_or (take 4 bytes) 1 0 ≡ get_or bytes 1 0 = get_or-take 4 bytes 1 0 (omega arith) in
    let b2 : get_or (take 4 bytes) 2 0 ≡ get_or bytes 2 0 = get_or-take 4 bytes 2 0 (omega arith) in
    let b3 : get_or (take 4 bytes) 3 0 ≡ get_or bytes 3 0 = get_or-take 4 bytes 3 0 (omega arith) in
    le_bytes_4 (take 4 bytes) n size (front_small 4 bytes small) (omega arith)

-- and so do the first eight
pub u64_spelled : (bytes : List ℕ) (n : ℕ) → 8 ≤ length bytes → ((i : ℕ) → get_or bytes i 0 < 256) → n ≡ little_from 0 8 bytes → to_le_bytes w64 n ≡ take 8 bytes
u64_spelled bytes n long small e =
    let size : length (take 8 bytes) ≡ 8 = simp length-take (omega arith) in
    let b0 : get_or (take 8 bytes) 0 0 ≡ get_or bytes 0 0 = get_or-take 8 bytes 0 0 (omega arith) in
    let b1 : get_or (take 8 bytes) 1 0 ≡ get_or bytes 1 0 = get_or-take 8 bytes 1 0 (omega arith) in
    let b2 : get_or (take 8 bytes) 2 0 ≡ get_or bytes 2 0 = get_or-take 8 bytes 2 0 (omega arith) in
    let b3 : get_or (take 8 bytes) 3 0 ≡ get_or bytes 3 0 = get_or-take 8 bytes 3 0 (omega arith) in
    let b4 : get_or (take 8 bytes) 4 0 ≡ get_or bytes 4 0 = get_or-take 8 bytes 4 0 (omega arith) in
    let b5 : get_or (take 8 bytes) 5 0 ≡ get_or bytes 5 0 = get_or-take 8 bytes 5 0 (omega arith) in
    let b6 : get_or (take 8 bytes) 6 0 ≡ get_or bytes 6 0 = get_or-take 8 bytes 6 0 (omega arith) in
    let b7 : get_or (take 8 bytes) 7 0 ≡ get_or bytes 7 0 = get_or-take 8 bytes 7 0 (omega arith) in
    le_bytes_8 (take 8 bytes) n size (front_small 8 bytes small) (omega arith)

-- the bytes from a place on are small too
pub rest_small : (at : ℕ) (bytes : List ℕ) → ((i : ℕ) → get_or bytes i 0 < 256) → (i : ℕ) → get_or (drop at bytes) i 0 < 256
rest_small at bytes small i = subst (λ b. b < 256) (sym (get_or-drop at bytes i 0)) (small (at + i))

byte_dropped : (bytes : List ℕ) (at i k : ℕ) → at + i ≡ k → slice_index (drop at bytes) i ≡ slice_index bytes k
byte_dropped bytes at i k e = get_or-drop at bytes i 0 ∙ ap (λ place. get_or bytes place 0) e

u32_dropped : (bytes : List ℕ) (at : ℕ) → u32_at bytes at ≡ little_from 0 4 (drop at bytes)
u32_dropped bytes at =
    let b0 = byte_dropped bytes at 0 at (omega arith) in
    let b1 = byte_dropped bytes at 1 (suc at) (omega arith) in
    let b2 = byte_dropped bytes at 2 (suc (suc at)) (omega arith) in
    let b3 = byte_dropped bytes at 3 (suc (suc (suc at))) (omega arith) in
    omega (arith, b0, b1, b2, b3)

-- the bytes at a place spell the number that is read there
pub u32_part : (bytes : List ℕ) (at : ℕ) → at + 4 ≤ length bytes → ((i : ℕ) → get_or bytes i 0 < 256) → part bytes at 4 ≡ to_le_bytes w32 (u32_at bytes at)
u32_part bytes at long small =
    sym (u32_spelled (drop at bytes) (u32_at bytes at) (omega (arith, length-drop at bytes)) (rest_small at bytes small) (u32_dropped bytes at))

abbrev is_nonzero : ℕ → Bool
is_nonzero b = not (b == 0)

none_behind : (m n x y : ℕ) → cond (nat_lt (1 + m) (suc n)) (Some x) None ≡ None → cond (nat_lt m n) (Some y) None ≡ None
none_behind m n x y h = grind (arith, nat_tests)

positive : (b : ℕ) → (suc b == 0) ≡ false
positive b = grind (arith, nat_tests)

some_first : (b : Bool) (m n x : ℕ) → b ≡ false → cond (nat_lt (cond (not (not b)) m 0) (suc n)) (Some x) None ≡ None → ⊥
some_first true m n x e h = cc e
some_first false m n x e h = grind (arith, nat_tests)

-- no byte but zeros
pub zeros : (bytes : List ℕ) → first_nonzero bytes ≡ None → bytes ≡ replicate (length bytes) 0
zeros [] h = refl
zeros (zero ∷ bytes) h = ap (λ rest. 0 ∷ rest) (zeros bytes (none_behind (position_or_len is_nonzero bytes) (length bytes) (1 + position_or_len is_nonzero bytes) (position_or_len is_nonzero bytes) h))
zeros (suc b ∷ bytes) h = absurd (some_first (suc b == 0) (1 + position_or_len is_nonzero bytes) (length bytes) _ (positive b) h)

-- a number is read from its spelling
pub u32_read : (n : ℕ) (rest : List ℕ) → n < 2 ^ 32 → u32_at (to_le_bytes w32 n ++ rest) 0 ≡ n
u32_read n rest fits = little_number-reads_back 4 n rest (omega arith)

pub u64_read : (n : ℕ) (rest : List ℕ) → n < 2 ^ 64 → u64_at (to_le_bytes w64 n ++ rest) 0 ≡ n
u64_read n rest fits = little_number-reads_back 8 n rest (omega arith)
