-- Parts of a list of bytes, and the numbers in them.
use Rattle.std.specs.Prelude.{◌≡◌, ℕ, ◌+◌, ◌==◌, not, List, ◌++◌, length, take, drop, position, Option}
use Rattle.byteorder.specs.Endian.{little_from}

-- the n bytes from a place on
abbrev pub part : List ℕ → ℕ → ℕ → List ℕ
part bytes at n = take n (drop at bytes)

-- the text stands in the bytes at that place
abbrev pub StandsAt : List ℕ → ℕ → List ℕ → Type 0
StandsAt bytes at text = part bytes at (length text) ≡ text

-- the bytes with the text written over them at that place
abbrev pub written_at : List ℕ → ℕ → List ℕ → List ℕ
written_at bytes at text = take at bytes ++ text ++ drop (at + length text) bytes

-- the number in the four bytes from a place on, the lower byte first
abbrev pub u32_at : List ℕ → ℕ → ℕ
u32_at bytes at = little_from at 4 bytes

-- and in the eight bytes
abbrev pub u64_at : List ℕ → ℕ → ℕ
u64_at bytes at = little_from at 8 bytes

-- the place of the first byte that isn't zero
abbrev pub first_nonzero : List ℕ → Option ℕ
first_nonzero bytes = position (λ b. not (b == 0)) bytes
