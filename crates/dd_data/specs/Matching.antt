-- How the rows are kept: slots in one list, an index of their fingerprints, and the fingerprint of each.
use Rattle.std.specs.Prelude.{◌≡◌, ℕ, ◌<◌, ◌≤◌, ◌==◌, Bool, List, [], ◌∷◌, map, filter, length, Option, None, is_some, unwrap_or, slice_index, slice_index_or}
use Rattle.std.specs.Str.{bytes_eq}
use Rattle.std.specs.List.{IsDistinct}
use Rattle.std.specs.Int.{w64, from_le_bytes}
use Rattle.dd_block.specs.declared.print.Fp.{Fp}
use Rattle.dd_record.specs.declared.row.BRow.{BRow}
use Rattle.dd_lists.specs.Lists.{Lists, is_in, list_at}
use Rattle.dd_index.specs.Index.{Index, nodes_of}
use Rattle.dd_data.specs.Blocks.{Data}

-- the key of a fingerprint: its first eight bytes as a number, the lowest first
unfoldable pub key_of : Fp → ℕ
key_of fp =
    from_le_bytes w64
    (slice_index fp.0 0 ∷ slice_index fp.0 1 ∷ slice_index fp.0 2 ∷ slice_index fp.0 3 ∷ slice_index fp.0 4 ∷ slice_index fp.0 5 ∷ slice_index fp.0 6 ∷ slice_index fp.0 7 ∷ [])

-- the fingerprint of a slot whose block is listed, and whether it is
abbrev pub print_at : List (Option Fp) → ℕ → Option Fp
print_at prints slot = slice_index_or prints slot None

abbrev pub is_held : List (Option Fp) → ℕ → Bool
is_held prints slot = is_some (print_at prints slot)

-- the fingerprint, and one of no bytes where there is none; and the row
abbrev pub print_of : List (Option Fp) → ℕ → Fp
print_of prints slot = unwrap_or (print_at prints slot) (record { 0 = [] })

abbrev pub row_at : List (Option Fp) → ℕ → BRow
row_at prints slot = record { slot = slot; fp = print_of prints slot }

-- whether a slot has a fingerprint, and whether its fingerprint has a key
abbrev pub has_print : List (Option Fp) → Fp → ℕ → Bool
has_print prints fp slot = bytes_eq (print_of prints slot).0 fp.0

abbrev pub is_under : List (Option Fp) → ℕ → ℕ → Bool
is_under prints key slot = key_of (print_of prints slot) == key

-- the slots of the listed blocks
abbrev pub listed : Lists → List ℕ
listed recency = list_at 0 recency.lists

-- what they show
abbrev pub shown : ℕ → Lists → List (Option Fp) → Data
shown bcap recency prints = record { bcap = bcap; slots = length prints; rows = map (row_at prints) (listed recency) }

-- each slot that has a fingerprint is listed, once, and so many are; the index has them under their fingerprints' keys,
-- of those with one key the most recently referenced first
pub record Matches (bcap count : ℕ) (recency : Lists) (index : Index) (prints : List (Option Fp)) : Type 0 where
  pub some : 0 < bcap
  pub room : recency.room ≡ length prints
  pub keys : length index.keys ≡ length prints
  pub one : length recency.lists ≡ 1
  pub few : count ≤ bcap
  pub counted : count ≡ length (listed recency)
  pub held : (slot : ℕ) → is_held prints slot ≡ is_in slot (listed recency)
  pub distinct : IsDistinct (λ x y. x == y) (listed recency)
  pub indexed : (key : ℕ) → nodes_of key index ≡ filter (is_under prints key) (listed recency)
