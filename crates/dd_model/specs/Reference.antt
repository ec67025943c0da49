-- A reference, where zeros take no place among the blocks: an address becomes the most recent one, with a content that becomes the most recent block.
use Rattle.std.specs.Prelude.{◌≡◌, ℕ, suc, ◌==◌, not, true, false, List, ◌∷◌, map, take, Option, Some, None, if◌then◌else◌, filter, option_map, slice_get, slice_set}
use Rattle.std.specs.Str.{bytes_eq}
use Rattle.dd_block.specs.declared.print.Fp.{Fp}
use Rattle.dd_model.specs.declared.kind.Kind.{Kind}
use Rattle.dd_model.specs.declared.kind.Kind.TheVariants.{Hit, Join, Miss, Dup, New}
use Rattle.dd_model.specs.declared.done.Done.{Done}
use Rattle.dd_model.specs.State.{Sizes, Entry, State, content, is_zero_block, is_at_hand, is_linked}

-- the block in front of the others
abbrev pub block_moved : List ℕ → List (List ℕ) → List (List ℕ)
block_moved block blocks = block ∷ filter (λ other. not (bytes_eq other block)) blocks

-- the address in front of the others, linked
abbrev pub address_moved : ℕ → List Entry → List Entry
address_moved address entries = record { address = address; linked = true } ∷ filter (λ entry. not (entry.address == address)) entries

-- the list of blocks after a reference
abbrev pub blocks_after : Sizes → State → List ℕ → List (List ℕ)
blocks_after sizes s block = if is_zero_block block then s.blocks else take sizes.bcap (block_moved block s.blocks)

-- the block that falls off the list
abbrev pub dropped : Sizes → State → List ℕ → Option (List ℕ)
dropped sizes s block = if is_zero_block block then None else slice_get (block_moved block s.blocks) sizes.bcap

-- the address that falls off the list
abbrev pub fallen : Sizes → State → ℕ → Option ℕ
fallen sizes s address = option_map (λ entry. entry.address) (slice_get (address_moved address s.addresses) sizes.acap)

-- an entry without its link, where its content is the block that fell off
abbrev pub unlinked_from : List (List ℕ) → Option (List ℕ) → Entry → Entry
unlinked_from array None entry = entry
unlinked_from array (Some drop) entry = if bytes_eq (content array entry.address) drop then record entry { linked = false } else entry

-- the state after a reference to an address with a content
abbrev pub reference : Sizes → State → ℕ → List ℕ → State
reference sizes s address block = record {
  array = slice_set s.array address block;
  addresses = map (unlinked_from (slice_set s.array address block) (dropped sizes s block)) (take sizes.acap (address_moved address s.addresses));
  blocks = blocks_after sizes s block;
  count = suc s.count;
}

-- the kind of a read and of a write, before it is done
abbrev pub read_kind : State → ℕ → Kind
read_kind s address = if is_linked address s.addresses then Hit else if is_at_hand (content s.array address) s.blocks then Join else Miss

abbrev pub write_kind : State → List ℕ → Kind
write_kind s block = if is_at_hand block s.blocks then Dup else New

-- what a reference answers: its kind, and what fell off
pub record Answer : Type 0 where
  pub kind : Kind
  pub out : Option ℕ
  pub drop : Option (List ℕ)

abbrev pub read_answer : Sizes → State → ℕ → Answer
read_answer sizes s address = record { kind = read_kind s address; out = fallen sizes s address; drop = dropped sizes s (content s.array address) }

abbrev pub write_answer : Sizes → State → ℕ → List ℕ → Answer
write_answer sizes s address block = record { kind = write_kind s block; out = fallen sizes s address; drop = dropped sizes s block }

-- what the code answers tells this: a block that fell off by its fingerprint
pub record Tells (print : List ℕ → Fp) (done : Done) (answer : Answer) : Type 0 where
  pub kind : done.kind ≡ answer.kind
  pub out : done.cut.out ≡ answer.out
  pub drop : option_map (λ row. row.fp) done.cut.drop ≡ option_map print answer.drop
