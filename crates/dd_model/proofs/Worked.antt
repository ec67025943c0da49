-- States of worked scripts.
use Rattle.std.proofs.Common.{◌≡◌, ℕ, Bool, true, false, List, [], ◌∷◌, replicate, refl, Some, None, arith, inl, inr, ap, get_or}
use Rattle.dd_model.specs.declared.kind.Kind.TheVariants.{Hit, Join, Miss, Dup}
use Rattle.dd_model.specs.State.{Sizes, Entry, State, content, fresh}
use Rattle.dd_model.specs.Reference.{reference, read_answer, write_answer}
use Rattle.dd_model.specs.Orphans.{orphaned_addresses, orphaned_blocks}
use Rattle.dd_model.specs.Alignment.{Aligned, is_rewrite}

-- a block of 16 bytes whose first byte is this and whose others are zero
abbrev block : ℕ → List ℕ
block b = b ∷ replicate 15 0

abbrev disk : List (List ℕ)
disk = block 1 ∷ block 2 ∷ block 1 ∷ block 3 ∷ block 0 ∷ block 0 ∷ block 0 ∷ block 0 ∷ []

-- three addresses and two blocks, and the same with one block
abbrev worked : Sizes
worked = record { block = 16; blocks = 8; acap = 3; bcap = 2 }

abbrev small : Sizes
small = record { block = 16; blocks = 8; acap = 3; bcap = 1 }

abbrev read : Sizes → State → ℕ → State
read sizes s a = reference sizes s a (content s.array a)

abbrev write : State → ℕ → ℕ → State
write s a b = reference worked s a (block b)

abbrev entry : ℕ → Bool → Entry
entry address linked = record { address = address; linked = linked }

-- r 0, r 1, r 2, r 0 with room for one block
abbrev four : State
four = read small (read small (read small (read small (fresh disk) 0) 1) 2) 0

four_is : four ≡ record { array = disk; addresses = entry 0 true ∷ entry 2 true ∷ entry 1 false ∷ []; blocks = block 1 ∷ []; count = 4 }
four_is = refl

four_aligned : Aligned 1 four
four_aligned = record { together = (refl, tt); behind = (inl refl, (inl refl, (inr (omega arith), tt))) }

four_orphans : (orphaned_addresses four ≡ 1) × (orphaned_blocks four ≡ 0)
four_orphans = (refl, refl)

-- w 4 aa, w 5 aa, w 6 bb, w 6 cc
abbrev nine : State
nine = write (write (write (write (fresh disk) 4 0xaa) 5 0xaa) 6 0xbb) 6 0xcc

nine_is : nine ≡ record {
  array = block 1 ∷ block 2 ∷ block 1 ∷ block 3 ∷ block 0xaa ∷ block 0xaa ∷ block 0xcc ∷ block 0 ∷ [];
  addresses = entry 6 true ∷ entry 5 false ∷ entry 4 false ∷ [];
  blocks = block 0xcc ∷ block 0xbb ∷ [];
  count = 4;
}
nine_is = refl

nine_orphans : (orphaned_addresses nine ≡ 2) × (orphaned_blocks nine ≡ 1)
nine_orphans = (refl, refl)

-- a write that changed a listed address's content came before, and the lists no longer go together
nine_rewrite : is_rewrite (write (write (write (fresh disk) 4 0xaa) 5 0xaa) 6 0xbb) 6 (block 0xcc) ≡ true
nine_rewrite = refl

nine_not_aligned : Aligned 2 nine → ⊥
nine_not_aligned h = let differ : ◌≡◌ {A = ℕ} 0xaa 0xbb = ap (λ bytes. get_or bytes 0 0) ((h.together).1.0) in omega arith

-- then r 4
nine_read : read_answer worked nine 4 ≡ record { kind = Miss; out = None; drop = Some (block 0xbb) }
nine_read = refl

-- w 4 aa, r 0, r 2: r 1 lets the dirty address 4 fall off, and its block
abbrev last : State
last = read worked (read worked (write (fresh disk) 4 0xaa) 0) 2

last_is : last ≡ record {
  array = block 1 ∷ block 2 ∷ block 1 ∷ block 3 ∷ block 0xaa ∷ block 0 ∷ block 0 ∷ block 0 ∷ [];
  addresses = entry 2 true ∷ entry 0 true ∷ entry 4 true ∷ [];
  blocks = block 1 ∷ block 0xaa ∷ [];
  count = 3;
}
last_is = refl

last_read : read_answer worked last 1 ≡ record { kind = Miss; out = Some 4; drop = Some (block 0xaa) }
last_read = refl

-- w 4 aa, d 4
abbrev cleared : State
cleared = write (write (fresh disk) 4 0xaa) 4 0

cleared_is : cleared ≡ record { array = disk; addresses = entry 4 true ∷ []; blocks = block 0xaa ∷ []; count = 2 }
cleared_is = refl

-- d 4 is a dup and r 4 behind it a hit, and neither drops a block
cleared_answers : (write_answer worked (write (fresh disk) 4 0xaa) 4 (block 0) ≡ record { kind = Dup; out = None; drop = None })
    × (read_answer worked cleared 4 ≡ record { kind = Hit; out = None; drop = None })
cleared_answers = (refl, refl)

cleared_orphans : (orphaned_addresses (read worked cleared 4) ≡ 0) × (orphaned_blocks (read worked cleared 4) ≡ 1)
cleared_orphans = (refl, refl)

-- d 4 was a rewrite, and yet the lists go together
cleared_rewrite : is_rewrite (write (fresh disk) 4 0xaa) 4 (block 0) ≡ true
cleared_rewrite = refl

cleared_aligned : Aligned 2 (read worked cleared 4)
cleared_aligned = record { together = tt; behind = (inl refl, tt) }

-- r 4, r 5, r 6
abbrev zeros : State
zeros = read worked (read worked (read worked (fresh disk) 4) 5) 6

zeros_is : read worked zeros 7 ≡ record { array = disk; addresses = entry 7 true ∷ entry 6 true ∷ entry 5 true ∷ []; blocks = []; count = 4 }
zeros_is = refl

-- each of four reads of zeros is a join, and the last lets the first address fall off
zeros_answers : (read_answer worked (fresh disk) 4 ≡ record { kind = Join; out = None; drop = None })
    × (read_answer worked zeros 7 ≡ record { kind = Join; out = Some 4; drop = None })
zeros_answers = (refl, refl)

zeros_aligned : Aligned 2 (read worked zeros 7)
zeros_aligned = record { together = tt; behind = (inl refl, (inl refl, (inl refl, tt))) }

-- w 6 00, r 6
written_zeros : (write_answer worked (fresh disk) 6 (block 0) ≡ record { kind = Dup; out = None; drop = None })
    × (read_answer worked (write (fresh disk) 6 0) 6 ≡ record { kind = Hit; out = None; drop = None })
written_zeros = (refl, refl)
