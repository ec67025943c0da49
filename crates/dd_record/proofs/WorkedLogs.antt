-- Records that fit and that don't, and rows that don't fit.
use Rattle.std.proofs.Common.{◌≡◌, ℕ, true, false, [], ◌∷◌, refl, Some, None}
use Rattle.dd_block.specs.declared.print.Fp.{Fp}
use Rattle.dd_block.specs.Print.{first_byte}
use Rattle.dd_record.specs.declared.rec.Rec.TheVariants.{Hit, Link as ToSlot, Store, Zero, Clean}
use Rattle.dd_record.specs.declared.row.Link.TheVariants as links
use Rattle.dd_record.specs.Table.{empty_table, first_bad_a, first_bad_b}
use Rattle.dd_record.specs.Spelling.{zero_fp}
use Rattle.dd_record.specs.Replay.{replay}

-- a fingerprint
abbrev p : ℕ → Fp
p n = first_byte (n ∷ [])

-- a hit moves both rows and leaves the address dirty
hit_keeps : replay 3 2 (Store 4 0 (p 170) true ∷ Store 5 1 (p 187) false ∷ Hit 4 ∷ []) empty_table
    ≡ Some (record {
      b = record { slot = 0; fp = p 170 } ∷ record { slot = 1; fp = p 187 } ∷ [];
      a = record { address = 4; link = links.Slot 0; dirty = true; fp = p 170 } ∷ record { address = 5; link = links.Slot 1; dirty = false; fp = p 187 } ∷ [];
    })
hit_keeps = refl

-- a joined address takes the fingerprint of its slot's row
link_prints : replay 3 1 (Store 4 0 (p 170) false ∷ Store 5 1 (p 187) false ∷ ToSlot 4 1 false ∷ []) empty_table
    ≡ Some (record {
      b = record { slot = 1; fp = p 187 } ∷ [];
      a = record { address = 4; link = links.Slot 1; dirty = false; fp = p 187 } ∷ record { address = 5; link = links.Slot 1; dirty = false; fp = p 187 } ∷ [];
    })
link_prints = refl

-- an address that is linked joins a block only with dirty
linked_join : replay 3 2 (Store 4 0 (p 170) true ∷ ToSlot 4 0 false ∷ []) empty_table ≡ None
linked_join = refl

-- a block is stored in a slot that isn't listed
listed_store : replay 3 2 (Store 4 0 (p 170) true ∷ Store 5 0 (p 187) true ∷ []) empty_table ≡ None
listed_store = refl

-- no dirty address falls off
dirty_out : replay 1 2 (Store 4 0 (p 170) true ∷ Store 5 1 (p 187) true ∷ []) empty_table ≡ None
dirty_out = refl

-- a clean one does
clean_out : replay 1 2 (Store 4 0 (p 170) false ∷ Store 5 1 (p 187) true ∷ []) empty_table
    ≡ Some (record {
      b = record { slot = 1; fp = p 187 } ∷ record { slot = 0; fp = p 170 } ∷ [];
      a = record { address = 5; link = links.Slot 1; dirty = true; fp = p 187 } ∷ [];
    })
clean_out = refl

-- the address of the record may be the dirty referrer of the block that falls off
own_block_cut : replay 3 1 (Store 1 0 (p 170) true ∷ Store 1 1 (p 187) true ∷ []) empty_table
    ≡ Some (record { b = record { slot = 1; fp = p 187 } ∷ []; a = record { address = 1; link = links.Slot 1; dirty = true; fp = p 187 } ∷ [] })
own_block_cut = refl

-- a clean address isn't written back
clean_of_clean : replay 3 2 (Store 4 0 (p 170) false ∷ Clean 4 ∷ []) empty_table ≡ None
clean_of_clean = refl

-- a lost link isn't hit
hit_of_unlinked : replay 3 1 (Store 4 0 (p 170) false ∷ Store 5 1 (p 187) false ∷ Hit 4 ∷ []) empty_table ≡ None
hit_of_unlinked = refl

-- the second row of a slot, the second of an address, a slot without a row, another fingerprint: none fits
same_slot : first_bad_b (record { b = record { slot = 0; fp = p 1 } ∷ record { slot = 0; fp = p 1 } ∷ []; a = [] }) ≡ Some 1
same_slot = refl

same_address : first_bad_a (record { b = []; a = record { address = 5; link = links.Lost; dirty = false; fp = p 1 } ∷ record { address = 5; link = links.Lost; dirty = false; fp = p 1 } ∷ [] }) ≡ Some 1
same_address = refl

no_such_slot : first_bad_a (record { b = record { slot = 1; fp = p 1 } ∷ []; a = record { address = 5; link = links.Slot 0; dirty = false; fp = p 1 } ∷ [] }) ≡ Some 0
no_such_slot = refl

other_print : first_bad_a (record { b = record { slot = 0; fp = p 2 } ∷ []; a = record { address = 5; link = links.Slot 0; dirty = false; fp = p 1 } ∷ [] }) ≡ Some 0
other_print = refl

-- what isn't linked fits with any fingerprint, and so does zero
lost_fits : first_bad_a (record { b = []; a = record { address = 5; link = links.Lost; dirty = false; fp = p 1 } ∷ record { address = 6; link = links.Zero; dirty = true; fp = zero_fp } ∷ [] }) ≡ None
lost_fits = refl

-- slots and links after w 4 aa, w 5 aa, w 6 bb, clean 4 and 5, w 6 cc
after_cut : replay 3 2 (Store 4 0 (p 170) true ∷ ToSlot 5 0 true ∷ Store 6 1 (p 187) true ∷ Clean 4 ∷ Clean 5 ∷ Store 6 2 (p 204) true ∷ []) empty_table
    ≡ Some (record {
      b = record { slot = 2; fp = p 204 } ∷ record { slot = 1; fp = p 187 } ∷ [];
      a = record { address = 6; link = links.Slot 2; dirty = true; fp = p 204 } ∷ record { address = 5; link = links.Lost; dirty = false; fp = p 170 } ∷ record { address = 4; link = links.Lost; dirty = false; fp = p 170 } ∷ [];
    })
after_cut = refl

-- with 4 and 5 still dirty the last record doesn't fit
dirty_cut : replay 3 2 (Store 4 0 (p 170) true ∷ ToSlot 5 0 true ∷ Store 6 1 (p 187) true ∷ Store 6 2 (p 204) true ∷ []) empty_table ≡ None
dirty_cut = refl

-- a block that isn't listed isn't joined
no_block : replay 3 2 (ToSlot 0 0 false ∷ []) empty_table ≡ None
no_block = refl

-- w 4 aa, d 4, r 4: the address is zero and dirty, and B stays
after_zeros : replay 3 2 (Store 4 0 (p 170) true ∷ Zero 4 true ∷ Hit 4 ∷ []) empty_table
    ≡ Some (record { b = record { slot = 0; fp = p 170 } ∷ []; a = record { address = 4; link = links.Zero; dirty = true; fp = zero_fp } ∷ [] })
after_zeros = refl

-- a read of zeros by an address that isn't linked: it becomes zero and isn't dirty
zero_joined : replay 3 1 (Store 4 0 (p 170) false ∷ Store 5 1 (p 187) false ∷ Zero 4 false ∷ []) empty_table
    ≡ Some (record {
      b = record { slot = 1; fp = p 187 } ∷ [];
      a = record { address = 4; link = links.Zero; dirty = false; fp = zero_fp } ∷ record { address = 5; link = links.Slot 1; dirty = false; fp = p 187 } ∷ [];
    })
zero_joined = refl

-- with dirty 0 the address isn't linked: neither to a slot nor zero
linked_zero : replay 3 2 (Store 4 0 (p 170) false ∷ Zero 4 false ∷ []) empty_table ≡ None
linked_zero = refl

zero_twice : replay 3 2 (Zero 4 false ∷ Zero 4 false ∷ []) empty_table ≡ None
zero_twice = refl

zero_join : replay 3 2 (Store 5 0 (p 170) true ∷ Zero 4 false ∷ ToSlot 4 0 false ∷ []) empty_table ≡ None
zero_join = refl

zero_store : replay 3 2 (Zero 4 false ∷ Store 4 0 (p 170) false ∷ []) empty_table ≡ None
zero_store = refl

-- zeros move the address alone and leave a full B as it is
zero_leaves_blocks : replay 3 1 (Store 4 0 (p 170) true ∷ Zero 5 true ∷ Hit 5 ∷ Zero 6 false ∷ []) empty_table
    ≡ Some (record {
      b = record { slot = 0; fp = p 170 } ∷ [];
      a = record { address = 6; link = links.Zero; dirty = false; fp = zero_fp }
          ∷ record { address = 5; link = links.Zero; dirty = true; fp = zero_fp }
          ∷ record { address = 4; link = links.Slot 0; dirty = true; fp = p 170 } ∷ [];
    })
zero_leaves_blocks = refl

-- zeros cut A, and no dirty address falls off
zero_cuts : replay 1 2 (Zero 4 false ∷ Zero 5 false ∷ []) empty_table
    ≡ Some (record { b = []; a = record { address = 5; link = links.Zero; dirty = false; fp = zero_fp } ∷ [] })
zero_cuts = refl

dirty_zero_out : replay 1 2 (Zero 4 true ∷ Zero 5 false ∷ []) empty_table ≡ None
dirty_zero_out = refl

-- a hit of zeros moves the address and leaves it dirty
zero_hit : replay 3 2 (Zero 4 true ∷ Zero 5 false ∷ Hit 4 ∷ []) empty_table
    ≡ Some (record {
      b = [];
      a = record { address = 4; link = links.Zero; dirty = true; fp = zero_fp } ∷ record { address = 5; link = links.Zero; dirty = false; fp = zero_fp } ∷ [];
    })
zero_hit = refl

-- zeros that were written back are clean
zero_cleaned : replay 3 2 (Zero 4 true ∷ Clean 4 ∷ []) empty_table
    ≡ Some (record { b = []; a = record { address = 4; link = links.Zero; dirty = false; fp = zero_fp } ∷ [] })
zero_cleaned = refl

clean_of_clean_zero : replay 3 2 (Zero 4 false ∷ Clean 4 ∷ []) empty_table ≡ None
clean_of_clean_zero = refl

-- a block that falls off unlinks no zero address
zero_stays_linked : replay 3 1 (Store 4 0 (p 170) false ∷ Zero 5 true ∷ Store 6 1 (p 187) false ∷ []) empty_table
    ≡ Some (record {
      b = record { slot = 1; fp = p 187 } ∷ [];
      a = record { address = 6; link = links.Slot 1; dirty = false; fp = p 187 }
          ∷ record { address = 5; link = links.Zero; dirty = true; fp = zero_fp }
          ∷ record { address = 4; link = links.Lost; dirty = false; fp = p 170 } ∷ [];
    })
zero_stays_linked = refl
