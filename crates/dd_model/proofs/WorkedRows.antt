-- What worked rows show, and rows that show nothing.
use Rattle.std.proofs.Common.{◌≡◌, ℕ, zero, suc, true, false, List, [], ◌∷◌, refl, ap, slice_index}
use Rattle.std.specs.List.{AllByRecursion, IsDistinct}
use Rattle.dd_block.specs.declared.print.Fp.{Fp}
use Rattle.dd_block.specs.Print.{first_byte}
use Rattle.dd_record.specs.declared.row.Link.TheVariants.{Lost, Slot, Zero}
use Rattle.dd_record.specs.Spelling.{zero_fp}
use Rattle.dd_record.specs.Table.{Table}
use Rattle.dd_model.specs.State.{State, is_zero_block}
use Rattle.dd_model.specs.Rows.{LinkHolds, LinkTells, Shows, ShowsInVersion1}

-- blocks of one byte, and what two slots hold
abbrev byte : ℕ → List ℕ
byte b = b ∷ []

first_of : Fp → ℕ
first_of fp = slice_index fp.0 0

abbrev held : ℕ → List ℕ
held zero = byte 1
held (suc slot) = byte 0

-- after w 4 01, a read of 6 that lost its link, and d 5
abbrev rows : Table
rows = record {
  b = record { slot = 0; fp = first_byte (byte 1) } ∷ [];
  a = record { address = 5; link = Zero; dirty = true; fp = zero_fp }
      ∷ record { address = 4; link = Slot 0; dirty = true; fp = first_byte (byte 1) }
      ∷ record { address = 6; link = Lost; dirty = false; fp = first_byte (byte 2) } ∷ [];
}

abbrev state : State
state = record {
  array = byte 0 ∷ byte 0 ∷ byte 0 ∷ byte 0 ∷ byte 1 ∷ byte 0 ∷ byte 2 ∷ byte 0 ∷ [];
  addresses = record { address = 5; linked = true } ∷ record { address = 4; linked = true } ∷ record { address = 6; linked = false } ∷ [];
  blocks = byte 1 ∷ [];
  count = 3;
}

shown : Shows first_byte held rows 3 state
unfolding IsDistinct
shown = record {
  blocks = refl;
  distinct = (tt, tt);
  nonzero = (refl, tt);
  addresses = refl;
  counted = refl;
  b_prints = (refl, tt);
  a_rows = ((refl, refl), ((refl, refl), ((refl, refl), tt)));
}

-- a lost link tells that the content isn't zeros
lost_zeros : LinkTells first_byte held (byte 0) Lost (first_byte (byte 0)) → ⊥
lost_zeros tells = cc tells.0

-- a slot holds the content, and the fingerprint is that of the content
other_content : LinkTells first_byte held (byte 2) (Slot 0) (first_byte (byte 2)) → ⊥
other_content tells = cc tells.0

other_print : LinkTells first_byte held (byte 1) (Slot 0) (first_byte (byte 2)) → ⊥
unfolding first_of
other_print tells = cc (ap first_of tells.1)

-- a zero link tells that the content is zeros, with zeros for the fingerprint
zero_content : LinkTells first_byte held (byte 1) Zero zero_fp → ⊥
zero_content tells = cc tells.0

zero_print : LinkTells first_byte held (byte 0) Zero (first_byte (byte 1)) → ⊥
unfolding first_of
zero_print tells = cc (ap first_of tells.1)

-- no listed block is zeros
listed_zeros : (s : State) → Shows first_byte held (record { b = record { slot = 1; fp = zero_fp } ∷ []; a = [] }) 1 s → ⊥
listed_zeros s shows = zeros_listed s.blocks shows.blocks shows.nonzero
  where
    zeros_listed : (blocks : List (List ℕ)) → blocks ≡ byte 0 ∷ [] → AllByRecursion (λ block. is_zero_block block ≡ false) blocks → ⊥
    zeros_listed [] same nonzero = cc same
    zeros_listed (block ∷ blocks) same nonzero = let is : block ≡ byte 0 = cc same in cc (nonzero.0, is)

-- in version 1 it may be, and an address of zeros is linked to its slot, but no link is to zeros
shown_in_version_1 : ShowsInVersion1 first_byte held (record {
  b = record { slot = 1; fp = zero_fp } ∷ [];
  a = record { address = 0; link = Slot 1; dirty = false; fp = zero_fp } ∷ [];
}) 1 (record {
  array = byte 0 ∷ [];
  addresses = record { address = 0; linked = true } ∷ [];
  blocks = byte 0 ∷ [];
  count = 1;
})
unfolding IsDistinct
shown_in_version_1 = record { blocks = refl; distinct = (tt, tt); addresses = refl; counted = refl; linked = (refl, tt); b_prints = (refl, tt); a_prints = (refl, tt) }

no_zero_link : LinkHolds held (byte 0) Zero → ⊥
no_zero_link holds = holds
