-- The step on rows shows the reference on the state.
use Rattle.std.proofs.Common.{◌≡◌, ℕ, suc, ◌≤◌, ◌<◌, ◌==◌, Bool, true, false, cond, not, List, [], ◌∷◌, map, take, length, refl, ap, sym, ◌∙◌, subst, arith, Option, Some, None}
use Rattle.std.proofs.lemmas.List.{take-map}
use Rattle.std.proofs.lemmas.Option.{slice_get-map}
use Rattle.std.specs.Prelude.{filter, slice_get, slice_set, option_map}
use Rattle.std.specs.List.{AllByRecursion, IsDistinct}
use Rattle.std.specs.Str.{bytes_eq}
use Rattle.dd_block.specs.declared.print.Fp.{Fp}
use Rattle.dd_record.specs.declared.row.ARow.{ARow}
use Rattle.dd_record.specs.declared.row.BRow.{BRow}
use Rattle.dd_record.specs.declared.row.Link.{Link}
use Rattle.dd_record.specs.declared.row.Link.TheVariants.{Lost, Slot, Zero}
use Rattle.dd_record.specs.Table.{Table, has_slot}
use Rattle.dd_record.specs.Replay.{Touch, a_moved, b_moved, cut_block, cut_address, touched}
use Rattle.dd_record.specs.Replay as rows
use Rattle.dd_model.specs.State.{Sizes, Entry, State, is_zero_block}
use Rattle.dd_model.specs.Reference.{block_moved, address_moved, reference, dropped, fallen}
use Rattle.dd_model.specs.Reference as step
use Rattle.dd_model.specs.Rows.{entry_of, held_block, LinkTells, RowTells, Shows}
use Rattle.dd_model.proofs.Filters.{all_both, all_filter, all_take, all_map, all_passing, distinct_take, filter_short}
use Rattle.dd_model.proofs.Firsts.{distinct_front}
use Rattle.dd_model.proofs.Moved.{other_content, own_content}
use Rattle.dd_model.proofs.Slots.{map_cond, slot_front, slot_get, slot_moved, blocks_moved, HoldsAlone}
use Rattle.dd_model.proofs.CutLinks.{IsListedLink, Tells, entries_cut, tells_cut}
use Rattle.dd_model.proofs.Answering.{not_true}

abbrev Blocks : Type 0
Blocks = List (List ℕ)

a_filter : (address : ℕ) (a : List ARow) → map entry_of (filter (λ row. not (row.address == address)) a) ≡ filter (λ entry. not (entry.address == address)) (map entry_of a)
a_filter address [] = refl
a_filter address (row ∷ a) =
    map_cond entry_of (not (row.address == address)) row (filter (λ r. not (r.address == address)) a)
    ∙ ap (λ rest. cond (not (row.address == address)) (entry_of row ∷ rest) rest) (a_filter address a)

moved_by : (address : ℕ) (dirty : Bool) (block : Option BRow) (a : List ARow)
    → map entry_of (a_moved (record { address = address; block = block; dirty = dirty }) a) ≡ address_moved address (map entry_of a)
moved_by address dirty None a = ap (λ rest. record { address = address; linked = true } ∷ rest) (a_filter address a)
moved_by address dirty (Some row) a = ap (λ rest. record { address = address; linked = true } ∷ rest) (a_filter address a)

address_only : (row : Option ARow) → option_map (λ (entry : Entry). entry.address) (option_map entry_of row) ≡ option_map (λ (r : ARow). r.address) row
address_only None = refl
address_only (Some row) = refl

more_listed : (b more : List BRow) → ((slot : ℕ) → has_slot slot b ≡ true → has_slot slot more ≡ true) → (link : Link) → IsListedLink b link → IsListedLink more link
more_listed b more h Lost listed = tt
more_listed b more h (Slot slot) listed = h slot listed
more_listed b more h Zero listed = tt

module _ (print : List ℕ → Fp) (held : ℕ → List ℕ) (sizes : Sizes) (s : State) (table : Table) (count address : ℕ) (dirty : Bool) (shows : Shows print held table count s)
    (inside : address < length s.array) (links : AllByRecursion (λ (row : ARow). IsListedLink table.b row.link) table.a) where
  abbrev touch_of : Option BRow → Touch
  touch_of block = record { address = address; block = block; dirty = dirty }

  -- the address that falls off
  pub fallen-shown : (block : Option BRow) → fallen sizes s address ≡ option_map (λ (row : ARow). row.address) (cut_address sizes.acap (touch_of block) table.a)
  fallen-shown block =
      ap (λ entries. option_map (λ (entry : Entry). entry.address) (slice_get (address_moved address entries) sizes.acap)) shows.addresses
      ∙ ap (λ entries. option_map (λ (entry : Entry). entry.address) (slice_get entries sizes.acap)) (sym (moved_by address dirty block table.a))
      ∙ ap (option_map (λ (entry : Entry). entry.address)) (slice_get-map entry_of (a_moved (touch_of block) table.a) sizes.acap)
      ∙ address_only (cut_address sizes.acap (touch_of block) table.a)

  first_parts : (array : Blocks) (b : List BRow) (a : List ARow) → AllByRecursion (Tells print held array b) a → AllByRecursion (RowTells print held array) a
  first_parts array b [] h = tt
  first_parts array b (row ∷ a) h = ((h.0).0, first_parts array b a h.1)

  second_parts : (array : Blocks) (b : List BRow) (a : List ARow) → AllByRecursion (Tells print held array b) a → AllByRecursion (λ (row : ARow). IsListedLink b row.link) a
  second_parts array b [] h = tt
  second_parts array b (row ∷ a) h = ((h.0).1, second_parts array b a h.1)

  none_cut : (array : Blocks) (a : List ARow) → map (step.unlinked_from array None) (map entry_of a) ≡ map entry_of (map (rows.unlinked_from None) a)
  none_cut array [] = refl
  none_cut array (row ∷ a) = ap (λ entries. entry_of row ∷ entries) (none_cut array a)

  -- the rows of other addresses tell of the new array what they told of the old one
  others_tell : (x : List ℕ) (b : List BRow) → ((slot : ℕ) → has_slot slot table.b ≡ true → has_slot slot b ≡ true)
      → AllByRecursion (Tells print held (slice_set s.array address x) b) (filter (λ row. not (row.address == address)) table.a)
  others_tell x b more =
      all_passing (Tells print held s.array table.b) (Tells print held (slice_set s.array address x) b) (λ row. not (row.address == address))
      (λ row isnt h. (
        subst (λ block. LinkTells print held block row.link row.fp) (sym (other_content s.array address row.address x (not_true (row.address == address) isnt))) h.0,
        more_listed table.b b more row.link h.1,
      ))
      table.a (all_both (RowTells print held s.array) (λ (row : ARow). IsListedLink table.b row.link) table.a shows.a_rows links)

  entries_moved : (block : Option BRow) → take sizes.acap (address_moved address s.addresses) ≡ map entry_of (take sizes.acap (a_moved (touch_of block) table.a))
  entries_moved block =
      ap (λ entries. take sizes.acap (address_moved address entries)) shows.addresses
      ∙ ap (take sizes.acap) (sym (moved_by address dirty block table.a))
      ∙ take-map entry_of sizes.acap (a_moved (touch_of block) table.a)

  -- a reference with zeros
  module _ (x : List ℕ) (is : is_zero_block x ≡ true) where
    abbrev zero_rows : List ARow
    zero_rows = take sizes.acap (a_moved (touch_of None) table.a)

    zero_tells : AllByRecursion (Tells print held (slice_set s.array address x) table.b) zero_rows
    zero_tells =
        all_take (Tells print held (slice_set s.array address x) table.b) sizes.acap (a_moved (touch_of None) table.a)
        ((((ap is_zero_block (own_content s.array address x inside) ∙ is), refl), tt), others_tell x table.b (λ slot h. h))

    zero_stay : AllByRecursion (Tells print held (slice_set s.array address x) table.b) (touched sizes.acap sizes.bcap (touch_of None) table).a
    zero_stay = all_map (Tells print held (slice_set s.array address x) table.b) (Tells print held (slice_set s.array address x) table.b) (rows.unlinked_from None) (λ row h. h) zero_rows zero_tells

    zero_blocks : (reference sizes s address x).blocks ≡ s.blocks
    zero_blocks = ap (λ t. cond t s.blocks (take sizes.bcap (block_moved x s.blocks))) is

    pub dropped-zeros : dropped sizes s x ≡ None
    dropped-zeros = ap (λ t. cond t None (slice_get (block_moved x s.blocks) sizes.bcap)) is

    pub shows-zeros : Shows print held (touched sizes.acap sizes.bcap (touch_of None) table) (suc count) (reference sizes s address x)
    shows-zeros = record {
      blocks = zero_blocks ∙ shows.blocks;
      distinct = subst (λ blocks. IsDistinct bytes_eq blocks) (sym zero_blocks) shows.distinct;
      nonzero = subst (λ blocks. AllByRecursion (λ block. is_zero_block block ≡ false) blocks) (sym zero_blocks) shows.nonzero;
      addresses = ap (λ drop. map (step.unlinked_from (slice_set s.array address x) drop) (take sizes.acap (address_moved address s.addresses))) dropped-zeros
          ∙ ap (map (step.unlinked_from (slice_set s.array address x) None)) (entries_moved None) ∙ none_cut (slice_set s.array address x) zero_rows;
      counted = ap suc shows.counted;
      b_prints = shows.b_prints;
      a_rows = first_parts (slice_set s.array address x) table.b (touched sizes.acap sizes.bcap (touch_of None) table).a zero_stay;
    }

    pub links-zeros : AllByRecursion (λ (row : ARow). IsListedLink table.b row.link) (touched sizes.acap sizes.bcap (touch_of None) table).a
    links-zeros = second_parts (slice_set s.array address x) table.b (touched sizes.acap sizes.bcap (touch_of None) table).a zero_stay

  -- a reference with the block of a row that no other listed slot holds
  module _ (row : BRow) (isnt : is_zero_block (held row.slot) ≡ false) (printed : row.fp ≡ print (held row.slot)) (alone : HoldsAlone held row table.b) (short : length table.b ≤ sizes.bcap) where
    abbrev block : List ℕ
    block = held row.slot

    abbrev array : Blocks
    array = slice_set s.array address block

    abbrev moved : List BRow
    moved = b_moved row table.b

    abbrev cut : Option BRow
    cut = slice_get moved sizes.bcap

    abbrev kept : List ARow
    kept = take sizes.acap (a_moved (touch_of (Some row)) table.a)

    moved_blocks : block_moved block s.blocks ≡ map (held_block held) moved
    moved_blocks = ap (block_moved block) shows.blocks ∙ sym (blocks_moved held row table.b alone)

    moved_distinct : IsDistinct bytes_eq (map (held_block held) moved)
    moved_distinct = subst (λ blocks. IsDistinct bytes_eq blocks) moved_blocks (distinct_front block s.blocks shows.distinct)

    moved_nonzero : AllByRecursion (λ z. is_zero_block z ≡ false) (map (held_block held) moved)
    moved_nonzero = subst (λ blocks. AllByRecursion (λ z. is_zero_block z ≡ false) blocks) moved_blocks
        (isnt, all_filter (λ z. is_zero_block z ≡ false) (λ other. not (bytes_eq other block)) s.blocks shows.nonzero)

    moved_short : length moved ≤ suc sizes.bcap
    moved_short = omega (arith, filter_short (λ (other : BRow). not (other.slot == row.slot)) table.b, short)

    kept_tell : AllByRecursion (Tells print held array moved) kept
    kept_tell =
        all_take (Tells print held array moved) sizes.acap (a_moved (touch_of (Some row)) table.a) (
          ((sym (own_content s.array address block inside), printed ∙ ap print (sym (own_content s.array address block inside))), slot_front row (filter (λ other. not (other.slot == row.slot)) table.b)),
          others_tell block moved (λ slot h. slot_moved row slot table.b h),
        )

    block_stay : AllByRecursion (Tells print held array (take sizes.bcap moved)) (touched sizes.acap sizes.bcap (touch_of (Some row)) table).a
    block_stay =
        all_map (Tells print held array moved) (Tells print held array (take sizes.bcap moved)) (rows.unlinked_from cut)
        (λ r h. tells_cut print held array moved moved_distinct moved_nonzero sizes.bcap moved_short cut refl r h) kept kept_tell

    block_blocks : (reference sizes s address block).blocks ≡ take sizes.bcap (block_moved block s.blocks)
    block_blocks = ap (λ t. cond t s.blocks (take sizes.bcap (block_moved block s.blocks))) isnt

    -- the block that falls off
    pub dropped-block : dropped sizes s block ≡ option_map (held_block held) cut
    dropped-block =
        ap (λ t. cond t None (slice_get (block_moved block s.blocks) sizes.bcap)) isnt
        ∙ ap (λ blocks. slice_get blocks sizes.bcap) moved_blocks ∙ slice_get-map (held_block held) moved sizes.bcap

    pub shows-block : Shows print held (touched sizes.acap sizes.bcap (touch_of (Some row)) table) (suc count) (reference sizes s address block)
    shows-block = record {
      blocks = block_blocks ∙ ap (take sizes.bcap) moved_blocks ∙ take-map (held_block held) sizes.bcap moved;
      distinct = subst (λ blocks. IsDistinct bytes_eq blocks) (sym block_blocks) (distinct_take bytes_eq sizes.bcap (block_moved block s.blocks) (distinct_front block s.blocks shows.distinct));
      nonzero = subst (λ blocks. AllByRecursion (λ z. is_zero_block z ≡ false) blocks) (sym block_blocks)
          (all_take (λ z. is_zero_block z ≡ false) sizes.bcap (block_moved block s.blocks) (isnt, all_filter (λ z. is_zero_block z ≡ false) (λ other. not (bytes_eq other block)) s.blocks shows.nonzero));
      addresses = ap (λ drop. map (step.unlinked_from array drop) (take sizes.acap (address_moved address s.addresses))) dropped-block
          ∙ ap (map (step.unlinked_from array (option_map (held_block held) cut))) (entries_moved (Some row))
          ∙ entries_cut print held array moved moved_distinct moved_nonzero cut (slot_get sizes.bcap moved) kept kept_tell;
      counted = ap suc shows.counted;
      b_prints = all_take (λ (r : BRow). r.fp ≡ print (held r.slot)) sizes.bcap moved (printed, all_filter (λ (r : BRow). r.fp ≡ print (held r.slot)) (λ other. not (other.slot == row.slot)) table.b shows.b_prints);
      a_rows = first_parts array (take sizes.bcap moved) (touched sizes.acap sizes.bcap (touch_of (Some row)) table).a block_stay;
    }

    pub links-block : AllByRecursion (λ (r : ARow). IsListedLink (take sizes.bcap moved) r.link) (touched sizes.acap sizes.bcap (touch_of (Some row)) table).a
    links-block = second_parts array (take sizes.bcap moved) (touched sizes.acap sizes.bcap (touch_of (Some row)) table).a block_stay
