-- Replay of records: the step of D-LRU on slots in place of blocks.
use Rattle.std.specs.Prelude.{ℕ, ◌+◌, ◌==◌, not, ◌&&◌, ◌||◌, Bool, true, false, List, [], ◌∷◌, map, take, Option, Some, None, if◌then◌else◌, filter, is_none, option_map, option_and_then, slice_get, count_by}
use Rattle.std.specs.List.{list_any}
use Rattle.dd_block.specs.declared.print.Fp.{Fp}
use Rattle.dd_record.specs.declared.row.BRow.{BRow}
use Rattle.dd_record.specs.declared.row.ARow.{ARow}
use Rattle.dd_record.specs.declared.row.Link.{Link}
use Rattle.dd_record.specs.declared.row.Link.TheVariants as links
use Rattle.dd_record.specs.declared.rec.Rec.{Rec}
use Rattle.dd_record.specs.declared.rec.Rec.TheVariants.{Hit, Link as ToSlot, Store, Zero, Clean}
use Rattle.dd_record.specs.Spelling.{zero_fp}
use Rattle.dd_record.specs.Table.{Table, is_slot, is_link, b_row, link_at, is_dirty_at}

-- an address is referenced with the block of a row, or with zeros where there is none; dirty says that it becomes dirty
pub record Touch : Type 0 where
  pub address : ℕ
  pub block : Option BRow
  pub dirty : Bool

-- a block's row in front of the others
abbrev pub b_moved : BRow → List BRow → List BRow
b_moved block rows = block ∷ filter (λ row. not (row.slot == block.slot)) rows

-- B behind a reference: zeros leave it
abbrev pub b_after : ℕ → Option BRow → List BRow → List BRow
b_after bcap None rows = rows
b_after bcap (Some block) rows = take bcap (b_moved block rows)

-- the row that falls off B
abbrev pub cut_block : ℕ → Option BRow → List BRow → Option BRow
cut_block bcap None rows = None
cut_block bcap (Some block) rows = slice_get (b_moved block rows) bcap

-- the link to what is referenced
abbrev pub link_to : Option BRow → Link
link_to None = links.Zero
link_to (Some block) = links.Slot block.slot

-- the fingerprint beside that link
abbrev pub print_beside : Option BRow → Fp
print_beside None = zero_fp
print_beside (Some block) = block.fp

-- the address linked to what is referenced, and dirty where it becomes so or was so
abbrev pub linked_row : Touch → List ARow → ARow
linked_row touch rows = record { address = touch.address; link = link_to touch.block; dirty = touch.dirty || is_dirty_at touch.address rows; fp = print_beside touch.block }

-- the address's row in front of the others
abbrev pub a_moved : Touch → List ARow → List ARow
a_moved touch rows = linked_row touch rows ∷ filter (λ row. not (row.address == touch.address)) rows

-- the row that falls off A
abbrev pub cut_address : ℕ → Touch → List ARow → Option ARow
cut_address acap touch rows = slice_get (a_moved touch rows) acap

-- a row without its link, where that is to the block that fell off
abbrev pub unlinked_from : Option BRow → ARow → ARow
unlinked_from None row = row
unlinked_from (Some cut) row = if is_slot cut.slot row.link then record row { link = links.Lost } else row

-- both lists with what is referenced in front, cut, and the links to the block that fell off gone
abbrev pub touched : (acap bcap : ℕ) → Touch → Table → Table
touched acap bcap touch table = record {
  b = b_after bcap touch.block table.b;
  a = map (unlinked_from (cut_block bcap touch.block table.b)) (take acap (a_moved touch table.a));
}

-- an address may fall off where it isn't dirty
abbrev pub is_clean_cut : Option ARow → Bool
is_clean_cut None = true
is_clean_cut (Some row) = not row.dirty

-- a block may fall off where only the address itself refers to it dirty
abbrev pub is_free_cut : ℕ → List ARow → Option BRow → Bool
is_free_cut address rows None = true
is_free_cut address rows (Some cut) = not (list_any (λ row. is_slot cut.slot row.link && row.dirty && not (row.address == address)) rows)

-- both lists may be cut as a touch cuts them
abbrev pub may_touch : (acap bcap : ℕ) → Touch → Table → Bool
may_touch acap bcap touch table = is_clean_cut (cut_address acap touch table.a) && is_free_cut touch.address table.a (cut_block bcap touch.block table.b)

-- a reference to what a link leads to
abbrev pub hit_of : ℕ → Link → List BRow → Option Touch
hit_of address links.Lost b = None
hit_of address (links.Slot slot) b = option_map (λ row. record { address = address; block = Some row; dirty = false }) (b_row slot b)
hit_of address links.Zero b = Some (record { address = address; block = None; dirty = false })

-- what a record references, where its address and its slot allow it
abbrev pub touch_of : Rec → Table → Option Touch
touch_of (Hit address) table = hit_of address (link_at address table.a) table.b
touch_of (ToSlot address slot dirty) table =
    if dirty || not (is_link (link_at address table.a)) then option_map (λ row. record { address = address; block = Some row; dirty = dirty }) (b_row slot table.b) else None
touch_of (Store address slot fp dirty) table =
    if (dirty || not (is_link (link_at address table.a))) && is_none (b_row slot table.b) then Some (record { address = address; block = Some (record { slot = slot; fp = fp }); dirty = dirty }) else None
touch_of (Zero address dirty) table =
    if dirty || not (is_link (link_at address table.a)) then Some (record { address = address; block = None; dirty = dirty }) else None
touch_of (Clean address) table = None

-- the row clean where it is that of the address
abbrev pub cleaned_row : ℕ → ARow → ARow
cleaned_row address row = if row.address == address then record row { dirty = false } else row

-- the address clean, and nothing else changed
abbrev pub cleaned : ℕ → List ARow → List ARow
cleaned address rows = map (cleaned_row address) rows

-- the table after a touch, where it may be
abbrev pub after_touch : (acap bcap : ℕ) → Table → Touch → Option Table
after_touch acap bcap table touch = if may_touch acap bcap touch table then Some (touched acap bcap touch table) else None

-- the table after a record, where it fits
abbrev pub after_rec : (acap bcap : ℕ) → Rec → Table → Option Table
after_rec acap bcap (Clean address) table = if is_dirty_at address table.a then Some (record table { a = cleaned address table.a }) else None
after_rec acap bcap rec table = option_and_then (after_touch acap bcap table) (touch_of rec table)

-- the table after records that fit one after the other
abbrev pub replay : (acap bcap : ℕ) → List Rec → Table → Option Table
replay acap bcap [] table = Some table
replay acap bcap (rec ∷ recs) table = option_and_then (replay acap bcap recs) (after_rec acap bcap rec table)

-- a record of a reference raises the count
abbrev pub raises : Rec → Bool
raises (Clean address) = false
raises rec = true

-- the count behind records
abbrev pub count_after : ℕ → List Rec → ℕ
count_after count recs = count + count_by raises recs
