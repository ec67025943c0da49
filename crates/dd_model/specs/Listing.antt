-- Both lists of rows, how long they may be, and the dirty addresses by age; what each step makes of them.
use Rattle.std.specs.Prelude.{◌≡◌, ℕ, IsTrue, ◌+◌, ◌-◌, ◌<◌, ◌≤◌, ◌==◌, not, ◌&&◌, Bool, true, false, List, [], ◌∷◌, ◌++◌, length, map, filter, reverse, Option, Some, None, if◌then◌else◌, is_some, option_map, slice_get, ⊤}
use Rattle.std.specs.List.{AllByRecursion, list_any}
use Rattle.dd_slots.specs.Numbers.{is_among, Enumerates}
use Rattle.dd_record.specs.declared.row.BRow.{BRow}
use Rattle.dd_record.specs.declared.row.ARow.{ARow}
use Rattle.dd_record.specs.declared.row.Link.{Link}
use Rattle.dd_record.specs.declared.row.Link.TheVariants as links
use Rattle.dd_record.specs.Table.{Table, empty_table, is_slot, a_row, b_row, is_dirty_at, IsDirtyLinked, first_bad_a, first_bad_b, RowsFit}
use Rattle.dd_record.specs.Listed.{row_behind}
use Rattle.dd_record.specs.Replay.{Touch, cut_block, cut_address, touched, may_touch, cleaned}
use Rattle.dd_model.specs.declared.done.Cut.{Cut}
use Rattle.dd_model.specs.declared.done.Victims.{Victims}
use Rattle.dd_model.specs.declared.given.Block.{Block}
use Rattle.dd_model.specs.declared.given.Block.TheVariants.{Known, Fresh, Zero}
use Rattle.dd_model.specs.declared.given.Want.{Want}
use Rattle.dd_model.specs.declared.given.Want.TheVariants as wants
use Rattle.dd_model.specs.declared.given.Misfit.{Misfit}

-- what lists keep
pub record Listing : Type 0 where
  -- how many addresses and distinct blocks are listed at most, and how many slots there are
  pub acap : ℕ
  pub bcap : ℕ
  pub slots : ℕ
  pub table : Table
  -- the dirty addresses, the one that became dirty longest ago first
  pub dirty : List ℕ

abbrev pub listing_of : (acap bcap slots : ℕ) → List BRow → List ARow → List ℕ → Listing
listing_of acap bcap slots b a dirty = record { acap = acap; bcap = bcap; slots = slots; table = record { b = b; a = a }; dirty = dirty }

-- nothing is listed
abbrev pub empty_listing : (acap bcap slots : ℕ) → Listing
empty_listing acap bcap slots = record { acap = acap; bcap = bcap; slots = slots; table = empty_table; dirty = [] }

-- what holds of all lists
pub record IsListing (lists : Listing) : Type 0 where
  pub acap_least : 1 ≤ lists.acap
  pub bcap_least : 1 ≤ lists.bcap
  pub slots_least : lists.bcap + 1 ≤ lists.slots
  pub a_few : length lists.table.a ≤ lists.acap
  pub b_few : length lists.table.b ≤ lists.bcap
  pub b_slots : AllByRecursion (λ row. row.slot < lists.slots) lists.table.b
  pub fit : RowsFit lists.table
  pub linked : AllByRecursion IsDirtyLinked lists.table.a
  pub dirty_ones : Enumerates (λ address. is_dirty_at address lists.table.a) lists.dirty

-- the row of the block that is referenced; zeros have none
abbrev pub row_of : Block → List BRow → Option BRow
row_of (Known slot) rows = b_row slot rows
row_of (Fresh row) rows = Some row
row_of Zero rows = None

-- a known block is listed, and a fresh one isn't and has a slot
abbrev pub IsGiven : Listing → Block → Type 0
IsGiven lists (Known slot) = IsTrue (is_some (b_row slot lists.table.b))
IsGiven lists (Fresh row) = (row.slot < lists.slots) × (b_row row.slot lists.table.b ≡ None)
IsGiven lists Zero = ⊤

-- what is asked of a block that is referenced so
abbrev pub want_of : Block → Want
want_of (Known slot) = wants.Slot slot
want_of (Fresh row) = wants.Fresh
want_of Zero = wants.Zero

-- an address is referenced with a block; dirty says that it becomes dirty
abbrev pub touch_by : ℕ → Block → Bool → Listing → Touch
touch_by address block dirty lists = record { address = address; block = row_of block lists.table.b; dirty = dirty }

-- what falls off isn't dirty, and has no dirty address linked to it but the one that is referenced
abbrev pub may_refer : Touch → Listing → Bool
may_refer touch lists = may_touch lists.acap lists.bcap touch lists.table

-- an address that becomes dirty is the newest of the dirty ones; one that is dirty keeps its place
abbrev pub dirtied : ℕ → Bool → List ℕ → List ℕ
dirtied address dirty addresses = if dirty && not (is_among address addresses) then addresses ++ address ∷ [] else addresses

-- the step of the policy on slots in place of blocks
abbrev pub referred : Touch → Listing → Listing
referred touch lists = record lists { table = touched lists.acap lists.bcap touch lists.table; dirty = dirtied touch.address touch.dirty lists.dirty }

-- what falls off
abbrev pub cut_by : (acap bcap : ℕ) → Touch → Table → Cut
cut_by acap bcap touch table = record { out = option_map (λ row. row.address) (cut_address acap touch table.a); drop = cut_block bcap touch.block table.b }

abbrev pub cut_of : Touch → Listing → Cut
cut_of touch lists = cut_by lists.acap lists.bcap touch lists.table

-- the last row of a list that is full
abbrev pub last_of_full : {Row : Type 0} → ℕ → List Row → Option Row
last_of_full cap rows = if length rows == cap then slice_get rows (cap - 1) else None

-- whether a block that isn't listed is wanted
abbrev pub is_fresh : Want → Bool
is_fresh (wants.Slot slot) = false
is_fresh wants.Fresh = true
is_fresh wants.Zero = false

-- the last address, where that one isn't listed and the list is full; the last block, where a fresh one is wanted and the list is full
abbrev pub victims_of : ℕ → Want → Listing → Victims
victims_of address want lists = record {
  out = if is_some (a_row address lists.table.a) then None else option_map (λ row. row.address) (last_of_full lists.acap lists.table.a);
  drop = if is_fresh want then last_of_full lists.bcap lists.table.b else None;
}

-- victims are what falls off
abbrev pub victims_from : Cut → Victims
victims_from cut = record { out = cut.out; drop = cut.drop }

-- whether an address is dirty and linked to the slot
abbrev pub is_owed : ℕ → ARow → Bool
is_owed slot row = is_slot slot row.link && row.dirty

-- whether it is so and isn't that one
abbrev pub refers : ℕ → ℕ → ARow → Bool
refers slot skip row = is_slot slot row.link && row.dirty && not (row.address == skip)

-- some dirty address but that one is linked to the slot; or there is none
abbrev pub IsReferrer : ℕ → ℕ → List ARow → Option ℕ → Type 0
IsReferrer slot skip rows None = list_any (λ row. refers slot skip row) rows ≡ false
IsReferrer slot skip rows (Some address) = option_map (λ row. refers slot skip row) (a_row address rows) ≡ Some true

-- whether some address is dirty and linked to the slot
abbrev pub is_referrer : ℕ → List ARow → ℕ → Bool
is_referrer slot rows address = list_any (λ row. is_owed slot row && address == row.address) rows

-- the numbers but that one
abbrev pub without : ℕ → List ℕ → List ℕ
without number numbers = filter (λ other. not (other == number)) numbers

-- the first of some numbers, or the one behind a number
abbrev pub next_of : Option ℕ → List ℕ → Option ℕ
next_of None numbers = slice_get numbers 0
next_of (Some number) numbers = row_behind (λ other. other == number) numbers

-- the numbers behind a number
abbrev pub behind : ℕ → List ℕ → List ℕ
behind number [] = []
behind number (other ∷ numbers) = if other == number then numbers else behind number numbers

-- the numbers that a walk still comes to, in its order
abbrev pub left_of : Option ℕ → List ℕ → List ℕ
left_of None numbers = numbers
left_of (Some number) numbers = behind number numbers

-- what a walk goes on from is among the numbers
abbrev pub IsWalked : Option ℕ → List ℕ → Type 0
IsWalked None numbers = ⊤
IsWalked (Some number) numbers = IsTrue (is_among number numbers)

-- the address is clean, and nothing else changed
abbrev pub made_clean : ℕ → Listing → Listing
made_clean address lists = record lists {
  table = record { b = lists.table.b; a = cleaned address lists.table.a };
  dirty = without address lists.dirty;
}

-- the first row that doesn't fit, B's rows before A's
abbrev pub misfit_or : Option ℕ → Option ℕ → Option Misfit
misfit_or (Some index) in_a = Some (record { in_a = false; index = index })
misfit_or None in_a = option_map (λ index. record { in_a = true; index = index }) in_a

abbrev pub misfit_of : Table → Option Misfit
misfit_of table = misfit_or (first_bad_b table) (first_bad_a table)

-- the slot of a link, where it has one, is a slot there is
abbrev pub IsLinkBelow : ℕ → Link → Type 0
IsLinkBelow slots links.Lost = ⊤
IsLinkBelow slots (links.Slot slot) = slot < slots
IsLinkBelow slots links.Zero = ⊤

-- what empty lists are given to begin with
pub record MayRestore (lists : Listing) (table : Table) : Type 0 where
  pub empty : lists.table ≡ empty_table
  pub a_few : length table.a ≤ lists.acap
  pub b_few : length table.b ≤ lists.bcap
  pub b_slots : AllByRecursion (λ row. row.slot < lists.slots) table.b
  pub a_slots : AllByRecursion (λ row. IsLinkBelow lists.slots row.link) table.a
  pub linked : AllByRecursion IsDirtyLinked table.a

-- the dirty addresses of rows, from the last one on
abbrev pub dirty_of_rows : List ARow → List ℕ
dirty_of_rows rows = map (λ row. row.address) (filter (λ row. row.dirty) (reverse rows))

-- these rows, of which the last dirty one counts as the oldest
abbrev pub restored : Table → Listing → Listing
restored table lists = record lists { table = table; dirty = dirty_of_rows table.a }
