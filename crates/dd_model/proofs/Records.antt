-- Records and the calls that make them.
use Rattle.std.proofs.Common.{◌≡◌, ◌⊎◌, ⊎_elim, ℕ, ◌==◌, Bool, true, false, cond, List, [], ◌∷◌, not, refl, sym, ◌∙◌, ap, Some, None}
use Rattle.std.specs.Prelude.{Option, ◌&&◌, ◌||◌, is_none, is_some, option_map, option_and_then, if◌then◌else◌}
use Rattle.std.specs.Str.{bytes_eq}
use Rattle.std.specs.List.{AllByRecursion, list_any}
use Rattle.std.proofs.lemmas.Bool.{and_parts, or_cases}
use Rattle.dd_block.specs.declared.print.Fp.{Fp}
use Rattle.dd_record.specs.declared.row.ARow.{ARow}
use Rattle.dd_record.specs.declared.row.BRow.{BRow}
use Rattle.dd_record.specs.declared.row.Link.{Link}
use Rattle.dd_record.specs.declared.row.Link.TheVariants as links
use Rattle.dd_record.specs.declared.rec.Rec.TheVariants.{Hit, Link as ToSlot, Store, Zero as ToZero, Clean}
use Rattle.dd_record.specs.Table.{a_row, b_row, is_link, link_of, link_at, is_dirty_at, slot_fits, link_fits}
use Rattle.dd_record.specs.Replay.{Touch, touched, touch_of, hit_of, after_touch, after_rec}
use Rattle.dd_model.specs.declared.given.Block.TheVariants.{Known, Fresh, Zero}
use Rattle.dd_model.specs.Listing.{Listing, IsListing, IsGiven, touch_by, may_refer, referred, made_clean}

-- a record of an address that may be linked anew
may_link : (dirty : Bool) (link : Link) → (dirty ≡ true) ⊎ (link ≡ links.Lost) → (dirty || not (is_link link)) ≡ true
may_link dirty link h = ⊎_elim (λ is. ap (λ d. d || not (is_link link)) is) (λ lost. ap (λ l. dirty || not (is_link l)) lost ∙ or_true dirty) h
  where
    or_true : (b : Bool) → (b || true) ≡ true
    or_true true = refl
    or_true false = refl

abbrev with_row : ℕ → Bool → BRow → Touch
with_row address dirty row = record { address = address; block = Some row; dirty = dirty }

by_row : (address : ℕ) (dirty : Bool) (o : Option BRow) → is_some o ≡ true → option_map (with_row address dirty) o ≡ Some (record { address = address; block = o; dirty = dirty })
by_row address dirty None h = absurd (cc h)
by_row address dirty (Some row) h = refl

-- a touch with a listed block is that of a record Link
pub link_touch : (lists : Listing) (address slot : ℕ) (dirty : Bool) → IsGiven lists (Known slot) → (dirty ≡ true) ⊎ (link_at address lists.table.a ≡ links.Lost)
    → touch_of (ToSlot address slot dirty) lists.table ≡ Some (touch_by address (Known slot) dirty lists)
link_touch lists address slot dirty given may =
    ap (λ b. if b then option_map (with_row address dirty) (b_row slot lists.table.b) else None) (may_link dirty (link_at address lists.table.a) may)
    ∙ by_row address dirty (b_row slot lists.table.b) given

-- one with another block is that of a record Store
pub store_touch : (lists : Listing) (address : ℕ) (row : BRow) (dirty : Bool) → IsGiven lists (Fresh row) → (dirty ≡ true) ⊎ (link_at address lists.table.a ≡ links.Lost)
    → touch_of (Store address row.slot row.fp dirty) lists.table ≡ Some (touch_by address (Fresh row) dirty lists)
store_touch lists address row dirty given may =
    ap (λ b. if b && is_none (b_row row.slot lists.table.b) then Some (with_row address dirty row) else None) (may_link dirty (link_at address lists.table.a) may)
    ∙ ap (λ o. if is_none o then Some (with_row address dirty row) else None) given.1

-- one with zeros is that of a record Zero
pub zero_touch : (lists : Listing) (address : ℕ) (dirty : Bool) → (dirty ≡ true) ⊎ (link_at address lists.table.a ≡ links.Lost)
    → touch_of (ToZero address dirty) lists.table ≡ Some (touch_by address Zero dirty lists)
zero_touch lists address dirty may =
    ap (λ b. if b then Some (touch_by address Zero dirty lists) else None) (may_link dirty (link_at address lists.table.a) may)

-- a link is to a listed block
linked_some : (slot : ℕ) (fp : List ℕ) (rows : List BRow) → list_any (λ block. block.slot == slot && bytes_eq block.fp.0 fp) rows ≡ true → is_some (b_row slot rows) ≡ true
linked_some slot fp [] h = absurd (cc h)
linked_some slot fp (row ∷ rows) h = ⊎_elim
    (λ here. first (row.slot == slot) (and_parts (row.slot == slot) (bytes_eq row.fp.0 fp) here).0)
    (λ later. rest (row.slot == slot) (linked_some slot fp rows later))
    (or_cases (row.slot == slot && bytes_eq row.fp.0 fp) (list_any (λ block. block.slot == slot && bytes_eq block.fp.0 fp) rows) h)
  where
    first : (b : Bool) → b ≡ true → is_some (cond b (Some row) (b_row slot rows)) ≡ true
    first true e = refl
    first false e = absurd (cc e)

    rest : (b : Bool) → is_some (b_row slot rows) ≡ true → is_some (cond b (Some row) (b_row slot rows)) ≡ true
    rest true e = refl
    rest false e = e

fits_some : (slot : ℕ) (b : List BRow) (row : ARow) → row.link ≡ links.Slot slot → link_fits b row ≡ true → is_some (b_row slot b) ≡ true
fits_some slot b row is h = linked_some slot row.fp.0 b (sym (ap (λ l. slot_fits b l row.fp.0) is) ∙ h)

row_links : (b : List BRow) (address slot : ℕ) (rows : List ARow) → AllByRecursion (λ row. link_fits b row ≡ true) rows → link_at address rows ≡ links.Slot slot → is_some (b_row slot b) ≡ true
row_links b address slot [] all is = absurd (cc is)
row_links b address slot (row ∷ rows) all is = by_test (row.address == address) is (λ e. row_links b address slot rows all.1 e)
  where
    by_test : (t : Bool) → link_of (cond t (Some row) (a_row address rows)) ≡ links.Slot slot → (link_at address rows ≡ links.Slot slot → is_some (b_row slot b) ≡ true) → is_some (b_row slot b) ≡ true
    by_test true e rest = fits_some slot b row e all.0
    by_test false e rest = rest e

-- the slot of a linked address is listed
pub link_given : (lists : Listing) (address slot : ℕ) → IsListing lists → link_at address lists.table.a ≡ links.Slot slot → IsGiven lists (Known slot)
link_given lists address slot kept is = row_links lists.table.b address slot lists.table.a kept.fit.links is

-- a touch of a linked address with its own block, or with zeros, is that of a record Hit
pub hit_touch : (lists : Listing) (address slot : ℕ) → IsListing lists → link_at address lists.table.a ≡ links.Slot slot → touch_of (Hit address) lists.table ≡ Some (touch_by address (Known slot) false lists)
hit_touch lists address slot kept is =
    ap (λ l. hit_of address l lists.table.b) is
    ∙ by_row address false (b_row slot lists.table.b) (link_given lists address slot kept is)

pub hit_zero_touch : (lists : Listing) (address : ℕ) → link_at address lists.table.a ≡ links.Zero → touch_of (Hit address) lists.table ≡ Some (touch_by address Zero false lists)
hit_zero_touch lists address is = ap (λ l. hit_of address l lists.table.b) is

-- where a record is a touch that the lists may do, replay does what the touch does
module _ (lists : Listing) (touch : Touch) (may : may_refer touch lists ≡ true) where
  fits : (o : Option Touch) → o ≡ Some touch → option_and_then (after_touch lists.acap lists.bcap lists.table) o ≡ Some (referred touch lists).table
  fits o is = ap (option_and_then (after_touch lists.acap lists.bcap lists.table)) is
      ∙ ap (λ b. if b then Some (touched lists.acap lists.bcap touch lists.table) else None) may

  pub after_hit : (address : ℕ) → touch_of (Hit address) lists.table ≡ Some touch → after_rec lists.acap lists.bcap (Hit address) lists.table ≡ Some (referred touch lists).table
  after_hit address is = fits (touch_of (Hit address) lists.table) is

  pub after_link : (address slot : ℕ) (dirty : Bool) → touch_of (ToSlot address slot dirty) lists.table ≡ Some touch → after_rec lists.acap lists.bcap (ToSlot address slot dirty) lists.table ≡ Some (referred touch lists).table
  after_link address slot dirty is = fits (touch_of (ToSlot address slot dirty) lists.table) is

  pub after_store : (address slot : ℕ) (fp : Fp) (dirty : Bool) → touch_of (Store address slot fp dirty) lists.table ≡ Some touch → after_rec lists.acap lists.bcap (Store address slot fp dirty) lists.table ≡ Some (referred touch lists).table
  after_store address slot fp dirty is = fits (touch_of (Store address slot fp dirty) lists.table) is

  pub after_zero : (address : ℕ) (dirty : Bool) → touch_of (ToZero address dirty) lists.table ≡ Some touch → after_rec lists.acap lists.bcap (ToZero address dirty) lists.table ≡ Some (referred touch lists).table
  after_zero address dirty is = fits (touch_of (ToZero address dirty) lists.table) is

-- and a record Clean is what makes an address clean
pub after_clean : (lists : Listing) (address : ℕ) → is_dirty_at address lists.table.a ≡ true → after_rec lists.acap lists.bcap (Clean address) lists.table ≡ Some (made_clean address lists).table
after_clean lists address is = ap (λ b. if b then Some (made_clean address lists).table else None) is
