-- A reference to the block that an address is linked to already.
use Rattle.std.proofs.Common.{◌≡◌, ℕ, ◌==◌, Bool, true, false, cond, List, [], ◌∷◌, map, take, refl, sym, ◌∙◌, ap, subst, Some, None}
use Rattle.std.specs.Prelude.{Option, filter, not, slice_get, is_some, option_map, IfSome}
use Rattle.std.specs.Str.{bytes_eq}
use Rattle.std.specs.List.{AllByRecursion}
use Rattle.std.proofs.lemmas.Slice.Eq.{bytes_eq-Decides}
use Rattle.dd_record.specs.declared.row.ARow.{ARow}
use Rattle.dd_record.specs.declared.row.BRow.{BRow}
use Rattle.dd_record.specs.declared.row.Link.TheVariants as links
use Rattle.dd_record.specs.Table.{is_dirty, is_dirty_at, a_row, b_row, link_of, link_at, link_fits, slot_fits}
use Rattle.dd_record.specs.Replay.{Touch, b_after, cut_block, link_to, print_beside, linked_row, unlinked_from}
use Rattle.dd_meta.specs.Entries.{Meta, Renews, rows_of, is_listed_address}
use Rattle.dd_data.specs.Blocks.{Data}
use Rattle.dd_model.specs.declared.given.Block.TheVariants.{Known}
use Rattle.dd_model.specs.Listing.{Listing, IsListing, touch_by, referred, cut_of}
use Rattle.dd_model.proofs.Falling.{listed_stays}
use Rattle.dd_model.proofs.Kept.{found_key}
use Rattle.dd_model.proofs.Records.{link_given}
use Rattle.dd_policy.specs.Coupling.{listing_in}
use Rattle.dd_policy.proofs.Marking.{none_unlinked}
use Rattle.dd_policy.proofs.Roomy.{listed_front, block_stays}
use Rattle.dd_policy.proofs.Taken.{that_some}
use Rattle.dd_policy.proofs.Victims.{listed_is}

-- what holds of all rows holds of that of an address
found_holds : (P : ARow → Type 0) (address : ℕ) (rows : List ARow) (row : ARow) → a_row address rows ≡ Some row → AllByRecursion P rows → P row
found_holds P address [] row h all = absurd (cc h)
found_holds P address (other ∷ rows) row h all = by_test (other.address == address) h (λ later. found_holds P address rows row later all.1)
  where
    by_test : (b : Bool) → cond b (Some other) (a_row address rows) ≡ Some row → (a_row address rows ≡ Some row → P row) → P row
    by_test true e rest = let same : other ≡ row = cc e in subst P same all.0
    by_test false e rest = rest e

-- the address is linked to the slot of the block
module _ (lists : Listing) (kept : IsListing lists) (address slot : ℕ) (linked : link_at address lists.table.a ≡ links.Slot slot) where
  abbrev touch : Touch
  touch = touch_by address (Known slot) false lists

  -- that block has the row's fingerprint
  beside : (row : ARow) (block : Option BRow) → a_row address lists.table.a ≡ Some row → b_row slot lists.table.b ≡ block → is_some block ≡ true → (link_to block ≡ row.link) × (print_beside block ≡ row.fp)
  beside row None is found listed = absurd (cc listed)
  beside row (Some block) is found listed =
      let own : row.link ≡ links.Slot slot = sym (ap link_of is) ∙ linked in
      let fits : slot_fits lists.table.b (links.Slot slot) row.fp.0 ≡ true =
      ap (λ l. slot_fits lists.table.b l row.fp.0) (sym own) ∙ found_holds (λ r. link_fits lists.table.b r ≡ true) address lists.table.a row is kept.fit.links in
      let prints : bytes_eq block.fp.0 row.fp.0 ≡ true = sym (that_some slot row.fp lists.table.b block kept.fit.slots found) ∙ fits in
      let same : block.fp.0 ≡ row.fp.0 = (bytes_eq-Decides block.fp.0 row.fp.0).0 prints in
      (ap links.Slot (found_key (λ (r : BRow). r.slot) slot lists.table.b block found) ∙ sym own, λ i. record { 0 = same i })

  -- so a reference to it leaves the row as it is
  stays : (row : ARow) → a_row address lists.table.a ≡ Some row → linked_row touch lists.table.a ≡ row
  stays row is =
      let parts = beside row (b_row slot lists.table.b) is refl (link_given lists address slot kept linked) in
      let at : address ≡ row.address = sym (found_key (λ (r : ARow). r.address) address lists.table.a row is) in
      let dirty : is_dirty_at address lists.table.a ≡ row.dirty = ap is_dirty is in
      λ i. record { address = at i; link = parts.0 i; dirty = dirty i; fp = parts.1 i }

  -- the row in front of the others is all that a reference makes of them
  front_rows : (row : ARow) → a_row address lists.table.a ≡ Some row
      → row ∷ filter (λ (other : ARow). not (other.address == row.address)) lists.table.a ≡ (referred touch lists).table.a
  front_rows row is =
      ap (λ n. row ∷ filter (λ (other : ARow). not (other.address == n)) lists.table.a) (found_key (λ (r : ARow). r.address) address lists.table.a row is)
      ∙ listed_front (λ (r : ARow). r.address) lists.acap address row lists.table.a kept.a_few (ap is_some is)
      ∙ ap (λ (r : ARow). take lists.acap (r ∷ filter (λ (other : ARow). not (other.address == address)) lists.table.a)) (sym (stays row is))
      ∙ none_unlinked (take lists.acap (linked_row touch lists.table.a ∷ filter (λ (other : ARow). not (other.address == address)) lists.table.a))
      ∙ ap (λ (o : Option BRow). map (unlinked_from o) (take lists.acap (linked_row touch lists.table.a ∷ filter (λ (other : ARow). not (other.address == address)) lists.table.a)))
      (sym (block_stays slot lists.bcap lists.table.b kept.bcap_least kept.b_few))

  -- the address is listed
  has_row : (row : Option ARow) → link_of row ≡ links.Slot slot → is_some row ≡ true
  has_row None h = absurd (cc h)
  has_row (Some row) h = refl

  has : is_some (a_row address lists.table.a) ≡ true
  has = has_row (a_row address lists.table.a) linked

  -- nothing falls off
  pub none_cut : record { out = None; drop = None } ≡ cut_of touch lists
  none_cut =
      let out : slice_get (linked_row touch lists.table.a ∷ filter (λ (other : ARow). not (other.address == address)) lists.table.a) lists.acap ≡ None =
      listed_stays (λ (r : ARow). r.address) lists.acap kept.acap_least address (linked_row touch lists.table.a) lists.table.a kept.a_few has in
      let drop : cut_block lists.bcap (b_row slot lists.table.b) lists.table.b ≡ None = block_stays slot lists.bcap lists.table.b kept.bcap_least kept.b_few in
      λ i. record { out = option_map (λ (r : ARow). r.address) (sym out i); drop = sym drop i }

-- both caches, with the block and the row in front
module _ (meta : Meta) (blocks : Data) (kept : IsListing (listing_in meta blocks)) (address slot : ℕ) (linked : link_at address (rows_of meta) ≡ links.Slot slot) where
  pub is_listed : is_listed_address address meta ≡ true
  is_listed = listed_is address meta.entries ∙ has (listing_in meta blocks) kept address slot linked

  pub renewed : (new : Meta) (after : Data) → IfSome (a_row address (rows_of meta)) (Renews meta new) → after ≡ record blocks { rows = b_after blocks.bcap (b_row slot blocks.rows) blocks.rows }
      → listing_in new after ≡ referred (touch_by address (Known slot) false (listing_in meta blocks)) (listing_in meta blocks)
  renewed new after renews is = by_row (a_row address (rows_of meta)) refl renews
    where
      by_row : (row : Option ARow) → a_row address (rows_of meta) ≡ row → IfSome row (Renews meta new)
          → listing_in new after ≡ referred (touch_by address (Known slot) false (listing_in meta blocks)) (listing_in meta blocks)
      by_row None none r = absurd (cc (ap link_of none, linked))
      by_row (Some row) found r =
          let rows = r.rows ∙ front_rows (listing_in meta blocks) kept address slot linked row found in
          λ i. record { acap = r.acap i; bcap = (is i).bcap; slots = (is i).slots; table = record { b = (is i).rows; a = rows i }; dirty = r.dirty i }
