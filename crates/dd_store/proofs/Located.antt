-- A content that was located, at its slot or as zeros, is there for a reference.
use Rattle.std.proofs.Common.{◌≡◌, inl, inr, ℕ, ◌<◌, Bool, true, false, List, length, refl, sym, ◌∙◌, ap, subst, arith, Some, None}
use Rattle.std.specs.Prelude.{Option, is_some}
use Rattle.dd_block.specs.declared.print.Fp.{Fp}
use Rattle.dd_rig.specs.World.{World}
use Rattle.dd_layout.specs.Layout.{slot_block}
use Rattle.dd_record.specs.declared.row.ARow.{ARow}
use Rattle.dd_record.specs.declared.row.BRow.{BRow}
use Rattle.dd_record.specs.declared.row.Link.{Link}
use Rattle.dd_record.specs.declared.row.Link.TheVariants as links
use Rattle.dd_record.specs.Table.{a_row, b_row, has_slot, link_of, link_at}
use Rattle.dd_model.specs.declared.given.Block.TheVariants as given
use Rattle.dd_model.specs.State.{State, content, is_zero_block, is_known}
use Rattle.dd_model.specs.Rows.{LinkTells, RowTells}
use Rattle.dd_model.specs.Listing.{IsGiven, touch_by}
use Rattle.dd_model.proofs.Kept.{found_key}
use Rattle.dd_model.proofs.RecordLaws.{may_move-listed}
use Rattle.dd_store.specs.Bringing.{Carries}
use Rattle.dd_store.specs.Keeping.{StoreView, Holds}
use Rattle.dd_store.specs.Meaning.{sizes_of}
use Rattle.dd_store.specs.Referring.{IsThere, IsPlaced, listing_in}
use Rattle.dd_store.proofs.Fresh.{row_at}
use Rattle.dd_store.proofs.LayingOne.{found_address}
use Rattle.dd_store.proofs.LayingRow.{found_row}
use Rattle.dd_store.proofs.Sole.{length_at}
use Rattle.dd_store.proofs.UsedSlots.{some_has}

module _ (print : List ℕ → Fp) (store : StoreView) (world : World) (s : State) (holds : Holds print store world s) (address : ℕ) (below : address < store.journal.geo.blocks) where
  abbrev held : ℕ → List ℕ
  held = slot_block store.journal.geo world.flash.shown

  -- a content has the length of a block
  pub content_long : length (content s.array address) ≡ store.journal.geo.block
  content_long = length_at store.journal.geo.block s.array address holds.means.array_blocks (omega (arith, below, holds.means.array_length))

  -- what a link tells of a content
  by_row : (link : Link) (o : Option ARow) → a_row address store.table.a ≡ o → link_of o ≡ link → (link ≡ links.Lost → ⊥) → (fp : Fp) × LinkTells print held (content s.array address) link fp
  by_row link None found is some = absurd (some (sym is))
  by_row link (Some row) found is some =
      let tells : RowTells print held s.array row = found_row (RowTells print held s.array) address store.table.a row holds.means.lists.a_rows found in (
        row.fp,
        subst (λ (l : Link). LinkTells print held (content s.array address) l row.fp) is
            (subst (λ n. LinkTells print held (content s.array n) row.link row.fp) (found_address address store.table.a row found) tells),
      )

  pub slot_linked : (slot : ℕ) → link_at address store.table.a ≡ links.Slot slot → held slot ≡ content s.array address
  slot_linked slot is = (by_row (links.Slot slot) (a_row address store.table.a) refl is (λ lost. absurd (cc lost))).1.0

  pub zero_linked : link_at address store.table.a ≡ links.Zero → is_zero_block (content s.array address) ≡ true
  zero_linked is = (by_row links.Zero (a_row address store.table.a) refl is (λ lost. absurd (cc lost))).1.0

  -- a listed block is there
  known_there : (slot : ℕ) (block : List ℕ) (o : Option BRow) → b_row slot store.table.b ≡ o → is_some o ≡ true → held slot ≡ block → IsThere print held o block × IsPlaced s store.table o block
  known_there slot block None found given is = absurd (cc given)
  known_there slot block (Some row) found given is =
      let move = may_move-listed print held (sizes_of store.journal.geo) s store.table store.count holds.means.lists slot row found in
      let same : row.slot ≡ slot = found_key (λ (r : BRow). r.slot) slot store.table.b row found in
      let there : held row.slot ≡ block = ap held same ∙ is in (
        (there, move.1 ∙ ap print there, ap is_zero_block (sym there) ∙ move.0),
        inl (some_has row.slot row store.table.b (ap (λ n. b_row n store.table.b) same ∙ found)),
      )

  -- a write, or a read of an address, with a content of a block's length
  module _ (block : List ℕ) (dirty : Bool) (long : length block ≡ store.journal.geo.block) (read : dirty ≡ false → block ≡ content s.array address) where
    -- that a listed slot holds
    pub carries_listed : (slot : ℕ) → IsGiven (listing_in store) (given.Known slot) → held slot ≡ block → Carries print store world.flash.shown s (touch_by address (given.Known slot) dirty (listing_in store)) block
    carries_listed slot is_given is =
        let known = known_there slot block (b_row slot store.table.b) refl is_given is in
        record { below = below; long = long; there = known.0; placed = known.1; read = read }

    -- that is no listed block, and was saved in a slot that isn't listed
    pub carries_fresh : (slot : ℕ) (fp : Fp) → has_slot slot store.table.b ≡ false → held slot ≡ block → fp ≡ print block → is_zero_block block ≡ false → is_known block s.blocks ≡ false
        → Carries print store world.flash.shown s (touch_by address (given.Fresh (row_at slot fp)) dirty (listing_in store)) block
    carries_fresh slot fp unlisted is printed some unknown = record { below = below; long = long; there = (is, printed, some); placed = inr (unlisted, unknown); read = read }

    -- of zeros
    pub carries_zeros : is_zero_block block ≡ true → Carries print store world.flash.shown s (touch_by address given.Zero dirty (listing_in store)) block
    carries_zeros zeros = record { below = below; long = long; there = zeros; placed = tt; read = read }
