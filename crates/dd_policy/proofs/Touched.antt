-- A reference on both caches.
use Rattle.std.proofs.Common.{◌≡◌, ℕ, ◌<◌, ◌==◌, Bool, true, false, List, refl, sym, ◌∙◌, ap, subst, Some, None}
use Rattle.std.specs.Prelude.{Option, not, slice_get, IfSome}
use Rattle.std.specs.List.{AllByRecursion}
use Rattle.dd_record.specs.declared.row.ARow.{ARow}
use Rattle.dd_record.specs.declared.row.BRow.{BRow}
use Rattle.dd_record.specs.Replay.{b_moved, cut_block, is_clean_cut}
use Rattle.dd_meta.specs.Entries.{Meta}
use Rattle.dd_meta.specs.Keeping.{IsMeta}
use Rattle.dd_data.specs.Blocks.{Data}
use Rattle.dd_model.specs.declared.given.Block.{Block}
use Rattle.dd_model.specs.Listing.{Listing, IsListing, IsGiven, row_of, touch_by, may_refer, referred}
use Rattle.dd_model.proofs.Answering.{not_true}
use Rattle.dd_model.proofs.Kept.{all_filter, all_of, got}
use Rattle.dd_model.proofs.TouchKept.{IsOneOf, given_one, touch_kept}
use Rattle.dd_policy.specs.Coupling.{listing_in, Couples}
use Rattle.dd_policy.proofs.Coupled.{coupled}

-- a row that may fall off isn't dirty
pub clean_some : (o : Option ARow) → is_clean_cut o ≡ true → IfSome o (λ row. row.dirty ≡ false)
clean_some None h = tt
clean_some (Some row) h = not_true row.dirty h

got_below : (P : BRow → Type 0) (rows : List BRow) (i : ℕ) (o : Option BRow) → slice_get rows i ≡ o → AllByRecursion P rows → IfSome o P
got_below P rows i None is all = tt
got_below P rows i (Some row) is all = got P rows i row is all

module _ (lists : Listing) (kept : IsListing lists) where
  one_below : (o : Option BRow) → IsOneOf lists o → IfSome o (λ row. row.slot < lists.slots)
  one_below None one = tt
  one_below (Some row) one = one.1

  cut_below : (o : Option BRow) → IsOneOf lists o → IfSome (cut_block lists.bcap o lists.table.b) (λ row. row.slot < lists.slots)
  cut_below None one = tt
  cut_below (Some block) one = got_below (λ (row : BRow). row.slot < lists.slots) (b_moved block lists.table.b) lists.bcap (slice_get (b_moved block lists.table.b) lists.bcap) refl (
    one.1,
    all_filter (λ (row : BRow). row.slot < lists.slots) (λ row. not (row.slot == block.slot)) lists.table.b
        (all_of (λ (row : BRow). row.slot < lists.slots) (λ row. not (row.slot == block.slot) ≡ true → row.slot < lists.slots) lists.table.b (λ row h other. h) kept.b_slots),
  )

  -- the slot of what is referenced, and of what falls off, is one there is
  pub given_below : (block : Block) → IsGiven lists block → IfSome (row_of block lists.table.b) (λ row. row.slot < lists.slots)
  given_below block given = one_below (row_of block lists.table.b) (given_one lists block kept given)

  pub drop_below : (block : Block) → IsGiven lists block → IfSome (cut_block lists.bcap (row_of block lists.table.b) lists.table.b) (λ row. row.slot < lists.slots)
  drop_below block given = cut_below (row_of block lists.table.b) (given_one lists block kept given)

-- both caches stay coupled
pub touch_coupled : (slots : ℕ) (meta new : Meta) (blocks after : Data) (address : ℕ) (block : Block) (dirty : Bool) → Couples slots meta blocks → IsGiven (listing_in meta blocks) block
    → may_refer (touch_by address block dirty (listing_in meta blocks)) (listing_in meta blocks) ≡ true
    → listing_in new after ≡ referred (touch_by address block dirty (listing_in meta blocks)) (listing_in meta blocks) → new.slots ≡ meta.slots → IsMeta new → Couples slots new after
touch_coupled slots meta new blocks after address block dirty k given may is same m =
    coupled slots new after m (subst IsListing (sym is) (touch_kept (listing_in meta blocks) address block dirty k.kept given may)) (same ∙ k.meta_slots) (ap (λ (l : Listing). l.slots) is ∙ k.data_slots)
