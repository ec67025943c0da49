-- What holds of all lists holds of them after an address was made clean.
use Rattle.std.proofs.Common.{◌≡◌, ℕ, ◌==◌, Bool, true, false, List, refl, arith}
use Rattle.std.specs.Prelude.{if◌then◌else◌}
use Rattle.std.proofs.lemmas.List.{length-map}
use Rattle.dd_record.specs.declared.row.ARow.{ARow}
use Rattle.dd_record.specs.Table.{link_fits, is_dirty_at, IsDirtyLinked, RowsFit}
use Rattle.dd_record.specs.Replay.{cleaned_row, cleaned}
use Rattle.dd_model.specs.Listing.{Listing, IsListing, made_clean}
use Rattle.dd_model.proofs.Kept.{all_map, apart_map}
use Rattle.dd_model.proofs.Dirty.{dirty_cleaned, cleaned_ones}
use Rattle.dd_record.specs.declared.row.BRow.{BRow}

if_address : (b : Bool) (row : ARow) → (if b then record row { dirty = false } else row).address ≡ row.address
if_address true row = refl
if_address false row = refl

if_fits : (b : Bool) (rows : List BRow) (row : ARow) → link_fits rows row ≡ true → link_fits rows (if b then record row { dirty = false } else row) ≡ true
if_fits true rows row h = h
if_fits false rows row h = h

cleans : (address : ℕ) (row : ARow) → IsDirtyLinked row → IsDirtyLinked (cleaned_row address row)
cleans address row linked = by_test (row.address == address)
  where
    by_test : (b : Bool) → IsDirtyLinked (if b then record row { dirty = false } else row)
    by_test true = λ dirty. absurd (cc dirty)
    by_test false = linked

pub clean_kept : (lists : Listing) (address : ℕ) → IsListing lists → IsListing (made_clean address lists)
clean_kept lists address kept = record {
  acap_least = kept.acap_least;
  bcap_least = kept.bcap_least;
  slots_least = kept.slots_least;
  a_few = omega (arith, kept.a_few, length-map lists.table.a (cleaned_row address));
  b_few = kept.b_few;
  b_slots = kept.b_slots;
  fit = record {
    slots = was.slots;
    addresses = apart_map (λ (row : ARow). row.address) (cleaned_row address) (λ row. if_address (row.address == address) row) lists.table.a was.addresses;
    links = all_map (λ row. link_fits lists.table.b row ≡ true) (λ row. link_fits lists.table.b row ≡ true) (cleaned_row address) lists.table.a (λ row h. if_fits (row.address == address) lists.table.b row h) was.links;
  };
  linked = all_map IsDirtyLinked IsDirtyLinked (cleaned_row address) lists.table.a (cleans address) kept.linked;
  dirty_ones = cleaned_ones (λ n. is_dirty_at n lists.table.a) (λ n. is_dirty_at n (cleaned address lists.table.a)) address lists.dirty kept.dirty_ones (dirty_cleaned address lists.table.a);
}
  where
    was : RowsFit lists.table
    was = kept.fit
