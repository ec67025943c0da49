-- Rows that fit make lists of which holds what holds of all.
use Rattle.std.proofs.Common.{◌≡◌, ℕ, ◌+◌, ◌≤◌, ◌==◌, Bool, true, false, cond, List, [], ◌∷◌, length, map, refl, sym, ◌∙◌, ap, arith, Some, None}
use Rattle.std.specs.Prelude.{Option, ◌||◌}
use Rattle.std.specs.List.{IsDistinct}
use Rattle.std.proofs.lemmas.Bool.{eq-eqb, or_left, or_right, both_ways}
use Rattle.std.proofs.lemmas.Cmp.{nat_eq_equiv}
use Rattle.std.proofs.lemmas.List.{length-map}
use Rattle.dd_slots.specs.Numbers.{is_among}
use Rattle.dd_slots.proofs.Numbers.{none_pass, few_among}
use Rattle.dd_record.specs.declared.row.ARow.{ARow}
use Rattle.dd_record.specs.Table.{Table, first_bad_a, first_bad_b, a_row, is_dirty, is_dirty_at, RowsFit}
use Rattle.dd_model.specs.Listing.{Listing, IsListing, empty_listing, MayRestore, restored, misfit_or, misfit_of}
use Rattle.dd_record.proofs.Misfits.{rows_fit}
use Rattle.dd_model.proofs.Dirty.{dirty_ones_of}

no_misfit : (b a : Option ℕ) → misfit_or b a ≡ None → (b ≡ None) × (a ≡ None)
no_misfit None None h = (refl, refl)
no_misfit None (Some n) h = absurd (cc h)
no_misfit (Some n) a h = absurd (cc h)

-- where no row is a misfit they fit
pub all_fit : (table : Table) → misfit_of table ≡ None → RowsFit table
all_fit table h = let none = no_misfit (first_bad_b table) (first_bad_a table) h in rows_fit table none.0 none.1

pub restore_kept : (lists : Listing) (table : Table) → IsListing lists → MayRestore lists table → misfit_of table ≡ None → IsListing (restored table lists)
restore_kept lists table kept may none = record {
  acap_least = kept.acap_least;
  bcap_least = kept.bcap_least;
  slots_least = kept.slots_least;
  a_few = may.a_few;
  b_few = may.b_few;
  b_slots = may.b_slots;
  fit = all_fit table none;
  linked = may.linked;
  dirty_ones = dirty_ones_of table.a (all_fit table none).addresses;
}

-- empty lists
pub empty_kept : (acap bcap slots : ℕ) → 1 ≤ acap → 1 ≤ bcap → bcap + 1 ≤ slots → IsListing (empty_listing acap bcap slots)
unfolding IsDistinct
empty_kept acap bcap slots addresses blocks room = record {
  acap_least = addresses;
  bcap_least = blocks;
  slots_least = room;
  a_few = omega arith;
  b_few = omega arith;
  b_slots = tt;
  fit = record { slots = tt; addresses = tt; links = tt };
  linked = tt;
  dirty_ones = none_pass (λ address. false) (λ n. refl);
}

listed_addresses : (address : ℕ) (rows : List ARow) → is_dirty_at address rows ≡ true → is_among address (map (λ (row : ARow). row.address) rows) ≡ true
listed_addresses address [] h = absurd (cc h)
listed_addresses address (row ∷ rows) h = by_test (row.address == address) refl h (λ e. listed_addresses address rows e)
  where
    by_test : (b : Bool) → (row.address == address) ≡ b → is_dirty (cond b (Some row) (a_row address rows)) ≡ true → (is_dirty_at address rows ≡ true → is_among address (map (λ (r : ARow). r.address) rows) ≡ true)
        → ((address == row.address) || is_among address (map (λ (r : ARow). r.address) rows)) ≡ true
    by_test true here e rest = ap (λ b. b || is_among address (map (λ (r : ARow). r.address) rows)) (nat_eq_equiv.symm address row.address ∙ here)
    by_test false away e rest = or_right (address == row.address) (is_among address (map (λ (r : ARow). r.address) rows)) (rest e)

-- the dirty addresses are listed
pub dirty_listed : (lists : Listing) → IsListing lists → length lists.dirty ≤ length lists.table.a
dirty_listed lists kept = omega (
  arith,
  few_among (λ address. is_dirty_at address lists.table.a) lists.dirty (map (λ (row : ARow). row.address) lists.table.a) kept.dirty_ones (λ n h. listed_addresses n lists.table.a h),
  length-map lists.table.a (λ (row : ARow). row.address),
)

-- so they are no more than may be listed
pub dirty_few : (lists : Listing) → IsListing lists → length lists.dirty ≤ lists.acap
dirty_few lists kept = omega (arith, dirty_listed lists kept, kept.a_few)

-- where none is among the dirty ones no address is dirty
pub none_dirty_at : (lists : Listing) → IsListing lists → lists.dirty ≡ [] → (address : ℕ) → is_dirty_at address lists.table.a ≡ false
none_dirty_at lists kept none address = sym (kept.dirty_ones.each address) ∙ ap (is_among address) none

none_among : (numbers : List ℕ) → ((n : ℕ) → is_among n numbers ≡ false) → numbers ≡ []
none_among [] h = refl
none_among (n ∷ ns) h = absurd (both_ways ((n == n) || is_among n ns) (h n) (or_left (n == n) (is_among n ns) (eq-eqb n n refl)))

-- where nothing is listed nothing is dirty
pub none_dirty : (lists : Listing) → IsListing lists → lists.table.a ≡ [] → lists.dirty ≡ []
none_dirty lists kept none = none_among lists.dirty (λ n. kept.dirty_ones.each n ∙ ap (is_dirty_at n) none)
