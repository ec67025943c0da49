-- The dirty address that is the oldest, and how many are left once one is clean.
use Rattle.std.proofs.Common.{◌≡◌, ℕ, ◌<◌, ◌==◌, Bool, true, false, cond, List, [], ◌∷◌, length, refl, sym, ◌∙◌, ap, Some}
use Rattle.std.specs.Prelude.{find, is_some, slice_get, ◌||◌}
use Rattle.std.proofs.lemmas.Bool.{eq-eqb}
use Rattle.std.proofs.lemmas.Cmp.{nat_eq_equiv}
use Rattle.dd_record.specs.Table.{is_dirty_at}
use Rattle.dd_slots.specs.Numbers.{is_among}
use Rattle.dd_model.specs.Listing.{Listing, IsListing, made_clean}
use Rattle.dd_model.proofs.Kept.{filter_less}

pub first_among : (numbers : List ℕ) (number : ℕ) → slice_get numbers 0 ≡ Some number → is_among number numbers ≡ true
first_among [] number h = absurd (cc h)
first_among (n ∷ ns) number h =
    let same : n ≡ number = cc h in
    ap (λ b. b || is_among number ns) (eq-eqb number n (sym same))

-- the oldest dirty address is dirty
pub oldest_is_dirty : (lists : Listing) (address : ℕ) → IsListing lists → slice_get lists.dirty 0 ≡ Some address → is_dirty_at address lists.table.a ≡ true
oldest_is_dirty lists address kept h = sym (kept.dirty_ones.each address) ∙ first_among lists.dirty address h

found_among : (number : ℕ) (numbers : List ℕ) → is_among number numbers ≡ true → is_some (find (λ n. n == number) numbers) ≡ true
found_among number [] h = absurd (cc h)
found_among number (n ∷ ns) h = by_test (n == number) (ap (λ b. b || is_among number ns) (nat_eq_equiv.symm n number) ∙ h) (λ e. found_among number ns e)
  where
    by_test : (b : Bool) → (b || is_among number ns) ≡ true → (is_among number ns ≡ true → is_some (find (λ m. m == number) ns) ≡ true) → is_some (cond b (Some n) (find (λ m. m == number) ns)) ≡ true
    by_test true e rest = refl
    by_test false e rest = rest e

-- where a dirty one is made clean fewer are left
pub fewer_dirty : (lists : Listing) (address : ℕ) → IsListing lists → is_dirty_at address lists.table.a ≡ true → length (made_clean address lists).dirty < length lists.dirty
fewer_dirty lists address kept h = filter_less (λ n. n) address lists.dirty (found_among address lists.dirty (kept.dirty_ones.each address ∙ h))
