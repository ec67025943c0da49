-- A store that lays addresses, one after the other.
use Rattle.std.proofs.Common.{◌≡◌, inr, ℕ, zero, suc, ◌<◌, ◌≤◌, ◌==◌, Bool, true, false, List, [], ◌∷◌, ◌++◌, length, take, get_or, refl, sym, ◌∙◌, ap, subst, arith, Some}
use Rattle.std.specs.Prelude.{◌||◌}
use Rattle.std.specs.List.{AllByRecursion, IsDistinct}
use Rattle.std.proofs.lemmas.Bool.{eqb-true}
use Rattle.dd_block.specs.declared.print.Fp.{Fp}
use Rattle.dd_block.specs.declared.geometry.Geometry.{Geometry}
use Rattle.dd_block.specs.Geometry.{slot_count}
use Rattle.dd_rig.specs.World.{World}
use Rattle.dd_slots.specs.Numbers.{is_among, Enumerates}
use Rattle.dd_record.specs.declared.row.ARow.{ARow}
use Rattle.dd_record.specs.declared.row.Link.{Link}
use Rattle.dd_record.specs.declared.row.Link.TheVariants.{Lost, Slot, Zero}
use Rattle.dd_record.specs.Spelling.{IsA, IsLinkWith}
use Rattle.dd_record.specs.Table.{Table, a_row, is_dirty, is_dirty_at, is_link, IsDirtyLinked}
use Rattle.dd_model.specs.State.{State}
use Rattle.dd_model.specs.Listing.{Listing, IsListing, IsLinkBelow, is_referrer}
use Rattle.dd_model.proofs.Kept.{all_of}
use Rattle.dd_store.specs.declared.along.Along.{Along}
use Rattle.dd_store.specs.Keeping.{StoreView, IsStore, Holds, Kept}
use Rattle.dd_store.specs.Laying.{MayLay, MayLayRow, MayLayAll, all_laid, laid_store, IsPlacedRow}
use Rattle.dd_store.specs.Rounds.{walk_of, has_along}
use Rattle.dd_store.specs.Serving.{unlaid}
use Rattle.dd_store.proofs.LayingOne.{row_may, row_at}
use Rattle.dd_store.proofs.LayingRow.{found_row}
use Rattle.dd_store.proofs.Flushing.{kept_unlaid}
use Rattle.dd_store.proofs.Holding.{holds_unlaid}
use Rattle.dd_store.proofs.Marking.{dirty_below}
use Rattle.dd_store.proofs.MarkingAll.{among_at, not_before}
use Rattle.dd_store.proofs.Walks.{all_take, apart_take, first_dirty, first_apart, first_some}
use Rattle.dd_store.specs.Meaning.{Basis}

-- the row of a dirty address is linked
pub found_linked : (address : ℕ) (rows : List ARow) (row : ARow) → AllByRecursion IsDirtyLinked rows → is_dirty_at address rows ≡ true → a_row address rows ≡ Some row → is_link row.link ≡ true
found_linked address rows row linked dirty found = found_row IsDirtyLinked address rows row linked found (ap is_dirty (sym found) ∙ dirty)

-- a row of the lists is the store's
module _ (store : StoreView) (table : Table) (same : store.table ≡ table) (is : IsStore store) (address : ℕ) (row : ARow) (found : a_row address table.a ≡ Some row) where
  its : a_row address store.table.a ≡ Some row
  its = ap (λ (t : Table). a_row address t.a) same ∙ found

  pub found_may : MayLay store address → MayLayRow store row
  found_may may = row_may store is address row its may

  pub found_at : row.address ≡ address
  found_at = row_at store is address row its

-- the rows of a store are placed
link_below : (geo : Geometry) (version : ℕ) (link : Link) (fp : Fp) → IsLinkWith geo version link fp → IsLinkBelow (slot_count geo) link
link_below geo version Lost fp with_ = tt
link_below geo version (Slot slot) fp with_ = with_
link_below geo version Zero fp with_ = tt

pub rows_placed : (store : StoreView) (geo : Geometry) → store.journal.geo ≡ geo → IsStore store → AllByRecursion (IsPlacedRow geo) store.table.a
rows_placed store geo same is = subst (λ (g : Geometry). AllByRecursion (IsPlacedRow g) store.table.a) same
    (all_of (IsA store.journal.geo store.journal.version) (IsPlacedRow store.journal.geo) store.table.a (λ row keeps. (keeps.address, link_below store.journal.geo store.journal.version row.link row.fp keeps.link)) is.rows.a_rows)

-- one more of them
pub taken_next : (ns : List ℕ) (n : ℕ) → n < length ns → take n ns ++ get_or ns n 0 ∷ [] ≡ take (suc n) ns
taken_next [] n h = absurd (omega (arith, h))
taken_next (m ∷ []) zero h = refl
taken_next (m ∷ k ∷ ns) zero h = refl
taken_next (m ∷ ns) (suc n) h = ap (λ (ms : List ℕ). m ∷ ms) (taken_next ns n (omega (arith, h)))

-- all of them
pub whole : (ns : List ℕ) (n : ℕ) → n ≡ length ns → take n ns ≡ ns
whole ns n is = ap (λ m. take m ns) is ∙ all ns
  where
    all : (ms : List ℕ) → take (length ms) ms ≡ ms
    all [] = refl
    all (m ∷ ms) = ap (λ (ks : List ℕ). m ∷ ks) (all ms)

-- the first addresses of a walk may be laid
taken_at_most : (n : ℕ) (ns : List ℕ) → length (take n ns) ≤ n
taken_at_most zero ns = omega arith
taken_at_most (suc n) [] = omega arith
taken_at_most (suc n) (m ∷ ns) = omega (arith, taken_at_most n ns)

module _ (lists : Listing) (referrers : ℕ → List ℕ) (kept : IsListing lists) (walked : (slot : ℕ) → Enumerates (is_referrer slot lists.table.a) (referrers slot)) (along : Along) (n : ℕ) (ns : List ℕ)
    (first : ns ≡ take n (walk_of along lists.dirty referrers)) where
  pub gathered_dirty : AllByRecursion (λ address. is_dirty_at address lists.table.a ≡ true) ns
  gathered_dirty = subst (AllByRecursion (λ address. is_dirty_at address lists.table.a ≡ true)) (sym first) (first_dirty lists referrers kept walked along n)

  pub gathered_few : length ns ≤ n
  gathered_few = omega (arith, ap (λ (ms : List ℕ). length ms) first, taken_at_most n (walk_of along lists.dirty referrers))

  pub gathered_apart : IsDistinct (λ x y. x == y) ns
  gathered_apart = subst (IsDistinct (λ x y. x == y)) (sym first) (first_apart lists referrers kept walked along n)

  pub gathered_may : (store : StoreView) → store.table ≡ lists.table → store.pending ≡ [] → n ≤ store.journal.geo.group → MayLayAll (unlaid store) ns
  gathered_may store same none few = record {
    none = none;
    unlaid = refl;
    dirty = subst (λ (t : Table). AllByRecursion (λ address. is_dirty_at address t.a ≡ true) ns) (sym same) gathered_dirty;
    apart = gathered_apart;
    few = omega (arith, gathered_few, few);
  }

  pub gathered_some : (store : StoreView) → 0 < n → store.table ≡ lists.table → store.dirty ≡ lists.dirty → has_along along store ≡ true → 0 < length ns
  gathered_some store most table dirty has = omega (arith, ap (λ (ms : List ℕ). length ms) first, first_some lists referrers kept walked along n store most table dirty has)

module _ (store : StoreView) (addresses : List ℕ) (is : IsStore store) (may : MayLayAll store addresses) where
  among_all : (P : ℕ → Type 0) (ns : List ℕ) → AllByRecursion P ns → (n : ℕ) → is_among n ns ≡ true → P n
  among_all P [] h n among = absurd (cc among)
  among_all P (m ∷ ns) h n among = by_test (n == m) refl among (λ later. among_all P ns h.1 n later)
    where
      by_test : (b : Bool) → (n == m) ≡ b → (b || is_among n ns) ≡ true → (is_among n ns ≡ true → P n) → P n
      by_test true here e next = subst P (sym (eqb-true n m here)) h.0
      by_test false away e next = next e

  -- some of them are laid
  pub laid_first_is : (i : ℕ) → IsStore (all_laid (take i addresses) store)
  laid_first_is i = record {
    journal_up = is.journal_up;
    version = is.version;
    rows = is.rows;
    fit = is.fit;
    few = is.few;
    records = is.records;
    counted = is.counted;
    sized = is.sized;
    used = is.used;
    named = is.named;
    dirty = is.dirty;
    laid = among_all (λ address. is_dirty_at address store.table.a ≡ true) (take i addresses) (all_take (λ address. is_dirty_at address store.table.a ≡ true) i addresses may.dirty);
    laid_once = apart_take i addresses may.apart;
    few_laid = omega (arith, may.few, taken_few i addresses);
    laid_alone = inr may.none;
  }
    where
      taken_few : (n : ℕ) (ns : List ℕ) → length (take n ns) ≤ length ns
      taken_few zero ns = omega arith
      taken_few (suc n) [] = omega arith
      taken_few (suc n) (m ∷ ns) = omega (arith, taken_few n ns)

  pub laid_all_is : IsStore (all_laid addresses store)
  laid_all_is = subst (λ (ns : List ℕ). IsStore (all_laid ns store)) (whole addresses (length addresses) refl) (laid_first_is (length addresses))

  -- and the next one may be
  pub may_next : (i : ℕ) → i < length addresses → MayLay (all_laid (take i addresses) store) (get_or addresses i 0)
  may_next i lt =
      let dirty : is_dirty_at (get_or addresses i 0) store.table.a ≡ true = among_at (λ address. is_dirty_at address store.table.a ≡ true) addresses i may.dirty lt in
      record {
        below = dirty_below store.journal.geo store.journal.version (get_or addresses i 0) store.table.a is.rows.a_rows dirty;
        dirty = dirty;
        unlaid = not_before addresses i may.apart lt;
        none = may.none;
      }

  module _ (basis : Basis) (print : List ℕ → Fp) (world : World) (s : State) where
    -- before the first one
    pub laid_none : Kept basis print store world s s → Kept basis print (all_laid [] store) world s s
    laid_none kept = subst (λ (ns : List ℕ). Kept basis print (all_laid ns store) world s s) may.unlaid kept

    -- behind one more
    pub laid_more : (i : ℕ) → i < length addresses → Kept basis print (laid_store (get_or addresses i 0) (all_laid (take i addresses) store)) world s s → Kept basis print (all_laid (take (suc i) addresses) store) world s s
    laid_more i lt kept = subst (λ (ns : List ℕ). Kept basis print (all_laid ns store) world s s) (taken_next addresses i lt) kept

    -- what is laid may be forgotten
    pub laid_lost : (ns : List ℕ) → Kept basis print (all_laid ns store) world s s → Kept basis print store world s s
    laid_lost ns kept = subst (λ (ms : List ℕ). Kept basis print (all_laid ms store) world s s) (sym may.unlaid) (kept_unlaid basis print (all_laid ns store) world s s kept)

-- the same of what it holds
pub holds_lost : (store : StoreView) (addresses : List ℕ) → MayLayAll store addresses → (print : List ℕ → Fp) (world : World) (s : State) (ns : List ℕ) → Holds print (all_laid ns store) world s → Holds print store world s
holds_lost store addresses may print world s ns holds = subst (λ (ms : List ℕ). Holds print (all_laid ms store) world s) (sym may.unlaid) (holds_unlaid print (all_laid ns store) world s holds)
