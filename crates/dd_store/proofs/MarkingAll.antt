-- Addresses that are made clean one after the other.
use Rattle.std.proofs.Common.{◌≡◌, ⊎_elim, ℕ, zero, suc, ◌<◌, ◌==◌, true, false, List, [], ◌∷◌, ◌++◌, length, take, get_or, refl, sym, ◌∙◌, ap, arith}
use Rattle.std.specs.Prelude.{◌||◌}
use Rattle.std.specs.List.{AllByRecursion, IsDistinct}
use Rattle.dd_slots.specs.Numbers.{is_among}
use Rattle.dd_record.specs.declared.row.ARow.{ARow}
use Rattle.dd_record.specs.declared.rec.Rec.{Rec}
use Rattle.dd_record.specs.declared.rec.Rec.TheVariants.{Clean}
use Rattle.dd_record.specs.Table.{Table, is_dirty_at}
use Rattle.dd_record.specs.Replay.{cleaned}
use Rattle.dd_model.specs.Listing.{Listing, made_clean, without}
use Rattle.dd_store.specs.Keeping.{StoreView, IsStore}
use Rattle.dd_store.specs.Laying.{all_cleaned, all_without, all_marked, clean_records, marked_store}
use Rattle.dd_store.proofs.Marking.{others_dirty}

-- one more
cleaned_more : (ns : List ℕ) (i : ℕ) (rows : List ARow) → i < length ns → cleaned (get_or ns i 0) (all_cleaned (take i ns) rows) ≡ all_cleaned (take (suc i) ns) rows
cleaned_more [] i rows lt = absurd (omega arith)
cleaned_more (n ∷ []) zero rows lt = refl
cleaned_more (n ∷ m ∷ ns) zero rows lt = refl
cleaned_more (n ∷ ns) (suc i) rows lt = cleaned_more ns i (cleaned n rows) (omega arith)

without_more : (ns : List ℕ) (i : ℕ) (dirty : List ℕ) → i < length ns → without (get_or ns i 0) (all_without (take i ns) dirty) ≡ all_without (take (suc i) ns) dirty
without_more [] i dirty lt = absurd (omega arith)
without_more (n ∷ []) zero dirty lt = refl
without_more (n ∷ m ∷ ns) zero dirty lt = refl
without_more (n ∷ ns) (suc i) dirty lt = without_more ns i (without n dirty) (omega arith)

pub marked_more : (ns : List ℕ) (i : ℕ) (lists : Listing) → i < length ns → made_clean (get_or ns i 0) (all_marked (take i ns) lists) ≡ all_marked (take (suc i) ns) lists
marked_more ns i lists lt = λ k. record lists { table = record { b = lists.table.b; a = cleaned_more ns i lists.table.a lt k }; dirty = without_more ns i lists.dirty lt k }

records_more : (ns : List ℕ) (i : ℕ) → i < length ns → clean_records (take i ns) ++ Clean (get_or ns i 0) ∷ [] ≡ clean_records (take (suc i) ns)
records_more [] i lt = absurd (omega arith)
records_more (n ∷ []) zero lt = refl
records_more (n ∷ m ∷ ns) zero lt = refl
records_more (n ∷ ns) (suc i) lt = ap (λ (recs : List Rec). Clean n ∷ recs) (records_more ns i (omega arith))

pub pending_more : (front : List Rec) (ns : List ℕ) (i : ℕ) → i < length ns → (front ++ clean_records (take i ns)) ++ Clean (get_or ns i 0) ∷ [] ≡ front ++ clean_records (take (suc i) ns)
pending_more [] ns i lt = records_more ns i lt
pending_more (rec ∷ front) ns i lt = ap (λ (recs : List Rec). rec ∷ recs) (pending_more front ns i lt)

pub among_at : (P : ℕ → Type 0) (ns : List ℕ) (i : ℕ) → AllByRecursion P ns → i < length ns → P (get_or ns i 0)
among_at P [] i h lt = absurd (omega arith)
among_at P (n ∷ ns) zero h lt = h.0
among_at P (n ∷ ns) (suc i) h lt = among_at P ns i h.1 (omega arith)

flip : (a b : ℕ) → (a == b) ≡ false → (b == a) ≡ false
flip a b h = grind arith

pub not_before : (ns : List ℕ) (i : ℕ) → IsDistinct (λ x y. x == y) ns → i < length ns → is_among (get_or ns i 0) (take i ns) ≡ false
unfolding IsDistinct
not_before [] i apart lt = absurd (omega arith)
not_before (n ∷ ns) zero apart lt = refl
not_before (n ∷ ns) (suc i) apart lt =
    ap (λ b. b || is_among (get_or ns i 0) (take i ns)) (flip n (get_or ns i 0) (among_at (λ m. (n == m) ≡ false) ns i apart.0 (omega arith))) ∙ not_before ns i apart.1 (omega arith)

-- the next one is still dirty
pub next_dirty : (ns : List ℕ) (i : ℕ) (rows : List ARow) → IsDistinct (λ x y. x == y) ns → AllByRecursion (λ n. is_dirty_at n rows ≡ true) ns → i < length ns → is_dirty_at (get_or ns i 0) (all_cleaned (take i ns) rows) ≡ true
next_dirty ns i rows apart dirty lt = others_dirty (get_or ns i 0) (take i ns) rows (not_before ns i apart lt) ∙ among_at (λ n. is_dirty_at n rows ≡ true) ns i dirty lt

-- nothing is pending where something is laid
pub pending_none : (store : StoreView) → IsStore store → 0 < length store.laid → store.pending ≡ []
pending_none store is some = ⊎_elim (λ none. absurd (omega (arith, ap (λ (ns : List ℕ). length ns) none, some))) (λ none. none) is.laid_alone

-- the store as its fields are behind a mark
pub marked_as : (store : StoreView) (lists : Listing) → store.table ≡ lists.table → store.dirty ≡ lists.dirty → (now : Listing) (pending : List Rec) (laid : List ℕ) → now ≡ all_marked store.laid lists
    → pending ≡ clean_records store.laid → laid ≡ [] → record store { table = now.table; pending = pending; dirty = now.dirty; laid = laid } ≡ marked_store store
marked_as store lists table dirty now pending laid now_is pending_is laid_is = λ i. record store {
  table = (ap (λ (l : Listing). l.table) now_is ∙ ap (λ (t : Table). record { b = t.b; a = all_cleaned store.laid t.a }) (sym table)) i;
  pending = pending_is i;
  dirty = (ap (λ (l : Listing). l.dirty) now_is ∙ ap (all_without store.laid) (sym dirty)) i;
  laid = laid_is i;
}
