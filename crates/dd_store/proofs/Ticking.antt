-- The address that became dirty longest ago is written back.
use Rattle.std.proofs.Common.{◌≡◌, ℕ, ◌<◌, ◌==◌, not, Bool, true, false, cond, List, [], ◌∷◌, refl, sym, ◌∙◌, ap, subst, arith, Some, None}
use Rattle.std.specs.Prelude.{◌&&◌, Result, Ok, Err, OnOk}
use Rattle.std.specs.List.{AllByRecursion, IsDistinct}
use Rattle.dd_block.specs.declared.print.Fp.{Fp}
use Rattle.dd_block.specs.declared.geometry.Geometry.{Geometry}
use Rattle.dd_layout.specs.Layout.{disk_block}
use Rattle.dd_rig.specs.World.{World}
use Rattle.dd_slots.proofs.Numbers.{same_number}
use Rattle.dd_record.specs.Table.{is_dirty_at}
use Rattle.dd_model.specs.State.{State, content}
use Rattle.dd_model.specs.Listing.{without, next_of}
use Rattle.dd_model.proofs.Dirty.{dirty_cleaned}
use Rattle.dd_model.proofs.Stepping.{next_among}
use Rattle.dd_journal.specs.Sitting.{JournalView}
use Rattle.dd_store.specs.Keeping.{StoreView, IsStore, Holds}
use Rattle.dd_store.specs.Serving.{written_back}
use Rattle.dd_store.proofs.Marking.{dirty_below}

others : (number : ℕ) (numbers : List ℕ) → AllByRecursion (λ other. (number == other) ≡ false) numbers → numbers ≡ without number numbers
others number [] h = refl
others number (other ∷ numbers) h =
    ap (λ (rest : List ℕ). other ∷ rest) (others number numbers h.1) ∙ ap (λ b. cond (not b) (other ∷ without number numbers) (without number numbers)) (sym (flip number other h.0))
  where
    flip : (m n : ℕ) → (m == n) ≡ false → (n == m) ≡ false
    flip m n e = grind arith

-- the first of distinct numbers, and the others
pub first_apart : (number : ℕ) (numbers : List ℕ) → next_of None numbers ≡ Some number → IsDistinct (λ m n. m == n) numbers → numbers ≡ number ∷ without number numbers
unfolding IsDistinct
first_apart number [] is apart = absurd (cc is)
first_apart number (first ∷ numbers) is apart =
    let same : first ≡ number = cc is in
    let rest : numbers ≡ without number numbers = subst (λ n. numbers ≡ without n numbers) same (others first numbers apart.0) in
    let gone : without number (first ∷ numbers) ≡ without number numbers = ap (λ b. cond (not b) (first ∷ without number numbers) (without number numbers)) (ap (λ n. n == number) same ∙ same_number number) in
    ap (λ n. n ∷ numbers) same ∙ ap (λ (ns : List ℕ). number ∷ ns) (rest ∙ sym gone)

module _ (store : StoreView) (is : IsStore store) (address : ℕ) (oldest : next_of None store.dirty ≡ Some address) where
  pub oldest_is_dirty : is_dirty_at address store.table.a ≡ true
  oldest_is_dirty = sym (is.dirty.each address) ∙ next_among None address store.dirty oldest

  pub oldest_below : address < store.journal.geo.blocks
  oldest_below = dirty_below store.journal.geo store.journal.version address store.table.a is.rows.a_rows oldest_is_dirty

  pub oldest_first : store.dirty ≡ address ∷ without address store.dirty
  oldest_first = first_apart address store.dirty oldest is.dirty.once

and_false : (b : Bool) → (b && false) ≡ false
and_false true = refl
and_false false = refl

-- behind a write-back the address is clean
clean_now : (store now : StoreView) (journal : JournalView) (address : ℕ) → now ≡ written_back address store journal → is_dirty_at address now.table.a ≡ false
clean_now store now journal address is =
    ap (λ (v : StoreView). is_dirty_at address v.table.a) is ∙ dirty_cleaned address store.table.a address ∙ ap (λ b. is_dirty_at address store.table.a && not b) (same_number address) ∙ and_false (is_dirty_at address store.table.a)

pub written_clean : {T E : Type 0} (result : Result T E) (store now : StoreView) (journal : JournalView) (address : ℕ) → OnOk result (now ≡ written_back address store journal) → OnOk result (is_dirty_at address now.table.a ≡ false)
written_clean (Ok done) store now journal address is = clean_now store now journal address is
written_clean (Err fault) store now journal address is = tt

-- and the disk shows the content
pub written_shows : (print : List ℕ → Fp) (store now : StoreView) (journal : JournalView) (world : World) (s : State) (address : ℕ) → now ≡ written_back address store journal → now.journal.geo ≡ store.journal.geo
    → address < store.journal.geo.blocks → Holds print now world s → disk_block store.journal.geo world.disk.shown address ≡ content s.array address
written_shows print store now journal world s address is same below holds =
    let clean : is_dirty_at address now.table.a ≡ false = clean_now store now journal address is in
    subst (λ (g : Geometry). disk_block g world.disk.shown address ≡ content s.array address) same
    (sym (holds.means.clean address (subst (λ (g : Geometry). address < g.blocks) (sym same) below) clean))
