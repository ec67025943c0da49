-- Orphans of rows are those of the state that the rows show.
use Rattle.std.proofs.Common.{◌≡◌, ℕ, ◌+◌, Bool, true, false, cond, not, List, [], ◌∷◌, map, refl, ap, sym, ◌∙◌, subst}
use Rattle.std.specs.Prelude.{count_by, ◌&&◌, ◌||◌}
use Rattle.std.specs.List.{AllByRecursion, IsDistinct}
use Rattle.std.specs.Str.{bytes_eq}
use Rattle.std.proofs.lemmas.List.Sums.{sum_by-cons}
use Rattle.dd_block.specs.declared.print.Fp.{Fp}
use Rattle.dd_record.specs.declared.row.ARow.{ARow}
use Rattle.dd_record.specs.declared.row.BRow.{BRow}
use Rattle.dd_record.specs.declared.row.Link.{Link}
use Rattle.dd_record.specs.declared.row.Link.TheVariants.{Lost, Slot, Zero}
use Rattle.dd_record.specs.Table.{Table, RowsFit, has_slot, is_link, is_slot}
use Rattle.dd_model.specs.Orphans.{is_referred, is_linked_to, orphaned_addresses, orphaned_blocks, orphans_of}
use Rattle.dd_model.specs.Rows.{entry_of, held_block, LinkTells, RowTells, Shows}
use Rattle.dd_model.specs.State.{State, content, is_zero_block}
use Rattle.dd_model.proofs.CutLinks.{IsListedLink, Tells, zeros_differ}
use Rattle.dd_model.proofs.Filters.{all_both}
use Rattle.dd_model.proofs.RecordLaws.{links-fit}
use Rattle.dd_model.proofs.Slots.{slot_front, slot_behind, held_all, one_slot, one_block}

abbrev one_if : Bool → ℕ
one_if b = cond b 1 0

-- a count over the images of a list
counted_map : {X Y : Type 0} (f : X → Y) (p : Y → Bool) (q : X → Bool) (xs : List X) → AllByRecursion (λ x. p (f x) ≡ q x) xs → count_by p (map f xs) ≡ count_by q xs
counted_map f p q [] h = refl
counted_map f p q (x ∷ xs) h =
    sum_by-cons (λ y. one_if (p y)) (f x) (map f xs) ∙ (λ i. one_if (h.0 i) + counted_map f p q xs h.1 i) ∙ sym (sum_by-cons (λ y. one_if (q y)) x xs)

all_of : {X : Type 0} (P : X → Type 0) → ((x : X) → P x) → (xs : List X) → AllByRecursion P xs
all_of P each [] = tt
all_of P each (x ∷ xs) = (each x, all_of P each xs)

-- the slot of each row is listed
all_in : (all rest : List BRow) → ((slot : ℕ) → has_slot slot rest ≡ true → has_slot slot all ≡ true) → AllByRecursion (λ row. has_slot row.slot all ≡ true) rest
all_in all [] within = tt
all_in all (row ∷ rest) within = (within row.slot (slot_front row rest), all_in all rest (λ slot there. within slot (slot_behind row slot rest there)))

mapped_all : {X : Type 0} (P Q : X → Type 0) (xs : List X) → ((x : X) → P x → Q x) → AllByRecursion P xs → AllByRecursion Q xs
mapped_all P Q [] each h = tt
mapped_all P Q (x ∷ xs) each h = (each x h.0, mapped_all P Q xs each h.1)

module _ (print : List ℕ → Fp) (held : ℕ → List ℕ) (array : List (List ℕ)) (b : List BRow) (distinct : IsDistinct bytes_eq (map (held_block held) b))
    (nonzero : AllByRecursion (λ block. is_zero_block block ≡ false) (map (held_block held) b)) where
  -- an address has the block of a listed slot exactly where it is linked to that slot
  refers_by : (slot : ℕ) → has_slot slot b ≡ true → (address : ℕ) (link : Link) (fp : Fp) → LinkTells print held (content array address) link fp → IsListedLink b link
      → (is_link link && bytes_eq (content array address) (held slot)) ≡ is_slot slot link
  refers_by slot is address Lost fp tells listed = refl
  refers_by slot is address (Slot other) fp tells listed =
      sym (one_block held other slot (one_slot held b distinct other slot listed is) ∙ ap (λ block. bytes_eq block (held slot)) tells.0)
  refers_by slot is address Zero fp tells listed =
      zeros_differ (content array address) (held slot) tells.0 (held_all held (λ block. is_zero_block block ≡ false) slot b nonzero is)

  referred_rows : (slot : ℕ) → has_slot slot b ≡ true → (a : List ARow) → AllByRecursion (Tells print held array b) a → is_referred array (map entry_of a) (held slot) ≡ is_linked_to slot a
  referred_rows slot is [] h = refl
  referred_rows slot is (row ∷ a) h = λ i. refers_by slot is row.address row.link row.fp h.0.0 h.0.1 i || referred_rows slot is a h.1 i

-- the orphans of rows are those of the state
pub orphans_shown : (print : List ℕ → Fp) (held : ℕ → List ℕ) (table : Table) (count : ℕ) (s : State) → Shows print held table count s → RowsFit table
    → orphans_of table ≡ record { a = orphaned_addresses s; b = orphaned_blocks s }
orphans_shown print held table count s shows fit = λ i. record { a = addresses i; b = blocks i }
  where
    addresses : count_by (λ row. not (is_link row.link)) table.a ≡ orphaned_addresses s
    addresses =
        sym (counted_map entry_of (λ entry. not entry.linked) (λ row. not (is_link row.link)) table.a (all_of (λ row. not (is_link row.link) ≡ not (is_link row.link)) (λ row. refl) table.a))
        ∙ ap (λ entries. count_by (λ entry. not entry.linked) entries) (sym shows.addresses)

    tells : AllByRecursion (Tells print held s.array table.b) table.a
    tells = all_both (RowTells print held s.array) (λ (row : ARow). IsListedLink table.b row.link) table.a shows.a_rows (links-fit table fit)

    apart : IsDistinct bytes_eq (map (held_block held) table.b)
    apart = subst (IsDistinct bytes_eq) shows.blocks shows.distinct

    nonzero : AllByRecursion (λ block. is_zero_block block ≡ false) (map (held_block held) table.b)
    nonzero = subst (AllByRecursion (λ block. is_zero_block block ≡ false)) shows.blocks shows.nonzero

    blocks : count_by (λ row. not (is_linked_to row.slot table.a)) table.b ≡ orphaned_blocks s
    blocks =
        sym (counted_map (held_block held) (λ block. not (is_referred s.array (map entry_of table.a) block)) (λ row. not (is_linked_to row.slot table.a)) table.b
        (mapped_all (λ row. has_slot row.slot table.b ≡ true) (λ row. not (is_referred s.array (map entry_of table.a) (held row.slot)) ≡ not (is_linked_to row.slot table.a)) table.b
        (λ row there. ap not (referred_rows print held s.array table.b apart nonzero row.slot there table.a tells))
        (all_in table.b table.b (λ slot there. there))))
        ∙ (λ i. count_by (λ block. not (is_referred s.array (sym shows.addresses i) block)) (sym shows.blocks i))
