-- Rows that show a state fit each other.
use Rattle.std.proofs.Common.{◌≡◌, ℕ, ◌==◌, true, false, cond, List, [], ◌∷◌, map, refl, ap, sym, ◌∙◌, subst, Some}
use Rattle.std.specs.Prelude.{IsTrue, ◌||◌, ◌&&◌}
use Rattle.std.specs.List.{AllByRecursion, IsDistinct}
use Rattle.std.specs.Str.{bytes_eq}
use Rattle.std.proofs.lemmas.Bool.{false≢true, eqb-true}
use Rattle.std.proofs.lemmas.Slice.Eq.{bytes_eq-Decides}
use Rattle.dd_block.specs.declared.print.Fp.{Fp}
use Rattle.dd_record.specs.declared.row.ARow.{ARow}
use Rattle.dd_record.specs.declared.row.BRow.{BRow}
use Rattle.dd_record.specs.declared.row.Link.{Link}
use Rattle.dd_record.specs.declared.row.Link.TheVariants.{Lost, Slot, Zero}
use Rattle.dd_record.specs.Table.{Table, RowsFit, has_slot, a_row, link_of, link_at, is_link, slot_fits, link_fits}
use Rattle.dd_model.specs.State.{Entry, State, content, is_linked}
use Rattle.dd_model.specs.Rows.{entry_of, held_block, LinkTells, RowTells, Shows}
use Rattle.dd_model.proofs.StateLaws.{one_address}
use Rattle.dd_model.proofs.CutLinks.{IsListedLink}
use Rattle.dd_model.proofs.Answering.{number_turned, or_false}

module _ (print : List ℕ → Fp) (held : ℕ → List ℕ) where
  -- rows whose blocks differ have other slots
  other_slots : (row : BRow) (b : List BRow) → AllByRecursion (λ z. bytes_eq (held row.slot) z ≡ false) (map (held_block held) b) → AllByRecursion (λ (other : BRow). (row.slot == other.slot) ≡ false) b
  other_slots row [] apart = tt
  other_slots row (other ∷ b) apart = (
    elim (row.slot == other.slot) as (λ t. (row.slot == other.slot) ≡ t → t ≡ false) [
      | true ↦ λ same. absurd (false≢true (sym apart.0 ∙ (bytes_eq-Decides (held row.slot) (held other.slot)).1 (ap held (eqb-true row.slot other.slot same))))
      | false ↦ λ differ. refl
    ] refl,
    other_slots row b apart.1,
  )

  slots_apart : (b : List BRow) → IsDistinct bytes_eq (map (held_block held) b) → IsDistinct (λ x y. x.slot == y.slot) b
  unfolding IsDistinct
  slots_apart [] distinct = tt
  slots_apart (row ∷ b) distinct = (other_slots row b distinct.0, slots_apart b distinct.1)

  -- a listed slot that holds a block has its fingerprint
  slot_fit : (slot : ℕ) (fp : Fp) (b : List BRow) → AllByRecursion (λ (row : BRow). row.fp ≡ print (held row.slot)) b → has_slot slot b ≡ true → fp ≡ print (held slot) → slot_fits b (Slot slot) fp.0 ≡ true
  slot_fit slot fp [] prints h is = absurd (false≢true h)
  slot_fit slot fp (row ∷ b) prints h is =
      elim (row.slot == slot) as (λ t. (row.slot == slot) ≡ t → (t || has_slot slot b) ≡ true → (t && bytes_eq row.fp.0 fp.0 || slot_fits b (Slot slot) fp.0) ≡ true) [
        | true ↦ λ same here. ap (λ u. u || slot_fits b (Slot slot) fp.0)
            ((bytes_eq-Decides row.fp.0 fp.0).1 (ap (λ (f : Fp). f.0) (prints.0 ∙ ap (λ n. print (held n)) (eqb-true row.slot slot same) ∙ sym is)))
        | false ↦ λ differ there. slot_fit slot fp b prints.1 there is
      ] refl h

  link_fit : (block : List ℕ) (link : Link) (fp : Fp) (b : List BRow) → AllByRecursion (λ (row : BRow). row.fp ≡ print (held row.slot)) b → LinkTells print held block link fp → IsListedLink b link → slot_fits b link fp.0 ≡ true
  link_fit block Lost fp b prints tells listed = refl
  link_fit block (Slot slot) fp b prints tells listed = slot_fit slot fp b prints listed (tells.1 ∙ ap print (sym tells.0))
  link_fit block Zero fp b prints tells listed = refl

  links_fit : (array : List (List ℕ)) (b : List BRow) (a : List ARow) → AllByRecursion (λ (row : BRow). row.fp ≡ print (held row.slot)) b → AllByRecursion (RowTells print held array) a
      → AllByRecursion (λ (row : ARow). IsListedLink b row.link) a → AllByRecursion (λ row. IsTrue (link_fits b row)) a
  links_fit array b [] prints tells listed = tt
  links_fit array b (row ∷ a) prints tells listed = (link_fit (content array row.address) row.link row.fp b prints tells.0 listed.0, links_fit array b a prints tells.1 listed.1)

  other_addresses : (row : ARow) (a : List ARow) → AllByRecursion (λ (entry : Entry). (row.address == entry.address) ≡ false) (map entry_of a) → AllByRecursion (λ (other : ARow). (row.address == other.address) ≡ false) a
  other_addresses row [] apart = tt
  other_addresses row (other ∷ a) apart = (apart.0, other_addresses row a apart.1)

  addresses_apart : (a : List ARow) → IsDistinct one_address (map entry_of a) → IsDistinct (λ x y. x.address == y.address) a
  unfolding IsDistinct
  addresses_apart [] apart = tt
  addresses_apart (row ∷ a) apart = (other_addresses row a apart.0, addresses_apart a apart.1)

  -- rows that show a state whose addresses are distinct fit, where each link is to a listed slot
  pub fit-shown : (table : Table) (count : ℕ) (s : State) → Shows print held table count s → AllByRecursion (λ (row : ARow). IsListedLink table.b row.link) table.a
      → IsDistinct one_address s.addresses → RowsFit table
  fit-shown table count s shows listed apart = record {
    slots = slots_apart table.b (subst (λ blocks. IsDistinct bytes_eq blocks) shows.blocks shows.distinct);
    addresses = addresses_apart table.a (subst (λ entries. IsDistinct one_address entries) shows.addresses apart);
    links = links_fit s.array table.b table.a shows.b_prints shows.a_rows listed;
  }

unlinked_of : (row : ARow) (a : List ARow) → AllByRecursion (λ (entry : Entry). (row.address == entry.address) ≡ false) (map entry_of a) → is_linked row.address (map entry_of a) ≡ false
unlinked_of row [] apart = refl
unlinked_of row (other ∷ a) apart =
    ap (λ t. t && is_link other.link || is_linked row.address (map entry_of a)) (number_turned row.address other.address apart.0) ∙ unlinked_of row a apart.1

-- an address is linked in the state exactly where its row is
pub linked-shown : (address : ℕ) (a : List ARow) → IsDistinct one_address (map entry_of a) → is_linked address (map entry_of a) ≡ is_link (link_at address a)
unfolding IsDistinct
linked-shown address [] apart = refl
linked-shown address (row ∷ a) apart =
    elim (row.address == address) as (λ t. (row.address == address) ≡ t → (t && is_link row.link || is_linked address (map entry_of a)) ≡ is_link (link_of (cond t (Some row) (a_row address a)))) [
      | true ↦ λ same. ap (λ t. is_link row.link || t) (ap (λ n. is_linked n (map entry_of a)) (sym (eqb-true row.address address same)) ∙ unlinked_of row a apart.0) ∙ or_false (is_link row.link)
      | false ↦ λ differ. linked-shown address a apart.1
    ] refl
