-- One row of an address where a block falls off.
use Rattle.std.proofs.Common.{◌≡◌, ⊎_elim, ℕ, suc, ◌≤◌, ◌==◌, Bool, true, false, cond, List, [], ◌∷◌, map, take, length, refl, ap, sym, ◌∙◌, subst, Option, Some, None, eq-eqb}
use Rattle.std.specs.Prelude.{slice_get, option_map, IfSome, ⊤}
use Rattle.std.specs.List.{AllByRecursion, IsDistinct}
use Rattle.std.specs.Str.{bytes_eq}
use Rattle.std.proofs.lemmas.Bool.{false≢true}
use Rattle.std.proofs.lemmas.Slice.Eq.{bytes_eq-Decides}
use Rattle.dd_block.specs.declared.print.Fp.{Fp}
use Rattle.dd_record.specs.declared.row.ARow.{ARow}
use Rattle.dd_record.specs.declared.row.BRow.{BRow}
use Rattle.dd_record.specs.declared.row.Link.{Link}
use Rattle.dd_record.specs.declared.row.Link.TheVariants.{Lost, Slot, Zero}
use Rattle.dd_record.specs.Table.{has_slot}
use Rattle.dd_record.specs.Replay as rows
use Rattle.dd_model.specs.State.{content, is_zero_block}
use Rattle.dd_model.specs.Reference as step
use Rattle.dd_model.specs.Rows.{entry_of, held_block, LinkTells, RowTells}
use Rattle.dd_model.proofs.Slots.{IsSlotOf, slot_cut, held_all, one_slot, one_block}

abbrev Blocks : Type 0
Blocks = List (List ℕ)

-- the slot of a link, where it has one, is listed
abbrev pub IsListedLink : List BRow → Link → Type 0
IsListedLink b Lost = ⊤
IsListedLink b (Slot slot) = has_slot slot b ≡ true
IsListedLink b Zero = ⊤

-- a row tells of its content, and its slot is listed
abbrev pub Tells : (List ℕ → Fp) → (ℕ → List ℕ) → Blocks → List BRow → ARow → Type 0
Tells print held array b row = RowTells print held array row × IsListedLink b row.link

same_cond : {X : Type 0} (t : Bool) (x : X) → x ≡ cond t x x
same_cond true x = refl
same_cond false x = refl

entry_cond : (t : Bool) (row : ARow) → entry_of (cond t (record row { link = Lost }) row) ≡ cond t (record { address = row.address; linked = false }) (entry_of row)
entry_cond true row = refl
entry_cond false row = refl

-- zeros differ from what isn't zeros
pub zeros_differ : (x y : List ℕ) → is_zero_block x ≡ true → is_zero_block y ≡ false → bytes_eq x y ≡ false
zeros_differ x y is isnt =
    elim (bytes_eq x y) as (λ t. (t ≡ true → x ≡ y) → t ≡ false) [ true ↦ λ same. absurd (false≢true (sym isnt ∙ ap is_zero_block (sym (same refl)) ∙ is)) | false ↦ λ same. refl ] (bytes_eq-Decides x y).0

module _ (print : List ℕ → Fp) (held : ℕ → List ℕ) (array : Blocks) (b : List BRow) (distinct : IsDistinct bytes_eq (map (held_block held) b))
    (nonzero : AllByRecursion (λ block. is_zero_block block ≡ false) (map (held_block held) b)) where
  entry_by : (cut : BRow) → has_slot cut.slot b ≡ true → (address : ℕ) (link : Link) (dirty : Bool) (fp : Fp) → LinkTells print held (content array address) link fp → IsListedLink b link
      → entry_of (rows.unlinked_from (Some cut) (record { address = address; link = link; dirty = dirty; fp = fp }))
      ≡ step.unlinked_from array (Some (held cut.slot)) (entry_of (record { address = address; link = link; dirty = dirty; fp = fp }))
  entry_by cut is address Lost dirty fp tells listed = same_cond (bytes_eq (content array address) (held cut.slot)) _
  entry_by cut is address (Slot slot) dirty fp tells listed =
      entry_cond (slot == cut.slot) (record { address = address; link = Slot slot; dirty = dirty; fp = fp })
      ∙ ap (λ t. cond t (record { address = address; linked = false }) (record { address = address; linked = true }))
      (one_block held slot cut.slot (one_slot held b distinct slot cut.slot listed is) ∙ ap (λ block. bytes_eq block (held cut.slot)) tells.0)
  entry_by cut is address Zero dirty fp tells listed =
      ap (λ t. cond t (record { address = address; linked = false }) (record { address = address; linked = true }))
      (sym (zeros_differ (content array address) (held cut.slot) tells.0 (held_all held (λ block. is_zero_block block ≡ false) cut.slot b nonzero is)))

  entry_cut : (cut : Option BRow) → IfSome cut (λ c. has_slot c.slot b ≡ true) → (row : ARow) → Tells print held array b row
      → entry_of (rows.unlinked_from cut row) ≡ step.unlinked_from array (option_map (held_block held) cut) (entry_of row)
  entry_cut None is row h = refl
  entry_cut (Some cut) is row h = entry_by cut is row.address row.link row.dirty row.fp h.0 h.1

  -- the entries of all rows
  pub entries_cut : (cut : Option BRow) → IfSome cut (λ c. has_slot c.slot b ≡ true) → (a : List ARow) → AllByRecursion (Tells print held array b) a
      → map (step.unlinked_from array (option_map (held_block held) cut)) (map entry_of a) ≡ map entry_of (map (rows.unlinked_from cut) a)
  entries_cut cut is [] h = refl
  entries_cut cut is (row ∷ a) h =
      ap (λ entry. entry ∷ map (step.unlinked_from array (option_map (held_block held) cut)) (map entry_of a)) (sym (entry_cut cut is row h.0))
      ∙ ap (λ entries. entry_of (rows.unlinked_from cut row) ∷ entries) (entries_cut cut is a h.1)

  -- what a row tells behind the cut
  module _ (bcap : ℕ) (short : length b ≤ suc bcap) where
    slot_by : (cut : BRow) (address slot : ℕ) (dirty : Bool) (fp : Fp) (t : Bool) → (slot == cut.slot) ≡ t → slice_get b bcap ≡ Some cut → (held slot ≡ content array address) × (fp ≡ print (content array address))
        → has_slot slot b ≡ true
        → Tells print held array (take bcap b) (cond t (record { address = address; link = Lost; dirty = dirty; fp = fp }) (record { address = address; link = Slot slot; dirty = dirty; fp = fp }))
    slot_by cut address slot dirty fp true same at tells listed =
        ((ap is_zero_block (sym tells.0) ∙ held_all held (λ block. is_zero_block block ≡ false) slot b nonzero listed, tells.1), tt)
    slot_by cut address slot dirty fp false apart at tells listed =
        (tells, ⊎_elim (λ kept. kept) (λ last. absurd (false≢true (sym apart ∙ eq-eqb slot cut.slot (sym (subst (λ o. IsSlotOf slot o) at last))))) (slot_cut slot bcap b short listed))

    tells_by : (cut : BRow) → slice_get b bcap ≡ Some cut → (address : ℕ) (link : Link) (dirty : Bool) (fp : Fp) → LinkTells print held (content array address) link fp → IsListedLink b link
        → Tells print held array (take bcap b) (rows.unlinked_from (Some cut) (record { address = address; link = link; dirty = dirty; fp = fp }))
    tells_by cut at address Lost dirty fp tells listed = (tells, tt)
    tells_by cut at address (Slot slot) dirty fp tells listed = slot_by cut address slot dirty fp (slot == cut.slot) refl at tells listed
    tells_by cut at address Zero dirty fp tells listed = (tells, tt)

    uncut_by : slice_get b bcap ≡ None → (link : Link) → IsListedLink b link → IsListedLink (take bcap b) link
    uncut_by at Lost listed = tt
    uncut_by at (Slot slot) listed = ⊎_elim (λ kept. kept) (λ last. absurd (subst (λ o. IsSlotOf slot o) at last)) (slot_cut slot bcap b short listed)
    uncut_by at Zero listed = tt

    pub tells_cut : (cut : Option BRow) → slice_get b bcap ≡ cut → (row : ARow) → Tells print held array b row → Tells print held array (take bcap b) (rows.unlinked_from cut row)
    tells_cut None at row h = (h.0, uncut_by at row.link h.1)
    tells_cut (Some cut) at row h = tells_by cut at row.address row.link row.dirty row.fp h.0 h.1
