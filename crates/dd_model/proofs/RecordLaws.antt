-- Records that fit show references.
use Rattle.std.proofs.Common.{◌≡◌, ℕ, suc, ◌≤◌, ◌<◌, ◌==◌, Bool, true, false, cond, not, List, [], ◌∷◌, map, length, refl, ap, sym, ◌∙◌, subst, Option, Some, None, eq-eqb}
use Rattle.std.specs.Prelude.{IsTrue, option_map, unwrap_or, ⊤, ◌||◌, ◌&&◌}
use Rattle.std.specs.List.{AllByRecursion, IsDistinct}
use Rattle.std.specs.Str.{bytes_eq}
use Rattle.std.proofs.lemmas.Bool.{false≢true}
use Rattle.std.proofs.lemmas.Option.{none-some, cond_some}
use Rattle.dd_block.specs.declared.print.Fp.{Fp}
use Rattle.dd_record.specs.declared.row.ARow.{ARow}
use Rattle.dd_record.specs.declared.row.BRow.{BRow}
use Rattle.dd_record.specs.declared.row.Link.{Link}
use Rattle.dd_record.specs.declared.row.Link.TheVariants as links
use Rattle.dd_record.specs.declared.rec.Rec.{Rec}
use Rattle.dd_record.specs.declared.rec.Rec.TheVariants.{Hit, Link as ToSlot, Store, Zero, Clean}
use Rattle.dd_record.specs.Table.{Table, RowsFit, has_slot, b_row, link_at, is_link, slot_fits, link_fits}
use Rattle.dd_record.specs.Replay.{Touch, touched, touch_of, hit_of, cleaned}
use Rattle.dd_model.specs.State.{Sizes, State, is_zero_block}
use Rattle.dd_model.specs.Reference.{reference}
use Rattle.dd_model.specs.Rows.{entry_of, RowTells, Shows}
use Rattle.dd_model.proofs.Slots.{slot_behind, held_all, listed_alone, HoldsAlone}
use Rattle.dd_model.proofs.CutLinks.{IsListedLink}
use Rattle.dd_model.proofs.ShownLaws.{shows-zeros, shows-block, links-zeros, links-block}
use Rattle.dd_model.proofs.Answering.{of_cond, or_left}

number_same : (n : ℕ) → (n == n) ≡ true
number_same n = eq-eqb n n refl

one_cleaned : (t : Bool) (row : ARow) → entry_of (cond t (record row { dirty = false }) row) ≡ entry_of row
one_cleaned true row = refl
one_cleaned false row = refl

-- what is referenced has this content, where slots hold these blocks
abbrev pub HasBlock : (ℕ → List ℕ) → Option BRow → List ℕ → Type 0
HasBlock held None x = is_zero_block x ≡ true
HasBlock held (Some row) x = held row.slot ≡ x

-- a row may move to the front of B: its block isn't zeros, its fingerprint is right, and no other listed slot holds that block
abbrev pub MayMove : (List ℕ → Fp) → (ℕ → List ℕ) → List BRow → Option BRow → Type 0
MayMove print held b None = ⊤
MayMove print held b (Some row) = (is_zero_block (held row.slot) ≡ false) × (row.fp ≡ print (held row.slot)) × HoldsAlone held row b

module _ (print : List ℕ → Fp) (held : ℕ → List ℕ) (sizes : Sizes) (s : State) (table : Table) (count : ℕ) (shows : Shows print held table count s) where
  -- the step on rows shows the reference, and each link is again to a listed slot
  module _ (address : ℕ) (dirty : Bool) (inside : address < length s.array) (linked : AllByRecursion (λ (row : ARow). IsListedLink table.b row.link) table.a) (short : length table.b ≤ sizes.bcap) where
    abbrev touch_by : Option BRow → Touch
    touch_by block = record { address = address; block = block; dirty = dirty }

    pub shows-touched : (block : Option BRow) (x : List ℕ) → HasBlock held block x → MayMove print held table.b block
        → Shows print held (touched sizes.acap sizes.bcap (touch_by block) table) (suc count) (reference sizes s address x)
    shows-touched None x has may = shows-zeros print held sizes s table count address dirty shows inside linked x has
    shows-touched (Some row) x has may =
        subst (λ block. Shows print held (touched sizes.acap sizes.bcap (touch_by (Some row)) table) (suc count) (reference sizes s address block)) has
        (shows-block print held sizes s table count address dirty shows inside linked row may.0 may.1 may.2 short)

    pub links-touched : (block : Option BRow) (x : List ℕ) → HasBlock held block x → MayMove print held table.b block
        → AllByRecursion (λ (row : ARow). IsListedLink (touched sizes.acap sizes.bcap (touch_by block) table).b row.link) (touched sizes.acap sizes.bcap (touch_by block) table).a
    links-touched None x has may = links-zeros print held sizes s table count address dirty shows inside linked x has
    links-touched (Some row) x has may = links-block print held sizes s table count address dirty shows inside linked row may.0 may.1 may.2 short

  -- a listed row may move
  pub found_listed : (slot : ℕ) (row : BRow) (b : List BRow) (P : BRow → Type 0) → AllByRecursion P b → b_row slot b ≡ Some row → (has_slot row.slot b ≡ true) × P row
  found_listed slot row [] P all h = absurd (none-some row h)
  found_listed slot row (other ∷ b) P all h =
      elim (other.slot == slot) as (λ t. cond t (Some other) (b_row slot b) ≡ Some row → (has_slot row.slot (other ∷ b) ≡ true) × P row) [
        | true ↦ λ here. let same : other ≡ row = ap (λ o. unwrap_or o other) here in
            (or_left (other.slot == row.slot) (has_slot row.slot b) (ap (λ (r : BRow). other.slot == r.slot) (sym same) ∙ number_same other.slot), subst P same all.0)
        | false ↦ λ there. let rest : (has_slot row.slot b ≡ true) × P row = found_listed slot row b P all.1 there in
            (slot_behind other row.slot b rest.0, rest.1)
      ] h

  pub may_move-listed : (slot : ℕ) (row : BRow) → b_row slot table.b ≡ Some row → MayMove print held table.b (Some row)
  may_move-listed slot row h =
      let found : (has_slot row.slot table.b ≡ true) × (row.fp ≡ print (held row.slot)) = found_listed slot row table.b (λ r. r.fp ≡ print (held r.slot)) shows.b_prints h in (
        held_all held (λ z. is_zero_block z ≡ false) row.slot table.b (subst (λ blocks. AllByRecursion (λ z. is_zero_block z ≡ false) blocks) shows.blocks shows.nonzero) found.0,
        found.1,
        listed_alone held row table.b (subst (λ blocks. IsDistinct bytes_eq blocks) shows.blocks shows.distinct) found.0,
      )

  found_by : (address slot : ℕ) (dirty : Bool) (found : Option BRow) (touch : Touch) → b_row slot table.b ≡ found
      → option_map (λ row. record { address = address; block = Some row; dirty = dirty }) found ≡ Some touch → MayMove print held table.b touch.block
  found_by address slot dirty None touch at h = absurd (none-some touch h)
  found_by address slot dirty (Some row) touch at h =
      subst (λ (t : Touch). MayMove print held table.b t.block) (ap (λ o. unwrap_or o touch) h) (may_move-listed slot row at)

  hit_by : (address : ℕ) (link : Link) (touch : Touch) → hit_of address link table.b ≡ Some touch → MayMove print held table.b touch.block
  hit_by address links.Lost touch h = absurd (none-some touch h)
  hit_by address (links.Slot slot) touch h = found_by address slot false (b_row slot table.b) touch refl h
  hit_by address links.Zero touch h = subst (λ (t : Touch). MayMove print held table.b t.block) (ap (λ o. unwrap_or o touch) h) tt

  abbrev pub stores : Rec → Bool
  stores (Store address slot fp dirty) = true
  stores rec = false

  -- the block of each record but a Store is listed, or is zeros
  pub may_move-rec : (rec : Rec) (touch : Touch) → stores rec ≡ false → touch_of rec table ≡ Some touch → MayMove print held table.b touch.block
  may_move-rec (Hit address) touch isnt h = hit_by address (link_at address table.a) touch h
  may_move-rec (ToSlot address slot dirty) touch isnt h = found_by address slot dirty (b_row slot table.b) touch refl (of_cond (dirty || not (is_link (link_at address table.a))) _ touch h)
  may_move-rec (Store address slot fp dirty) touch isnt h = absurd (false≢true (sym isnt))
  may_move-rec (Zero address dirty) touch isnt h =
      subst (λ (t : Touch). MayMove print held table.b t.block) (cond_some (dirty || not (is_link (link_at address table.a))) (record { address = address; block = None; dirty = dirty }) touch h).1 tt
  may_move-rec (Clean address) touch isnt h = absurd (none-some touch h)

  -- cleaning an address changes nothing that the rows show
  entries_cleaned : (address : ℕ) (a : List ARow) → map entry_of (cleaned address a) ≡ map entry_of a
  entries_cleaned address [] = refl
  entries_cleaned address (row ∷ a) =
      ap (λ entry. entry ∷ map entry_of (cleaned address a)) (one_cleaned (row.address == address) row) ∙ ap (λ entries. entry_of row ∷ entries) (entries_cleaned address a)

  rows_cleaned : (address : ℕ) (a : List ARow) → AllByRecursion (RowTells print held s.array) a → AllByRecursion (RowTells print held s.array) (cleaned address a)
  rows_cleaned address [] h = tt
  rows_cleaned address (row ∷ a) h =
      (elim (row.address == address) as (λ t. RowTells print held s.array (cond t (record row { dirty = false }) row)) [ true ↦ h.0 | false ↦ h.0 ], rows_cleaned address a h.1)

  pub shows-cleaned : (address : ℕ) → Shows print held (record table { a = cleaned address table.a }) count s
  shows-cleaned address = record {
    blocks = shows.blocks;
    distinct = shows.distinct;
    nonzero = shows.nonzero;
    addresses = shows.addresses ∙ sym (entries_cleaned address table.a);
    counted = shows.counted;
    b_prints = shows.b_prints;
    a_rows = rows_cleaned address table.a shows.a_rows;
  }

-- rows that fit link to listed slots
listed_of : (b : List BRow) (slot : ℕ) (fp : List ℕ) → slot_fits b (links.Slot slot) fp ≡ true → has_slot slot b ≡ true
listed_of [] slot fp h = h
listed_of (row ∷ b) slot fp h =
    elim (row.slot == slot) as (λ t. (t && bytes_eq row.fp.0 fp || slot_fits b (links.Slot slot) fp) ≡ true → (t || has_slot slot b) ≡ true) [
      | true ↦ λ here. refl
      | false ↦ λ there. listed_of b slot fp there
    ] h

link_listed : (b : List BRow) (link : Link) (fp : List ℕ) → slot_fits b link fp ≡ true → IsListedLink b link
link_listed b links.Lost fp h = tt
link_listed b (links.Slot slot) fp h = listed_of b slot fp h
link_listed b links.Zero fp h = tt

pub links_listed : (b : List BRow) (a : List ARow) → AllByRecursion (λ row. IsTrue (link_fits b row)) a → AllByRecursion (λ (row : ARow). IsListedLink b row.link) a
links_listed b [] h = tt
links_listed b (row ∷ a) h = (link_listed b row.link row.fp.0 h.0, links_listed b a h.1)

pub links-fit : (table : Table) → RowsFit table → AllByRecursion (λ (row : ARow). IsListedLink table.b row.link) table.a
links-fit table fit = links_listed table.b table.a fit.links
