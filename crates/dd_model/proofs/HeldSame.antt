-- Rows read only the slots that are listed.
use Rattle.std.proofs.Common.{◌≡◌, ℕ, true, List, [], ◌∷◌, map, refl, ap, sym, ◌∙◌}
use Rattle.std.specs.List.{AllByRecursion}
use Rattle.dd_block.specs.declared.print.Fp.{Fp}
use Rattle.dd_record.specs.declared.row.ARow.{ARow}
use Rattle.dd_record.specs.declared.row.BRow.{BRow}
use Rattle.dd_record.specs.declared.row.Link.{Link}
use Rattle.dd_record.specs.declared.row.Link.TheVariants.{Lost, Slot, Zero}
use Rattle.dd_record.specs.Table.{Table, has_slot}
use Rattle.dd_model.specs.State.{Sizes, State, content}
use Rattle.dd_model.specs.Rows.{held_block, LinkTells, RowTells, Shows}
use Rattle.dd_model.proofs.Slots.{slot_front, slot_behind}
use Rattle.dd_model.proofs.CutLinks.{IsListedLink}
use Rattle.dd_model.proofs.Carried.{Carries}

module _ (print : List ℕ → Fp) (held held' : ℕ → List ℕ) where
  -- the listed slots hold the same
  abbrev pub HoldSame : List BRow → Type 0
  HoldSame b = (slot : ℕ) → has_slot slot b ≡ true → held slot ≡ held' slot

  behind : (row : BRow) (b : List BRow) → HoldSame (row ∷ b) → HoldSame b
  behind row b same slot h = same slot (slot_behind row slot b h)

  blocks_same : (b : List BRow) → HoldSame b → map (held_block held) b ≡ map (held_block held') b
  blocks_same [] same = refl
  blocks_same (row ∷ b) same =
      ap (λ block. block ∷ map (held_block held) b) (same row.slot (slot_front row b)) ∙ ap (λ blocks. held' row.slot ∷ blocks) (blocks_same b (behind row b same))

  prints_same : (b : List BRow) → HoldSame b → AllByRecursion (λ (row : BRow). row.fp ≡ print (held row.slot)) b → AllByRecursion (λ (row : BRow). row.fp ≡ print (held' row.slot)) b
  prints_same [] same h = tt
  prints_same (row ∷ b) same h = (h.0 ∙ ap print (same row.slot (slot_front row b)), prints_same b (behind row b same) h.1)

  tells_same : (b : List BRow) → HoldSame b → (block : List ℕ) (link : Link) (fp : Fp) → IsListedLink b link → LinkTells print held block link fp → LinkTells print held' block link fp
  tells_same b same block Lost fp listed tells = tells
  tells_same b same block (Slot slot) fp listed tells = (sym (same slot listed) ∙ tells.0, tells.1)
  tells_same b same block Zero fp listed tells = tells

  rows_same : (array : List (List ℕ)) (b : List BRow) → HoldSame b → (a : List ARow) → AllByRecursion (λ (row : ARow). IsListedLink b row.link) a
      → AllByRecursion (RowTells print held array) a → AllByRecursion (RowTells print held' array) a
  rows_same array b same [] listed h = tt
  rows_same array b same (row ∷ a) listed h =
      (tells_same b same (content array row.address) row.link row.fp listed.0 h.0, rows_same array b same a listed.1 h.1)

  -- so the rows show the same state where other slots are written
  pub shows-same : (table : Table) (count : ℕ) (s : State) → HoldSame table.b → AllByRecursion (λ (row : ARow). IsListedLink table.b row.link) table.a
      → Shows print held table count s → Shows print held' table count s
  shows-same table count s same listed shows = record {
    blocks = shows.blocks ∙ blocks_same table.b same;
    distinct = shows.distinct;
    nonzero = shows.nonzero;
    addresses = shows.addresses;
    counted = shows.counted;
    b_prints = prints_same table.b same shows.b_prints;
    a_rows = rows_same s.array table.b same table.a listed shows.a_rows;
  }

  pub carries-same : (sizes : Sizes) (table : Table) (count : ℕ) (s : State) → HoldSame table.b → Carries print held sizes table count s → Carries print held' sizes table count s
  carries-same sizes table count s same carries = record {
    shows = shows-same table count s same carries.listed carries.shows;
    rules = carries.rules;
    listed = carries.listed;
    dirty_linked = carries.dirty_linked;
  }
