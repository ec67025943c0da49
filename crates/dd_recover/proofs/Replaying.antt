-- Rows, and the records that are applied to them one after the other.
use Rattle.std.proofs.Common.{◌≡◌, ℕ, zero, suc, ◌+◌, ◌<◌, ◌==◌, Bool, true, false, cond, List, [], ◌∷◌, ◌++◌, length, get_or, refl, sym, ◌∙◌, ap, subst, arith, Some, None}
use Rattle.std.specs.Prelude.{◌||◌, IsTrue}
use Rattle.std.specs.List.{AllByRecursion, flat_map}
use Rattle.std.proofs.lemmas.Bool.{eqb-true}
use Rattle.std.proofs.lemmas.List.{map-append}
use Rattle.dd_block.specs.declared.geometry.Geometry.{Geometry}
use Rattle.dd_record.specs.declared.rec.Rec.{Rec}
use Rattle.dd_record.specs.Spelling.{IsVersion}
use Rattle.dd_record.specs.Table.{Table, RowsFit}
use Rattle.dd_record.specs.Replay.{replay}
use Rattle.dd_record.proofs.Replayed.{AreListed, replay_listed}
use Rattle.dd_model.specs.Applying.{IsSlotBelow}
use Rattle.dd_model.specs.Listing.{Listing, empty_listing, restored}
use Rattle.dd_journal.specs.declared.found.Found.{Found}
use Rattle.dd_journal.specs.declared.found.Placed.{Placed}
use Rattle.dd_journal.specs.Found.{IsFound, found_table, found_records}
use Rattle.dd_journal.specs.Logged.{placed_from, placed_groups}
use Rattle.dd_journal.specs.Regions.{AreRows, group_size}
use Rattle.dd_recover.specs.declared.opening_fault.OpenFault.TheVariants.{Version1}
use Rattle.dd_recover.specs.Opening.{version_fault}
use Rattle.dd_recover.specs.Stages.{recs_of}

-- the slot of each record of a list
below_at : (slots : ℕ) (recs : List Placed) (i : ℕ) (other : Placed) → i < length recs → AllByRecursion (λ rec. IsSlotBelow slots rec) (recs_of recs) → IsSlotBelow slots (get_or recs i other).rec
below_at slots [] i other lt below = absurd (omega arith)
below_at slots (placed ∷ recs) zero other lt below = below.0
below_at slots (placed ∷ recs) (suc i) other lt below = below_at slots recs i other (omega arith) below.1

pub below_in : (slots now : ℕ) (recs : List Placed) (i : ℕ) (other : Placed) → now ≡ slots → i < length recs → AllByRecursion (λ rec. IsSlotBelow slots rec) (recs_of recs) → IsSlotBelow now (get_or recs i other).rec
below_in slots now recs i other same lt below = subst (λ (n : ℕ). IsSlotBelow n (get_or recs i other).rec) (sym same) (below_at slots recs i other lt below)

-- the records of groups, without their places
recs_placed : (at : ℕ) (recs : List Rec) → recs_of (placed_from at recs) ≡ recs
recs_placed at [] = refl
recs_placed at (rec ∷ recs) = ap (λ (l : List Rec). rec ∷ l) (recs_placed (at + 48) recs)

pub records_placed : (at : ℕ) (groups : List (List Rec)) → recs_of (placed_groups at groups) ≡ flat_map (λ (g : List Rec). g) groups
records_placed at [] = refl
records_placed at (g ∷ groups) =
    map-append (λ (p : Placed). p.rec) (placed_from (at + 5) g) (placed_groups (at + group_size (length g)) groups)
    ∙ ap (λ (l : List Rec). l ++ recs_of (placed_groups (at + group_size (length g)) groups)) (recs_placed (at + 5) g)
    ∙ ap (λ (l : List Rec). g ++ l) (records_placed (at + group_size (length g)) groups)

-- of two versions the one that isn't refused
pub version_two : (version : ℕ) → IsVersion version → version_fault version ≡ None → version ≡ 2
version_two version is none = by_test (version == 1) (version == 2) refl is none
  where
    by_test : (one two : Bool) → (version == 2) ≡ two → IsTrue (one || two) → cond one (Some Version1) None ≡ None → version ≡ 2
    by_test true two second is none = absurd (cc none)
    by_test false true second is none = eqb-true version 2 second
    by_test false false second is none = absurd (cc is)

-- the rows behind records that were found keep their rules
pub rows_behind : (geo : Geometry) (found : Found) (after : Table) → IsFound geo found → found.head.version ≡ 2 → RowsFit (found_table found)
    → replay geo.acap geo.bcap (found_records found) (found_table found) ≡ Some after → AreRows geo 2 after
rows_behind geo found after is version fit replayed =
    let listed : AreListed geo found.head.version (found_table found) = record {
      fit = fit;
      b_rows = is.b_rows;
      a_rows = is.a_rows;
      len_b = omega (arith, is.len_b, is.head.len_b);
      len_a = omega (arith, is.len_a, is.head.len_a);
    } in
    let behind = replay_listed geo found.head.version (found_records found) (found_table found) after is.recs listed replayed in
    subst (λ (v : ℕ). AreRows geo v after) version (record { b_rows = behind.b_rows; a_rows = behind.a_rows; len_b = behind.len_b; len_a = behind.len_a })

-- the same of lists that were filled with the rows that were found
pub restored_behind : (geo : Geometry) (found : Found) (slots : ℕ) (lists : Listing) (recs : List Placed) (after : Table) → IsFound geo found → version_fault found.head.version ≡ None → RowsFit lists.table
    → lists ≡ restored (found_table found) (empty_listing geo.acap geo.bcap slots) → recs ≡ found.recs.items → replay lists.acap lists.bcap (recs_of recs) lists.table ≡ Some after → AreRows geo 2 after
restored_behind geo found slots lists recs after is version fit same all replayed =
    rows_behind geo found after is (version_two found.head.version is.head.version version) (subst RowsFit (ap (λ (l : Listing). l.table) same) fit)
    (subst (λ (l : Listing). replay l.acap l.bcap (found_records found) l.table ≡ Some after) same
    (subst (λ (rs : List Placed). replay lists.acap lists.bcap (recs_of rs) lists.table ≡ Some after) all replayed))
