-- Rows that carry a state carry it behind each step.
use Rattle.std.proofs.Common.{◌≡◌, ℕ, suc, ◌<◌, ◌≤◌, Bool, true, List, length, refl, ap, sym, ◌∙◌, subst, Option}
use Rattle.std.proofs.lemmas.List.{length-map}
use Rattle.std.specs.List.{AllByRecursion, IsDistinct}
use Rattle.dd_block.specs.declared.print.Fp.{Fp}
use Rattle.dd_record.specs.declared.row.ARow.{ARow}
use Rattle.dd_record.specs.declared.row.BRow.{BRow}
use Rattle.dd_record.specs.Table.{Table, RowsFit, empty_table, IsDirtyLinked}
use Rattle.dd_record.specs.Replay.{may_touch, touched}
use Rattle.dd_model.specs.State.{Sizes, State, IsState, fresh}
use Rattle.dd_model.specs.Reference.{reference}
use Rattle.dd_model.specs.Rows.{held_block, Shows}
use Rattle.dd_model.proofs.StateLaws.{state-reference}
use Rattle.dd_model.proofs.CutLinks.{IsListedLink}
use Rattle.dd_model.proofs.RecordLaws.{HasBlock, MayMove, shows-touched, links-touched}
use Rattle.dd_model.proofs.DirtyLinks.{dirty-touched}
use Rattle.dd_model.proofs.Fitting.{fit-shown}

-- the rows show a state that keeps its rules, each link is to a listed slot, and each dirty row is linked
pub record Carries (print : List ℕ → Fp) (held : ℕ → List ℕ) (sizes : Sizes) (table : Table) (count : ℕ) (s : State) : Type 0 where
  pub shows : Shows print held table count s
  pub rules : IsState sizes s
  pub listed : AllByRecursion (λ (row : ARow). IsListedLink table.b row.link) table.a
  pub dirty_linked : AllByRecursion IsDirtyLinked table.a

module _ (print : List ℕ → Fp) (held : ℕ → List ℕ) (sizes : Sizes) (table : Table) (count : ℕ) (s : State) (carries : Carries print held sizes table count s) where
  -- they fit
  pub carried-fit : RowsFit table
  carried-fit = fit-shown print held table count s carries.shows carries.listed carries.rules.apart

  -- behind a step that may be they carry the state behind the reference
  pub carried-touched : (address : ℕ) (dirty : Bool) (block : Option BRow) (x : List ℕ) → 1 ≤ sizes.bcap → address < sizes.blocks → length x ≡ sizes.block
      → HasBlock held block x → MayMove print held table.b block → may_touch sizes.acap sizes.bcap (record { address = address; block = block; dirty = dirty }) table ≡ true
      → Carries print held sizes (touched sizes.acap sizes.bcap (record { address = address; block = block; dirty = dirty }) table) (suc count) (reference sizes s address x)
  carried-touched address dirty block x room below long has may touch =
      let inside : address < length s.array = subst (λ n. address < n) (sym carries.rules.array_length) below in
      let short : length table.b ≤ sizes.bcap = subst (λ n. n ≤ sizes.bcap) (ap length carries.shows.blocks ∙ length-map table.b (held_block held)) carries.rules.few_blocks in
      record {
        shows = shows-touched print held sizes s table count carries.shows address dirty inside carries.listed short block x has may;
        rules = state-reference sizes s address x carries.rules below long;
        listed = links-touched print held sizes s table count carries.shows address dirty inside carries.listed short block x has may;
        dirty_linked = dirty-touched sizes.acap sizes.bcap room address dirty table carries.dirty_linked block touch;
      }

-- no rows carry an array with empty lists
pub carried-fresh : (print : List ℕ → Fp) (held : ℕ → List ℕ) (sizes : Sizes) (disk : List (List ℕ)) → IsState sizes (fresh disk) → Carries print held sizes empty_table 0 (fresh disk)
unfolding IsDistinct
carried-fresh print held sizes disk rules = record {
  shows = record { blocks = refl; distinct = tt; nonzero = tt; addresses = refl; counted = refl; b_prints = tt; a_rows = tt };
  rules = rules;
  listed = tt;
  dirty_linked = tt;
}
