use Rattle.std.proofs.Common.{◌≡◌, ◌∙◌, ap, sym, true, List, Option, option_map}
use Rattle.dd_block.specs.declared.print.Fp.{Fp}
use Rattle.dd_lists.proofs.Found.{if_some, got_in_list}
use Rattle.dd_data.specs.Blocks.{Data, last_row}
use Rattle.dd_data.specs.Matching.{is_held, row_at, listed}
use Rattle.dd_data.proofs.Shown.{last_rows}
use Rattle.dd_data.proofs.cache.DataCache.last.Goals as goal

pub row_of-requires : goal.row_of-requires
row_of-requires c =
    if_some c.back.result (λ m. is_held c.deref.result.now m ≡ true) (λ m e.
    ap (λ (l : List (Option Fp)). is_held l m) c.deref.ensures.value ∙ c.self.invariant.held m ∙ got_in_list m _ (listed c.self.inside.recency) (sym c.back.ensures ∙ e))

pub returns : goal.returns
returns c =
    c.row_of.ensures
    ∙ ap (λ (l : List (Option Fp)). option_map (row_at l) c.back.result) c.deref.ensures.value
    ∙ ap (option_map (row_at c.self.inside.prints.items)) c.back.ensures
    ∙ sym (last_rows c.self.inside.prints.items (listed c.self.inside.recency))
    ∙ ap (λ (d : Data). last_row d.rows) c.self.view_is
