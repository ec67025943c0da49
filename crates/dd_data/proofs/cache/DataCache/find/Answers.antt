use Rattle.std.proofs.Common.{◌∙◌, ap, sym, List, Option}
use Rattle.dd_block.specs.declared.print.Fp.{Fp}
use Rattle.dd_record.specs.Table.{b_row}
use Rattle.dd_data.specs.Blocks.{Data}
use Rattle.dd_data.specs.Matching.{print_at}
use Rattle.dd_data.proofs.Shown.{found_is, lost_is}
use Rattle.dd_data.proofs.cache.DataCache.find.Goals as goal

pub returns-in-Some : goal.returns-in-Some
returns-in-Some c =
    sym (found_is c.self.invariant c.args.slot c.in-Some.fp (ap (λ (l : List (Option Fp)). print_at l c.args.slot) (sym c.deref.ensures.value) ∙ sym c.print_at.ensures ∙ c.in-Some.is))
    ∙ ap (λ (d : Data). b_row c.args.slot d.rows) c.self.view_is

pub returns-in-None : goal.returns-in-None
returns-in-None c =
    sym (lost_is c.self.invariant c.args.slot (ap (λ (l : List (Option Fp)). print_at l c.args.slot) (sym c.deref.ensures.value) ∙ sym c.print_at.ensures ∙ c.in-None.is))
    ∙ ap (λ (d : Data). b_row c.args.slot d.rows) c.self.view_is
