use Rattle.std.proofs.Common.{◌≡◌, ◌∙◌, ap, sym, true, List, Option, Some, None, is_some, option_map}
use Rattle.std.proofs.lemmas.Option.{slice_get-map}
use Rattle.dd_block.specs.declared.print.Fp.{Fp}
use Rattle.dd_record.specs.Listed.{b_walk}
use Rattle.dd_lists.specs.Lists.{is_in}
use Rattle.dd_lists.proofs.Found.{if_some, first_in_list, behind_in_list}
use Rattle.dd_data.specs.Blocks.{Data}
use Rattle.dd_data.specs.Matching.{is_held, row_at, listed}
use Rattle.dd_data.proofs.Shown.{held_in, next_is, next_none}
use Rattle.dd_data.proofs.cache.DataCache.next.Goals as goal

pub row_of-requires : goal.row_of-requires
row_of-requires c =
    if_some c.front.result (λ m. is_held c.deref.result.now m ≡ true) (λ m e.
    ap (λ (l : List (Option Fp)). is_held l m) c.deref.ensures.value ∙ c.self.invariant.held m ∙ first_in_list m (listed c.self.inside.recency) (sym c.front.ensures.first ∙ e))

pub row_of-requires-in-Some-print_at : goal.row_of-requires-in-Some-print_at
row_of-requires-in-Some-print_at c =
    let here : is_in c.in-Some.slot (listed c.self.inside.recency) ≡ true =
    held_in c.self.invariant c.in-Some.slot (ap (λ (l : List (Option Fp)). is_held l c.in-Some.slot) (sym c.deref-in-Some.ensures.value) ∙ ap is_some (sym c.print_at.ensures ∙ c.in-Some-print_at.is)) in
    if_some c.next.result (λ m. is_held c.deref-in-Some-print_at.result.now m ≡ true) (λ m e.
    ap (λ (l : List (Option Fp)). is_held l m) c.deref-in-Some-print_at.ensures.value ∙ c.self.invariant.held m ∙ behind_in_list c.in-Some.slot m (listed c.self.inside.recency) (sym (c.next.ensures 0 here) ∙ e))

pub returns-in-None : goal.returns-in-None
returns-in-None c =
    c.row_of.ensures
    ∙ ap (λ (l : List (Option Fp)). option_map (row_at l) c.front.result) c.deref.ensures.value
    ∙ ap (option_map (row_at c.self.inside.prints.items)) c.front.ensures.first
    ∙ sym (slice_get-map (row_at c.self.inside.prints.items) (listed c.self.inside.recency) 0)
    ∙ ap (λ (d : Data). b_walk None d.rows) c.self.view_is
    ∙ sym (ap (λ o. b_walk o c.args.self.now.rows) c.in-None.is)

pub returns-in-Some-print_at : goal.returns-in-Some-print_at
returns-in-Some-print_at c =
    let here : is_in c.in-Some.slot (listed c.self.inside.recency) ≡ true =
    held_in c.self.invariant c.in-Some.slot (ap (λ (l : List (Option Fp)). is_held l c.in-Some.slot) (sym c.deref-in-Some.ensures.value) ∙ ap is_some (sym c.print_at.ensures ∙ c.in-Some-print_at.is)) in
    c.row_of-in-Some-print_at.ensures
    ∙ ap (λ (l : List (Option Fp)). option_map (row_at l) c.next.result) c.deref-in-Some-print_at.ensures.value
    ∙ ap (option_map (row_at c.self.inside.prints.items)) (c.next.ensures 0 here)
    ∙ next_is c.self.invariant c.in-Some.slot here
    ∙ ap (λ (d : Data). b_walk (Some c.in-Some.slot) d.rows) c.self.view_is
    ∙ sym (ap (λ o. b_walk o c.args.self.now.rows) c.in-Some.is)

pub returns-in-None-print_at : goal.returns-in-None-print_at
returns-in-None-print_at c =
    sym (next_none c.self.invariant c.in-Some.slot (sym (c.self.invariant.held c.in-Some.slot) ∙ ap (λ (l : List (Option Fp)). is_held l c.in-Some.slot) (sym c.deref-in-Some.ensures.value) ∙ ap is_some (sym c.print_at.ensures ∙ c.in-None-print_at.is)))
    ∙ ap (λ (d : Data). b_walk (Some c.in-Some.slot) d.rows) c.self.view_is
    ∙ sym (ap (λ o. b_walk o c.args.self.now.rows) c.in-Some.is)
