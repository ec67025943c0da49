use Rattle.std.proofs.Common.{◌≡◌, ◌-◌, Some, ◌∙◌, ap, sym, refl, List, Option, length, arith, slice_get}
use Rattle.std.proofs.lemmas.List.{length-map}
use Rattle.dd_block.specs.declared.print.Fp.{Fp}
use Rattle.dd_data.specs.Blocks.{Data, last_row}
use Rattle.dd_data.specs.Matching.{key_of, is_held, print_of, row_at, listed}
use Rattle.dd_data.proofs.Mapped.{no_last}
use Rattle.dd_data.proofs.Shown.{chain_in}
use Rattle.dd_data.proofs.Changing.{in_lists, was_in, last_is, dropped_matches, dropped_view}
use Rattle.dd_data.proofs.cache.DataCache.drop_back.Goals as goal

pub remove-requires : goal.remove-requires
remove-requires c =
    let last : slice_get (listed c.self.inside.recency) (length (listed c.self.inside.recency) - 1) ≡ Some c.in-Some.slot = sym c.back.ensures ∙ c.in-Some.is in
    (key_of (print_of c.self.inside.prints.items c.in-Some.slot), chain_in c.self.invariant c.in-Some.slot _ (was_in c.self.invariant c.in-Some.slot last) refl)

pub unlink-requires : goal.unlink-requires
unlink-requires c =
    let last : slice_get (listed c.self.inside.recency) (length (listed c.self.inside.recency) - 1) ≡ Some c.in-Some.slot = sym c.back.ensures ∙ c.in-Some.is in
    in_lists c.self.invariant c.in-Some.slot (was_in c.self.invariant c.in-Some.slot last)

pub row_at-row-requires : goal.row_at-row-requires
row_at-row-requires c =
    let last : slice_get (listed c.self.inside.recency) (length (listed c.self.inside.recency) - 1) ≡ Some c.in-Some.slot = sym c.back.ensures ∙ c.in-Some.is in
    ap (λ (l : List (Option Fp)). is_held l c.in-Some.slot) c.deref.ensures.value ∙ c.self.invariant.held c.in-Some.slot ∙ was_in c.self.invariant c.in-Some.slot last

pub invariant_of-self : goal.invariant_of-self
invariant_of-self c =
    let last : slice_get (listed c.self.inside.recency) (length (listed c.self.inside.recency) - 1) ≡ Some c.in-Some.slot = sym c.back.ensures ∙ c.in-Some.is in
    dropped_matches c.self.invariant c.in-Some.slot last c.unlink.new.self c.remove.new.self c.unlink.ensures c.remove.ensures

pub unreachable-requires : goal.unreachable-requires
unreachable-requires c =
    let none : length (listed c.self.inside.recency) ≡ 0 = no_last (listed c.self.inside.recency) (sym c.back.ensures ∙ c.in-None.is) in
    let size : length c.args.self.now.rows ≡ length (listed c.self.inside.recency) = sym (ap (λ (d : Data). length d.rows) c.self.view_is) ∙ length-map (listed c.self.inside.recency) (row_at c.self.inside.prints.items) in
    omega (arith, none, size, c.requires)

pub returns-clause-row : goal.returns-clause-row
returns-clause-row c =
    let last : slice_get (listed c.self.inside.recency) (length (listed c.self.inside.recency) - 1) ≡ Some c.in-Some.slot = sym c.back.ensures ∙ c.in-Some.is in
    sym (ap (λ (d : Data). last_row d.rows) c.self.view_is)
    ∙ last_is c.self.invariant c.in-Some.slot last
    ∙ ap Some (sym (c.row_at-row.ensures ∙ ap (λ (l : List (Option Fp)). row_at l c.in-Some.slot) c.deref.ensures.value))

pub returns-clause-after : goal.returns-clause-after
returns-clause-after c =
    let last : slice_get (listed c.self.inside.recency) (length (listed c.self.inside.recency) - 1) ≡ Some c.in-Some.slot = sym c.back.ensures ∙ c.in-Some.is in
    dropped_view c.self.invariant c.in-Some.slot last c.args.self.now c.unlink.new.self c.unlink.ensures c.self.view_is
