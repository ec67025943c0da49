use Rattle.std.proofs.Common.{◌≡◌, true, false, List, Option, Some, None, ◌∙◌, ap, sym, option_map}
use Rattle.std.specs.Prelude.{slice_get, filter, ◌&&◌}
use Rattle.std.proofs.lemmas.Bool.{and_parts}
use Rattle.dd_block.specs.declared.print.Fp.{Fp}
use Rattle.dd_record.specs.Listed.{b_walk}
use Rattle.dd_lists.proofs.Found.{behind_in_list}
use Rattle.dd_index.specs.Index.{nodes_of}
use Rattle.dd_index.specs.Chains.{from_on}
use Rattle.dd_index.proofs.Under.{on_some}
use Rattle.dd_data.specs.Blocks.{Data, alike}
use Rattle.dd_data.specs.Matching.{key_of, is_held, row_at, has_print}
use Rattle.dd_data.proofs.Shown.{held_in, chain_distinct, chain_held, like_in, first_candidate, next_candidate, no_candidate}
use Rattle.dd_data.proofs.cache.DataCache.candidate.Goals as goal

pub seek-requires-clause-distinct : goal.seek-requires-clause-distinct
seek-requires-clause-distinct c = chain_distinct c.self.invariant (key_of c.args.fp)

pub seek-requires-clause-held : goal.seek-requires-clause-held
seek-requires-clause-held c =
    λ slot h.
    ap (λ (l : List (Option Fp)). is_held l slot) c.deref.ensures.value ∙ chain_held c.self.invariant (key_of c.args.fp) slot h

pub next_same-requires : goal.next_same-requires
next_same-requires c =
    let both : (is_held c.deref-in-Some.result.now c.in-Some.slot && has_print c.deref-in-Some.result.now c.args.fp c.in-Some.slot) ≡ true = sym c.is_listed_as.ensures ∙ c.if-is_listed_as.true in
    let parts = and_parts _ _ both in
    let here = held_in c.self.invariant c.in-Some.slot (ap (λ (l : List (Option Fp)). is_held l c.in-Some.slot) (sym c.deref-in-Some.ensures.value) ∙ parts.0) in
    (key_of c.args.fp, like_in c.self.invariant c.args.fp c.in-Some.slot here (ap (λ (l : List (Option Fp)). has_print l c.args.fp c.in-Some.slot) (sym c.deref-in-Some.ensures.value) ∙ parts.1))

pub seek-requires-then-is_listed_as-clause-from : goal.seek-requires-then-is_listed_as-clause-from
seek-requires-then-is_listed_as-clause-from c =
    let both : (is_held c.deref-in-Some.result.now c.in-Some.slot && has_print c.deref-in-Some.result.now c.args.fp c.in-Some.slot) ≡ true = sym c.is_listed_as.ensures ∙ c.if-is_listed_as.true in
    let parts = and_parts _ _ both in
    let here = held_in c.self.invariant c.in-Some.slot (ap (λ (l : List (Option Fp)). is_held l c.in-Some.slot) (sym c.deref-in-Some.ensures.value) ∙ parts.0) in
    let there = like_in c.self.invariant c.args.fp c.in-Some.slot here (ap (λ (l : List (Option Fp)). has_print l c.args.fp c.in-Some.slot) (sym c.deref-in-Some.ensures.value) ∙ parts.1) in
    on_some c.next_same.result (nodes_of (key_of c.args.fp) c.self.inside.index) (λ m e. behind_in_list c.in-Some.slot m _ (sym (c.next_same.ensures (key_of c.args.fp) there) ∙ e))

pub seek-requires-then-is_listed_as-clause-distinct : goal.seek-requires-then-is_listed_as-clause-distinct
seek-requires-then-is_listed_as-clause-distinct c = chain_distinct c.self.invariant (key_of c.args.fp)

pub seek-requires-then-is_listed_as-clause-held : goal.seek-requires-then-is_listed_as-clause-held
seek-requires-then-is_listed_as-clause-held c =
    λ slot h.
    ap (λ (l : List (Option Fp)). is_held l slot) c.deref-then-is_listed_as.ensures.value ∙ chain_held c.self.invariant (key_of c.args.fp) slot h

pub returns-in-None : goal.returns-in-None
returns-in-None c =
    c.seek.ensures
    ∙ ap (λ (l : List (Option Fp)). option_map (row_at l) (slice_get (filter (has_print l c.args.fp) (from_on c.first.result (nodes_of (key_of c.args.fp) c.self.inside.index))) 0)) c.deref.ensures.value
    ∙ first_candidate c.self.invariant c.args.fp c.first.result (c.first.ensures ∙ ap (λ key. slice_get (nodes_of key c.self.inside.index) 0) c.key_of.ensures)
    ∙ ap (λ (d : Data). b_walk None (alike c.args.fp d.rows)) c.self.view_is
    ∙ sym (ap (λ o. b_walk o (alike c.args.fp c.args.self.now.rows)) c.in-None.is)

pub returns-then-is_listed_as : goal.returns-then-is_listed_as
returns-then-is_listed_as c =
    let both : (is_held c.deref-in-Some.result.now c.in-Some.slot && has_print c.deref-in-Some.result.now c.args.fp c.in-Some.slot) ≡ true = sym c.is_listed_as.ensures ∙ c.if-is_listed_as.true in
    let parts = and_parts _ _ both in
    let here = held_in c.self.invariant c.in-Some.slot (ap (λ (l : List (Option Fp)). is_held l c.in-Some.slot) (sym c.deref-in-Some.ensures.value) ∙ parts.0) in
    let passes = ap (λ (l : List (Option Fp)). has_print l c.args.fp c.in-Some.slot) (sym c.deref-in-Some.ensures.value) ∙ parts.1 in
    let there = like_in c.self.invariant c.args.fp c.in-Some.slot here passes in
    c.seek-then-is_listed_as.ensures
    ∙ ap (λ (l : List (Option Fp)). option_map (row_at l) (slice_get (filter (has_print l c.args.fp) (from_on c.next_same.result (nodes_of (key_of c.args.fp) c.self.inside.index))) 0)) c.deref-then-is_listed_as.ensures.value
    ∙ next_candidate c.self.invariant c.args.fp c.in-Some.slot c.next_same.result here passes (c.next_same.ensures (key_of c.args.fp) there)
    ∙ ap (λ (d : Data). b_walk (Some c.in-Some.slot) (alike c.args.fp d.rows)) c.self.view_is
    ∙ sym (ap (λ o. b_walk o (alike c.args.fp c.args.self.now.rows)) c.in-Some.is)

pub returns-else-is_listed_as : goal.returns-else-is_listed_as
returns-else-is_listed_as c =
    let not_both : (is_held c.self.inside.prints.items c.in-Some.slot && has_print c.self.inside.prints.items c.args.fp c.in-Some.slot) ≡ false =
    ap (λ (l : List (Option Fp)). is_held l c.in-Some.slot && has_print l c.args.fp c.in-Some.slot) (sym c.deref-in-Some.ensures.value) ∙ sym c.is_listed_as.ensures ∙ c.if-is_listed_as.false in
    sym (no_candidate c.self.invariant c.args.fp c.in-Some.slot not_both)
    ∙ ap (λ (d : Data). b_walk (Some c.in-Some.slot) (alike c.args.fp d.rows)) c.self.view_is
    ∙ sym (ap (λ o. b_walk o (alike c.args.fp c.args.self.now.rows)) c.in-Some.is)
