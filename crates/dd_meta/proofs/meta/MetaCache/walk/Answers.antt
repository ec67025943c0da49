use Rattle.std.proofs.Common.{◌≡◌, ◌∙◌, ap, sym, Some, None}
use Rattle.std.specs.Prelude.{slice_get, option_map}
use Rattle.dd_record.specs.Listed.{a_walk}
use Rattle.dd_lists.proofs.Members.{listed_from}
use Rattle.dd_index.specs.Index.{nodes_of}
use Rattle.dd_meta.specs.Entries.{rows_of, node_of}
use Rattle.dd_meta.specs.Matching.{row_at, shown}
use Rattle.dd_meta.proofs.Rows.{found_is, first_in, first_is, behind_is, behind_none}
use Rattle.dd_meta.proofs.meta.MetaCache.walk.Goals as goal

pub next-requires : goal.next-requires
next-requires c = listed_from c.in-Some-first.node 0 c.self.inside.nodes.recency (first_in c.self.invariant c.in-Some.listed _ c.in-Some-first.node _ c.first.ensures c.from.ensures c.in-Some-first.is).0

pub returns-in-None : goal.returns-in-None
returns-in-None c =
    c.row_of.ensures ∙ ap (option_map (row_at c.self.inside.nodes)) c.front.ensures.first ∙ first_is c.self.invariant
    ∙ ap (λ m. slice_get (rows_of m) 0) c.self.view_is
    ∙ sym (ap (λ o. a_walk o (rows_of c.args.self.now)) c.in-None.is)

pub returns-in-Some-first : goal.returns-in-Some-first
returns-in-Some-first c =
    let here = first_in c.self.invariant c.in-Some.listed _ c.in-Some-first.node _ c.first.ensures c.from.ensures c.in-Some-first.is in
    c.row_of-in-Some-first.ensures ∙ ap (option_map (row_at c.self.inside.nodes)) (c.next.ensures.next 0 here.0)
    ∙ behind_is c.self.invariant c.in-Some.listed c.in-Some-first.node here.0 here.1
    ∙ ap (λ m. a_walk (Some c.in-Some.listed) (rows_of m)) c.self.view_is
    ∙ sym (ap (λ o. a_walk o (rows_of c.args.self.now)) c.in-Some.is)

pub returns-in-None-first : goal.returns-in-None-first
returns-in-None-first c =
    let node : node_of c.in-Some.listed (shown c.self.inside.acap c.self.inside.slots c.self.inside.nodes) ≡ None =
    sym (found_is c.self.invariant c.in-Some.listed) ∙ ap (λ key. slice_get (nodes_of key c.self.inside.index) 0) (sym c.from.ensures) ∙ sym c.first.ensures ∙ c.in-None-first.is in
    sym (behind_none c.self.invariant c.in-Some.listed node)
    ∙ ap (λ m. a_walk (Some c.in-Some.listed) (rows_of m)) c.self.view_is
    ∙ sym (ap (λ o. a_walk o (rows_of c.args.self.now)) c.in-Some.is)
