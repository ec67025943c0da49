use Rattle.std.proofs.Common.{◌≡◌, ◌∙◌, ap, sym, subst}
use Rattle.std.specs.Prelude.{slice_get, option_and_then}
use Rattle.dd_record.specs.Table.{a_row}
use Rattle.dd_index.specs.Index.{nodes_of}
use Rattle.dd_meta.specs.Entries.{Meta, node_of, row_of, rows_of}
use Rattle.dd_meta.specs.Keeping.{IsMeta}
use Rattle.dd_meta.specs.Matching.{shown}
use Rattle.dd_meta.proofs.Facts.{meta_kept}
use Rattle.dd_meta.proofs.Rows.{found_is, found_row}
use Rattle.dd_meta.proofs.Walking.{find_live}
use Rattle.dd_meta.proofs.meta.MetaCache.find.Goals as goal

pub returns-clause-node : goal.returns-clause-node
returns-clause-node c =
    c.first.ensures ∙ ap (λ key. slice_get (nodes_of key c.self.inside.index) 0) c.from.ensures ∙ found_is c.self.invariant c.args.address ∙ ap (node_of c.args.address) c.self.view_is

pub returns-clause-row : goal.returns-clause-row
returns-clause-row c =
    let node : c.first.result ≡ node_of c.args.address (shown c.self.inside.acap c.self.inside.slots c.self.inside.nodes) =
    c.first.ensures ∙ ap (λ key. slice_get (nodes_of key c.self.inside.index) 0) c.from.ensures ∙ found_is c.self.invariant c.args.address in
    ap (option_and_then (λ n. row_of n c.args.self.now)) node
    ∙ sym (ap (λ m. option_and_then (λ n. row_of n m) (node_of c.args.address (shown c.self.inside.acap c.self.inside.slots c.self.inside.nodes))) c.self.view_is)
    ∙ found_row c.self.invariant c.args.address
    ∙ ap (λ m. a_row c.args.address (rows_of m)) c.self.view_is

pub returns-clause-live : goal.returns-clause-live
returns-clause-live c =
    find_live c.self.invariant c.args.address c.first.result
    (c.first.ensures ∙ ap (λ key. slice_get (nodes_of key c.self.inside.index) 0) c.from.ensures ∙ found_is c.self.invariant c.args.address)
    c.args.self.now c.self.view_is

pub returns-clause-keeps : goal.returns-clause-keeps
returns-clause-keeps c = subst (λ (m : Meta). IsMeta m) c.self.view_is (meta_kept c.self.invariant)
