use Rattle.std.proofs.Common.{◌≡◌, ◌<◌, true, sym, ◌∙◌, ap, subst}
use Rattle.dd_record.specs.Table.{is_dirty, is_dirty_at}
use Rattle.dd_store.specs.Keeping.{StoreView, IsStore}
use Rattle.dd_store.specs.Serving.{StoreOf, store_of}
use Rattle.dd_store.proofs.Marking.{dirty_below}
use Rattle.dd_store.proofs.store.Store.is_dirty.Goals as goal

pub returns-in-Some-clause-below : goal.returns-in-Some-clause-below
returns-in-Some-clause-below g c = λ up dirty.
    let i = c.self.inside in
    let was : StoreView = store_of i.up i.journal (g.L.Lists.listing i.lists) i.count i.pending.items i.slots.uses i.laid.items in
    let is : IsStore was = c.self.invariant.7 (ap (λ (v : StoreOf g.row.F.Denot). v.store.is_up) c.self.view_is ∙ up) in
    let found : is_dirty_at c.args.address was.table.a ≡ true = ap is_dirty (sym c.look.ensures ∙ c.in-Some.is) ∙ dirty in
    subst (λ (v : StoreOf g.row.F.Denot). c.args.address < v.store.journal.geo.blocks) c.self.view_is (dirty_below was.journal.geo was.journal.version c.args.address was.table.a is.rows.a_rows found)
