use Rattle.std.proofs.Common.{◌≡◌, ◌⊎◌, ◌≤◌, length, sym, ◌∙◌, ap, subst, arith}
use Rattle.dd_block.specs.declared.geometry.Geometry.{Geometry}
use Rattle.dd_layout.specs.Layout.{slot_block}
use Rattle.dd_record.specs.Table.{RowsFit}
use Rattle.dd_model.specs.declared.orphans.Orphans.{Orphans}
use Rattle.dd_model.specs.Orphans.{orphans_of, orphaned_addresses, orphaned_blocks}
use Rattle.dd_model.proofs.Orphaned.{orphans_shown}
use Rattle.dd_store.specs.Serving.{StoreOf}
use Rattle.dd_store.proofs.Aligned.{one_none}
use Rattle.dd_store.proofs.store.Store.orphans.Goals as goal

pub returns-clause-state : goal.returns-clause-state
returns-clause-state g c = λ world s holds.
    let print = g.F.Fingerprint.printed c.args.self.now.print in
    let store = c.args.self.now.store in
    let kept = g.met.L.Lists.kept c.self.inside.lists in
    let fit : RowsFit store.table = subst (λ (v : StoreOf g.row.F.Denot). RowsFit v.store.table) c.self.view_is kept.fit in
    let counted : c.orphans.result ≡ orphans_of store.table = c.orphans.ensures ∙ ap (λ (v : StoreOf g.row.F.Denot). orphans_of v.store.table) c.self.view_is in
    counted ∙ orphans_shown print (slot_block store.journal.geo world.flash.shown) store.table store.count s holds.means.lists fit

pub returns-clause-aligned : goal.returns-clause-aligned
returns-clause-aligned g c = λ world s holds aligned.
    let print = g.F.Fingerprint.printed c.args.self.now.print in
    let store = c.args.self.now.store in
    let i = c.self.inside in
    let lists = g.L.Lists.listing i.lists in
    let kept = g.met.L.Lists.kept i.lists in
    let fit : RowsFit store.table = subst (λ (v : StoreOf g.row.F.Denot). RowsFit v.store.table) c.self.view_is kept.fit in
    let counted : c.orphans.result ≡ orphans_of store.table = c.orphans.ensures ∙ ap (λ (v : StoreOf g.row.F.Denot). orphans_of v.store.table) c.self.view_is in
    let few_inside : length lists.table.b ≤ i.journal.geo.bcap = omega (arith, kept.b_few, c.self.invariant.5.bcap, ap (λ (geo : Geometry). geo.bcap) c.self.invariant.0) in
    let few : length store.table.b ≤ store.journal.geo.bcap = subst (λ (v : StoreOf g.row.F.Denot). length v.store.table.b ≤ v.store.journal.geo.bcap) c.self.view_is few_inside in
    let is : c.orphans.result ≡ record { a = orphaned_addresses s; b = orphaned_blocks s } = counted ∙ orphans_shown print (slot_block store.journal.geo world.flash.shown) store.table store.count s holds.means.lists fit in
    subst (λ (o : Orphans). (o.a ≡ 0) ⊎ (o.b ≡ 0)) (sym is) (one_none print store world s holds few aligned)
