use Rattle.std.proofs.Common.{◌≤◌, length, ap, subst, arith}
use Rattle.dd_block.specs.declared.geometry.Geometry.{Geometry}
use Rattle.dd_model.proofs.Restored.{dirty_few}
use Rattle.dd_store.specs.Keeping.{StoreView}
use Rattle.dd_store.specs.Serving.{StoreOf, store_of}
use Rattle.dd_store.proofs.store.Store.keeps_few.Goals as goal

pub returns : goal.returns
returns g c =
    let i = c.self.inside in
    let lists = g.L.Lists.listing i.lists in
    let was : StoreView = store_of i.up i.journal lists i.count i.pending.items i.slots.uses i.laid.items in
    let few : length was.dirty ≤ was.journal.geo.acap = omega (arith, dirty_few lists (g.met.L.Lists.kept i.lists), c.self.invariant.5.acap, ap (λ (geo : Geometry). geo.acap) c.self.invariant.0) in
    subst (λ (v : StoreOf g.row.F.Denot). length v.store.dirty ≤ v.store.journal.geo.acap) c.self.view_is few
