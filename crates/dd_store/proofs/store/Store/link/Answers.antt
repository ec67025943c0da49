use Rattle.std.proofs.Common.{refl, subst}
use Rattle.dd_model.specs.Listing.{IsListing}
use Rattle.dd_store.specs.Keeping.{StoreView}
use Rattle.dd_store.specs.Referring.{listing_in}
use Rattle.dd_store.specs.Serving.{StoreOf, store_of}
use Rattle.dd_store.proofs.Known.{known_listing}
use Rattle.dd_store.proofs.store.Store.link.Goals as goal

pub returns-in-None-clause-listing : goal.returns-in-None-clause-listing
returns-in-None-clause-listing g c =
    let i = c.self.inside in
    let lists = g.L.Lists.listing i.lists in
    let was : StoreView = store_of i.up i.journal lists i.count i.pending.items i.slots.uses i.laid.items in
    subst (λ (v : StoreOf g.row.F.Denot). IsListing (listing_in v.store)) c.self.view_is (known_listing i.geo lists was c.self.invariant.5 c.self.invariant.0 refl refl (g.met.L.Lists.kept i.lists))

pub returns-in-Some-clause-listing : goal.returns-in-Some-clause-listing
returns-in-Some-clause-listing g c =
    let i = c.self.inside in
    let lists = g.L.Lists.listing i.lists in
    let was : StoreView = store_of i.up i.journal lists i.count i.pending.items i.slots.uses i.laid.items in
    subst (λ (v : StoreOf g.row.F.Denot). IsListing (listing_in v.store)) c.self.view_is (known_listing i.geo lists was c.self.invariant.5 c.self.invariant.0 refl refl (g.met.L.Lists.kept i.lists))
