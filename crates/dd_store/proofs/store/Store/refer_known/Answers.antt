use Rattle.std.proofs.Common.{◌≡◌, ◌+◌, [], ◌∷◌, length, length-append, refl, sym, ◌∙◌, ap, subst, true, Some, arith}
use Rattle.dd_block.specs.declared.geometry.Geometry.{Geometry}
use Rattle.dd_slots.specs.Slots.{SlotsView}
use Rattle.dd_record.specs.Spelling.{IsRec}
use Rattle.dd_record.specs.Replay.{touch_of}
use Rattle.dd_model.specs.Listing.{Listing, IsListing, IsGiven, touch_by, may_refer, want_of}
use Rattle.dd_store.specs.Bringing.{IsPrepared}
use Rattle.dd_store.specs.Keeping.{StoreView, IsStore}
use Rattle.dd_store.specs.Referring.{RecordFits, referred_store, listing_in}
use Rattle.dd_store.specs.Saving.{AreSlotsOf}
use Rattle.dd_store.specs.Serving.{StoreOf, store_of, HasLimits}
use Rattle.dd_store.proofs.Known.{cut_is_used, known_store, known_listing, let_go_placed, listing_same}
use Rattle.dd_store.proofs.Prepared.{room_may, fits_prepared}
use Rattle.dd_store.proofs.Referred.{referred_is}
use Rattle.dd_store.proofs.store.Store.refer_known.Goals as goal

pub refer-requires-clause-clean : goal.refer-requires-clause-clean
refer-requires-clause-clean g c =
    let i = c.self.inside in
    let lists = g.L.Lists.listing i.lists in
    let was : StoreView = store_of i.up i.journal lists i.count i.pending.items i.slots.uses i.laid.items in
    let same : lists ≡ listing_in was = listing_same i.geo lists was c.self.invariant.5 c.self.invariant.0 refl refl in
    let listing : IsListing (listing_in was) = known_listing i.geo lists was c.self.invariant.5 c.self.invariant.0 refl refl (g.met.L.Lists.kept i.lists) in
    let is_given : IsGiven (listing_in was) c.args.block = subst (λ (v : StoreOf g.row.F.Denot). IsGiven (listing_in v.store) c.args.block) (sym c.self.view_is) c.requires.given in
    let prepared : IsPrepared c.args.address (want_of c.args.block) was = subst (λ (v : StoreOf g.row.F.Denot). IsPrepared c.args.address (want_of c.args.block) v.store) (sym c.self.view_is) c.requires.prepared in
    subst (λ (l : Listing). may_refer (touch_by c.args.address c.args.block c.args.dirty l) l ≡ true) (sym same) (room_may was listing c.args.address c.args.block c.args.dirty is_given prepared.room)

pub refer-requires-clause-used : goal.refer-requires-clause-used
refer-requires-clause-used g c =
    let i = c.self.inside in
    let was : StoreView = store_of i.up i.journal (g.L.Lists.listing i.lists) i.count i.pending.items i.slots.uses i.laid.items in
    let is : IsStore was = c.self.invariant.7 (ap (λ (v : StoreOf g.row.F.Denot). v.store.is_up) c.self.view_is ∙ c.requires.up) in
    cut_is_used was is (g.L.Lists.listing i.lists).bcap c.args.block c.requires.known

pub returns-clause-fits : goal.returns-clause-fits
returns-clause-fits g c =
    let i = c.self.inside in
    let lists = g.L.Lists.listing i.lists in
    let was : StoreView = store_of i.up i.journal lists i.count i.pending.items i.slots.uses i.laid.items in
    let listing : IsListing (listing_in was) = known_listing i.geo lists was c.self.invariant.5 c.self.invariant.0 refl refl (g.met.L.Lists.kept i.lists) in
    let whole : IsListing (listing_in c.args.self.now.store) = subst (λ (v : StoreOf g.row.F.Denot). IsListing (listing_in v.store)) c.self.view_is listing in
    fits_prepared c.args.self.now.store whole c.args.its c.args.address c.args.block c.args.dirty c.requires.given c.requires.prepared.room c.requires.raised c.requires.touches

pub invariant_of-self : goal.invariant_of-self
invariant_of-self g c =
    let i = c.self.inside in
    let lists = g.L.Lists.listing i.lists in
    let was : StoreView = store_of i.up i.journal lists i.count i.pending.items i.slots.uses i.laid.items in
    let prepared : IsPrepared c.args.address (want_of c.args.block) was = subst (λ (v : StoreOf g.row.F.Denot). IsPrepared c.args.address (want_of c.args.block) v.store) (sym c.self.view_is) c.requires.prepared in
    let limits : HasLimits i.geo lists = c.self.invariant.5 in (
      c.self.invariant.0,
      c.self.invariant.1,
      omega (arith, c.self.invariant.2, c.clear.ensures.capacity),
      omega (arith, c.self.invariant.3, c.refer.ensures.capacity),
      subst (λ (v : SlotsView). AreSlotsOf i.geo v) (sym c.refer.ensures.slots) (let_go_placed i.geo i.slots _ c.self.invariant.4),
      subst (λ (l : Listing). HasLimits i.geo l) (sym c.refer.ensures.lists) (record { acap = limits.acap; bcap = limits.bcap; slots = limits.slots }),
      omega (arith, ap length c.clear.ensures.items),
      λ up.
          let is : IsStore was = c.self.invariant.7 up in
          let acap : lists.acap ≡ i.journal.geo.acap = limits.acap ∙ ap (λ (geo : Geometry). geo.acap) (sym c.self.invariant.0) in
          let bcap : lists.bcap ≡ i.journal.geo.bcap = limits.bcap ∙ ap (λ (geo : Geometry). geo.bcap) (sym c.self.invariant.0) in
          let listing : IsListing (listing_in was) = known_listing i.geo lists was limits c.self.invariant.0 refl refl (g.met.L.Lists.kept i.lists) in
          let is_given : IsGiven (listing_in was) c.args.block = subst (λ (v : StoreOf g.row.F.Denot). IsGiven (listing_in v.store) c.args.block) (sym c.self.view_is) c.requires.given in
          let fits : RecordFits was c.args.its (touch_by c.args.address c.args.block c.args.dirty (listing_in was)) =
          fits_prepared was listing c.args.its c.args.address c.args.block c.args.dirty is_given prepared.room c.requires.raised
          (subst (λ (v : StoreOf g.row.F.Denot). touch_of c.args.its v.store.table ≡ Some (touch_by c.args.address c.args.block c.args.dirty (listing_in v.store))) (sym c.self.view_is) c.requires.touches) in
          let right : IsRec was.journal.geo was.journal.version c.args.its =
          subst (λ n. IsRec was.journal.geo n c.args.its) (sym is.version) (subst (λ (v : StoreOf g.row.F.Denot). IsRec v.store.journal.geo 2 c.args.its) (sym c.self.view_is) c.requires.record) in
          subst (λ (v : StoreView). IsStore v)
          (sym (known_store i.up i.journal lists i.count i.pending.items i.slots.uses i.laid.items is c.args.its c.args.address c.args.block c.args.dirty c.requires.known acap bcap
          (g.L.Lists.listing c.refer.new.lists) (i.count + 1) c.refer.new.pending.items c.refer.new.slots.uses c.clear.new.self.items
          c.refer.ensures.lists (omega arith) c.refer.ensures.pending (ap (λ (v : SlotsView). v.uses) c.refer.ensures.slots) c.clear.ensures.items))
          (referred_is was is c.args.its (touch_by c.args.address c.args.block c.args.dirty (listing_in was)) fits right prepared.free),
      omega (arith, ap length c.refer.ensures.pending, length-append i.pending.items (c.args.its ∷ []), prepared.free, ap (λ (geo : Geometry). geo.group) c.self.invariant.0),
    )

pub returns-clause-store : goal.returns-clause-store
returns-clause-store g c =
    let i = c.self.inside in
    let lists = g.L.Lists.listing i.lists in
    let was : StoreView = store_of i.up i.journal lists i.count i.pending.items i.slots.uses i.laid.items in
    let limits : HasLimits i.geo lists = c.self.invariant.5 in
    let is : IsStore was = c.self.invariant.7 (ap (λ (v : StoreOf g.row.F.Denot). v.store.is_up) c.self.view_is ∙ c.requires.up) in
    let acap : lists.acap ≡ i.journal.geo.acap = limits.acap ∙ ap (λ (geo : Geometry). geo.acap) (sym c.self.invariant.0) in
    let bcap : lists.bcap ≡ i.journal.geo.bcap = limits.bcap ∙ ap (λ (geo : Geometry). geo.bcap) (sym c.self.invariant.0) in
    known_store i.up i.journal lists i.count i.pending.items i.slots.uses i.laid.items is c.args.its c.args.address c.args.block c.args.dirty c.requires.known acap bcap
    (g.L.Lists.listing c.refer.new.lists) (i.count + 1) c.refer.new.pending.items c.refer.new.slots.uses c.clear.new.self.items
    c.refer.ensures.lists (omega arith) c.refer.ensures.pending (ap (λ (v : SlotsView). v.uses) c.refer.ensures.slots) c.clear.ensures.items
    ∙ ap (λ (v : StoreOf g.row.F.Denot). referred_store c.args.its (touch_by c.args.address c.args.block c.args.dirty (listing_in v.store)) v.store) c.self.view_is

pub returns-clause-keeps : goal.returns-clause-keeps
returns-clause-keeps g c =
    let i = c.self.inside in
    let was : StoreView = store_of i.up i.journal (g.L.Lists.listing i.lists) i.count i.pending.items i.slots.uses i.laid.items in
    subst (λ (v : StoreOf g.row.F.Denot). IsStore v.store) c.self.view_is (c.self.invariant.7 (ap (λ (v : StoreOf g.row.F.Denot). v.store.is_up) c.self.view_is ∙ c.requires.up))
