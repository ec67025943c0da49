use Rattle.std.proofs.Common.{◌≡◌, ◌⊎◌, inl, ◌<◌, ◌+◌, [], ◌∷◌, length, length-append, refl, sym, ◌∙◌, ap, subst, true, Some, arith, if◌then◌else◌}
use Rattle.std.specs.Prelude.{IfSome}
use Rattle.dd_rig.proofs.Moments.{widens}
use Rattle.dd_block.specs.declared.geometry.Geometry.{Geometry}
use Rattle.dd_slots.specs.declared.usage.Usage.TheVariants.{Used}
use Rattle.dd_slots.specs.Slots.{SlotsView, Takes, is_free, use_of, block_in}
use Rattle.dd_record.specs.declared.row.Link.TheVariants.{Lost}
use Rattle.dd_record.specs.declared.rec.Rec.TheVariants.{Store}
use Rattle.dd_record.specs.Table.{link_at}
use Rattle.dd_record.specs.Replay.{cut_block}
use Rattle.dd_model.specs.declared.given.Block.TheVariants as given
use Rattle.dd_model.specs.declared.given.Want.TheVariants as wants
use Rattle.dd_model.specs.declared.kind.Kind.TheVariants.{Miss, New}
use Rattle.dd_model.specs.Listing.{Listing, touch_by, cut_of, cut_by}
use Rattle.dd_model.specs.Reference.{reference, Tells}
use Rattle.dd_store.specs.Bringing.{IsPrepared, Enters, answer_for}
use Rattle.dd_store.specs.Keeping.{StoreView, IsStore, Kept, is_spare, Holds}
use Rattle.dd_store.specs.Meaning.{sizes_of}
use Rattle.dd_store.specs.Referring.{referred_store, listing_in, let_go}
use Rattle.dd_store.specs.Saving.{AreSlotsOf, HasSlots}
use Rattle.dd_store.specs.Serving.{StoreOf, store_of, HasLimits}
use Rattle.dd_store.proofs.Entered.{entered_is, entered_kept, entered_tells, entered_fits, entered_may, entered_used, given_in, entered_failed, entered_holds}
use Rattle.dd_store.proofs.Fresh.{fresh_store}
use Rattle.dd_store.proofs.Known.{let_go_placed}
use Rattle.dd_store.proofs.Saving.{block_there}
use Rattle.dd_store.proofs.Uses.{spare_below}
use Rattle.dd_store.proofs.store.Store.refer_fresh.Goals as goal

pub invariant_of-self : goal.invariant_of-self
invariant_of-self g c = (
  c.self.invariant.0,
  c.self.invariant.1,
  omega (arith, c.self.invariant.2, c.clear.ensures.capacity),
  c.self.invariant.3,
  c.place_block.ensures.placed c.self.inside.geo c.self.invariant.4,
  c.self.invariant.5,
  omega (arith, ap length c.clear.ensures.items),
  λ up. absurd (cc up),
  c.self.invariant.8,
)

pub refer-requires-clause-block : goal.refer-requires-clause-block
refer-requires-clause-block g c =
    let i = c.self.inside in
    let lists = g.L.Lists.listing i.lists in
    let was : StoreView = store_of i.up i.journal lists i.count i.pending.items i.slots.uses i.laid.items in
    let is : IsStore was = c.self.invariant.7 (ap (λ (v : StoreOf g.row.F.Denot). v.store.is_up) c.self.view_is ∙ c.requires.up) in
    let takes : Takes i.slots c.place_block.new.slots (Some c.in-Some.slot) = subst (Takes i.slots c.place_block.new.slots) c.in-Some.is c.in-Ok.ensures.slot in
    let spare : is_spare c.in-Some.slot i.slots.uses ≡ true = ap is_free takes.0 in
    let prepared : IsPrepared c.args.address wants.Fresh was = subst (λ (v : StoreOf g.row.F.Denot). IsPrepared c.args.address wants.Fresh v.store) (sym c.self.view_is) c.requires.prepared in
    given_in i.up i.journal lists i.count i.pending.items i.slots.uses i.laid.items is i.geo c.self.invariant.5 c.self.invariant.0 (g.met.L.Lists.kept i.lists) c.args.address c.in-Some.slot c.args.fp c.args.dirty prepared spare

pub refer-requires-clause-clean : goal.refer-requires-clause-clean
refer-requires-clause-clean g c =
    let i = c.self.inside in
    let lists = g.L.Lists.listing i.lists in
    let was : StoreView = store_of i.up i.journal lists i.count i.pending.items i.slots.uses i.laid.items in
    let is : IsStore was = c.self.invariant.7 (ap (λ (v : StoreOf g.row.F.Denot). v.store.is_up) c.self.view_is ∙ c.requires.up) in
    let takes : Takes i.slots c.place_block.new.slots (Some c.in-Some.slot) = subst (Takes i.slots c.place_block.new.slots) c.in-Some.is c.in-Ok.ensures.slot in
    let spare : is_spare c.in-Some.slot i.slots.uses ≡ true = ap is_free takes.0 in
    let prepared : IsPrepared c.args.address wants.Fresh was = subst (λ (v : StoreOf g.row.F.Denot). IsPrepared c.args.address wants.Fresh v.store) (sym c.self.view_is) c.requires.prepared in
    entered_may i.up i.journal lists i.count i.pending.items i.slots.uses i.laid.items is i.geo c.self.invariant.5 c.self.invariant.0 (g.met.L.Lists.kept i.lists) c.args.address c.in-Some.slot c.args.fp c.args.dirty prepared spare

pub refer-requires-clause-used : goal.refer-requires-clause-used
refer-requires-clause-used g c =
    let i = c.self.inside in
    let lists = g.L.Lists.listing i.lists in
    let was : StoreView = store_of i.up i.journal lists i.count i.pending.items i.slots.uses i.laid.items in
    let is : IsStore was = c.self.invariant.7 (ap (λ (v : StoreOf g.row.F.Denot). v.store.is_up) c.self.view_is ∙ c.requires.up) in
    let takes : Takes i.slots c.place_block.new.slots (Some c.in-Some.slot) = subst (Takes i.slots c.place_block.new.slots) c.in-Some.is c.in-Ok.ensures.slot in
    let spare : is_spare c.in-Some.slot i.slots.uses ≡ true = ap is_free takes.0 in
    let prepared : IsPrepared c.args.address wants.Fresh was = subst (λ (v : StoreOf g.row.F.Denot). IsPrepared c.args.address wants.Fresh v.store) (sym c.self.view_is) c.requires.prepared in
    subst (λ (v : SlotsView). IfSome (cut_block lists.bcap (Some (record { slot = c.in-Some.slot; fp = c.args.fp })) lists.table.b) (λ row. use_of v row.slot ≡ Some Used)) (sym takes.1)
    (entered_used i.up i.journal lists i.count i.pending.items i.slots.uses i.laid.items is i.geo c.self.invariant.5 c.self.invariant.0 (g.met.L.Lists.kept i.lists) c.args.address c.in-Some.slot c.args.fp c.args.dirty prepared spare)

pub invariant_of-self-in-Some : goal.invariant_of-self-in-Some
invariant_of-self-in-Some g c =
    let i = c.self.inside in
    let lists = g.L.Lists.listing i.lists in
    let was : StoreView = store_of i.up i.journal lists i.count i.pending.items i.slots.uses i.laid.items in
    let is : IsStore was = c.self.invariant.7 (ap (λ (v : StoreOf g.row.F.Denot). v.store.is_up) c.self.view_is ∙ c.requires.up) in
    let takes : Takes i.slots c.place_block.new.slots (Some c.in-Some.slot) = subst (Takes i.slots c.place_block.new.slots) c.in-Some.is c.in-Ok.ensures.slot in
    let spare : is_spare c.in-Some.slot i.slots.uses ≡ true = ap is_free takes.0 in
    let prepared : IsPrepared c.args.address wants.Fresh was = subst (λ (v : StoreOf g.row.F.Denot). IsPrepared c.args.address wants.Fresh v.store) (sym c.self.view_is) c.requires.prepared in
    let anew : (c.args.dirty ≡ true) ⊎ (link_at c.args.address was.table.a ≡ Lost) = subst (λ (v : StoreOf g.row.F.Denot). (c.args.dirty ≡ true) ⊎ (link_at c.args.address v.store.table.a ≡ Lost)) (sym c.self.view_is) c.requires.anew in
    let below : c.args.address < i.journal.geo.blocks = subst (λ (v : StoreOf g.row.F.Denot). c.args.address < v.store.journal.geo.blocks) (sym c.self.view_is) c.requires.below in
    let limits : HasLimits i.geo lists = c.self.invariant.5 in
    let acap : lists.acap ≡ i.journal.geo.acap = limits.acap ∙ ap (λ (geo : Geometry). geo.acap) (sym c.self.invariant.0) in
    let bcap : lists.bcap ≡ i.journal.geo.bcap = limits.bcap ∙ ap (λ (geo : Geometry). geo.bcap) (sym c.self.invariant.0) in
    let after : store_of i.up i.journal (g.L.Lists.listing c.refer.new.lists) (i.count + 1) c.refer.new.pending.items c.refer.new.slots.uses c.clear.new.self.items
    ≡ referred_store (Store c.args.address c.in-Some.slot c.args.fp c.args.dirty) (touch_by c.args.address (given.Fresh (record { slot = c.in-Some.slot; fp = c.args.fp })) c.args.dirty (listing_in was)) was =
    fresh_store i.up i.journal lists i.count i.pending.items i.slots.uses i.laid.items (Store c.args.address c.in-Some.slot c.args.fp c.args.dirty) c.args.address c.in-Some.slot c.args.fp c.args.dirty acap bcap
    (g.L.Lists.listing c.refer.new.lists) (i.count + 1) c.refer.new.pending.items c.refer.new.slots.uses c.clear.new.self.items
    c.refer.ensures.lists (omega arith) c.refer.ensures.pending
    (ap (λ (v : SlotsView). v.uses) c.refer.ensures.slots ∙ ap (λ (v : SlotsView). let_go (cut_of (touch_by c.args.address (given.Fresh (record { slot = c.in-Some.slot; fp = c.args.fp })) c.args.dirty lists) lists).drop v.uses) takes.1) c.clear.ensures.items in (
      c.self.invariant.0,
      c.self.invariant.1,
      omega (arith, c.self.invariant.2, c.clear.ensures.capacity),
      omega (arith, c.self.invariant.3, c.refer.ensures.capacity),
      subst (λ (v : SlotsView). AreSlotsOf i.geo v) (sym c.refer.ensures.slots) (let_go_placed i.geo c.place_block.new.slots _ (c.place_block.ensures.placed i.geo c.self.invariant.4)),
      subst (λ (l : Listing). HasLimits i.geo l) (sym c.refer.ensures.lists) (record { acap = limits.acap; bcap = limits.bcap; slots = limits.slots }),
      omega (arith, ap length c.clear.ensures.items),
      λ up. subst (λ (v : StoreView). IsStore v) (sym after) (entered_is i.up i.journal lists i.count i.pending.items i.slots.uses i.laid.items is i.geo c.self.invariant.5 c.self.invariant.0 (g.met.L.Lists.kept i.lists) c.args.address c.in-Some.slot c.args.fp c.args.dirty prepared spare anew below (spare_below was is c.in-Some.slot spare) (omega arith)),
      omega (arith, ap length c.refer.ensures.pending, length-append i.pending.items (Store c.args.address c.in-Some.slot c.args.fp c.args.dirty ∷ []), prepared.free, ap (λ (geo : Geometry). geo.group) c.self.invariant.0),
    )

pub returns-in-Err-clause-serves : goal.returns-in-Err-clause-serves
returns-in-Err-clause-serves g c = λ told basis was_it s kept printed some unknown read.
    let i = c.self.inside in
    let lists = g.L.Lists.listing i.lists in
    let was : StoreView = store_of i.up i.journal lists i.count i.pending.items i.slots.uses i.laid.items in
    let is : IsStore was = c.self.invariant.7 (ap (λ (v : StoreOf g.row.F.Denot). v.store.is_up) c.self.view_is ∙ c.requires.up) in
    let world = g.R.Rig.world c.place_block.new.rig in
    let print = g.F.Fingerprint.printed c.args.self.now.print in
    let base : Kept basis print was (g.R.Rig.world c.args.rig.now) was_it s = subst (λ (v : StoreOf g.row.F.Denot). Kept basis print v.store (g.R.Rig.world c.args.rig.now) was_it s) (sym c.self.view_is) kept in
    let has : HasSlots was i.slots = record { placed = subst (λ (geo : Geometry). AreSlotsOf geo i.slots) (sym c.self.invariant.0) c.self.invariant.4; same = refl } in
    let held : Kept basis print was world was_it s = c.place_block.ensures.kept told basis print was was_it s has is base in
    entered_failed basis print (g.R.Rig.clock c.args.rig.now) (g.R.Rig.clock c.place_block.new.rig) was _ world was_it s _ (c.place_block.ensures.crash told basis print was was_it s has is base) held

pub returns-in-Some-clause-serves : goal.returns-in-Some-clause-serves
returns-in-Some-clause-serves g c = λ told basis was_it s kept printed some unknown read.
    let i = c.self.inside in
    let lists = g.L.Lists.listing i.lists in
    let was : StoreView = store_of i.up i.journal lists i.count i.pending.items i.slots.uses i.laid.items in
    let is : IsStore was = c.self.invariant.7 (ap (λ (v : StoreOf g.row.F.Denot). v.store.is_up) c.self.view_is ∙ c.requires.up) in
    let takes : Takes i.slots c.place_block.new.slots (Some c.in-Some.slot) = subst (Takes i.slots c.place_block.new.slots) c.in-Some.is c.in-Ok.ensures.slot in
    let spare : is_spare c.in-Some.slot i.slots.uses ≡ true = ap is_free takes.0 in
    let prepared : IsPrepared c.args.address wants.Fresh was = subst (λ (v : StoreOf g.row.F.Denot). IsPrepared c.args.address wants.Fresh v.store) (sym c.self.view_is) c.requires.prepared in
    let anew : (c.args.dirty ≡ true) ⊎ (link_at c.args.address was.table.a ≡ Lost) = subst (λ (v : StoreOf g.row.F.Denot). (c.args.dirty ≡ true) ⊎ (link_at c.args.address v.store.table.a ≡ Lost)) (sym c.self.view_is) c.requires.anew in
    let below : c.args.address < i.journal.geo.blocks = subst (λ (v : StoreOf g.row.F.Denot). c.args.address < v.store.journal.geo.blocks) (sym c.self.view_is) c.requires.below in
    let limits : HasLimits i.geo lists = c.self.invariant.5 in
    let acap : lists.acap ≡ i.journal.geo.acap = limits.acap ∙ ap (λ (geo : Geometry). geo.acap) (sym c.self.invariant.0) in
    let bcap : lists.bcap ≡ i.journal.geo.bcap = limits.bcap ∙ ap (λ (geo : Geometry). geo.bcap) (sym c.self.invariant.0) in
    let after : store_of i.up i.journal (g.L.Lists.listing c.refer.new.lists) (i.count + 1) c.refer.new.pending.items c.refer.new.slots.uses c.clear.new.self.items
    ≡ referred_store (Store c.args.address c.in-Some.slot c.args.fp c.args.dirty) (touch_by c.args.address (given.Fresh (record { slot = c.in-Some.slot; fp = c.args.fp })) c.args.dirty (listing_in was)) was =
    fresh_store i.up i.journal lists i.count i.pending.items i.slots.uses i.laid.items (Store c.args.address c.in-Some.slot c.args.fp c.args.dirty) c.args.address c.in-Some.slot c.args.fp c.args.dirty acap bcap
    (g.L.Lists.listing c.refer.new.lists) (i.count + 1) c.refer.new.pending.items c.refer.new.slots.uses c.clear.new.self.items
    c.refer.ensures.lists (omega arith) c.refer.ensures.pending
    (ap (λ (v : SlotsView). v.uses) c.refer.ensures.slots ∙ ap (λ (v : SlotsView). let_go (cut_of (touch_by c.args.address (given.Fresh (record { slot = c.in-Some.slot; fp = c.args.fp })) c.args.dirty lists) lists).drop v.uses) takes.1) c.clear.ensures.items in
    let world = g.R.Rig.world c.place_block.new.rig in
    let print = g.F.Fingerprint.printed c.args.self.now.print in
    let base : Kept basis print was (g.R.Rig.world c.args.rig.now) was_it s = subst (λ (v : StoreOf g.row.F.Denot). Kept basis print v.store (g.R.Rig.world c.args.rig.now) was_it s) (sym c.self.view_is) kept in
    let has : HasSlots was i.slots = record { placed = subst (λ (geo : Geometry). AreSlotsOf geo i.slots) (sym c.self.invariant.0) c.self.invariant.4; same = refl } in
    let held : Kept basis print was world was_it s = c.place_block.ensures.kept told basis print was was_it s has is base in
    let there = sym (block_there i.journal.geo i.slots world.flash.shown c.in-Some.slot has.placed) ∙ subst (λ o. IfSome o (λ slot. block_in i.slots world.flash.shown slot ≡ c.args.block.now)) c.in-Some.is (c.in-Ok.ensures.shows told) in
    let long : length c.args.block.now ≡ i.journal.geo.block = subst (λ (v : StoreOf g.row.F.Denot). length c.args.block.now ≡ v.store.journal.geo.block) (sym c.self.view_is) c.requires.long in
    record {
      crash = widens (c.place_block.ensures.crash told basis print was was_it s has is base) (λ o stands. inl stands);
      leaves = record {
        committed = was_it;
        either = inl refl;
        kept = subst (λ (v : StoreView). Kept basis print v world was_it (reference (sizes_of c.args.self.now.store.journal.geo) s c.args.address c.args.block.now)) (sym after)
            (subst (λ (v : StoreOf g.row.F.Denot). Kept basis print (referred_store (Store c.args.address c.in-Some.slot c.args.fp c.args.dirty) (touch_by c.args.address (given.Fresh (record { slot = c.in-Some.slot; fp = c.args.fp })) c.args.dirty (listing_in was)) was) world was_it (reference (sizes_of v.store.journal.geo) s c.args.address c.args.block.now)) c.self.view_is
            (entered_kept i.up i.journal lists i.count i.pending.items i.slots.uses i.laid.items is i.geo c.self.invariant.5 c.self.invariant.0 (g.met.L.Lists.kept i.lists) c.args.address c.in-Some.slot c.args.fp c.args.dirty prepared spare anew print world s held.holds c.args.block.now below long there printed some unknown read basis was_it held));
      };
    }

pub returns-in-Some-clause-holds : goal.returns-in-Some-clause-holds
returns-in-Some-clause-holds g c = λ told s holds printed some unknown read.
    let i = c.self.inside in
    let lists = g.L.Lists.listing i.lists in
    let was : StoreView = store_of i.up i.journal lists i.count i.pending.items i.slots.uses i.laid.items in
    let is : IsStore was = c.self.invariant.7 (ap (λ (v : StoreOf g.row.F.Denot). v.store.is_up) c.self.view_is ∙ c.requires.up) in
    let takes : Takes i.slots c.place_block.new.slots (Some c.in-Some.slot) = subst (Takes i.slots c.place_block.new.slots) c.in-Some.is c.in-Ok.ensures.slot in
    let spare : is_spare c.in-Some.slot i.slots.uses ≡ true = ap is_free takes.0 in
    let prepared : IsPrepared c.args.address wants.Fresh was = subst (λ (v : StoreOf g.row.F.Denot). IsPrepared c.args.address wants.Fresh v.store) (sym c.self.view_is) c.requires.prepared in
    let anew : (c.args.dirty ≡ true) ⊎ (link_at c.args.address was.table.a ≡ Lost) = subst (λ (v : StoreOf g.row.F.Denot). (c.args.dirty ≡ true) ⊎ (link_at c.args.address v.store.table.a ≡ Lost)) (sym c.self.view_is) c.requires.anew in
    let below : c.args.address < i.journal.geo.blocks = subst (λ (v : StoreOf g.row.F.Denot). c.args.address < v.store.journal.geo.blocks) (sym c.self.view_is) c.requires.below in
    let limits : HasLimits i.geo lists = c.self.invariant.5 in
    let acap : lists.acap ≡ i.journal.geo.acap = limits.acap ∙ ap (λ (geo : Geometry). geo.acap) (sym c.self.invariant.0) in
    let bcap : lists.bcap ≡ i.journal.geo.bcap = limits.bcap ∙ ap (λ (geo : Geometry). geo.bcap) (sym c.self.invariant.0) in
    let after : store_of i.up i.journal (g.L.Lists.listing c.refer.new.lists) (i.count + 1) c.refer.new.pending.items c.refer.new.slots.uses c.clear.new.self.items
    ≡ referred_store (Store c.args.address c.in-Some.slot c.args.fp c.args.dirty) (touch_by c.args.address (given.Fresh (record { slot = c.in-Some.slot; fp = c.args.fp })) c.args.dirty (listing_in was)) was =
    fresh_store i.up i.journal lists i.count i.pending.items i.slots.uses i.laid.items (Store c.args.address c.in-Some.slot c.args.fp c.args.dirty) c.args.address c.in-Some.slot c.args.fp c.args.dirty acap bcap
    (g.L.Lists.listing c.refer.new.lists) (i.count + 1) c.refer.new.pending.items c.refer.new.slots.uses c.clear.new.self.items
    c.refer.ensures.lists (omega arith) c.refer.ensures.pending
    (ap (λ (v : SlotsView). v.uses) c.refer.ensures.slots ∙ ap (λ (v : SlotsView). let_go (cut_of (touch_by c.args.address (given.Fresh (record { slot = c.in-Some.slot; fp = c.args.fp })) c.args.dirty lists) lists).drop v.uses) takes.1) c.clear.ensures.items in
    let world = g.R.Rig.world c.place_block.new.rig in
    let print = g.F.Fingerprint.printed c.args.self.now.print in
    let base : Holds print was (g.R.Rig.world c.args.rig.now) s = subst (λ (v : StoreOf g.row.F.Denot). Holds print v.store (g.R.Rig.world c.args.rig.now) s) (sym c.self.view_is) holds in
    let has : HasSlots was i.slots = record { placed = subst (λ (geo : Geometry). AreSlotsOf geo i.slots) (sym c.self.invariant.0) c.self.invariant.4; same = refl } in
    let held : Holds print was world s = c.place_block.ensures.holds told print was s has is base in
    let there = sym (block_there i.journal.geo i.slots world.flash.shown c.in-Some.slot has.placed) ∙ subst (λ o. IfSome o (λ slot. block_in i.slots world.flash.shown slot ≡ c.args.block.now)) c.in-Some.is (c.in-Ok.ensures.shows told) in
    let long : length c.args.block.now ≡ i.journal.geo.block = subst (λ (v : StoreOf g.row.F.Denot). length c.args.block.now ≡ v.store.journal.geo.block) (sym c.self.view_is) c.requires.long in
    subst (λ (v : StoreView). Holds print v world (reference (sizes_of c.args.self.now.store.journal.geo) s c.args.address c.args.block.now)) (sym after)
    (subst (λ (v : StoreOf g.row.F.Denot). Holds print (referred_store (Store c.args.address c.in-Some.slot c.args.fp c.args.dirty) (touch_by c.args.address (given.Fresh (record { slot = c.in-Some.slot; fp = c.args.fp })) c.args.dirty (listing_in was)) was) world (reference (sizes_of v.store.journal.geo) s c.args.address c.args.block.now)) c.self.view_is
    (entered_holds i.up i.journal lists i.count i.pending.items i.slots.uses i.laid.items is i.geo c.self.invariant.5 c.self.invariant.0 (g.met.L.Lists.kept i.lists) c.args.address c.in-Some.slot c.args.fp c.args.dirty prepared spare anew print world s held c.args.block.now below long there printed some unknown read))

pub returns-in-Some-clause-tells : goal.returns-in-Some-clause-tells
returns-in-Some-clause-tells g c = λ told s holds printed some unknown read.
    let i = c.self.inside in
    let lists = g.L.Lists.listing i.lists in
    let was : StoreView = store_of i.up i.journal lists i.count i.pending.items i.slots.uses i.laid.items in
    let is : IsStore was = c.self.invariant.7 (ap (λ (v : StoreOf g.row.F.Denot). v.store.is_up) c.self.view_is ∙ c.requires.up) in
    let takes : Takes i.slots c.place_block.new.slots (Some c.in-Some.slot) = subst (Takes i.slots c.place_block.new.slots) c.in-Some.is c.in-Ok.ensures.slot in
    let spare : is_spare c.in-Some.slot i.slots.uses ≡ true = ap is_free takes.0 in
    let prepared : IsPrepared c.args.address wants.Fresh was = subst (λ (v : StoreOf g.row.F.Denot). IsPrepared c.args.address wants.Fresh v.store) (sym c.self.view_is) c.requires.prepared in
    let anew : (c.args.dirty ≡ true) ⊎ (link_at c.args.address was.table.a ≡ Lost) = subst (λ (v : StoreOf g.row.F.Denot). (c.args.dirty ≡ true) ⊎ (link_at c.args.address v.store.table.a ≡ Lost)) (sym c.self.view_is) c.requires.anew in
    let below : c.args.address < i.journal.geo.blocks = subst (λ (v : StoreOf g.row.F.Denot). c.args.address < v.store.journal.geo.blocks) (sym c.self.view_is) c.requires.below in
    let limits : HasLimits i.geo lists = c.self.invariant.5 in
    let acap : lists.acap ≡ i.journal.geo.acap = limits.acap ∙ ap (λ (geo : Geometry). geo.acap) (sym c.self.invariant.0) in
    let bcap : lists.bcap ≡ i.journal.geo.bcap = limits.bcap ∙ ap (λ (geo : Geometry). geo.bcap) (sym c.self.invariant.0) in
    let world = g.R.Rig.world c.place_block.new.rig in
    let print = g.F.Fingerprint.printed c.args.self.now.print in
    let base : Holds print was (g.R.Rig.world c.args.rig.now) s = subst (λ (v : StoreOf g.row.F.Denot). Holds print v.store (g.R.Rig.world c.args.rig.now) s) (sym c.self.view_is) holds in
    let has : HasSlots was i.slots = record { placed = subst (λ (geo : Geometry). AreSlotsOf geo i.slots) (sym c.self.invariant.0) c.self.invariant.4; same = refl } in
    let held : Holds print was world s = c.place_block.ensures.holds told print was s has is base in
    let there = sym (block_there i.journal.geo i.slots world.flash.shown c.in-Some.slot has.placed) ∙ subst (λ o. IfSome o (λ slot. block_in i.slots world.flash.shown slot ≡ c.args.block.now)) c.in-Some.is (c.in-Ok.ensures.shows told) in
    let long : length c.args.block.now ≡ i.journal.geo.block = subst (λ (v : StoreOf g.row.F.Denot). length c.args.block.now ≡ v.store.journal.geo.block) (sym c.self.view_is) c.requires.long in
    subst (λ (v : StoreOf g.row.F.Denot). Tells print (record { kind = if c.args.dirty then New else Miss; cut = c.refer.result }) (answer_for c.args.dirty (sizes_of v.store.journal.geo) s c.args.address c.args.block.now)) c.self.view_is
    (entered_tells i.up i.journal lists i.count i.pending.items i.slots.uses i.laid.items is i.geo c.self.invariant.5 c.self.invariant.0 (g.met.L.Lists.kept i.lists) c.args.address c.in-Some.slot c.args.fp c.args.dirty prepared spare anew print world s held c.args.block.now below long there printed some unknown read c.refer.result c.refer.ensures.cut)

pub returns-in-Some-clause-rows : goal.returns-in-Some-clause-rows
returns-in-Some-clause-rows g c =
    let i = c.self.inside in
    let lists = g.L.Lists.listing i.lists in
    let was : StoreView = store_of i.up i.journal lists i.count i.pending.items i.slots.uses i.laid.items in
    let is : IsStore was = c.self.invariant.7 (ap (λ (v : StoreOf g.row.F.Denot). v.store.is_up) c.self.view_is ∙ c.requires.up) in
    let takes : Takes i.slots c.place_block.new.slots (Some c.in-Some.slot) = subst (Takes i.slots c.place_block.new.slots) c.in-Some.is c.in-Ok.ensures.slot in
    let spare : is_spare c.in-Some.slot i.slots.uses ≡ true = ap is_free takes.0 in
    let prepared : IsPrepared c.args.address wants.Fresh was = subst (λ (v : StoreOf g.row.F.Denot). IsPrepared c.args.address wants.Fresh v.store) (sym c.self.view_is) c.requires.prepared in
    let anew : (c.args.dirty ≡ true) ⊎ (link_at c.args.address was.table.a ≡ Lost) = subst (λ (v : StoreOf g.row.F.Denot). (c.args.dirty ≡ true) ⊎ (link_at c.args.address v.store.table.a ≡ Lost)) (sym c.self.view_is) c.requires.anew in
    let limits : HasLimits i.geo lists = c.self.invariant.5 in
    let acap : lists.acap ≡ i.journal.geo.acap = limits.acap ∙ ap (λ (geo : Geometry). geo.acap) (sym c.self.invariant.0) in
    let bcap : lists.bcap ≡ i.journal.geo.bcap = limits.bcap ∙ ap (λ (geo : Geometry). geo.bcap) (sym c.self.invariant.0) in
    let after : store_of i.up i.journal (g.L.Lists.listing c.refer.new.lists) (i.count + 1) c.refer.new.pending.items c.refer.new.slots.uses c.clear.new.self.items
    ≡ referred_store (Store c.args.address c.in-Some.slot c.args.fp c.args.dirty) (touch_by c.args.address (given.Fresh (record { slot = c.in-Some.slot; fp = c.args.fp })) c.args.dirty (listing_in was)) was =
    fresh_store i.up i.journal lists i.count i.pending.items i.slots.uses i.laid.items (Store c.args.address c.in-Some.slot c.args.fp c.args.dirty) c.args.address c.in-Some.slot c.args.fp c.args.dirty acap bcap
    (g.L.Lists.listing c.refer.new.lists) (i.count + 1) c.refer.new.pending.items c.refer.new.slots.uses c.clear.new.self.items
    c.refer.ensures.lists (omega arith) c.refer.ensures.pending
    (ap (λ (v : SlotsView). v.uses) c.refer.ensures.slots ∙ ap (λ (v : SlotsView). let_go (cut_of (touch_by c.args.address (given.Fresh (record { slot = c.in-Some.slot; fp = c.args.fp })) c.args.dirty lists) lists).drop v.uses) takes.1) c.clear.ensures.items in
    let now = c.refer.result in
    subst (λ (v : StoreOf g.row.F.Denot). Enters c.args.address c.args.fp c.args.dirty v.store (store_of i.up i.journal (g.L.Lists.listing c.refer.new.lists) (i.count + 1) c.refer.new.pending.items c.refer.new.slots.uses c.clear.new.self.items) now) c.self.view_is
    (record {
      slot = c.in-Some.slot;
      spare = spare;
      fits = entered_fits i.up i.journal lists i.count i.pending.items i.slots.uses i.laid.items is i.geo c.self.invariant.5 c.self.invariant.0 (g.met.L.Lists.kept i.lists) c.args.address c.in-Some.slot c.args.fp c.args.dirty prepared spare anew;
      after = after;
      falls = c.refer.ensures.cut ∙ (λ n. cut_by (acap n) (bcap n) (touch_by c.args.address (given.Fresh (record { slot = c.in-Some.slot; fp = c.args.fp })) c.args.dirty lists) lists.table);
    })
