use Rattle.dd_block.specs.declared.geometry.Geometry.{Geometry}
use Rattle.std.proofs.Common.{◌≡◌, ℕ, false, length, refl, sym, ◌∙◌, ap, subst, arith}
use Rattle.std.specs.Prelude.{Option, IfSome}
use Rattle.dd_record.specs.Table.{is_dirty_at}
use Rattle.std.specs.List.{list_any}
use Rattle.dd_model.specs.Listing.{victims_of, refers}
use Rattle.dd_store.specs.Keeping.{StoreView, IsStore, slots_shown}
use Rattle.dd_store.specs.Referring.{listing_in}
use Rattle.dd_store.specs.Serving.{StoreOf, store_of, unlaid}
use Rattle.dd_store.proofs.Cleaning.{dirty_few, cleans_on, cleans_failed}
use Rattle.dd_store.proofs.Holding.{holds_next}
use Rattle.dd_store.proofs.Keeping.{own_out, own_on}
use Rattle.dd_store.proofs.Known.{listing_same}
use Rattle.dd_store.proofs.RoomBehind.{room_on, room_without, room_out, room_drop}
use Rattle.dd_store.proofs.Serves.{serves_next}
use Rattle.dd_store.proofs.store.Store.make_room.Goals as goal

pub clean_out-requires-clause-epoch : goal.clean_out-requires-clause-epoch
clean_out-requires-clause-epoch g c =
    let i = c.self.inside in
    let was : StoreView = store_of i.up i.journal (g.L.Lists.listing i.lists) i.count i.pending.items i.slots.uses i.laid.items in
    let is : IsStore was = c.self.invariant.7 (ap (λ (v : StoreOf g.row.F.Denot). v.store.is_up) c.self.view_is ∙ c.requires.up) in
    omega (arith, c.requires.epoch, dirty_few was is, i.journal.geo.acap_most, ap (λ (v : StoreOf g.row.F.Denot). length v.store.dirty) c.self.view_is)

pub rounds-requires-clause-epoch : goal.rounds-requires-clause-epoch
rounds-requires-clause-epoch g c =
    let i = c.self.inside in
    let was : StoreView = store_of i.up i.journal (g.L.Lists.listing i.lists) i.count i.pending.items i.slots.uses i.laid.items in
    let is : IsStore was = c.self.invariant.7 (ap (λ (v : StoreOf g.row.F.Denot). v.store.is_up) c.self.view_is ∙ c.requires.up) in
    omega (arith, c.in-Ok.ensures.sinks, c.requires.epoch, dirty_few was is, i.journal.geo.acap_most, ap (λ (v : StoreOf g.row.F.Denot). length v.store.dirty) c.self.view_is)

pub returns-in-None-clause-room : goal.returns-in-None-clause-room
returns-in-None-clause-room g c =
    let i = c.self.inside in
    let was : StoreView = store_of i.up i.journal (g.L.Lists.listing i.lists) i.count i.pending.items i.slots.uses i.laid.items in
    let old = c.args.self.now.store in
    let are : c.victims-victims.result ≡ victims_of c.args.address c.args.want (listing_in old) = c.victims-victims.ensures.which
    ∙ ap (victims_of c.args.address c.args.want) (listing_same i.geo (g.L.Lists.listing i.lists) was c.self.invariant.5 c.self.invariant.0 refl refl ∙ ap (λ (v : StoreOf g.row.F.Denot). listing_in v.store) c.self.view_is) in
    room_without c.args.address c.args.want old c.clean_out.new.self.store c.victims-victims.result c.in-Ok.ensures.rows are c.in-Ok.ensures.clean c.in-None.is

pub returns-in-Some-clause-room : goal.returns-in-Some-clause-room
returns-in-Some-clause-room g c =
    let i = c.self.inside in
    let was : StoreView = store_of i.up i.journal (g.L.Lists.listing i.lists) i.count i.pending.items i.slots.uses i.laid.items in
    let old = c.args.self.now.store in
    let are : c.victims-victims.result ≡ victims_of c.args.address c.args.want (listing_in old) = c.victims-victims.ensures.which
    ∙ ap (victims_of c.args.address c.args.want) (listing_same i.geo (g.L.Lists.listing i.lists) was c.self.invariant.5 c.self.invariant.0 refl refl ∙ ap (λ (v : StoreOf g.row.F.Denot). listing_in v.store) c.self.view_is) in
    room_on c.args.address c.args.want c.rounds.result old c.clean_out.new.self.store c.rounds.new.self.store c.victims-victims.result c.in-Some.row c.in-Ok.ensures.rows c.rounds.ensures.rows are c.in-Ok.ensures.clean c.in-Some.is c.rounds.ensures.none

pub returns-in-Some-clause-rows : goal.returns-in-Some-clause-rows
returns-in-Some-clause-rows g c = cleans_on c.rounds.result c.args.self.now.store c.clean_out.new.self.store c.rounds.new.self.store c.in-Ok.ensures.rows c.rounds.ensures.rows

pub returns-in-Some-clause-failed : goal.returns-in-Some-clause-failed
returns-in-Some-clause-failed g c = cleans_failed c.rounds.result c.args.self.now.store c.clean_out.new.self.store c.rounds.new.self.store c.in-Ok.ensures.rows c.rounds.ensures.failed

pub returns-in-Some-clause-serves : goal.returns-in-Some-clause-serves
returns-in-Some-clause-serves g c = λ told basis was s kept.
    let print = g.F.Fingerprint.printed in
    let world = g.R.Rig.world in
    let clock = g.R.Rig.clock in
    serves_next basis (print c.args.self.now.print) (print c.clean_out.new.self.print) (ap print c.clean_out.ensures.rests.print) (clock c.args.rig.now) (clock c.clean_out.new.rig) (clock c.rounds.new.rig)
    c.clean_out.new.self.store c.rounds.new.self.store (world c.clean_out.new.rig) (world c.rounds.new.rig) was s s tt c.rounds.result
    (c.in-Ok.ensures.serves told basis was s kept) (λ k held. c.rounds.ensures.serves told basis k s held)

pub returns-in-Some-clause-idle : goal.returns-in-Some-clause-idle
returns-in-Some-clause-idle g c = λ room.
    let i = c.self.inside in
    let was : StoreView = store_of i.up i.journal (g.L.Lists.listing i.lists) i.count i.pending.items i.slots.uses i.laid.items in
    let old = c.args.self.now.store in
    let are : c.victims-victims.result ≡ victims_of c.args.address c.args.want (listing_in old) = c.victims-victims.ensures.which
    ∙ ap (victims_of c.args.address c.args.want) (listing_same i.geo (g.L.Lists.listing i.lists) was c.self.invariant.5 c.self.invariant.0 refl refl ∙ ap (λ (v : StoreOf g.row.F.Denot). listing_in v.store) c.self.view_is) in
    let first = c.clean_out.ensures.idle (room_out c.args.address c.args.want old c.victims-victims.result are room) in
    let none : list_any (λ other. refers c.in-Some.row.slot c.args.address other) c.clean_out.new.self.store.table.a ≡ false =
    ap (λ (v : StoreView). list_any (λ other. refers c.in-Some.row.slot c.args.address other) v.table.a) first.2 ∙ room_drop c.args.address c.args.want old c.victims-victims.result c.in-Some.row are room c.in-Some.is in
    let last = c.rounds.ensures.idle none in
    (last.0, last.1 ∙ first.1, last.2 ∙ ap unlaid first.2)

pub returns-in-Some-clause-holds : goal.returns-in-Some-clause-holds
returns-in-Some-clause-holds g c = λ told s holds.
    let print = g.F.Fingerprint.printed in
    let world = g.R.Rig.world in
    holds_next {T = Unit {0}} (print c.args.self.now.print) (print c.clean_out.new.self.print) (ap print c.clean_out.ensures.rests.print) c.clean_out.new.self.store c.rounds.new.self.store (world c.clean_out.new.rig) (world c.rounds.new.rig) s s c.rounds.result
    (c.in-Ok.ensures.holds told s holds) (λ held. c.rounds.ensures.holds told s held)

pub returns-in-None-clause-own : goal.returns-in-None-clause-own
returns-in-None-clause-own g c =
    let i = c.self.inside in
    let was : StoreView = store_of i.up i.journal (g.L.Lists.listing i.lists) i.count i.pending.items i.slots.uses i.laid.items in
    let old = c.args.self.now.store in
    let middle = c.clean_out.new.self.store in
    let are : c.victims-victims.result ≡ victims_of c.args.address c.args.want (listing_in old) = c.victims-victims.ensures.which
    ∙ ap (victims_of c.args.address c.args.want) (listing_same i.geo (g.L.Lists.listing i.lists) was c.self.invariant.5 c.self.invariant.0 refl refl ∙ ap (λ (v : StoreOf g.row.F.Denot). listing_in v.store) c.self.view_is) in
    let first : is_dirty_at c.args.address middle.table.a ≡ is_dirty_at c.args.address old.table.a = own_out c.args.address c.args.want old middle c.victims-victims.result are c.in-Ok.ensures.rows
    (λ none. (c.clean_out.ensures.idle (subst (λ (o : Option ℕ). IfSome o (λ at. is_dirty_at at old.table.a ≡ false)) (sym none) tt)).2) in
    first

pub returns-in-Some-clause-own : goal.returns-in-Some-clause-own
returns-in-Some-clause-own g c =
    let i = c.self.inside in
    let was : StoreView = store_of i.up i.journal (g.L.Lists.listing i.lists) i.count i.pending.items i.slots.uses i.laid.items in
    let old = c.args.self.now.store in
    let middle = c.clean_out.new.self.store in
    let are : c.victims-victims.result ≡ victims_of c.args.address c.args.want (listing_in old) = c.victims-victims.ensures.which
    ∙ ap (victims_of c.args.address c.args.want) (listing_same i.geo (g.L.Lists.listing i.lists) was c.self.invariant.5 c.self.invariant.0 refl refl ∙ ap (λ (v : StoreOf g.row.F.Denot). listing_in v.store) c.self.view_is) in
    let first : is_dirty_at c.args.address middle.table.a ≡ is_dirty_at c.args.address old.table.a = own_out c.args.address c.args.want old middle c.victims-victims.result are c.in-Ok.ensures.rows
    (λ none. (c.clean_out.ensures.idle (subst (λ (o : Option ℕ). IfSome o (λ at. is_dirty_at at old.table.a ≡ false)) (sym none) tt)).2) in
    own_on c.rounds.result c.args.address c.in-Some.row.slot old middle c.rounds.new.self.store first c.rounds.ensures.skips

pub returns-in-Some-clause-slots : goal.returns-in-Some-clause-slots
returns-in-Some-clause-slots g c = λ told.
    subst (λ (geo : Geometry). slots_shown geo (g.R.Rig.world c.rounds.new.rig) ≡ slots_shown geo (g.R.Rig.world c.clean_out.new.rig)) c.clean_out.ensures.geometry (c.rounds.ensures.slots told) ∙ c.clean_out.ensures.slots told
