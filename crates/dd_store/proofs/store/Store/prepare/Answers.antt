use Rattle.dd_block.specs.declared.geometry.Geometry.{Geometry}
use Rattle.dd_store.proofs.Holding.{holds_next}
use Rattle.std.proofs.Common.{◌≤◌, length, sym, subst, arith, ap, ◌≡◌, ◌∙◌}
use Rattle.dd_model.proofs.Restored.{dirty_few}
use Rattle.dd_store.specs.Keeping.{StoreView, IsStore, Kept, slots_shown}
use Rattle.dd_store.specs.Serving.{StoreOf, Serves}
use Rattle.dd_store.proofs.Keeping.{own_committed}
use Rattle.dd_store.proofs.Ready.{ready_by}
use Rattle.dd_store.proofs.Serves.{serves_then}
use Rattle.dd_store.proofs.store.Store.prepare.Goals as goal

pub commit-requires-clause-epoch : goal.commit-requires-clause-epoch
commit-requires-clause-epoch g c =
    let lists = g.L.Lists.listing c.self.inside.lists in
    let few : length c.args.self.now.store.dirty ≤ lists.acap = subst (λ (v : StoreOf g.row.F.Denot). length v.store.dirty ≤ lists.acap) c.self.view_is (dirty_few lists (g.met.L.Lists.kept c.self.inside.lists)) in
    omega (arith, c.make_room.ensures.rises, few, c.self.invariant.5.acap, c.self.inside.geo.acap_most, c.requires.epoch)

pub returns-then-must_commit-clause-ready : goal.returns-then-must_commit-clause-ready
returns-then-must_commit-clause-ready g c =
    let middle : StoreView = c.make_room.new.self.store in
    let is : IsStore middle = c.must_commit.ensures.keeps c.in-Ok.ensures.rests.up in
    ready_by c.commit.result middle c.commit.new.self.store c.args.address c.args.want is c.in-Ok.ensures.room c.commit.ensures.store c.commit.ensures.geometry

pub returns-then-must_commit-clause-serves : goal.returns-then-must_commit-clause-serves
returns-then-must_commit-clause-serves g c = λ told basis was s kept.
    let print = g.F.Fingerprint.printed c.args.self.now.print in
    let first = g.R.Rig.clock c.args.rig.now in
    let second = g.R.Rig.clock c.make_room.new.rig in
    let last = g.R.Rig.clock c.commit.new.rig in
    let roomy = c.in-Ok.ensures.serves told basis was s kept in
    serves_then basis print first second last c.make_room.new.self.store c.commit.new.self.store (g.R.Rig.world c.make_room.new.rig) (g.R.Rig.world c.commit.new.rig) was s s c.commit.result roomy.crash roomy.leaves
    (λ k held.
    subst (λ f. Serves basis (g.F.Fingerprint.printed f) c.commit.result second last c.commit.new.self.store (g.R.Rig.world c.commit.new.rig) k s s) c.make_room.ensures.rests.print
    (c.commit.ensures.serves told basis k s (subst (λ f. Kept basis (g.F.Fingerprint.printed f) c.make_room.new.self.store (g.R.Rig.world c.make_room.new.rig) k s) (sym c.make_room.ensures.rests.print) held)))

pub returns-then-must_commit-clause-own : goal.returns-then-must_commit-clause-own
returns-then-must_commit-clause-own g c =
    own_committed c.commit.result c.args.address c.args.self.now.store c.make_room.new.self.store c.commit.new.self.store c.commit.new.self.store.journal c.in-Ok.ensures.own c.commit.ensures.store

pub returns-then-must_commit-clause-holds : goal.returns-then-must_commit-clause-holds
returns-then-must_commit-clause-holds g c = λ told s holds.
    let print = g.F.Fingerprint.printed in
    let world = g.R.Rig.world in
    holds_next {T = Unit {0}} (print c.args.self.now.print) (print c.make_room.new.self.print) (ap print c.make_room.ensures.rests.print) c.make_room.new.self.store c.commit.new.self.store (world c.make_room.new.rig) (world c.commit.new.rig) s s c.commit.result
    (c.in-Ok.ensures.holds told s holds) (λ held. c.commit.ensures.holds told s held)

pub returns-then-must_commit-clause-slots : goal.returns-then-must_commit-clause-slots
returns-then-must_commit-clause-slots g c = λ told.
    subst (λ (geo : Geometry). slots_shown geo (g.R.Rig.world c.commit.new.rig) ≡ slots_shown geo (g.R.Rig.world c.make_room.new.rig)) c.make_room.ensures.geometry (c.commit.ensures.slots told) ∙ c.make_room.ensures.slots told
