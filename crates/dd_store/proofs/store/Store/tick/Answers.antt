use Rattle.std.proofs.Common.{◌≡◌, ◌<◌, ℕ, ◌∷◌, sym, ◌∙◌, ap, subst, Some, None, arith}
use Rattle.std.specs.Prelude.{Option}
use Rattle.dd_record.specs.Table.{is_dirty_at}
use Rattle.dd_model.specs.Listing.{next_of, without}
use Rattle.dd_store.specs.Keeping.{StoreView, IsStore}
use Rattle.dd_store.specs.Serving.{StoreOf, store_of}
use Rattle.dd_store.proofs.Holding.{holds_err, holds_forgotten}
use Rattle.dd_store.proofs.Serves.{serves_ok, serves_err, unlaid_serves}
use Rattle.dd_store.proofs.Ticking.{oldest_is_dirty, oldest_below, oldest_first, written_shows}
use Rattle.dd_store.proofs.store.Store.tick.Goals as goal

pub write_back-requires-clause-below : goal.write_back-requires-clause-below
write_back-requires-clause-below g c =
    let i = c.self.inside in
    let was : StoreView = store_of i.up i.journal (g.L.Lists.listing i.lists) i.count i.pending.items i.slots.uses i.laid.items in
    let is : IsStore was = c.self.invariant.7 (ap (λ (v : StoreOf g.row.F.Denot). v.store.is_up) c.self.view_is ∙ c.requires.up) in
    let oldest : next_of None was.dirty ≡ Some c.in-Some.address = sym c.oldest_dirty.ensures ∙ c.in-Some.is in
    omega (arith, oldest_below was is c.in-Some.address oldest, ap (λ (v : StoreOf g.row.F.Denot). v.store.journal.geo.blocks) c.self.view_is)

pub write_back-requires-clause-dirty : goal.write_back-requires-clause-dirty
write_back-requires-clause-dirty g c =
    let i = c.self.inside in
    let was : StoreView = store_of i.up i.journal (g.L.Lists.listing i.lists) i.count i.pending.items i.slots.uses i.laid.items in
    let is : IsStore was = c.self.invariant.7 (ap (λ (v : StoreOf g.row.F.Denot). v.store.is_up) c.self.view_is ∙ c.requires.up) in
    let oldest : next_of None was.dirty ≡ Some c.in-Some.address = sym c.oldest_dirty.ensures ∙ c.in-Some.is in
    ap (λ (v : StoreOf g.row.F.Denot). is_dirty_at c.in-Some.address v.store.table.a) (sym c.self.view_is) ∙ oldest_is_dirty was is c.in-Some.address oldest

pub returns-in-None-clause-serves : goal.returns-in-None-clause-serves
returns-in-None-clause-serves g c = λ told basis was_it s kept.
    unlaid_serves basis (g.F.Fingerprint.printed c.args.self.now.print) (g.R.Rig.clock c.args.rig.now) c.args.self.now.store c.forget.new.self.store (g.R.Rig.world c.args.rig.now) was_it s None c.forget.ensures.store kept

pub returns-in-Err-clause-serves : goal.returns-in-Err-clause-serves
returns-in-Err-clause-serves g c = λ told basis was_it s kept.
    serves_err basis (Unit {0}) (Option ℕ) (g.F.Fingerprint.printed c.args.self.now.print) (g.R.Rig.clock c.args.rig.now) (g.R.Rig.clock c.write_back.new.rig) c.write_back.new.self.store (g.R.Rig.world c.write_back.new.rig) was_it s s
    c.in-Err.fault (c.in-Err.ensures.serves told basis was_it s kept)

pub returns-in-Ok-clause-serves : goal.returns-in-Ok-clause-serves
returns-in-Ok-clause-serves g c = λ told basis was_it s kept.
    serves_ok basis (g.F.Fingerprint.printed c.args.self.now.print) (g.R.Rig.clock c.args.rig.now) (g.R.Rig.clock c.write_back.new.rig) c.write_back.new.self.store (g.R.Rig.world c.write_back.new.rig) was_it s s
    tt (Some c.in-Some.address) (c.in-Ok.ensures.serves told basis was_it s kept)

pub returns-in-Ok-clause-shows : goal.returns-in-Ok-clause-shows
returns-in-Ok-clause-shows g c = λ told s holds.
    let i = c.self.inside in
    let was : StoreView = store_of i.up i.journal (g.L.Lists.listing i.lists) i.count i.pending.items i.slots.uses i.laid.items in
    let is : IsStore was = c.self.invariant.7 (ap (λ (v : StoreOf g.row.F.Denot). v.store.is_up) c.self.view_is ∙ c.requires.up) in
    let oldest : next_of None was.dirty ≡ Some c.in-Some.address = sym c.oldest_dirty.ensures ∙ c.in-Some.is in
    let below : c.in-Some.address < c.args.self.now.store.journal.geo.blocks = omega (arith, oldest_below was is c.in-Some.address oldest, ap (λ (v : StoreOf g.row.F.Denot). v.store.journal.geo.blocks) c.self.view_is) in
    written_shows (g.F.Fingerprint.printed c.args.self.now.print) c.args.self.now.store c.write_back.new.self.store c.write_back.new.self.store.journal (g.R.Rig.world c.write_back.new.rig)
    s c.in-Some.address c.in-Ok.ensures.store c.write_back.ensures.geometry below (c.in-Ok.ensures.holds told s holds)

pub returns-in-None-clause-holds : goal.returns-in-None-clause-holds
returns-in-None-clause-holds g c = λ told s holds.
    holds_forgotten (g.F.Fingerprint.printed c.args.self.now.print) c.args.self.now.store c.forget.new.self.store (g.R.Rig.world c.args.rig.now) s c.forget.ensures.store holds

pub returns-in-Err-clause-holds : goal.returns-in-Err-clause-holds
returns-in-Err-clause-holds g c = λ told s holds.
    holds_err (Unit {0}) (Option ℕ) (g.F.Fingerprint.printed c.args.self.now.print) c.in-Err.fault s s c.write_back.new.self.store (g.R.Rig.world c.write_back.new.rig) (c.in-Err.ensures.holds told s holds)

pub returns-in-Ok-clause-holds : goal.returns-in-Ok-clause-holds
returns-in-Ok-clause-holds g c = λ told s holds. c.in-Ok.ensures.holds told s holds

pub returns-in-Ok-clause-oldest : goal.returns-in-Ok-clause-oldest
returns-in-Ok-clause-oldest g c =
    let i = c.self.inside in
    let was : StoreView = store_of i.up i.journal (g.L.Lists.listing i.lists) i.count i.pending.items i.slots.uses i.laid.items in
    let is : IsStore was = c.self.invariant.7 (ap (λ (v : StoreOf g.row.F.Denot). v.store.is_up) c.self.view_is ∙ c.requires.up) in
    let oldest : next_of None was.dirty ≡ Some c.in-Some.address = sym c.oldest_dirty.ensures ∙ c.in-Some.is in
    let first : Some c.in-Some.address ≡ next_of None c.args.self.now.store.dirty = sym oldest ∙ ap (λ (v : StoreOf g.row.F.Denot). next_of None v.store.dirty) c.self.view_is in (
      first,
      subst (λ (v : StoreOf g.row.F.Denot). v.store.dirty ≡ c.in-Some.address ∷ without c.in-Some.address v.store.dirty) c.self.view_is (oldest_first was is c.in-Some.address oldest)
          ∙ ap (λ (v : StoreView). c.in-Some.address ∷ v.dirty) (sym c.in-Ok.ensures.store),
    )
