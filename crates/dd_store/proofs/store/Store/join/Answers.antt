use Rattle.dd_store.proofs.Holding.{holds_fault}
use Rattle.std.proofs.Common.{refl, rules}
use Rattle.dd_model.specs.declared.done.Done.{Done}
use Rattle.dd_model.specs.Listing.{touch_by}
use Rattle.dd_store.specs.Referring.{listing_in}
use Rattle.dd_store.proofs.Brought.{joined, joined_tells, serves_fault, joined_holds}
use Rattle.dd_store.proofs.Prepared.{touches_still}
use Rattle.dd_store.proofs.Growing.{referred_grows}
use Rattle.dd_store.proofs.store.Store.join.Goals as goal

pub refer_known-requires-clause-touches : goal.refer_known-requires-clause-touches
refer_known-requires-clause-touches g c = touches_still c.args.self.now.store c.prepare.new.self.store c.in-Ok.ensures.rows c.args.its c.args.address c.args.block c.args.dirty c.requires.touches

pub returns-in-Err-clause-serves : goal.returns-in-Err-clause-serves
returns-in-Err-clause-serves g c = λ told basis was s kept bytes carries.
    serves_fault basis (Unit {0}) Done (g.F.Fingerprint.printed c.args.self.now.print) (g.R.Rig.clock c.args.rig.now) (g.R.Rig.clock c.prepare.new.rig) c.prepare.new.self.store (g.R.Rig.world c.prepare.new.rig) was s s _
    c.in-Err.fault (c.in-Err.ensures.serves told basis was s kept)

pub returns-in-Ok-clause-serves : goal.returns-in-Ok-clause-serves
returns-in-Ok-clause-serves g c = λ told basis was s kept bytes carries.
    joined basis (g.F.Fingerprint.printed c.args.self.now.print) c.args.self.now.store c.prepare.new.self.store (g.R.Rig.world c.args.rig.now) (g.R.Rig.world c.prepare.new.rig) was s c.args.its c.args.address c.args.block c.args.dirty bytes
    c.in-Ok.ensures.rows c.refer_known.ensures.keeps c.refer_known.ensures.fits c.requires.known kept carries
    (g.R.Rig.clock c.args.rig.now) (g.R.Rig.clock c.prepare.new.rig) c.refer_known.new.self.store (record { kind = c.kind_of.result; cut = c.refer_known.result }) c.refer_known.ensures.store (c.in-Ok.ensures.serves told basis was s kept)

pub returns-in-Ok-clause-tells : goal.returns-in-Ok-clause-tells
returns-in-Ok-clause-tells g c = λ told s holds bytes carries kind.
    joined_tells (g.F.Fingerprint.printed c.args.self.now.print) c.args.self.now.store c.prepare.new.self.store (g.R.Rig.world c.args.rig.now) (g.R.Rig.world c.prepare.new.rig) s c.args.its c.args.address c.args.block c.args.dirty bytes
    c.in-Ok.ensures.rows c.refer_known.ensures.keeps c.refer_known.ensures.fits c.requires.known holds (c.in-Ok.ensures.holds told s holds) carries
    (record { kind = c.kind_of.result; cut = c.refer_known.result }) (λ i. record { kind = c.kind_of.ensures i; cut = c.refer_known.ensures.cut i }) kind

pub returns-in-Ok-clause-rows : goal.returns-in-Ok-clause-rows
returns-in-Ok-clause-rows g c = record {
  made = record {
    middle = c.prepare.new.self.store;
    cleans = c.in-Ok.ensures.rows;
    own = c.in-Ok.ensures.own;
    its = c.args.its;
    touch = touch_by c.args.address c.args.block c.args.dirty (listing_in c.prepare.new.self.store);
    fits = c.refer_known.ensures.fits;
    at = refl;
    becomes = refl;
    after = c.refer_known.ensures.store;
    tells = λ i. record { kind = c.kind_of.ensures i; cut = c.refer_known.ensures.cut i };
  };
  failed = search rules;
  grows = referred_grows c.args.self.now.store c.prepare.new.self.store c.refer_known.new.self.store c.args.its (touch_by c.args.address c.args.block c.args.dirty (listing_in c.prepare.new.self.store)) c.refer_known.ensures.store c.prepare.ensures.geometry c.prepare.ensures.count c.prepare.ensures.rises;
}

pub returns-in-Err-clause-holds : goal.returns-in-Err-clause-holds
returns-in-Err-clause-holds g c = λ told s holds bytes carries.
    holds_fault (Unit {0}) Done (g.F.Fingerprint.printed c.args.self.now.print) c.in-Err.fault s s _ c.prepare.new.self.store (g.R.Rig.world c.prepare.new.rig) (c.in-Err.ensures.holds told s holds)

pub returns-in-Ok-clause-holds : goal.returns-in-Ok-clause-holds
returns-in-Ok-clause-holds g c = λ told s holds bytes carries.
    joined_holds (g.F.Fingerprint.printed c.args.self.now.print) c.args.self.now.store c.prepare.new.self.store (g.R.Rig.world c.args.rig.now) (g.R.Rig.world c.prepare.new.rig) s c.args.its c.args.address c.args.block c.args.dirty bytes
    c.in-Ok.ensures.rows c.refer_known.ensures.keeps c.refer_known.ensures.fits c.requires.known holds (c.in-Ok.ensures.holds told s holds) carries c.refer_known.new.self.store c.refer_known.ensures.store
