use Rattle.dd_store.proofs.Holding.{holds_fault, holds_down}
use Rattle.std.proofs.Common.{refl, sym, ◌∙◌, ap, subst, Ok, Err, rules}
use Rattle.dd_block.specs.declared.geometry.Geometry.{Geometry}
use Rattle.dd_record.specs.declared.rec.Rec.TheVariants.{Store}
use Rattle.dd_model.specs.declared.done.Cut.{Cut}
use Rattle.dd_model.specs.declared.done.Done.{Done}
use Rattle.dd_model.specs.declared.given.Block.TheVariants.{Fresh}
use Rattle.dd_model.specs.Listing.{touch_by}
use Rattle.dd_model.specs.Reference.{reference, Tells}
use Rattle.dd_store.specs.Bringing.{answer_for}
use Rattle.dd_store.specs.Keeping.{Kept, Holds}
use Rattle.dd_store.specs.Meaning.{sizes_of}
use Rattle.dd_store.specs.Referring.{listing_in}
use Rattle.dd_store.specs.Serving.{Serves}
use Rattle.dd_store.proofs.Brought.{serves_fault}
use Rattle.dd_store.proofs.Prepared.{anew_still}
use Rattle.dd_store.proofs.Serves.{serves_then, serves_ok}
use Rattle.dd_store.proofs.Growing.{referred_grows}
use Rattle.dd_store.proofs.store.Store.enter.Goals as goal

pub refer_fresh-requires-clause-anew : goal.refer_fresh-requires-clause-anew
refer_fresh-requires-clause-anew g c = anew_still c.args.self.now.store c.prepare.new.self.store c.in-Ok.ensures.rows c.args.dirty c.args.address c.requires.anew

pub returns-in-Err-clause-serves : goal.returns-in-Err-clause-serves
returns-in-Err-clause-serves g c = λ told basis was s kept printed some unknown read.
    serves_fault basis (Unit {0}) Done (g.F.Fingerprint.printed c.args.self.now.print) (g.R.Rig.clock c.args.rig.now) (g.R.Rig.clock c.prepare.new.rig) c.prepare.new.self.store (g.R.Rig.world c.prepare.new.rig) was s s _
    c.in-Err.fault (c.in-Err.ensures.serves told basis was s kept)

pub returns-in-Err-refer_fresh-clause-serves : goal.returns-in-Err-refer_fresh-clause-serves
returns-in-Err-refer_fresh-clause-serves g c = λ told basis was s kept printed some unknown read.
    let print = g.F.Fingerprint.printed c.args.self.now.print in
    let first = g.R.Rig.clock c.args.rig.now in
    let second = g.R.Rig.clock c.prepare.new.rig in
    let last = g.R.Rig.clock c.refer_fresh.new.rig in
    let after = g.R.Rig.world c.refer_fresh.new.rig in
    let roomy = c.in-Ok.ensures.serves told basis was s kept in
    serves_fault basis Cut Done print first last c.refer_fresh.new.self.store after was s (reference (sizes_of c.prepare.new.self.store.journal.geo) s c.args.address c.args.block.now) _ c.in-Err-refer_fresh.fault
    (serves_then basis print first second last c.prepare.new.self.store c.refer_fresh.new.self.store (g.R.Rig.world c.prepare.new.rig) after was s (reference (sizes_of c.prepare.new.self.store.journal.geo) s c.args.address c.args.block.now)
    (Err c.in-Err-refer_fresh.fault) roomy.crash roomy.leaves
    (λ k held.
    subst (λ f. Serves {T = Cut} basis (g.F.Fingerprint.printed f) (Err c.in-Err-refer_fresh.fault) second last c.refer_fresh.new.self.store after k s (reference (sizes_of c.prepare.new.self.store.journal.geo) s c.args.address c.args.block.now)) c.prepare.ensures.rests.print
    (c.in-Err-refer_fresh.ensures.serves told basis k s (subst (λ f. Kept basis (g.F.Fingerprint.printed f) c.prepare.new.self.store (g.R.Rig.world c.prepare.new.rig) k s) (sym c.prepare.ensures.rests.print) held)
    (printed ∙ ap (λ f. g.F.Fingerprint.printed f c.args.block.now) (sym c.prepare.ensures.rests.print)) some unknown read)))

pub returns-in-Ok-refer_fresh-clause-serves : goal.returns-in-Ok-refer_fresh-clause-serves
returns-in-Ok-refer_fresh-clause-serves g c = λ told basis was s kept printed some unknown read.
    let print = g.F.Fingerprint.printed c.args.self.now.print in
    let first = g.R.Rig.clock c.args.rig.now in
    let second = g.R.Rig.clock c.prepare.new.rig in
    let last = g.R.Rig.clock c.refer_fresh.new.rig in
    let after = g.R.Rig.world c.refer_fresh.new.rig in
    let roomy = c.in-Ok.ensures.serves told basis was s kept in
    subst (λ (geo : Geometry). Serves {T = Done} basis print (Ok (record { kind = c.fresh_kind.result; cut = c.in-Ok-refer_fresh.cut })) first last c.refer_fresh.new.self.store after was s (reference (sizes_of geo) s c.args.address c.args.block.now)) c.in-Ok.ensures.rows.geometry
    (serves_ok basis print first last c.refer_fresh.new.self.store after was s (reference (sizes_of c.prepare.new.self.store.journal.geo) s c.args.address c.args.block.now) c.in-Ok-refer_fresh.cut (record { kind = c.fresh_kind.result; cut = c.in-Ok-refer_fresh.cut })
    (serves_then basis print first second last c.prepare.new.self.store c.refer_fresh.new.self.store (g.R.Rig.world c.prepare.new.rig) after was s (reference (sizes_of c.prepare.new.self.store.journal.geo) s c.args.address c.args.block.now)
    (Ok c.in-Ok-refer_fresh.cut) roomy.crash roomy.leaves
    (λ k held.
    subst (λ f. Serves {T = Cut} basis (g.F.Fingerprint.printed f) (Ok c.in-Ok-refer_fresh.cut) second last c.refer_fresh.new.self.store after k s (reference (sizes_of c.prepare.new.self.store.journal.geo) s c.args.address c.args.block.now)) c.prepare.ensures.rests.print
    (c.in-Ok-refer_fresh.ensures.serves told basis k s (subst (λ f. Kept basis (g.F.Fingerprint.printed f) c.prepare.new.self.store (g.R.Rig.world c.prepare.new.rig) k s) (sym c.prepare.ensures.rests.print) held)
    (printed ∙ ap (λ f. g.F.Fingerprint.printed f c.args.block.now) (sym c.prepare.ensures.rests.print)) some unknown read))))

pub returns-in-Ok-refer_fresh-clause-tells : goal.returns-in-Ok-refer_fresh-clause-tells
returns-in-Ok-refer_fresh-clause-tells g c = λ told s holds printed some unknown read.
    let middle = g.R.Rig.world c.prepare.new.rig in
    let held : Holds (g.F.Fingerprint.printed c.prepare.new.self.print) c.prepare.new.self.store middle s =
    subst (λ f. Holds (g.F.Fingerprint.printed f) c.prepare.new.self.store middle s) (sym c.prepare.ensures.rests.print) (c.in-Ok.ensures.holds told s holds) in
    let told_it = c.in-Ok-refer_fresh.ensures.tells told s held (printed ∙ ap (λ f. g.F.Fingerprint.printed f c.args.block.now) (sym c.prepare.ensures.rests.print)) some unknown read in
    subst (λ f. Tells (g.F.Fingerprint.printed f) (record { kind = c.fresh_kind.result; cut = c.in-Ok-refer_fresh.cut }) (answer_for c.args.dirty (sizes_of c.args.self.now.store.journal.geo) s c.args.address c.args.block.now)) c.prepare.ensures.rests.print
    (subst (λ (geo : Geometry). Tells (g.F.Fingerprint.printed c.prepare.new.self.print) (record { kind = c.fresh_kind.result; cut = c.in-Ok-refer_fresh.cut }) (answer_for c.args.dirty (sizes_of geo) s c.args.address c.args.block.now)) c.in-Ok.ensures.rows.geometry
    (subst (λ k. Tells (g.F.Fingerprint.printed c.prepare.new.self.print) (record { kind = k; cut = c.in-Ok-refer_fresh.cut }) (answer_for c.args.dirty (sizes_of c.prepare.new.self.store.journal.geo) s c.args.address c.args.block.now)) (sym c.fresh_kind.ensures) told_it))

pub returns-in-Ok-refer_fresh-clause-rows : goal.returns-in-Ok-refer_fresh-clause-rows
returns-in-Ok-refer_fresh-clause-rows g c =
    let enters = c.in-Ok-refer_fresh.ensures.rows in
    record {
      made = record {
        middle = c.prepare.new.self.store;
        cleans = c.in-Ok.ensures.rows;
        own = c.in-Ok.ensures.own;
        its = Store c.args.address enters.slot c.args.fp c.args.dirty;
        touch = touch_by c.args.address (Fresh (record { slot = enters.slot; fp = c.args.fp })) c.args.dirty (listing_in c.prepare.new.self.store);
        fits = enters.fits;
        at = refl;
        becomes = refl;
        after = enters.after;
        tells = λ i. record { kind = c.fresh_kind.ensures i; cut = enters.falls i };
      };
      failed = search rules;
      grows = referred_grows c.args.self.now.store c.prepare.new.self.store c.refer_fresh.new.self.store (Store c.args.address enters.slot c.args.fp c.args.dirty) (touch_by c.args.address (Fresh (record { slot = enters.slot; fp = c.args.fp })) c.args.dirty (listing_in c.prepare.new.self.store)) enters.after c.prepare.ensures.geometry c.prepare.ensures.count c.prepare.ensures.rises;
    }

pub returns-in-Err-clause-holds : goal.returns-in-Err-clause-holds
returns-in-Err-clause-holds g c = λ told s holds printed some unknown read.
    holds_fault (Unit {0}) Done (g.F.Fingerprint.printed c.args.self.now.print) c.in-Err.fault s s _ c.prepare.new.self.store (g.R.Rig.world c.prepare.new.rig) (c.in-Err.ensures.holds told s holds)

pub returns-in-Err-refer_fresh-clause-holds : goal.returns-in-Err-refer_fresh-clause-holds
returns-in-Err-refer_fresh-clause-holds g c = λ told s holds printed some unknown read.
    holds_down Done (g.F.Fingerprint.printed c.args.self.now.print) c.in-Err-refer_fresh.fault c.in-Err-refer_fresh.ensures.fault s _ c.refer_fresh.new.self.store (g.R.Rig.world c.refer_fresh.new.rig)

pub returns-in-Ok-refer_fresh-clause-holds : goal.returns-in-Ok-refer_fresh-clause-holds
returns-in-Ok-refer_fresh-clause-holds g c = λ told s holds printed some unknown read.
    let print = g.F.Fingerprint.printed c.args.self.now.print in
    let middle = g.R.Rig.world c.prepare.new.rig in
    let after = g.R.Rig.world c.refer_fresh.new.rig in
    let held : Holds (g.F.Fingerprint.printed c.prepare.new.self.print) c.prepare.new.self.store middle s =
    subst (λ f. Holds (g.F.Fingerprint.printed f) c.prepare.new.self.store middle s) (sym c.prepare.ensures.rests.print) (c.in-Ok.ensures.holds told s holds) in
    subst (λ (geo : Geometry). Holds print c.refer_fresh.new.self.store after (reference (sizes_of geo) s c.args.address c.args.block.now)) c.in-Ok.ensures.rows.geometry
    (subst (λ f. Holds (g.F.Fingerprint.printed f) c.refer_fresh.new.self.store after (reference (sizes_of c.prepare.new.self.store.journal.geo) s c.args.address c.args.block.now)) c.prepare.ensures.rests.print
    (c.in-Ok-refer_fresh.ensures.holds told s held (printed ∙ ap (λ f. g.F.Fingerprint.printed f c.args.block.now) (sym c.prepare.ensures.rests.print)) some unknown read))
