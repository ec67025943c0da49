use Rattle.dd_block.specs.declared.geometry.Geometry.{Geometry}
use Rattle.std.proofs.Common.{◌+◌, length, refl, ◌∙◌, ap, arith, ◌≡◌, subst}
use Rattle.std.specs.Prelude.{Ok, Err}
use Rattle.dd_rig.proofs.Falling.{frame_self, frame_trans}
use Rattle.dd_rig.proofs.Moments.{starts, goes_on}
use Rattle.dd_store.specs.Keeping.{StoreView, slots_shown}
use Rattle.dd_store.proofs.Cleaning.{cleans_then, forget_cleans}
use Rattle.dd_store.proofs.Holding.{holds_next, holds_forgotten}
use Rattle.dd_store.proofs.Keeping.{skips_unlaid, skips_then}
use Rattle.dd_store.proofs.Serves.{serves_next, unlaid_serves}
use Rattle.dd_store.proofs.store.Store.some_rounds.Goals as goal

pub rounds-init : goal.rounds-init
rounds-init g c =
    let old = c.args.self.now.store in
    let now = c.forget.new.self.store in
    let same = c.forget.ensures.store in
    record {
      serves = λ told basis was s kept. unlaid_serves basis (g.F.Fingerprint.printed c.args.self.now.print) (g.R.Rig.clock c.args.rig.now) old now (g.R.Rig.world c.args.rig.now) was s tt same kept;
      holds = λ told s holds. holds_forgotten (g.F.Fingerprint.printed c.args.self.now.print) old now (g.R.Rig.world c.args.rig.now) s same holds;
      unsaid = λ told. starts (g.R.Rig.clock c.args.rig.now) _;
      said = λ told. refl;
      slots = λ told. refl;
      rows = forget_cleans old now same;
      skips = skips_unlaid c.args.along old now same;
      up = ap (λ (v : StoreView). v.is_up) same ∙ c.requires.call.up;
      print = c.forget.ensures.print;
      forgets = ap (λ (v : StoreView). v.laid) same;
      sinks = omega (arith, ap (λ (v : StoreView). v.journal.epoch + length v.dirty) same);
      reads = omega arith;
      loads = omega (arith, ap (λ (v : StoreView). length v.dirty) same);
      frame = frame_self _ _;
    }

pub returns-in-Err-clause-serves : goal.returns-in-Err-clause-serves
returns-in-Err-clause-serves g c = λ told basis was s kept.
    let print = g.F.Fingerprint.printed in
    let world = g.R.Rig.world in
    let clock = g.R.Rig.clock in
    serves_next basis (print c.args.self.now.print) (print c.rounds.self.print) (ap print c.rounds.invariant.print) (clock c.args.rig.now) (clock c.rounds.rig) (clock c.round.new.rig)
    c.rounds.self.store c.round.new.self.store (world c.rounds.rig) (world c.round.new.rig) was s s tt (Err c.in-Err.fault)
    (c.rounds.invariant.serves told basis was s kept) (λ k held. c.in-Err.ensures.serves told basis k s held)

pub returns-in-Err-clause-failed : goal.returns-in-Err-clause-failed
returns-in-Err-clause-failed g c = λ is. cleans_then c.args.self.now.store c.rounds.self.store c.round.new.self.store c.rounds.invariant.rows (c.in-Err.ensures.failed is)

pub rounds-preserved : goal.rounds-preserved
rounds-preserved g c =
    let i = c.rounds.invariant in
    let print = g.F.Fingerprint.printed in
    let world = g.R.Rig.world in
    let clock = g.R.Rig.clock in
    record {
      serves = λ told basis was s kept.
          serves_next basis (print c.args.self.now.print) (print c.rounds.self.print) (ap print i.print) (clock c.args.rig.now) (clock c.rounds.rig) (clock c.round.new.rig)
          c.rounds.self.store c.round.new.self.store (world c.rounds.rig) (world c.round.new.rig) was s s tt (Ok tt) (i.serves told basis was s kept) (λ k held. c.in-Ok.ensures.serves told basis k s held);
      holds = λ told s holds.
          holds_next {T = Unit {0}} (print c.args.self.now.print) (print c.rounds.self.print) (ap print i.print) c.rounds.self.store c.round.new.self.store (world c.rounds.rig) (world c.round.new.rig) s s (Ok tt)
          (i.holds told s holds) (λ held. c.in-Ok.ensures.holds told s held);
      unsaid = λ told. goes_on (i.unsaid told) ((c.round.ensures.silent told).0) (λ o out. out ∙ i.said told);
      said = λ told. (c.round.ensures.silent told).1 ∙ i.said told;
      slots = λ told. subst (λ (geo : Geometry). slots_shown geo (world c.round.new.rig) ≡ slots_shown geo (world c.rounds.rig)) i.rows.geometry (c.round.ensures.slots told) ∙ i.slots told;
      rows = cleans_then c.args.self.now.store c.rounds.self.store c.round.new.self.store i.rows c.in-Ok.ensures.rows;
      skips = skips_then c.args.along c.args.self.now.store c.rounds.self.store c.round.new.self.store i.skips c.in-Ok.ensures.skips;
      up = c.in-Ok.ensures.rests.up;
      print = c.round.ensures.rests.print ∙ i.print;
      forgets = c.round.ensures.rests.forgets;
      sinks = omega (arith, i.sinks, c.in-Ok.ensures.sinks);
      reads = omega (arith, i.reads, c.round.ensures.fetches.1);
      loads = omega (arith, i.loads, c.in-Ok.ensures.loads);
      frame = frame_trans _ _ _ _ _ _ i.frame c.round.ensures.fails.1;
    }

pub returns-in-Err-clause-holds : goal.returns-in-Err-clause-holds
returns-in-Err-clause-holds g c = λ told s holds.
    let print = g.F.Fingerprint.printed in
    let world = g.R.Rig.world in
    holds_next {T = Unit {0}} (print c.args.self.now.print) (print c.rounds.self.print) (ap print c.rounds.invariant.print) c.rounds.self.store c.round.new.self.store (world c.rounds.rig) (world c.round.new.rig) s s (Err c.in-Err.fault)
    (c.rounds.invariant.holds told s holds) (λ held. c.in-Err.ensures.holds told s held)

pub returns-in-Err-clause-slots : goal.returns-in-Err-clause-slots
returns-in-Err-clause-slots g c = λ told.
    let i = c.rounds.invariant in
    let world = g.R.Rig.world in
    subst (λ (geo : Geometry). slots_shown geo (world c.round.new.rig) ≡ slots_shown geo (world c.rounds.rig)) i.rows.geometry (c.round.ensures.slots told) ∙ i.slots told
