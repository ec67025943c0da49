use Rattle.std.proofs.Common.{ℕ, sym, subst}
use Rattle.std.specs.Prelude.{Result, OnOk}
use Rattle.dd_store.specs.declared.fault.StoreFault.{StoreFault}
use Rattle.dd_store.specs.Keeping.{Kept}
use Rattle.dd_store.specs.Serving.{Serves, HoldsThen}
use Rattle.dd_store.proofs.Holding.{holds_err}
use Rattle.dd_store.proofs.Serves.{serves_ok, serves_err}
use Rattle.dd_store.proofs.store.Store.flush.Goals as goal
use Rattle.dd_store.proofs.store.Store.flush.Goals.{in-Err, in-Ok}

pub returns-clause-serves : goal.returns-clause-serves
returns-clause-serves g c = λ told basis was s kept.
    let print = g.F.Fingerprint.printed c.args.self.now.print in
    let world = g.R.Rig.world c.commit.new.rig in
    let first = g.R.Rig.clock c.args.rig.now in
    let last = g.R.Rig.clock c.commit.new.rig in
    elim c.match-commit.branch [
      | in-Err w ↦ subst (λ (r : Result ℕ StoreFault). Serves {T = ℕ} basis print r first last c.commit.new.self.store world was s s) (sym w.result-is)
          (serves_err basis (Unit {0}) ℕ print first last c.commit.new.self.store world was s s w.in-Err.fault (w.in-Err.ensures.serves told basis was s kept))
      | in-Ok w ↦ subst (λ (r : Result ℕ StoreFault). Serves {T = ℕ} basis print r first last c.commit.new.self.store world was s s) (sym w.result-is)
          (serves_ok basis print first last c.commit.new.self.store world was s s tt _ (w.in-Ok.ensures.serves told basis was s kept))
    ]

pub returns-clause-committed : goal.returns-clause-committed
returns-clause-committed g c = λ told basis was s kept.
    let print = g.F.Fingerprint.printed c.args.self.now.print in
    let world = g.R.Rig.world c.commit.new.rig in
    elim c.match-commit.branch [
      | in-Err w ↦ subst (λ (r : Result ℕ StoreFault). OnOk r (Kept basis print c.commit.new.self.store world s s)) (sym w.result-is) tt
      | in-Ok w ↦ subst (λ (r : Result ℕ StoreFault). OnOk r (Kept basis print c.commit.new.self.store world s s)) (sym w.result-is) (w.in-Ok.ensures.committed told basis was s kept)
    ]

pub returns-clause-holds : goal.returns-clause-holds
returns-clause-holds g c = λ told s holds.
    let print = g.F.Fingerprint.printed c.args.self.now.print in
    let world = g.R.Rig.world c.commit.new.rig in
    elim c.match-commit.branch [
      | in-Err w ↦ subst (λ (r : Result ℕ StoreFault). HoldsThen {T = ℕ} print r s s c.commit.new.self.store world) (sym w.result-is)
          (holds_err (Unit {0}) ℕ print w.in-Err.fault s s c.commit.new.self.store world (w.in-Err.ensures.holds told s holds))
      | in-Ok w ↦ subst (λ (r : Result ℕ StoreFault). HoldsThen {T = ℕ} print r s s c.commit.new.self.store world) (sym w.result-is) (w.in-Ok.ensures.holds told s holds)
    ]
