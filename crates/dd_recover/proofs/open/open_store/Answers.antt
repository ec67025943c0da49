use Rattle.std.proofs.Common.{rules, ◌∙◌}
use Rattle.dd_rig.specs.declared.device.Dev.TheVariants.{Flash, Disk}
use Rattle.dd_rig.proofs.Moments.{starts}
use Rattle.dd_recover.proofs.Settled.{own_still, settled_stable, kept_settled, holds_settled}
use Rattle.dd_recover.proofs.Telling.{told_along}
use Rattle.dd_recover.proofs.Young.{opens_settled}
use Rattle.dd_recover.proofs.open.open_store.Goals as goal

-- what a failed sync leaves
pub returns-in_err-sync_both-clause-leaves : goal.returns-in_err-sync_both-clause-leaves
returns-in_err-sync_both-clause-leaves g c = λ told.
    let clock = g.R.Rig.clock c.args.rig.now in
    record {
      shows = c.sync_both.ensures.shows told;
      said = c.sync_both.ensures.said told;
      own = own_still (g.R.Rig.world c.args.rig.now) (g.R.Rig.world c.sync_both.new.rig) clock (g.R.Rig.clock c.sync_both.new.rig) (g.R.Rig.clock c.sync_both.new.rig) (c.sync_both.ensures.time told) (starts (g.R.Rig.clock c.sync_both.new.rig) (λ o. ⊥))
          (λ o left. g.met.R.Rig.only_now c.args.rig.now o told left)
          (λ o later may. g.met.R.Rig.counts_now c.sync_both.new.rig clock.moment o told later may);
      stable = search rules;
    }

-- the answer by what was shown and by the sizes before the syncs
pub returns-clause-fault : goal.returns-clause-fault
returns-clause-fault g c = λ told.
    told_along c.open_settled.result (g.R.Rig.device_size c.args.rig.now) (g.R.Rig.device_size c.sync_both.new.rig) (g.R.Rig.world c.args.rig.now).flash.shown (g.R.Rig.world c.sync_both.new.rig).flash.shown
    c.sync_both.ensures.fails.1.1 (c.sync_both.ensures.shows told Flash) (c.open_settled.ensures.fault told)

pub returns-clause-opens : goal.returns-clause-opens
returns-clause-opens g c = λ told.
    let old = g.R.Rig.world c.args.rig.now in
    let synced = g.R.Rig.world c.sync_both.new.rig in
    let now = g.R.Rig.world c.open_settled.new.rig in
    let print = g.F.Fingerprint.printed c.args.print in
    let flash = g.met.R.Rig.shows_image c.args.rig.now Flash told in
    let disk = g.met.R.Rig.shows_image c.args.rig.now Disk told in
    opens_settled _ c.args.print print c.open_settled.result old.flash.shown old.disk.shown now (g.R.Rig.device_size c.args.rig.now)
    (flash.same_length ∙ g.met.R.Rig.has_size c.args.rig.now Flash told) (disk.same_length ∙ g.met.R.Rig.has_size c.args.rig.now Disk told)
    (returns-clause-fault g c told) c.open_settled.ensures.print (kept_settled _ print c.open_settled.result old synced now (c.in_ok-sync_both.ensures.ok told) (c.open_settled.ensures.kept told))

pub returns-clause-holds : goal.returns-clause-holds
returns-clause-holds g c = λ told.
    holds_settled _ (g.F.Fingerprint.printed c.args.print) c.open_settled.result (g.R.Rig.world c.args.rig.now) (g.R.Rig.world c.sync_both.new.rig) (g.R.Rig.world c.open_settled.new.rig)
    (c.in_ok-sync_both.ensures.ok told) (c.open_settled.ensures.says told) (c.open_settled.ensures.sits told) (c.open_settled.ensures.kept told)

pub returns-clause-leaves : goal.returns-clause-leaves
returns-clause-leaves g c = λ told.
    let clock = g.R.Rig.clock c.args.rig.now in
    record {
      shows = search rules;
      said = search rules;
      own = own_still (g.R.Rig.world c.args.rig.now) (g.R.Rig.world c.open_settled.new.rig) clock (g.R.Rig.clock c.sync_both.new.rig) (g.R.Rig.clock c.open_settled.new.rig) (c.sync_both.ensures.time told) (c.open_settled.ensures.time told)
          (λ o left. g.met.R.Rig.only_now c.args.rig.now o told left)
          (λ o later may. g.met.R.Rig.counts_now c.open_settled.new.rig clock.moment o told later may);
      stable = λ synced. settled_stable (g.R.Rig.world c.args.rig.now) (g.R.Rig.world c.sync_both.new.rig) (g.R.Rig.world c.open_settled.new.rig) (c.in_ok-sync_both.ensures.ok told) (c.open_settled.ensures.world told);
    }
