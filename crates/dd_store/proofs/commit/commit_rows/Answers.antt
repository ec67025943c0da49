use Rattle.dd_store.proofs.Untouched.{slots_outside}
use Rattle.std.proofs.Common.{◌≡◌, inl, ℕ, ◌∙◌, length, sym, ap, subst, arith}
use Rattle.std.specs.Prelude.{OnOk}
use Rattle.dd_rig.specs.declared.device.Dev.{Dev}
use Rattle.dd_rig.specs.declared.device.Dev.TheVariants.{Flash, Disk}
use Rattle.dd_rig.specs.Clock.{Elapses}
use Rattle.dd_rig.proofs.Moments.{starts, widens}
use Rattle.dd_record.specs.Table.{Table}
use Rattle.dd_journal.specs.Calls.{CostsOfCommit}
use Rattle.dd_journal.specs.Regions.{table_of}
use Rattle.dd_journal.specs.Sitting.{Leads, Sits, MayCommit, IsEither}
use Rattle.dd_store.specs.Committing.{with_parts, StandForEither, AllStandForEither}
use Rattle.dd_store.proofs.Moments.{elapses_both, unsaid_write}
use Rattle.dd_store.proofs.Committing.{leads, while_committing, behind_commit, committed_ok}
use Rattle.dd_store.proofs.Holding.{holds_committed, on_ok}
use Rattle.dd_store.proofs.Pace.{by_some, rises}
use Rattle.dd_store.proofs.commit.commit_rows.Goals as goal

pub commit-requires-clause-given : goal.commit-requires-clause-given
commit-requires-clause-given g c =
    let lists = c.args.lists.now in
    let same : table_of (g.L.Rows.b_rows lists) (g.L.Rows.a_rows lists) ≡ (g.L.Lists.listing lists).table = λ i. record { b = g.met.L.Lists.same_b lists i; a = g.met.L.Lists.same_a lists i } in
    subst (λ (t : Table). MayCommit c.args.journal.now t c.args.count c.args.pending.now) (sym same) c.requires.given

pub returns-clause-crash : goal.returns-clause-crash
returns-clause-crash g c = λ told basis print store was held is kept.
    let lists = c.args.lists.now in
    let same : table_of (g.L.Rows.b_rows lists) (g.L.Rows.a_rows lists) ≡ (g.L.Lists.listing lists).table = λ i. record { b = g.met.L.Lists.same_b lists i; a = g.met.L.Lists.same_a lists i } in
    let here = with_parts store c.args.journal.now (g.L.Lists.listing lists).table c.args.count c.args.pending.now in
    let world = g.R.Rig.world c.args.rig.now in
    let flash = g.met.R.Rig.shows_image c.args.rig.now Flash told in
    let disk = g.met.R.Rig.shows_image c.args.rig.now Disk told in
    let sized = g.met.R.Rig.has_size c.args.rig.now Flash told in
    let its_leads = subst (λ (t : Table). Leads c.args.journal.now world c.args.pending.now kept.rows t) (sym same) (leads basis print here world flash disk was held is kept) in
    let within = subst (λ (t : Table). Elapses (g.R.Rig.clock c.args.rig.now) (g.R.Rig.clock c.commit.new.rig) (λ o. IsEither c.args.journal.now world.flash kept.rows t c.args.count o.flash)) same
    (c.commit.ensures.crash told kept.rows its_leads) in
    by_some c.args.pending.now
    (λ none. subst (λ rig. Elapses (g.R.Rig.clock c.args.rig.now) (g.R.Rig.clock rig) (λ o. StandForEither basis print was held o.flash o.disk)) (sym (c.commit.ensures.empty none).1) (starts (g.R.Rig.clock c.args.rig.now) _))
    (λ some. widens (elapses_both within (c.commit.ensures.time told)) (while_committing basis print here world flash disk (omega (arith, sized, c.requires.flash)) was held is kept some))

pub returns-clause-now : goal.returns-clause-now
returns-clause-now g c = λ told basis print store was held is kept.
    let lists = c.args.lists.now in
    let same : table_of (g.L.Rows.b_rows lists) (g.L.Rows.a_rows lists) ≡ (g.L.Lists.listing lists).table = λ i. record { b = g.met.L.Lists.same_b lists i; a = g.met.L.Lists.same_a lists i } in
    let here = with_parts store c.args.journal.now (g.L.Lists.listing lists).table c.args.count c.args.pending.now in
    let world = g.R.Rig.world c.args.rig.now in
    let flash = g.met.R.Rig.shows_image c.args.rig.now Flash told in
    let disk = g.met.R.Rig.shows_image c.args.rig.now Disk told in
    let sized = g.met.R.Rig.has_size c.args.rig.now Flash told in
    let its_leads = subst (λ (t : Table). Leads c.args.journal.now world c.args.pending.now kept.rows t) (sym same) (leads basis print here world flash disk was held is kept) in
    let within = subst (λ (t : Table). Elapses (g.R.Rig.clock c.args.rig.now) (g.R.Rig.clock c.commit.new.rig) (λ o. IsEither c.args.journal.now world.flash kept.rows t c.args.count o.flash)) same
    (c.commit.ensures.crash told kept.rows its_leads) in
    by_some c.args.pending.now
    (λ none. subst (λ rig. AllStandForEither basis print was held (g.R.Rig.world rig)) (sym (c.commit.ensures.empty none).1) (λ left_flash left_disk flash_image disk_image. inl (kept.stands left_flash left_disk flash_image disk_image)))
    (λ some. behind_commit basis print here world flash disk (omega (arith, sized, c.requires.flash)) was held is kept some (g.R.Rig.world c.commit.new.rig)
    (g.R.Rig.clock c.args.rig.now) (g.R.Rig.clock c.commit.new.rig)
    (elapses_both within (c.commit.ensures.time told))
    (λ o left. g.met.R.Rig.only_now c.args.rig.now o told left)
    (λ o later may. g.met.R.Rig.counts_now c.commit.new.rig (g.R.Rig.clock c.args.rig.now).moment o told later may))

pub returns-clause-kept : goal.returns-clause-kept
returns-clause-kept g c = λ told basis print store was held is kept.
    let lists = c.args.lists.now in
    let same : table_of (g.L.Rows.b_rows lists) (g.L.Rows.a_rows lists) ≡ (g.L.Lists.listing lists).table = λ i. record { b = g.met.L.Lists.same_b lists i; a = g.met.L.Lists.same_a lists i } in
    let here = with_parts store c.args.journal.now (g.L.Lists.listing lists).table c.args.count c.args.pending.now in
    let world = g.R.Rig.world c.args.rig.now in
    let flash = g.met.R.Rig.shows_image c.args.rig.now Flash told in
    let disk = g.met.R.Rig.shows_image c.args.rig.now Disk told in
    let sized = g.met.R.Rig.has_size c.args.rig.now Flash told in
    let sized_now = g.met.R.Rig.has_size c.commit.new.rig Flash told in
    let its_leads = subst (λ (t : Table). Leads c.args.journal.now world c.args.pending.now kept.rows t) (sym same) (leads basis print here world flash disk was held is kept) in
    let sits = subst (λ (t : Table). OnOk c.commit.result (Sits c.commit.new.self (g.R.Rig.world c.commit.new.rig) t)) same (c.commit.ensures.sits told kept.rows its_leads) in
    committed_ok basis print here world flash disk (omega (arith, sized, c.requires.flash)) was held is kept (g.R.Rig.world c.commit.new.rig) (g.met.R.Rig.shows_image c.commit.new.rig Flash told)
    (sized_now ∙ ap (λ (size : Dev → ℕ). size Flash) c.commit.ensures.fails.frame.1 ∙ sym sized) c.commit.new.self c.commit.ensures.commits.geometry c.commit.ensures.commits.version (c.commit.ensures.outside told)
    (rises c.args.journal.now.epoch c.commit.new.self.epoch c.commit.ensures.commits.epoch) (λ none. let same = c.commit.ensures.empty none in (ap g.R.Rig.world same.1, same.2)) c.commit.result c.commit.ensures.commits.ok sits (c.commit.ensures.stable told)

pub returns-clause-costs : goal.returns-clause-costs
returns-clause-costs g c =
    let lists = c.args.lists.now in
    let same : table_of (g.L.Rows.b_rows lists) (g.L.Rows.a_rows lists) ≡ (g.L.Lists.listing lists).table = λ i. record { b = g.met.L.Lists.same_b lists i; a = g.met.L.Lists.same_a lists i } in
    subst (λ (t : Table). CostsOfCommit c.args.journal.now (length c.args.pending.now) t (g.R.Rig.counts c.args.rig.now) (g.R.Rig.counts c.commit.new.rig)) same c.commit.ensures.costs

pub returns-clause-unsaid : goal.returns-clause-unsaid
returns-clause-unsaid g c = λ told. unsaid_write Flash _ _ (g.R.Rig.world c.args.rig.now) (c.commit.ensures.time told)

pub returns-clause-holds : goal.returns-clause-holds
returns-clause-holds g c = λ told print store held is holds.
    let here = with_parts store c.args.journal.now (g.L.Lists.listing c.args.lists.now).table c.args.count c.args.pending.now in
    let old = g.R.Rig.world c.args.rig.now in
    let new = g.R.Rig.world c.commit.new.rig in
    let sized = g.met.R.Rig.has_size c.args.rig.now Flash told in
    let sized_now = g.met.R.Rig.has_size c.commit.new.rig Flash told in
    on_ok c.commit.result
    (holds_committed print here old new (g.met.R.Rig.shows_image c.args.rig.now Flash told) (g.met.R.Rig.shows_image c.commit.new.rig Flash told) (sized_now ∙ ap (λ (size : Dev → ℕ). size Flash) c.commit.ensures.fails.frame.1 ∙ sym sized)
    held is c.commit.new.self c.commit.ensures.commits.geometry (c.commit.ensures.outside told) holds)

pub returns-clause-slots : goal.returns-clause-slots
returns-clause-slots g c = λ told.
    let sized = g.met.R.Rig.has_size c.args.rig.now Flash told in
    let sized_now = g.met.R.Rig.has_size c.commit.new.rig Flash told in
    slots_outside c.args.journal.now.geo (g.R.Rig.world c.args.rig.now) (g.R.Rig.world c.commit.new.rig) (g.met.R.Rig.shows_image c.args.rig.now Flash told) (g.met.R.Rig.shows_image c.commit.new.rig Flash told)
    (sized_now ∙ ap (λ (size : Dev → ℕ). size Flash) c.commit.ensures.fails.frame.1 ∙ sym sized) (c.commit.ensures.outside told)
