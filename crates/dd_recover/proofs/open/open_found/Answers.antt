use Rattle.std.proofs.Common.{◌≡◌, ◌≤◌, []}
use Rattle.dd_rig.specs.declared.device.Dev.TheVariants.{Disk}
use Rattle.dd_layout.specs.Layout.{disk_need}
use Rattle.dd_model.specs.State.{State}
use Rattle.dd_journal.specs.Sitting.{IsStable, Sits}
use Rattle.dd_store.specs.Keeping.{Kept}
use Rattle.dd_store.specs.Meaning.{HasBehind, Basis, KeepsPace, Means}
use Rattle.dd_store.specs.Serving.{store_of}
use Rattle.dd_recover.specs.Opening.{IsOpened}
use Rattle.dd_recover.specs.Stages.{FoundMeans}
use Rattle.dd_recover.proofs.Opened.{ok_along, opened_is, found_kept}
use Rattle.dd_recover.proofs.open.open_found.Goals as goal

pub returns-clause-opened : goal.returns-clause-opened
returns-clause-opened g c = λ flash disk.
    let lists = g.L.Lists.listing c.in_ok-lists.lists in
    ok_along _ _ _ (λ new. new.store ≡ store_of _ c.args.found.journal lists c.committed-count.result [] new.store.uses []) (λ new. IsOpened new.store (g.R.Rig.device_size c.args.rig.now)) _ c.new.result c.map_err.result
    c.map_err.ensures.cases c.map_err.ensures.variant
    (λ new same. opened_is c.args.geo c.args.found c.requires lists c.committed-count.result (g.R.Rig.device_size c.args.rig.now) new.store
    (g.met.L.Lists.kept c.in_ok-lists.lists) c.in_ok-lists.ensures.limits c.committed-count.ensures flash disk same)
    c.new.ensures.store

pub returns-clause-kept : goal.returns-clause-kept
returns-clause-kept g c = λ told.
    let world = g.R.Rig.world c.args.rig.now in
    let print = g.F.Fingerprint.printed c.args.print in
    let rows = (g.L.Lists.listing c.in_ok-lists.lists).table in
    ok_along _ _ _
    (λ new. (basis : Basis) (s : State) → IsStable world.flash → IsStable world.disk → disk_need c.args.geo ≤ g.R.Rig.device_size c.args.rig.now Disk → Sits c.args.found.journal world rows → KeepsPace basis.room c.args.found.journal.epoch rows.a c.committed-count.result → HasBehind basis c.args.geo world.flash.shown world.disk.shown
    → Means print c.args.geo world.flash.shown world.disk.shown rows c.committed-count.result s → Kept basis print new.store world s s)
    (λ new. (basis : Basis) (s : State) → IsStable world.flash → IsStable world.disk → disk_need c.args.geo ≤ g.R.Rig.device_size c.args.rig.now Disk → FoundMeans basis print c.args.geo c.args.found world s
    → Kept basis print new.store world s s)
    _ c.new.result c.map_err.result c.map_err.ensures.cases c.map_err.ensures.variant
    (λ new keeps basis s flash disk large means.
    found_kept basis print c.args.geo c.args.found world s rows c.committed-count.result new.store c.in_ok-lists.ensures.replayed c.committed-count.ensures (keeps basis s flash disk large) means)
    (c.new.ensures.kept told)
