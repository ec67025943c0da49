use Rattle.std.proofs.Common.{◌≡◌, ◌≤◌, ℕ, sym, ◌∙◌, ap, subst}
use Rattle.std.proofs.lemmas.Result.{IfOk-weaker}
use Rattle.dd_rig.specs.declared.device.Dev.{Dev}
use Rattle.dd_rig.specs.declared.device.Dev.TheVariants.{Disk}
use Rattle.dd_rig.specs.World.{World}
use Rattle.dd_rig.proofs.Moments.{goes_on_same}
use Rattle.dd_layout.specs.Layout.{disk_need}
use Rattle.dd_model.specs.State.{State}
use Rattle.dd_journal.specs.Regions.{Says}
use Rattle.dd_journal.specs.Sitting.{IsStable, Sits}
use Rattle.dd_store.specs.Keeping.{Kept}
use Rattle.dd_store.specs.Meaning.{Basis, Stands}
use Rattle.dd_recover.specs.Stages.{FoundMeans, HasFound}
use Rattle.dd_recover.proofs.FoundReading.{found_means, found_says, found_sits, ok_both}
use Rattle.dd_recover.proofs.Telling.{body_told, found_told}
use Rattle.dd_recover.proofs.open.open_settled.Goals as goal

pub returns-in_err-found-clause-fault : goal.returns-in_err-found-clause-fault
returns-in_err-found-clause-fault g c = λ told.
    body_told (g.R.Rig.device_size c.args.rig.now) (g.R.Rig.device_size c.read_geometry.new.rig) (g.R.Rig.world c.args.rig.now).flash.shown (g.R.Rig.world c.read_geometry.new.rig).flash.shown c.in_ok-geo.geo
    c.read_geometry.ensures.fails.1.1 (ap (λ (w : World). w.flash.shown) (c.read_geometry.ensures.world told)) (c.in_ok-geo.ensures.fault told) (c.in_ok-geo.ensures.geometry told)
    _ c.from_residual-in_err-found.result c.in_err-found.field-0.0 c.from_residual-in_err-found.ensures.1 (c.in_err-found.ensures.fault told)

pub returns-clause-fault : goal.returns-clause-fault
returns-clause-fault g c = λ told.
    found_told (g.R.Rig.device_size c.args.rig.now) (g.R.Rig.device_size c.read_geometry.new.rig) (g.R.Rig.world c.args.rig.now).flash.shown (g.R.Rig.world c.read_geometry.new.rig).flash.shown c.in_ok-geo.geo
    c.read_geometry.ensures.fails.1.1 (ap (λ (w : World). w.flash.shown) (c.read_geometry.ensures.world told)) (c.in_ok-geo.ensures.fault told) (c.in_ok-geo.ensures.geometry told)
    c.open_found.result c.in_ok-found.found (c.in_ok-found.ensures.fault told) (c.in_ok-found.ensures.reads told) c.open_found.ensures.fault

pub returns-clause-kept : goal.returns-clause-kept
returns-clause-kept g c = λ told.
    let old = g.R.Rig.world c.args.rig.now in
    let read = g.R.Rig.world c.read_geometry.new.rig in
    let now = g.R.Rig.world c.find_sized.new.rig in
    let print = g.F.Fingerprint.printed c.args.print in
    let geo = c.in_ok-geo.geo in
    let found = c.in_ok-found.found in
    let read_is : read ≡ old = c.read_geometry.ensures.world told in
    let now_is : now ≡ read = c.find_sized.ensures.world told in
    let same : now ≡ old = now_is ∙ read_is in
    let large : disk_need geo ≤ g.R.Rig.device_size c.find_sized.new.rig Disk = subst (λ (n : Dev → ℕ). disk_need geo ≤ n Disk) (sym c.find_sized.ensures.fails.1.1) c.in_ok-found.ensures.room.1 in
    ok_both c.open_found.result (λ opened. opened.store.journal.geo ≡ geo)
    (λ opened. (basis : Basis) (s : State) → IsStable now.flash → IsStable now.disk → disk_need geo ≤ g.R.Rig.device_size c.find_sized.new.rig Disk → FoundMeans basis print geo found now s → Kept basis print opened.store now s s)
    (λ opened. (basis : Basis) (s : State) (stands : Stands basis print old.flash.shown old.disk.shown s) → IsStable old.flash → IsStable old.disk → (opened.store.journal.geo ≡ stands.geo) × Kept basis print opened.store now s s)
    (λ opened at keeps basis s stands flash disk.
    let here = found_means print geo found c.in_ok-found.ensures.found old read now read_is now_is (c.in_ok-geo.ensures.geometry told) (c.in_ok-found.ensures.reads told) (c.in_ok-found.ensures.sits told) flash basis s stands in (
      at ∙ sym here.0,
      keeps basis s (subst (λ (w : World). IsStable w.flash) (sym same) flash) (subst (λ (w : World). IsStable w.disk) (sym same) disk) large here.1,
    ))
    c.open_found.ensures.geometry (c.open_found.ensures.kept told)

pub returns-clause-says : goal.returns-clause-says
returns-clause-says g c = λ told.
    let old = g.R.Rig.world c.args.rig.now in
    let read = g.R.Rig.world c.read_geometry.new.rig in
    let geo = c.in_ok-geo.geo in
    let found = c.in_ok-found.found in
    IfOk-weaker c.open_found.result (λ opened. HasFound geo found opened.store) (λ opened. Says old.flash.shown opened.store.journal.geo 2 opened.store.table opened.store.count)
    (λ opened has. found_says geo found opened.store old.flash.shown read.flash.shown (ap (λ (w : World). w.flash.shown) (c.read_geometry.ensures.world told)) (c.in_ok-geo.ensures.geometry told)
    c.in_ok-found.ensures.found (c.in_ok-found.ensures.reads told) has)
    c.open_found.ensures.has

pub returns-clause-sits : goal.returns-clause-sits
returns-clause-sits g c = λ told.
    let old = g.R.Rig.world c.args.rig.now in
    let now = g.R.Rig.world c.find_sized.new.rig in
    let geo = c.in_ok-geo.geo in
    let found = c.in_ok-found.found in
    IfOk-weaker c.open_found.result (λ opened. HasFound geo found opened.store) (λ opened. IsStable old.flash → Sits opened.store.journal now opened.store.table)
    (λ opened has. found_sits geo found opened.store old (g.R.Rig.world c.read_geometry.new.rig) now (c.read_geometry.ensures.world told) (c.in_ok-geo.ensures.geometry told) (c.in_ok-found.ensures.sits told) has)
    c.open_found.ensures.has

pub returns-clause-time : goal.returns-clause-time
returns-clause-time g c = λ told. goes_on_same (c.read_geometry.ensures.time told) (c.find_sized.ensures.time told)
