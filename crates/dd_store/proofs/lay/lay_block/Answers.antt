use Rattle.dd_store.proofs.Altering.{alters_disk}
use Rattle.std.proofs.Common.{◌≡◌, ◌*◌, length, refl, ◌∙◌, ap, arith}
use Rattle.std.proofs.lemmas.Result.{on_ok_weaker}
use Rattle.dd_rig.specs.declared.device.Dev.TheVariants.{Flash, Disk}
use Rattle.dd_rig.specs.Counts.{count_write}
use Rattle.dd_store.proofs.Laying.{laid_crash, laid_kept, laid_shows}
use Rattle.dd_store.proofs.Moments.{unsaid_write}
use Rattle.dd_store.proofs.Holding.{holds_laying, holds_laid}
use Rattle.dd_store.proofs.lay.lay_block.Goals as goal

pub returns-clause-crash : goal.returns-clause-crash
returns-clause-crash g c = λ told basis print store held same is may kept.
    let flash = g.met.R.Rig.shows_image c.args.rig.now Flash told in
    let disk = g.met.R.Rig.shows_image c.args.rig.now Disk told in
    let sized = g.met.R.Rig.has_size c.args.rig.now Disk told in
    let place : c.from.result * c.from-2.result ≡ c.args.address * c.args.geo.block = cc in
    laid_crash basis print store (g.R.Rig.world c.args.rig.now) flash disk c.args.geo same (omega (arith, sized, c.requires.disk)) held is kept c.args.address may
    (c.from.result * c.from-2.result) (length c.args.from.now) place c.requires.block _ _ (c.write.ensures.time told)

pub returns-clause-kept : goal.returns-clause-kept
returns-clause-kept g c = λ told basis print store held same is may kept.
    let flash = g.met.R.Rig.shows_image c.args.rig.now Flash told in
    let disk = g.met.R.Rig.shows_image c.args.rig.now Disk told in
    let sized = g.met.R.Rig.has_size c.args.rig.now Disk told in
    let place : c.from.result * c.from-2.result ≡ c.args.address * c.args.geo.block = cc in
    laid_kept basis print store (g.R.Rig.world c.args.rig.now) flash disk c.args.geo same (omega (arith, sized, c.requires.disk)) held is kept c.args.address may
    (c.from.result * c.from-2.result) (length c.args.from.now) place c.requires.block (g.R.Rig.world c.write.new.self) (c.write.ensures.any told)

pub returns-clause-laid : goal.returns-clause-laid
returns-clause-laid g c = λ told basis print store held same is may kept content_is.
    let flash = g.met.R.Rig.shows_image c.args.rig.now Flash told in
    let disk = g.met.R.Rig.shows_image c.args.rig.now Disk told in
    let sized = g.met.R.Rig.has_size c.args.rig.now Disk told in
    let place : c.from.result * c.from-2.result ≡ c.args.address * c.args.geo.block = cc in
    on_ok_weaker c.write.result
    (laid_shows basis print store (g.R.Rig.world c.args.rig.now) flash disk c.args.geo same (omega (arith, sized, c.requires.disk)) held is kept c.args.address may
    (c.from.result * c.from-2.result) (length c.args.from.now) place c.requires.block (g.R.Rig.world c.write.new.self) c.args.from.now refl content_is (c.write.ensures.any told))
    (c.write.ensures.ok told)

pub returns-clause-counts : goal.returns-clause-counts
returns-clause-counts g c = c.write.ensures.counts ∙ ap (λ n. count_write Disk n c.write.result (g.R.Rig.counts c.args.rig.now)) c.requires.block

pub returns-clause-unsaid : goal.returns-clause-unsaid
returns-clause-unsaid g c = λ told. unsaid_write Disk _ _ (g.R.Rig.world c.args.rig.now) (c.write.ensures.time told)

pub returns-clause-holds : goal.returns-clause-holds
returns-clause-holds g c = λ told print store held same is may holds.
    let disk = g.met.R.Rig.shows_image c.args.rig.now Disk told in
    let sized = g.met.R.Rig.has_size c.args.rig.now Disk told in
    let place : c.from.result * c.from-2.result ≡ c.args.address * c.args.geo.block = cc in
    holds_laying print store (g.R.Rig.world c.args.rig.now) (g.R.Rig.world c.write.new.self) disk c.args.geo same (omega (arith, sized, c.requires.disk)) held is holds c.args.address may
    (c.from.result * c.from-2.result) (length c.args.from.now) place c.requires.block (c.write.ensures.any told)

pub returns-clause-holds_laid : goal.returns-clause-holds_laid
returns-clause-holds_laid g c = λ told print store held same is may holds content_is.
    let disk = g.met.R.Rig.shows_image c.args.rig.now Disk told in
    let sized = g.met.R.Rig.has_size c.args.rig.now Disk told in
    let place : c.from.result * c.from-2.result ≡ c.args.address * c.args.geo.block = cc in
    on_ok_weaker c.write.result
    (holds_laid print store (g.R.Rig.world c.args.rig.now) (g.R.Rig.world c.write.new.self) disk c.args.geo same (omega (arith, sized, c.requires.disk)) held is holds c.args.address may
    (c.from.result * c.from-2.result) (length c.args.from.now) place c.requires.block (c.write.ensures.any told) c.args.from.now refl content_is)
    (c.write.ensures.ok told)

pub returns-clause-flash : goal.returns-clause-flash
returns-clause-flash g c = λ told. (alters_disk (c.from.result * c.from-2.result) (length c.args.from.now) (g.R.Rig.world c.args.rig.now) (g.R.Rig.world c.write.new.self) (c.write.ensures.any told)).1
