use Rattle.std.proofs.Common.{◌∙◌, ap, subst, sym, ℕ, List, ◌++◌, length, take}
use Rattle.dd_rig.specs.Device.{IsImage}
use Rattle.dd_block.specs.Lcg.{draw}
use Rattle.dd_rigmem.specs.Pick.{picked_count}
use Rattle.dd_rigmem.proofs.Picks.{picked_image}
use Rattle.dd_rigmem.proofs.rig_mem.crash_of.Goals as goal

pub returns-clause-passes : goal.returns-clause-passes
returns-clause-passes c =
    let world = c.args.world.now in
    let x = c.pick_bytes-2.new.numbers.state in
    let flash = subst (λ d. IsImage d c.in_ok-flash.flash.items) c.flash.ensures (subst (IsImage c.flash.result.now) (sym c.in_ok-flash.ensures.bytes) (picked_image c.args.pick c.new-numbers.result.state c.flash.result.now (subst (λ d. IsImage d d.shown) (sym c.flash.ensures) c.requires.flash))) in
    let disk = subst (λ d. IsImage d c.in_ok-disk.disk.items) c.disk.ensures (subst (IsImage c.disk.result.now) (sym c.in_ok-disk.ensures.bytes) (picked_image c.args.pick c.pick_bytes.new.numbers.state c.disk.result.now (subst (λ d. IsImage d d.shown) (sym c.disk.ensures) c.requires.disk))) in (
      picked_count c.args.pick (draw x) (length c.args.unfinished.now),
      record {
        flash = flash;
        disk = disk;
        out = c.in_ok-out.ensures ∙ ap (λ (said : List ℕ). said ++ take (picked_count c.args.pick (draw x) (length c.args.unfinished.now)) c.args.unfinished.now) c.said.ensures;
      },
    )
