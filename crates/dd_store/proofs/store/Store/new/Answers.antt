use Rattle.std.proofs.Common.{ℕ, ◌≤◌, [], length, true, refl, sym, ◌∙◌, ap, subst, arith}
use Rattle.dd_block.specs.declared.geometry.Geometry.{Geometry}
use Rattle.dd_layout.specs.Layout.{disk_need}
use Rattle.dd_rig.specs.declared.device.Dev.TheVariants.{Disk}
use Rattle.dd_journal.specs.Sitting.{JournalView}
use Rattle.dd_store.specs.Keeping.{StoreView, IsStore, Kept}
use Rattle.dd_store.specs.Meaning.{HasBehind, Means}
use Rattle.dd_store.specs.Saving.{AreUsesOf}
use Rattle.dd_store.specs.Serving.{store_of}
use Rattle.dd_store.proofs.Opening.{kept_new, new_is, made_of, uses_of, slots_of}
use Rattle.dd_store.proofs.store.Store.new.Goals as goal

pub invariant_of-result-2 : goal.invariant_of-result-2
invariant_of-result-2 g c =
    let lists = g.L.Lists.listing c.args.lists in
    let uses : AreUsesOf c.args.geo lists.table.b c.in_ok-slots.slots.uses =
    uses_of c.args.geo c.slot_at.result c.slots-2.result c.slots.result c.as_slice.result.now c.in_ok-used.used.items c.in_ok-slots.slots c.in_ok-slots.ensures c.slots-2.ensures c.slots.ensures lists.table.b
    c.as_slice.ensures.value c.in_ok-used.ensures.each in
    let is = new_is c.args.geo c.args.journal lists c.args.count c.in_ok-slots.slots.uses (g.met.L.Lists.kept c.args.lists) c.requires.rows c.requires.up c.requires.geometry c.requires.version c.requires.count uses in (
      ap (λ (j : JournalView). j.geo) c.journal.view_is ∙ c.requires.geometry,
      omega (arith, c.in_ok-vec.ensures.len),
      omega (arith, c.in_ok-with_capacity-2.ensures.capacity),
      omega (arith, c.in_ok-with_capacity.ensures.capacity),
      slots_of c.args.geo c.slot_at.result c.slots-2.result c.slots.result c.as_slice.result.now c.in_ok-used.used.items c.in_ok-slots.slots c.in_ok-slots.ensures c.slots-2.ensures c.slots.ensures c.slot_at.ensures,
      c.requires.limits,
      omega (arith, ap length c.in_ok-with_capacity-2.ensures.items),
      λ up. made_of (λ (v : StoreView). IsStore v) c.args.journal _ lists c.args.count c.in_ok-slots.slots.uses c.in_ok-with_capacity.field-0.items c.in_ok-with_capacity-2.field-0.items
          c.journal.view_is c.in_ok-with_capacity.ensures.items c.in_ok-with_capacity-2.ensures.items is,
      omega (arith, ap length c.in_ok-with_capacity.ensures.items),
    )

pub returns-clause-kept : goal.returns-clause-kept
returns-clause-kept g c = λ told basis s flash disk large sits pace behind means.
    let lists = g.L.Lists.listing c.args.lists in
    let world = g.R.Rig.world c.args.rig.now in
    let print = g.F.Fingerprint.printed c.args.print in
    let uses : AreUsesOf c.args.geo lists.table.b c.in_ok-slots.slots.uses =
    uses_of c.args.geo c.slot_at.result c.slots-2.result c.slots.result c.as_slice.result.now c.in_ok-used.used.items c.in_ok-slots.slots c.in_ok-slots.ensures c.slots-2.ensures c.slots.ensures lists.table.b
    c.as_slice.ensures.value c.in_ok-used.ensures.each in
    let is = new_is c.args.geo c.args.journal lists c.args.count c.in_ok-slots.slots.uses (g.met.L.Lists.kept c.args.lists) c.requires.rows c.requires.up c.requires.geometry c.requires.version c.requires.count uses in
    let sized : disk_need c.args.journal.geo ≤ length world.disk.stable =
    subst (λ (m : ℕ). m ≤ length world.disk.stable) (ap disk_need (sym c.requires.geometry)) (omega (arith, large, g.met.R.Rig.has_size c.args.rig.now Disk told)) in
    made_of (λ (v : StoreView). Kept basis print v world s s) c.args.journal _ lists c.args.count c.in_ok-slots.slots.uses c.in_ok-with_capacity.field-0.items c.in_ok-with_capacity-2.field-0.items
    c.journal.view_is c.in_ok-with_capacity.ensures.items c.in_ok-with_capacity-2.ensures.items
    (kept_new basis print (store_of true c.args.journal lists c.args.count [] c.in_ok-slots.slots.uses []) world s refl is refl refl flash disk sized sits pace
    (subst (λ (geo : Geometry). HasBehind basis geo world.flash.shown world.disk.shown) (sym c.requires.geometry) behind)
    (subst (λ (geo : Geometry). Means print geo world.flash.shown world.disk.shown lists.table c.args.count s) (sym c.requires.geometry) means))
