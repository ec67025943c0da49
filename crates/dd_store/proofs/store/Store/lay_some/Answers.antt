use Rattle.std.proofs.Common.{◌≡◌, ℕ, ◌≤◌, List, [], length, take, refl, sym, ◌∙◌, ap, subst, true, false, arith}
use Rattle.std.proofs.lemmas.Grind.{common_steps}
use Rattle.dd_block.specs.declared.geometry.Geometry.{Geometry}
use Rattle.dd_rig.specs.declared.device.Dev.TheVariants.{Flash, Disk}
use Rattle.dd_store.specs.Keeping.{StoreView, IsStore, Holds, Kept}
use Rattle.dd_store.specs.Laying.{MayLayAll}
use Rattle.dd_store.specs.Rounds.{walk_of, has_along}
use Rattle.dd_store.specs.Serving.{StoreOf, store_of, unlaid}
use Rattle.dd_store.proofs.Flushing.{unlaid_is, kept_unlaid}
use Rattle.dd_store.proofs.Holding.{holds_unlaid, holds_read_failed, holds_write_failed}
use Rattle.dd_store.proofs.Keeping.{passes_first}
use Rattle.dd_store.proofs.LayingAll.{gathered_dirty, gathered_few, gathered_may, gathered_some, laid_all_is, rows_placed}
use Rattle.dd_store.proofs.LayingOne.{one_state, lay_serves, read_fails, write_fails}
use Rattle.dd_store.proofs.store.Store.lay_some.Goals as goal

pub lay_all-requires-clause-rows : goal.lay_all-requires-clause-rows
lay_all-requires-clause-rows g c =
    let i = c.self.inside in
    let was : StoreView = store_of i.up i.journal (g.L.Lists.listing i.lists) i.count i.pending.items i.slots.uses i.laid.items in
    let is : IsStore was = c.self.invariant.7 (ap (λ (v : StoreOf g.row.F.Denot). v.store.is_up) c.self.view_is ∙ c.requires.call.up) in
    rows_placed was i.geo c.self.invariant.0 is

pub lay_all-requires-clause-dirty : goal.lay_all-requires-clause-dirty
lay_all-requires-clause-dirty g c =
    let i = c.self.inside in
    let lists = g.L.Lists.listing i.lists in
    let referrers = g.L.Lists.referrers i.lists in
    let first : c.as_slice.result.now ≡ take i.geo.group (walk_of c.args.along lists.dirty referrers) = c.as_slice.ensures.value ∙ c.gather.ensures.first in
    gathered_dirty lists referrers (g.met.L.Lists.kept i.lists) (λ slot. g.met.L.Lists.walked i.lists slot) c.args.along i.geo.group c.as_slice.result.now first

pub invariant_of-self : goal.invariant_of-self
invariant_of-self g c =
    let i = c.self.inside in
    let lists = g.L.Lists.listing i.lists in
    let referrers = g.L.Lists.referrers i.lists in
    let was : StoreView = store_of i.up i.journal lists i.count i.pending.items i.slots.uses i.laid.items in
    let is : IsStore was = c.self.invariant.7 (ap (λ (v : StoreOf g.row.F.Denot). v.store.is_up) c.self.view_is ∙ c.requires.call.up) in
    let none : was.pending ≡ [] = ap (λ (v : StoreOf g.row.F.Denot). v.store.pending) c.self.view_is ∙ c.requires.none in
    let most : i.geo.group ≤ was.journal.geo.group = omega (arith, ap (λ (geo : Geometry). geo.group) c.self.invariant.0) in
    let ns = c.gather.new.into.items in (
      c.self.invariant.0,
      grind (arith, common_steps),
      omega (arith, c.self.invariant.2, c.clear.ensures.capacity, c.gather.ensures.capacity),
      c.self.invariant.3,
      c.self.invariant.4,
      c.self.invariant.5,
      gathered_few lists referrers (g.met.L.Lists.kept i.lists) (λ slot. g.met.L.Lists.walked i.lists slot) c.args.along i.geo.group ns c.gather.ensures.first,
      λ up. laid_all_is (unlaid was) ns (unlaid_is was is) (gathered_may lists referrers (g.met.L.Lists.kept i.lists) (λ slot. g.met.L.Lists.walked i.lists slot) c.args.along i.geo.group ns c.gather.ensures.first was refl none most),
      c.self.invariant.8,
    )

pub invariant_of-self-in-FlashRead : goal.invariant_of-self-in-FlashRead
invariant_of-self-in-FlashRead g c =
    let i = c.self.inside in
    let lists = g.L.Lists.listing i.lists in
    let referrers = g.L.Lists.referrers i.lists in
    let was : StoreView = store_of i.up i.journal lists i.count i.pending.items i.slots.uses i.laid.items in
    let is : IsStore was = c.self.invariant.7 (ap (λ (v : StoreOf g.row.F.Denot). v.store.is_up) c.self.view_is ∙ c.requires.call.up) in (
      c.self.invariant.0,
      grind (arith, common_steps),
      omega (arith, c.self.invariant.2, c.clear.ensures.capacity, c.gather.ensures.capacity, c.clear-in-Err.ensures.capacity),
      c.self.invariant.3,
      c.self.invariant.4,
      c.self.invariant.5,
      omega (arith, ap (λ (ns : List ℕ). length ns) c.clear-in-Err.ensures.items),
      λ up. subst (λ (ns : List ℕ). IsStore (record was { laid = ns })) (sym c.clear-in-Err.ensures.items) (unlaid_is was is),
      c.self.invariant.8,
    )

pub returns-in-Ok-clause-some : goal.returns-in-Ok-clause-some
returns-in-Ok-clause-some g c =
    let i = c.self.inside in
    let lists = g.L.Lists.listing i.lists in
    let referrers = g.L.Lists.referrers i.lists in
    let was : StoreView = store_of i.up i.journal lists i.count i.pending.items i.slots.uses i.laid.items in
    let is : IsStore was = c.self.invariant.7 (ap (λ (v : StoreOf g.row.F.Denot). v.store.is_up) c.self.view_is ∙ c.requires.call.up) in
    let has : has_along c.args.along was ≡ true = ap (λ (v : StoreOf g.row.F.Denot). has_along c.args.along v.store) c.self.view_is ∙ c.requires.some in
    gathered_some lists referrers (g.met.L.Lists.kept i.lists) (λ slot. g.met.L.Lists.walked i.lists slot) c.args.along i.geo.group c.gather.new.into.items c.gather.ensures.first was (omega (arith, i.geo.group_least)) refl refl has

pub returns-in-Ok-clause-serves : goal.returns-in-Ok-clause-serves
returns-in-Ok-clause-serves g c = λ told basis was_it s kept.
    let i = c.self.inside in
    let lists = g.L.Lists.listing i.lists in
    let referrers = g.L.Lists.referrers i.lists in
    let was : StoreView = store_of i.up i.journal lists i.count i.pending.items i.slots.uses i.laid.items in
    let is : IsStore was = c.self.invariant.7 (ap (λ (v : StoreOf g.row.F.Denot). v.store.is_up) c.self.view_is ∙ c.requires.call.up) in
    let none : was.pending ≡ [] = ap (λ (v : StoreOf g.row.F.Denot). v.store.pending) c.self.view_is ∙ c.requires.none in
    let most : i.geo.group ≤ was.journal.geo.group = omega (arith, ap (λ (geo : Geometry). geo.group) c.self.invariant.0) in
    let first : c.as_slice.result.now ≡ take i.geo.group (walk_of c.args.along lists.dirty referrers) = c.as_slice.ensures.value ∙ c.gather.ensures.first in
    let may : MayLayAll (unlaid was) c.as_slice.result.now = gathered_may lists referrers (g.met.L.Lists.kept i.lists) (λ slot. g.met.L.Lists.walked i.lists slot) c.args.along i.geo.group c.as_slice.result.now first was refl none most in
    let world = g.R.Rig.world c.args.rig.now in
    let print = g.F.Fingerprint.printed c.args.self.now.print in
    let its : Kept basis print was world was_it s = subst (λ (v : StoreOf g.row.F.Denot). Kept basis print v.store world was_it s) (sym c.self.view_is) kept in
    let one : Kept basis print (unlaid was) world s s =
    kept_unlaid basis print was world s s (one_state basis print was world (g.met.R.Rig.shows_image c.args.rig.now Flash told) (g.met.R.Rig.shows_image c.args.rig.now Disk told) was_it s is its none) in
    lay_serves basis print (g.R.Rig.world c.lay_all.new.rig) was_it s (g.R.Rig.clock c.args.rig.now) (g.R.Rig.clock c.lay_all.new.rig)
    (c.lay_all.ensures.crash told basis print (unlaid was) s c.self.invariant.0 refl (unlaid_is was is) may one) tt (record was { laid = c.gather.new.into.items })
    (subst (λ (ns : List ℕ). Kept basis print (record was { laid = ns }) (g.R.Rig.world c.lay_all.new.rig) s s) c.as_slice.ensures.value
    (c.in-Ok.ensures.laid told basis print (unlaid was) s c.self.invariant.0 refl (unlaid_is was is) may one))

pub returns-in-FlashRead-clause-serves : goal.returns-in-FlashRead-clause-serves
returns-in-FlashRead-clause-serves g c = λ told basis was_it s kept.
    let i = c.self.inside in
    let lists = g.L.Lists.listing i.lists in
    let referrers = g.L.Lists.referrers i.lists in
    let was : StoreView = store_of i.up i.journal lists i.count i.pending.items i.slots.uses i.laid.items in
    let is : IsStore was = c.self.invariant.7 (ap (λ (v : StoreOf g.row.F.Denot). v.store.is_up) c.self.view_is ∙ c.requires.call.up) in
    let none : was.pending ≡ [] = ap (λ (v : StoreOf g.row.F.Denot). v.store.pending) c.self.view_is ∙ c.requires.none in
    let most : i.geo.group ≤ was.journal.geo.group = omega (arith, ap (λ (geo : Geometry). geo.group) c.self.invariant.0) in
    let first : c.as_slice.result.now ≡ take i.geo.group (walk_of c.args.along lists.dirty referrers) = c.as_slice.ensures.value ∙ c.gather.ensures.first in
    let may : MayLayAll (unlaid was) c.as_slice.result.now = gathered_may lists referrers (g.met.L.Lists.kept i.lists) (λ slot. g.met.L.Lists.walked i.lists slot) c.args.along i.geo.group c.as_slice.result.now first was refl none most in
    let world = g.R.Rig.world c.args.rig.now in
    let print = g.F.Fingerprint.printed c.args.self.now.print in
    let its : Kept basis print was world was_it s = subst (λ (v : StoreOf g.row.F.Denot). Kept basis print v.store world was_it s) (sym c.self.view_is) kept in
    let one : Kept basis print (unlaid was) world s s =
    kept_unlaid basis print was world s s (one_state basis print was world (g.met.R.Rig.shows_image c.args.rig.now Flash told) (g.met.R.Rig.shows_image c.args.rig.now Disk told) was_it s is its none) in
    read_fails basis print (g.R.Rig.world c.lay_all.new.rig) was_it s (g.R.Rig.clock c.args.rig.now) (g.R.Rig.clock c.lay_all.new.rig)
    (c.lay_all.ensures.crash told basis print (unlaid was) s c.self.invariant.0 refl (unlaid_is was is) may one) c.in-Err.fault c.in-FlashRead.is (record was { laid = c.clear-in-Err.new.self.items })
    (subst (λ (ns : List ℕ). Kept basis print (record was { laid = ns }) (g.R.Rig.world c.lay_all.new.rig) s s) (sym c.clear-in-Err.ensures.items)
    (c.lay_all.ensures.kept told basis print (unlaid was) s c.self.invariant.0 refl (unlaid_is was is) may one))

pub returns-in-DiskWrite-clause-serves : goal.returns-in-DiskWrite-clause-serves
returns-in-DiskWrite-clause-serves g c = λ told basis was_it s kept.
    let i = c.self.inside in
    let lists = g.L.Lists.listing i.lists in
    let referrers = g.L.Lists.referrers i.lists in
    let was : StoreView = store_of i.up i.journal lists i.count i.pending.items i.slots.uses i.laid.items in
    let is : IsStore was = c.self.invariant.7 (ap (λ (v : StoreOf g.row.F.Denot). v.store.is_up) c.self.view_is ∙ c.requires.call.up) in
    let none : was.pending ≡ [] = ap (λ (v : StoreOf g.row.F.Denot). v.store.pending) c.self.view_is ∙ c.requires.none in
    let most : i.geo.group ≤ was.journal.geo.group = omega (arith, ap (λ (geo : Geometry). geo.group) c.self.invariant.0) in
    let first : c.as_slice.result.now ≡ take i.geo.group (walk_of c.args.along lists.dirty referrers) = c.as_slice.ensures.value ∙ c.gather.ensures.first in
    let may : MayLayAll (unlaid was) c.as_slice.result.now = gathered_may lists referrers (g.met.L.Lists.kept i.lists) (λ slot. g.met.L.Lists.walked i.lists slot) c.args.along i.geo.group c.as_slice.result.now first was refl none most in
    let world = g.R.Rig.world c.args.rig.now in
    let print = g.F.Fingerprint.printed c.args.self.now.print in
    let its : Kept basis print was world was_it s = subst (λ (v : StoreOf g.row.F.Denot). Kept basis print v.store world was_it s) (sym c.self.view_is) kept in
    let one : Kept basis print (unlaid was) world s s =
    kept_unlaid basis print was world s s (one_state basis print was world (g.met.R.Rig.shows_image c.args.rig.now Flash told) (g.met.R.Rig.shows_image c.args.rig.now Disk told) was_it s is its none) in
    write_fails basis print (g.R.Rig.world c.lay_all.new.rig) was_it s (g.R.Rig.clock c.args.rig.now) (g.R.Rig.clock c.lay_all.new.rig)
    (c.lay_all.ensures.crash told basis print (unlaid was) s c.self.invariant.0 refl (unlaid_is was is) may one) c.in-Err.fault c.in-DiskWrite.is (unlaid was) (record was { is_up = false; laid = c.clear-in-Err.new.self.items })
    (c.lay_all.ensures.kept told basis print (unlaid was) s c.self.invariant.0 refl (unlaid_is was is) may one)

pub returns-in-Ok-clause-holds : goal.returns-in-Ok-clause-holds
returns-in-Ok-clause-holds g c = λ told s holds.
    let i = c.self.inside in
    let lists = g.L.Lists.listing i.lists in
    let referrers = g.L.Lists.referrers i.lists in
    let was : StoreView = store_of i.up i.journal lists i.count i.pending.items i.slots.uses i.laid.items in
    let is : IsStore was = c.self.invariant.7 (ap (λ (v : StoreOf g.row.F.Denot). v.store.is_up) c.self.view_is ∙ c.requires.call.up) in
    let none : was.pending ≡ [] = ap (λ (v : StoreOf g.row.F.Denot). v.store.pending) c.self.view_is ∙ c.requires.none in
    let most : i.geo.group ≤ was.journal.geo.group = omega (arith, ap (λ (geo : Geometry). geo.group) c.self.invariant.0) in
    let first : c.as_slice.result.now ≡ take i.geo.group (walk_of c.args.along lists.dirty referrers) = c.as_slice.ensures.value ∙ c.gather.ensures.first in
    let may : MayLayAll (unlaid was) c.as_slice.result.now = gathered_may lists referrers (g.met.L.Lists.kept i.lists) (λ slot. g.met.L.Lists.walked i.lists slot) c.args.along i.geo.group c.as_slice.result.now first was refl none most in
    let world = g.R.Rig.world c.args.rig.now in
    let print = g.F.Fingerprint.printed c.args.self.now.print in
    let its : Holds print (unlaid was) world s = holds_unlaid print was world s (subst (λ (v : StoreOf g.row.F.Denot). Holds print v.store world s) (sym c.self.view_is) holds) in
    subst (λ (ns : List ℕ). Holds print (record was { laid = ns }) (g.R.Rig.world c.lay_all.new.rig) s) c.as_slice.ensures.value
    (c.in-Ok.ensures.holds_laid told print (unlaid was) s c.self.invariant.0 refl (unlaid_is was is) may its)

pub returns-in-FlashRead-clause-holds : goal.returns-in-FlashRead-clause-holds
returns-in-FlashRead-clause-holds g c = λ told s holds.
    let i = c.self.inside in
    let lists = g.L.Lists.listing i.lists in
    let referrers = g.L.Lists.referrers i.lists in
    let was : StoreView = store_of i.up i.journal lists i.count i.pending.items i.slots.uses i.laid.items in
    let is : IsStore was = c.self.invariant.7 (ap (λ (v : StoreOf g.row.F.Denot). v.store.is_up) c.self.view_is ∙ c.requires.call.up) in
    let none : was.pending ≡ [] = ap (λ (v : StoreOf g.row.F.Denot). v.store.pending) c.self.view_is ∙ c.requires.none in
    let most : i.geo.group ≤ was.journal.geo.group = omega (arith, ap (λ (geo : Geometry). geo.group) c.self.invariant.0) in
    let first : c.as_slice.result.now ≡ take i.geo.group (walk_of c.args.along lists.dirty referrers) = c.as_slice.ensures.value ∙ c.gather.ensures.first in
    let may : MayLayAll (unlaid was) c.as_slice.result.now = gathered_may lists referrers (g.met.L.Lists.kept i.lists) (λ slot. g.met.L.Lists.walked i.lists slot) c.args.along i.geo.group c.as_slice.result.now first was refl none most in
    let world = g.R.Rig.world c.args.rig.now in
    let print = g.F.Fingerprint.printed c.args.self.now.print in
    let its : Holds print (unlaid was) world s = holds_unlaid print was world s (subst (λ (v : StoreOf g.row.F.Denot). Holds print v.store world s) (sym c.self.view_is) holds) in
    holds_read_failed (Unit {0}) print c.in-Err.fault c.in-FlashRead.is s s (record was { laid = c.clear-in-Err.new.self.items }) (g.R.Rig.world c.lay_all.new.rig)
    (subst (λ (ns : List ℕ). Holds print (record was { laid = ns }) (g.R.Rig.world c.lay_all.new.rig) s) (sym c.clear-in-Err.ensures.items)
    (c.lay_all.ensures.holds told print (unlaid was) s c.self.invariant.0 refl (unlaid_is was is) may its))

pub returns-in-DiskWrite-clause-holds : goal.returns-in-DiskWrite-clause-holds
returns-in-DiskWrite-clause-holds g c = λ told s holds. holds_write_failed (Unit {0}) _ c.in-Err.fault c.in-DiskWrite.is s s _ _

pub returns-in-Ok-clause-skips : goal.returns-in-Ok-clause-skips
returns-in-Ok-clause-skips g c = passes_first c.args.along c.self.inside.geo.group (g.L.Lists.listing c.self.inside.lists).dirty (g.L.Lists.referrers c.self.inside.lists) c.gather.new.into.items c.gather.ensures.first
