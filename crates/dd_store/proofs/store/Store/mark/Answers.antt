use Rattle.std.proofs.Common.{◌≡◌, ℕ, ◌+◌, ◌<◌, List, [], ◌++◌, length, inl, inr, refl, sym, ◌∙◌, ap, subst, true, arith, length-append}
use Rattle.std.specs.List.{AllByRecursion}
use Rattle.std.proofs.lemmas.List.{length-map}
use Rattle.dd_rig.specs.declared.device.Dev.TheVariants.{Flash, Disk}
use Rattle.dd_rig.proofs.Moments.{widens}
use Rattle.dd_record.specs.declared.rec.Rec.{Rec}
use Rattle.dd_record.specs.declared.rec.Rec.TheVariants.{Clean}
use Rattle.dd_record.specs.Table.{is_dirty_at}
use Rattle.dd_model.specs.Listing.{Listing}
use Rattle.dd_store.specs.Keeping.{StoreView, IsStore, Holds, Kept}
use Rattle.dd_store.specs.Laying.{all_marked, all_without, clean_records, marked_store}
use Rattle.dd_store.specs.Serving.{StoreOf, store_of, HasLimits}
use Rattle.dd_store.proofs.Cleaning.{fewer_all}
use Rattle.dd_store.proofs.LayingOne.{one_state}
use Rattle.dd_store.proofs.Marking.{marked_is, all_among}
use Rattle.dd_store.proofs.MarkingAll.{marked_as, pending_none}
use Rattle.dd_store.proofs.store.Store.mark.Goals as goal

pub mark_all-requires-clause-dirty : goal.mark_all-requires-clause-dirty
mark_all-requires-clause-dirty g c =
    let i = c.self.inside in
    let was : StoreView = store_of i.up i.journal (g.L.Lists.listing i.lists) i.count i.pending.items i.slots.uses i.laid.items in
    let is : IsStore was = c.self.invariant.7 (ap (λ (v : StoreOf g.row.F.Denot). v.store.is_up) c.self.view_is ∙ c.requires.call.up) in
    let some : 0 < length was.laid = subst (λ (v : StoreOf g.row.F.Denot). 0 < length v.store.laid) (sym c.self.view_is) c.requires.some in
    let none : was.pending ≡ [] = pending_none was is some in
    subst (λ (ns : List ℕ). AllByRecursion (λ address. is_dirty_at address was.table.a ≡ true) ns) (sym c.as_slice.ensures.value) (all_among (λ address. is_dirty_at address was.table.a ≡ true) was.laid is.laid)

pub invariant_of-self-in-Ok : goal.invariant_of-self-in-Ok
invariant_of-self-in-Ok g c =
    let limits : HasLimits c.self.inside.geo (g.L.Lists.listing c.self.inside.lists) = c.self.invariant.5 in
    let before : StoreView = store_of c.self.inside.up c.self.inside.journal (g.L.Lists.listing c.self.inside.lists) c.self.inside.count c.self.inside.pending.items c.self.inside.slots.uses c.self.inside.laid.items in
    let none_before : before.pending ≡ [] = pending_none before (c.self.invariant.7 (ap (λ (v : StoreOf g.row.F.Denot). v.store.is_up) c.self.view_is ∙ c.requires.call.up)) (subst (λ (v : StoreOf g.row.F.Denot). 0 < length v.store.laid) (sym c.self.view_is) c.requires.some) in (
      c.self.invariant.0,
      c.self.invariant.1,
      omega (arith, c.self.invariant.2, c.clear.ensures.capacity),
      omega (arith, c.self.invariant.3, c.mark_all.ensures.capacity),
      c.self.invariant.4,
      subst (λ (l : Listing). HasLimits c.self.inside.geo l) (sym c.mark_all.ensures.lists) (record { acap = limits.acap; bcap = limits.bcap; slots = limits.slots }),
      omega (arith, ap length c.clear.ensures.items),
      λ up.
          let i = c.self.inside in
          let was : StoreView = store_of i.up i.journal (g.L.Lists.listing i.lists) i.count i.pending.items i.slots.uses i.laid.items in
          let is : IsStore was = c.self.invariant.7 (ap (λ (v : StoreOf g.row.F.Denot). v.store.is_up) c.self.view_is ∙ c.requires.call.up) in
          let some : 0 < length was.laid = subst (λ (v : StoreOf g.row.F.Denot). 0 < length v.store.laid) (sym c.self.view_is) c.requires.some in
          let none : was.pending ≡ [] = pending_none was is some in
          let same : store_of i.up i.journal (g.L.Lists.listing c.mark_all.new.lists) i.count c.mark_all.new.pending.items i.slots.uses c.clear.new.self.items ≡ marked_store was =
          marked_as was (g.L.Lists.listing i.lists) refl refl (g.L.Lists.listing c.mark_all.new.lists) c.mark_all.new.pending.items c.clear.new.self.items
          (c.mark_all.ensures.lists ∙ ap (λ (ns : List ℕ). all_marked ns (g.L.Lists.listing i.lists)) c.as_slice.ensures.value)
          (c.mark_all.ensures.pending ∙ ap (λ (recs : List Rec). recs ++ clean_records c.as_slice.result.now) none ∙ ap clean_records c.as_slice.ensures.value)
          c.clear.ensures.items in
          subst (λ (v : StoreView). IsStore v) (sym same) (marked_is was is none),
      omega (
        arith,
        ap (λ (recs : List Rec). length recs) c.mark_all.ensures.pending,
        length-append c.self.inside.pending.items (clean_records c.as_slice.result.now),
        length-map c.as_slice.result.now (λ (address : ℕ). Clean address),
        ap (λ (ns : List ℕ). length ns) c.as_slice.ensures.value,
        ap (λ (recs : List Rec). length recs) none_before,
        c.self.invariant.6,
      ),
    )

pub returns-in-Err-clause-serves : goal.returns-in-Err-clause-serves
returns-in-Err-clause-serves g c = λ told basis was_it s kept.
    let i = c.self.inside in
    let was : StoreView = store_of i.up i.journal (g.L.Lists.listing i.lists) i.count i.pending.items i.slots.uses i.laid.items in
    let is : IsStore was = c.self.invariant.7 (ap (λ (v : StoreOf g.row.F.Denot). v.store.is_up) c.self.view_is ∙ c.requires.call.up) in
    let some : 0 < length was.laid = subst (λ (v : StoreOf g.row.F.Denot). 0 < length v.store.laid) (sym c.self.view_is) c.requires.some in
    let none : was.pending ≡ [] = pending_none was is some in
    let world = g.R.Rig.world c.args.rig.now in
    let print = g.F.Fingerprint.printed c.args.self.now.print in
    let its : Kept basis print was world was_it s = subst (λ (v : StoreOf g.row.F.Denot). Kept basis print v.store world was_it s) (sym c.self.view_is) kept in
    let now = c.in-Err.ensures.kept told basis print was was_it s its in
    record {
      crash = widens (c.sync_laid.ensures.time told) (λ o never. absurd never);
      leaves = λ flash_bytes disk_bytes flash_image disk_image. inl (now.stands flash_bytes disk_bytes flash_image disk_image);
    }

pub returns-in-Ok-clause-serves : goal.returns-in-Ok-clause-serves
returns-in-Ok-clause-serves g c = λ told basis was_it s kept.
    let i = c.self.inside in
    let was : StoreView = store_of i.up i.journal (g.L.Lists.listing i.lists) i.count i.pending.items i.slots.uses i.laid.items in
    let is : IsStore was = c.self.invariant.7 (ap (λ (v : StoreOf g.row.F.Denot). v.store.is_up) c.self.view_is ∙ c.requires.call.up) in
    let some : 0 < length was.laid = subst (λ (v : StoreOf g.row.F.Denot). 0 < length v.store.laid) (sym c.self.view_is) c.requires.some in
    let none : was.pending ≡ [] = pending_none was is some in
    let same : store_of i.up i.journal (g.L.Lists.listing c.mark_all.new.lists) i.count c.mark_all.new.pending.items i.slots.uses c.clear.new.self.items ≡ marked_store was =
    marked_as was (g.L.Lists.listing i.lists) refl refl (g.L.Lists.listing c.mark_all.new.lists) c.mark_all.new.pending.items c.clear.new.self.items
    (c.mark_all.ensures.lists ∙ ap (λ (ns : List ℕ). all_marked ns (g.L.Lists.listing i.lists)) c.as_slice.ensures.value)
    (c.mark_all.ensures.pending ∙ ap (λ (recs : List Rec). recs ++ clean_records c.as_slice.result.now) none ∙ ap clean_records c.as_slice.ensures.value)
    c.clear.ensures.items in
    let world = g.R.Rig.world c.args.rig.now in
    let print = g.F.Fingerprint.printed c.args.self.now.print in
    let its : Kept basis print was world was_it s = subst (λ (v : StoreOf g.row.F.Denot). Kept basis print v.store world was_it s) (sym c.self.view_is) kept in
    let one : Kept basis print was world s s = one_state basis print was world (g.met.R.Rig.shows_image c.args.rig.now Flash told) (g.met.R.Rig.shows_image c.args.rig.now Disk told) was_it s is its none in
    record {
      crash = widens (c.sync_laid.ensures.time told) (λ o never. absurd never);
      leaves = record { committed = s; either = inr refl; kept = subst (λ (v : StoreView). Kept basis print v (g.R.Rig.world c.sync_laid.new.rig) s s) (sym same) (c.in-Ok.ensures.marked told basis print was s is none one) };
    }

pub returns-in-Ok-clause-fewer : goal.returns-in-Ok-clause-fewer
returns-in-Ok-clause-fewer g c =
    let i = c.self.inside in
    let was : StoreView = store_of i.up i.journal (g.L.Lists.listing i.lists) i.count i.pending.items i.slots.uses i.laid.items in
    let is : IsStore was = c.self.invariant.7 (ap (λ (v : StoreOf g.row.F.Denot). v.store.is_up) c.self.view_is ∙ c.requires.call.up) in
    let some : 0 < length was.laid = subst (λ (v : StoreOf g.row.F.Denot). 0 < length v.store.laid) (sym c.self.view_is) c.requires.some in
    let none : was.pending ≡ [] = pending_none was is some in
    let same : store_of i.up i.journal (g.L.Lists.listing c.mark_all.new.lists) i.count c.mark_all.new.pending.items i.slots.uses c.clear.new.self.items ≡ marked_store was =
    marked_as was (g.L.Lists.listing i.lists) refl refl (g.L.Lists.listing c.mark_all.new.lists) c.mark_all.new.pending.items c.clear.new.self.items
    (c.mark_all.ensures.lists ∙ ap (λ (ns : List ℕ). all_marked ns (g.L.Lists.listing i.lists)) c.as_slice.ensures.value)
    (c.mark_all.ensures.pending ∙ ap (λ (recs : List Rec). recs ++ clean_records c.as_slice.result.now) none ∙ ap clean_records c.as_slice.ensures.value)
    c.clear.ensures.items in
    let fewer : length (all_without was.laid was.dirty) + length was.laid ≡ length was.dirty =
    fewer_all was.laid was.dirty (λ address. is_dirty_at address was.table.a) is.dirty is.laid_once (all_among (λ address. is_dirty_at address was.table.a ≡ true) was.laid is.laid) in
    omega (arith, ap (λ (v : StoreView). length v.dirty) same, fewer, ap (λ (v : StoreOf g.row.F.Denot). length v.store.laid) c.self.view_is, ap (λ (v : StoreOf g.row.F.Denot). length v.store.dirty) c.self.view_is)

pub returns-in-Ok-clause-holds : goal.returns-in-Ok-clause-holds
returns-in-Ok-clause-holds g c = λ told s holds.
    let i = c.self.inside in
    let was : StoreView = store_of i.up i.journal (g.L.Lists.listing i.lists) i.count i.pending.items i.slots.uses i.laid.items in
    let is : IsStore was = c.self.invariant.7 (ap (λ (v : StoreOf g.row.F.Denot). v.store.is_up) c.self.view_is ∙ c.requires.call.up) in
    let some : 0 < length was.laid = subst (λ (v : StoreOf g.row.F.Denot). 0 < length v.store.laid) (sym c.self.view_is) c.requires.some in
    let none : was.pending ≡ [] = pending_none was is some in
    let same : store_of i.up i.journal (g.L.Lists.listing c.mark_all.new.lists) i.count c.mark_all.new.pending.items i.slots.uses c.clear.new.self.items ≡ marked_store was =
    marked_as was (g.L.Lists.listing i.lists) refl refl (g.L.Lists.listing c.mark_all.new.lists) c.mark_all.new.pending.items c.clear.new.self.items
    (c.mark_all.ensures.lists ∙ ap (λ (ns : List ℕ). all_marked ns (g.L.Lists.listing i.lists)) c.as_slice.ensures.value)
    (c.mark_all.ensures.pending ∙ ap (λ (recs : List Rec). recs ++ clean_records c.as_slice.result.now) none ∙ ap clean_records c.as_slice.ensures.value)
    c.clear.ensures.items in
    let print = g.F.Fingerprint.printed c.args.self.now.print in
    let its : Holds print was (g.R.Rig.world c.args.rig.now) s = subst (λ (v : StoreOf g.row.F.Denot). Holds print v.store (g.R.Rig.world c.args.rig.now) s) (sym c.self.view_is) holds in
    subst (λ (v : StoreView). Holds print v (g.R.Rig.world c.sync_laid.new.rig) s) (sym same) (c.in-Ok.ensures.holds told print was s its)
