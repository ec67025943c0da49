use Rattle.std.proofs.Common.{List, [], inr, refl, sym, ◌∙◌, ap, subst, length, arith, ◌≡◌}
use Rattle.dd_record.specs.declared.rec.Rec.{Rec}
use Rattle.dd_slots.specs.Slots.{SlotsView}
use Rattle.dd_store.specs.Keeping.{StoreView, IsStore, Holds, Kept, slots_shown}
use Rattle.dd_store.specs.Saving.{AreSlotsOf}
use Rattle.dd_store.specs.Serving.{StoreOf, store_of, unlaid}
use Rattle.dd_store.proofs.Flushing.{unlaid_is, kept_unlaid, committed_is, flushed_is, settled_placed}
use Rattle.dd_store.proofs.Holding.{holds_unlaid}
use Rattle.dd_store.proofs.store.Store.commit.Goals as goal

pub invariant_of-self-in-Ok : goal.invariant_of-self-in-Ok
invariant_of-self-in-Ok g c =
    let i = c.self.inside in
    let was : StoreView = store_of i.up i.journal (g.L.Lists.listing i.lists) i.count i.pending.items i.slots.uses i.laid.items in (
      c.commit_rows.ensures.commits.geometry ∙ c.self.invariant.0,
      c.self.invariant.1,
      omega (arith, c.self.invariant.2, c.clear.ensures.capacity),
      omega (arith, c.self.invariant.3, c.clear-in-Ok.ensures.capacity),
      subst (AreSlotsOf i.geo) (sym c.settle.ensures) (settled_placed i.geo i.slots c.self.invariant.4),
      c.self.invariant.5,
      omega (arith, ap length c.clear.ensures.items),
      λ up.
          let is : IsStore was = c.self.invariant.7 up in
          flushed_is (λ (v : StoreView). IsStore v) was c.commit_rows.new.journal c.clear-in-Ok.new.self.items c.settle.new.self.uses c.clear.new.self.items
          c.clear-in-Ok.ensures.items (ap (λ (v : SlotsView). v.uses) c.settle.ensures) c.clear.ensures.items
          (committed_is (unlaid was) c.commit_rows.new.journal (unlaid_is was is) c.in-Ok.ensures.commits.ok.0 c.commit_rows.ensures.commits.geometry c.commit_rows.ensures.commits.version c.in-Ok.ensures.commits.ok.1),
      omega (arith, ap length c.clear-in-Ok.ensures.items),
    )

pub returns-in-Err-clause-serves : goal.returns-in-Err-clause-serves
returns-in-Err-clause-serves g c = λ told basis was_it s kept.
    let i = c.self.inside in
    let was : StoreView = store_of i.up i.journal (g.L.Lists.listing i.lists) i.count i.pending.items i.slots.uses i.laid.items in
    let world = g.R.Rig.world c.args.rig.now in
    let print = g.F.Fingerprint.printed c.args.self.now.print in
    let is : IsStore was = c.self.invariant.7 (ap (λ (v : StoreOf g.row.F.Denot). v.store.is_up) c.self.view_is ∙ c.requires.up) in
    let base : StoreView = record was { pending = c.as_slice.result.now; laid = [] } in
    let its_type : IsStore base = subst (λ (recs : List Rec). IsStore (record was { pending = recs; laid = [] })) (sym c.as_slice.ensures.value) (unlaid_is was is) in
    let its : Kept basis print was world was_it s = subst (λ (v : StoreOf g.row.F.Denot). Kept basis print v.store world was_it s) (sym c.self.view_is) kept in
    let held : Kept basis print base world was_it s = subst (λ (recs : List Rec). Kept basis print (record was { pending = recs; laid = [] }) world was_it s) (sym c.as_slice.ensures.value) (kept_unlaid basis print was world was_it s its) in
    record {
      crash = c.commit_rows.ensures.crash told basis print base was_it s its_type held;
      leaves = c.commit_rows.ensures.now told basis print base was_it s its_type held;
    }

pub returns-in-Ok-clause-serves : goal.returns-in-Ok-clause-serves
returns-in-Ok-clause-serves g c = λ told basis was_it s kept.
    let i = c.self.inside in
    let was : StoreView = store_of i.up i.journal (g.L.Lists.listing i.lists) i.count i.pending.items i.slots.uses i.laid.items in
    let world = g.R.Rig.world c.args.rig.now in
    let print = g.F.Fingerprint.printed c.args.self.now.print in
    let is : IsStore was = c.self.invariant.7 (ap (λ (v : StoreOf g.row.F.Denot). v.store.is_up) c.self.view_is ∙ c.requires.up) in
    let base : StoreView = record was { pending = c.as_slice.result.now; laid = [] } in
    let its_type : IsStore base = subst (λ (recs : List Rec). IsStore (record was { pending = recs; laid = [] })) (sym c.as_slice.ensures.value) (unlaid_is was is) in
    let its : Kept basis print was world was_it s = subst (λ (v : StoreOf g.row.F.Denot). Kept basis print v.store world was_it s) (sym c.self.view_is) kept in
    let held : Kept basis print base world was_it s = subst (λ (recs : List Rec). Kept basis print (record was { pending = recs; laid = [] }) world was_it s) (sym c.as_slice.ensures.value) (kept_unlaid basis print was world was_it s its) in
    record {
      crash = c.commit_rows.ensures.crash told basis print base was_it s its_type held;
      leaves = record {
        committed = s;
        either = inr refl;
        kept = flushed_is (λ (v : StoreView). Kept basis print v (g.R.Rig.world c.commit_rows.new.rig) s s) was c.commit_rows.new.journal c.clear-in-Ok.new.self.items c.settle.new.self.uses c.clear.new.self.items
            c.clear-in-Ok.ensures.items (ap (λ (v : SlotsView). v.uses) c.settle.ensures) c.clear.ensures.items
            (c.in-Ok.ensures.kept told basis print base was_it s its_type held);
      };
    }

pub returns-in-Ok-clause-committed : goal.returns-in-Ok-clause-committed
returns-in-Ok-clause-committed g c = λ told basis was_it s kept.
    let i = c.self.inside in
    let was : StoreView = store_of i.up i.journal (g.L.Lists.listing i.lists) i.count i.pending.items i.slots.uses i.laid.items in
    let world = g.R.Rig.world c.args.rig.now in
    let print = g.F.Fingerprint.printed c.args.self.now.print in
    let is : IsStore was = c.self.invariant.7 (ap (λ (v : StoreOf g.row.F.Denot). v.store.is_up) c.self.view_is ∙ c.requires.up) in
    let base : StoreView = record was { pending = c.as_slice.result.now; laid = [] } in
    let its_type : IsStore base = subst (λ (recs : List Rec). IsStore (record was { pending = recs; laid = [] })) (sym c.as_slice.ensures.value) (unlaid_is was is) in
    let its : Kept basis print was world was_it s = subst (λ (v : StoreOf g.row.F.Denot). Kept basis print v.store world was_it s) (sym c.self.view_is) kept in
    let held : Kept basis print base world was_it s = subst (λ (recs : List Rec). Kept basis print (record was { pending = recs; laid = [] }) world was_it s) (sym c.as_slice.ensures.value) (kept_unlaid basis print was world was_it s its) in
    flushed_is (λ (v : StoreView). Kept basis print v (g.R.Rig.world c.commit_rows.new.rig) s s) was c.commit_rows.new.journal c.clear-in-Ok.new.self.items c.settle.new.self.uses c.clear.new.self.items
    c.clear-in-Ok.ensures.items (ap (λ (v : SlotsView). v.uses) c.settle.ensures) c.clear.ensures.items
    (c.in-Ok.ensures.kept told basis print base was_it s its_type held)

pub returns-in-Ok-clause-holds : goal.returns-in-Ok-clause-holds
returns-in-Ok-clause-holds g c = λ told s holds.
    let i = c.self.inside in
    let was : StoreView = store_of i.up i.journal (g.L.Lists.listing i.lists) i.count i.pending.items i.slots.uses i.laid.items in
    let world = g.R.Rig.world c.args.rig.now in
    let print = g.F.Fingerprint.printed c.args.self.now.print in
    let is : IsStore was = c.self.invariant.7 (ap (λ (v : StoreOf g.row.F.Denot). v.store.is_up) c.self.view_is ∙ c.requires.up) in
    let base : StoreView = record was { pending = c.as_slice.result.now; laid = [] } in
    let its_type : IsStore base = subst (λ (recs : List Rec). IsStore (record was { pending = recs; laid = [] })) (sym c.as_slice.ensures.value) (unlaid_is was is) in
    let its : Holds print was world s = subst (λ (v : StoreOf g.row.F.Denot). Holds print v.store world s) (sym c.self.view_is) holds in
    let held : Holds print base world s = subst (λ (recs : List Rec). Holds print (record was { pending = recs; laid = [] }) world s) (sym c.as_slice.ensures.value) (holds_unlaid print was world s its) in
    flushed_is (λ (v : StoreView). Holds print v (g.R.Rig.world c.commit_rows.new.rig) s) was c.commit_rows.new.journal c.clear-in-Ok.new.self.items c.settle.new.self.uses c.clear.new.self.items
    c.clear-in-Ok.ensures.items (ap (λ (v : SlotsView). v.uses) c.settle.ensures) c.clear.ensures.items
    (c.in-Ok.ensures.holds told print base s its_type held)

pub returns-in-Err-clause-slots : goal.returns-in-Err-clause-slots
returns-in-Err-clause-slots g c = λ told.
    subst (λ (v : StoreOf g.row.F.Denot). slots_shown v.store.journal.geo (g.R.Rig.world c.commit_rows.new.rig) ≡ slots_shown v.store.journal.geo (g.R.Rig.world c.args.rig.now)) c.self.view_is (c.commit_rows.ensures.slots told)

pub returns-in-Ok-clause-slots : goal.returns-in-Ok-clause-slots
returns-in-Ok-clause-slots g c = λ told.
    subst (λ (v : StoreOf g.row.F.Denot). slots_shown v.store.journal.geo (g.R.Rig.world c.commit_rows.new.rig) ≡ slots_shown v.store.journal.geo (g.R.Rig.world c.args.rig.now)) c.self.view_is (c.commit_rows.ensures.slots told)
