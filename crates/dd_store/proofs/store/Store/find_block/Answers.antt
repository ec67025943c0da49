use Rattle.std.proofs.Common.{ℕ, List, length, sym, ap, subst, arith}
use Rattle.std.specs.Prelude.{Option, Result, IfOk}
use Rattle.std.proofs.lemmas.Grind.{common_steps}
use Rattle.dd_block.specs.declared.geometry.Geometry.{Geometry}
use Rattle.dd_model.specs.Confirming.{Confirms}
use Rattle.dd_store.specs.declared.fault.StoreFault.{StoreFault}
use Rattle.dd_store.specs.Bringing.{FoundAs}
use Rattle.dd_store.specs.Saving.{AreSlotsOf}
use Rattle.dd_store.specs.Keeping.{StoreView, IsStore, Holds}
use Rattle.dd_store.specs.Serving.{StoreOf, store_of}
use Rattle.dd_store.proofs.Finding.{found_as}
use Rattle.dd_store.proofs.Flushing.{unlaid_is}
use Rattle.dd_store.proofs.store.Store.find_block.Goals as goal
use Rattle.dd_store.proofs.store.Store.find_block.Goals.{in-Err, in-Ok}

pub invariant_of-self : goal.invariant_of-self
invariant_of-self g c =
    let i = c.self.inside in
    let was : StoreView = store_of i.up i.journal (g.L.Lists.listing i.lists) i.count i.pending.items i.slots.uses i.laid.items in (
      c.self.invariant.0,
      grind (arith, common_steps),
      omega (arith, c.self.invariant.2, c.clear.ensures.capacity),
      c.self.invariant.3,
      c.self.invariant.4,
      c.self.invariant.5,
      omega (arith, ap length c.clear.ensures.items),
      λ up. subst (λ (ns : List ℕ). IsStore (record was { laid = ns })) (sym c.clear.ensures.items) (unlaid_is was (c.self.invariant.7 up)),
      c.self.invariant.8,
    )

pub returns-clause-found : goal.returns-clause-found
returns-clause-found g c = λ told print s holds printed.
    let i = c.self.inside in
    let was : StoreView = store_of i.up i.journal (g.L.Lists.listing i.lists) i.count i.pending.items i.slots.uses i.laid.items in
    let flash = (g.R.Rig.world c.args.rig.now).flash.shown in
    let base : Holds print was (g.R.Rig.world c.args.rig.now) s = subst (λ (v : StoreOf g.row.F.Denot). Holds print v.store (g.R.Rig.world c.args.rig.now) s) (sym c.self.view_is) holds in
    let base_found : (found : Option ℕ) → Confirms c.args.fp c.args.block.now i.slots flash (g.L.Lists.listing i.lists).table.b found → FoundAs i.journal.geo flash s c.args.block.now found =
    found_as print was (g.R.Rig.world c.args.rig.now) s base i.slots (subst (λ (geo : Geometry). AreSlotsOf geo i.slots) (sym c.self.invariant.0) c.self.invariant.4) c.args.fp c.args.block.now printed in
    subst (λ (v : StoreOf g.row.F.Denot). IfOk c.match-confirm.result (FoundAs v.store.journal.geo flash s c.args.block.now)) c.self.view_is
    (elim c.match-confirm.branch [
      | in-Err w ↦ subst (λ (r : Result (Option ℕ) StoreFault). IfOk r (FoundAs i.journal.geo flash s c.args.block.now)) (sym w.result-is) tt
      | in-Ok w ↦ subst (λ (r : Result (Option ℕ) StoreFault). IfOk r (FoundAs i.journal.geo flash s c.args.block.now)) (sym w.result-is) (base_found w.in-Ok.found (w.in-Ok.ensures.found told))
    ])
