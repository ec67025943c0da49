use Rattle.std.proofs.Common.{ℕ, List, length, sym, ap, subst, arith}
use Rattle.dd_store.specs.Keeping.{StoreView, IsStore}
use Rattle.dd_store.specs.Serving.{store_of}
use Rattle.dd_store.proofs.Flushing.{unlaid_is}
use Rattle.dd_store.proofs.store.Store.read_slot.Goals as goal

pub invariant_of-self : goal.invariant_of-self
invariant_of-self g c =
    let i = c.self.inside in
    let was : StoreView = store_of i.up i.journal (g.L.Lists.listing i.lists) i.count i.pending.items i.slots.uses i.laid.items in (
      c.self.invariant.0,
      c.self.invariant.1,
      omega (arith, c.self.invariant.2, c.clear.ensures.capacity),
      c.self.invariant.3,
      c.self.invariant.4,
      c.self.invariant.5,
      omega (arith, ap length c.clear.ensures.items),
      λ up. subst (λ (ns : List ℕ). IsStore (record was { laid = ns })) (sym c.clear.ensures.items) (unlaid_is was (c.self.invariant.7 up)),
      c.self.invariant.8,
    )
