use Rattle.std.proofs.Common.{◌≡◌, ◌+◌, ◌<◌, ◌≤◌, sym, ◌∙◌, subst, arith}
use Rattle.std.specs.Prelude.{vec_len, vec_capacity}
use Rattle.std.specs.List.{AllByRecursion}
use Rattle.dd_store.proofs.UsedSlots.{AreGathered, one_listed, one_not}
use Rattle.dd_store.proofs.used.used_slots.Goals as goal
use Rattle.dd_store.proofs.used.used_slots.Goals.{then-is_listed, else-is_listed}

pub loop-slot-preserved : goal.loop-slot-preserved
loop-slot-preserved g c =
    let inv = c.loop-slot.invariant in
    let b = (g.L.Lists.listing c.args.lists.now).table.b in
    elim c.if-is_listed.branch [
      | then-is_listed w ↦ subst (λ v. AreGathered b (c.loop-slot.slot + 1) v.items × (vec_len v ≤ c.loop-slot.slot + 1) × (c.args.count ≤ vec_capacity v)) (sym w.used-is) (
        subst (AreGathered b (c.loop-slot.slot + 1)) (sym w.push_reserved.ensures.items) (one_listed b c.loop-slot.slot c.loop-slot.used.items inv.0 (sym c.is_listed.ensures ∙ w.if-is_listed.true)),
        omega (arith, w.push_reserved.ensures.len, inv.1),
        omega (arith, w.push_reserved.ensures.capacity, inv.2),
      )
      | else-is_listed w ↦ subst (λ v. AreGathered b (c.loop-slot.slot + 1) v.items × (vec_len v ≤ c.loop-slot.slot + 1) × (c.args.count ≤ vec_capacity v)) (sym w.used-is) (
        one_not b c.loop-slot.slot c.loop-slot.used.items inv.0 (sym c.is_listed.ensures ∙ w.if-is_listed.false),
        omega (arith, inv.1),
        inv.2,
      )
    ]

pub returns-clause-below : goal.returns-clause-below
returns-clause-below g c =
    let end : c.loop-slot.slot ≡ c.args.count = omega arith in
    subst (λ n. AllByRecursion (λ slot. slot < n) c.loop-slot.used.items) end c.loop-slot.invariant.0.below
