use Rattle.dd_policy.proofs.Taken.{restored_coupled}
use Rattle.dd_policy.proofs.policy.PolicyLists.restore.Goals as goal

pub invariant_of-self : goal.invariant_of-self
invariant_of-self c =
    let lists = c.args.self.now in
    let after = c.take_rows.ensures in
    record { keeps = restored_coupled _ c.take_rows.result lists.slots lists.meta _ lists.blocks _ (record { b = c.args.b.now; a = c.args.a.now }) lists.keeps c.requires after.ok after.fault after.refused after.slots after.keeps }
