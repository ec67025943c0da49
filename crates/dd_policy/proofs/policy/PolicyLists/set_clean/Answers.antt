use Rattle.dd_policy.proofs.Coupled.{clean_coupled}
use Rattle.dd_policy.proofs.policy.PolicyLists.set_clean.Goals as goal

pub invariant_of-self : goal.invariant_of-self
invariant_of-self c =
    let lists = c.args.self.now in
    let after = c.clean.ensures in
    record { keeps = clean_coupled c.args.address lists.slots lists.meta _ lists.blocks lists.keeps after.rows after.dirty after.acap after.slots after.keeps }
