use Rattle.dd_policy.proofs.Touched.{touch_coupled}
use Rattle.dd_policy.proofs.policy.PolicyLists.touch.Goals as goal

pub invariant_of-self : goal.invariant_of-self
invariant_of-self c =
    let lists = c.args.self.now in
    let after = c.touch_both.ensures in
    record { keeps = touch_coupled lists.slots lists.meta _ lists.blocks _ c.args.address c.args.block c.args.dirty lists.keeps c.requires.block c.requires.clean after.after after.slots after.keeps }
