use Rattle.dd_policy.proofs.Coupled.{new_coupled}
use Rattle.dd_policy.proofs.policy.PolicyLists.new.Goals as goal

pub invariant_of-result : goal.invariant_of-result
invariant_of-result c = record {
  keeps = new_coupled c.args.acap c.args.bcap c.args.slots _ _ c.requires.addresses c.requires.blocks c.requires.slots c.in_ok-new.ensures.keeps c.in_ok-new.ensures.empty c.in_ok-new-2.ensures;
}
