-- What one call of a store leaves room for, and what calls keep together.
use Rattle.dd_rig.proofs.Falling.{falls_self, falls_trans, frame_self, frame_trans}
use Rattle.dd_loop.proofs.More.{more_both, more_same, more_some}
use Rattle.dd_answers.proofs.Stepping.{may_call}

pub ruleset step_steps = (may_call, falls_self, falls_trans, frame_self, frame_trans, more_same, more_both, more_some)
