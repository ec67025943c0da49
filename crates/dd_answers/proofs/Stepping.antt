-- What one call of a store leaves room for, and why it halts.
use Rattle.std.proofs.Common.{ℕ, arith}
use Rattle.dd_rig.specs.declared.device.Dev.{Dev}
use Rattle.dd_store.specs.Keeping.{StoreView}
use Rattle.dd_store.specs.Serving.{MayCall}
use Rattle.dd_rig.proofs.Falling.{falls_self, frame_self}
use Rattle.dd_answers.specs.Answering.{MayAnswer}

-- a store that may answer may be called
pub may_call : (store : StoreView) (n : ℕ) (size : Dev → ℕ) → MayAnswer store n size → MayCall store size
may_call store n size h = record { up = h.up; count = omega (arith, h.count); epoch = omega (arith, h.epoch); flash = h.flash; disk = h.disk }

pub ruleset answer_steps = (may_call, falls_self, frame_self)
