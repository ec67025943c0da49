-- A cache over any script holds some state.
use Rattle.std.proofs.Common.{inl, inr, ℕ, Bool, List, Some, None}
use Rattle.std.specs.Prelude.{Option}
use Rattle.dd_block.specs.declared.print.Fp.{Fp}
use Rattle.dd_rig.specs.Clock.{Clock, Elapses}
use Rattle.dd_rig.specs.World.{World, Outcome}
use Rattle.dd_rig.proofs.Moments.{goes_on}
use Rattle.dd_model.specs.State.{Sizes, State}
use Rattle.dd_script.specs.Answers.{answered_one}
use Rattle.dd_script.specs.Command.{Command, after_all}
use Rattle.dd_loop.specs.Answering.{AnswersLine, WithinLine}
use Rattle.dd_loop.specs.Standing.{StandForEither, StandForSome}

-- it has committed a state, and holds one
pub record SomeKept (Kept : (committed held : State) → Type 0) : Type 0 where
  pub committed : State
  pub held : State
  pub kept : Kept committed held

module _ (print : List ℕ → Fp) (sizes : Sizes) (c s : State) where
  pub some_after : (Kept : (committed held : State) → Type 0) (Paid : List (List ℕ) → Type 0) (o : Option Command) (faulted : Bool) (said_before said_after : List ℕ) → AnswersLine print sizes Kept Paid c s o faulted said_before said_after → SomeKept Kept
  some_after Kept Paid None faulted said_before said_after h = record { committed = c; held = s; kept = h.0 }
  some_after Kept Paid (Some command) faulted said_before said_after h = record { committed = h.2.committed; held = after_all sizes s (answered_one command h.0); kept = h.2.kept }

  some_either : (StandFor : (flash disk : List ℕ) → State → Type 0) (flash disk : List ℕ) → StandForEither StandFor c s flash disk → (t : State) × StandFor flash disk t
  some_either StandFor flash disk (inl h) = (c, h)
  some_either StandFor flash disk (inr h) = (s, h)

  some_within : (StandFor : (flash disk : List ℕ) → State → Type 0) (o : Option Command) (old : World) (outcome : Outcome) → WithinLine print sizes StandFor c s o old outcome → StandForSome StandFor outcome
  some_within StandFor None old outcome h = some_either StandFor outcome.flash outcome.disk h.0
  some_within StandFor (Some command) old outcome (inl h) = some_either StandFor outcome.flash outcome.disk h.0
  some_within StandFor (Some command) old outcome (inr h) = (h.state, h.stands)

  -- the answer to one line more
  pub some_moments : (StandFor : (flash disk : List ℕ) → State → Type 0) (o : Option Command) (old : World) {first second third : Clock} → Elapses first second (StandForSome StandFor) → Elapses second third (WithinLine print sizes StandFor c s o old)
      → Elapses first third (StandForSome StandFor)
  some_moments StandFor o old one another = goes_on one another (λ outcome h. some_within StandFor o old outcome h)
