-- What a crash leaves of both devices, where it is known which devices stand for which state.
use Rattle.std.specs.Prelude.{◌≡◌, ◌⊎◌, ◌+◌, ◌≤◌, ℕ, List, ◌++◌, length, take}
use Rattle.dd_block.specs.declared.print.Fp.{Fp}
use Rattle.dd_rig.specs.Device.{IsImage}
use Rattle.dd_rig.specs.World.{World, Outcome}
use Rattle.dd_model.specs.State.{Sizes, State}
use Rattle.dd_script.specs.Command.{Command, after_all}
use Rattle.dd_script.specs.Answers.{answered_by, taken, state_after, acknowledged, acknowledged_in, Answers}

-- what is kept has this state, whatever is committed
abbrev pub IsHeld : ((committed held : State) → Type 0) → State → Type 0
IsHeld Kept s = (committed : State) × Kept committed s

module _ (StandFor : (flash disk : List ℕ) → State → Type 0) where
  -- both devices stand for one of two states
  abbrev pub StandForEither : (one another : State) → (flash disk : List ℕ) → Type 0
  StandForEither one another flash disk = StandFor flash disk one ⊎ StandFor flash disk another

  -- whatever a crash leaves now stands for this state
  abbrev pub AllStand : World → State → Type 0
  AllStand world s = (flash disk : List ℕ) → IsImage world.flash flash → IsImage world.disk disk → StandFor flash disk s

  -- and for one of two
  abbrev pub AllStandForEither : (one another : State) → World → Type 0
  AllStandForEither one another world = (flash disk : List ℕ) → IsImage world.flash flash → IsImage world.disk disk → StandForEither one another flash disk

  -- a crash within a call leaves devices that stand for one of two states, and the output as it was
  abbrev pub WithinCall : (committed held : State) → World → Outcome → Type 0
  WithinCall committed held old o = StandForEither committed held o.flash o.disk × (o.out ≡ old.said)

  -- the devices stand for some state, whatever the script says
  abbrev pub StandForSome : Outcome → Type 0
  StandForSome o = (s : State) × StandFor o.flash o.disk s

  module _ (print : List ℕ → Fp) (sizes : Sizes) (start : State) (commands : List Command) where
    -- Where these whole lines were said, the devices stand for the state after one prefix of the references that the lines answer, no
    -- shorter than what they acknowledge.
    pub record Stood (lines : List (List ℕ)) (flash disk : List ℕ) : Type 0 where
      pub k : ℕ
      pub few : k ≤ length (answered_by lines commands)
      pub stands : StandFor flash disk (after_all sizes start (take k (answered_by lines commands)))
      pub acknowledges : acknowledged_in start.count lines ≤ start.count + k

    -- The devices stand for the state after one prefix of the answered references, no shorter than what the output acknowledges. It reads
    -- the outcome's own output, so it is the same property at each moment of a run.
    pub record StandForPrefix (said : List ℕ) (o : Outcome) : Type 0 where
      -- what this run had said
      pub output : List ℕ
      pub out : o.out ≡ said ++ output
      -- how many references the devices have
      pub k : ℕ
      pub few : k ≤ length (taken commands output)
      pub stands : StandFor o.flash o.disk (state_after sizes start commands output k)
      pub acknowledges : acknowledged start.count output ≤ start.count + k
      pub answers : Answers print sizes start commands output
