-- What was said of a script so far, and what a crash now may leave.
use Rattle.std.specs.Prelude.{◌≡◌, ◌≢◌, ℕ, Bool, false, List, [], ◌++◌, length, drop, ⊤}
use Rattle.std.specs.List.{AllByRecursion, flat_map}
use Rattle.dd_block.specs.declared.print.Fp.{Fp}
use Rattle.dd_rig.specs.Device.{IsImage}
use Rattle.dd_rig.specs.World.{World}
use Rattle.dd_model.specs.State.{Sizes, State}
use Rattle.dd_script.specs.Command.{Command, after_all}
use Rattle.dd_script.specs.Output.{output_of}
use Rattle.dd_script.specs.Answers.{answered_by, Answered, IsPart}
use Rattle.dd_script.specs.Text.{HasNoEnd, ended}
use Rattle.dd_loop.specs.declared.halt.Halt.{Halt}
use Rattle.dd_loop.specs.declared.halt.Halt.TheVariants.{Stopped, Output}
use Rattle.dd_loop.specs.Answering.{HasFault}
use Rattle.dd_loop.specs.Standing.{Stood}

-- the run halts: commands are left, or an emit failed
abbrev pub HaltsAt : Halt → (left : List Command) → (rest : List ℕ) → Type 0
HaltsAt Output left rest = ⊤
HaltsAt (Stopped why) left rest = (left ≢ []) × (rest ≡ [])

module _ (print : List ℕ → Fp) (sizes : Sizes) (StandFor : (flash disk : List ℕ) → State → Type 0) where
  -- What was said so far answers the first commands; a part of one more line may stand behind; each crash now leaves a prefix; and the
  -- lines were paid.
  pub record Sofar (start : State) (commands : List Command) (Paid : List (List ℕ) → Type 0) (said_before : List ℕ) (new : World) : Type 0 where
    pub lines : List (List ℕ)
    pub rest : List ℕ
    pub answered : Answered print sizes start commands lines
    pub whole : AllByRecursion HasNoEnd lines
    pub part : IsPart print sizes (after_all sizes start (answered_by lines commands)) (drop (length lines) commands) rest
    pub no_end : HasNoEnd rest
    pub said : new.said ≡ said_before ++ (flat_map ended lines ++ rest)
    pub now : (flash disk : List ℕ) → IsImage new.flash flash → IsImage new.disk disk → Stood StandFor print sizes start commands lines flash disk
    pub paid : Paid lines

  -- Each command was answered, and by its reply where no fault was told. What is held behind the last line is told by the lines and the
  -- state after the references that they answer.
  pub record ServedAll (start : State) (commands : List Command) (Paid : List (List ℕ) → ℕ → Type 0) (Held : List (List ℕ) → State → Type 0) (faulted : Bool) (said_before : List ℕ) (new : World) : Type 0 where
    pub sofar : Sofar start commands (λ lines. Paid lines 0) said_before new
    pub held : Held sofar.lines (after_all sizes start (answered_by sofar.lines commands))
    pub all : length sofar.lines ≡ length commands
    pub nothing_more : sofar.rest ≡ []
    pub fault : HasFault faulted sofar.lines
    pub exact : faulted ≡ false → new.said ≡ said_before ++ output_of print sizes start commands

  pub record ServedUpTo (start : State) (commands : List Command) (Paid : List (List ℕ) → ℕ → Type 0) (halt : Halt) (said_before : List ℕ) (new : World) : Type 0 where
    pub sofar : Sofar start commands (λ lines. Paid lines 1) said_before new
    pub halts : HaltsAt halt (drop (length sofar.lines) commands) sofar.rest
