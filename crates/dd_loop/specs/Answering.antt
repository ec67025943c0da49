-- How one line is answered, and what a crash within that leaves.
use Rattle.std.specs.Prelude.{◌≡◌, ◌⊎◌, ◌<◌, ◌≤◌, ◌+◌, ℕ, Bool, true, false, List, [], ◌∷◌, ◌++◌, take, Option, Some, None, IfSome}
use Rattle.dd_block.specs.declared.print.Fp.{Fp}
use Rattle.dd_rig.specs.declared.device.Dev.TheVariants as dev
use Rattle.dd_rig.specs.declared.tallies.Counts.{Counts}
use Rattle.dd_rig.specs.Counts.{plus}
use Rattle.dd_rig.specs.World.{World, Outcome}
use Rattle.dd_model.specs.State.{Sizes, State}
use Rattle.dd_script.specs.Command.{Command, after_all}
use Rattle.dd_script.specs.Output.{reply_line}
use Rattle.dd_script.specs.Answers.{answered_one, acknowledged_by, faults_in, MayFault, AnswersOne}
use Rattle.dd_script.specs.Text.{HasNoEnd, ended}
use Rattle.dd_loop.specs.declared.halt.Halt.{Halt}
use Rattle.dd_loop.specs.declared.halt.Halt.TheVariants.{Stopped, Output}
use Rattle.dd_loop.specs.declared.cache.Written.{Written}
use Rattle.dd_loop.specs.Standing.{AllStand, AllStandForEither, WithinCall}

-- as many reads of each device failed as lines say so, or more
pub record CountsFaults (lines : List (List ℕ)) (before after : Counts) : Type 0 where
  pub flash : plus before.flash.failed_reads (faults_in dev.Flash lines) ≤ after.flash.failed_reads
  pub disk : plus before.disk.failed_reads (faults_in dev.Disk lines) ≤ after.disk.failed_reads

-- whether one of the lines says that a read failed
abbrev pub HasFault : Bool → List (List ℕ) → Type 0
HasFault false lines = (faults_in dev.Flash lines ≡ 0) × (faults_in dev.Disk lines ≡ 0)
HasFault true lines = 0 < faults_in dev.Flash lines + faults_in dev.Disk lines

-- what lines cost, and how many reads failed
abbrev pub Pays : (List (List ℕ) → ℕ → Counts → Counts → Type 0) → (before after : Counts) → List (List ℕ) → ℕ → Type 0
Pays Costs before after lines more = Costs lines more before after × CountsFaults lines before after

module _ (print : List ℕ → Fp) (sizes : Sizes) where
  -- a command is answered by its reply, or by a fault line
  abbrev pub Replied : Bool → State → Command → List ℕ → Type 0
  Replied false s command line = line ≡ reply_line print sizes s command
  Replied true s command line = MayFault command line

  -- A line answers a command, and the cache goes on with the state after it. What the line acknowledges is committed.
  pub record GoesOnWith (Kept : (committed held : State) → Type 0) (Paid : List (List ℕ) → Type 0) (c s : State) (command : Command) (faulted : Bool) (line : List ℕ) : Type 0 where
    pub no_end : HasNoEnd line
    pub one : Replied faulted s command line
    pub fault : HasFault faulted (line ∷ [])
    pub committed : State
    pub either : (committed ≡ c) ⊎ (committed ≡ s)
    pub sure : IfSome (acknowledged_by line) (λ count. count ≤ committed.count)
    pub kept : Kept committed (after_all sizes s (answered_one command line))
    pub paid : Paid (line ∷ [])

  -- the line that answers stands in the buffer
  abbrev pub WritesLine : ((committed held : State) → Type 0) → (List (List ℕ) → Type 0) → (c s : State) → Command → Written → List ℕ → Type 0
  WritesLine Kept Paid c s command written text = (line : List ℕ) × (take written.size text ≡ ended line) × GoesOnWith Kept Paid c s command written.faulted line

  -- the same of a line, which is answered where it tells a command
  abbrev pub WritesAnswer : ((committed held : State) → Type 0) → (List (List ℕ) → Type 0) → (c s : State) → Option Command → Option Written → List ℕ → Type 0
  WritesAnswer Kept Paid c s None None text = Kept c s × Paid []
  WritesAnswer Kept Paid c s None (Some written) text = ⊥
  WritesAnswer Kept Paid c s (Some command) None text = ⊥
  WritesAnswer Kept Paid c s (Some command) (Some written) text = WritesLine Kept Paid c s command written text

  -- one line more was said, where a command was told
  abbrev pub AnswersLine : ((committed held : State) → Type 0) → (List (List ℕ) → Type 0) → (c s : State) → Option Command → Bool → (said_before said_after : List ℕ) → Type 0
  AnswersLine Kept Paid c s None faulted said_before said_after = Kept c s × Paid [] × (faulted ≡ false) × (said_after ≡ said_before)
  AnswersLine Kept Paid c s (Some command) faulted said_before said_after =
      (line : List ℕ) × (said_after ≡ said_before ++ ended line) × GoesOnWith Kept Paid c s command faulted line

  -- A part of the line that answers was said, while the devices stand for one of two states, which has what the line acknowledges.
  pub record Saying (c s : State) (command : Command) (said out : List ℕ) (StandFor : State → Type 0) (Paid : List (List ℕ) → Type 0) : Type 0 where
    pub line : List ℕ
    pub no_end : HasNoEnd line
    pub one : AnswersOne print sizes s command line
    pub n : ℕ
    pub out_is : out ≡ said ++ take n (ended line)
    pub state : State
    pub either : (state ≡ c) ⊎ (state ≡ s)
    pub sure : IfSome (acknowledged_by line) (λ count. count ≤ state.count)
    pub stands : StandFor state
    pub paid : Paid (line ∷ [])

  module _ (StandFor : (flash disk : List ℕ) → State → Type 0) where
    -- a crash within the answer to a line: within the call of the cache, or within the emit of the line
    abbrev pub WithinLine : (c s : State) → Option Command → World → Outcome → Type 0
    WithinLine c s None old o = WithinCall StandFor c s old o
    WithinLine c s (Some command) old o = WithinCall StandFor c s old o ⊎ Saying c s command old.said o.out (λ state. StandFor o.flash o.disk state) (λ lines. Unit {0})

    -- why a line isn't answered: the cache failed and nothing was said, or the emit failed
    abbrev pub CutsLine : (List (List ℕ) → ℕ → Type 0) → Halt → (c s : State) → Option Command → World → World → Type 0
    CutsLine Paid (Stopped why) c s command old new = AllStandForEither StandFor c s new × (new.said ≡ old.said) × Paid [] 1
    CutsLine Paid Output c s None old new = ⊥
    CutsLine Paid Output c s (Some command) old new = Saying c s command old.said new.said (AllStand StandFor new) (λ lines. Paid lines 0)
