-- What a run that serves a script says, how it ends, and why.
use Rattle.std.specs.Prelude.{◌≡◌, ◌⊎◌, ◌++◌, ◌≤◌, ℕ, Bool, false, List, [], length, Result, Ok, Err, ⊤}
use Rattle.dd_block.specs.declared.print.Fp.{Fp}
use Rattle.dd_rig.specs.World.{World}
use Rattle.dd_rig.specs.declared.tallies.Counts.{Counts}
use Rattle.dd_rig.specs.Counts.{IsStill, Rose, plus}
use Rattle.dd_model.specs.State.{Sizes, State}
use Rattle.dd_script.specs.Answers.{Answers, AnswersAll, taken}
use Rattle.dd_script.specs.Command.{Command, after_all}
use Rattle.dd_script.specs.Counting.{hits_in}
use Rattle.dd_script.specs.Output.{dialect_of, output_of}
use Rattle.dd_script.specs.Reading.{script_limit}
use Rattle.dd_script.specs.Script.{lines_of, commands_of, EndsWithin}
use Rattle.dd_script.specs.Text.{stop_text}
use Rattle.dd_script.specs.declared.reply.Stop.TheVariants as stop
use Rattle.dd_loop.specs.declared.ending.Ending.{Ending}
use Rattle.dd_loop.specs.declared.ending.Ending.TheVariants.{Served, Refused, Stopped, Unheard}
use Rattle.dd_loop.specs.Answering.{CountsFaults, HasFault, Pays}
use Rattle.dd_loop.specs.Ending.{status_of}
use Rattle.dd_loop.specs.Saying.{EndsIn}
use Rattle.dd_loop.specs.Serving.{ServedAll, ServedUpTo}
use Rattle.dd_loop.specs.declared.halt.Halt.TheVariants as halts
use Rattle.dd_loop.specs.declared.halt.Halt.{Halt}
use Rattle.dd_answers.specs.Answering.{StandsSince}
use Rattle.dd_answers.specs.Costs.{CallsLittle, HasArrayBehind, Spends}

-- a script has fewer than 2^40 bytes, or a whole line q among so many
abbrev pub IsBounded : Sizes → List ℕ → Type 0
IsBounded sizes script = EndsWithin script_limit (dialect_of sizes) script

-- Why a run ends, on every rig: which count rose. In the opening a failed read of the flash stops it too.
abbrev pub Caused : (opening : Type 0) (long : Type 0) → Ending → (before after : Counts) → (takes_before takes_after : ℕ) → Type 0
Caused opening long (Served faulted) before after takes_before takes_after = ⊤
Caused opening long (Refused why) before after takes_before takes_after = opening
Caused opening long (Stopped stop.Flash) before after takes_before takes_after =
    Rose before.flash.failed_writes after.flash.failed_writes ⊎ (opening × Rose before.flash.failed_reads after.flash.failed_reads)
Caused opening long (Stopped stop.Disk) before after takes_before takes_after = Rose before.disk.failed_writes after.disk.failed_writes
Caused opening long (Stopped stop.Script) before after takes_before takes_after = Rose takes_before takes_after
Caused opening long (Stopped stop.Length) before after takes_before takes_after = long
Caused opening long (Stopped stop.Memory) before after takes_before takes_after = ⊤
Caused opening long Unheard before after takes_before takes_after = Rose before.failed_emits after.failed_emits

-- A run over devices that stand for the state at its start; in front of its lines the disk may have been called so often.
module _ (print : List ℕ → Fp) (sizes : Sizes) (start : State) (script : List ℕ) (opening : ℕ) where
  -- what is known of a script that was served
  pub record ServedWhole (faulted : Bool) (output : List ℕ) (new : World) (before after : Counts) : Type 0 where
    -- each command has its whole line
    pub all : AnswersAll print sizes start (commands_of (dialect_of sizes) script) output
    pub fault : HasFault faulted (lines_of output).whole
    -- and its reply, where no line tells a fault
    pub exact : faulted ≡ false → output ≡ output_of print sizes start (commands_of (dialect_of sizes) script)
    pub bounded : IsBounded sizes script
    -- and then the disk was called no more than the lines tell
    pub calls : faulted ≡ false → CallsLittle opening (length start.addresses) (lines_of output).whole before.disk after.disk
    -- the disk has the array where no address can be dirty behind the lines
    pub drained : HasArrayBehind sizes new (lines_of output).whole (after_all sizes start (taken (commands_of (dialect_of sizes) script) output))

  -- what each ending says of the output: where the run stopped the line that says why is the last, and where an emit failed nothing is said
  -- behind it
  abbrev pub Ends : Ending → (output : List ℕ) → (new : World) → (before after : Counts) → Type 0
  Ends (Served faulted) output new before after = ServedWhole faulted output new before after
  Ends (Refused why) output new before after = ⊥
  Ends (Stopped why) output new before after = EndsIn (stop_text why) output before after × (why ≡ stop.Length → IsBounded sizes script → ⊥)
  Ends Unheard output new before after = ⊤

  -- What a run says that serves a script over devices which stand for the state at its start, whatever fails.
  pub record Serves (status : ℕ) (old new : World) (before after : Counts) : Type 0 where
    pub output : List ℕ
    pub said : new.said ≡ old.said ++ output
    -- its whole lines answer the commands one by one, and behind them stands a part of one more
    pub answers : Answers print sizes start (commands_of (dialect_of sizes) script) output
    -- it has no such part where no emit failed
    pub whole : IsStill before.failed_emits after.failed_emits → (lines_of output).rest ≡ []
    -- no more fault lines come than reads failed
    pub faults : CountsFaults (lines_of output).whole before after
    -- and the flash was read for each line that tells a hit of a block that isn't zeros
    pub hits : plus before.flash.reads (hits_in (lines_of output).whole) ≤ after.flash.reads
    pub ending : Ending
    pub status_is : status ≡ status_of ending
    pub ends : Ends ending output new before after

-- how the loop over the lines ends
abbrev pub served_ending : Result Bool Halt → Ending
served_ending (Ok faulted) = Served faulted
served_ending (Err halts.Output) = Unheard
served_ending (Err (halts.Stopped why)) = Stopped why

-- the script was served
abbrev pub IsServed : Ending → Type 0
IsServed (Served faulted) = ⊤
IsServed ending = ⊥

-- no more lines say that a read failed than reads failed, and the devices are called no more than lines tell
abbrev pub LinesPaid : (listed : ℕ) → (before after : Counts) → List (List ℕ) → ℕ → Type 0
LinesPaid listed before after lines more = Pays (Spends listed) before after lines more

-- what was said and what is left where the loop over the lines of a script ended so, over a store that held a state in that world
module _ (print : List ℕ → Fp) (first : World) (sizes : Sizes) (start : State) (commands : List Command) where
  abbrev pub LoopEnds : Ending → (said : List ℕ) → (new : World) → (before after : Counts) → Type 0
  LoopEnds (Served faulted) said new before after = ServedAll print sizes (StandsSince print first) start commands (LinesPaid (length start.addresses) before after) (HasArrayBehind sizes new) faulted said new
  LoopEnds (Refused why) said new before after = ⊥
  LoopEnds (Stopped why) said new before after = ServedUpTo print sizes (StandsSince print first) start commands (LinesPaid (length start.addresses) before after) (halts.Stopped why) said new
  LoopEnds Unheard said new before after = ServedUpTo print sizes (StandsSince print first) start commands (LinesPaid (length start.addresses) before after) halts.Output said new
