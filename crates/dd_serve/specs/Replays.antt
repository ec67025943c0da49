-- A replay: its state at the start, its output, and what each status says.
use Rattle.std.specs.Prelude.{◌≡◌, ◌≢◌, ◌⊎◌, ◌≤◌, ◌<◌, ◌+◌, ◌/◌, ℕ, Bool, List, min, length, drop, [], ◌++◌, ⊤}
use Rattle.dd_block.specs.declared.print.Fp.{Fp}
use Rattle.dd_rig.specs.declared.device.Dev.TheVariants as dev
use Rattle.dd_rig.specs.declared.tallies.Counts.{Counts}
use Rattle.dd_rig.specs.Counts.{IsStill, Makes, Rose, nothing, plus, up_to}
use Rattle.dd_rig.specs.World.{World, shown}
use Rattle.dd_model.specs.State.{Sizes, State, array_of, fresh}
use Rattle.dd_script.specs.declared.reply.Stop.{Stop}
use Rattle.dd_script.specs.declared.reply.Stop.TheVariants as stop
use Rattle.dd_script.specs.Command.{Command}
use Rattle.dd_script.specs.Script.{lines_of, commands_of, EndsWithin}
use Rattle.dd_script.specs.Text.{stop_text}
use Rattle.dd_script.specs.declared.dialect.Dialect.{Dialect}
use Rattle.dd_script.specs.Output.{reading_dialect_of, output}
use Rattle.dd_script.specs.Answers.{Answers, AnswersAll, faults_in}
use Rattle.dd_serve.specs.declared.words.Plan.{Plan}
use Rattle.dd_slots.specs.Slots.{AreNew}
use Rattle.dd_model.specs.Listing.{empty_listing}
use Rattle.dd_serve.specs.Scratch.{ScratchView}
use Rattle.dd_loop.specs.declared.ending.Ending.{Ending}
use Rattle.dd_loop.specs.declared.ending.Ending.TheVariants.{Served, Refused, Stopped, Unheard}
use Rattle.dd_loop.specs.Ending.{status_of, stopped_status}
use Rattle.dd_loop.specs.declared.halt.Halt.{Halt}
use Rattle.dd_loop.specs.Answering.{Pays}
use Rattle.dd_loop.specs.Saying.{EndsIn}
use Rattle.dd_loop.specs.Serving.{ServedAll, ServedUpTo}
use Rattle.dd_serve.specs.Answering.{StaysBy}
use Rattle.dd_script.specs.Counting.{loads_in}
use Rattle.dd_serve.specs.Calls.{AsksForLines, unfinished}

-- how a replay may end
abbrev pub IsReplayStatus : ℕ → Type 0
IsReplayStatus status = (status ≤ 8) × (status ≢ 2)

-- the look before all else failed: its line alone is said, and no other call is made
abbrev pub LooksInVain : (Says : List ℕ → Type 0) → (before after : Counts) → Type 0
LooksInVain Says before after = Rose before.flash.failed_reads after.flash.failed_reads × Says (stop_text stop.Flash) × Makes (up_to 1 0 0) nothing before after

-- Why it ends so: it stops at the flash for a failed write, or for that look. It never stops at the disk, and that a script is too long is
-- told by its bytes.
abbrev pub ReplayEndsFor : (Looks : Type 0) → Ending → (Says : List ℕ → Type 0) → (before after : Counts) → (takes_before takes_after : ℕ) → Type 0
ReplayEndsFor Looks (Served faulted) Says before after takes_before takes_after = ⊤
ReplayEndsFor Looks (Refused why) Says before after takes_before takes_after = ⊤
ReplayEndsFor Looks (Stopped stop.Flash) Says before after takes_before takes_after = Rose before.flash.failed_writes after.flash.failed_writes ⊎ Looks
ReplayEndsFor Looks (Stopped stop.Disk) Says before after takes_before takes_after = ⊥
ReplayEndsFor Looks (Stopped stop.Script) Says before after takes_before takes_after = Rose takes_before takes_after
ReplayEndsFor Looks (Stopped stop.Length) Says before after takes_before takes_after = ⊤
ReplayEndsFor Looks (Stopped stop.Memory) Says before after takes_before takes_after = Says (stop_text stop.Memory)
ReplayEndsFor Looks Unheard Says before after takes_before takes_after = Rose before.failed_emits after.failed_emits

-- a status is that of an ending: which count rose tells why it ended so, and its line was said
abbrev pub ReplayIsCaused : (Looks : Type 0) → (status : ℕ) → (Says : List ℕ → Type 0) → (Ends : Ending → Type 0) → (before after : Counts) → (takes_before takes_after : ℕ) → Type 0
ReplayIsCaused Looks status Says Ends before after takes_before takes_after =
    (ending : Ending) × (status ≡ status_of ending) × (status ≢ 2) × ReplayEndsFor Looks ending Says before after takes_before takes_after × Ends ending

-- no more blocks than these are numbered
abbrev pub most_blocks : ℕ
most_blocks = 16777216

-- how many blocks a disk of that size has
abbrev pub blocks_of : Plan → (disk : ℕ) → ℕ
blocks_of plan disk = min (disk / plan.block) most_blocks

abbrev pub plan_sizes : Plan → (disk : ℕ) → Sizes
plan_sizes plan disk = record { block = plan.block; blocks = blocks_of plan disk; acap = plan.acap; bcap = plan.bcap }

-- the array as the disk shows it, and empty lists
abbrev pub replay_start : Plan → (disk : ℕ) → World → State
replay_start plan disk world = fresh (array_of plan.block (blocks_of plan disk) (shown dev.Disk world))

-- its lines only read
abbrev pub replay_dialect : Plan → (disk : ℕ) → Dialect
replay_dialect plan disk = reading_dialect_of (plan_sizes plan disk)

abbrev pub replay_commands : Plan → (disk : ℕ) → List ℕ → List Command
replay_commands plan disk script = commands_of (replay_dialect plan disk) script

-- what a replay of a script prints, where no call fails
abbrev pub replay_output : (List ℕ → Fp) → Plan → (disk : ℕ) → World → List ℕ → List ℕ
replay_output print plan disk world script = output print (plan_sizes plan disk) (replay_start plan disk world) (replay_dialect plan disk) script

-- a script has fewer than 2^40 bytes, or a whole line q among so many
abbrev pub IsBounded : Plan → (disk : ℕ) → List ℕ → Type 0
IsBounded plan disk script = EndsWithin 1099511627776 (replay_dialect plan disk) script

-- the scratch of a replay at its start: nothing is listed, and each slot is free
pub record IsFirst (plan : Plan) (disk : ℕ) (scratch : ScratchView) : Type 0 where
  pub blocks : scratch.blocks ≡ blocks_of plan disk
  pub lists : scratch.lists ≡ empty_listing plan.acap plan.bcap (plan.bcap + 1)
  pub slots : AreNew 64 plan.block (plan.bcap + 1) [] scratch.slots
  pub count : scratch.count ≡ 0

-- each line of the script was answered, from that state on, and paid
abbrev pub ReplaysAll : (List ℕ → Fp) → Plan → (disk : ℕ) → (faulted : Bool) → (script : List ℕ) → (old new : World) → (before after : Counts) → Type 0
ReplaysAll print plan disk faulted script old new before after =
    ServedAll print (plan_sizes plan disk) (StaysBy old) (replay_start plan disk old) (replay_commands plan disk script) (Pays (AsksForLines (plan_sizes plan disk)) before after) (λ lines s. Unit {0}) faulted old.said new

-- the first of them were
abbrev pub ReplaysUpTo : (List ℕ → Fp) → Plan → (disk : ℕ) → Halt → (script : List ℕ) → (old new : World) → (before after : Counts) → Type 0
ReplaysUpTo print plan disk halt script old new before after =
    ServedUpTo print (plan_sizes plan disk) (StaysBy old) (replay_start plan disk old) (replay_commands plan disk script) (Pays (AsksForLines (plan_sizes plan disk)) before after) halt old.said new

-- what was said in between
abbrev pub said_since : World → World → List ℕ
said_since old new = drop (length old.said) new.said

-- the whole lines of it
abbrev pub lines_since : World → World → List (List ℕ)
lines_since old new = (lines_of (said_since old new)).whole

-- What a replay of a script says over a disk of that size, whatever fails, and what its status says of that.
pub record Replays (print : List ℕ → Fp) (plan : Plan) (disk : ℕ) (status : ℕ) (script : List ℕ) (old new : World) (before after : Counts) : Type 0 where
  -- the output goes on
  pub said : new.said ≡ old.said ++ said_since old new
  -- its whole lines answer the commands one by one, and behind them stands a part of one more
  pub answers : Answers print (plan_sizes plan disk) (replay_start plan disk old) (replay_commands plan disk script) (said_since old new)
  -- it has no such part where no emit failed
  pub whole : IsStill before.failed_emits after.failed_emits → (lines_of (said_since old new)).rest ≡ []
  -- with 0 and 1 each command is answered, with 0 by the definition's reply
  pub all : status ≤ 1 → AnswersAll print (plan_sizes plan disk) (replay_start plan disk old) (replay_commands plan disk script) (said_since old new)
  pub exact : status ≡ 0 → said_since old new ≡ replay_output print plan disk old script
  -- 1 comes only with a fault line, and no more fault lines come than reads failed
  pub fault : status ≡ 1 → 0 < faults_in dev.Flash (lines_since old new) + faults_in dev.Disk (lines_since old new)
  pub flash_faults : plus before.flash.failed_reads (faults_in dev.Flash (lines_since old new)) ≤ after.flash.failed_reads
  pub disk_faults : plus before.disk.failed_reads (faults_in dev.Disk (lines_since old new)) ≤ after.disk.failed_reads
  -- no more calls were made than the lines say, and with 0 the disk was read for joins and misses alone, once each
  pub asks : AsksForLines (plan_sizes plan disk) (lines_since old new) (unfinished status) before after
  pub loads : status ≡ 0 → after.disk.reads ≤ before.disk.reads + loads_in (lines_since old new)
  -- a run that stops, which it never does at the disk, ends with the line of its status, and the line is whole where no emit failed
  pub last : (why : Stop) → why ≢ stop.Disk → status ≡ stopped_status why → EndsIn (stop_text why) (said_since old new) before after
  -- 8 comes where the script has too many bytes, and 0 and 1 only where it hasn't
  pub bounded : status ≤ 1 → IsBounded plan disk script
  pub long : status ≡ 8 → IsBounded plan disk script → ⊥
