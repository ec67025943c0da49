-- What a large run says, why it ends, and what a crash within it leaves.
use Rattle.std.specs.Prelude.{◌≡◌, ◌⊎◌, ◌++◌, ◌≤◌, ℕ, false, List, ⊤}
use Rattle.dd_block.specs.declared.print.Fp.{Fp}
use Rattle.dd_rig.specs.declared.tallies.Counts.{Counts}
use Rattle.dd_rig.specs.Counts.{Rose}
use Rattle.dd_rig.specs.World.{World, Outcome, MayLeave}
use Rattle.dd_model.specs.State.{Sizes, State}
use Rattle.dd_script.specs.Answers.{acknowledged}
use Rattle.dd_script.specs.Text.{ended, sum_text, bye_text, stop_text}
use Rattle.dd_script.specs.declared.reply.Stop.{Stop}
use Rattle.dd_script.specs.declared.reply.Sums.{Sums}
use Rattle.dd_script.specs.declared.reply.Stop.TheVariants as stop
use Rattle.dd_store.specs.Meaning.{Basis, Stands}
use Rattle.dd_store.specs.declared.fault.StoreFault.{StoreFault}
use Rattle.dd_store.specs.declared.fault.StoreFault.TheVariants as fault
use Rattle.dd_loop.specs.declared.ending.Ending.{Ending}
use Rattle.dd_loop.specs.declared.ending.Ending.TheVariants.{Served, Refused, Stopped, Unheard}
use Rattle.dd_loop.specs.Ending.{status_of}
use Rattle.dd_loop.specs.Saying.{SaysAlone}
use Rattle.dd_loop.specs.Standing.{AllStand, AllStandForEither, StandForEither}
use Rattle.dd_answers.specs.Answering.{StandsBy}
use Rattle.dd_answers.specs.Headline.{IsUnopened}
use Rattle.dd_recover.specs.Beginning.{Begins, BeginsAt, basis_from, sizes_from}
use Rattle.dd_gen.specs.Running.{state_at, sums_at, AllStandWithin}

-- the text goes on behind these bytes, or it ends there
abbrev pub IsFront : (front text : List ℕ) → Type 0
IsFront front text = (more : List ℕ) × (text ≡ front ++ more)

-- both lines of a run that was done: what its references came to, and how many there were in all
abbrev pub both_lines : Sums → ℕ → List ℕ
both_lines sums count = ended (sum_text sums) ++ ended (bye_text count)

-- a part of a text was said behind other bytes, or all of it
abbrev pub SaysFront : (text said out : List ℕ) → Type 0
SaysFront text said out = (output : List ℕ) × (out ≡ said ++ output) × IsFront output text

-- what is said where a text is the last one, and nothing failed but an emit
abbrev pub SaysEnd : Ending → (text before after : List ℕ) → Type 0
SaysEnd (Served faulted) text before after = (faulted ≡ false) × (after ≡ before ++ text)
SaysEnd (Refused why) text before after = ⊥
SaysEnd (Stopped why) text before after = ⊥
SaysEnd Unheard text before after = SaysFront text before after

-- an emit failed, where it wasn't said
abbrev pub IsHeard : Ending → (before after : Counts) → Type 0
IsHeard (Served faulted) before after = faulted ≡ false
IsHeard (Refused why) before after = ⊥
IsHeard (Stopped why) before after = ⊥
IsHeard Unheard before after = Rose before.failed_emits after.failed_emits

-- the line of the device whose call failed
abbrev pub stopped_by : StoreFault → Stop
stopped_by fault.FlashRead = stop.Flash
stopped_by fault.FlashWrite = stop.Flash
stopped_by fault.DiskRead = stop.Disk
stopped_by fault.DiskWrite = stop.Disk

-- A crash within the last commit or behind it: one of two states and nothing said, or the state held and a part of both lines.
abbrev pub WithinCommit : (basis : Basis) → (List ℕ → Fp) → (c s : State) → Sums → (said : List ℕ) → Outcome → Type 0
WithinCommit basis print c s sums said o =
    (StandForEither (StandsBy basis print) c s o.flash o.disk × (o.out ≡ said)) ⊎ (Stands basis print o.flash o.disk s × SaysFront (both_lines sums s.count) said o.out)

-- and where it ends so
abbrev pub CommitEnds : (basis : Basis) → (List ℕ → Fp) → (c s : State) → Sums → Ending → (said : List ℕ) → World → Type 0
CommitEnds basis print c s sums (Stopped why) said new = AllStandForEither (StandsBy basis print) c s new × (new.said ≡ said)
CommitEnds basis print c s sums ending said new = AllStand (StandsBy basis print) new s × SaysEnd ending (both_lines sums s.count) said new.said

-- A run of so many of the commands that a seed generates, from the state at its start.
module _ (print : List ℕ → Fp) (sizes : Sizes) (start : State) (seed count : ℕ) where
  -- the two lines of a run that was done
  abbrev pub last_lines : List ℕ
  last_lines = both_lines (sums_at print sizes start seed count) (state_at print sizes start seed count).count

  -- what each ending says of a whole run
  abbrev pub Tells : Ending → (before after : Counts) → (old new : World) → Type 0
  Tells (Served faulted) before after old new = new.said ≡ old.said ++ last_lines
  Tells (Refused why) before after old new = ⊥
  Tells (Stopped why) before after old new = SaysAlone (stop_text why) before after old new
  Tells Unheard before after old new = SaysFront last_lines old.said new.said

-- and what a crash leaves of it, while the epoch keeps its pace
module _ (basis : Basis) (print : List ℕ → Fp) (sizes : Sizes) (start : State) (seed count : ℕ) where
  -- The two devices stand for the array and both lists behind some first part of the generated commands, no shorter than what the output
  -- acknowledges; and the output is a part of the two lines, or of the line that says why the run stopped. It reads the outcome's own
  -- output, so it is the same property at each moment of a run.
  pub record LeavesGenerated (said : List ℕ) (o : Outcome) : Type 0 where
    -- what this run had said
    pub output : List ℕ
    pub out : o.out ≡ said ++ output
    -- how many of the commands the devices have
    pub k : ℕ
    pub few : k ≤ count
    -- on the basis of the start, so the next run begins with that state
    pub stands : Stands basis print o.flash o.disk (state_at print sizes start seed k)
    pub again : BeginsAt basis print (state_at print sizes start seed k) o.flash o.disk
    pub acknowledges : acknowledged start.count output ≤ (state_at print sizes start seed k).count
    pub part : IsFront output (last_lines print sizes start seed count) ⊎ ((why : Stop) × IsFront output (ended (stop_text why)))

  -- a crash now leaves that
  abbrev pub AllLeaveGenerated : (said : List ℕ) → World → Type 0
  AllLeaveGenerated said new = (o : Outcome) → MayLeave new o → LeavesGenerated said o

  -- What is said where the commands end so, and what a crash then leaves. Behind a failed call of a device nothing is said yet.
  abbrev pub RunEnds : Ending → (said : List ℕ) → (new : World) → Type 0
  RunEnds (Served faulted) said new = SaysEnd (Served faulted) (last_lines print sizes start seed count) said new.said × AllLeaveGenerated said new
  RunEnds (Refused why) said new = ⊥
  RunEnds (Stopped why) said new = (new.said ≡ said) × AllStandWithin basis print sizes start seed count new
  RunEnds Unheard said new = SaysFront (last_lines print sizes start seed count) said new.said × AllLeaveGenerated said new

-- Why a large run ends, on every rig: which count rose. A failed read stops it, too. It is refused in the opening alone.
abbrev pub Caused : (opening : Type 0) → Ending → (before after : Counts) → Type 0
Caused opening (Served faulted) before after = faulted ≡ false
Caused opening (Refused why) before after = opening
Caused opening (Stopped stop.Flash) before after = Rose before.flash.failed_reads after.flash.failed_reads ⊎ Rose before.flash.failed_writes after.flash.failed_writes
Caused opening (Stopped stop.Disk) before after = Rose before.disk.failed_reads after.disk.failed_reads ⊎ Rose before.disk.failed_writes after.disk.failed_writes
Caused opening (Stopped stop.Script) before after = ⊥
Caused opening (Stopped stop.Length) before after = ⊥
Caused opening (Stopped stop.Memory) before after = ⊤
Caused opening Unheard before after = Rose before.failed_emits after.failed_emits

-- a status is that of an ending: which count rose tells why it ended so, and its line was said
abbrev pub EndsForCause : (opening : Type 0) → (Says : Ending → Type 0) → (status : ℕ) → (before after : Counts) → Type 0
EndsForCause opening Says status before after = (ending : Ending) × (status ≡ status_of ending) × Caused opening ending before after × Says ending

-- what a run says that generates its commands over devices which stand for the state at its start
pub record TellsSums (print : List ℕ → Fp) (sizes : Sizes) (start : State) (seed count status : ℕ) (before after : Counts) (old new : World) : Type 0 where
  pub ending : Ending
  pub status_is : status ≡ status_of ending
  pub tells : Tells print sizes start seed count ending before after old new

-- the promise on crashes: nothing was opened yet, or the devices stand for the state behind some first part of the commands
abbrev pub Promises : {print : List ℕ → Fp} {world : World} → Begins print world → (seed count : ℕ) → Outcome → Type 0
Promises {print} {world} from seed count o = IsUnopened world o ⊎ LeavesGenerated (basis_from from) print (sizes_from from) from.start seed count world.said o
