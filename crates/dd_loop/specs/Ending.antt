-- How a run ends: its status, and the line that says why.
use Rattle.std.specs.Prelude.{◌≡◌, ◌⊎◌, ℕ, true, false, List, ◌++◌, take, Option, Some, None, ⊤}
use Rattle.dd_rig.specs.declared.tallies.Counts.{Counts}
use Rattle.dd_rig.specs.Counts.{Rose}
use Rattle.dd_rig.specs.World.{World, Outcome, WithinEmit}
use Rattle.dd_script.specs.declared.reply.Refusal.{Refusal}
use Rattle.dd_script.specs.declared.reply.Refusal.TheVariants as refusal
use Rattle.dd_script.specs.declared.reply.Stop.{Stop}
use Rattle.dd_script.specs.declared.reply.Stop.TheVariants as stop
use Rattle.dd_script.specs.Text.{ended, refusal_text, stop_text}
use Rattle.dd_loop.specs.declared.ending.Ending.{Ending}
use Rattle.dd_loop.specs.declared.ending.Ending.TheVariants.{Served, Refused, Stopped, Unheard}
use Rattle.dd_loop.specs.Saying.{SaysAlone}

-- the status of a run that was refused
abbrev pub refused_status : Refusal → ℕ
refused_status refusal.Words = 2
refused_status (refusal.FlashSmall need have) = 3
refused_status (refusal.DiskSmall need have) = 3
refused_status refusal.InUse = 3
refused_status (refusal.Super fault) = 3
refused_status refusal.NoRegion = 3
refused_status (refusal.Snapshot region at) = 3
refused_status (refusal.Group region at) = 3
refused_status (refusal.Worn value) = 3
refused_status refusal.Version1 = 3

-- the status of a run that stops
abbrev pub stopped_status : Stop → ℕ
stopped_status stop.Memory = 4
stopped_status stop.Script = 5
stopped_status stop.Flash = 7
stopped_status stop.Disk = 7
stopped_status stop.Length = 8

-- the status of each ending: 1 says that a read failed, and its command was answered so
abbrev pub status_of : Ending → ℕ
status_of (Served false) = 0
status_of (Served true) = 1
status_of (Refused why) = refused_status why
status_of (Stopped why) = stopped_status why
status_of Unheard = 6

-- the line that says why, where there is one
abbrev pub ending_line : Ending → Option (List ℕ)
ending_line (Served faulted) = None
ending_line (Refused why) = Some (refusal_text why)
ending_line (Stopped why) = Some (stop_text why)
ending_line Unheard = None

-- that line is the last that is said; without one nothing is said
abbrev pub SaysLast : Option (List ℕ) → Counts → Counts → World → World → Type 0
SaysLast None before after old new = new.said ≡ old.said
SaysLast (Some line) before after old new = SaysAlone line before after old new

-- a crash within that line
abbrev pub WithinLast : Option (List ℕ) → World → Outcome → Type 0
WithinLast None old o = ⊥
WithinLast (Some line) old o = WithinEmit (ended line) old o

-- that line is the last that was said since, or an emit failed and a part of it is; whatever was said in front of it
abbrev pub SaysBehind : List ℕ → Counts → Counts → World → World → Type 0
SaysBehind line before after old new =
    (front : List ℕ) × ((new.said ≡ old.said ++ front ++ ended line) ⊎ (Rose before.failed_emits after.failed_emits × (n : ℕ) × (new.said ≡ old.said ++ front ++ take n (ended line))))

-- What the output tells of each ending. A run that was refused, or had no memory, says the line of that and nothing else. One that stopped
-- for another cause says its line last.
abbrev pub SaysEnding : Ending → Counts → Counts → World → World → Type 0
SaysEnding (Served faulted) before after old new = ⊤
SaysEnding (Refused why) before after old new = SaysAlone (refusal_text why) before after old new
SaysEnding (Stopped stop.Memory) before after old new = SaysAlone (stop_text stop.Memory) before after old new
SaysEnding (Stopped stop.Script) before after old new = SaysBehind (stop_text stop.Script) before after old new
SaysEnding (Stopped stop.Flash) before after old new = SaysBehind (stop_text stop.Flash) before after old new
SaysEnding (Stopped stop.Disk) before after old new = SaysBehind (stop_text stop.Disk) before after old new
SaysEnding (Stopped stop.Length) before after old new = SaysBehind (stop_text stop.Length) before after old new
SaysEnding Unheard before after old new = ⊤
