-- Why a run ends before its script: which count rose.
use Rattle.dd_rig.specs.declared.device.Dev.{Dev}
use Rattle.dd_rig.specs.declared.device.Dev.TheVariants as dev
use Rattle.dd_rig.specs.declared.tallies.Counts.{Counts}
use Rattle.dd_rig.specs.Counts.{Rose}
use Rattle.dd_script.specs.declared.pieces.ScriptFault.{ScriptFault}
use Rattle.dd_script.specs.declared.pieces.ScriptFault.TheVariants as script
use Rattle.dd_script.specs.declared.reply.Stop.{Stop}
use Rattle.dd_script.specs.declared.reply.Stop.TheVariants as stop
use Rattle.dd_loop.specs.declared.halt.Halt.{Halt}
use Rattle.dd_loop.specs.declared.halt.Halt.TheVariants.{Stopped, Output}

-- Why serving ends before its script: the count that rose. Stops says for which device a cache may stop, failed that a take of the
-- script failed, and long that it has too many bytes.
abbrev pub Halts : (Stops : Dev → Type 0) → (failed long : Type 0) → Halt → Counts → Counts → Type 0
Halts Stops failed long Output before after = Rose before.failed_emits after.failed_emits
Halts Stops failed long (Stopped stop.Flash) before after = Stops dev.Flash × Rose before.flash.failed_writes after.flash.failed_writes
Halts Stops failed long (Stopped stop.Disk) before after = Stops dev.Disk × Rose before.disk.failed_writes after.disk.failed_writes
Halts Stops failed long (Stopped stop.Script) before after = failed
Halts Stops failed long (Stopped stop.Length) before after = long
Halts Stops failed long (Stopped stop.Memory) before after = ⊥

-- a cache halts by a write or a sync that failed
abbrev pub HaltsByDevice : (Stops : Dev → Type 0) → Halt → Counts → Counts → Type 0
HaltsByDevice Stops Output before after = ⊥
HaltsByDevice Stops (Stopped stop.Flash) before after = Stops dev.Flash × Rose before.flash.failed_writes after.flash.failed_writes
HaltsByDevice Stops (Stopped stop.Disk) before after = Stops dev.Disk × Rose before.disk.failed_writes after.disk.failed_writes
HaltsByDevice Stops (Stopped why) before after = ⊥

-- the line that tells why a script can't be read on
abbrev pub stop_of : ScriptFault → Stop
stop_of script.Take = stop.Script
stop_of script.Length = stop.Length
