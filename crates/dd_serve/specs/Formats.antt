-- A format: what its status says, and what a crash may leave.
use Rattle.std.specs.Prelude.{◌≡◌, ◌≢◌, ◌⊎◌, ◌++◌, ℕ, false, List, ⊤}
use Rattle.dd_block.specs.declared.print.Fp.{Fp}
use Rattle.dd_block.specs.declared.geometry.Geometry.{Geometry}
use Rattle.dd_rig.specs.declared.tallies.Counts.{Counts}
use Rattle.dd_rig.specs.Clock.{Clock, Elapses}
use Rattle.dd_rig.specs.Counts.{Rose}
use Rattle.dd_rig.specs.Device.{IsImage}
use Rattle.dd_rig.specs.World.{World, IsOwn}
use Rattle.dd_recover.specs.Formatting.{IsFormatted, IsUnusedOrFormatted}
use Rattle.dd_recover.specs.declared.fault.FormatFault.{FormatFault}
use Rattle.dd_recover.specs.declared.fault.FormatFault.TheVariants as fault
use Rattle.dd_script.specs.declared.reply.Reply.TheVariants as reply
use Rattle.dd_script.specs.declared.reply.Refusal.TheVariants as refusal
use Rattle.dd_script.specs.declared.reply.Stop.TheVariants as stop
use Rattle.dd_script.specs.Text.{ended, reply_text, stop_text}
use Rattle.dd_loop.specs.declared.ending.Ending.{Ending}
use Rattle.dd_loop.specs.declared.ending.Ending.TheVariants.{Served, Refused, Stopped, Unheard}
use Rattle.dd_loop.specs.Ending.{status_of}
use Rattle.dd_loop.specs.Saying.{SaysAlone}

-- how a format ends that failed
abbrev pub ending_of : FormatFault → Ending
ending_of (fault.FlashSmall need have) = Refused (refusal.FlashSmall need have)
ending_of (fault.DiskSmall need have) = Refused (refusal.DiskSmall need have)
ending_of fault.InUse = Refused refusal.InUse
ending_of fault.FlashRead = Stopped stop.Flash
ending_of fault.FlashWrite = Stopped stop.Flash
ending_of fault.DiskWrite = Stopped stop.Disk

-- how a format may end
abbrev pub IsFormatStatus : ℕ → Type 0
IsFormatStatus status = (status ≡ 0) ⊎ (status ≡ 3) ⊎ (status ≡ 6) ⊎ (status ≡ 7)

-- Why it ends so. Where a device fails the line names it, and no other line is said; it reads no script and needs no memory.
abbrev pub FormatEndsFor : Ending → (Says : List ℕ → Type 0) → (before after : Counts) → Type 0
FormatEndsFor (Served faulted) Says before after = faulted ≡ false
FormatEndsFor (Refused why) Says before after = ⊤
FormatEndsFor (Stopped stop.Flash) Says before after =
    (Rose before.flash.failed_reads after.flash.failed_reads ⊎ Rose before.flash.failed_writes after.flash.failed_writes) × Says (stop_text stop.Flash)
FormatEndsFor (Stopped stop.Disk) Says before after = Rose before.disk.failed_writes after.disk.failed_writes × Says (stop_text stop.Disk)
FormatEndsFor (Stopped stop.Script) Says before after = ⊥
FormatEndsFor (Stopped stop.Length) Says before after = ⊥
FormatEndsFor (Stopped stop.Memory) Says before after = ⊥
FormatEndsFor Unheard Says before after = Rose before.failed_emits after.failed_emits

-- a status is that of an ending: which count rose tells why it ended so, and its line was said
abbrev pub FormatIsCaused : (status : ℕ) → (Says : List ℕ → Type 0) → (Ends : Ending → Type 0) → (before after : Counts) → Type 0
FormatIsCaused status Says Ends before after = (ending : Ending) × (status ≡ status_of ending) × (status ≢ 2) × FormatEndsFor ending Says before after × Ends ending

-- whatever a crash leaves now stands for the disk's array, empty lists and no references
abbrev pub AreFormatted : Geometry → (old new : World) → Type 0
AreFormatted geo old new = (print : List ℕ → Fp) (flash disk : List ℕ) → IsImage new.flash flash → IsImage new.disk disk → IsFormatted print geo old flash disk

-- What a format has done: with 0 it said `formatted` and nothing else, with 6 this line was cut, and with both the devices are formatted.
pub record Formats (geo : Geometry) (status : ℕ) (before after : Counts) (old new : World) : Type 0 where
  pub exact : status ≡ 0 → new.said ≡ old.said ++ ended (reply_text reply.Formatted)
  pub cut : status ≡ 6 → SaysAlone (reply_text reply.Formatted) before after old new
  pub done : (status ≡ 0) ⊎ (status ≡ 6) → AreFormatted geo old new

-- a crash within a format leaves what one before it might have left, a flash that isn't in use, or devices that are formatted
abbrev pub FormatLeaves : Geometry → World → Clock → Clock → Type 0
FormatLeaves geo old first last =
    (print : List ℕ → Fp) → Elapses first last (λ o. IsOwn old o.flash o.disk ⊎ IsUnusedOrFormatted print geo old o.flash o.disk)
