-- How a run ends whose devices weren't opened, and why any run ends.
use Rattle.std.specs.Prelude.{◌≡◌, ℕ, List}
use Rattle.dd_rig.specs.declared.device.Dev.{Dev}
use Rattle.dd_rig.specs.declared.tallies.Counts.{Counts}
use Rattle.dd_rig.specs.Counts.{Makes, up_to}
use Rattle.dd_rig.specs.World.{World}
use Rattle.dd_recover.specs.Opening.{IsFirstFault}
use Rattle.dd_recover.specs.declared.opening_fault.OpenFault.{OpenFault}
use Rattle.dd_recover.specs.declared.opening_fault.OpenFault.TheVariants as open_fault
use Rattle.dd_script.specs.Text.{refusal_text}
use Rattle.dd_script.specs.declared.reply.Refusal.{Refusal}
use Rattle.dd_script.specs.declared.reply.Refusal.TheVariants as refusal
use Rattle.dd_script.specs.declared.reply.Stop.TheVariants as stop
use Rattle.dd_loop.specs.declared.ending.Ending.{Ending}
use Rattle.dd_loop.specs.declared.ending.Ending.TheVariants.{Refused, Stopped}
use Rattle.dd_loop.specs.Ending.{ending_line, status_of, SaysLast}
use Rattle.dd_loop.specs.Saying.{SaysAlone}
use Rattle.dd_answers.specs.Serving.{Caused}

-- want of memory and failed calls stop the run, and each other fault is a refusal of its own
abbrev pub ending_of : OpenFault → Ending
ending_of (open_fault.Memory e) = Stopped stop.Memory
ending_of open_fault.FlashRead = Stopped stop.Flash
ending_of open_fault.FlashWrite = Stopped stop.Flash
ending_of open_fault.DiskWrite = Stopped stop.Disk
ending_of (open_fault.FlashSmall need have) = Refused (refusal.FlashSmall need have)
ending_of (open_fault.DiskSmall need have) = Refused (refusal.DiskSmall need have)
ending_of (open_fault.Super fault) = Refused (refusal.Super fault)
ending_of open_fault.NoRegion = Refused refusal.NoRegion
ending_of (open_fault.Snapshot region at) = Refused (refusal.Snapshot region at)
ending_of (open_fault.Group region at) = Refused (refusal.Group region at)
ending_of (open_fault.Worn value) = Refused (refusal.Worn value)
ending_of open_fault.Version1 = Refused refusal.Version1

-- a status is that of an ending: which count rose tells why it ended so, and its line was said
abbrev pub EndsForCause : (opening long : Type 0) → (Says : Ending → Type 0) → (status : ℕ) → (before after : Counts) → (takes_before takes_after : ℕ) → Type 0
EndsForCause opening long Says status before after takes_before takes_after =
    (ending : Ending) × (status ≡ status_of ending) × Caused opening long ending before after takes_before takes_after × Says ending

-- the line of the first fault was said, and nothing else
pub record RefusesDevices (size : Dev → ℕ) (flash : List ℕ) (before after : Counts) (old new : World) : Type 0 where
  pub fault : OpenFault
  pub first : IsFirstFault size flash fault
  pub why : Refusal
  pub refuses : ending_of fault ≡ Refused why
  pub says : SaysAlone (refusal_text why) before after old new
  pub flash_same : (new.flash).shown ≡ (old.flash).shown
  pub disk_same : (new.disk).shown ≡ (old.disk).shown

-- Nothing was served: the run was refused, there was no memory, or a device failed in the opening. The line of that was said alone, no more
-- calls were made than those of an opening, and both devices show what they showed.
pub record IsUnserved (status : ℕ) (before after : Counts) (old new : World) : Type 0 where
  pub fault : OpenFault
  pub ends : status ≡ status_of (ending_of fault)
  pub says : SaysLast (ending_line (ending_of fault)) before after old new
  pub calls : Makes (up_to 4 1 0) (up_to 0 1 0) before after
  pub flash_same : (new.flash).shown ≡ (old.flash).shown
  pub disk_same : (new.disk).shown ≡ (old.disk).shown
