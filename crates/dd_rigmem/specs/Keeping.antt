-- What a rig in memory keeps beside its history.
use Rattle.std.specs.Prelude.{◌≡◌, ◌≤◌, ◌+◌, ℕ, length, Bool, false, if◌then◌else◌}
use Rattle.dd_rig.specs.declared.device.Dev.{Dev}
use Rattle.dd_rig.specs.declared.device.Dev.TheVariants.{Flash, Disk}
use Rattle.dd_rig.specs.Device.{Device, make_stable}
use Rattle.dd_rigmem.specs.declared.marks.Marks.{Marks}
use Rattle.dd_rigmem.specs.Bytes.{Bytes}
use Rattle.dd_rigmem.specs.History.{History, world_of}

abbrev pub mark_of : Dev → Marks → Bool
mark_of Flash marks = marks.flash
mark_of Disk marks = marks.disk

abbrev pub set_mark : Dev → Bool → Marks → Marks
set_mark Flash mark marks = record marks { flash = mark }
set_mark Disk mark marks = record marks { disk = mark }

-- how many devices are marked
abbrev pub marked : Marks → ℕ
marked marks = (if marks.flash then 1 else 0) + (if marks.disk then 1 else 0)

-- a sync would change nothing
abbrev pub IsSettled : Device → Type 0
IsSettled device = make_stable device ≡ device

-- What each device shows is kept, a mark for each that was written since its last sync, and room for the records of those syncs.
pub record IsKept (history : History) (shown : Bytes) (marks : Marks) (capacity : ℕ) : Type 0 where
  pub flash : shown.flash ≡ (world_of history).flash.shown
  pub disk : shown.disk ≡ (world_of history).disk.shown
  pub flash_settled : marks.flash ≡ false → IsSettled (world_of history).flash
  pub disk_settled : marks.disk ≡ false → IsSettled (world_of history).disk
  pub room : length history.events + marked marks ≤ capacity
