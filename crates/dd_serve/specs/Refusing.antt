-- What a run is refused for.
use Rattle.std.specs.Prelude.{◌≡◌, ◌≢◌, ◌⊎◌, ◌+◌, ◌*◌, ◌==◌, ℕ, List, Option, Some, None, IsSome, nat_lt, slice_index, if◌then◌else◌}
use Rattle.std.specs.Option.{option_or}
use Rattle.dd_rig.specs.declared.device.Dev.{Dev}
use Rattle.dd_rig.specs.declared.device.Dev.TheVariants as dev
use Rattle.dd_rig.specs.declared.tallies.Counts.{Counts}
use Rattle.dd_rig.specs.Counts.{Rose}
use Rattle.dd_rig.specs.World.{World, shown}
use Rattle.dd_layout.specs.Layout.{flash_need, disk_need}
use Rattle.dd_recover.specs.Opening.{IsFirstFault}
use Rattle.dd_recover.specs.declared.opening_fault.OpenFault.{OpenFault}
use Rattle.dd_script.specs.declared.reply.Stop.TheVariants as stop
use Rattle.dd_script.specs.declared.reply.Refusal.{Refusal}
use Rattle.dd_script.specs.declared.reply.Refusal.TheVariants as refusal
use Rattle.dd_script.specs.Text.{stop_text, refusal_text}
use Rattle.dd_serve.specs.declared.words.Asked.{Asked}
use Rattle.dd_serve.specs.declared.words.Asked.TheVariants.{Replay, Format, Serve, Gen}
use Rattle.dd_loop.specs.Saying.{IsIdle, SaysAlone}
use Rattle.dd_answers.specs.Opening.{IsUnserved, RefusesDevices}

-- What the flash has to hold, as far as the words say. Where it was formatted it says so itself.
abbrev pub flash_needs : Asked → ℕ
flash_needs (Replay plan) = 64 + (plan.bcap + 1) * plan.block
flash_needs (Format geo) = flash_need geo
flash_needs Serve = 0
flash_needs (Gen load) = 0

-- and what the disk has to
abbrev pub disk_needs : Asked → ℕ
disk_needs (Replay plan) = plan.block
disk_needs (Format geo) = disk_need geo
disk_needs Serve = 0
disk_needs (Gen load) = 0

-- why devices of these sizes are too small for what the words say, the flash first
abbrev pub small_for : Asked → (Dev → ℕ) → Option Refusal
small_for asked size =
    if nat_lt (size dev.Flash) (flash_needs asked) then Some (refusal.FlashSmall (flash_needs asked) (size dev.Flash))
    else if nat_lt (size dev.Disk) (disk_needs asked) then Some (refusal.DiskSmall (disk_needs asked) (size dev.Disk))
    else None

-- a flash whose byte 0 is 1 is in use
abbrev pub in_use : List ℕ → Option Refusal
in_use flash = if slice_index flash 0 == 1 then Some refusal.InUse else None

-- the first condition for which it is refused: the sizes, and then byte 0 of the flash
abbrev pub refusal_for : Asked → (Dev → ℕ) → List ℕ → Option Refusal
refusal_for asked size flash = option_or (small_for asked size) (in_use flash)

-- Where that is the first condition its line alone is said, with 3, unless a read of the flash failed. Where there is none it isn't 3.
abbrev pub Refuses : Option Refusal → (status : ℕ) → Counts → Counts → World → World → Type 0
Refuses None status before after old new = status ≢ 3
Refuses (Some why) status before after old new = ((status ≡ 3) × SaysAlone (refusal_text why) before after old new)
    ⊎ ((status ≡ 7) × Rose before.flash.failed_reads after.flash.failed_reads × SaysAlone (stop_text stop.Flash) before after old new)

-- Where the words say what the devices have to hold, a run is refused exactly where a condition holds: for the sizes at once, and for byte 0
-- of the flash behind one look at it.
pub record RefusesSoon (asked : Asked) (status : ℕ) (tells : Type 0) (size : Dev → ℕ) (before after : Counts) (old new : World) : Type 0 where
  pub small : IsSome (small_for asked size) → (status ≡ 3) × IsIdle before after
  pub first : tells → Refuses (refusal_for asked size (shown dev.Flash old)) status before after old new

-- Where a flash has to be opened, a run is refused by the first condition under which it isn't: that line alone is said, and both devices
-- show what they showed. Under such a condition nothing is served, whatever fails: no more calls are made than those of an opening.
pub record RefusesOpening (status : ℕ) (tells : Type 0) (size : Dev → ℕ) (before after : Counts) (old new : World) : Type 0 where
  pub first : tells → status ≡ 3 → RefusesDevices size (shown dev.Flash old) before after old new
  pub unserved : tells → (fault : OpenFault) → IsFirstFault size (shown dev.Flash old) fault → IsUnserved status before after old new
