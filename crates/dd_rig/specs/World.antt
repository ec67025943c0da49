-- Both devices and the output, and what a crash may leave of them.
use Rattle.std.specs.Prelude.{◌≡◌, ◌⊎◌, ℕ, List, ◌++◌, length, take}
use Rattle.dd_rig.specs.declared.device.Dev.{Dev}
use Rattle.dd_rig.specs.declared.device.Dev.TheVariants.{Flash, Disk}
use Rattle.dd_rig.specs.Device.{Device, IsImage, add_range, write_bytes, make_stable}

pub record World : Type 0 where
  pub flash : Device
  pub disk : Device
  -- all that was emitted
  pub said : List ℕ

-- what is left after a crash
pub record Outcome : Type 0 where
  pub flash : List ℕ
  pub disk : List ℕ
  pub out : List ℕ

abbrev pub device_of : Dev → World → Device
device_of Flash world = world.flash
device_of Disk world = world.disk

-- what a read of a device gives
abbrev pub shown : Dev → World → List ℕ
shown dev world = (device_of dev world).shown

-- a change of one device
abbrev pub on_device : Dev → (Device → Device) → World → World
on_device Flash change world = record world { flash = change world.flash }
on_device Disk change world = record world { disk = change world.disk }

-- a crash now may leave this
pub record MayLeave (world : World) (outcome : Outcome) : Type 0 where
  pub flash : IsImage world.flash outcome.flash
  pub disk : IsImage world.disk outcome.disk
  pub out : outcome.out ≡ world.said

-- a pair of devices that a crash now may leave
abbrev pub IsOwn : World → (flash disk : List ℕ) → Type 0
IsOwn world flash disk = IsImage world.flash flash × IsImage world.disk disk

-- the output goes on
abbrev pub say : List ℕ → World → World
say piece world = record world { said = world.said ++ piece }

-- within a write its range counts as written
abbrev pub WithinWrite : Dev → ℕ → ℕ → World → Outcome → Type 0
WithinWrite dev at size world outcome = MayLeave (on_device dev (add_range at size) world) outcome

-- within an emit the output ends with some prefix of the piece
abbrev pub WithinEmit : List ℕ → World → Outcome → Type 0
WithinEmit piece world outcome = (n : ℕ) × MayLeave (say (take n piece) world) outcome

-- After a write, failed or not: it shows some bytes in its range, or it changed nothing.
abbrev pub ShowsSome : Dev → ℕ → ℕ → World → World → Type 0
ShowsSome dev at size old new =
    (new ≡ old) ⊎ ((bytes : List ℕ) × (length bytes ≡ size) × (new ≡ on_device dev (write_bytes at bytes) old))

-- After a sync, failed or not: what is shown is stable, or it changed nothing.
abbrev pub SyncsOrStays : Dev → World → World → Type 0
SyncsOrStays dev old new = (new ≡ old) ⊎ (new ≡ on_device dev make_stable old)

-- After an emit, failed or not: it appended some prefix of its piece.
abbrev pub SaysSome : List ℕ → World → World → Type 0
SaysSome piece old new = (n : ℕ) × (new ≡ say (take n piece) old)
