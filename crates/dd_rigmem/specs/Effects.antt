-- What a call does to the devices and the output, by its fate.
use Rattle.std.specs.Prelude.{◌/◌, ℕ, List, ◌∷◌, length, take, Bool, true}
use Rattle.dd_rig.specs.declared.device.Dev.{Dev}
use Rattle.dd_rig.specs.Device.{Device, overwrite, write_bytes, make_stable}
use Rattle.dd_rig.specs.World.{World, on_device, say}
use Rattle.dd_rigmem.specs.declared.plan.Fate.{Fate}
use Rattle.dd_rigmem.specs.declared.plan.Fate.TheVariants.{Goes, Fails, Stops, IsLate}

-- the first half, rounded down
abbrev pub half_of : List ℕ → List ℕ
half_of bytes = take (length bytes / 2) bytes

-- half of the bytes come down, and the whole range counts as written
abbrev pub write_half : ℕ → List ℕ → Device → Device
write_half at bytes device = record {
  stable = device.stable;
  shown = overwrite at (half_of bytes) device.shown;
  ranges = (at, length bytes) ∷ device.ranges;
}

-- A write that is in progress at the stop counts as written.
abbrev pub written_by : Fate → Dev → ℕ → List ℕ → World → World
written_by Goes dev at bytes world = on_device dev (write_bytes at bytes) world
written_by Fails dev at bytes world = on_device dev (write_half at bytes) world
written_by Stops dev at bytes world = on_device dev (write_bytes at bytes) world
written_by IsLate dev at bytes world = world

-- a sync that is in progress at the stop counts as not done
abbrev pub synced_by : Fate → Dev → World → World
synced_by Goes dev world = on_device dev make_stable world
synced_by Fails dev world = world
synced_by Stops dev world = world
synced_by IsLate dev world = world

-- of an emit that is in progress at the stop nothing was said yet
abbrev pub said_by : Fate → List ℕ → World → World
said_by Goes piece world = say piece world
said_by Fails piece world = say (half_of piece) world
said_by Stops piece world = world
said_by IsLate piece world = world

-- but its piece is what is unfinished
abbrev pub unfinished_by : Fate → List ℕ → List ℕ → List ℕ
unfinished_by Goes piece before = before
unfinished_by Fails piece before = before
unfinished_by Stops piece before = piece
unfinished_by IsLate piece before = before

-- and the rig was cut
abbrev pub cut_by : Fate → Bool → Bool
cut_by Goes before = before
cut_by Fails before = before
cut_by Stops before = true
cut_by IsLate before = before
