-- The meanings of a rig that tells nothing.
use Rattle.std.specs.Prelude.{ℕ, ◌<◌, ◌^◌, []}
use Rattle.dd_rig.specs.declared.device.Dev.{Dev}
use Rattle.dd_rig.specs.declared.device.Dev.TheVariants.{Flash, Disk}
use Rattle.dd_rig.specs.Device.{Device}
use Rattle.dd_rig.specs.World.{World}
use Rattle.dd_rig.specs.Clock.{Clock}

abbrev pub no_device : Device
no_device = record { stable = []; shown = []; ranges = [] }

abbrev pub no_world : World
no_world = record { flash = no_device; disk = no_device; said = [] }

abbrev pub no_clock : Clock
no_clock = record { moment = 0; left_since = λ t o. ⊥ }

abbrev pub size_of : ℕ → ℕ → Dev → ℕ
size_of flash disk Flash = flash
size_of flash disk Disk = disk

pub size_fits : (flash disk : ℕ) (dev : Dev) → flash < 2 ^ 64 → disk < 2 ^ 64 → size_of flash disk dev < 2 ^ 64
size_fits flash disk Flash low high = low
size_fits flash disk Disk low high = high
