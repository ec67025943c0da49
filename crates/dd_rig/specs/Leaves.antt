-- What a call, or a run of calls, leaves as it was.
use Rattle.std.specs.Prelude.{◌≡◌, ◌⊎◌, ◌<◌, ◌≤◌, ◌+◌, ℕ, List, [], ◌∷◌, length, slice_index}
use Rattle.dd_rig.specs.declared.device.Dev.{Dev}
use Rattle.dd_rig.specs.declared.device.Dev.TheVariants.{Flash, Disk}
use Rattle.dd_rig.specs.Device.{IsImage, add_range}
use Rattle.dd_rig.specs.World.{World, device_of, shown}

-- each byte in front of a range and behind it is the same
abbrev pub SameOutside : ℕ → ℕ → List ℕ → List ℕ → Type 0
SameOutside at size old new = (place : ℕ) → (place < at) ⊎ (at + size ≤ place) → slice_index new place ≡ slice_index old place

abbrev pub other : Dev → Dev
other Flash = Disk
other Disk = Flash

-- What a read gives stays as it was but for a range of one device. The other device and the output stay.
pub record LeavesShown (dev : Dev) (at size : ℕ) (old new : World) : Type 0 where
  pub same_shown : SameOutside at size (shown dev old) (shown dev new)
  pub same_other : device_of (other dev) new ≡ device_of (other dev) old
  pub same_said : new.said ≡ old.said

-- A write of which a part is done: each image stands within one write of the whole range.
pub record Partly (dev : Dev) (at size : ℕ) (old new : World) : Type 0 where
  pub images : (bytes : List ℕ) → IsImage (device_of dev new) bytes → IsImage (add_range at size (device_of dev old)) bytes
  pub same_size : length (device_of dev new).stable ≡ length (device_of dev old).stable
  pub leaves : LeavesShown dev at size old new

-- a part of a device in which no range has a place
abbrev pub MeetsNone : List (ℕ × ℕ) → ℕ → ℕ → Type 0
MeetsNone [] at size = Unit {0}
MeetsNone (range ∷ ranges) at size = ((at + size ≤ range.0) ⊎ (range.0 + range.1 ≤ at)) × MeetsNone ranges at size
