-- A device: what has become stable, what a read gives, and the ranges written since the last sync that succeeded.
use Rattle.std.specs.Prelude.{◌≡◌, ◌⊎◌, ◌<◌, ◌≤◌, ◌+◌, ℕ, zero, suc, List, [], ◌∷◌, length, slice_index}

pub record Device : Type 0 where
  pub stable : List ℕ
  pub shown : List ℕ
  -- each an offset and a length, the newest first
  pub ranges : List (ℕ × ℕ)

-- no range has this place
abbrev pub IsOutside : List (ℕ × ℕ) → ℕ → Type 0
IsOutside [] place = Unit {0}
IsOutside (range ∷ ranges) place = ((place < range.0) ⊎ (range.0 + range.1 ≤ place)) × IsOutside ranges place

-- what a crash may leave of a device: its stable bytes outside the ranges, and any in them
pub record IsImage (device : Device) (bytes : List ℕ) : Type 0 where
  pub same_length : length bytes ≡ length device.stable
  pub same_outside : (place : ℕ) → IsOutside device.ranges place → slice_index bytes place ≡ slice_index device.stable place

-- a list with these bytes from that place on, as far as it goes
abbrev pub overwrite : ℕ → List ℕ → List ℕ → List ℕ
overwrite at bytes [] = []
overwrite (suc at) bytes (old ∷ rest) = old ∷ overwrite at bytes rest
overwrite zero [] (old ∷ rest) = old ∷ rest
overwrite zero (byte ∷ bytes) (old ∷ rest) = byte ∷ overwrite zero bytes rest

-- the range counts as written
abbrev pub add_range : ℕ → ℕ → Device → Device
add_range at size device = record device { ranges = (at, size) ∷ device.ranges }

-- a write that shows these bytes
abbrev pub write_bytes : ℕ → List ℕ → Device → Device
write_bytes at bytes device = record {
  stable = device.stable;
  shown = overwrite at bytes device.shown;
  ranges = (at, length bytes) ∷ device.ranges;
}

-- a sync that succeeds
abbrev pub make_stable : Device → Device
make_stable device = record {
  stable = device.shown;
  shown = device.shown;
  ranges = [];
}
