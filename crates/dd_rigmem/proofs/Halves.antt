-- A write of which half comes down.
use Rattle.std.proofs.Common.{◌≡◌, ℕ, ◌≤◌, ◌+◌, ◌-◌, ◌/◌, List, ◌∷◌, ◌++◌, length, drop, slice_range, length-take, length-drop, sym, ◌∙◌, ap, arith, length-append}
use Rattle.dd_rig.specs.Device.{Device, overwrite, write_bytes}
use Rattle.dd_rig.proofs.Overwrite.{overwrite_part}
use Rattle.dd_rigmem.specs.Effects.{half_of, write_half}

-- the first half of a write, and what stood behind it
module _ (at : ℕ) (from bytes shown : List ℕ) (fits : at + length from ≤ length shown) (is : bytes ≡ half_of from ++ slice_range shown (at + length from / 2) (at + length from)) where
  front : length (half_of from) ≡ length from / 2
  front = omega (arith, length-take (length from / 2) from)

  behind : length (slice_range shown (at + length from / 2) (at + length from)) ≡ length from - length from / 2
  behind = omega (arith, length-take (at + length from - (at + length from / 2)) (drop (at + length from / 2) shown), length-drop (at + length from / 2) shown)

  pub half_long : length bytes ≡ length from
  half_long = ap length is ∙ length-append (half_of from) (slice_range shown (at + length from / 2) (at + length from)) ∙ omega (arith, front, behind)

  half_shown : overwrite at bytes shown ≡ overwrite at (half_of from) shown
  half_shown = ap (λ (b : List ℕ). overwrite at b shown) is ∙ overwrite_part at (at + length from / 2) (at + length from - (at + length from / 2)) (half_of from) shown (omega (arith, front))

  pub half_written : (device : Device) → device.shown ≡ shown → write_bytes at bytes device ≡ write_half at from device
  half_written device same =
      ap (λ (l : List ℕ). record device { shown = overwrite at bytes l; ranges = (at, length bytes) ∷ device.ranges }) same
      ∙ ap (λ (l : List ℕ). record device { shown = l; ranges = (at, length bytes) ∷ device.ranges }) half_shown
      ∙ ap (λ (l : List ℕ). record device { shown = overwrite at (half_of from) l; ranges = (at, length bytes) ∷ device.ranges }) (sym same)
      ∙ ap (λ (n : ℕ). record device { shown = overwrite at (half_of from) device.shown; ranges = (at, n) ∷ device.ranges }) half_long
