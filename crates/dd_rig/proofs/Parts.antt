-- Parts of a device that no crash changes.
use Rattle.std.proofs.Common.{◌≡◌, inl, inr, ⊎_elim, ℕ, ◌+◌, ◌<◌, ◌≤◌, List, [], ◌∷◌, length, take, drop, sym, ◌∙◌, arith, length-take, length-drop}
use Rattle.std.proofs.lemmas.List.{get_or-take, get_or-drop, ext_get_or}
use Rattle.dd_rig.specs.Device.{Device, IsImage, IsOutside}
use Rattle.dd_rig.specs.Leaves.{MeetsNone}

-- each place of a part that meets no range is outside of them
pub outside_ranges : (ranges : List (ℕ × ℕ)) (at size place : ℕ) → MeetsNone ranges at size → at ≤ place → place < at + size → IsOutside ranges place
outside_ranges [] at size place clear low high = tt
outside_ranges (range ∷ ranges) at size place clear low high = (⊎_elim (λ before. inl (omega arith)) (λ behind. inr (omega arith)) clear.0, outside_ranges ranges at size place clear.1 low high)

-- such a part is the stable one in each image
pub part_is_stable : (device : Device) (bytes : List ℕ) (at size : ℕ) → IsImage device bytes → MeetsNone device.ranges at size → take size (drop at bytes) ≡ take size (drop at device.stable)
part_is_stable device bytes at size image clear = ext_get_or 0 (take size (drop at bytes)) (take size (drop at device.stable)) long
    (λ k lt. get_or-take size (drop at bytes) k 0 (within k lt)
    ∙ get_or-drop at bytes k 0
    ∙ image.same_outside (at + k) (outside_ranges device.ranges at size (at + k) clear (omega arith) (omega (arith, within k lt)))
    ∙ sym (get_or-drop at device.stable k 0)
    ∙ sym (get_or-take size (drop at device.stable) k 0 (within k lt)))
  where
    long : length (take size (drop at bytes)) ≡ length (take size (drop at device.stable))
    long = omega (arith, image.same_length, length-take size (drop at bytes), length-drop at bytes, length-take size (drop at device.stable), length-drop at device.stable)

    within : (k : ℕ) → k < length (take size (drop at bytes)) → k < size
    within k lt = omega (arith, length-take size (drop at bytes))
