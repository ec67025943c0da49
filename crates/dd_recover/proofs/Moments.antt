-- What a crash leaves now, from what a crash since the start leaves.
use Rattle.std.proofs.Common.{◌⊎◌, inl, inr, ⊎_elim, ◌≤◌, ℕ, List, refl, arith}
use Rattle.dd_rig.specs.Device.{IsImage}
use Rattle.dd_rig.specs.World.{World, Outcome, MayLeave, IsOwn}
use Rattle.dd_rig.specs.Clock.{Clock, Elapses}

pub own_or_new : (old new : World) (first last : Clock) (P : (flash disk : List ℕ) → Type 0)
    → Elapses first last (λ o. P o.flash o.disk)
    → ((o : Outcome) → first.left_since first.moment o → MayLeave old o)
    → ((o : Outcome) → first.moment ≤ last.moment → MayLeave new o → last.left_since first.moment o)
    → (flash disk : List ℕ) → IsImage new.flash flash → IsImage new.disk disk → IsOwn old flash disk ⊎ P flash disk
own_or_new old new first last P within only_now counts_now flash disk flash_image disk_image =
    let o : Outcome = record { flash = flash; disk = disk; out = new.said } in
    let left : MayLeave new o = record { flash = flash_image; disk = disk_image; out = refl } in
    ⊎_elim (λ before. let was = only_now o before in inl (was.flash, was.disk)) (λ here. inr here)
    (within.adds_only first.moment o (omega arith) (counts_now o within.later left))
