-- Two facts on what a crash within a run of calls leaves, and what a crash behind it leaves.
use Rattle.std.proofs.Common.{◌≡◌, ◌⊎◌, inl, inr, ⊎_elim, ◌≤◌, ℕ, arith}
use Rattle.dd_rig.specs.declared.device.Dev.{Dev}
use Rattle.dd_rig.specs.declared.device.Dev.TheVariants.{Flash, Disk}
use Rattle.dd_rig.specs.World.{World, Outcome, MayLeave, WithinWrite}
use Rattle.dd_rig.specs.Clock.{Clock, Elapses}
use Rattle.dd_rig.proofs.Moments.{widens}

-- what a crash leaves is both
pub elapses_both : {first last : Clock} {P Q : Outcome → Type 0} → Elapses first last P → Elapses first last Q → Elapses first last (λ o. P o × Q o)
elapses_both one another = record {
  later = one.later;
  keeps = one.keeps;
  adds_only = λ t o le left. ⊎_elim (λ before. inl before) (λ is. ⊎_elim (λ before. inl before) (λ too. inr (is, too)) (another.adds_only t o le left)) (one.adds_only t o le left);
}

-- a crash now leaves what a crash before the run might have left, or what one within it leaves
pub before_or_within : (old new : World) (first last : Clock) (P : Outcome → Type 0) → Elapses first last P
    → ((o : Outcome) → first.left_since first.moment o → MayLeave old o)
    → ((o : Outcome) → first.moment ≤ last.moment → MayLeave new o → last.left_since first.moment o)
    → (o : Outcome) → MayLeave new o → MayLeave old o ⊎ P o
before_or_within old new first last P within only_now counts_now o left =
    ⊎_elim (λ before. inl (only_now o before)) (λ here. inr here) (within.adds_only first.moment o (omega arith) (counts_now o within.later left))

-- what is left of a write has the output from before it
pub unsaid_write : {first last : Clock} (dev : Dev) (at size : ℕ) (old : World) → Elapses first last (WithinWrite dev at size old) → Elapses first last (λ o. o.out ≡ old.said)
unsaid_write Flash at size old run = widens run (λ o left. left.out)
unsaid_write Disk at size old run = widens run (λ o left. left.out)
