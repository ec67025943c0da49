-- Moments, and what a crash at some moment since one of them may have left.
use Rattle.std.specs.Prelude.{◌≡◌, ◌⊎◌, ◌<◌, ◌≤◌, ℕ}
use Rattle.dd_rig.specs.World.{World, Outcome}

pub record Clock : Type 1 where
  pub moment : ℕ
  pub left_since : ℕ → Outcome → Type 0

-- Time goes on from one clock to a later one: a crash in between leaves what is P and nothing else,
-- and what a crash might have left before stays counted.
pub record Elapses (before after : Clock) (P : Outcome → Type 0) : Type 0 where
  pub later : before.moment ≤ after.moment
  pub keeps : (t : ℕ) (o : Outcome) → t ≤ before.moment → before.left_since t o → after.left_since t o
  pub adds_only : (t : ℕ) (o : Outcome) → t ≤ before.moment → after.left_since t o → before.left_since t o ⊎ P o

-- nothing that a crash may leave is new
abbrev pub AddsNone : Clock → Clock → Type 0
AddsNone before after = Elapses before after (λ o. ⊥)

-- A call that changes what a crash may leave, within it or after it, moves the clock on.
abbrev pub MovesOn : World → World → Clock → Clock → Type 0
MovesOn old new before after = ((new ≡ old) × AddsNone before after) ⊎ (before.moment < after.moment)

-- A call was never begun: it changed nothing and adds nothing. Or it was begun, and what a crash within it leaves counts for
-- every moment up to its beginning.
abbrev pub NoneOrCounts : (Outcome → Type 0) → World → World → Clock → Clock → Type 0
NoneOrCounts Within old new before after =
    ((new ≡ old) × AddsNone before after) ⊎ ((t : ℕ) (o : Outcome) → t ≤ before.moment → Within o → after.left_since t o)
