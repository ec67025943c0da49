-- What a run has said and asked of its devices.
use Rattle.std.specs.Prelude.{◌≡◌, ◌⊎◌, ℕ, List, [], ◌∷◌, ◌++◌, take}
use Rattle.std.specs.List.{AllByRecursion, flat_map}
use Rattle.dd_rig.specs.declared.tallies.Counts.{Counts}
use Rattle.dd_rig.specs.Counts.{Rose}
use Rattle.dd_rig.specs.declared.device.Dev.TheVariants.{Flash}
use Rattle.dd_rig.specs.Clock.{Clock, Elapses}
use Rattle.dd_rig.specs.World.{World, SaysSome, WithinEmit, shown}
use Rattle.dd_script.specs.Text.{HasNoEnd, ended}

-- that line alone was said, or an emit failed and a part of it was
abbrev pub SaysAlone : List ℕ → Counts → Counts → World → World → Type 0
SaysAlone line before after old new =
    (new.said ≡ old.said ++ ended line) ⊎ (Rose before.failed_emits after.failed_emits × (n : ℕ) × (new.said ≡ old.said ++ take n (ended line)))

-- what was said before stands, and more may stand behind it
pub record SaysMore (old new : World) : Type 0 where
  pub more : List ℕ
  pub said : new.said ≡ old.said ++ more

-- a piece goes out, in whole or in part, and a crash within that leaves a part of it
pub record SaysPiece (piece : List ℕ) (before after : Clock) (old new : World) : Type 0 where
  pub part : SaysSome piece old new
  pub within : Elapses before after (WithinEmit piece old)

-- no call was made on a device
abbrev pub IsIdle : Counts → Counts → Type 0
IsIdle before after = (after.flash ≡ before.flash) × (after.disk ≡ before.disk)

-- what a read gives of the first 64 bytes of the flash
abbrev pub front_of : World → List ℕ
front_of world = take 64 (shown Flash world)

-- the last that was said is that line behind other lines, or an emit failed and it is a part of it
abbrev pub EndsIn : List ℕ → List ℕ → Counts → Counts → Type 0
EndsIn line output before after = (front : List (List ℕ)) × AllByRecursion HasNoEnd front ×
    ((output ≡ flat_map ended (front ++ line ∷ [])) ⊎ (Rose before.failed_emits after.failed_emits × (n : ℕ) × (output ≡ flat_map ended front ++ take n (ended line))))
