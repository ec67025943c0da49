-- What a crash within a replay leaves.
use Rattle.std.proofs.Common.{◌≡◌, inl, ℕ, ◌<◌, ◌≤◌, List, ◌∷◌, subst, arith}
use Rattle.dd_rig.specs.declared.device.Dev.TheVariants.{Flash}
use Rattle.dd_rig.specs.Clock.{Clock, Elapses, AddsNone}
use Rattle.dd_rig.specs.Device.{IsOutside}
use Rattle.dd_rig.specs.World.{World, WithinWrite}
use Rattle.dd_rig.proofs.Moments.{widens, goes_on}
use Rattle.dd_rig.specs.World.{IsOwn}
use Rattle.dd_model.specs.State.{State}
use Rattle.dd_loop.specs.Standing.{StandForSome, WithinCall}
use Rattle.dd_serve.specs.Answering.{StaysBy}
use Rattle.dd_serve.specs.Laws.{keeps_images, keeps_sooner}
use Rattle.dd_serve.specs.Scratch.{Scratched, KeepsDevices, IsWithin}

-- a call that adds nothing
pub quiet_moment : (a b : Clock) (w : World) → AddsNone a b → Elapses a b (IsWithin w)
quiet_moment a b w call = widens call (λ o none. absurd none)

-- one call after another that left all
pub next_moment : (a b d : Clock) (w v : World) → Elapses a b (IsWithin w) → v ≡ w → Elapses b d (IsWithin v) → Elapses a d (IsWithin w)
next_moment a b d w v one same another = goes_on one another (λ o h. subst (λ (x : World). IsWithin x o) same h)

pub ruleset moment_steps = (quiet_moment, next_moment)

-- a range behind the first 64 bytes has none of their places
behind_front : (at size place : ℕ) (ranges : List (ℕ × ℕ)) → 64 ≤ at → place < 64 → IsOutside ranges place → IsOutside ((at, size) ∷ ranges) place
behind_front at size place ranges h k out = (inl (omega (arith, h, k)), out)

-- a crash within a write behind the first 64 bytes
pub write_moment : (at size : ℕ) (a b : Clock) (w : World) → 64 ≤ at → Elapses a b (WithinWrite Flash at size w) → Elapses a b (IsWithin w)
write_moment at size a b w h call = widens call (λ o left. (
  left.out,
  record {
    front = λ place k out. left.flash.same_outside place (behind_front at size place w.flash.ranges h k out);
    disk = left.disk;
  },
))

-- the last line behind calls that only wrote behind the first 64 bytes
pub end_moment : (a b d : Clock) (first now : World) → Elapses a b (KeepsDevices first) → Scratched first now → Elapses b d (λ o. IsOwn now o.flash o.disk) → Elapses a d (KeepsDevices first)
end_moment a b d first now one kept line = goes_on one line (λ o own. keeps_images first now kept o.flash o.disk own.0 own.1)

-- a crash within an answer, where the script began earlier
pub answer_moment : (a b : Clock) (first now : World) (committed held : State) → Scratched first now → Elapses a b (IsWithin now) → Elapses a b (WithinCall (StaysBy first) committed held now)
answer_moment a b first now committed held kept call = widens call (λ o h. (inl (keeps_sooner first now kept o.flash o.disk h.1), h.0))

-- what a crash within a script leaves, whatever state it stands for
pub script_moment : (a b : Clock) (first : World) → Elapses a b (StandForSome (StaysBy first)) → Elapses a b (KeepsDevices first)
script_moment a b first run = widens run (λ o h. h.1)
