-- The last line of a run, behind what the run did before it.
use Rattle.std.proofs.Common.{◌≡◌, inl, inr, ℕ, ◌≤◌, List, ◌++◌, take, ◌∙◌, ap, arith, refl}
use Rattle.std.specs.Prelude.{⊤}
use Rattle.dd_rig.specs.declared.tallies.Counts.{Counts}
use Rattle.dd_rig.specs.Counts.{Rose, NeverFalls}
use Rattle.dd_rig.specs.World.{World}
use Rattle.dd_script.specs.Text.{ended, refusal_text, stop_text}
use Rattle.dd_script.specs.declared.reply.Refusal.{Refusal}
use Rattle.dd_script.specs.declared.reply.Stop.TheVariants as stop
use Rattle.dd_loop.specs.declared.ending.Ending.{Ending}
use Rattle.dd_loop.specs.declared.ending.Ending.TheVariants.{Served, Refused, Stopped, Unheard}
use Rattle.dd_loop.specs.Ending.{SaysBehind, SaysEnding, SaysLast, ending_line}
use Rattle.dd_loop.specs.Saying.{SaysAlone, SaysMore}

rose_since : (a b c : ℕ) → a ≤ b → Rose b c → Rose a c
rose_since a b c h r = omega (arith, h, r)

-- nothing was said in front of it
pub alone_since : (line : List ℕ) (a b c : Counts) (old middle new : World) → NeverFalls a b → middle.said ≡ old.said → SaysAlone line b c middle new → SaysAlone line a c old new
alone_since line a b c old middle new falls same (inl whole) = inl (whole ∙ ap (λ said. said ++ ended line) same)
alone_since line a b c old middle new falls same (inr (rose, n, part)) = inr (rose_since _ _ _ falls.emits rose, n, part ∙ ap (λ said. said ++ take n (ended line)) same)

-- whatever was said in front of it
pub behind_since : (line : List ℕ) (a b c : Counts) (old middle new : World) → NeverFalls a b → SaysMore old middle → SaysAlone line b c middle new → SaysBehind line a c old new
behind_since line a b c old middle new falls front (inl whole) = (front.more, inl (whole ∙ ap (λ said. said ++ ended line) front.said))
behind_since line a b c old middle new falls front (inr (rose, n, part)) = (front.more, inr (rose_since _ _ _ falls.emits rose, n, part ∙ ap (λ said. said ++ take n (ended line)) front.said))

-- an ending in front of which nothing was said
abbrev pub IsFirstSaid : Ending → Type 0
IsFirstSaid (Served faulted) = ⊥
IsFirstSaid (Refused why) = ⊤
IsFirstSaid (Stopped stop.Memory) = ⊤
IsFirstSaid (Stopped stop.Script) = ⊥
IsFirstSaid (Stopped stop.Flash) = ⊥
IsFirstSaid (Stopped stop.Disk) = ⊥
IsFirstSaid (Stopped stop.Length) = ⊥
IsFirstSaid Unheard = ⊥

-- the line of an ending, behind what the run did before it
pub ending_since : (ending : Ending) (a b c : Counts) (old middle new : World) → NeverFalls a b → SaysMore old middle → (IsFirstSaid ending → middle.said ≡ old.said) → SaysLast (ending_line ending) b c middle new → SaysEnding ending a c old new
ending_since (Served faulted) a b c old middle new falls front first said = tt
ending_since (Refused why) a b c old middle new falls front first said = alone_since (refusal_text why) a b c old middle new falls (first tt) said
ending_since (Stopped stop.Memory) a b c old middle new falls front first said = alone_since (stop_text stop.Memory) a b c old middle new falls (first tt) said
ending_since (Stopped stop.Script) a b c old middle new falls front first said = behind_since (stop_text stop.Script) a b c old middle new falls front said
ending_since (Stopped stop.Flash) a b c old middle new falls front first said = behind_since (stop_text stop.Flash) a b c old middle new falls front said
ending_since (Stopped stop.Disk) a b c old middle new falls front first said = behind_since (stop_text stop.Disk) a b c old middle new falls front said
ending_since (Stopped stop.Length) a b c old middle new falls front first said = behind_since (stop_text stop.Length) a b c old middle new falls front said
ending_since Unheard a b c old middle new falls front first said = tt

-- it is a refusal, or that of want of memory
pub first_by : (ending : Ending) (P : Type 0) → ((why : Refusal) → ending ≡ Refused why → P) → (ending ≡ Stopped stop.Memory → P) → IsFirstSaid ending → P
first_by (Served faulted) P refused memory first = absurd first
first_by (Refused why) P refused memory first = refused why refl
first_by (Stopped stop.Memory) P refused memory first = memory refl
first_by (Stopped stop.Script) P refused memory first = absurd first
first_by (Stopped stop.Flash) P refused memory first = absurd first
first_by (Stopped stop.Disk) P refused memory first = absurd first
first_by (Stopped stop.Length) P refused memory first = absurd first
first_by Unheard P refused memory first = absurd first

behind_later : (line : List ℕ) (a b c : Counts) (old middle new : World) → NeverFalls a b → middle.said ≡ old.said → SaysBehind line b c middle new → SaysBehind line a c old new
behind_later line a b c old middle new falls same (front, inl whole) = (front, inl (whole ∙ ap (λ said. said ++ front ++ ended line) same))
behind_later line a b c old middle new falls same (front, inr (rose, n, part)) = (front, inr (rose_since _ _ _ falls.emits rose, n, part ∙ ap (λ said. said ++ front ++ take n (ended line)) same))

-- the line of an ending, behind calls that say nothing
pub ending_later : (ending : Ending) (a b c : Counts) (old middle new : World) → NeverFalls a b → middle.said ≡ old.said → SaysEnding ending b c middle new → SaysEnding ending a c old new
ending_later (Served faulted) a b c old middle new falls same said = tt
ending_later (Refused why) a b c old middle new falls same said = alone_since (refusal_text why) a b c old middle new falls same said
ending_later (Stopped stop.Memory) a b c old middle new falls same said = alone_since (stop_text stop.Memory) a b c old middle new falls same said
ending_later (Stopped stop.Script) a b c old middle new falls same said = behind_later (stop_text stop.Script) a b c old middle new falls same said
ending_later (Stopped stop.Flash) a b c old middle new falls same said = behind_later (stop_text stop.Flash) a b c old middle new falls same said
ending_later (Stopped stop.Disk) a b c old middle new falls same said = behind_later (stop_text stop.Disk) a b c old middle new falls same said
ending_later (Stopped stop.Length) a b c old middle new falls same said = behind_later (stop_text stop.Length) a b c old middle new falls same said
ending_later Unheard a b c old middle new falls same said = tt
