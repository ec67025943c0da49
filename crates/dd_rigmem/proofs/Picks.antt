-- Picked bytes, one by one, and that they are an image.
use Rattle.std.proofs.Common.{◌≡◌, ◌⊎◌, inl, inr, ℕ, zero, suc, ◌+◌, ◌-◌, ◌<◌, ◌≤◌, List, [], ◌∷◌, ◌++◌, length, get_or, take, drop, Bool, true, false, ◌||◌, ◌&&◌, nat_le, nat_lt, if◌then◌else◌, refl, sym, ◌∙◌, ap, subst, arith, append_assoc}
use Rattle.std.proofs.lemmas.List.{drop_more, append-nil}
use Rattle.std.proofs.lemmas.Bool.Decides.{nat_tests}
use Rattle.std.proofs.Math.Seq.{take-add}
use Rattle.std.specs.Prelude.{slice_get, Some}
use Rattle.dd_block.specs.Lcg.{draw}
use Rattle.dd_rig.specs.Device.{Device, IsImage, IsOutside}
use Rattle.dd_rig.specs.World.{World, Outcome, MayLeave, say}
use Rattle.dd_rigmem.specs.declared.event.Event.{Event}
use Rattle.dd_rigmem.specs.declared.event.Event.TheVariants.{Wrote, Synced, Emitted}
use Rattle.dd_rigmem.specs.History.{after_event, after_events, LeftSince, unfinished_in, unfinished_of, crash_moment}
use Rattle.dd_rigmem.specs.Laws.{counts_now}
use Rattle.dd_rigmem.specs.Pick.{is_free, picked_byte, next_byte, next_number, picked_bytes, picked_rest}

-- one byte more is picked
pub bytes_step : (pick : ℕ) (ranges : List (ℕ × ℕ)) (place x y byte : ℕ) (done items stable shown total : List ℕ) → place < length stable → place < length shown
    → byte ≡ next_byte pick ranges place x (get_or stable place 0) (get_or shown place 0) → y ≡ next_number ranges place x → items ≡ done ++ byte ∷ []
    → done ++ picked_bytes pick ranges place x (drop place stable) (drop place shown) ≡ total
    → items ++ picked_bytes pick ranges (place + 1) y (drop (place + 1) stable) (drop (place + 1) shown) ≡ total
bytes_step pick ranges place x y byte done items stable shown total s v is moved pushed so_far =
    let rest = picked_bytes pick ranges (place + 1) y (drop (place + 1) stable) (drop (place + 1) shown) in
    ap (λ (l : List ℕ). l ++ rest) pushed
    ∙ append_assoc done (byte ∷ []) rest
    ∙ ap (λ (b : ℕ). done ++ (b ∷ rest)) is
    ∙ ap (λ (z : ℕ). done ++ (next_byte pick ranges place x (get_or stable place 0) (get_or shown place 0) ∷ picked_bytes pick ranges (place + 1) z (drop (place + 1) stable) (drop (place + 1) shown))) moved
    ∙ sym (ap (λ (l : List ℕ). done ++ picked_bytes pick ranges place x l (get_or shown place 0 ∷ drop (place + 1) shown)) (drop_more stable place 0 s))
    ∙ sym (ap (λ (l : List ℕ). done ++ picked_bytes pick ranges place x (drop place stable) l) (drop_more shown place 0 v))
    ∙ so_far

pub rest_step : (ranges : List (ℕ × ℕ)) (place x y : ℕ) (stable : List ℕ) (total : ℕ) → place < length stable → y ≡ next_number ranges place x
    → picked_rest ranges place x (drop place stable) ≡ total → picked_rest ranges (place + 1) y (drop (place + 1) stable) ≡ total
rest_step ranges place x y stable total s moved so_far =
    ap (λ (z : ℕ). picked_rest ranges (place + 1) z (drop (place + 1) stable)) moved
    ∙ sym (ap (λ (l : List ℕ). picked_rest ranges place x l) (drop_more stable place 0 s))
    ∙ so_far

length-picked : (pick : ℕ) (ranges : List (ℕ × ℕ)) (place x : ℕ) (stable shown : List ℕ) → length stable ≤ length shown → length (picked_bytes pick ranges place x stable shown) ≡ length stable
length-picked pick ranges place x [] shown fits = refl
length-picked pick ranges place x (s ∷ stable) [] fits = absurd (omega arith)
length-picked pick ranges place x (s ∷ stable) (v ∷ shown) fits = ap suc (length-picked pick ranges (place + 1) (next_number ranges place x) stable shown (omega arith))

not_in_range : (at size place : ℕ) → (place < at) ⊎ (at + size ≤ place) → (nat_le at place && nat_lt (place - at) size) ≡ false
not_in_range at size place (inl lt) = grind (arith, nat_tests)
not_in_range at size place (inr le) = grind (arith, nat_tests)

-- a place outside of the ranges isn't free
outside_is_not_free : (ranges : List (ℕ × ℕ)) (place : ℕ) → IsOutside ranges place → is_free ranges place ≡ false
outside_is_not_free [] place out = refl
outside_is_not_free (range ∷ ranges) place out = ap (λ (b : Bool). b || is_free ranges place) (not_in_range range.0 range.1 place out.0) ∙ outside_is_not_free ranges place out.1

picked_outside : (pick : ℕ) (ranges : List (ℕ × ℕ)) (first x : ℕ) (stable shown : List ℕ) (k : ℕ) → length stable ≤ length shown → IsOutside ranges (first + k) → get_or (picked_bytes pick ranges first x stable shown) k 0 ≡ get_or stable k 0
picked_outside pick ranges first x [] shown k fits out = refl
picked_outside pick ranges first x (s ∷ stable) [] k fits out = absurd (omega arith)
picked_outside pick ranges first x (s ∷ stable) (v ∷ shown) zero fits out =
    let free : is_free ranges first ≡ false = ap (is_free ranges) (omega arith) ∙ outside_is_not_free ranges (first + 0) out in
    ap (λ (b : Bool). if b then picked_byte pick (draw x) s v else s) free
picked_outside pick ranges first x (s ∷ stable) (v ∷ shown) (suc k) fits out =
    picked_outside pick ranges (first + 1) (next_number ranges first x) stable shown k (omega arith) (subst (IsOutside ranges) (omega arith) out)

-- what is picked is an image
pub picked_image : (pick x : ℕ) (device : Device) → IsImage device device.shown → IsImage device (picked_bytes pick device.ranges 0 x device.stable device.shown)
picked_image pick x device shown = record {
  same_length = length-picked pick device.ranges 0 x device.stable device.shown (omega (arith, shown.same_length));
  same_outside = λ place out. picked_outside pick device.ranges 0 x device.stable device.shown place (omega (arith, shown.same_length)) (subst (IsOutside device.ranges) (omega arith) out);
}

-- the last event, by its place
pub last_unfinished : (events : List Event) (k : ℕ) → length events ≡ suc k → unfinished_of true events ≡ unfinished_in (slice_get events k)
last_unfinished [] k long = absurd (omega arith)
last_unfinished (event ∷ []) zero long = refl
last_unfinished (event ∷ []) (suc k) long = absurd (omega arith)
last_unfinished (event ∷ next ∷ events) zero long = absurd (omega arith)
last_unfinished (event ∷ next ∷ events) (suc k) long = last_unfinished (next ∷ events) k (omega arith)

pub last_unfinished_part : (events : List Event) → unfinished_in (slice_get events (length events - 1)) ≡ unfinished_of true events
last_unfinished_part [] = refl
last_unfinished_part (event ∷ events) =
    let place : suc (length events) - 1 ≡ length events = omega arith in
    ap (λ (k : ℕ). unfinished_in (slice_get (event ∷ events) k)) place ∙ sym (last_unfinished (event ∷ events) (length events) refl)

said_nothing : (world : World) (o : Outcome) → MayLeave (say [] world) o → MayLeave world o
said_nothing world o left = record { flash = left.flash; disk = left.disk; out = left.out ∙ append-nil world.said }

take_none : (n : ℕ) → take {A = ℕ} n [] ≡ []
take_none zero = refl
take_none (suc n) = refl

-- one event, and some of what it left unfinished
last_left : (event : Event) (world : World) (o : Outcome) (n : ℕ) → MayLeave (say (take n (unfinished_in (Some event))) (after_event event world)) o → LeftSince (event ∷ []) world 0 o
last_left (Wrote w) world o n left = inr (inr (said_nothing _ o (subst (λ (l : List ℕ). MayLeave (say l (after_event (Wrote w) world)) o) (take_none n) left)))
last_left (Synced dev) world o n left = inr (inr (said_nothing _ o (subst (λ (l : List ℕ). MayLeave (say l (after_event (Synced dev) world)) o) (take_none n) left)))
last_left (Emitted e) world o n left = inr (inl (
  e.count + n,
  record {
    flash = left.flash;
    disk = left.disk;
    out = left.out ∙ append_assoc world.said (take e.count e.piece) (take n (drop e.count e.piece)) ∙ ap (λ (l : List ℕ). world.said ++ l) (sym (take-add e.count n e.piece));
  },
))

-- the moment of a crash isn't ahead
pub crash_moment_is_past : (emitting : Bool) (events : List Event) → crash_moment emitting events ≤ length events
crash_moment_is_past true events = omega arith
crash_moment_is_past false events = omega arith

-- what is picked is left since the moment of the crash
pub crash_left : (emitting : Bool) (events : List Event) (world : World) (o : Outcome) (n : ℕ) → MayLeave (say (take n (unfinished_of emitting events)) (after_events events world)) o → LeftSince events world (crash_moment emitting events) o
crash_left false events world o n left = counts_now events world (length events) o (omega arith) (said_nothing _ o (subst (λ (l : List ℕ). MayLeave (say l (after_events events world)) o) (take_none n) left))
crash_left true [] world o n left = said_nothing _ o (subst (λ (l : List ℕ). MayLeave (say l world) o) (take_none n) left)
crash_left true (event ∷ []) world o n left = last_left event world o n left
crash_left true (event ∷ next ∷ events) world o n left =
    let next_moment : suc (suc (length events) - 1) ≡ suc (suc (length events)) - 1 = omega arith in
    subst (λ (t : ℕ). LeftSince (event ∷ next ∷ events) world t o) next_moment (crash_left true (next ∷ events) (after_event event world) o n left)

-- the event that was put last
pub last_unfinished_new : (event : Event) (events : List Event) → unfinished_of true (events ++ event ∷ []) ≡ unfinished_in (Some event)
last_unfinished_new event [] = refl
last_unfinished_new event (e ∷ []) = refl
last_unfinished_new event (e ∷ next ∷ events) = last_unfinished_new event (next ∷ events)
