-- One event more.
use Rattle.std.proofs.Common.{◌≡◌, ◌⊎◌, inl, inr, ⊎_elim, ℕ, zero, suc, ◌≤◌, List, [], ◌∷◌, ◌++◌, length, Result, Ok, Err, refl, sym, ap, subst, arith, length-append}
use Rattle.std.proofs.lemmas.List.{append-nil}
use Rattle.dd_rig.specs.declared.device.Dev.{Dev}
use Rattle.dd_rig.specs.declared.device.Dev.TheVariants.{Flash, Disk}
use Rattle.dd_rig.specs.Device.{Device}
use Rattle.dd_rig.specs.World.{World, Outcome, MayLeave, WithinWrite, WithinEmit, device_of, on_device, say}
use Rattle.dd_rig.specs.Clock.{Elapses, MovesOn}
use Rattle.std.specs.Prelude.{OnOk, OnErr}
use Rattle.dd_rig.proofs.Images.{after_is_within, within_is_after, after_sync_is_before}
use Rattle.dd_rig.proofs.Moments.{starts, widens}
use Rattle.dd_rigmem.specs.declared.event.Event.{Event}
use Rattle.dd_rigmem.specs.declared.event.Event.TheVariants.{Wrote, Synced, Emitted}
use Rattle.dd_rigmem.specs.Records.{WriteRecord, EmitRecord}
use Rattle.dd_rigmem.specs.History.{History, grown, start_of, after_event, after_events, WithinEvent, LeftSince, clock_of, world_of, Writes, Syncs, Emits}
use Rattle.dd_rigmem.specs.Laws.{counts_now, shows_images}

after_events-push : (events : List Event) (event : Event) (world : World) → after_events (events ++ event ∷ []) world ≡ after_event event (after_events events world)
after_events-push [] event world = refl
after_events-push (e ∷ events) event world = after_events-push events event (after_event e world)

pub world_grown : (event : Event) (history : History) → world_of (grown event history) ≡ after_event event (world_of history)
world_grown event history = after_events-push history.events event (start_of history.start)

keeps : (events : List Event) (event : Event) (world : World) (t : ℕ) (o : Outcome) → t ≤ length events → LeftSince events world t o → LeftSince (events ++ event ∷ []) world t o
keeps [] event world zero o le left = inl left
keeps [] event world (suc t) o le left = absurd (omega arith)
keeps (e ∷ events) event world zero o le (inl now) = inl now
keeps (e ∷ events) event world zero o le (inr (inl within)) = inr (inl within)
keeps (e ∷ events) event world zero o le (inr (inr left)) = inr (inr (keeps events event (after_event e world) zero o (omega arith) left))
keeps (e ∷ events) event world (suc t) o le left = keeps events event (after_event e world) t o (omega arith) left

-- within the event or after it
abbrev Within : Event → World → Outcome → Type 0
Within event world o = WithinEvent event world o ⊎ MayLeave (after_event event world) o

adds_only : (events : List Event) (event : Event) (world : World) (t : ℕ) (o : Outcome) → t ≤ length events → LeftSince (events ++ event ∷ []) world t o → LeftSince events world t o ⊎ Within event (after_events events world) o
adds_only [] event world zero o le (inl now) = inl now
adds_only [] event world zero o le (inr within) = inr within
adds_only [] event world (suc t) o le left = absurd (omega arith)
adds_only (e ∷ events) event world zero o le (inl now) = inl (inl now)
adds_only (e ∷ events) event world zero o le (inr (inl within)) = inl (inr (inl within))
adds_only (e ∷ events) event world zero o le (inr (inr left)) = ⊎_elim (λ old. inl (inr (inr old))) (λ new. inr new) (adds_only events event (after_event e world) zero o (omega arith) left)
adds_only (e ∷ events) event world (suc t) o le left = adds_only events event (after_event e world) t o (omega arith) left

-- a crash within an event is one since each moment before it
within_counts : (events : List Event) (event : Event) (world : World) (t : ℕ) (o : Outcome) → t ≤ length events → WithinEvent event (after_events events world) o → LeftSince (events ++ event ∷ []) world t o
within_counts [] event world zero o le within = inr (inl within)
within_counts [] event world (suc t) o le within = absurd (omega arith)
within_counts (e ∷ events) event world zero o le within = inr (inr (within_counts events event (after_event e world) zero o (omega arith) within))
within_counts (e ∷ events) event world (suc t) o le within = within_counts events event (after_event e world) t o (omega arith) within

module _ (event : Event) (history : History) where
  time_grown : Elapses (clock_of history) (clock_of (grown event history)) (Within event (world_of history))
  time_grown = record {
    later = omega (arith, length-append history.events (event ∷ []));
    keeps = λ t o le left. keeps history.events event (start_of history.start) t o le left;
    adds_only = λ t o le left. adds_only history.events event (start_of history.start) t o le left;
  }

  moves_grown : MovesOn (world_of history) (world_of (grown event history)) (clock_of history) (clock_of (grown event history))
  moves_grown = inr (omega (arith, length-append history.events (event ∷ [])))

-- a write, recorded
pub wrote : (w : WriteRecord) (history : History) → Writes w.dev w.at (length w.bytes) history (grown (Wrote w) history)
wrote w history = record {
  any = inr (w.bytes, refl, world_grown (Wrote w) history);
  time = widens (time_grown (Wrote w) history) (λ o within. ⊎_elim (λ none. absurd none) (after_is_within w.dev w.at w.bytes (world_of history) o) within);
  moves = moves_grown (Wrote w) history;
  within = inr (λ t o le within. counts_now (history.events ++ Wrote w ∷ []) (start_of history.start) t o (omega (arith, le, length-append history.events (Wrote w ∷ [])))
      (subst (λ (now : World). MayLeave now o) (sym (world_grown (Wrote w) history)) (within_is_after w.dev w.at w.bytes (world_of history) o within)));
}

pub wrote_none : (dev : Dev) (at size : ℕ) (history : History) → Writes dev at size history history
wrote_none dev at size history = record {
  any = inl refl;
  time = starts (clock_of history) (WithinWrite dev at size (world_of history));
  moves = inl (refl, starts (clock_of history) (λ o. ⊥));
  within = inl (refl, starts (clock_of history) (λ o. ⊥));
}

-- a sync, recorded, adds no outcome
pub synced : (dev : Dev) (history : History) → Syncs dev history (grown (Synced dev) history)
synced dev history =
    let call = time_grown (Synced dev) history in
    let images = shows_images history in
    record {
      any = inr (world_grown (Synced dev) history);
      time = record {
        later = call.later;
        keeps = call.keeps;
        adds_only = λ t o le left. inl (⊎_elim (λ old. old) (λ within. counts_now history.events (start_of history.start) t o le (⊎_elim (λ none. absurd none) (after_sync_is_before dev (world_of history) o images.flash images.disk) within)) (call.adds_only t o le left));
      };
      moves = moves_grown (Synced dev) history;
    }

-- an emit, recorded
pub emitted : (e : EmitRecord) (history : History) → Emits e.piece history (grown (Emitted e) history)
emitted e history = record {
  any = (e.count, world_grown (Emitted e) history);
  time = widens (time_grown (Emitted e) history) (λ o within. ⊎_elim (λ during. during) (λ after. (e.count, after)) within);
  moves = moves_grown (Emitted e) history;
  within = inr (λ t o le within. within_counts history.events (Emitted e) (start_of history.start) t o le within);
}

-- to say nothing changes nothing
pub say_nothing : (world : World) → say [] world ≡ world
say_nothing world = ap (λ (said : List ℕ). record world { said = said }) (append-nil world.said)

pub emitted_none : (piece : List ℕ) (history : History) → Emits piece history history
emitted_none piece history = record {
  any = (0, sym (say_nothing (world_of history)));
  time = starts (clock_of history) (WithinEmit piece (world_of history));
  moves = inl (refl, starts (clock_of history) (λ o. ⊥));
  within = inl (refl, starts (clock_of history) (λ o. ⊥));
}

-- a call that ends in one of two ways
pub either_way : {T E : Type 0} (result : Result T E) (P : History → Type 0) (old done new : History) → OnOk result (new ≡ done) → OnErr result (new ≡ old) → P done → P old → P new
either_way (Ok x) P old done new ok err after before = subst P (sym ok) after
either_way (Err e) P old done new ok err after before = subst P (sym err) before

pub on_device_same : (dev : Dev) (f h : Device → Device) (world : World) → f (device_of dev world) ≡ h (device_of dev world) → on_device dev f world ≡ on_device dev h world
on_device_same Flash f h world same = ap (λ (d : Device). record world { flash = d }) same
on_device_same Disk f h world same = ap (λ (d : Device). record world { disk = d }) same
