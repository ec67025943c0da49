-- One line, from the call of the cache to the emit of its reply.
use Rattle.std.proofs.Common.{◌≡◌, inl, inr, ℕ, List, [], ◌∷◌, ◌++◌, take, ◌∙◌, ap, subst, Some, None}
use Rattle.std.specs.Prelude.{Option}
use Rattle.dd_block.specs.declared.print.Fp.{Fp}
use Rattle.dd_rig.specs.Device.{IsImage}
use Rattle.dd_rig.specs.World.{World, WithinEmit, SaysSome}
use Rattle.dd_rig.specs.Clock.{Clock, Elapses}
use Rattle.dd_rig.proofs.Moments.{goes_on, widens}
use Rattle.dd_model.specs.State.{Sizes, State}
use Rattle.dd_script.specs.Command.{Command}
use Rattle.dd_loop.specs.declared.cache.Written.{Written}
use Rattle.dd_loop.specs.declared.halt.Halt.TheVariants.{Output}
use Rattle.dd_loop.specs.Answering.{WritesLine, WritesAnswer, Saying, WithinLine, CutsLine}
use Rattle.dd_loop.specs.Standing.{AllStand, WithinCall}
use Rattle.dd_loop.proofs.Standing.{one_of}

-- The answer that was written is said.
module _ (StandFor : (flash disk : List ℕ) → State → Type 0) (print : List ℕ → Fp) (sizes : Sizes) (Kept : (committed held : State) → Type 0) (PaidThen : List (List ℕ) → Type 0)
    (c s : State) (old middle : World) (same : middle.said ≡ old.said)
    (stands : (one another : State) → Kept one another → AllStand StandFor middle one) (written : Written) (text : List ℕ) where
  -- a part of it
  part_said : (PaidNow : List (List ℕ) → Type 0) → ((lines : List (List ℕ)) → PaidThen lines → PaidNow lines) → (command : Command) (Stand : State → Type 0) → ((one another : State) → Kept one another → Stand one)
      → WritesLine print sizes Kept PaidThen c s command written text → (n : ℕ) (out : List ℕ)
      → out ≡ middle.said ++ take n (take written.size text) → Saying print sizes c s command old.said out Stand PaidNow
  part_said PaidNow pays command Stand stand w n out is = record {
    line = w.0;
    no_end = w.2.no_end;
    one = one_of print sizes s written.faulted command w.0 w.2.one;
    n = n;
    out_is = is ∙ ap (λ (l : List ℕ). l ++ take n (take written.size text)) same ∙ ap (λ (l : List ℕ). old.said ++ take n l) w.1;
    state = w.2.committed;
    either = w.2.either;
    sure = w.2.sure;
    stands = stand w.2.committed _ w.2.kept;
    paid = pays (w.0 ∷ []) w.2.paid;
  }

  -- a crash within the cache's call or within the emit
  pub line_within : (o : Option Command) {first second third : Clock} → WritesAnswer print sizes Kept PaidThen c s o (Some written) text
      → Elapses first second (WithinCall StandFor c s old) → Elapses second third (WithinEmit (take written.size text) middle) → Elapses first third (WithinLine print sizes StandFor c s o old)
  line_within None w call emit = absurd w
  line_within (Some command) w call emit =
      goes_on (widens call (λ o h. inl h)) emit
      (λ o h. inr (part_said (λ lines. Unit {0}) (λ lines p. tt) command (λ state. StandFor o.flash o.disk state) (λ one another k. stands one another k o.flash o.disk h.1.flash h.1.disk) w h.0 o.out h.1.out))

  -- the emit failed
  pub line_cut : (PaidNow : List (List ℕ) → ℕ → Type 0) → ((lines : List (List ℕ)) → PaidThen lines → PaidNow lines 0) → (o : Option Command) (new : World) → WritesAnswer print sizes Kept PaidThen c s o (Some written) text
      → SaysSome (take written.size text) middle new → CutsLine print sizes StandFor PaidNow Output c s o old new
  line_cut PaidNow pays None new w some = absurd w
  line_cut PaidNow pays (Some command) new w some =
      part_said (λ lines. PaidNow lines 0) pays command (AllStand StandFor new)
      (λ one another k flash disk flash_image disk_image. stands one another k flash disk (subst (λ (v : World). IsImage v.flash flash) some.1 flash_image) (subst (λ (v : World). IsImage v.disk disk) some.1 disk_image))
      w some.0 new.said (ap (λ (v : World). v.said) some.1)
