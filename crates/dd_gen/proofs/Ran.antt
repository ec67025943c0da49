-- Generated commands that were served so far, and one more.
use Rattle.std.proofs.Common.{◌≡◌, inl, inr, ⊎_elim, ℕ, suc, ◌+◌, ◌≤◌, List, sym, ◌∙◌, ap, subst, arith}
use Rattle.std.specs.Prelude.{Err}
use Rattle.dd_block.specs.declared.print.Fp.{Fp}
use Rattle.dd_rig.specs.World.{World}
use Rattle.dd_model.specs.State.{Sizes, State}
use Rattle.dd_script.specs.Command.{Command, after}
use Rattle.dd_store.specs.declared.fault.StoreFault.{StoreFault}
use Rattle.dd_store.specs.declared.fault.StoreFault.TheVariants.{FlashRead, DiskRead, FlashWrite, DiskWrite}
use Rattle.dd_store.specs.Committing.{StandForEither, AllStandForEither}
use Rattle.dd_store.specs.Keeping.{StoreView, Kept}
use Rattle.dd_store.specs.Meaning.{Basis, Stands}
use Rattle.dd_store.specs.Serving.{GoesOn, Leaves}
use Rattle.dd_gen.specs.Generator.{drawn, drawn_on}
use Rattle.dd_script.specs.declared.reply.Sums.{Sums}
use Rattle.dd_gen.specs.Sums.{counted_by, no_sums}
use Rattle.dd_gen.specs.Running.{state_at, sums_at, StandsWithin, AllStandWithin, Holding}
use Rattle.dd_gen.proofs.Generated.{on_next, state_next, sums_next}

-- a store that goes on has committed one of the two states
goes_either : (basis : Basis) (print : List ℕ → Fp) (c s held : State) (store : StoreView) (world : World) → GoesOn basis print c s store world held → AllStandForEither basis print c s world
goes_either basis print c s held store world g = λ flash disk f d.
    let stands : Stands basis print flash disk g.committed = g.kept.stands flash disk f d in
    ⊎_elim (λ e. inl (subst (λ (x : State). Stands basis print flash disk x) e stands)) (λ e. inr (subst (λ (x : State). Stands basis print flash disk x) e stands)) g.either

-- behind a call that failed a crash leaves one of the two
pub failed_either : (basis : Basis) (T : Type 0) (print : List ℕ → Fp) (fault : StoreFault) (c s next : State) (store : StoreView) (world : World) → Leaves {T = T} basis print (Err fault) c s next store world → AllStandForEither basis print c s world
failed_either basis T print FlashRead c s next store world h = goes_either basis print c s s store world h
failed_either basis T print DiskRead c s next store world h = goes_either basis print c s s store world h
failed_either basis T print FlashWrite c s next store world h = h
failed_either basis T print DiskWrite c s next store world h = h

-- the state of the generator behind one command more
pub drawn_next : (sizes : Sizes) (seed n x next : ℕ) → x ≡ drawn_on sizes seed n → next ≡ (drawn sizes x).state → next ≡ drawn_on sizes seed (n + 1)
drawn_next sizes seed n x next at is =
    let more : suc n ≡ n + 1 = omega arith in
    is ∙ ap (λ y. (drawn sizes y).state) at ∙ sym (on_next sizes n seed) ∙ ap (drawn_on sizes seed) more

module _ (basis : Basis) (print : List ℕ → Fp) (sizes : Sizes) (start : State) (seed : ℕ) where
  -- one of the two states that a store knows is behind some of the commands
  pub within_either : (n m : ℕ) → n ≤ m → (store : StoreView) (world : World) (h : Holding basis print sizes start seed n store world) (flash disk : List ℕ)
      → StandForEither basis print (state_at print sizes start seed h.k) (state_at print sizes start seed n) flash disk → StandsWithin basis print sizes start seed m flash disk
  within_either n m le store world h flash disk either =
      ⊎_elim (λ one. record { k = h.k; few = omega (arith, h.few, le); stands = one }) (λ other. record { k = n; few = le; stands = other }) either

  pub all_within : (n m : ℕ) → n ≤ m → (store : StoreView) (world now : World) (h : Holding basis print sizes start seed n store world)
      → AllStandForEither basis print (state_at print sizes start seed h.k) (state_at print sizes start seed n) now → AllStandWithin basis print sizes start seed m now
  all_within n m le store world now h all = λ flash disk f d. within_either n m le store world h flash disk (all flash disk f d)

  -- one command more
  pub holding_next : (n : ℕ) (store later : StoreView) (world new : World) (h : Holding basis print sizes start seed n store world) (command : Command) → command ≡ (drawn sizes (drawn_on sizes seed n)).command
      → GoesOn basis print (state_at print sizes start seed h.k) (state_at print sizes start seed n) later new (after sizes (state_at print sizes start seed n) command) → Holding basis print sizes start seed (n + 1) later new
  holding_next n store later world new h command is g =
      let more : suc n ≡ n + 1 = omega arith in
      let next : after sizes (state_at print sizes start seed n) command ≡ state_at print sizes start seed (n + 1) =
      ap (after sizes (state_at print sizes start seed n)) is ∙ sym (state_next sizes n seed start) ∙ ap (state_at print sizes start seed) more in
      let kept : Kept basis print later new g.committed (state_at print sizes start seed (n + 1)) = subst (λ (x : State). Kept basis print later new g.committed x) next g.kept in
      ⊎_elim
      (λ e. record { k = h.k; few = omega (arith, h.few); kept = subst (λ (x : State). Kept basis print later new x (state_at print sizes start seed (n + 1))) e kept })
      (λ e. record { k = n; few = omega arith; kept = subst (λ (x : State). Kept basis print later new x (state_at print sizes start seed (n + 1))) e kept })
      g.either

  -- what the references came to
  pub sums_more : (n x : ℕ) (sums next : Sums) → x ≡ drawn_on sizes seed n → sums ≡ sums_at print sizes start seed n → next ≡ counted_by sizes (state_at print sizes start seed n) (drawn sizes x).command sums
      → next ≡ sums_at print sizes start seed (n + 1)
  sums_more n x sums next at so is =
      let more : suc n ≡ n + 1 = omega arith in
      is ∙ ap (λ y. counted_by sizes (state_at print sizes start seed n) (drawn sizes y).command sums) at
      ∙ ap (λ (y : Sums). counted_by sizes (state_at print sizes start seed n) (drawn sizes (drawn_on sizes seed n)).command y) so
      ∙ sym (sums_next sizes n seed start no_sums) ∙ ap (sums_at print sizes start seed) more
