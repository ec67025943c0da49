-- Devices that were synced, and then only read.
use Rattle.std.proofs.Common.{◌≡◌, ⊎_elim, ◌≤◌, ℕ, List, refl, sym, subst, Ok, Err}
use Rattle.std.specs.Prelude.{Result, IfOk}
use Rattle.std.proofs.lemmas.Result.{IfOk-weaker}
use Rattle.dd_block.specs.declared.print.Fp.{Fp}
use Rattle.dd_rig.specs.Device.{IsImage}
use Rattle.dd_rig.specs.World.{World, Outcome, MayLeave, IsOwn}
use Rattle.dd_rig.specs.Clock.{Clock, AddsNone}
use Rattle.dd_rig.proofs.Moments.{goes_on_same}
use Rattle.dd_model.specs.State.{State}
use Rattle.dd_journal.specs.Regions.{Says}
use Rattle.dd_journal.specs.Sitting.{IsStable, Sits}
use Rattle.dd_journal.proofs.Reaching.{synced_is_stable}
use Rattle.dd_store.specs.Keeping.{Kept}
use Rattle.dd_store.specs.Meaning.{Basis, Stands}
use Rattle.dd_store.specs.Serving.{StoreOf}
use Rattle.dd_recover.specs.declared.opening_fault.OpenFault.{OpenFault}
use Rattle.dd_recover.specs.Calls.{HoldsShown}
use Rattle.dd_recover.specs.Writing.{settled}
use Rattle.dd_recover.proofs.Moments.{own_or_new}

-- what a crash leaves now, one might have left before
pub own_still : (old new : World) (first middle last : Clock) → AddsNone first middle → AddsNone middle last
    → ((o : Outcome) → first.left_since first.moment o → MayLeave old o)
    → ((o : Outcome) → first.moment ≤ last.moment → MayLeave new o → last.left_since first.moment o)
    → (flash disk : List ℕ) → IsImage new.flash flash → IsImage new.disk disk → IsOwn old flash disk
own_still old new first middle last none rest only_now counts_now flash disk flash_image disk_image =
    ⊎_elim (λ own. own) (λ never. absurd never) (own_or_new old new first last (λ f d. ⊥) (goes_on_same none rest) only_now counts_now flash disk flash_image disk_image)

-- a crash leaves what is shown
pub settled_stable : (old synced new : World) → synced ≡ settled old → new ≡ synced → IsStable new.flash × IsStable new.disk
settled_stable old synced new is same =
    subst (λ (w : World). IsStable w.flash × IsStable w.disk) (sym same)
    (subst (λ (w : World). IsStable w.flash × IsStable w.disk) (sym is) (synced_is_stable old.flash, synced_is_stable old.disk))

-- devices that were synced and opened hold the state that they stood for
pub kept_settled : (F : Type 0) (printed : List ℕ → Fp) (result : Result (StoreOf F) OpenFault) (old synced new : World) → synced ≡ settled old
    → IfOk result (λ opened. (basis : Basis) (s : State) (stands : Stands basis printed synced.flash.shown synced.disk.shown s) → IsStable synced.flash → IsStable synced.disk
    → (opened.store.journal.geo ≡ stands.geo) × Kept basis printed opened.store new s s)
    → IfOk result (λ opened. (basis : Basis) (s : State) (stands : Stands basis printed old.flash.shown old.disk.shown s) → (opened.store.journal.geo ≡ stands.geo) × Kept basis printed opened.store new s s)
kept_settled F printed result old synced new is kept =
    IfOk-weaker result
    (λ opened. (basis : Basis) (s : State) (stands : Stands basis printed old.flash.shown old.disk.shown s) → IsStable (settled old).flash → IsStable (settled old).disk → (opened.store.journal.geo ≡ stands.geo) × Kept basis printed opened.store new s s)
    (λ opened. (basis : Basis) (s : State) (stands : Stands basis printed old.flash.shown old.disk.shown s) → (opened.store.journal.geo ≡ stands.geo) × Kept basis printed opened.store new s s)
    (λ opened at basis s stands. at basis s stands (synced_is_stable old.flash) (synced_is_stable old.disk))
    (subst
    (λ (w : World). IfOk result (λ opened. (basis : Basis) (s : State) (stands : Stands basis printed w.flash.shown w.disk.shown s) → IsStable w.flash → IsStable w.disk → (opened.store.journal.geo ≡ stands.geo) × Kept basis printed opened.store new s s))
    is kept)

-- such devices hold what they showed
pub holds_settled : (F : Type 0) (printed : List ℕ → Fp) (result : Result (StoreOf F) OpenFault) (old synced new : World) → synced ≡ settled old
    → IfOk result (λ opened. Says synced.flash.shown opened.store.journal.geo 2 opened.store.table opened.store.count)
    → IfOk result (λ opened. IsStable synced.flash → Sits opened.store.journal new opened.store.table)
    → IfOk result (λ opened. (basis : Basis) (s : State) (stands : Stands basis printed synced.flash.shown synced.disk.shown s) → IsStable synced.flash → IsStable synced.disk
    → (opened.store.journal.geo ≡ stands.geo) × Kept basis printed opened.store new s s)
    → IfOk result (λ opened. HoldsShown printed opened.store old new)
holds_settled F printed (Ok opened) old synced new is says sits kept = record {
  says = subst (λ (w : World). Says w.flash.shown opened.store.journal.geo 2 opened.store.table opened.store.count) is says;
  sits = sits (settled_stable old synced synced is refl).0;
  kept = kept_settled F printed (Ok opened) old synced new is kept;
}
holds_settled F printed (Err e) old synced new is says sits kept = tt
