-- Which condition comes first, by the parts of an opening.
use Rattle.std.proofs.Common.{◌≡◌, inl, inr, ℕ, List, sym, ◌∙◌, subst, take, Some, None, Ok, Err}
use Rattle.std.specs.Prelude.{Option, Result}
use Rattle.std.specs.Result.{IsErrAnd}
use Rattle.dd_block.specs.declared.geometry.Geometry.{Geometry}
use Rattle.dd_rig.specs.declared.device.Dev.{Dev}
use Rattle.dd_layout.specs.Super.{super_text}
use Rattle.dd_layout.proofs.Superblocks.{super_text_same}
use Rattle.dd_journal.specs.declared.found.Found.{Found}
use Rattle.dd_journal.specs.Found.{IsReadOff}
use Rattle.dd_journal.specs.Regions.{Reading, Spells}
use Rattle.dd_journal.proofs.Sole.{spells_one}
use Rattle.dd_recover.specs.declared.opening_fault.OpenFault.{OpenFault}
use Rattle.dd_recover.specs.declared.opening_fault.OpenFault.TheVariants.{Memory, FlashRead, FlashWrite, DiskWrite, FlashSmall, DiskSmall, Super, NoRegion, Snapshot, Group, Worn, Version1}
use Rattle.dd_recover.specs.Opening.{front_fault, body_fault, reading_fault, IsFirstFault, TellsOpening}
use Rattle.dd_recover.specs.Stages.{Tells, found_fault}
use Rattle.dd_recover.proofs.FoundReading.{found_fault_is, spells_of}

-- a refusal that is the first condition tells the opening's answer
told_of : (T U : Type 0) (e : OpenFault) (fault : Option OpenFault) (size : Dev → ℕ) (flash : List ℕ) → Tells {T = T} (Err e) fault → ((f : OpenFault) → fault ≡ Some f → IsFirstFault size flash f) → TellsOpening {T = U} (Err e) size flash
told_of T U (Memory e) fault size flash h first = tt
told_of T U FlashRead fault size flash h first = tt
told_of T U FlashWrite fault size flash h first = tt
told_of T U DiskWrite fault size flash h first = tt
told_of T U (FlashSmall need have) fault size flash h first = first (FlashSmall need have) h
told_of T U (DiskSmall need have) fault size flash h first = first (DiskSmall need have) h
told_of T U (Super f) fault size flash h first = first (Super f) h
told_of T U NoRegion fault size flash h first = first NoRegion h
told_of T U (Snapshot region at) fault size flash h first = first (Snapshot region at) h
told_of T U (Group region at) fault size flash h first = first (Group region at) h
told_of T U (Worn value) fault size flash h first = first (Worn value) h
told_of T U Version1 fault size flash h first = first Version1 h

module _ (size : Dev → ℕ) (flash : List ℕ) where
  module _ (geo : Geometry) (front : front_fault size flash ≡ None) (text : take 64 flash ≡ super_text geo) where
    -- by the geometry
    pub told_in_body : (T U : Type 0) (e : OpenFault) → Tells {T = T} (Err e) (body_fault geo size flash) → TellsOpening {T = U} (Err e) size flash
    told_in_body T U e h = told_of T U e (body_fault geo size flash) size flash h (λ f is. inr (front, geo, text, inl is))

    module _ (body : body_fault geo size flash ≡ None) (r : Reading) (spells : Spells flash r) (same : r.geo ≡ geo) where
      -- there is no first condition
      pub none_first : reading_fault r ≡ None → (fault : OpenFault) → IsFirstFault size flash fault → ⊥
      none_first none fault (inl is) = absurd (cc (front, is))
      none_first none fault (inr (before, other, is, inl refused)) =
          let one : other ≡ geo = super_text_same other geo (sym is ∙ text) in
          let here : body_fault geo size flash ≡ Some fault = subst (λ (g : Geometry). body_fault g size flash ≡ Some fault) one refused in
          absurd (cc (body, here))
      none_first none fault (inr (before, other, is, inr (sound, s, others, at, refused))) =
          let one : s ≡ r = spells_one flash s r others spells in
          let here : reading_fault r ≡ Some fault = subst (λ (x : Reading). reading_fault x ≡ Some fault) one refused in
          absurd (cc (none, here))

      -- in what the flash spells, or nowhere
      pub told_in_reading : {T : Type 0} (result : Result T OpenFault) → Tells result (reading_fault r) → TellsOpening result size flash
      told_in_reading (Ok value) h = none_first h
      told_in_reading {T} (Err e) h = told_of T T e (reading_fault r) size flash h (λ f is. inr (front, geo, text, inr (body, r, spells, same, is)))

-- behind the read of the geometry, which changed neither the sizes nor what the flash shows
module _ (size middle : Dev → ℕ) (flash bytes : List ℕ) (geo : Geometry) (sizes : middle ≡ size) (shows : bytes ≡ flash) (front : front_fault size flash ≡ None) (text : take 64 flash ≡ super_text geo) where
  -- it is refused by the geometry
  pub body_told : (U : Type 0) (result : Result U OpenFault) (e : OpenFault) → IsErrAnd result (λ x. x ≡ e) → Tells {T = Found} (Err e) (body_fault geo middle bytes) → TellsOpening result size flash
  body_told U (Ok value) e is h = absurd is
  body_told U (Err x) e is h =
      subst (λ (y : OpenFault). TellsOpening {T = U} (Err y) size flash) (sym is)
      (told_in_body size flash geo front text Found U e
      (subst (λ (n : Dev → ℕ). Tells {T = Found} (Err e) (body_fault geo n flash)) sizes (subst (λ (b : List ℕ). Tells {T = Found} (Err e) (body_fault geo middle b)) shows h)))

  -- it is refused for what was found, or it isn't
  pub found_told : {T : Type 0} (result : Result T OpenFault) (found : Found) → body_fault geo middle bytes ≡ None → IsReadOff geo bytes found → Tells result (found_fault geo found) → TellsOpening result size flash
  found_told result found none off h =
      let body : body_fault geo size flash ≡ None = subst (λ (n : Dev → ℕ). body_fault geo n flash ≡ None) sizes (subst (λ (b : List ℕ). body_fault geo middle b ≡ None) shows none) in
      let here : IsReadOff geo flash found = subst (λ (b : List ℕ). IsReadOff geo b found) shows off in
      told_in_reading size flash geo front text body here.reading (spells_of flash geo here.reading here.reads here.found_as.geometry text) here.found_as.geometry result
      (subst (Tells result) (sym (found_fault_is geo here.reading found here.found_as)) h)

-- an answer by what a flash shows, and by the sizes, that stay
pub told_along : {T : Type 0} (result : Result T OpenFault) (size middle : Dev → ℕ) (flash bytes : List ℕ) → middle ≡ size → bytes ≡ flash → TellsOpening result middle bytes → TellsOpening result size flash
told_along result size middle flash bytes sizes shows h =
    subst (λ (n : Dev → ℕ). TellsOpening result n flash) sizes (subst (λ (b : List ℕ). TellsOpening result middle b) shows h)
