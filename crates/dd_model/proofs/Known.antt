-- Which blocks are among some others.
use Rattle.std.proofs.Common.{◌≡◌, ◌⊎◌, inl, inr, ⊎_elim, ℕ, zero, suc, ◌≤◌, Bool, true, false, cond, List, [], ◌∷◌, ◌++◌, take, length, refl, ap, sym, ◌∙◌, subst, arith}
use Rattle.std.specs.Prelude.{Some, filter, slice_get, unwrap_or}
use Rattle.std.specs.List.{AllByRecursion}
use Rattle.std.specs.Str.{bytes_eq}
use Rattle.std.proofs.lemmas.Bool.{false≢true}
use Rattle.std.proofs.lemmas.List.Folds.{list_any-append}
use Rattle.std.proofs.lemmas.Option.{none-some}
use Rattle.std.proofs.lemmas.Slice.Eq.{bytes_eq-Decides}
use Rattle.dd_model.specs.State.{is_known}
use Rattle.dd_model.proofs.Answering.{or_cases, or_left, or_right}

abbrev Blocks : Type 0
Blocks = List (List ℕ)

pub eq_same : (x : List ℕ) → bytes_eq x x ≡ true
eq_same x = (bytes_eq-Decides x x).1 refl

-- two blocks differ in either order
pub eq_turned : (x y : List ℕ) → bytes_eq x y ≡ false → bytes_eq y x ≡ false
eq_turned x y h =
    elim (bytes_eq y x) as (λ t. (t ≡ true → y ≡ x) → t ≡ false)
    [ true ↦ λ same. sym (eq_same y) ∙ ap (λ z. bytes_eq z y) (same refl) ∙ h | false ↦ λ same. refl ] (bytes_eq-Decides y x).0

pub known_front : (z : List ℕ) (ys : Blocks) → is_known z (z ∷ ys) ≡ true
known_front z ys = or_left (bytes_eq z z) (is_known z ys) (eq_same z)

pub known_behind : (y z : List ℕ) (ys : Blocks) → is_known z ys ≡ true → is_known z (y ∷ ys) ≡ true
known_behind y z ys h = or_right (bytes_eq y z) (is_known z ys) h

pub known_cases : (y z : List ℕ) (ys : Blocks) → is_known z (y ∷ ys) ≡ true → (y ≡ z) ⊎ (is_known z ys ≡ true)
known_cases y z ys h = ⊎_elim (λ same. inl ((bytes_eq-Decides y z).0 same)) (λ there. inr there) (or_cases (bytes_eq y z) (is_known z ys) h)

pub append_cases : (z : List ℕ) (xs ys : Blocks) → is_known z (xs ++ ys) ≡ true → (is_known z xs ≡ true) ⊎ (is_known z ys ≡ true)
append_cases z xs ys h = or_cases (is_known z xs) (is_known z ys) (sym (list_any-append (λ other. bytes_eq other z) xs ys) ∙ h)

pub append_left : (z : List ℕ) (xs ys : Blocks) → is_known z xs ≡ true → is_known z (xs ++ ys) ≡ true
append_left z xs ys h = list_any-append (λ other. bytes_eq other z) xs ys ∙ or_left (is_known z xs) (is_known z ys) h

pub append_right : (z : List ℕ) (xs ys : Blocks) → is_known z ys ≡ true → is_known z (xs ++ ys) ≡ true
append_right z xs ys h = list_any-append (λ other. bytes_eq other z) xs ys ∙ or_right (is_known z xs) (is_known z ys) h

-- what holds of all holds of a block among them
pub known_all : (P : List ℕ → Type 0) (z : List ℕ) (ys : Blocks) → AllByRecursion P ys → is_known z ys ≡ true → P z
known_all P z [] all h = absurd (false≢true h)
known_all P z (y ∷ ys) all h = ⊎_elim (λ same. subst P same all.0) (λ there. known_all P z ys all.1 there) (known_cases y z ys h)

-- and the other way round
pub all_known : (P : List ℕ → Type 0) (ys : Blocks) → ((z : List ℕ) → is_known z ys ≡ true → P z) → AllByRecursion P ys
all_known P [] h = tt
all_known P (y ∷ ys) h = (h y (known_front y ys), all_known P ys (λ z there. h z (known_behind y z ys there)))

-- a block that passes the test stays
pub known_filter : (p : List ℕ → Bool) (z : List ℕ) (ys : Blocks) → p z ≡ true → is_known z ys ≡ true → is_known z (filter p ys) ≡ true
known_filter p z [] passes h = h
known_filter p z (y ∷ ys) passes h =
    elim (p y) as (λ t. p y ≡ t → is_known z (cond t (y ∷ filter p ys) (filter p ys)) ≡ true) [
      | true ↦ λ yes. ⊎_elim (λ same. or_left (bytes_eq y z) (is_known z (filter p ys)) ((bytes_eq-Decides y z).1 same))
          (λ there. known_behind y z (filter p ys) (known_filter p z ys passes there)) (known_cases y z ys h)
      | false ↦ λ fails. ⊎_elim (λ same. absurd (false≢true (sym fails ∙ ap p same ∙ passes))) (λ there. known_filter p z ys passes there) (known_cases y z ys h)
    ] refl

pub known_unfilter : (p : List ℕ → Bool) (z : List ℕ) (ys : Blocks) → is_known z (filter p ys) ≡ true → is_known z ys ≡ true
known_unfilter p z [] h = h
known_unfilter p z (y ∷ ys) h =
    elim (p y) as (λ t. is_known z (cond t (y ∷ filter p ys) (filter p ys)) ≡ true → is_known z (y ∷ ys) ≡ true) [
      | true ↦ λ known. ⊎_elim (λ same. or_left (bytes_eq y z) (is_known z ys) ((bytes_eq-Decides y z).1 same))
          (λ there. known_behind y z ys (known_unfilter p z ys there)) (known_cases y z (filter p ys) known)
      | false ↦ λ known. known_behind y z ys (known_unfilter p z ys known)
    ] h

-- the element at a place is among them
pub known_get : (z : List ℕ) (n : ℕ) (ys : Blocks) → slice_get ys n ≡ Some z → is_known z ys ≡ true
known_get z n [] h = absurd (none-some z h)
known_get z zero (y ∷ ys) h = or_left (bytes_eq y z) (is_known z ys) ((bytes_eq-Decides y z).1 (ap (λ o. unwrap_or o y) h))
known_get z (suc n) (y ∷ ys) h = known_behind y z ys (known_get z n ys h)

-- a block of a list that is at most one too long is in its cut, or is the one cut off
pub known_cut : (z : List ℕ) (n : ℕ) (ys : Blocks) → length ys ≤ suc n → is_known z ys ≡ true → (is_known z (take n ys) ≡ true) ⊎ (slice_get ys n ≡ Some z)
known_cut z n [] short h = absurd (false≢true h)
known_cut z zero (y ∷ []) short h = ⊎_elim (λ same. inr (ap Some same)) (λ there. absurd (false≢true there)) (known_cases y z [] h)
known_cut z zero (y ∷ other ∷ ys) short h = absurd (omega (arith, short))
known_cut z (suc n) (y ∷ ys) short h =
    ⊎_elim (λ same. inl (or_left (bytes_eq y z) (is_known z (take n ys)) ((bytes_eq-Decides y z).1 same)))
    (λ there. ⊎_elim (λ in_cut. inl (known_behind y z (take n ys) in_cut)) (λ last. inr last) (known_cut z n ys (omega (arith, short)) there))
    (known_cases y z ys h)
