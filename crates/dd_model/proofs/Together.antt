-- One of two lists stays a prefix of the other.
use Rattle.std.proofs.Common.{◌≡◌, ℕ, zero, suc, ◌≤◌, ◌<◌, Bool, true, false, cond, not, List, [], ◌∷◌, take, length, refl, ap, sym, ◌∙◌, subst, arith}
use Rattle.std.specs.Prelude.{Some, filter, slice_get, ◌||◌}
use Rattle.std.specs.List.{IsDistinct}
use Rattle.std.specs.Str.{bytes_eq}
use Rattle.std.proofs.lemmas.Bool.{false≢true}
use Rattle.std.proofs.lemmas.Option.{none-some}
use Rattle.dd_model.specs.State.{is_known}
use Rattle.dd_model.specs.Reference.{block_moved}
use Rattle.dd_model.specs.Alignment.{OnePrefixesOther}
use Rattle.dd_model.proofs.Known.{known_all, known_get}
use Rattle.dd_model.proofs.Firsts.{until}

abbrev Blocks : Type 0
Blocks = List (List ℕ)

pub empty_right : (xs : Blocks) → OnePrefixesOther xs []
empty_right [] = tt
empty_right (x ∷ xs) = tt

-- what is taken out of both leaves them together
pub together-filter : (p : List ℕ → Bool) (xs ys : Blocks) → OnePrefixesOther xs ys → OnePrefixesOther (filter p xs) (filter p ys)
together-filter p [] ys h = tt
together-filter p (x ∷ xs) [] h = empty_right (filter p (x ∷ xs))
together-filter p (x ∷ xs) (y ∷ ys) h =
    subst (λ z. OnePrefixesOther (cond (p x) (x ∷ filter p xs) (filter p xs)) (cond (p z) (z ∷ filter p ys) (filter p ys))) h.0
    (elim (p x) as (λ t. OnePrefixesOther (cond t (x ∷ filter p xs) (filter p xs)) (cond t (x ∷ filter p ys) (filter p ys)))
    [ true ↦ (refl, together-filter p xs ys h.1) | false ↦ together-filter p xs ys h.1 ])

-- and so does a cut at the end of the first
pub together-cut : (m : ℕ) (xs ys : Blocks) → OnePrefixesOther xs ys → OnePrefixesOther (take m xs) ys
together-cut zero xs ys h = tt
together-cut (suc m) [] ys h = tt
together-cut (suc m) (x ∷ xs) [] h = tt
together-cut (suc m) (x ∷ xs) (y ∷ ys) h = (h.0, together-cut m xs ys h.1)

-- or of the second
pub together-cut_second : (n : ℕ) (xs ys : Blocks) → OnePrefixesOther xs ys → OnePrefixesOther xs (take n ys)
together-cut_second n [] ys h = tt
together-cut_second zero (x ∷ xs) ys h = tt
together-cut_second (suc n) (x ∷ xs) [] h = tt
together-cut_second (suc n) (x ∷ xs) (y ∷ ys) h = (h.0, together-cut_second n xs ys h.1)

-- a block that is moved to the front of both
pub together-front : (x : List ℕ) (xs ys : Blocks) → OnePrefixesOther xs ys → OnePrefixesOther (block_moved x xs) (block_moved x ys)
together-front x xs ys h = (refl, together-filter (λ other. not (bytes_eq other x)) xs ys h)

-- in front of the block at a place of the second stand as many of the first, where it occurs there
pub far : (d : List ℕ) (n : ℕ) (xs ys : Blocks) → OnePrefixesOther xs ys → IsDistinct bytes_eq ys → slice_get ys n ≡ Some d → is_known d xs ≡ true → n ≤ length (until d xs)
unfolding IsDistinct
far d n [] ys h distinct at known = absurd (false≢true known)
far d n (x ∷ xs) [] h distinct at known = absurd (none-some d at)
far d zero (x ∷ xs) (y ∷ ys) h distinct at known = omega arith
far d (suc n) (x ∷ xs) (y ∷ ys) h distinct at known =
    let apart : bytes_eq x d ≡ false = ap (λ z. bytes_eq z d) (h.0) ∙ known_all (λ z. bytes_eq y z ≡ false) d ys distinct.0 (known_get d n ys at) in
    let there : is_known d xs ≡ true = sym (ap (λ t. t || is_known d xs) apart) ∙ known in
    let rest : n ≤ length (until d xs) = far d n xs ys h.1 distinct.1 at there in
    subst (λ t. suc n ≤ length (cond t [] (x ∷ until d xs))) (sym apart) (omega (arith, rest))

-- a block of the second, where that is the shorter, occurs in the first, with fewer in front of it
pub near : (b : List ℕ) (xs ys : Blocks) → OnePrefixesOther xs ys → length ys ≤ length xs → is_known b ys ≡ true → (is_known b xs ≡ true) × (length (until b xs) < length ys)
near b xs [] h short known = absurd (false≢true known)
near b [] (y ∷ ys) h short known = absurd (omega (arith, short))
near b (x ∷ xs) (y ∷ ys) h short known =
    elim (bytes_eq x b) as (λ t. (t || is_known b ys) ≡ true → ((t || is_known b xs) ≡ true) × (length (cond t [] (x ∷ until b xs)) < suc (length ys))) [
      | true ↦ λ here. (refl, omega arith)
      | false ↦ λ there.
          let rest : (is_known b xs ≡ true) × (length (until b xs) < length ys) = near b xs ys h.1 (omega (arith, short)) there in
          (rest.0, omega (arith, rest.1))
    ] (ap (λ z. bytes_eq z b || is_known b ys) h.0 ∙ known)
