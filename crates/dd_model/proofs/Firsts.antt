-- The distinct blocks of a list, by their first places, and those in front of one of them.
use Rattle.std.proofs.Common.{◌≡◌, ⊎_elim, ℕ, zero, suc, ◌≤◌, Bool, true, false, cond, not, List, [], ◌∷◌, take, length, refl, ap, sym, ◌∙◌}
use Rattle.std.specs.Prelude.{filter, if◌then◌else◌}
use Rattle.std.specs.List.{AllByRecursion, IsDistinct}
use Rattle.std.specs.Str.{bytes_eq}
use Rattle.std.proofs.lemmas.Bool.{false≢true}
use Rattle.std.proofs.lemmas.Slice.Eq.{bytes_eq-Decides}
use Rattle.dd_model.specs.State.{is_zero_block, is_known}
use Rattle.dd_model.specs.Alignment.{firsts, nonzero, variety}
use Rattle.dd_model.proofs.Filters.{filter_cond, filter-filter, filter-take, distinct_filter}
use Rattle.dd_model.proofs.Known.{eq_turned, known_behind, known_cases, known_filter, known_unfilter}
use Rattle.dd_model.proofs.Pigeon.{Within, pigeonhole}
use Rattle.dd_model.proofs.Answering.{or_left}

abbrev Blocks : Type 0
Blocks = List (List ℕ)

abbrev isnt : List ℕ → List ℕ → Bool
isnt x other = not (bytes_eq other x)

-- the first places in a cut list are the first of the first places
pub firsts-take : (n : ℕ) (xs : Blocks) → (m : ℕ) × (firsts (take n xs) ≡ take m (firsts xs))
firsts-take zero xs = (0, refl)
firsts-take (suc n) [] = (0, refl)
firsts-take (suc n) (x ∷ xs) =
    let rest : (m : ℕ) × (firsts (take n xs) ≡ take m (firsts xs)) = firsts-take n xs in
    let cut : (m : ℕ) × (filter (isnt x) (take rest.0 (firsts xs)) ≡ take m (filter (isnt x) (firsts xs))) = filter-take (isnt x) rest.0 (firsts xs) in
    (suc cut.0, ap (λ ys. x ∷ ys) (ap (filter (isnt x)) rest.1 ∙ cut.1))

-- without a block that fails the test anyway, the filtered list is the same
without_failing : (p : List ℕ → Bool) (x : List ℕ) → p x ≡ false → (ys : Blocks) → filter p (filter (isnt x) ys) ≡ filter p ys
without_failing p x fails [] = refl
without_failing p x fails (y ∷ ys) =
    filter_cond p (isnt x y) y (filter (isnt x) ys)
    ∙ ap (λ rest. cond (isnt x y) (cond (p y) (y ∷ rest) rest) rest) (without_failing p x fails ys)
    ∙ elim (bytes_eq y x) as (λ t. (t ≡ true → y ≡ x) → cond (not t) (cond (p y) (y ∷ filter p ys) (filter p ys)) (filter p ys) ≡ cond (p y) (y ∷ filter p ys) (filter p ys))
    [ true ↦ λ same. ap (λ t. cond t (y ∷ filter p ys) (filter p ys)) (sym (ap p (same refl) ∙ fails)) | false ↦ λ same. refl ] (bytes_eq-Decides y x).0

-- first places and a filter, in either order
pub firsts-filter : (p : List ℕ → Bool) (xs : Blocks) → firsts (filter p xs) ≡ filter p (firsts xs)
firsts-filter p [] = refl
firsts-filter p (x ∷ xs) =
    elim (p x) as (λ t. p x ≡ t → firsts (cond t (x ∷ filter p xs) (filter p xs)) ≡ cond t (x ∷ filter p (filter (isnt x) (firsts xs))) (filter p (filter (isnt x) (firsts xs)))) [
      | true ↦ λ passes. ap (λ ys. x ∷ ys) (ap (filter (isnt x)) (firsts-filter p xs) ∙ filter-filter (isnt x) p (firsts xs))
      | false ↦ λ fails. firsts-filter p xs ∙ sym (without_failing p x fails (firsts xs))
    ] refl

isnt_others : (x : List ℕ) (ys : Blocks) → AllByRecursion (λ y. bytes_eq x y ≡ false) (filter (isnt x) ys)
isnt_others x [] = tt
isnt_others x (y ∷ ys) =
    elim (bytes_eq y x) as (λ t. bytes_eq y x ≡ t → AllByRecursion (λ z. bytes_eq x z ≡ false) (cond (not t) (y ∷ filter (isnt x) ys) (filter (isnt x) ys)))
    [ true ↦ λ same. isnt_others x ys | false ↦ λ apart. (eq_turned y x apart, isnt_others x ys) ] refl

-- a block in front of the others is distinct from them
pub distinct_front : (x : List ℕ) (ys : Blocks) → IsDistinct bytes_eq ys → IsDistinct bytes_eq (x ∷ filter (isnt x) ys)
unfolding IsDistinct
distinct_front x ys h = (isnt_others x ys, distinct_filter bytes_eq (isnt x) ys h)

pub firsts_distinct : (xs : Blocks) → IsDistinct bytes_eq (firsts xs)
unfolding IsDistinct
firsts_distinct [] = tt
firsts_distinct (x ∷ xs) = distinct_front x (firsts xs) (firsts_distinct xs)

pub firsts_within : (xs : Blocks) → Within (firsts xs) xs
firsts_within [] z h = h
firsts_within (x ∷ xs) z h =
    ⊎_elim (λ same. or_left (bytes_eq x z) (is_known z xs) ((bytes_eq-Decides x z).1 same))
    (λ there. known_behind x z xs (firsts_within xs z (known_unfilter (isnt x) z (firsts xs) there))) (known_cases x z (filter (isnt x) (firsts xs)) h)

pub within_firsts : (xs : Blocks) → Within xs (firsts xs)
within_firsts [] z h = h
within_firsts (x ∷ xs) z h =
    elim (bytes_eq x z) as (λ t. bytes_eq x z ≡ t → is_known z (firsts (x ∷ xs)) ≡ true) [
      | true ↦ λ same. or_left (bytes_eq x z) (is_known z (filter (isnt x) (firsts xs))) same
      | false ↦ λ apart. known_behind x z (filter (isnt x) (firsts xs)) (known_filter (isnt x) z (firsts xs) (ap not (eq_turned x z apart))
          (within_firsts xs z (⊎_elim (λ same. absurd (false≢true (sym apart ∙ (bytes_eq-Decides x z).1 same))) (λ there. there) (known_cases x z xs h))))
    ] refl

passes_of : (p : List ℕ → Bool) (z : List ℕ) (xs : Blocks) → is_known z (filter p xs) ≡ true → p z ≡ true
passes_of p z [] h = absurd (false≢true h)
passes_of p z (x ∷ xs) h =
    elim (p x) as (λ t. p x ≡ t → is_known z (cond t (x ∷ filter p xs) (filter p xs)) ≡ true → p z ≡ true) [
      | true ↦ λ passes known. ⊎_elim (λ same. ap p (sym same) ∙ passes) (λ there. passes_of p z xs there) (known_cases x z (filter p xs) known)
      | false ↦ λ fails known. passes_of p z xs known
    ] refl h

within_filter : (p : List ℕ → Bool) (xs ys : Blocks) → Within xs ys → Within (filter p xs) (filter p ys)
within_filter p xs ys h z known = known_filter p z ys (passes_of p z xs known) (h z (known_unfilter p z xs known))

-- more blocks are no less various
pub variety_more : (xs ys : Blocks) → Within xs ys → variety xs ≤ variety ys
variety_more xs ys h =
    let nonzero_within : Within (firsts (nonzero xs)) (firsts (nonzero ys)) = λ z known.
    let there : is_known z (nonzero xs) ≡ true = firsts_within (nonzero xs) z known in
    within_firsts (nonzero ys) z (within_filter (λ block. not (is_zero_block block)) xs ys h z there) in
    pigeonhole (firsts (nonzero xs)) (firsts (nonzero ys)) (firsts_distinct (nonzero xs)) nonzero_within

-- the blocks in front of a block
abbrev pub until : List ℕ → Blocks → Blocks
until d [] = []
until d (x ∷ xs) = if bytes_eq x d then [] else x ∷ until d xs

by_front : (p : List ℕ → Bool) (d x : List ℕ) (xs : Blocks) (t s : Bool) → p x ≡ t → bytes_eq x d ≡ s → p d ≡ true → until d (filter p xs) ≡ filter p (until d xs)
    → until d (cond t (x ∷ filter p xs) (filter p xs)) ≡ filter p (cond s [] (x ∷ until d xs))
by_front p d x xs true true passes same is ih = ap (λ u. cond u [] (x ∷ until d (filter p xs))) same
by_front p d x xs true false passes apart is ih =
    ap (λ u. cond u [] (x ∷ until d (filter p xs))) apart ∙ ap (λ ys. x ∷ ys) ih ∙ sym (ap (λ u. cond u (x ∷ filter p (until d xs)) (filter p (until d xs))) passes)
by_front p d x xs false true fails same is ih = absurd (false≢true (sym fails ∙ ap p ((bytes_eq-Decides x d).0 same) ∙ is))
by_front p d x xs false false fails apart is ih = ih ∙ sym (ap (λ u. cond u (x ∷ filter p (until d xs)) (filter p (until d xs))) fails)

-- a filter that lets the block pass
until-filter : (p : List ℕ → Bool) (d : List ℕ) → p d ≡ true → (xs : Blocks) → until d (filter p xs) ≡ filter p (until d xs)
until-filter p d passes [] = refl
until-filter p d passes (x ∷ xs) = by_front p d x xs (p x) (bytes_eq x d) refl refl passes (until-filter p d passes xs)

-- first places in front of a block
until-firsts : (d : List ℕ) (xs : Blocks) → until d (firsts xs) ≡ firsts (until d xs)
until-firsts d [] = refl
until-firsts d (x ∷ xs) =
    elim (bytes_eq x d) as (λ t. bytes_eq x d ≡ t → cond t [] (x ∷ until d (filter (isnt x) (firsts xs))) ≡ firsts (cond t [] (x ∷ until d xs))) [
      | true ↦ λ same. refl
      | false ↦ λ apart. ap (λ ys. x ∷ ys) (until-filter (isnt x) d (ap not (eq_turned x d apart)) (firsts xs) ∙ ap (filter (isnt x)) (until-firsts d xs))
    ] refl

-- how many distinct blocks stand in front of a block that isn't zeros
pub variety_until : (d : List ℕ) → is_zero_block d ≡ false → (xs : Blocks) → length (until d (firsts (nonzero xs))) ≡ variety (until d xs)
variety_until d is xs =
    ap length (until-firsts d (nonzero xs) ∙ ap firsts (until-filter (λ block. not (is_zero_block block)) d (ap not is) xs))
