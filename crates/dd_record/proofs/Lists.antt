-- What holds of each element of a list, or of elements apart, holds of parts of it.
use Rattle.std.proofs.Common.{◌≡◌, ◌⊎◌, inl, inr, ℕ, zero, suc, ◌≤◌, Bool, true, false, List, [], ◌∷◌, length, map, take, refl, ap, ◌∙◌, subst, arith, Some, if◌then◌else◌}
use Rattle.std.specs.Prelude.{filter, slice_get, ◌||◌}
use Rattle.std.specs.List.{AllByRecursion, IsDistinct, list_any}

pub all_take : {X : Type 0} (P : X → Type 0) (n : ℕ) (xs : List X) → AllByRecursion P xs → AllByRecursion P (take n xs)
all_take P zero [] h = tt
all_take P (suc n) [] h = tt
all_take P zero (x ∷ xs) h = tt
all_take P (suc n) (x ∷ xs) h = (h.0, all_take P n xs h.1)

kept_if : {X : Type 0} (P : X → Type 0) (b : Bool) (x : X) (xs : List X) → (b ≡ true → P x) → AllByRecursion P xs → AllByRecursion P (if b then x ∷ xs else xs)
kept_if P true x xs here rest = (here refl, rest)
kept_if P false x xs here rest = rest

-- of those that pass a test
pub all_filter : {X : Type 0} (P : X → Type 0) (p : X → Bool) (xs : List X) → AllByRecursion (λ x. p x ≡ true → P x) xs → AllByRecursion P (filter p xs)
all_filter P p [] h = tt
all_filter P p (x ∷ xs) h = kept_if P (p x) x (filter p xs) h.0 (all_filter P p xs h.1)

pub all_map : {X : Type 0} (P Q : X → Type 0) (f : X → X) (xs : List X) → ((x : X) → P x → Q (f x)) → AllByRecursion P xs → AllByRecursion Q (map f xs)
all_map P Q f [] step h = tt
all_map P Q f (x ∷ xs) step h = (step x h.0, all_map P Q f xs step h.1)

pub all_of : {X : Type 0} (P Q : X → Type 0) (xs : List X) → ((x : X) → P x → Q x) → AllByRecursion P xs → AllByRecursion Q xs
all_of P Q [] step h = tt
all_of P Q (x ∷ xs) step h = (step x h.0, all_of P Q xs step h.1)

pub all_both : {X : Type 0} (P Q R : X → Type 0) (xs : List X) → ((x : X) → P x → Q x → R x) → AllByRecursion P xs → AllByRecursion Q xs → AllByRecursion R xs
all_both P Q R [] step p q = tt
all_both P Q R (x ∷ xs) step p q = (step x p.0 q.0, all_both P Q R xs step p.1 q.1)

-- of the one at a place
pub got : {X : Type 0} (P : X → Type 0) (xs : List X) (i : ℕ) (x : X) → slice_get xs i ≡ Some x → AllByRecursion P xs → P x
got P [] i x is h = absurd (cc is)
got P (y ∷ xs) zero x is h = subst P (cc is) h.0
got P (y ∷ xs) (suc i) x is h = got P xs i x is h.1

pub apart_take : {X : Type 0} (e : X → X → Bool) (n : ℕ) (xs : List X) → IsDistinct e xs → IsDistinct e (take n xs)
unfolding IsDistinct
apart_take e zero [] h = tt
apart_take e (suc n) [] h = tt
apart_take e zero (x ∷ xs) h = tt
apart_take e (suc n) (x ∷ xs) h = (all_take (λ y. e x y ≡ false) n xs h.0, apart_take e n xs h.1)

or_right : (a b : Bool) → b ≡ true → (a || b) ≡ true
or_right true b h = refl
or_right false b h = h

apart_if : {X : Type 0} (e : X → X → Bool) (b : Bool) (x : X) (xs : List X) → AllByRecursion (λ y. e x y ≡ false) xs → IsDistinct e xs → IsDistinct e (if b then x ∷ xs else xs)
unfolding IsDistinct
apart_if e true x xs front rest = (front, rest)
apart_if e false x xs front rest = rest

pub apart_filter : {X : Type 0} (e : X → X → Bool) (p : X → Bool) (xs : List X) → IsDistinct e xs → IsDistinct e (filter p xs)
unfolding IsDistinct
apart_filter e p [] h = tt
apart_filter e p (x ∷ xs) h =
    apart_if e (p x) x (filter p xs) (all_filter (λ y. e x y ≡ false) p xs (all_of (λ y. e x y ≡ false) (λ y. p y ≡ true → e x y ≡ false) xs (λ y apart passes. apart) h.0)) (apart_filter e p xs h.1)

pub apart_map : {X : Type 0} (e : X → X → Bool) (f : X → X) (xs : List X) → ((x y : X) → e (f x) (f y) ≡ e x y) → IsDistinct e xs → IsDistinct e (map f xs)
unfolding IsDistinct
apart_map e f [] same h = tt
apart_map e f (x ∷ xs) same h = (all_map (λ y. e x y ≡ false) (λ y. e (f x) y ≡ false) f xs (λ y apart. same x y ∙ apart) h.0, apart_map e f xs same h.1)

only_one : (b : Bool) → (b || false) ≡ true → b ≡ true
only_one true is = refl
only_one false is = is

rest_of : (a b : Bool) → a ≡ false → (a || b) ≡ true → b ≡ true
rest_of true b is h = absurd (cc is)
rest_of false b is h = h

-- an element that passes stands among the first n, or is the one behind them
Among : {X : Type 0} → (X → Bool) → ℕ → List X → Type 0
Among {X} p n xs = (list_any p (take n xs) ≡ true) ⊎ ((x : X) × (slice_get xs n ≡ Some x) × (p x ≡ true))

among_more : {X : Type 0} (p : X → Bool) (n : ℕ) (x : X) (xs : List X) → Among p n xs → Among p (suc n) (x ∷ xs)
unfolding Among
among_more p n x xs (inl here) = inl (or_right (p x) (list_any p (take n xs)) here)
among_more p n x xs (inr behind) = inr behind

among_first : {X : Type 0} (p : X → Bool) (n : ℕ) (x : X) (xs : List X) → p x ≡ true → Among p (suc n) (x ∷ xs)
unfolding Among
among_first p n x xs is = inl (ap (λ t. t || list_any p (take n xs)) is)

among_by : {X : Type 0} (p : X → Bool) (n : ℕ) (x : X) (xs : List X) (b : Bool) → p x ≡ b → (p x || list_any p xs) ≡ true → (list_any p xs ≡ true → Among p n xs) → Among p (suc n) (x ∷ xs)
among_by p n x xs true is h rest = among_first p n x xs is
among_by p n x xs false is h rest = among_more p n x xs (rest (rest_of (p x) (list_any p xs) is h))

among : {X : Type 0} (p : X → Bool) (n : ℕ) (xs : List X) → length xs ≤ suc n → list_any p xs ≡ true → Among p n xs
unfolding Among
among p n [] short h = absurd (cc h)
among p zero (x ∷ []) short h = inr (x, refl, only_one (p x) h)
among p zero (x ∷ y ∷ xs) short h = absurd (omega (arith, short))
among p (suc n) (x ∷ xs) short h = among_by p n x xs (p x) refl h (among p n xs (omega (arith, short)))

pub any_take : {X : Type 0} (p : X → Bool) (n : ℕ) (xs : List X) → length xs ≤ suc n → list_any p xs ≡ true
    → (list_any p (take n xs) ≡ true) ⊎ ((x : X) × (slice_get xs n ≡ Some x) × (p x ≡ true))
unfolding Among
any_take p n xs short h = among p n xs short h

filtered : {X : Type 0} (p q : X → Bool) (x : X) (xs : List X) (b c : Bool) → p x ≡ b → q x ≡ c → (p x ≡ true → q x ≡ true) → (p x || list_any p xs) ≡ true
    → (list_any p xs ≡ true → list_any p (filter q xs) ≡ true) → list_any p (if c then x ∷ filter q xs else filter q xs) ≡ true
filtered p q x xs true true is passes step h rest = ap (λ t. t || list_any p (filter q xs)) is
filtered p q x xs true false is fails step h rest = absurd (cc (step is, fails))
filtered p q x xs false true is passes step h rest = ap (λ t. t || list_any p (filter q xs)) is ∙ rest (rest_of (p x) (list_any p xs) is h)
filtered p q x xs false false is fails step h rest = rest (rest_of (p x) (list_any p xs) is h)

-- an element that passes is among those that pass another test, where each that passes does
pub any_filter : {X : Type 0} (p q : X → Bool) (xs : List X) → ((x : X) → p x ≡ true → q x ≡ true) → list_any p xs ≡ true → list_any p (filter q xs) ≡ true
any_filter p q [] step h = h
any_filter p q (x ∷ xs) step h = filtered p q x xs (p x) (q x) refl refl (step x) h (any_filter p q xs step)
