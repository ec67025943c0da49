-- Lists of numbers under a map that tells one of them apart, and back to front.
use Rattle.std.proofs.Common.{◌≡◌, inl, inr, ℕ, ◌<◌, ◌≤◌, ◌==◌, not, Bool, true, false, List, [], ◌∷◌, ◌++◌, length, map, refl, sym, ◌∙◌, ap, arith, cond, reverse, take, slice_get, Some, ◌+◌, ◌-◌}
use Rattle.std.specs.Prelude.{filter, ◌||◌}
use Rattle.std.specs.List.{AllByRecursion, IsDistinct, list_any}
use Rattle.std.proofs.lemmas.Bool.{eq-eqb, ne_eqb, eqb-true, both_ways, or_parts}
use Rattle.std.proofs.lemmas.List.{reverse-append}
use Rattle.std.proofs.lemmas.List.Elements.{filter-append}
use Rattle.dd_lists.specs.Lists.{is_in, is_listed, without, taken_out}
use Rattle.dd_lists.proofs.Members.{in_cons, in_here, in_later, without_none}
use Rattle.dd_lists.proofs.Found.{got_in_list}

pub rev_cons : (x : ℕ) (xs : List ℕ) → reverse (x ∷ xs) ≡ reverse xs ++ x ∷ []
rev_cons x xs = reverse-append (x ∷ []) xs

pub rev_filter : (p : ℕ → Bool) (xs : List ℕ) → reverse (filter p xs) ≡ filter p (reverse xs)
rev_filter p [] = refl
rev_filter p (x ∷ xs) = step (p x) (rev_filter p xs) ∙ sym (filter-append p (reverse xs) (x ∷ [])) ∙ sym (ap (filter p) (rev_cons x xs))
  where
    step : (b : Bool) → reverse (filter p xs) ≡ filter p (reverse xs) → reverse (cond b (x ∷ filter p xs) (filter p xs)) ≡ filter p (reverse xs) ++ cond b (x ∷ []) []
    step true later = rev_cons x (filter p xs) ∙ ap (λ (l : List ℕ). l ++ x ∷ []) later
    step false later = later ∙ sym (append_nil (filter p (reverse xs)))
      where
        append_nil : (l : List ℕ) → l ++ [] ≡ l
        append_nil [] = refl
        append_nil (y ∷ l) = ap (λ (m : List ℕ). y ∷ m) (append_nil l)

pub in_append : (n : ℕ) (xs ys : List ℕ) → is_in n (xs ++ ys) ≡ (is_in n xs || is_in n ys)
in_append n [] ys = refl
in_append n (x ∷ xs) ys = step (n == x) (in_append n xs ys)
  where
    step : (b : Bool) → is_in n (xs ++ ys) ≡ (is_in n xs || is_in n ys) → (b || is_in n (xs ++ ys)) ≡ ((b || is_in n xs) || is_in n ys)
    step true later = refl
    step false later = later

pub or_false : (b : Bool) → (b || false) ≡ b
or_false true = refl
or_false false = refl

or_swap : (a b : Bool) → (a || b) ≡ (b || a)
or_swap true true = refl
or_swap true false = refl
or_swap false true = refl
or_swap false false = refl

pub in_reverse : (n : ℕ) (xs : List ℕ) → is_in n (reverse xs) ≡ is_in n xs
in_reverse n [] = refl
in_reverse n (x ∷ xs) =
    ap (is_in n) (rev_cons x xs) ∙ in_append n (reverse xs) (x ∷ []) ∙ ap (λ b. b || (n == x || false)) (in_reverse n xs)
    ∙ ap (λ b. is_in n xs || b) (or_false (n == x)) ∙ or_swap (is_in n xs) (n == x)

pub map_in : (f : ℕ → ℕ) (a n : ℕ) (xs : List ℕ) → ((m : ℕ) → is_in m xs ≡ true → (a == f m) ≡ (n == m)) → is_in a (map f xs) ≡ is_in n xs
map_in f a n [] same = refl
map_in f a n (x ∷ xs) same = ap (λ b. b || is_in a (map f xs)) (same x (in_here x xs)) ∙ ap (λ b. (n == x) || b) (map_in f a n xs (λ m h. same m (in_later m x xs h)))

pub map_without : (f : ℕ → ℕ) (a n : ℕ) (xs : List ℕ) → ((m : ℕ) → is_in m xs ≡ true → (a == f m) ≡ (n == m)) → without a (map f xs) ≡ map f (without n xs)
map_without f a n [] same = refl
map_without f a n (x ∷ xs) same =
    ap (λ b. cond (not b) (f x ∷ without a (map f xs)) (without a (map f xs))) (same x (in_here x xs))
    ∙ step (n == x) (map_without f a n xs (λ m h. same m (in_later m x xs h)))
  where
    step : (b : Bool) → without a (map f xs) ≡ map f (without n xs) → cond (not b) (f x ∷ without a (map f xs)) (without a (map f xs)) ≡ map f (cond (not b) (x ∷ without n xs) (without n xs))
    step true later = later
    step false later = ap (λ (l : List ℕ). f x ∷ l) later

-- equal maps
pub map_same : {X : Type 0} (f g : ℕ → X) (xs : List ℕ) → ((m : ℕ) → f m ≡ g m) → map f xs ≡ map g xs
map_same f g [] same = refl
map_same {X} f g (x ∷ xs) same = ap (λ (y : X). y ∷ map f xs) (same x) ∙ ap (λ (l : List X). g x ∷ l) (map_same f g xs same)

pub map_in_same : {X : Type 0} (f g : ℕ → X) (xs : List ℕ) → ((m : ℕ) → is_in m xs ≡ true → f m ≡ g m) → map f xs ≡ map g xs
map_in_same f g [] same = refl
map_in_same {X} f g (x ∷ xs) same = ap (λ (y : X). y ∷ map f xs) (same x (in_here x xs)) ∙ ap (λ (l : List X). g x ∷ l) (map_in_same f g xs (λ m h. same m (in_later m x xs h)))

pub map_map : {X Y : Type 0} (f : ℕ → X) (g : X → Y) (xs : List ℕ) → map g (map f xs) ≡ map (λ n. g (f n)) xs
map_map f g [] = refl
map_map {X} {Y} f g (x ∷ xs) = ap (λ (l : List Y). g (f x) ∷ l) (map_map f g xs)

-- a list is shorter without one of its numbers
shorter : (n : ℕ) (xs : List ℕ) → length (without n xs) ≤ length xs
shorter n [] = omega arith
shorter n (x ∷ xs) = step (n == x) (shorter n xs)
  where
    step : (b : Bool) → length (without n xs) ≤ length xs → length (cond (not b) (x ∷ without n xs) (without n xs)) ≤ length (x ∷ xs)
    step true later = omega arith
    step false later = omega arith

pub less_without : (n : ℕ) (xs : List ℕ) → is_in n xs ≡ true → length (without n xs) < length xs
less_without n [] h = absurd (both_ways false refl h)
less_without n (x ∷ xs) h = step (n == x) refl (shorter n xs) (less_without n xs)
  where
    step : (b : Bool) → (n == x) ≡ b → length (without n xs) ≤ length xs → (is_in n xs ≡ true → length (without n xs) < length xs) → length (cond (not b) (x ∷ without n xs) (without n xs)) < length (x ∷ xs)
    step true e most later = omega arith
    step false e most later =
        elim (in_cons n x xs h) [
          | inl same ↦ absurd (both_ways _ e (eq-eqb n x same))
          | inr there ↦ let less : length (without n xs) < length xs = later there in omega arith
        ]

-- a number in no list is taken out of none
pub taken_none : (n : ℕ) (lists : List (List ℕ)) → is_listed n lists ≡ false → taken_out n lists ≡ lists
taken_none n [] h = refl
taken_none n (xs ∷ lists) h =
    let parts = or_parts (is_in n xs) (is_listed n lists) h in
    ap (λ (l : List ℕ). l ∷ taken_out n lists) (without_none n xs parts.0) ∙ ap (λ (l : List (List ℕ)). xs ∷ l) (taken_none n lists parts.1)

-- distinct numbers
none_in : (x : ℕ) (xs : List ℕ) → AllByRecursion (λ y. (x == y) ≡ false) xs → is_in x xs ≡ false
none_in x [] h = refl
none_in x (y ∷ ys) h = ap (λ t. t || is_in x ys) h.0 ∙ none_in x ys h.1

pub head_out : (x : ℕ) (xs : List ℕ) → IsDistinct (λ a b. a == b) (x ∷ xs) → is_in x xs ≡ false
unfolding IsDistinct
head_out x xs d = none_in x xs d.0

pub rest_distinct : (x : ℕ) (xs : List ℕ) → IsDistinct (λ a b. a == b) (x ∷ xs) → IsDistinct (λ a b. a == b) xs
unfolding IsDistinct
rest_distinct x xs d = d.1

-- without one of distinct numbers they are one fewer
pub fewer : (n : ℕ) (xs : List ℕ) → IsDistinct (λ a b. a == b) xs → is_in n xs ≡ true → length (without n xs) + 1 ≡ length xs
fewer n [] d h = absurd (both_ways false refl h)
fewer n (x ∷ xs) d h = step (n == x) refl (fewer n xs (rest_distinct x xs d))
  where
    step : (b : Bool) → (n == x) ≡ b → (is_in n xs ≡ true → length (without n xs) + 1 ≡ length xs) → length (cond (not b) (x ∷ without n xs) (without n xs)) + 1 ≡ length (x ∷ xs)
    step true e later =
        let out : is_in n xs ≡ false = ap (λ i. is_in i xs) (eqb-true n x e) ∙ head_out x xs d in
        let same : length (without n xs) ≡ length xs = ap (λ (l : List ℕ). length l) (without_none n xs out) in
        omega arith
    step false e later =
        elim (in_cons n x xs h) [
          | inl same ↦ absurd (both_ways _ e (eq-eqb n x same))
          | inr there ↦ let less : length (without n xs) + 1 ≡ length xs = later there in omega arith
        ]

-- without the last of them
last_from : (n x : ℕ) (xs : List ℕ) → IsDistinct (λ a b. a == b) (x ∷ xs) → slice_get (x ∷ xs) (length xs) ≡ Some n → without n (x ∷ xs) ≡ take (length xs) (x ∷ xs)
last_from n x [] d h =
    let same : x ≡ n = cc in
    ap (λ b. cond (not b) (x ∷ []) []) (eq-eqb n x (sym same))
last_from n x (y ∷ rest) d h =
    let there : is_in n (y ∷ rest) ≡ true = got_in_list n (length rest) (y ∷ rest) h in
    ap (λ b. cond (not b) (x ∷ without n (y ∷ rest)) (without n (y ∷ rest))) (ne_eqb n x (λ e. both_ways _ (head_out x (y ∷ rest) d) (ap (λ i. is_in i (y ∷ rest)) (sym e) ∙ there)))
    ∙ ap (λ (l : List ℕ). x ∷ l) (last_from n y rest (rest_distinct x (y ∷ rest) d) h)

pub last_out : (n : ℕ) (xs : List ℕ) → IsDistinct (λ a b. a == b) xs → slice_get xs (length xs - 1) ≡ Some n → without n xs ≡ take (length xs - 1) xs
last_out n [] d h = refl
last_out n (x ∷ xs) d h =
    let less : length (x ∷ xs) - 1 ≡ length xs = omega arith in
    last_from n x xs d (ap (slice_get (x ∷ xs)) (sym less) ∙ h) ∙ ap (λ k. take k (x ∷ xs)) (sym less)

-- rows of nodes that pass a test on them
pub filter_map : {X : Type 0} (p : X → Bool) (f : ℕ → X) (n : ℕ) (xs : List ℕ) → ((m : ℕ) → is_in m xs ≡ true → p (f m) ≡ (n == m)) → filter (λ x. not (p x)) (map f xs) ≡ map f (without n xs)
filter_map p f n [] same = refl
filter_map {X} p f n (x ∷ xs) same =
    ap (λ b. cond (not b) (f x ∷ filter (λ y. not (p y)) (map f xs)) (filter (λ y. not (p y)) (map f xs))) (same x (in_here x xs))
    ∙ keep (n == x) (filter_map p f n xs (λ m h. same m (in_later m x xs h)))
  where
    keep : (b : Bool) → filter (λ y. not (p y)) (map f xs) ≡ map f (without n xs) → cond (not b) (f x ∷ filter (λ y. not (p y)) (map f xs)) (filter (λ y. not (p y)) (map f xs)) ≡ map f (cond (not b) (x ∷ without n xs) (without n xs))
    keep true later = later
    keep false later = ap (λ l. f x ∷ l) later

pub filter_all : {X : Type 0} (p : X → Bool) (xs : List X) → list_any p xs ≡ false → filter (λ x. not (p x)) xs ≡ xs
filter_all p [] h = refl
filter_all {X} p (x ∷ xs) h =
    let parts = or_parts (p x) (list_any p xs) h in
    ap (λ b. cond (not b) (x ∷ filter (λ y. not (p y)) xs) (filter (λ y. not (p y)) xs)) parts.0 ∙ ap (λ (l : List X). x ∷ l) (filter_all p xs parts.1)
