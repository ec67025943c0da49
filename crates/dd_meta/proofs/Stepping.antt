-- Steps along lists of numbers: under a map that tells a number apart, back to front, and past one of them.
use Rattle.std.proofs.Common.{◌≡◌, ◌≢◌, inl, inr, ℕ, ◌==◌, not, Bool, true, false, List, [], ◌∷◌, ◌++◌, map, refl, sym, ◌∙◌, ap, Option, Some, None, cond, reverse, slice_get}
use Rattle.std.specs.Prelude.{option_map, ◌||◌}
use Rattle.std.specs.List.{IsDistinct}
use Rattle.std.proofs.lemmas.Bool.{eq-eqb, ne_eqb, eqb-true, eqb-false, both_ways, cases_eq, or_parts}
use Rattle.std.proofs.lemmas.List.{append_assoc}
use Rattle.dd_record.specs.Listed.{row_behind}
use Rattle.dd_lists.specs.Lists.{is_in, behind, before, before_from}
use Rattle.dd_lists.proofs.Members.{in_cons, in_here, in_later, distinct_none, distinct_front}
use Rattle.dd_meta.specs.Walks.{but}
use Rattle.dd_meta.proofs.Numbers.{rev_cons, in_reverse, head_out, rest_distinct}

pub turn : (a b : ℕ) → (a == b) ≡ (b == a)
turn a b = elim (cases_eq a b) [ inl e ↦ eq-eqb a b e ∙ sym (eq-eqb b a (sym e)) | inr e ↦ ne_eqb a b e ∙ sym (ne_eqb b a (λ s. e (sym s))) ]

pub behind_map : (f : ℕ → ℕ) (n : ℕ) (xs : List ℕ) → is_in n xs ≡ true → ((m : ℕ) → is_in m xs ≡ true → (f m == f n) ≡ (n == m)) → option_map f (behind n xs) ≡ row_behind (λ other. other == f n) (map f xs)
behind_map f n [] h same = absurd (both_ways false refl h)
behind_map f n (x ∷ xs) h same =
    step (n == x) refl (λ later. behind_map f n xs later (λ m i. same m (in_later m x xs i)))
    ∙ sym (ap (λ b. cond b (slice_get (map f xs) 0) (row_behind (λ other. other == f n) (map f xs))) (same x (in_here x xs)))
  where
    heads : (ys : List ℕ) → option_map f (slice_get ys 0) ≡ slice_get (map f ys) 0
    heads [] = refl
    heads (y ∷ ys) = refl

    step : (b : Bool) → (n == x) ≡ b → (is_in n xs ≡ true → option_map f (behind n xs) ≡ row_behind (λ other. other == f n) (map f xs))
        → option_map f (cond b (slice_get xs 0) (behind n xs)) ≡ cond b (slice_get (map f xs) 0) (row_behind (λ other. other == f n) (map f xs))
    step true e later = heads xs
    step false e later = elim (in_cons n x xs h) [ inl is ↦ absurd (both_ways _ e (eq-eqb n x is)) | inr there ↦ later there ]

-- the number before one, and the one behind it in the list back to front
tail : Option ℕ → List ℕ
tail None = []
tail (Some last) = last ∷ []

tail_head : (o : Option ℕ) → slice_get (tail o) 0 ≡ o
unfolding tail
tail_head None = refl
tail_head (Some last) = refl

behind_past : (n x : ℕ) (ys t : List ℕ) → is_in n ys ≡ false → n ≡ x → behind n (ys ++ x ∷ t) ≡ slice_get t 0
behind_past n x [] t out is = ap (λ b. cond b (slice_get t 0) (behind n t)) (eq-eqb n x is)
behind_past n x (y ∷ ys) t out is =
    let parts = or_parts (n == y) (is_in n ys) out in
    ap (λ b. cond b (slice_get (ys ++ x ∷ t) 0) (behind n (ys ++ x ∷ t))) parts.0 ∙ behind_past n x ys t parts.1 is

behind_more : (n x : ℕ) (ys t u : List ℕ) → is_in n ys ≡ true → behind n (ys ++ x ∷ t) ≡ behind n (ys ++ x ∷ u)
behind_more n x [] t u h = absurd (both_ways false refl h)
behind_more n x (y ∷ ys) t u h = step (n == y) refl (behind_more n x ys t u)
  where
    heads : (zs : List ℕ) → slice_get (zs ++ x ∷ t) 0 ≡ slice_get (zs ++ x ∷ u) 0
    heads [] = refl
    heads (z ∷ zs) = refl

    step : (b : Bool) → (n == y) ≡ b → (is_in n ys ≡ true → behind n (ys ++ x ∷ t) ≡ behind n (ys ++ x ∷ u))
        → cond b (slice_get (ys ++ x ∷ t) 0) (behind n (ys ++ x ∷ t)) ≡ cond b (slice_get (ys ++ x ∷ u) 0) (behind n (ys ++ x ∷ u))
    step true e later = heads ys
    step false e later = elim (in_cons n y ys h) [ inl is ↦ absurd (both_ways _ e (eq-eqb n y is)) | inr there ↦ later there ]

before_on : (last : Option ℕ) (n : ℕ) (xs : List ℕ) → IsDistinct (λ a b. a == b) xs → is_in n xs ≡ true → before_from last n xs ≡ behind n (reverse xs ++ tail last)
unfolding tail
before_on last n [] d h = absurd (both_ways false refl h)
before_on last n (x ∷ xs) d h = step (n == x) refl (before_on (Some x) n xs (rest_distinct x xs d)) ∙ sym (ap (behind n) split)
  where
    split : reverse (x ∷ xs) ++ tail last ≡ reverse xs ++ x ∷ tail last
    split = ap (λ (l : List ℕ). l ++ tail last) (rev_cons x xs) ∙ append_assoc (reverse xs) (x ∷ []) (tail last)

    step : (b : Bool) → (n == x) ≡ b → (is_in n xs ≡ true → before_from (Some x) n xs ≡ behind n (reverse xs ++ x ∷ [])) → cond b last (before_from (Some x) n xs) ≡ behind n (reverse xs ++ x ∷ tail last)
    step true e later =
        sym (tail_head last)
        ∙ sym (behind_past n x (reverse xs) (tail last) (in_reverse n xs ∙ ap (λ i. is_in i xs) (eqb-true n x e) ∙ head_out x xs d) (eqb-true n x e))
    step false e later =
        elim (in_cons n x xs h) [
          | inl is ↦ absurd (both_ways _ e (eq-eqb n x is))
          | inr there ↦ later there ∙ behind_more n x (reverse xs) [] (tail last) (in_reverse n xs ∙ there)
        ]

append_none : (xs : List ℕ) → xs ++ [] ≡ xs
append_none [] = refl
append_none (x ∷ xs) = ap (λ (l : List ℕ). x ∷ l) (append_none xs)

pub before_is : (n : ℕ) (xs : List ℕ) → IsDistinct (λ a b. a == b) xs → is_in n xs ≡ true → before n xs ≡ behind n (reverse xs)
unfolding tail
before_is n xs d h = before_on None n xs d h ∙ ap (behind n) (append_none (reverse xs))

-- a step past one number
abbrev pub past : ℕ → List ℕ → Option ℕ → Option ℕ
past skip ys None = None
past skip ys (Some b) = cond (b == skip) (row_behind (λ other. other == skip) ys) (Some b)

but_none : (s : ℕ) (xs : List ℕ) → is_in s xs ≡ false → but s xs ≡ xs
but_none s [] h = refl
but_none s (x ∷ xs) h =
    let parts = or_parts (s == x) (is_in s xs) h in
    ap (λ b. cond (not b) (x ∷ but s xs) (but s xs)) (turn x s ∙ parts.0) ∙ ap (λ (l : List ℕ). x ∷ l) (but_none s xs parts.1)

pub first_but : (s : ℕ) (ys : List ℕ) → IsDistinct (λ a b. a == b) ys → slice_get (but s ys) 0 ≡ past s ys (slice_get ys 0)
first_but s [] d = refl
first_but s (y ∷ ys) d = step (y == s) refl
  where
    step : (b : Bool) → (y == s) ≡ b → slice_get (cond (not b) (y ∷ but s ys) (but s ys)) 0 ≡ cond b (cond (y == s) (slice_get ys 0) (row_behind (λ other. other == s) ys)) (Some y)
    step false e = refl
    step true e =
        ap (λ l. slice_get l 0) (but_none s ys (ap (λ i. is_in i ys) (sym (eqb-true y s e)) ∙ head_out y ys d))
        ∙ sym (ap (λ b. cond b (slice_get ys 0) (row_behind (λ other. other == s) ys)) e)

-- what stands behind a number is in the list
behind_there : (a m : ℕ) (ys : List ℕ) → row_behind (λ other. other == a) ys ≡ Some m → is_in m ys ≡ true
behind_there a m [] h = absurd (cc)
behind_there a m (y ∷ ys) h = step (y == a) h (behind_there a m ys)
  where
    heads : (zs : List ℕ) → slice_get zs 0 ≡ Some m → is_in m zs ≡ true
    heads [] e = absurd (cc)
    heads (z ∷ zs) e = let same : z ≡ m = cc in ap (λ i. is_in i (z ∷ zs)) (sym same) ∙ in_here z zs

    step : (b : Bool) → cond b (slice_get ys 0) (row_behind (λ other. other == a) ys) ≡ Some m → (row_behind (λ other. other == a) ys ≡ Some m → is_in m ys ≡ true) → is_in m (y ∷ ys) ≡ true
    step true e later = in_later m y ys (heads ys e)
    step false e later = in_later m y ys (later e)

past_none : (s : ℕ) (ys zs : List ℕ) (o : Option ℕ) → is_in s zs ≡ false → ((m : ℕ) → o ≡ Some m → is_in m zs ≡ true) → past s ys o ≡ o
past_none s ys zs None out inside = refl
past_none s ys zs (Some b) out inside =
    ap (λ t. cond t (row_behind (λ other. other == s) ys) (Some b)) (ne_eqb b s (λ e. both_ways _ out (ap (λ i. is_in i zs) (sym e) ∙ inside b refl)))

past_later : (s y : ℕ) (ys : List ℕ) (o : Option ℕ) → (y == s) ≡ false → past s (y ∷ ys) o ≡ past s ys o
past_later s y ys None e = refl
past_later s y ys (Some b) e = ap (λ t. cond (b == s) (cond t (slice_get ys 0) (row_behind (λ other. other == s) ys)) (Some b)) e

pub next_but : (a s : ℕ) (ys : List ℕ) → IsDistinct (λ x y. x == y) ys → a ≢ s → row_behind (λ other. other == a) (but s ys) ≡ past s ys (row_behind (λ other. other == a) ys)
next_but a s [] d differs = refl
next_but a s (y ∷ ys) d differs = by_tests (y == s) refl (y == a) refl (next_but a s ys (rest_distinct y ys d) differs)
  where
    by_tests : (t : Bool) → (y == s) ≡ t → (b : Bool) → (y == a) ≡ b → row_behind (λ other. other == a) (but s ys) ≡ past s ys (row_behind (λ other. other == a) ys)
        → row_behind (λ other. other == a) (cond (not t) (y ∷ but s ys) (but s ys)) ≡ past s (y ∷ ys) (cond b (slice_get ys 0) (row_behind (λ other. other == a) ys))
    by_tests true e true f later = absurd (differs (sym (eqb-true y a f) ∙ eqb-true y s e))
    by_tests true e false f later =
        let out : is_in s ys ≡ false = ap (λ i. is_in i ys) (sym (eqb-true y s e)) ∙ head_out y ys d in
        ap (row_behind (λ other. other == a)) (but_none s ys out)
        ∙ sym (past_none s (y ∷ ys) ys (row_behind (λ other. other == a) ys) out (λ m h. behind_there a m ys h))
    by_tests false e true f later =
        ap (λ b. cond b (slice_get (but s ys) 0) (row_behind (λ other. other == a) (but s ys))) f
        ∙ first_but s ys (rest_distinct y ys d) ∙ sym (past_later s y ys (slice_get ys 0) e)
    by_tests false e false f later =
        ap (λ b. cond b (slice_get (but s ys) 0) (row_behind (λ other. other == a) (but s ys))) f
        ∙ later ∙ sym (past_later s y ys (row_behind (λ other. other == a) ys) e)

-- distinct numbers keep distinct under a map that tells them apart
pub map_distinct : (f : ℕ → ℕ) (xs : List ℕ) → ((n m : ℕ) → is_in n xs ≡ true → is_in m xs ≡ true → f n ≡ f m → n ≡ m) → IsDistinct (λ a b. a == b) xs → IsDistinct (λ a b. a == b) (map f xs)
map_distinct f [] apart d = distinct_none
map_distinct f (x ∷ xs) apart d =
    distinct_front (f x) (map f xs)
    (map_out xs (λ m h e. both_ways _ (head_out x xs d) (ap (λ i. is_in i xs) (apart x m (in_here x xs) (in_later m x xs h) e) ∙ h)))
    (map_distinct f xs (λ n m h g. apart n m (in_later n x xs h) (in_later m x xs g)) (rest_distinct x xs d))
  where
    map_out : (ys : List ℕ) → ((m : ℕ) → is_in m ys ≡ true → f x ≢ f m) → is_in (f x) (map f ys) ≡ false
    map_out [] h = refl
    map_out (y ∷ ys) h = ap (λ t. t || is_in (f x) (map f ys)) (ne_eqb (f x) (f y) (h y (in_here y ys))) ∙ map_out ys (λ m i. h m (in_later m y ys i))

-- what a number of a mapped list is of
pub mapped_from : (f : ℕ → ℕ) (a : ℕ) (xs : List ℕ) → is_in a (map f xs) ≡ true → (m : ℕ) × (is_in m xs ≡ true) × (f m ≡ a)
mapped_from f a [] h = absurd (both_ways false refl h)
mapped_from f a (x ∷ xs) h =
    elim (in_cons a (f x) (map f xs) h) [
      | inl is ↦ (x, in_here x xs, sym is)
      | inr later ↦ let found = mapped_from f a xs later in (found.0, in_later found.0 x xs found.1, found.2)
    ]

-- a number of a list but one
pub but_in : (a s : ℕ) (xs : List ℕ) → is_in a (but s xs) ≡ true → (is_in a xs ≡ true) × (a ≢ s)
but_in a s [] h = absurd (both_ways false refl h)
but_in a s (x ∷ xs) h = step (x == s) refl h (but_in a s xs)
  where
    step : (b : Bool) → (x == s) ≡ b → is_in a (cond (not b) (x ∷ but s xs) (but s xs)) ≡ true → (is_in a (but s xs) ≡ true → (is_in a xs ≡ true) × (a ≢ s)) → (is_in a (x ∷ xs) ≡ true) × (a ≢ s)
    step true e there later = let found = later there in (in_later a x xs found.0, found.1)
    step false e there later =
        elim (in_cons a x (but s xs) there) [
          | inl is ↦ (ap (λ i. is_in i (x ∷ xs)) is ∙ in_here x xs, λ same. eqb-false x s e (sym is ∙ same))
          | inr rest ↦ let found = later rest in (in_later a x xs found.0, found.1)
        ]
