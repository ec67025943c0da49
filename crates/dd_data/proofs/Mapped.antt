-- Lists of nodes, and the rows that a function makes of them.
use Rattle.std.proofs.Common.{◌≡◌, ◌≢◌, inl, inr, ℕ, suc, ◌-◌, ◌==◌, not, Bool, true, false, List, [], ◌∷◌, length, map, take, refl, sym, ◌∙◌, ap, arith, Option, Some, None, cond, slice_get, get_or}
use Rattle.std.specs.Prelude.{filter, option_map}
use Rattle.std.specs.List.{AllByRecursion, IsDistinct}
use Rattle.std.proofs.lemmas.Bool.{eqb-true, eqb-false, eq-eqb, ne_eqb, both_ways}
use Rattle.std.proofs.lemmas.Option.{slice_get-get_or}
use Rattle.dd_record.specs.Listed.{row_behind}
use Rattle.dd_lists.specs.Lists.{is_in, without, behind}
use Rattle.dd_lists.proofs.Members.{in_cons, in_here, in_later, without_none, none_from}
use Rattle.dd_lists.proofs.Found.{got_in_list}

-- a list whose last number isn't there has none
pub no_last : (xs : List ℕ) → slice_get xs (length xs - 1) ≡ None → length xs ≡ 0
no_last [] h = refl
no_last (x ∷ xs) h = absurd (never (sym (slice_get-get_or (x ∷ xs) (length (x ∷ xs) - 1) 0 (omega arith)) ∙ h))
  where
    never : Some (get_or (x ∷ xs) (length (x ∷ xs) - 1) 0) ≡ None → ⊥
    never e = cc

-- filters
pub filter_map : {X : Type 0} (p : X → Bool) (f : ℕ → X) (xs : List ℕ) → filter p (map f xs) ≡ map f (filter (λ n. p (f n)) xs)
filter_map p f [] = refl
filter_map {X} p f (x ∷ xs) = step (p (f x)) (filter_map p f xs)
  where
    step : (b : Bool) → filter p (map f xs) ≡ map f (filter (λ n. p (f n)) xs) → cond b (f x ∷ filter p (map f xs)) (filter p (map f xs)) ≡ map f (cond b (x ∷ filter (λ n. p (f n)) xs) (filter (λ n. p (f n)) xs))
    step true later = ap (λ (l : List X). f x ∷ l) later
    step false later = later

pub filter_filter : (p q : ℕ → Bool) (xs : List ℕ) → ((n : ℕ) → q n ≡ true → p n ≡ true) → filter q (filter p xs) ≡ filter q xs
filter_filter p q [] h = refl
filter_filter p q (x ∷ xs) h = step (p x) refl (q x) refl (filter_filter p q xs h)
  where
    step : (b : Bool) → p x ≡ b → (t : Bool) → q x ≡ t → filter q (filter p xs) ≡ filter q xs → filter q (cond b (x ∷ filter p xs) (filter p xs)) ≡ cond t (x ∷ filter q xs) (filter q xs)
    step true e true t later = ap (λ b. cond b (x ∷ filter q (filter p xs)) (filter q (filter p xs))) t ∙ ap (λ (l : List ℕ). x ∷ l) later
    step true e false t later = ap (λ b. cond b (x ∷ filter q (filter p xs)) (filter q (filter p xs))) t ∙ later
    step false e true t later = absurd (both_ways _ e (h x t))
    step false e false t later = later

-- maps
pub map_in_same : {X : Type 0} (f g : ℕ → X) (xs : List ℕ) → ((m : ℕ) → is_in m xs ≡ true → f m ≡ g m) → map f xs ≡ map g xs
map_in_same f g [] same = refl
map_in_same {X} f g (x ∷ xs) same = ap (λ (y : X). y ∷ map f xs) (same x (in_here x xs)) ∙ ap (λ (l : List X). g x ∷ l) (map_in_same f g xs (λ m h. same m (in_later m x xs h)))

pub all_map : {X : Type 0} (P : X → Type 0) (f : ℕ → X) (xs : List ℕ) → ((m : ℕ) → is_in m xs ≡ true → P (f m)) → AllByRecursion P (map f xs)
all_map P f [] all = tt
all_map P f (x ∷ xs) all = (all x (in_here x xs), all_map P f xs (λ m h. all m (in_later m x xs h)))

-- numbers that stand once
pub distinct_out : (x : ℕ) (xs : List ℕ) → IsDistinct (λ a b. a == b) (x ∷ xs) → is_in x xs ≡ false
unfolding IsDistinct
distinct_out x xs d = none_from (is_in x xs) (clash xs d.0)
  where
    clash : (ys : List ℕ) → AllByRecursion (λ y. (x == y) ≡ false) ys → is_in x ys ≡ true → ⊥
    clash [] all there = both_ways false refl there
    clash (y ∷ ys) all there = elim (in_cons x y ys there) [ inl same ↦ eqb-false x y all.0 same | inr later ↦ clash ys all.1 later ]

pub distinct_rest : (x : ℕ) (xs : List ℕ) → IsDistinct (λ a b. a == b) (x ∷ xs) → IsDistinct (λ a b. a == b) xs
unfolding IsDistinct
distinct_rest x xs d = d.1

-- what is made of them stands once, where it tells them apart
pub distinct_map : {X : Type 0} (same : X → X → Bool) (f : ℕ → X) (xs : List ℕ) → IsDistinct (λ a b. a == b) xs
    → ((m n : ℕ) → is_in m xs ≡ true → is_in n xs ≡ true → same (f m) (f n) ≡ true → m ≡ n) → IsDistinct same (map f xs)
unfolding IsDistinct
distinct_map same f [] d apart = tt
distinct_map same f (x ∷ xs) d apart = (
  all_map (λ y. same (f x) y ≡ false) f xs (λ m h. none_from (same (f x) (f m)) (λ e. out m h (apart x m (in_here x xs) (in_later m x xs h) e))),
  distinct_map same f xs d.1 (λ m n h g e. apart m n (in_later m x xs h) (in_later n x xs g) e),
)
  where
    out : (m : ℕ) → is_in m xs ≡ true → x ≡ m → ⊥
    out m h e = both_ways _ (distinct_out x xs d) (ap (λ i. is_in i xs) e ∙ h)

pub length_without : (n : ℕ) (xs : List ℕ) → IsDistinct (λ a b. a == b) xs → is_in n xs ≡ true → suc (length (without n xs)) ≡ length xs
length_without n [] d h = absurd (both_ways false refl h)
length_without n (x ∷ xs) d h = step (n == x) refl (length_without n xs (distinct_rest x xs d))
  where
    step : (b : Bool) → (n == x) ≡ b → (is_in n xs ≡ true → suc (length (without n xs)) ≡ length xs) → suc (length (cond (not b) (x ∷ without n xs) (without n xs))) ≡ suc (length xs)
    step true e later = ap (λ (l : List ℕ). suc (length l)) (without_none n xs (ap (λ i. is_in i xs) (eqb-true n x e) ∙ distinct_out x xs d))
    step false e later =
        elim (in_cons n x xs h) [
          | inl same ↦ absurd (eqb-false n x e same)
          | inr there ↦ ap suc (later there)
        ]

-- without its last number a list is cut by one
pub without_last : (n : ℕ) (xs : List ℕ) → IsDistinct (λ a b. a == b) xs → slice_get xs (length xs - 1) ≡ Some n → without n xs ≡ take (length xs - 1) xs
without_last n [] d h = absurd (cc)
without_last n (x ∷ []) d h = let same : x ≡ n = cc in ap (λ b. cond (not b) (x ∷ []) []) (eq-eqb n x (sym same))
without_last n (x ∷ y ∷ ys) d h = kept (without_last n (y ∷ ys) (distinct_rest x (y ∷ ys) d) there)
  where
    less : length (x ∷ y ∷ ys) - 1 ≡ suc (length (y ∷ ys) - 1)
    less = omega arith

    there : slice_get (y ∷ ys) (length (y ∷ ys) - 1) ≡ Some n
    there = sym (ap (slice_get (x ∷ y ∷ ys)) less) ∙ h

    other : n ≢ x
    other same = both_ways _ (distinct_out x (y ∷ ys) d) (ap (λ i. is_in i (y ∷ ys)) (sym same) ∙ got_in_list n (length (y ∷ ys) - 1) (y ∷ ys) there)

    kept : without n (y ∷ ys) ≡ take (length (y ∷ ys) - 1) (y ∷ ys) → without n (x ∷ y ∷ ys) ≡ take (length (x ∷ y ∷ ys) - 1) (x ∷ y ∷ ys)
    kept later =
        ap (λ b. cond (not b) (x ∷ without n (y ∷ ys)) (without n (y ∷ ys))) (ne_eqb n x other)
        ∙ ap (λ (l : List ℕ). x ∷ l) later
        ∙ sym (ap (λ i. take i (x ∷ y ∷ ys)) less)

-- the row behind that of the only number that passes
module _ {X : Type 0} (f : ℕ → X) (p : X → Bool) where
  heads : (xs : List ℕ) → option_map f (slice_get xs 0) ≡ slice_get (map f xs) 0
  heads [] = refl
  heads (x ∷ xs) = refl

  pub behind_map : (n : ℕ) (xs : List ℕ) → is_in n xs ≡ true → p (f n) ≡ true → ((m : ℕ) → is_in m xs ≡ true → p (f m) ≡ true → m ≡ n) → option_map f (behind n xs) ≡ row_behind p (map f xs)
  behind_map n [] h passes only = absurd (both_ways false refl h)
  behind_map n (x ∷ xs) h passes only = step (n == x) refl (λ there. behind_map n xs there passes (λ m i e. only m (in_later m x xs i) e))
    where
      step : (b : Bool) → (n == x) ≡ b → (is_in n xs ≡ true → option_map f (behind n xs) ≡ row_behind p (map f xs))
          → option_map f (cond b (slice_get xs 0) (behind n xs)) ≡ cond (p (f x)) (slice_get (map f xs) 0) (row_behind p (map f xs))
      step true e later =
          heads xs ∙ sym (ap (λ t. cond t (slice_get (map f xs) 0) (row_behind p (map f xs))) (ap (λ m. p (f m)) (sym (eqb-true n x e)) ∙ passes))
      step false e later =
          elim (in_cons n x xs h) [
            | inl same ↦ absurd (eqb-false n x e same)
            | inr there ↦
                later there
                ∙ sym (ap (λ t. cond t (slice_get (map f xs) 0) (row_behind p (map f xs))) (none_from (p (f x)) (λ own. eqb-false n x e (sym (only x (in_here x xs) own)))))
          ]

  pub behind_none : (xs : List ℕ) → ((m : ℕ) → is_in m xs ≡ true → p (f m) ≡ true → ⊥) → row_behind p (map f xs) ≡ None
  behind_none [] none = refl
  behind_none (x ∷ xs) none =
      ap (λ t. cond t (slice_get (map f xs) 0) (row_behind p (map f xs))) (none_from (p (f x)) (none x (in_here x xs)))
      ∙ behind_none xs (λ m h. none m (in_later m x xs h))
