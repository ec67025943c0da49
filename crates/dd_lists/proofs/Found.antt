-- What is found in a list, in lists after a call, and in a list of options.
use Rattle.std.proofs.Common.{◌≡◌, ◌⊎◌, inl, inr, ℕ, zero, suc, ◌<◌, Bool, true, false, List, [], ◌∷◌, length, refl, sym, ◌∙◌, ap, Option, Some, None, get_or, cond, ◌==◌, slice_get, IfSome}
use Rattle.std.proofs.lemmas.Bool.{cases_eq, cases_lt}
use Rattle.std.proofs.lemmas.List.{get_or_past}
use Rattle.dd_lists.specs.Lists.{is_in, is_listed, list_at, without, fronted, put_front, taken_out, moved_front, behind, before, before_from}
use Rattle.dd_lists.proofs.Members.{in_cons, in_here, in_later, in_without_other, in_taken, in_put, listed_in, listed_from, at_moved}

-- where a node is found in a list
pub first_in_list : (n : ℕ) (xs : List ℕ) → slice_get xs 0 ≡ Some n → is_in n xs ≡ true
first_in_list n [] h = absurd (cc)
first_in_list n (x ∷ xs) h = let same : x ≡ n = cc in ap (λ y. is_in n (y ∷ xs)) same ∙ in_here n xs

pub got_in_list : (n i : ℕ) (xs : List ℕ) → slice_get xs i ≡ Some n → is_in n xs ≡ true
got_in_list n i [] h = absurd (cc)
got_in_list n zero (x ∷ xs) h = first_in_list n (x ∷ xs) h
got_in_list n (suc i) (x ∷ xs) h = in_later n x xs (got_in_list n i xs h)

pub behind_in_list : (n m : ℕ) (xs : List ℕ) → behind n xs ≡ Some m → is_in m xs ≡ true
behind_in_list n m [] h = absurd (cc)
behind_in_list n m (x ∷ xs) h = step (behind_in_list n m xs) (n == x) h
  where
    step : (behind n xs ≡ Some m → is_in m xs ≡ true) → (b : Bool) → cond b (slice_get xs 0) (behind n xs) ≡ Some m → is_in m (x ∷ xs) ≡ true
    step later true e = in_later m x xs (first_in_list m xs e)
    step later false e = in_later m x xs (later e)

before_from_in : (last : Option ℕ) (n m : ℕ) (xs : List ℕ) → before_from last n xs ≡ Some m → (last ≡ Some m) ⊎ (is_in m xs ≡ true)
before_from_in last n m [] h = absurd (cc)
before_from_in last n m (x ∷ xs) h = step (before_from_in (Some x) n m xs) (n == x) h
  where
    step : (before_from (Some x) n xs ≡ Some m → (Some x ≡ Some m) ⊎ (is_in m xs ≡ true)) → (b : Bool) → cond b last (before_from (Some x) n xs) ≡ Some m → (last ≡ Some m) ⊎ (is_in m (x ∷ xs) ≡ true)
    step later true e = inl e
    step later false e =
        elim (later e) [
          | inl same ↦ inr (let is : x ≡ m = cc in ap (λ y. is_in m (y ∷ xs)) is ∙ in_here m xs)
          | inr there ↦ inr (in_later m x xs there)
        ]

pub before_in_list : (n m : ℕ) (xs : List ℕ) → before n xs ≡ Some m → is_in m xs ≡ true
before_in_list n m xs h = elim (before_from_in None n m xs h) [ inl never ↦ absurd (cc) | inr there ↦ there ]

-- what is listed after a call was listed before, or is the node of the call
pub listed_put : (l n m : ℕ) (lists : List (List ℕ)) → l < length lists → is_listed m (put_front l n lists) ≡ true → (m ≡ n) ⊎ (is_listed m lists ≡ true)
listed_put l n m lists within h =
    let found = listed_in m (put_front l n lists) h in
    elim (in_put l n m found.0 lists within found.1) [ inl it ↦ inl it.0 | inr there ↦ inr (listed_from m found.0 lists there) ]

pub listed_taken : (n m : ℕ) (lists : List (List ℕ)) → is_listed m (taken_out n lists) ≡ true → is_listed m lists ≡ true
listed_taken n m lists h =
    let found = listed_in m (taken_out n lists) h in
    listed_from m found.0 lists (in_taken n m found.0 lists found.1)

pub fronted_in : (n m : ℕ) (xs : List ℕ) → is_in m (fronted n xs) ≡ true → is_in m xs ≡ true
fronted_in n m xs h = step (is_in n xs) refl h
  where
    step : (b : Bool) → is_in n xs ≡ b → is_in m (cond b (n ∷ without n xs) xs) ≡ true → is_in m xs ≡ true
    step true e there =
        elim (cases_eq n m) [
          | inl same ↦ ap (λ k. is_in k xs) (sym same) ∙ e
          | inr other ↦ sym (in_without_other m n xs other) ∙ elim (in_cons m n (without n xs) there) [ inl it ↦ absurd (other (sym it)) | inr later ↦ later ]
        ]
    step false e there = there

pub listed_moved : (n m : ℕ) (lists : List (List ℕ)) → is_listed m (moved_front n lists) ≡ true → is_listed m lists ≡ true
listed_moved n m lists h =
    let found = listed_in m (moved_front n lists) h in
    listed_from m found.0 lists (fronted_in n m (list_at found.0 lists) (sym (ap (is_in m) (at_moved n found.0 lists)) ∙ found.1))

-- a fact for what is found
pub if_some : (o : Option ℕ) (P : ℕ → Type 0) → ((m : ℕ) → o ≡ Some m → P m) → IfSome o P
if_some None P h = tt
if_some (Some m) P h = h m refl

-- what is some at a place is within
pub within_is : (places : List (Option ℕ)) (n found : ℕ) → get_or places n None ≡ Some found → n < length places
within_is places n found e =
    elim (cases_lt n (length places)) [
      | inl within ↦ within
      | inr past ↦ let none : get_or places n None ≡ None = get_or_past places n None past in absurd (cc)
    ]
