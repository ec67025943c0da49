-- Which bytes are free, range by range.
use Rattle.std.proofs.Common.{◌≡◌, ℕ, ◌+◌, ◌<◌, ◌≤◌, List, [], ◌∷◌, ◌++◌, length, get_or, take, take_all, drop, Bool, ◌||◌, ◌∙◌, ap, arith}
use Rattle.std.proofs.lemmas.List.{take_more, reverse-append, append-nil, drop_all}
use Rattle.std.specs.Prelude.{reverse}
use Rattle.dd_rigmem.specs.Pick.{is_in, is_free}

-- one range more
pub free_more : (ranges : List (ℕ × ℕ)) (i place : ℕ) (d : ℕ × ℕ) → i < length ranges → is_free (reverse (take (i + 1) ranges)) place ≡ (is_in (get_or ranges i d) place || is_free (reverse (take i ranges)) place)
free_more ranges i place d lt =
    ap (λ (l : List (ℕ × ℕ)). is_free (reverse l) place) (take_more ranges i d lt) ∙ ap (λ (l : List (ℕ × ℕ)). is_free l place) (reverse-append (take i ranges) (get_or ranges i d ∷ []))

pub free_all : (ranges : List (ℕ × ℕ)) (i place : ℕ) → length ranges ≤ i → is_free (reverse (take i ranges)) place ≡ is_free (reverse ranges) place
free_all ranges i place le = ap (λ (l : List (ℕ × ℕ)). is_free (reverse l) place) (take_all i ranges le)

-- a slice that was written back whole
pub written_back : (n : ℕ) (xs ys : List Bool) → length xs ≡ length ys → n ≡ length ys → take n (xs ++ drop (length xs) ys) ≡ xs
written_back n xs ys same long =
    ap (λ (l : List Bool). take n (xs ++ l)) (drop_all (length xs) ys (omega (arith, same))) ∙ ap (take n) (append-nil xs) ∙ take_all n xs (omega (arith, same, long))
