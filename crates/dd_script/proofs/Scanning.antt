-- Where a word ends, as a search for a blank finds it.
use Rattle.std.proofs.Common.{◌≡◌, ℕ, zero, suc, ◌+◌, ◌<◌, ◌≤◌, not, Bool, true, false, List, [], ◌∷◌, length, slice_index, refl, ◌∙◌, ap, arith, cond}
use Rattle.std.specs.List.{prefix_len}
use Rattle.dd_script.specs.Line.{is_blank, is_no_blank}

-- a first byte that is no blank
on_at : (k : Bool) (b : ℕ) (bytes : List ℕ) (n : ℕ) → is_blank b ≡ k → (is_blank b ≡ true → ⊥) → prefix_len is_no_blank bytes ≡ n → prefix_len is_no_blank (b ∷ bytes) ≡ 1 + n
on_at true b bytes n e never rest = absurd (never e)
on_at false b bytes n e never rest = ap (λ t. cond (not t) (1 + prefix_len is_no_blank bytes) 0) e ∙ ap (λ m. 1 + m) rest

-- none is found
pub never_blank : (bytes : List ℕ) → ((k : ℕ) → 0 ≤ k → k < length bytes → is_blank (slice_index bytes k) ≡ true → ⊥) → prefix_len is_no_blank bytes ≡ length bytes
never_blank [] h = refl
never_blank (b ∷ bytes) h =
    let one : 1 + length bytes ≡ suc (length bytes) = omega arith in
    on_at (is_blank b) b bytes (length bytes) refl (h 0 (omega arith) (omega arith)) (never_blank bytes (λ k low high. h (suc k) (omega arith) (omega (arith, high)))) ∙ one

-- or one at a place
pub blank_at : (at : ℕ) (bytes : List ℕ) → ((k : ℕ) → 0 ≤ k → k < at → is_blank (slice_index bytes k) ≡ true → ⊥) → at < length bytes → is_blank (slice_index bytes at) ≡ true → prefix_len is_no_blank bytes ≡ at
blank_at zero [] none inside is = absurd (omega (arith, inside))
blank_at (suc at) [] none inside is = absurd (omega (arith, inside))
blank_at zero (b ∷ bytes) none inside is = ap (λ t. cond (not t) (1 + prefix_len is_no_blank bytes) 0) is
blank_at (suc at) (b ∷ bytes) none inside is =
    let one : 1 + at ≡ suc at = omega arith in
    on_at (is_blank b) b bytes at refl (none 0 (omega arith) (omega arith)) (blank_at at bytes (λ k low high. none (suc k) (omega arith) (omega (arith, high))) (omega (arith, inside)) is) ∙ one
