-- A block of zeros.
use Rattle.std.proofs.Common.{◌≡◌, ℕ, zero, suc, ◌==◌, true, List, [], ◌∷◌, length, replicate, refl, ap, sym, ◌∙◌}
use Rattle.std.proofs.lemmas.Bool.{eqb-true}
use Rattle.dd_model.specs.State.{is_zero_block}
use Rattle.dd_model.proofs.Answering.{and_first, and_second}

-- as many zeros as that are zeros
pub zeros_are : (n : ℕ) → is_zero_block (replicate n 0) ≡ true
zeros_are zero = refl
zeros_are (suc n) = zeros_are n

-- a block of zeros is told by its length
pub zeros_only : (block : List ℕ) → is_zero_block block ≡ true → block ≡ replicate (length block) 0
zeros_only [] h = refl
zeros_only (byte ∷ block) h =
    ap (λ b. b ∷ block) (eqb-true byte 0 (and_first (byte == 0) (is_zero_block block) h))
    ∙ ap (λ rest. 0 ∷ rest) (zeros_only block (and_second (byte == 0) (is_zero_block block) h))

-- two of one length are one
pub zeros_same : (x y : List ℕ) → is_zero_block x ≡ true → is_zero_block y ≡ true → length x ≡ length y → x ≡ y
zeros_same x y hx hy long = zeros_only x hx ∙ ap (λ n. replicate n 0) long ∙ sym (zeros_only y hy)
