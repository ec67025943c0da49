-- Zeros at the end of some bytes.
use Rattle.std.proofs.Common.{◌≡◌, ℕ, Bool, true, eqb, ◌+◌, ◌-◌, ◌<◌, ◌==◌, List, ◌++◌, length, take, replicate, reverse, refl, sym, ap, ◌∙◌, arith}
use Rattle.std.specs.List.{prefix_len, suffix_len}
use Rattle.std.proofs.Math.Seq.{take-add}
use Rattle.std.proofs.lemmas.Bool.Decides.{nat_tests}
use Rattle.std.proofs.lemmas.List.{length-replicate, reverse-append, length-reverse, ext_get_or, get_or-reverse, get_or-replicate}
use Rattle.std.proofs.lemmas.List.Folds.{prefix_len-append, prefix_len-replicate}
use Rattle.dd_block.specs.Bytes.{part}

abbrev pub is_zero : ℕ → Bool
is_zero b = b == 0

pub reverse_zeros : (n : ℕ) → reverse {A = ℕ} (replicate n 0) ≡ replicate n 0
reverse_zeros n =
    let size = length-replicate {A = ℕ} n 0 in
    ext_get_or 0 (reverse (replicate n 0)) (replicate n 0) (length-reverse (replicate n 0)) (λ i h.
    let within : i < n = omega (arith, size, length-reverse {A = ℕ} (replicate n 0)) in
    get_or-reverse (replicate n 0) i 0 (omega (arith, size))
    ∙ get_or-replicate n (length {A = ℕ} (replicate n 0) - 1 - i) 0 0 (omega (arith, size)) ∙ sym (get_or-replicate n i 0 0 within))

-- zeros in front
front_zeros : (n : ℕ) (xs : List ℕ) → prefix_len is_zero (replicate n 0 ++ xs) ≡ n + prefix_len is_zero xs
front_zeros n xs =
    let all = prefix_len-replicate is_zero n 0 refl in
    let size = length-replicate {A = ℕ} n 0 in
    let same : eqb n n ≡ true = grind (arith, nat_tests) in
    prefix_len-append is_zero (replicate n 0) xs ∙ rw (all, size, same) refl

-- and zeros behind
end_zeros : (n : ℕ) (xs : List ℕ) → suffix_len is_zero (xs ++ replicate n 0) ≡ n + suffix_len is_zero xs
end_zeros n xs = ap (prefix_len is_zero) (reverse-append xs (replicate n 0) ∙ ap (λ zs. zs ++ reverse xs) (reverse_zeros n)) ∙ front_zeros n (reverse xs)

-- where the last n of the bytes up to an end are zeros, they are passed at once
pub step_zeros : (bytes : List ℕ) (end start n : ℕ) → start + n ≡ end → part bytes start n ≡ replicate n 0
    → suffix_len is_zero (take end bytes) ≡ n + suffix_len is_zero (take start bytes)
step_zeros bytes end start n e zeros =
    ap (λ k. suffix_len is_zero (take k bytes)) (sym e)
    ∙ ap (suffix_len is_zero) (take-add start n bytes ∙ ap (λ zs. take start bytes ++ zs) zeros)
    ∙ end_zeros n (take start bytes)
