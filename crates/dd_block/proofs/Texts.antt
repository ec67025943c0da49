-- The text of a block is read back as that block.
use Rattle.std.proofs.Common.{◌≡◌, ℕ, zero, suc, ◌+◌, ◌-◌, ◌*◌, ◌%◌, ◌<◌, ◌≤◌, ◌==◌, false, List, [], ◌∷◌, ◌++◌, length, take, drop, replicate, reverse, refl, sym, ap, ◌∙◌, arith, length-take, length-drop}
use Rattle.std.specs.Prelude.{Ok, nat_lt}
use Rattle.std.specs.List.{prefix_len, suffix_len}
use Rattle.std.proofs.lemmas.Bool.Decides.{nat_tests}
use Rattle.std.proofs.lemmas.List.{take_at, reverse-append, reverse-reverse, length-reverse, take-append-drop}
use Rattle.std.proofs.lemmas.List.Sums.{suffix_len-le-length}
use Rattle.hex.specs.Hex.{IsBytes, decode_pairs, encode_lower, lower_digits}
use Rattle.hex.proofs.HexLemmas.{IsDigits-lower_digits, decode_pairs-encode_with, length-encode_with}
use Rattle.dd_block.proofs.Fields.{front_small}
use Rattle.dd_block.proofs.Zeros.{is_zero, reverse_zeros}
use Rattle.dd_block.specs.Text.{block_text, block_of_text, text_or_zero, without_zeros, filled}

-- what a text of right length reads as
reads : (n : ℕ) (text bytes : List ℕ) → 0 < length text → length text % 2 ≡ 0 → length text ≤ 2 * n → decode_pairs 0 text ≡ Ok bytes
    → block_of_text n text ≡ Ok (filled n bytes)
reads n text bytes some even fits h =
    let not_empty : (length text == 0) ≡ false = grind (arith, nat_tests) in
    let not_odd : (length text % 2 == 1) ≡ false = grind (arith, nat_tests) in
    let not_long : nat_lt (2 * n) (length text) ≡ false = grind (arith, nat_tests) in
    rw (not_empty, not_odd, not_long, h) refl

-- the zeros that a list begins with
front_zeros : (xs : List ℕ) → take (prefix_len is_zero xs) xs ≡ replicate (prefix_len is_zero xs) 0
front_zeros [] = refl
front_zeros (zero ∷ xs) =
    let more : 1 + prefix_len is_zero xs ≡ suc (prefix_len is_zero xs) = omega arith in
    rw more (ap (λ zs. 0 ∷ zs) (front_zeros xs))
front_zeros (suc b ∷ xs) =
    let other : is_zero (suc b) ≡ false = grind (arith, nat_tests) in
    rw other refl

-- a block is its bytes up to the last one that isn't zero, and zeros
split : (bytes : List ℕ) → bytes ≡ without_zeros bytes ++ replicate (suffix_len is_zero bytes) 0
split bytes =
    let p = suffix_len is_zero bytes in
    let r = reverse bytes in
    let short = suffix_len-le-length is_zero bytes in
    let whole : bytes ≡ reverse (drop p r) ++ replicate p 0 =
    sym (reverse-reverse bytes) ∙ ap reverse (sym (take-append-drop p r)) ∙ reverse-append (take p r) (drop p r)
    ∙ ap (λ zs. reverse (drop p r) ++ zs) (ap reverse (front_zeros r) ∙ reverse_zeros p) in
    let size : length (reverse (drop p r)) ≡ length bytes - p = omega (arith, length-reverse (drop p r), length-drop p r, length-reverse bytes) in
    let front : without_zeros bytes ≡ reverse (drop p r) =
    ap (take (length bytes - p)) whole ∙ take_at (reverse (drop p r)) (replicate p 0) (length bytes - p) size in
    whole ∙ ap (λ xs. xs ++ replicate p 0) (sym front)

text_reads : (n p : ℕ) (bytes : List ℕ) → 1 ≤ n → length bytes + p ≡ n → IsBytes bytes
    → block_of_text n (text_or_zero bytes) ≡ Ok (bytes ++ replicate p 0)
unfolding decode_pairs
text_reads zero p [] least e small = absurd (omega arith)
text_reads (suc n) p [] least e small =
    let same : p ≡ suc n = omega arith in
    let half : suc n - 1 ≡ n = omega arith in
    rw same (reads (suc n) (48 ∷ 48 ∷ []) (0 ∷ []) (omega arith) refl (omega arith) refl ∙ ap (λ k. Ok (0 ∷ replicate k 0)) half)
text_reads n p (b ∷ bytes) least e small =
    let size = length-encode_with lower_digits (b ∷ bytes) in
    let rest : n - length (b ∷ bytes) ≡ p = omega arith in
    reads n (encode_lower (b ∷ bytes)) (b ∷ bytes) (omega (arith, size)) (omega (arith, size)) (omega (arith, size))
    (decode_pairs-encode_with lower_digits IsDigits-lower_digits 0 (b ∷ bytes) small)
    ∙ ap (λ k. Ok ((b ∷ bytes) ++ replicate k 0)) rest

pub text_back : (bytes : List ℕ) → 1 ≤ length bytes → IsBytes bytes → block_of_text (length bytes) (block_text bytes) ≡ Ok bytes
unfolding block_text
text_back bytes least small =
    let p = suffix_len is_zero bytes in
    let short = suffix_len-le-length is_zero bytes in
    let size : length (without_zeros bytes) + p ≡ length bytes = omega (arith, length-take (length bytes - p) bytes) in
    text_reads (length bytes) p (without_zeros bytes) least size (front_small (length bytes - p) bytes small) ∙ ap Ok (sym (split bytes))
