-- The text of a block is `00` exactly where the block is zeros.
use Rattle.std.proofs.Common.{◌≡◌, ℕ, zero, suc, ◌+◌, ◌-◌, ◌/◌, ◌%◌, ◌<◌, ◌==◌, Bool, true, false, List, [], ◌∷◌, ◌++◌, length, take, drop, replicate, reverse, refl, sym, ap, ◌∙◌, arith, Some, None, get_or}
use Rattle.std.specs.Prelude.{Option, slice_index, codes, ◌&&◌}
use Rattle.std.specs.List.{prefix_len, suffix_len}
use Rattle.std.specs.Str.{bytes_eq}
use Rattle.std.proofs.lemmas.Bool.{false≢true, eqb-true, eq-eqb}
use Rattle.std.proofs.lemmas.Bool.Decides.{nat_tests}
use Rattle.std.proofs.lemmas.List.{length-replicate, reverse-append, reverse-reverse, length-reverse, take_at, take-append-drop, ext_get_or, get_or-reverse, get_or-replicate, length-drop}
use Rattle.std.proofs.lemmas.List.Folds.{list_all-append}
use Rattle.std.proofs.lemmas.List.Sums.{suffix_len-le-length, suffix_len_is}
use Rattle.std.proofs.Math.Dec.{eqb-suc-zero}
use Rattle.hex.specs.Hex.{encode_with, encode_lower, lower_digits}
use Rattle.dd_block.specs.declared.print.Fp.{Fp}
use Rattle.dd_block.specs.Text.{block_text, text_or_zero, without_zeros}
use Rattle.dd_model.specs.declared.kind.Kind.TheVariants.{Hit}
use Rattle.dd_model.specs.State.{is_zero_block}
use Rattle.dd_model.proofs.Zeros.{zeros_are, zeros_only}
use Rattle.dd_script.specs.Text.{read_text, out_text, drop_text}
use Rattle.dd_script.specs.Counting.{is_zeros_hit}

abbrev is_zero : ℕ → Bool
is_zero b = b == 0

reverse_zeros : (n : ℕ) → reverse {A = ℕ} (replicate n 0) ≡ replicate n 0
reverse_zeros n =
    let size = length-replicate {A = ℕ} n 0 in
    ext_get_or 0 (reverse (replicate n 0)) (replicate n 0) (length-reverse (replicate n 0)) (λ i h.
    let within : i < n = omega (arith, size, length-reverse {A = ℕ} (replicate n 0)) in
    get_or-reverse (replicate n 0) i 0 (omega (arith, size))
    ∙ get_or-replicate n (length {A = ℕ} (replicate n 0) - 1 - i) 0 0 (omega (arith, size)) ∙ sym (get_or-replicate n i 0 0 within))

-- the zeros that a list begins with
front_zeros : (xs : List ℕ) → take (prefix_len is_zero xs) xs ≡ replicate (prefix_len is_zero xs) 0
front_zeros [] = refl
front_zeros (zero ∷ xs) =
    let more : 1 + prefix_len is_zero xs ≡ suc (prefix_len is_zero xs) = omega arith in
    rw more (ap (λ zs. 0 ∷ zs) (front_zeros xs))
front_zeros (suc b ∷ xs) =
    let other : is_zero (suc b) ≡ false = grind (arith, nat_tests) in
    rw other refl

-- a block is its bytes up to the last one that isn't zero, and zeros
split : (bytes : List ℕ) → bytes ≡ without_zeros bytes ++ replicate (suffix_len is_zero bytes) 0
split bytes =
    let p = suffix_len is_zero bytes in
    let r = reverse bytes in
    let short = suffix_len-le-length is_zero bytes in
    let whole : bytes ≡ reverse (drop p r) ++ replicate p 0 =
    sym (reverse-reverse bytes) ∙ ap reverse (sym (take-append-drop p r)) ∙ reverse-append (take p r) (drop p r)
    ∙ ap (λ zs. reverse (drop p r) ++ zs) (ap reverse (front_zeros r) ∙ reverse_zeros p) in
    let size : length (reverse (drop p r)) ≡ length bytes - p = omega (arith, length-reverse (drop p r), length-drop p r, length-reverse bytes) in
    let front : without_zeros bytes ≡ reverse (drop p r) =
    ap (take (length bytes - p)) whole ∙ take_at (reverse (drop p r)) (replicate p 0) (length bytes - p) size in
    whole ∙ ap (λ xs. xs ++ replicate p 0) (sym front)

take_none : (xs : List ℕ) → take 0 xs ≡ []
take_none [] = refl
take_none (x ∷ xs) = refl

-- of zeros nothing is left
zeros_gone : (block : List ℕ) → is_zero_block block ≡ true → without_zeros block ≡ []
zeros_gone block zeros =
    let only : block ≡ replicate (length block) 0 = zeros_only block zeros in
    let all : suffix_len is_zero block ≡ length block - 0 = suffix_len_is is_zero block 0 0 (omega arith)
    (λ k low high. ap (λ (xs : List ℕ). is_zero (get_or xs k 0)) only ∙ ap is_zero (get_or-replicate (length block) k 0 0 high)) (λ never. absurd (omega (arith, never))) in
    let none : length block - suffix_len is_zero block ≡ 0 = omega (arith, all) in
    ap (λ n. take n block) none ∙ take_none block

and_yes : (b : Bool) → (b && true) ≡ b
and_yes true = refl
and_yes false = refl

and_no : (b : Bool) → (b && false) ≡ false
and_no true = refl
and_no false = refl

-- and they are zeros where what is left is
left_zeros : (block : List ℕ) → is_zero_block block ≡ is_zero_block (without_zeros block)
left_zeros block =
    ap is_zero_block (split block)
    ∙ list_all-append is_zero (without_zeros block) (replicate (suffix_len is_zero block) 0)
    ∙ ap (λ b. is_zero_block (without_zeros block) && b) (zeros_are (suffix_len is_zero block))
    ∙ and_yes (is_zero_block (without_zeros block))

-- the digit 0 is that of 0, and no digit is a space
digit_zero : (n : ℕ) → (slice_index lower_digits n == 48) ≡ (n == 0)
digit_zero zero = refl
digit_zero (suc zero) = sym (eqb-suc-zero zero)
digit_zero (suc (suc zero)) = sym (eqb-suc-zero (suc zero))
digit_zero (suc (suc (suc zero))) = sym (eqb-suc-zero (suc (suc zero)))
digit_zero (suc (suc (suc (suc zero)))) = sym (eqb-suc-zero (suc (suc (suc zero))))
digit_zero (suc (suc (suc (suc (suc zero))))) = sym (eqb-suc-zero (suc (suc (suc (suc zero)))))
digit_zero (suc (suc (suc (suc (suc (suc zero)))))) = sym (eqb-suc-zero (suc (suc (suc (suc (suc zero))))))
digit_zero (suc (suc (suc (suc (suc (suc (suc zero))))))) = sym (eqb-suc-zero (suc (suc (suc (suc (suc (suc zero)))))))
digit_zero (suc (suc (suc (suc (suc (suc (suc (suc zero)))))))) = sym (eqb-suc-zero (suc (suc (suc (suc (suc (suc (suc zero))))))))
digit_zero (suc (suc (suc (suc (suc (suc (suc (suc (suc zero))))))))) = sym (eqb-suc-zero (suc (suc (suc (suc (suc (suc (suc (suc zero)))))))))
digit_zero (suc (suc (suc (suc (suc (suc (suc (suc (suc (suc zero)))))))))) = sym (eqb-suc-zero (suc (suc (suc (suc (suc (suc (suc (suc (suc zero))))))))))
digit_zero (suc (suc (suc (suc (suc (suc (suc (suc (suc (suc (suc zero))))))))))) = sym (eqb-suc-zero (suc (suc (suc (suc (suc (suc (suc (suc (suc (suc zero)))))))))))
digit_zero (suc (suc (suc (suc (suc (suc (suc (suc (suc (suc (suc (suc zero)))))))))))) = sym (eqb-suc-zero (suc (suc (suc (suc (suc (suc (suc (suc (suc (suc (suc zero))))))))))))
digit_zero (suc (suc (suc (suc (suc (suc (suc (suc (suc (suc (suc (suc (suc zero))))))))))))) = sym (eqb-suc-zero (suc (suc (suc (suc (suc (suc (suc (suc (suc (suc (suc (suc zero)))))))))))))
digit_zero (suc (suc (suc (suc (suc (suc (suc (suc (suc (suc (suc (suc (suc (suc zero)))))))))))))) = sym (eqb-suc-zero (suc (suc (suc (suc (suc (suc (suc (suc (suc (suc (suc (suc (suc zero))))))))))))))
digit_zero (suc (suc (suc (suc (suc (suc (suc (suc (suc (suc (suc (suc (suc (suc (suc zero))))))))))))))) = sym (eqb-suc-zero (suc (suc (suc (suc (suc (suc (suc (suc (suc (suc (suc (suc (suc (suc zero)))))))))))))))
digit_zero (suc (suc (suc (suc (suc (suc (suc (suc (suc (suc (suc (suc (suc (suc (suc (suc n)))))))))))))))) = sym (eqb-suc-zero (suc (suc (suc (suc (suc (suc (suc (suc (suc (suc (suc (suc (suc (suc (suc n))))))))))))))))

no_space : (n : ℕ) → (slice_index lower_digits n == 32) ≡ false
no_space zero = refl
no_space (suc zero) = refl
no_space (suc (suc zero)) = refl
no_space (suc (suc (suc zero))) = refl
no_space (suc (suc (suc (suc zero)))) = refl
no_space (suc (suc (suc (suc (suc zero))))) = refl
no_space (suc (suc (suc (suc (suc (suc zero)))))) = refl
no_space (suc (suc (suc (suc (suc (suc (suc zero))))))) = refl
no_space (suc (suc (suc (suc (suc (suc (suc (suc zero)))))))) = refl
no_space (suc (suc (suc (suc (suc (suc (suc (suc (suc zero))))))))) = refl
no_space (suc (suc (suc (suc (suc (suc (suc (suc (suc (suc zero)))))))))) = refl
no_space (suc (suc (suc (suc (suc (suc (suc (suc (suc (suc (suc zero))))))))))) = refl
no_space (suc (suc (suc (suc (suc (suc (suc (suc (suc (suc (suc (suc zero)))))))))))) = refl
no_space (suc (suc (suc (suc (suc (suc (suc (suc (suc (suc (suc (suc (suc zero))))))))))))) = refl
no_space (suc (suc (suc (suc (suc (suc (suc (suc (suc (suc (suc (suc (suc (suc zero)))))))))))))) = refl
no_space (suc (suc (suc (suc (suc (suc (suc (suc (suc (suc (suc (suc (suc (suc (suc zero))))))))))))))) = refl
no_space (suc (suc (suc (suc (suc (suc (suc (suc (suc (suc (suc (suc (suc (suc (suc (suc n)))))))))))))))) = refl

both_zero : (b : ℕ) → (b / 16 == 0) ≡ true → (b % 16 == 0) ≡ true → b ≡ 0
both_zero b high low = omega (arith, eqb-true (b / 16) 0 high, eqb-true (b % 16) 0 low)

-- what stands behind `hit `
abbrev behind : List ℕ → Option ℕ → Option Fp → List ℕ
behind text out cut = ((text ++ out_text out) ++ drop_text cut) ++ codes " "

abbrev is_word : List ℕ → Option ℕ → Option Fp → Bool
is_word text out cut = bytes_eq (take 3 (behind text out cut)) (codes "00 ")

word_none : (out : Option ℕ) (cut : Option Fp) → is_word (codes "00") out cut ≡ true
word_none None None = refl
word_none None (Some fp) = refl
word_none (Some n) None = refl
word_none (Some n) (Some fp) = refl

-- one byte is told by two digits, and a space or the end stands behind
third_space : (x y : ℕ) (out : Option ℕ) (cut : Option Fp) → is_word (x ∷ y ∷ []) out cut ≡ ((x == 48) && (y == 48))
third_space x y None None = ap (λ b. (x == 48) && b) (and_yes (y == 48))
third_space x y None (Some fp) = ap (λ b. (x == 48) && b) (and_yes (y == 48))
third_space x y (Some n) None = ap (λ b. (x == 48) && b) (and_yes (y == 48))
third_space x y (Some n) (Some fp) = ap (λ b. (x == 48) && b) (and_yes (y == 48))

digits_differ : (b : ℕ) (s t : Bool) → (b / 16 == 0) ≡ s → (b % 16 == 0) ≡ t → (b == 0) ≡ false → (s && t) ≡ false
digits_differ b true true high low some = absurd (false≢true (sym some ∙ eq-eqb b 0 (both_zero b high low)))
digits_differ b true false high low some = refl
digits_differ b false t high low some = refl

word_one : (b : ℕ) (out : Option ℕ) (cut : Option Fp) → (b == 0) ≡ false → is_word (slice_index lower_digits (b / 16) ∷ slice_index lower_digits (b % 16) ∷ []) out cut ≡ false
word_one b out cut some =
    third_space (slice_index lower_digits (b / 16)) (slice_index lower_digits (b % 16)) out cut
    ∙ ap (λ t. t && (slice_index lower_digits (b % 16) == 48)) (digit_zero (b / 16)) ∙ ap (λ t. (b / 16 == 0) && t) (digit_zero (b % 16))
    ∙ digits_differ b (b / 16 == 0) (b % 16 == 0) refl refl some

-- more bytes have a third digit
word_more : (x y z : ℕ) (rest : List ℕ) (out : Option ℕ) (cut : Option Fp) → (z == 32) ≡ false → is_word (x ∷ y ∷ z ∷ rest) out cut ≡ false
word_more x y z rest out cut other = ap (λ b. (x == 48) && ((y == 48) && (b && true))) other ∙ ap (λ b. (x == 48) && b) (and_no (y == 48)) ∙ and_no (x == 48)

first_of : (b : Bool) → (b && true) ≡ false → b ≡ false
first_of true h = absurd (false≢true (sym h))
first_of false h = refl

word_some : (bytes : List ℕ) (out : Option ℕ) (cut : Option Fp) → is_zero_block bytes ≡ false → is_word (text_or_zero bytes) out cut ≡ false
unfolding encode_with
word_some [] out cut some = absurd (false≢true (sym some))
word_some (b ∷ []) out cut some = word_one b out cut (first_of (b == 0) some)
word_some (b ∷ (e ∷ bytes)) out cut some =
    word_more (slice_index lower_digits (b / 16)) (slice_index lower_digits (b % 16)) (slice_index lower_digits (e / 16)) (slice_index lower_digits (e % 16) ∷ encode_lower bytes) out cut (no_space (e / 16))

word_is : (block : List ℕ) (out : Option ℕ) (cut : Option Fp) (b : Bool) → is_zero_block block ≡ b → is_word (text_or_zero (without_zeros block)) out cut ≡ b
word_is block out cut true zeros = ap (λ bytes. is_word (text_or_zero bytes) out cut) (zeros_gone block zeros) ∙ word_none out cut
word_is block out cut false some = word_some (without_zeros block) out cut (sym (left_zeros block) ∙ some)

-- the line of a hit says 00 exactly where its block is zeros
pub zeros_told : (block : List ℕ) (out : Option ℕ) (cut : Option Fp) → is_zeros_hit (read_text Hit block out cut) ≡ is_zero_block block
unfolding read_text block_text
zeros_told block out cut = word_is block out cut (is_zero_block block) refl
