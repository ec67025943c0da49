-- Where the first byte of a text that is no digit stands.
use Rattle.std.proofs.Common.{◌≡◌, ◌*◌, ◌<◌, ◌+◌, ℕ, List, length, sym, ◌∙◌, ap, arith, inl, inr}
use Rattle.std.specs.Prelude.{Result, Ok, Err, MatchResult}
use Rattle.hex.specs.Hex.{decode_sized}
use Rattle.hex.specs.declared.error.FromHexError.{FromHexError}
use Rattle.hex.specs.declared.error.FromHexError.TheVariants.{InvalidHexCharacter, OddLength, InvalidStringLength, OutOfMemory}
use Rattle.hex.proofs.HexLemmas.{decode_of-err, decode_sized-twice}

-- what a call's error says of what the text decodes to
error_is : (d : Result (List ℕ) FromHexError) (r : Result Unit FromHexError) (out : List ℕ) (e : FromHexError)
    → MatchResult d (λ bytes. (r ≡ Ok tt) × (out ≡ bytes)) (λ e. r ≡ Err e) → r ≡ Err e → d ≡ Err e
error_is (Ok bytes) r out e h is = absurd (cc (h.0, is))
error_is (Err f) r out e h is = cc (sym h ∙ is)

place_of : FromHexError → ℕ
place_of (InvalidHexCharacter c at) = at
place_of OddLength = 0
place_of InvalidStringLength = 0
place_of OutOfMemory = 0

-- it stands in the text
pub digit_place : (text : List ℕ) (n c at : ℕ) (r : Result Unit FromHexError) (out : List ℕ) → length text ≡ 2 * n
    → MatchResult (decode_sized text n) (λ bytes. (r ≡ Ok tt) × (out ≡ bytes)) (λ e. r ≡ Err e)
    → r ≡ Err (InvalidHexCharacter c at) → at < length text
unfolding place_of
digit_place text n c at r out long h is =
    let refused = sym (decode_sized-twice text n long) ∙ error_is (decode_sized text n) r out (InvalidHexCharacter c at) h is in
    elim (decode_of-err text (InvalidHexCharacter c at) refused) [
      | inl odd ↦ absurd (omega (arith, odd.0))
      | inr digit ↦
          let same : at ≡ 0 + digit.0 = ap place_of digit.1 in
          omega (arith, same, digit.2)
    ]
