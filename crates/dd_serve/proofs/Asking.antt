-- Words ask for one thing.
use Rattle.std.specs.Prelude.{Option, if◌then◌else◌, codes, get_or}
use Rattle.std.specs.Str.{bytes_eq}
use Rattle.std.proofs.Common.{◌≡◌, ◌≢◌, ℕ, true, false, List, [], ◌∷◌, length, refl, sym, ◌∙◌, Some, None, ap, arith}
use Rattle.dd_block.specs.declared.geometry.Geometry.{Geometry}
use Rattle.dd_block.proofs.Geometries.{same_geometry}
use Rattle.dd_serve.specs.declared.words.Plan.{Plan}
use Rattle.dd_serve.specs.declared.words.Load.{Load}
use Rattle.dd_serve.specs.declared.words.Asked.{Asked}
use Rattle.dd_serve.specs.declared.words.Asked.TheVariants.{Replay, Format, Serve, Gen}
use Rattle.dd_serve.specs.Words.{is_serve, load_of, load_of_numbers, plan_of, plan_of_numbers, AsksFor, AsksFormat, AsksNoFormat}

-- a replay has four words
four_words : (words : List (List ℕ)) (plan : Plan) → plan_of words ≡ Some plan → length words ≡ 4
four_words [] plan e = absurd (cc)
four_words (a ∷ []) plan e = absurd (cc)
four_words (a ∷ b ∷ []) plan e = absurd (cc)
four_words (a ∷ b ∷ d ∷ []) plan e = absurd (cc)
four_words (a ∷ b ∷ d ∷ f ∷ []) plan e = refl
four_words (a ∷ b ∷ d ∷ f ∷ g ∷ words) plan e = absurd (cc)

same_plan : (words : List (List ℕ)) (p q : Plan) → plan_of words ≡ Some p → plan_of words ≡ Some q → Replay p ≡ Replay q
same_plan words p q h k = cc

some_same : (o : Option ℕ) (m n : ℕ) → o ≡ Some m → o ≡ Some n → m ≡ n
some_same o m n h k = cc

same_numbers : (words : List (List ℕ)) (g h : Geometry) → AsksFormat words g → AsksFormat words h → g ≡ h
same_numbers words g h a b = same_geometry g h
    (some_same _ _ _ a.block b.block) (some_same _ _ _ a.blocks b.blocks) (some_same _ _ _ a.acap b.acap) (some_same _ _ _ a.bcap b.bcap)
    (some_same _ _ _ a.spare b.spare) (some_same _ _ _ a.group b.group) (some_same _ _ _ a.log b.log)

-- `serve` is one word
one_of : (words : List (List ℕ)) → is_serve words ≡ true → length words ≡ 1
one_of [] e = absurd (cc)
one_of (a ∷ []) e = refl
one_of (a ∷ b ∷ words) e = absurd (cc)

-- a generated run has three words
three_words : (words : List (List ℕ)) (load : Load) → load_of words ≡ Some load → length words ≡ 3
three_words [] load e = absurd (cc)
three_words (a ∷ []) load e = absurd (cc)
three_words (a ∷ b ∷ []) load e = absurd (cc)
three_words (a ∷ b ∷ d ∷ []) load e = refl
three_words (a ∷ b ∷ d ∷ f ∷ words) load e = absurd (cc)

same_load : (words : List (List ℕ)) (p q : Load) → load_of words ≡ Some p → load_of words ≡ Some q → Gen p ≡ Gen q
same_load words p q h k = cc

-- how many words ask for it
abbrev count_for : Asked → ℕ
count_for (Replay plan) = 4
count_for (Format geo) = 8
count_for Serve = 1
count_for (Gen load) = 3

counts_words : (words : List (List ℕ)) (asked : Asked) → AsksFor words asked → length words ≡ count_for asked
counts_words words (Replay plan) h = four_words words plan h
counts_words words (Format geo) h = h.eight
counts_words words Serve h = one_of words h
counts_words words (Gen load) h = three_words words load h

pub same_asked : (words : List (List ℕ)) (one other : Asked) → AsksFor words one → AsksFor words other → one ≡ other
same_asked words one other h k = by_count one other h k (sym (counts_words words one h) ∙ counts_words words other k)
  where
    by_count : (one other : Asked) → AsksFor words one → AsksFor words other → count_for one ≡ count_for other → one ≡ other
    by_count (Replay p) (Replay q) h k same = same_plan words p q h k
    by_count (Replay p) (Format g) h k same = absurd (omega (arith, same))
    by_count (Replay p) Serve h k same = absurd (omega (arith, same))
    by_count (Replay p) (Gen load) h k same = absurd (omega (arith, same))
    by_count (Format g) (Replay p) h k same = absurd (omega (arith, same))
    by_count (Format g) (Format f) h k same = ap Format (same_numbers words g f h k)
    by_count (Format g) Serve h k same = absurd (omega (arith, same))
    by_count (Format g) (Gen load) h k same = absurd (omega (arith, same))
    by_count Serve (Replay p) h k same = absurd (omega (arith, same))
    by_count Serve (Format g) h k same = absurd (omega (arith, same))
    by_count Serve Serve h k same = refl
    by_count Serve (Gen load) h k same = absurd (omega (arith, same))
    by_count (Gen load) (Replay p) h k same = absurd (omega (arith, same))
    by_count (Gen load) (Format g) h k same = absurd (omega (arith, same))
    by_count (Gen load) Serve h k same = absurd (omega (arith, same))
    by_count (Gen p) (Gen q) h k same = same_load words p q h k

-- what four words ask for
pub plan_words : (words : List (List ℕ)) → length words ≡ 4 → plan_of words ≡ (if bytes_eq (get_or words 0 []) (codes "replay") then plan_of_numbers (get_or words 1 []) (get_or words 2 []) (get_or words 3 []) else None)
plan_words [] e = absurd (omega (arith, e))
plan_words (a ∷ []) e = absurd (omega (arith, e))
plan_words (a ∷ b ∷ []) e = absurd (omega (arith, e))
plan_words (a ∷ b ∷ d ∷ []) e = absurd (omega (arith, e))
plan_words (a ∷ b ∷ d ∷ f ∷ []) e = refl
plan_words (a ∷ b ∷ d ∷ f ∷ g ∷ words) e = absurd (omega (arith, e))

-- what three words ask for
pub load_words : (words : List (List ℕ)) → length words ≡ 3 → load_of words ≡ (if bytes_eq (get_or words 0 []) (codes "gen") then load_of_numbers (get_or words 1 []) (get_or words 2 []) else None)
load_words [] e = absurd (omega (arith, e))
load_words (a ∷ []) e = absurd (omega (arith, e))
load_words (a ∷ b ∷ []) e = absurd (omega (arith, e))
load_words (a ∷ b ∷ d ∷ []) e = refl
load_words (a ∷ b ∷ d ∷ f ∷ words) e = absurd (omega (arith, e))

pub no_load : (words : List (List ℕ)) → length words ≢ 3 → load_of words ≡ None
no_load [] e = refl
no_load (a ∷ []) e = refl
no_load (a ∷ b ∷ []) e = refl
no_load (a ∷ b ∷ d ∷ []) e = absurd (e refl)
no_load (a ∷ b ∷ d ∷ f ∷ words) e = refl

-- words that ask for none of them ask for nothing
pub asks_nothing : (words : List (List ℕ)) → is_serve words ≡ false → load_of words ≡ None → plan_of words ≡ None → AsksNoFormat words → (asked : Asked) → AsksFor words asked → ⊥
asks_nothing words none_serve none_load none_plan no_format (Replay p) h = absurd (cc (none_plan, h))
asks_nothing words none_serve none_load none_plan no_format (Format g) h = no_format g h
asks_nothing words none_serve none_load none_plan no_format Serve h = absurd (cc (none_serve, h))
asks_nothing words none_serve none_load none_plan no_format (Gen load) h = absurd (cc (none_load, h))

-- what one word asks for
pub one_word : (words : List (List ℕ)) → length words ≡ 1 → is_serve words ≡ bytes_eq (get_or words 0 []) (codes "serve")
one_word [] e = absurd (omega (arith, e))
one_word (a ∷ []) e = refl
one_word (a ∷ b ∷ words) e = absurd (omega (arith, e))

pub other_words : (words : List (List ℕ)) → length words ≢ 1 → is_serve words ≡ false
other_words [] e = refl
other_words (a ∷ []) e = absurd (e refl)
other_words (a ∷ b ∷ words) e = refl
