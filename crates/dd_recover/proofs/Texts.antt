-- The texts that a format writes.
use Rattle.std.proofs.Common.{◌≡◌, ℕ, ◌+◌, List, [], ◌∷◌, ◌++◌, length, take, drop, refl, sym, ◌∙◌, ap, subst, arith}
use Rattle.std.proofs.lemmas.List.{take_all}
use Rattle.dd_block.specs.declared.geometry.Geometry.{Geometry}
use Rattle.dd_layout.specs.Super.{super_text}
use Rattle.dd_record.specs.Spelling.{head_text}
use Rattle.dd_recover.specs.Formatting.{first_head, first_text}
use Rattle.dd_recover.specs.Writing.{super_body}

-- three pieces, one behind the other
pub first_text_is : (head one two three : List ℕ) → head ≡ head_text first_head → take 1 one ≡ 1 ∷ [] → take (1 + length head) two ≡ take 1 one ++ head
    → take 34 three ≡ take 33 two ++ 0 ∷ [] → length three ≡ 34 → three ≡ first_text
first_text_is head one two three head_is first second third long =
    let whole : take 33 two ≡ (1 ∷ []) ++ head_text first_head =
    subst (λ (h : List ℕ). take (1 + length h) two ≡ (1 ∷ []) ++ h) head_is (second ∙ ap (λ (l : List ℕ). l ++ head) first) in
    sym (take_all 34 three (omega arith)) ∙ third ∙ ap (λ (l : List ℕ). l ++ 0 ∷ []) whole

-- all of a superblock but its gate
pub super_body_is : (geo : Geometry) (text : List ℕ) → text ≡ super_text geo → take 63 (drop 1 text) ≡ super_body geo
unfolding super_body
super_body_is geo text is = ap (λ (t : List ℕ). take 63 (drop 1 t)) is

pub length-super_body : (geo : Geometry) → length (super_body geo) ≡ 63
unfolding super_body
length-super_body geo = refl

-- the superblock is its gate and that
pub super_text_is : (geo : Geometry) → super_text geo ≡ 1 ∷ super_body geo
unfolding super_body
super_text_is geo = refl
