-- How long the texts are.
use Rattle.std.proofs.Common.{◌≡◌, ℕ, ◌*◌, List, [], ◌∷◌, length, refl, arith, length-append}
use Rattle.std.specs.List.{AllByRecursion, flat_map}
use Rattle.dd_block.specs.declared.geometry.Geometry.{Geometry}
use Rattle.dd_record.specs.declared.head.Head.{Head}
use Rattle.dd_record.specs.declared.row.ARow.{ARow}
use Rattle.dd_record.specs.declared.row.BRow.{BRow}
use Rattle.dd_record.specs.declared.rec.Rec.{Rec}
use Rattle.dd_record.specs.declared.rec.Rec.TheVariants.{Hit, Link, Store, Zero, Clean}
use Rattle.dd_record.specs.Spelling.{head_text, a_text, b_text, rec_text, IsFp, IsRec}

pub length-head_text : (head : Head) → length (head_text head) ≡ 32
length-head_text head = refl

pub length-b_text : (row : BRow) → IsFp row.fp → length (b_text row) ≡ 36
length-b_text row whole = omega (arith, whole)

pub length-a_text : (row : ARow) → IsFp row.fp → length (a_text row) ≡ 44
length-a_text row whole = omega (arith, whole)

pub length-rec_text : (geo : Geometry) (version : ℕ) (rec : Rec) → IsRec geo version rec → length (rec_text rec) ≡ 48
length-rec_text geo version (Hit address) is = refl
length-rec_text geo version (Link address slot dirty) is = refl
length-rec_text geo version (Store address slot fp dirty) is = omega (arith, is.2)
length-rec_text geo version (Zero address dirty) is = refl
length-rec_text geo version (Clean address) is = refl

-- texts of one length, one behind the other
pub length-flat_map : {X : Type 0} (text : X → List ℕ) (n : ℕ) (xs : List X) → AllByRecursion (λ x. length (text x) ≡ n) xs
    → length (flat_map text xs) ≡ length xs * n
length-flat_map text n [] h = omega arith
length-flat_map text n (x ∷ xs) h =
    let rest = length-flat_map text n xs h.1 in
    omega (arith, length-append (text x) (flat_map text xs), h.0, rest)
