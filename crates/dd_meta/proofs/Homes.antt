-- The referrers after a node is to stand in one list of them.
use Rattle.std.proofs.Common.{◌≡◌, ◌≢◌, inl, inr, ℕ, ◌+◌, ◌<◌, ◌==◌, not, Bool, true, false, List, ◌∷◌, length, refl, sym, ◌∙◌, ap, subst, arith, Option, Some, None, cond, IfSome}
use Rattle.std.specs.Prelude.{◌&&◌, ◌||◌}
use Rattle.std.specs.List.{IsDistinct}
use Rattle.std.proofs.lemmas.Bool.{eq-eqb, ne_eqb, cases_eq}
use Rattle.std.proofs.lemmas.List.{length-set, length-map}
use Rattle.dd_record.specs.declared.row.Link.{Link}
use Rattle.dd_record.specs.declared.row.Link.TheVariants.{Lost, Slot, Zero}
use Rattle.dd_record.specs.Table.{is_slot}
use Rattle.dd_lists.specs.Lists.{is_in, list_at, without, put_front, taken_out}
use Rattle.dd_lists.proofs.Members.{in_here, in_without_other, gone, distinct_without, distinct_front, at_taken, at_put, at_put_other}
use Rattle.dd_meta.specs.Matching.{IsBelow, home_by, is_home, referring_by}

pub home_size : (home : Option ℕ) (node : ℕ) (lists : List (List ℕ)) → length (referring_by home node lists) ≡ length lists
home_size None node lists = length-map lists (without node)
home_size (Some home) node lists = length-set (taken_out node lists) home (node ∷ list_at home (taken_out node lists)) ∙ length-map lists (without node)

pub home_list : (home : Option ℕ) (node list : ℕ) (lists : List (List ℕ)) → IfSome home (λ l. l < length lists)
    → list_at list (referring_by home node lists) ≡ cond (is_home list home) (node ∷ without node (list_at list lists)) (without node (list_at list lists))
home_list None node list lists low = at_taken node list lists
home_list (Some home) node list lists low =
    elim (cases_eq list home) [
      | inl same ↦
          ap (λ l. list_at l (put_front home node (taken_out node lists))) same ∙ at_put home node (taken_out node lists) within
          ∙ ap (λ (xs : List ℕ). node ∷ xs) (at_taken node home lists) ∙ ap (λ l. node ∷ without node (list_at l lists)) (sym same)
          ∙ sym (ap (λ b. cond b (node ∷ without node (list_at list lists)) (without node (list_at list lists))) (eq-eqb home list (sym same)))
      | inr other ↦
          at_put_other home node list (taken_out node lists) other ∙ at_taken node list lists
          ∙ sym (ap (λ b. cond b (node ∷ without node (list_at list lists)) (without node (list_at list lists))) (ne_eqb home list (λ e. other (sym e))))
    ]
  where
    within : home < length (taken_out node lists)
    within = subst (λ (m : ℕ). home < m) (sym (length-map lists (without node))) low

-- a list with a number in front, or without it
pub put_it : (b : Bool) (node : ℕ) (xs : List ℕ) → is_in node (cond b (node ∷ without node xs) (without node xs)) ≡ b
put_it true node xs = in_here node (without node xs)
put_it false node xs = gone node xs

pub put_rest : (b : Bool) (node n : ℕ) (xs : List ℕ) → n ≢ node → is_in n (cond b (node ∷ without node xs) (without node xs)) ≡ is_in n xs
put_rest true node n xs other = ap (λ t. t || is_in n (without node xs)) (ne_eqb n node other) ∙ in_without_other n node xs (λ same. other (sym same))
put_rest false node n xs other = in_without_other n node xs (λ same. other (sym same))

pub put_once : (b : Bool) (node : ℕ) (xs : List ℕ) → IsDistinct (λ x y. x == y) xs → IsDistinct (λ x y. x == y) (cond b (node ∷ without node xs) (without node xs))
put_once true node xs once = distinct_front node (without node xs) (gone node xs) (distinct_without node xs once)
put_once false node xs once = distinct_without node xs once

-- where a row is at home
pub home_low : (slots : ℕ) (dirty : Bool) (link : Link) → IsBelow slots link → IfSome (home_by slots dirty link) (λ l. l < slots + slots)
home_low slots dirty Lost below = tt
home_low slots dirty Zero below = tt
home_low slots true (Slot slot) below = omega arith
home_low slots false (Slot slot) below = omega arith

and_no : (b : Bool) → (b && false) ≡ false
and_no true = refl
and_no false = refl

pub dirty_home : (slots slot : ℕ) (dirty : Bool) (link : Link) → slot < slots → is_home slot (home_by slots dirty link) ≡ (dirty && is_slot slot link)
dirty_home slots slot dirty Lost low = sym (and_no dirty)
dirty_home slots slot dirty Zero low = sym (and_no dirty)
dirty_home slots slot true (Slot other) low = refl
dirty_home slots slot false (Slot other) low = ne_eqb (slots + other) slot (λ e. absurd (omega arith))

pub clean_home : (slots slot : ℕ) (dirty : Bool) (link : Link) → IsBelow slots link → is_home (slots + slot) (home_by slots dirty link) ≡ (not dirty && is_slot slot link)
clean_home slots slot dirty Lost below = sym (and_no (not dirty))
clean_home slots slot dirty Zero below = sym (and_no (not dirty))
clean_home slots slot true (Slot other) below = ne_eqb other (slots + slot) (λ e. absurd (omega arith))
clean_home slots slot false (Slot other) below =
    elim (cases_eq other slot) [
      | inl same ↦ eq-eqb (slots + other) (slots + slot) (ap (λ n. slots + n) same) ∙ sym (eq-eqb other slot same)
      | inr differs ↦ ne_eqb (slots + other) (slots + slot) (λ e. differs (omega arith)) ∙ sym (ne_eqb other slot differs)
    ]

-- no slot behind the last is linked to
pub no_slot : (slots slot : ℕ) (link : Link) → IsBelow slots link → (slot < slots → ⊥) → is_slot slot link ≡ false
no_slot slots slot Lost below past = refl
no_slot slots slot Zero below past = refl
no_slot slots slot (Slot other) below past = ne_eqb other slot (λ e. past (subst (λ (n : ℕ). n < slots) e below))
