-- Looking along a list of nodes for one that passes a test.
use Rattle.std.proofs.Common.{◌≡◌, ℕ, suc, ◌<◌, ◌==◌, Bool, true, false, List, ◌∷◌, length, sym, ◌∙◌, ap, subst, arith, Option, Some, cond, slice_get}
use Rattle.std.specs.Prelude.{filter}
use Rattle.std.specs.List.{IsDistinct}
use Rattle.dd_lists.specs.Lists.{is_in, behind}
use Rattle.dd_lists.proofs.Found.{behind_in_list}
use Rattle.dd_index.specs.Chains.{from_on}
use Rattle.dd_index.proofs.Under.{behind_on, on_in, on_some}

-- where a look stands: what is left begins with the node, and gives what was sought
pub record IsSought (passes : ℕ → Bool) (chain : List ℕ) (from at : Option ℕ) : Type 0 where
  pub head : at ≡ slice_get (from_on at chain) 0
  pub rest : slice_get (filter passes (from_on at chain)) 0 ≡ slice_get (filter passes (from_on from chain)) 0

module _ {passes : ℕ → Bool} {chain : List ℕ} {from at : Option ℕ} (s : IsSought passes chain from at) where
  pub sought_in : (node : ℕ) → at ≡ Some node → is_in node chain ≡ true
  sought_in node is = on_in at node chain (sym s.head ∙ is)

  module _ (d : IsDistinct (λ x y. x == y) chain) (node : ℕ) (is : at ≡ Some node) where
    on_is : from_on at chain ≡ node ∷ from_on (behind node chain) chain
    on_is = ap (λ o. from_on o chain) is ∙ behind_on node chain d (sought_in node is)

    pub sought_found : passes node ≡ true → slice_get (filter passes (from_on from chain)) 0 ≡ Some node
    sought_found e =
        sym s.rest ∙ ap (λ (l : List ℕ). slice_get (filter passes l) 0) on_is
        ∙ ap (λ b. slice_get (cond b (node ∷ filter passes (from_on (behind node chain) chain)) (filter passes (from_on (behind node chain) chain))) 0) e

    pub sought_on : (next : Option ℕ) → passes node ≡ false → next ≡ behind node chain → IsSought passes chain from next
    sought_on next out next_is =
        let P : Option ℕ → Type 0 = λ o. IsSought passes chain from o in
        subst P (sym next_is) (record {
          head = on_some (behind node chain) chain (λ m e. behind_in_list node m chain e);
          rest =
              sym (ap (λ b. slice_get (cond b (node ∷ filter passes (from_on (behind node chain) chain)) (filter passes (from_on (behind node chain) chain))) 0) out)
              ∙ sym (ap (λ (l : List ℕ). slice_get (filter passes l) 0) on_is) ∙ s.rest;
        })

    pub sought_less : (next : Option ℕ) → next ≡ behind node chain → length (from_on next chain) < length (from_on at chain)
    sought_less next next_is =
        let a : length (from_on at chain) ≡ suc (length (from_on (behind node chain) chain)) = ap (λ (l : List ℕ). length l) on_is in
        let b : length (from_on next chain) ≡ length (from_on (behind node chain) chain) = ap (λ o. length (from_on o chain)) next_is in
        omega arith
