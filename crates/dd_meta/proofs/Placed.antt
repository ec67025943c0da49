-- Where a node stands among the referrers and those that wait, told by its row.
use Rattle.std.proofs.Common.{◌≡◌, ◌↔◌, ℕ, Bool, true, false, List, sym, refl, ◌∙◌, ap, length, Option, Some, None, is_some}
use Rattle.std.specs.Prelude.{unwrap_or, ◌&&◌}
use Rattle.std.proofs.lemmas.Bool.{eqb-true, eq-eqb, both_ways}
use Rattle.dd_record.specs.declared.row.ARow.{ARow}
use Rattle.dd_lists.specs.Lists.{is_in, is_listed, list_at}
use Rattle.dd_lists.specs.Nodes.{Nodes, is_live}
use Rattle.dd_lists.proofs.Members.{listed_from, unlisted_from}
use Rattle.dd_index.specs.Index.{Index}
use Rattle.dd_meta.specs.Entries.{blank}
use Rattle.dd_meta.specs.Matching.{row_at, listed, home_of, is_home, waiting_by, IsHome, IsPlaced, Matches}
use Rattle.dd_meta.proofs.Waiting.{one_list, waits_already, waits_not}

pub some_is : (o : Option ARow) → is_some o ≡ true → o ≡ Some (unwrap_or o blank)
some_is None h = absurd (both_ways false refl h)
some_is (Some row) h = refl

-- each node does that is live
module _ {acap slots : ℕ} {nodes : Nodes ARow} {index : Index} (k : Matches acap slots nodes index) (node : ℕ) (live : is_live node nodes ≡ true) where
  here : is_in node (listed nodes) ≡ true
  here = sym (k.live node) ∙ live

  pub placed_is : IsPlaced slots node nodes
  placed_is = record {
    below = k.below node here;
    referring = λ list. k.referring list node ∙ ap (λ b. b && is_home list (home_of slots (row_at nodes node))) here;
    waits = k.waits node ∙ ap (λ b. b && (row_at nodes node).dirty) here;
  }

-- in the list of its home, and in none without one
pub at_home : (home : ℕ) (node : ℕ) (lists : List (List ℕ)) → IsHome (Some home) node lists → is_listed node lists ≡ true
at_home home node lists is = listed_from node home lists (is home ∙ eq-eqb home home refl)

pub homeless : (node : ℕ) (lists : List (List ℕ)) → IsHome None node lists → is_listed node lists ≡ false
homeless node lists is = unlisted_from node lists is

-- one home alone is this list
only_home : (list other : ℕ) (home : Option ℕ) → is_home list home ≡ true → (Some list ≡ Some other) ↔ (is_home other home ≡ true)
only_home list other None here = absurd (both_ways false refl here)
only_home list other (Some home) here = (λ same. eq-eqb home other (eqb-true home list here ∙ got list other same), λ there. ap Some (sym (eqb-true home list here) ∙ eqb-true home other there))
  where
    got : (a b : ℕ) → Some a ≡ Some b → a ≡ b
    got a b e = cc

pub only_here : (list : ℕ) (home : Option ℕ) (node : ℕ) (lists : List (List ℕ)) → IsHome home node lists → is_home list home ≡ true → (other : ℕ) → (Some list ≡ Some other) ↔ (is_in node (list_at other lists) ≡ true)
only_here list home node lists is here other = let only = only_home list other home here in (λ same. is other ∙ only.0 same, λ there. only.1 (sym (is other) ∙ there))

-- a node stays among those that wait, or apart from them
pub wait_same : (waits dirty : Bool) (node : ℕ) (lists : List (List ℕ)) → length lists ≡ 1 → is_in node (list_at 0 lists) ≡ waits → waits ≡ dirty → waiting_by dirty node lists ≡ lists
wait_same waits true node lists one there same = waits_already true node lists refl (one_list node lists one ∙ there ∙ same)
wait_same waits false node lists one there same = waits_not false node lists refl (one_list node lists one ∙ there ∙ same)
