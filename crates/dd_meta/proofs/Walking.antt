-- Walks along the dirty addresses: by age, and those of a slot.
use Rattle.std.proofs.Common.{◌≡◌, inl, inr, ℕ, ◌<◌, ◌==◌, Bool, true, false, List, map, refl, sym, ◌∙◌, ap, subst, Option, Some, None, cond, reverse, slice_get, IfSome, is_some}
use Rattle.std.specs.Prelude.{option_map}
use Rattle.std.specs.List.{IsDistinct}
use Rattle.std.proofs.lemmas.Bool.{eq-eqb, ne_eqb, eqb-true, cases_eq, and_parts}
use Rattle.std.proofs.lemmas.Option.{slice_get-map}
use Rattle.dd_record.specs.declared.row.ARow.{ARow}
use Rattle.dd_record.specs.Listed.{row_behind}
use Rattle.dd_lists.specs.Lists.{is_in, is_listed, list_at, behind, before}
use Rattle.dd_lists.specs.Nodes.{Nodes}
use Rattle.dd_lists.proofs.Members.{listed_from}
use Rattle.dd_lists.proofs.Found.{first_in_list, behind_in_list}
use Rattle.dd_index.specs.Index.{Index, nodes_of}
use Rattle.dd_meta.specs.Entries.{Meta, node_of, owed_to, row_of}
use Rattle.dd_meta.specs.Matching.{address_of, listed, waiting, shown, Matches, passing}
use Rattle.dd_meta.specs.Walks.{but, next_of}
use Rattle.dd_meta.proofs.Numbers.{map_in, in_reverse}
use Rattle.dd_meta.proofs.Owed.{owed_low}
use Rattle.dd_meta.proofs.Rows.{found_some, none_has}
use Rattle.dd_meta.proofs.Stepping.{turn, behind_map, before_is, past, first_but, next_but, map_distinct, mapped_from, but_in}

pub list_listed : (o : Option ℕ) (list : ℕ) (lists : List (List ℕ)) → ((n : ℕ) → o ≡ Some n → is_in n (list_at list lists) ≡ true) → IfSome o (λ n. is_listed n lists ≡ true)
list_listed None list lists inside = tt
list_listed (Some n) list lists inside = listed_from n list lists (inside n refl)

some_in : (o : Option ℕ) (xs : List ℕ) → ((n : ℕ) → o ≡ Some n → is_in n xs ≡ true) → IfSome o (λ n. is_in n xs ≡ true)
some_in None xs inside = tt
some_in (Some n) xs inside = inside n refl

module _ {acap slots : ℕ} {nodes : Nodes ARow} {index : Index} (k : Matches acap slots nodes index) where
  pub find_live : (address : ℕ) (o : Option ℕ) → o ≡ node_of address (shown acap slots nodes) → (now : Meta) → shown acap slots nodes ≡ now → IfSome o (λ node. is_some (row_of node now) ≡ true)
  find_live address None is now same = tt
  find_live address (Some n) is now same = sym (ap (λ (m : Meta). is_some (row_of n m)) same) ∙ found_some k address n (sym is)

  -- listed nodes are told apart by their addresses
  node_apart : (node m : ℕ) → is_in node (listed nodes) ≡ true → is_in m (listed nodes) ≡ true → (address_of nodes m == address_of nodes node) ≡ (node == m)
  node_apart node m here there =
      elim (cases_eq node m) [
        | inl same ↦ eq-eqb _ _ (ap (address_of nodes) (sym same)) ∙ sym (eq-eqb node m same)
        | inr other ↦ ne_eqb _ _ (λ e. other (k.single node m here there (sym e))) ∙ sym (ne_eqb node m other)
      ]

  module _ (xs : List ℕ) (inside : (m : ℕ) → is_in m xs ≡ true → is_in m (listed nodes) ≡ true) where
    pub mapped_once : IsDistinct (λ x y. x == y) xs → IsDistinct (λ x y. x == y) (map (address_of nodes) xs)
    mapped_once d = map_distinct (address_of nodes) xs (λ n m h g e. k.single n m (inside n h) (inside m g) e) d

    -- an address of them is that of a node that the index finds
    pub never_none : (address key : ℕ) (o : Option ℕ) → o ≡ slice_get (nodes_of key index) 0 → key ≡ address → o ≡ None → is_in address (map (address_of nodes) xs) ≡ true → ⊥
    never_none address key o first same is there =
        let found = mapped_from (address_of nodes) address xs there in
        none_has k address key found.0 o first same is (inside found.0 found.1) found.2

    module _ (node address : ℕ) (here : is_in node (listed nodes) ≡ true) (own : address_of nodes node ≡ address) where
      pub mapped_in : is_in address (map (address_of nodes) xs) ≡ true → is_in node xs ≡ true
      mapped_in there =
          sym (map_in (address_of nodes) address node xs (λ m h. turn address (address_of nodes m) ∙ ap (λ a. address_of nodes m == a) (sym own) ∙ node_apart node m here (inside m h)))
          ∙ there

      pub mapped_behind : is_in node xs ≡ true → option_map (address_of nodes) (behind node xs) ≡ row_behind (λ other. other == address) (map (address_of nodes) xs)
      mapped_behind there =
          behind_map (address_of nodes) node xs there (λ m h. node_apart node m here (inside m h))
          ∙ ap (λ a. row_behind (λ other. other == a) (map (address_of nodes) xs)) own

  pub wait_inside : (m : ℕ) → is_in m (reverse (waiting nodes)) ≡ true → is_in m (listed nodes) ≡ true
  wait_inside m h = (and_parts _ _ (sym (k.waits m) ∙ sym (in_reverse m (waiting nodes)) ∙ h)).0

  -- by age
  pub waits_node : (node address : ℕ) → is_in node (listed nodes) ≡ true → address_of nodes node ≡ address → is_in address (shown acap slots nodes).dirty ≡ true → is_in node (waiting nodes) ≡ true
  waits_node node address here own there = sym (in_reverse node (waiting nodes)) ∙ mapped_in (reverse (waiting nodes)) wait_inside node address here own there

  pub waits_next : (node address : ℕ) → is_in node (listed nodes) ≡ true → address_of nodes node ≡ address → is_in address (shown acap slots nodes).dirty ≡ true
      → option_map (address_of nodes) (before node (waiting nodes)) ≡ next_of (Some address) (shown acap slots nodes).dirty
  waits_next node address here own there =
      let inside = waits_node node address here own there in
      ap (option_map (address_of nodes)) (before_is node (waiting nodes) k.once inside)
      ∙ mapped_behind (reverse (waiting nodes)) wait_inside node address here own (in_reverse node (waiting nodes) ∙ inside)

  pub waits_some : (address key : ℕ) (o : Option ℕ) → o ≡ slice_get (nodes_of key index) 0 → key ≡ address → o ≡ None → is_in address (shown acap slots nodes).dirty ≡ true → ⊥
  waits_some address key o first same is there = never_none (reverse (waiting nodes)) wait_inside address key o first same is there

  -- those of a slot
  module _ (slot : ℕ) (low : slot < slots) where
    pub owed_inside : (m : ℕ) → is_in m (list_at slot nodes.referrers) ≡ true → is_in m (listed nodes) ≡ true
    owed_inside m h = (and_parts _ _ (sym (k.referring slot m) ∙ h)).0

    is_owed : owed_to slot (shown acap slots nodes) ≡ map (address_of nodes) (list_at slot nodes.referrers)
    is_owed = owed_low acap slots nodes k.two slot low

    pub owed_once : IsDistinct (λ x y. x == y) (owed_to slot (shown acap slots nodes))
    owed_once = subst (λ (l : List ℕ). IsDistinct (λ x y. x == y) l) (sym is_owed) (mapped_once (list_at slot nodes.referrers) owed_inside (k.each_once slot))

    pub owed_node : (node address : ℕ) → is_in node (listed nodes) ≡ true → address_of nodes node ≡ address → is_in address (owed_to slot (shown acap slots nodes)) ≡ true → is_in node (list_at slot nodes.referrers) ≡ true
    owed_node node address here own there = mapped_in (list_at slot nodes.referrers) owed_inside node address here own (sym (ap (is_in address) is_owed) ∙ there)

    pub owed_some : (address key : ℕ) (o : Option ℕ) → o ≡ slice_get (nodes_of key index) 0 → key ≡ address → o ≡ None → is_in address (owed_to slot (shown acap slots nodes)) ≡ true → ⊥
    owed_some address key o first same is there = never_none (list_at slot nodes.referrers) owed_inside address key o first same is (sym (ap (is_in address) is_owed) ∙ there)

    -- a node, or the one behind it, shows the step past an address
    passing_is : (skip : ℕ) (o : Option ℕ) → ((n : ℕ) → o ≡ Some n → is_in n (list_at slot nodes.referrers) ≡ true)
        → option_map (address_of nodes) (passing nodes skip o (list_at slot nodes.referrers)) ≡ past skip (owed_to slot (shown acap slots nodes)) (option_map (address_of nodes) o)
    passing_is skip None inside = refl
    passing_is skip (Some n) inside = step (address_of nodes n == skip) refl
      where
        step : (b : Bool) → (address_of nodes n == skip) ≡ b
            → option_map (address_of nodes) (cond b (behind n (list_at slot nodes.referrers)) (Some n)) ≡ cond b (row_behind (λ other. other == skip) (owed_to slot (shown acap slots nodes))) (Some (address_of nodes n))
        step false e = refl
        step true e =
            mapped_behind (list_at slot nodes.referrers) owed_inside n skip (owed_inside n (inside n refl)) (eqb-true _ _ e) (inside n refl)
            ∙ ap (row_behind (λ other. other == skip)) (sym is_owed)

    module _ (skip : ℕ) (at result : Option ℕ)
        (told : (list : ℕ) → IfSome at (λ node. is_in node (list_at list nodes.referrers) ≡ true) → result ≡ option_map (address_of nodes) (passing nodes skip at (list_at list nodes.referrers))) where
      pub owed_first : at ≡ slice_get (list_at slot nodes.referrers) 0 → result ≡ next_of None (but skip (owed_to slot (shown acap slots nodes)))
      owed_first first =
          let inside : (n : ℕ) → at ≡ Some n → is_in n (list_at slot nodes.referrers) ≡ true = λ n e. first_in_list n (list_at slot nodes.referrers) (sym first ∙ e) in
          told slot (some_in at (list_at slot nodes.referrers) inside)
          ∙ passing_is skip at inside
          ∙ ap (past skip (owed_to slot (shown acap slots nodes)))
          (ap (option_map (address_of nodes)) first ∙ sym (slice_get-map (address_of nodes) (list_at slot nodes.referrers) 0) ∙ ap (λ l. slice_get l 0) (sym is_owed))
          ∙ sym (first_but skip (owed_to slot (shown acap slots nodes)) owed_once)

      pub owed_next : (node address : ℕ) → is_in node (listed nodes) ≡ true → address_of nodes node ≡ address → is_in address (but skip (owed_to slot (shown acap slots nodes))) ≡ true
          → at ≡ behind node (list_at slot nodes.referrers) → result ≡ next_of (Some address) (but skip (owed_to slot (shown acap slots nodes)))
      owed_next node address here own there next =
          let found = but_in address skip (owed_to slot (shown acap slots nodes)) there in
          let inside : (n : ℕ) → at ≡ Some n → is_in n (list_at slot nodes.referrers) ≡ true = λ n e. behind_in_list node n (list_at slot nodes.referrers) (sym next ∙ e) in
          told slot (some_in at (list_at slot nodes.referrers) inside)
          ∙ passing_is skip at inside
          ∙ ap (past skip (owed_to slot (shown acap slots nodes)))
          (ap (option_map (address_of nodes)) next ∙ mapped_behind (list_at slot nodes.referrers) owed_inside node address here own (owed_node node address here own found.0) ∙ ap (row_behind (λ other. other == address)) (sym is_owed))
          ∙ sym (next_but address skip (owed_to slot (shown acap slots nodes)) owed_once found.1)
