-- Those that wait, after a node is to wait or not.
use Rattle.std.proofs.Common.{◌≡◌, ◌≢◌, inl, inr, ℕ, ◌==◌, not, Bool, true, false, List, [], ◌∷◌, ◌++◌, length, map, refl, sym, ◌∙◌, ap, subst, arith, Some, cond, reverse}
use Rattle.std.specs.Prelude.{◌||◌, unwrap_or}
use Rattle.std.specs.List.{IsDistinct}
use Rattle.std.proofs.lemmas.Bool.{eq-eqb, ne_eqb, cases_eq, both_ways, and_parts}
use Rattle.std.proofs.lemmas.List.{length-set, length-map, map-append}
use Rattle.dd_record.specs.declared.row.ARow.{ARow}
use Rattle.dd_lists.specs.Lists.{is_in, is_listed, list_at, without, put_front, taken_out}
use Rattle.dd_lists.specs.Nodes.{Nodes, value_at, is_live}
use Rattle.dd_lists.proofs.Members.{in_here, in_without_other, gone, distinct_without, distinct_front, at_taken, at_put}
use Rattle.dd_index.specs.Index.{Index}
use Rattle.dd_meta.specs.Entries.{blank, with_dirty}
use Rattle.dd_meta.specs.Matching.{row_at, address_of, listed, waiting, waiting_by, shown, Matches}
use Rattle.dd_meta.proofs.Numbers.{rev_cons, rev_filter, or_false, in_reverse, map_in, map_without, taken_none}

pub one_list : (node : ℕ) (lists : List (List ℕ)) → length lists ≡ 1 → is_listed node lists ≡ is_in node (list_at 0 lists)
one_list node [] e = absurd (omega arith)
one_list node (xs ∷ []) e = or_false (is_in node xs)
one_list node (xs ∷ ys ∷ rest) e = absurd (omega arith)

-- the node waits now where it is to, the others as before; and the addresses that they have
pub record Waits (nodes : Nodes ARow) (node address : ℕ) (b : Bool) (dirty : List ℕ) (w : List (List ℕ)) : Type 0 where
  pub one : length w ≡ 1
  pub it : is_in node (list_at 0 w) ≡ b
  pub rest : (n : ℕ) → n ≢ node → is_in n (list_at 0 w) ≡ is_in n (waiting nodes)
  pub once : IsDistinct (λ x y. x == y) (list_at 0 w)
  pub addresses : map (address_of nodes) (reverse (list_at 0 w)) ≡ cond b (with_dirty address dirty) (without address dirty)

module _ {acap slots : ℕ} {nodes : Nodes ARow} {index : Index} (k : Matches acap slots nodes index) (node : ℕ) (live : is_live node nodes ≡ true) (old : ARow) (value : value_at node nodes ≡ Some old) where
  pub here : is_in node (listed nodes) ≡ true
  here = sym (k.live node) ∙ live

  pub row_old : row_at nodes node ≡ old
  row_old = ap (λ o. unwrap_or o blank) value

  -- its address tells a node apart from each other one
  pub tells : (m : ℕ) → is_in m (listed nodes) ≡ true → (old.address == address_of nodes m) ≡ (node == m)
  tells m there =
      elim (cases_eq node m) [
        | inl same ↦ eq-eqb _ _ (sym (ap (λ (r : ARow). r.address) row_old) ∙ ap (address_of nodes) same) ∙ sym (eq-eqb node m same)
        | inr other ↦ ne_eqb _ _ (λ e. other (k.single node m here there (ap (λ (r : ARow). r.address) row_old ∙ e))) ∙ sym (ne_eqb node m other)
      ]

  abbrev W : List ℕ
  W = waiting nodes

  abbrev D : List ℕ
  D = (shown acap slots nodes).dirty

  in_w : (m : ℕ) → is_in m (reverse W) ≡ true → is_in m (listed nodes) ≡ true
  in_w m h = (and_parts _ _ (sym (k.waits m) ∙ sym (in_reverse m W) ∙ h)).0

  clean_waits : Waits nodes node old.address false D (taken_out node nodes.waiting)
  clean_waits =
      record {
        one = length-map nodes.waiting (without node) ∙ k.one_waiting;
        it = ap (is_in node) (at_taken node 0 nodes.waiting) ∙ gone node W;
        rest = λ n other. ap (is_in n) (at_taken node 0 nodes.waiting) ∙ in_without_other n node W (λ same. other (sym same));
        once = subst (λ (xs : List ℕ). IsDistinct (λ x y. x == y) xs) (sym (at_taken node 0 nodes.waiting)) (distinct_without node W k.once);
        addresses =
            ap (λ (l : List ℕ). map (address_of nodes) (reverse l)) (at_taken node 0 nodes.waiting)
            ∙ ap (map (address_of nodes)) (rev_filter (λ other. not (node == other)) W)
            ∙ sym (map_without (address_of nodes) old.address node (reverse W) (λ m h. tells m (in_w m h)));
      }

  among : is_in old.address D ≡ is_in node W
  among = map_in (address_of nodes) old.address node (reverse W) (λ m h. tells m (in_w m h)) ∙ in_reverse node W

  dirty_waits : Waits nodes node old.address true D (cond (is_listed node nodes.waiting) nodes.waiting (put_front 0 node nodes.waiting))
  dirty_waits = by_test (is_listed node nodes.waiting) refl
    where
      by_test : (t : Bool) → is_listed node nodes.waiting ≡ t → Waits nodes node old.address true D (cond t nodes.waiting (put_front 0 node nodes.waiting))
      by_test true is =
          let inside : is_in node W ≡ true = sym (one_list node nodes.waiting k.one_waiting) ∙ is in
          record {
            one = k.one_waiting;
            it = inside;
            rest = λ n other. refl;
            once = k.once;
            addresses = sym (ap (λ t. cond t D (D ++ old.address ∷ [])) (among ∙ inside));
          }
      by_test false is =
          let out : is_in node W ≡ false = sym (one_list node nodes.waiting k.one_waiting) ∙ is in
          let first : list_at 0 (put_front 0 node nodes.waiting) ≡ node ∷ W = at_put 0 node nodes.waiting (omega (arith, k.one_waiting)) in
          record {
            one = length-set nodes.waiting 0 (node ∷ W) ∙ k.one_waiting;
            it = ap (is_in node) first ∙ in_here node W;
            rest = λ n other. ap (is_in n) first ∙ ap (λ t. t || is_in n W) (ne_eqb n node other);
            once = subst (λ (xs : List ℕ). IsDistinct (λ x y. x == y) xs) (sym first) (distinct_front node W out k.once);
            addresses =
                ap (λ (l : List ℕ). map (address_of nodes) (reverse l)) first
                ∙ ap (map (address_of nodes)) (rev_cons node W)
                ∙ map-append (address_of nodes) (reverse W) (node ∷ [])
                ∙ ap (λ a. D ++ a ∷ []) (ap (λ (r : ARow). r.address) row_old)
                ∙ sym (ap (λ t. cond t D (D ++ old.address ∷ [])) (among ∙ out));
          }

  pub waits_now : (b : Bool) → Waits nodes node old.address b D (waiting_by b node nodes.waiting)
  waits_now true = dirty_waits
  waits_now false = clean_waits

pub waits_already : (dirty : Bool) (n : ℕ) (lists : List (List ℕ)) → dirty ≡ true → is_listed n lists ≡ true → waiting_by dirty n lists ≡ lists
waits_already true n lists e h = ap (λ t. cond t lists (put_front 0 n lists)) h
waits_already false n lists e h = absurd (both_ways false refl e)

pub waits_not : (dirty : Bool) (n : ℕ) (lists : List (List ℕ)) → dirty ≡ false → is_listed n lists ≡ false → waiting_by dirty n lists ≡ lists
waits_not true n lists e h = absurd (both_ways true e refl)
waits_not false n lists e h = taken_none n lists h

pub wait_size : (b : Bool) (n : ℕ) (lists : List (List ℕ)) → length (waiting_by b n lists) ≡ length lists
wait_size false n lists = length-map lists (without n)
wait_size true n lists = by_test (is_listed n lists)
  where
    by_test : (t : Bool) → length (cond t lists (put_front 0 n lists)) ≡ length lists
    by_test true = refl
    by_test false = length-set lists 0 (n ∷ list_at 0 lists)
