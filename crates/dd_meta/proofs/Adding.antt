-- What a new address in front makes of a metadata cache.
use Rattle.std.proofs.Common.{◌≡◌, ◌≢◌, inl, inr, ℕ, ◌+◌, ◌<◌, ◌==◌, Bool, true, false, List, [], ◌∷◌, length, map, refl, sym, ◌∙◌, ap, subst, arith, Some, None, get_or, set, cond, is_some, count_by, reverse}
use Rattle.std.specs.Prelude.{◌&&◌, ◌||◌, unwrap_or}
use Rattle.std.specs.List.{IsDistinct, list_any}
use Rattle.std.proofs.lemmas.Bool.{eq-eqb, ne_eqb, cases_eq, both_ways, and_parts, or_parts}
use Rattle.std.proofs.lemmas.List.{get_or-set_same, get_or-set_other, length-set}
use Rattle.std.proofs.lemmas.List.Sums.{sum_by-set}
use Rattle.dd_block.specs.declared.print.Fp.{Fp}
use Rattle.dd_record.specs.declared.row.ARow.{ARow}
use Rattle.dd_record.specs.declared.row.Link.TheVariants.{Lost}
use Rattle.dd_record.specs.Table.{is_link}
use Rattle.dd_lists.specs.Lists.{is_in, list_at, put_front}
use Rattle.dd_lists.specs.Nodes.{Nodes, value_at, is_live}
use Rattle.dd_lists.proofs.Members.{in_cons, in_here, distinct_front, at_put}
use Rattle.dd_index.specs.Index.{Index, nodes_of, Inserts}
use Rattle.dd_meta.specs.Entries.{Entry, Brings, blank, node_of, is_listed_address}
use Rattle.dd_meta.specs.Matching.{row_at, address_of, entry_of, listed, waiting, shown, IsBelow, home_of, is_home, Matches}
use Rattle.dd_meta.proofs.Numbers.{map_in_same, filter_all, in_reverse}
use Rattle.dd_meta.proofs.Owed.{owed_same}
use Rattle.dd_meta.proofs.Rows.{listed_address}

-- a new node
module _ {acap slots : ℕ} {nodes : Nodes ARow} {index : Index} (k : Matches acap slots nodes index) (node : ℕ) (within : node < length nodes.values) (none : value_at node nodes ≡ None)
    (address : ℕ) (fp : Fp) (out : is_listed_address address (shown acap slots nodes) ≡ false) (index' : Index) (ins : Inserts index index' address node) where
  abbrev row : ARow
  row = record { address = address; link = Lost; dirty = false; fp = fp }

  abbrev pub added : Nodes ARow
  added = record { values = set nodes.values node (Some row); recency = put_front 0 node nodes.recency; referrers = nodes.referrers; waiting = nodes.waiting }

  absent : is_in node (listed nodes) ≡ false
  absent = sym (k.live node) ∙ ap is_some none

  order : listed added ≡ node ∷ listed nodes
  order = at_put 0 node nodes.recency (omega (arith, k.one))

  at_same : value_at node added ≡ Some row
  at_same = get_or-set_same nodes.values node (Some row) None within

  at_other : (n : ℕ) → n ≢ node → value_at n added ≡ value_at n nodes
  at_other n other = get_or-set_other nodes.values node n (Some row) None other

  row_other : (n : ℕ) → n ≢ node → row_at added n ≡ row_at nodes n
  row_other n other = ap (λ o. unwrap_or o blank) (at_other n other)

  row_same : row_at added node ≡ row
  row_same = ap (λ o. unwrap_or o blank) at_same

  in_same : is_in node (listed added) ≡ true
  in_same = ap (is_in node) order ∙ in_here node (listed nodes)

  in_other : (n : ℕ) → n ≢ node → is_in n (listed added) ≡ is_in n (listed nodes)
  in_other n other = ap (is_in n) order ∙ ap (λ t. t || is_in n (listed nodes)) (ne_eqb n node other)

  -- a listed node isn't the new one, and has another address
  not_new : (n : ℕ) → is_in n (listed nodes) ≡ true → n ≢ node
  not_new n h e = both_ways _ absent (ap (λ i. is_in i (listed nodes)) (sym e) ∙ h)

  not_it : (xs : List ℕ) → list_any (λ (e : Entry). e.row.address == address) (map (entry_of nodes) xs) ≡ false → (n : ℕ) → is_in n xs ≡ true → address_of nodes n ≢ address
  not_it [] h n there e = both_ways false refl there
  not_it (x ∷ xs) h n there e =
      let parts = or_parts _ _ h in
      elim (in_cons n x xs there) [
        | inl same ↦ both_ways _ parts.0 (eq-eqb _ _ (ap (address_of nodes) (sym same) ∙ e))
        | inr later ↦ not_it xs parts.1 n later e
      ]

  differs : (n : ℕ) → is_in n (listed nodes) ≡ true → address_of nodes n ≢ address
  differs = not_it (listed nodes) out

  chained : (n key : ℕ) → is_in n (nodes_of key index') ≡ cond (address == key) (is_in n (node ∷ nodes_of key index)) (is_in n (nodes_of key index))
  chained n key = ap (is_in n) (ins.nodes key) ∙ by_test (address == key)
    where
      by_test : (b : Bool) → is_in n (cond b (node ∷ nodes_of key index) (nodes_of key index)) ≡ cond b (is_in n (node ∷ nodes_of key index)) (is_in n (nodes_of key index))
      by_test true = refl
      by_test false = refl

  pub added_matches : Matches acap slots added index'
  added_matches =
      record {
        some = k.some;
        room = length-set nodes.values node (Some row) ∙ k.room;
        keys = ins.room ∙ k.keys;
        one = length-set nodes.recency 0 (node ∷ list_at 0 nodes.recency) ∙ k.one;
        one_waiting = k.one_waiting;
        two = k.two;
        fits = k.fits;
        live = λ n. elim (cases_eq n node) [
          | inl same ↦ ap (λ i. is_live i added) same ∙ ap is_some at_same ∙ sym in_same ∙ ap (λ i. is_in i (listed added)) (sym same)
          | inr other ↦ ap is_some (at_other n other) ∙ k.live n ∙ sym (in_other n other)
        ];
        counted =
            let before : ◌≡◌ {A = ℕ} (cond (is_some (get_or nodes.values node None)) 1 0) 0 = ap (λ o. cond (is_some o) 1 0) none in
            let sums : count_by is_some (set nodes.values node (Some row)) + cond (is_some (get_or nodes.values node None)) 1 0 ≡ count_by is_some nodes.values + 1 = sum_by-set (λ x. cond (is_some x) 1 0) nodes.values node (Some row) None within in
            let was : count_by is_some nodes.values ≡ length (listed nodes) = k.counted in
            let size : length (listed added) ≡ length (node ∷ listed nodes) = ap (λ (l : List ℕ). length l) order in
            omega (arith, before, sums, was, size);
        distinct = subst (λ (l : List ℕ). IsDistinct (λ x y. x == y) l) (sym order) (distinct_front node (listed nodes) absent k.distinct);
        referring = λ list n. elim (cases_eq n node) [
          | inl same ↦
              ap (λ i. is_in i (list_at list nodes.referrers)) same ∙ k.referring list node ∙ ap (λ t. t && is_home list (home_of slots (row_at nodes node))) absent
              ∙ sym (ap (λ i. is_in i (listed added) && is_home list (home_of slots (row_at added i))) same ∙ ap (λ t. t && is_home list (home_of slots (row_at added node))) in_same ∙ ap (λ r. is_home list (home_of slots r)) row_same)
          | inr other ↦
              k.referring list n ∙ ap (λ t. t && is_home list (home_of slots (row_at nodes n))) (sym (in_other n other))
              ∙ ap (λ r. is_in n (listed added) && is_home list (home_of slots r)) (sym (row_other n other))
        ];
        waits = λ n. elim (cases_eq n node) [
          | inl same ↦
              ap (λ i. is_in i (waiting nodes)) same ∙ k.waits node ∙ ap (λ t. t && (row_at nodes node).dirty) absent
              ∙ sym (ap (λ i. is_in i (listed added) && (row_at added i).dirty) same ∙ ap (λ t. t && (row_at added node).dirty) in_same ∙ ap (λ (r : ARow). r.dirty) row_same)
          | inr other ↦
              k.waits n ∙ ap (λ t. t && (row_at nodes n).dirty) (sym (in_other n other))
              ∙ ap (λ (r : ARow). is_in n (listed added) && r.dirty) (sym (row_other n other))
        ];
        once = k.once;
        each_once = k.each_once;
        linked = λ n h. ap (λ (r : ARow). is_link r.link) (row_other n (not_new n (and_parts _ _ (sym (k.waits n) ∙ h)).0)) ∙ k.linked n h;
        below = λ n h. elim (cases_eq n node) [
          | inl same ↦ subst (λ (r : ARow). IsBelow slots r.link) (sym (ap (row_at added) same ∙ row_same)) tt
          | inr other ↦ subst (λ (r : ARow). IsBelow slots r.link) (sym (row_other n other)) (k.below n (sym (in_other n other) ∙ h))
        ];
        indexed = λ n key. elim (cases_eq n node) [
          | inl same ↦
              ap (λ i. is_in i (nodes_of key index')) same ∙ chained node key
              ∙ ap (λ t. cond (address == key) t (is_in node (nodes_of key index))) (in_here node (nodes_of key index))
              ∙ ap (cond (address == key) true) (k.indexed node key ∙ ap (λ t. t && (address_of nodes node == key)) absent)
              ∙ same_test (address == key)
              ∙ sym (ap (λ i. is_in i (listed added) && (address_of added i == key)) same ∙ ap (λ t. t && (address_of added node == key)) in_same ∙ ap (λ (r : ARow). r.address == key) row_same)
          | inr other ↦
              chained n key
              ∙ ap (λ t. cond (address == key) (t || is_in n (nodes_of key index)) (is_in n (nodes_of key index))) (ne_eqb n node other)
              ∙ either (address == key) (is_in n (nodes_of key index))
              ∙ k.indexed n key ∙ ap (λ t. t && (address_of nodes n == key)) (sym (in_other n other))
              ∙ ap (λ (r : ARow). is_in n (listed added) && (r.address == key)) (sym (row_other n other))
        ];
        single = λ n m h g e. elim (cases_eq n node) [
          | inl same ↦ elim (cases_eq m node) [
            | inl too ↦ same ∙ sym too
            | inr other ↦ absurd (differs m (sym (in_other m other) ∙ g) (sym (ap (λ (r : ARow). r.address) (row_other m other)) ∙ sym e ∙ ap (address_of added) same ∙ ap (λ (r : ARow). r.address) row_same))
          ]
          | inr other ↦ elim (cases_eq m node) [
            | inl too ↦ absurd (differs n (sym (in_other n other) ∙ h) (sym (ap (λ (r : ARow). r.address) (row_other n other)) ∙ e ∙ ap (address_of added) too ∙ ap (λ (r : ARow). r.address) row_same))
            | inr others ↦ k.single n m (sym (in_other n other) ∙ h) (sym (in_other m others) ∙ g) (sym (ap (λ (r : ARow). r.address) (row_other n other)) ∙ e ∙ ap (λ (r : ARow). r.address) (row_other m others))
          ]
        ];
      }
    where
      same_test : (b : Bool) → cond b true false ≡ b
      same_test true = refl
      same_test false = refl

      either : (b c : Bool) → cond b c c ≡ c
      either true c = refl
      either false c = refl

  pub added_shown : Brings (shown acap slots nodes) (shown acap slots added) address node
  added_shown =
      record {
        row = row;
        is = refl;
        known = λ known e. absurd (never known e);
        entries =
            ap (map (entry_of added)) order
            ∙ ap (λ (e : Entry). e ∷ map (entry_of added) (listed nodes)) (λ i. record { node = node; row = row_same i })
            ∙ ap (λ (l : List Entry). record { node = node; row = row } ∷ l)
            (map_in_same (entry_of added) (entry_of nodes) (listed nodes) (λ n h i. record { node = n; row = row_other n (not_new n h) i })
            ∙ sym (filter_all (λ (e : Entry). e.row.address == address) (map (entry_of nodes) (listed nodes)) out));
        dirty =
            map_in_same (address_of added) (address_of nodes) (reverse (waiting nodes))
            (λ n h. ap (λ (r : ARow). r.address) (row_other n (not_new n (and_parts _ _ (sym (k.waits n) ∙ sym (in_reverse n (waiting nodes)) ∙ h)).0)));
        owed =
            owed_same acap slots nodes added k.two k.two
            (λ slot low. map_in_same (address_of added) (address_of nodes) (list_at slot nodes.referrers)
            (λ n h. ap (λ (r : ARow). r.address) (row_other n (not_new n (and_parts _ _ (sym (k.referring slot n) ∙ h)).0))));
        acap = refl;
        slots = refl;
      }
    where
      never : (known : ℕ) → node_of address (shown acap slots nodes) ≡ Some known → ⊥
      never known e = both_ways _ out (listed_address k address ∙ ap is_some e)
