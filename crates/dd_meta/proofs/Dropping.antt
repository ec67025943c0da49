-- What taking the last address away makes of a metadata cache.
use Rattle.std.proofs.Common.{◌≡◌, ◌≢◌, inl, inr, ℕ, ◌+◌, ◌-◌, ◌<◌, ◌==◌, Bool, true, false, List, [], ◌∷◌, length, map, refl, sym, ◌∙◌, ap, subst, arith, Option, Some, None, get_or, set, cond, is_some, count_by, reverse, take, slice_get, IfSome}
use Rattle.std.specs.Prelude.{◌&&◌, unwrap_or, option_map}
use Rattle.std.specs.List.{IsDistinct}
use Rattle.std.proofs.lemmas.Bool.{eq-eqb, cases_eq, both_ways}
use Rattle.std.proofs.lemmas.List.{get_or-set_same, get_or-set_other, length-set, length-map, take-map}
use Rattle.std.proofs.lemmas.List.Sums.{sum_by-set}
use Rattle.std.proofs.lemmas.Option.{slice_get-map}
use Rattle.dd_record.specs.declared.row.ARow.{ARow}
use Rattle.dd_record.specs.Table.{is_link}
use Rattle.dd_lists.specs.Lists.{is_in, list_at, without, taken_out}
use Rattle.dd_lists.specs.Nodes.{Nodes, value_at, is_live, IsUnlisted}
use Rattle.dd_lists.proofs.Members.{in_without_other, gone, without_none, distinct_without, at_taken}
use Rattle.dd_lists.proofs.Found.{got_in_list}
use Rattle.dd_lists.proofs.Views.{taken_free}
use Rattle.dd_index.specs.Index.{Index, nodes_of, IsStored, Removes}
use Rattle.dd_meta.specs.Entries.{Entry, Meta, blank, rows_of}
use Rattle.dd_meta.specs.Matching.{row_at, address_of, entry_of, listed, waiting, shown, IsBelow, home_of, is_home, Matches}
use Rattle.dd_meta.proofs.Numbers.{map_in_same, map_map, fewer, last_out, in_reverse}
use Rattle.dd_meta.proofs.Homes.{dirty_home}
use Rattle.dd_meta.proofs.Owed.{owed_same}
use Rattle.dd_meta.proofs.Rows.{got_within}
use Rattle.dd_meta.proofs.Waiting.{one_list}
use Rattle.dd_meta.proofs.Writing.{live_within}

no_and : (b : Bool) → b ≡ false → (c : Bool) → (b && c) ≡ false
no_and true e c = absurd (both_ways _ e refl)
no_and false e c = refl

pub value_is : (nodes : Nodes ARow) (node : ℕ) (row : ARow) → value_at node nodes ≡ Some row → Some (row_at nodes node) ≡ Some row
value_is nodes node row value = ap (λ o. Some (unwrap_or o blank)) value

-- the last row
pub back_row : (acap slots : ℕ) (nodes : Nodes ARow) (node : ℕ) → slice_get (listed nodes) (length (listed nodes) - 1) ≡ Some node → let rows = rows_of (shown acap slots nodes) in slice_get rows (length rows - 1) ≡ Some (row_at nodes node)
back_row acap slots nodes node last =
    ap (λ (l : List ARow). slice_get l (length l - 1)) (map_map (entry_of nodes) (λ (e : Entry). e.row) (listed nodes))
    ∙ slice_get-map (row_at nodes) (listed nodes) (length (map (row_at nodes) (listed nodes)) - 1)
    ∙ ap (λ n. option_map (row_at nodes) (slice_get (listed nodes) (n - 1))) (length-map (listed nodes) (row_at nodes))
    ∙ ap (option_map (row_at nodes)) last

pub back_clean : (acap slots : ℕ) (nodes : Nodes ARow) (now : Meta) (node : ℕ) → shown acap slots nodes ≡ now → slice_get (listed nodes) (length (listed nodes) - 1) ≡ Some node
    → IfSome (slice_get (rows_of now) (length (rows_of now) - 1)) (λ row. row.dirty ≡ false) → (row_at nodes node).dirty ≡ false
back_clean acap slots nodes now node is last clean =
    let P : Option ARow → Type 0 = λ o. IfSome o (λ row. row.dirty ≡ false) in
    let it : slice_get (rows_of now) (length (rows_of now) - 1) ≡ Some (row_at nodes node) = sym (ap (λ (m : Meta). slice_get (rows_of m) (length (rows_of m) - 1)) is) ∙ back_row acap slots nodes node last in
    subst P it clean

-- the rows of all entries but the last
pub dropped_rows : (entries : List Entry) → map (λ (e : Entry). e.row) (take (length entries - 1) entries) ≡ take (length (map (λ (e : Entry). e.row) entries) - 1) (map (λ (e : Entry). e.row) entries)
dropped_rows entries =
    sym (take-map (λ (e : Entry). e.row) (length entries - 1) entries)
    ∙ ap (λ n. take (n - 1) (map (λ (e : Entry). e.row) entries)) (sym (length-map entries (λ (e : Entry). e.row)))

pub not_empty : (acap slots : ℕ) (nodes : Nodes ARow) (now : Meta) → shown acap slots nodes ≡ now → 0 < length (rows_of now) → slice_get (listed nodes) (length (listed nodes) - 1) ≡ None → ⊥
not_empty acap slots nodes now is some none = by_list (listed nodes) none size
  where
    size : 0 < length (listed nodes)
    size =
        let a : length (map (λ (e : Entry). e.row) (map (entry_of nodes) (listed nodes))) ≡ length (rows_of now) = ap (λ (m : Meta). length (rows_of m)) is in
        omega (arith, some, a, length-map (map (entry_of nodes) (listed nodes)) (λ (e : Entry). e.row), length-map (listed nodes) (entry_of nodes))

    by_list : (xs : List ℕ) → slice_get xs (length xs - 1) ≡ None → 0 < length xs → ⊥
    by_list [] h low = absurd (omega arith)
    by_list (x ∷ xs) h low =
        let got : slice_get (x ∷ xs) (length (x ∷ xs) - 1) ≡ Some (get_or (x ∷ xs) (length (x ∷ xs) - 1) 0) = got_within (x ∷ xs) (length (x ∷ xs) - 1) 0 (omega arith) in
        let never : None ≡ Some (get_or (x ∷ xs) (length (x ∷ xs) - 1) 0) = sym h ∙ got in
        cc

module _ {acap slots : ℕ} {nodes : Nodes ARow} {index : Index} (k : Matches acap slots nodes index) (node : ℕ) (last : slice_get (listed nodes) (length (listed nodes) - 1) ≡ Some node) (clean : (row_at nodes node).dirty ≡ false) where
  pub here : is_in node (listed nodes) ≡ true
  here = got_in_list node (length (listed nodes) - 1) (listed nodes) last

  pub back_live : is_live node nodes ≡ true
  back_live = k.live node ∙ here

  pub back_stored : IsStored node index
  back_stored = (address_of nodes node, k.indexed node (address_of nodes node) ∙ ap (λ t. t && (address_of nodes node == address_of nodes node)) here ∙ eq-eqb _ _ refl)

  not_waiting : is_in node (waiting nodes) ≡ false
  not_waiting = k.waits node ∙ ap (λ t. t && (row_at nodes node).dirty) here ∙ clean

  -- the node in no lane, but still there
  pub back_unlisted : IsUnlisted node (record { values = nodes.values; recency = taken_out node nodes.recency; referrers = taken_out node nodes.referrers; waiting = nodes.waiting })
  back_unlisted = record { recency = taken_free node nodes.recency; referrers = taken_free node nodes.referrers; waiting = one_list node nodes.waiting k.one_waiting ∙ not_waiting }

  abbrev pub dropped : Nodes ARow
  dropped = record { values = set nodes.values node None; recency = taken_out node nodes.recency; referrers = taken_out node nodes.referrers; waiting = nodes.waiting }

  module _ (index' : Index) (gone_from : Removes index index' node) where
    within : node < length nodes.values
    within = live_within node nodes back_live

    order : listed dropped ≡ without node (listed nodes)
    order = at_taken node 0 nodes.recency

    at_same : value_at node dropped ≡ None
    at_same = get_or-set_same nodes.values node None None within

    at_other : (n : ℕ) → n ≢ node → value_at n dropped ≡ value_at n nodes
    at_other n other = get_or-set_other nodes.values node n None None other

    row_other : (n : ℕ) → n ≢ node → row_at dropped n ≡ row_at nodes n
    row_other n other = ap (λ o. unwrap_or o blank) (at_other n other)

    in_same : is_in node (listed dropped) ≡ false
    in_same = ap (is_in node) order ∙ gone node (listed nodes)

    in_other : (n : ℕ) → n ≢ node → is_in n (listed dropped) ≡ is_in n (listed nodes)
    in_other n other = ap (is_in n) order ∙ in_without_other n node (listed nodes) (λ e. other (sym e))

    not_it : (n : ℕ) → is_in n (listed dropped) ≡ true → n ≢ node
    not_it n h e = both_ways _ in_same (ap (λ i. is_in i (listed dropped)) (sym e) ∙ h)

    was_in : (n : ℕ) → is_in n (listed dropped) ≡ true → is_in n (listed nodes) ≡ true
    was_in n h = sym (in_other n (not_it n h)) ∙ h

    waits_other : (n : ℕ) → is_in n (waiting nodes) ≡ true → n ≢ node
    waits_other n h e = both_ways _ not_waiting (ap (λ i. is_in i (waiting nodes)) (sym e) ∙ h)

    pub dropped_matches : Matches acap slots dropped index'
    dropped_matches =
        record {
          some = k.some;
          room = length-set nodes.values node None ∙ k.room;
          keys = gone_from.room ∙ k.keys;
          one = length-map nodes.recency (without node) ∙ k.one;
          one_waiting = k.one_waiting;
          two = length-map nodes.referrers (without node) ∙ k.two;
          fits = k.fits;
          live = λ n. elim (cases_eq n node) [
            | inl same ↦ ap (λ i. is_live i dropped) same ∙ ap is_some at_same ∙ sym in_same ∙ ap (λ i. is_in i (listed dropped)) (sym same)
            | inr other ↦ ap is_some (at_other n other) ∙ k.live n ∙ sym (in_other n other)
          ];
          counted =
              let before : ◌≡◌ {A = ℕ} (cond (is_some (get_or nodes.values node None)) 1 0) 1 = ap (λ t. cond t 1 0) back_live in
              let sums : count_by is_some (set nodes.values node None) + cond (is_some (get_or nodes.values node None)) 1 0 ≡ count_by is_some nodes.values + 0 = sum_by-set (λ x. cond (is_some x) 1 0) nodes.values node None None within in
              let was : count_by is_some nodes.values ≡ length (listed nodes) = k.counted in
              let size : length (listed dropped) ≡ length (without node (listed nodes)) = ap (λ (l : List ℕ). length l) order in
              let less : length (without node (listed nodes)) + 1 ≡ length (listed nodes) = fewer node (listed nodes) k.distinct here in
              omega (arith, before, sums, was, size, less);
          distinct = subst (λ (l : List ℕ). IsDistinct (λ x y. x == y) l) (sym order) (distinct_without node (listed nodes) k.distinct);
          referring = λ list n. elim (cases_eq n node) [
            | inl same ↦
                ap (λ i. is_in i (list_at list (taken_out node nodes.referrers))) same ∙ ap (is_in node) (at_taken node list nodes.referrers) ∙ gone node (list_at list nodes.referrers)
                ∙ sym (ap (λ i. is_in i (listed dropped) && is_home list (home_of slots (row_at dropped i))) same ∙ ap (λ t. t && is_home list (home_of slots (row_at dropped node))) in_same)
            | inr other ↦
                ap (is_in n) (at_taken node list nodes.referrers) ∙ in_without_other n node (list_at list nodes.referrers) (λ e. other (sym e))
                ∙ k.referring list n ∙ ap (λ t. t && is_home list (home_of slots (row_at nodes n))) (sym (in_other n other))
                ∙ ap (λ r. is_in n (listed dropped) && is_home list (home_of slots r)) (sym (row_other n other))
          ];
          waits = λ n. elim (cases_eq n node) [
            | inl same ↦
                ap (λ i. is_in i (waiting nodes)) same ∙ not_waiting
                ∙ sym (ap (λ i. is_in i (listed dropped) && (row_at dropped i).dirty) same ∙ ap (λ t. t && (row_at dropped node).dirty) in_same)
            | inr other ↦
                k.waits n ∙ ap (λ t. t && (row_at nodes n).dirty) (sym (in_other n other))
                ∙ ap (λ (r : ARow). is_in n (listed dropped) && r.dirty) (sym (row_other n other))
          ];
          once = k.once;
          each_once = λ list. subst (λ (l : List ℕ). IsDistinct (λ x y. x == y) l) (sym (at_taken node list nodes.referrers)) (distinct_without node (list_at list nodes.referrers) (k.each_once list));
          linked = λ n h. ap (λ (r : ARow). is_link r.link) (row_other n (waits_other n h)) ∙ k.linked n h;
          below = λ n h. subst (λ (r : ARow). IsBelow slots r.link) (sym (row_other n (not_it n h))) (k.below n (was_in n h));
          indexed = λ n key. elim (cases_eq n node) [
            | inl same ↦
                ap (λ i. is_in i (nodes_of key index')) same ∙ ap (is_in node) (gone_from.nodes key) ∙ gone node (nodes_of key index)
                ∙ sym (ap (λ i. is_in i (listed dropped) && (address_of dropped i == key)) same ∙ ap (λ t. t && (address_of dropped node == key)) in_same)
            | inr other ↦
                ap (is_in n) (gone_from.nodes key) ∙ in_without_other n node (nodes_of key index) (λ e. other (sym e))
                ∙ k.indexed n key ∙ ap (λ t. t && (address_of nodes n == key)) (sym (in_other n other))
                ∙ ap (λ (r : ARow). is_in n (listed dropped) && (r.address == key)) (sym (row_other n other))
          ];
          single = λ n m h g e.
              k.single n m (was_in n h) (was_in m g)
              (sym (ap (λ (r : ARow). r.address) (row_other n (not_it n h))) ∙ e ∙ ap (λ (r : ARow). r.address) (row_other m (not_it m g)));
        }

    pub dropped_shown : (now : Meta) → shown acap slots nodes ≡ now → shown acap slots dropped ≡ record { acap = now.acap; slots = now.slots; entries = take (length now.entries - 1) now.entries; dirty = now.dirty; owed = now.owed }
    dropped_shown now is =
        let step : shown acap slots dropped ≡ record { acap = acap; slots = slots; entries = take (length (shown acap slots nodes).entries - 1) (shown acap slots nodes).entries; dirty = (shown acap slots nodes).dirty; owed = (shown acap slots nodes).owed } =
        λ i. record { acap = acap; slots = slots; entries = entries i; dirty = dirty i; owed = owed i } in
        step ∙ ap (λ (m : Meta). record { acap = m.acap; slots = m.slots; entries = take (length m.entries - 1) m.entries; dirty = m.dirty; owed = m.owed }) is
      where
        entries : map (entry_of dropped) (listed dropped) ≡ take (length (map (entry_of nodes) (listed nodes)) - 1) (map (entry_of nodes) (listed nodes))
        entries =
            map_in_same (entry_of dropped) (entry_of nodes) (listed dropped) (λ n h i. record { node = n; row = row_other n (not_it n h) i })
            ∙ ap (map (entry_of nodes)) (order ∙ last_out node (listed nodes) k.distinct last)
            ∙ sym (take-map (entry_of nodes) (length (listed nodes) - 1) (listed nodes))
            ∙ ap (λ n. take (n - 1) (map (entry_of nodes) (listed nodes))) (sym (length-map (listed nodes) (entry_of nodes)))

        dirty : map (address_of dropped) (reverse (waiting nodes)) ≡ map (address_of nodes) (reverse (waiting nodes))
        dirty = map_in_same (address_of dropped) (address_of nodes) (reverse (waiting nodes)) (λ n h. ap (λ (r : ARow). r.address) (row_other n (waits_other n (sym (in_reverse n (waiting nodes)) ∙ h))))

        owed_at : (slot : ℕ) → slot < slots → map (address_of dropped) (list_at slot (taken_out node nodes.referrers)) ≡ map (address_of nodes) (list_at slot nodes.referrers)
        owed_at slot low =
            ap (map (address_of dropped)) (at_taken node slot nodes.referrers ∙ without_none node (list_at slot nodes.referrers) out)
            ∙ map_in_same (address_of dropped) (address_of nodes) (list_at slot nodes.referrers)
            (λ n h. ap (λ (r : ARow). r.address) (row_other n (λ e. both_ways _ out (ap (λ i. is_in i (list_at slot nodes.referrers)) (sym e) ∙ h))))
          where
            out : is_in node (list_at slot nodes.referrers) ≡ false
            out =
                k.referring slot node ∙ ap (λ t. t && is_home slot (home_of slots (row_at nodes node))) here
                ∙ dirty_home slots slot (row_at nodes node).dirty (row_at nodes node).link low ∙ no_and _ clean _

        owed : (shown acap slots dropped).owed ≡ (shown acap slots nodes).owed
        owed = owed_same acap slots nodes dropped k.two (length-map nodes.referrers (without node) ∙ k.two) owed_at
