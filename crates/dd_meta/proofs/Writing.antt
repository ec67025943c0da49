-- What writing another row under a node makes of a metadata cache, where the node goes where the row belongs.
use Rattle.std.proofs.Common.{◌≡◌, ◌≢◌, inl, inr, ℕ, ◌+◌, ◌<◌, ◌==◌, Bool, true, false, List, [], ◌∷◌, length, map, refl, sym, ◌∙◌, ap, subst, arith, Some, None, get_or, set, cond, is_some, count_by, reverse, IfSome}
use Rattle.std.specs.Prelude.{◌&&◌, unwrap_or}
use Rattle.std.specs.List.{IsDistinct}
use Rattle.std.proofs.lemmas.Bool.{eq-eqb, ne_eqb, cases_eq, cases_lt, both_ways, and_parts}
use Rattle.std.proofs.lemmas.List.{get_or-set_same, get_or-set_other, get_or_past, length-set}
use Rattle.std.proofs.lemmas.List.Sums.{sum_by-set}
use Rattle.dd_record.specs.declared.row.ARow.{ARow}
use Rattle.dd_record.specs.Table.{is_slot, is_link}
use Rattle.dd_lists.specs.Lists.{is_in, list_at, without}
use Rattle.dd_lists.specs.Nodes.{Nodes, value_at, is_live}
use Rattle.dd_index.specs.Index.{Index}
use Rattle.dd_meta.specs.Entries.{Entry, Writes, blank, owed_to, owed_by, written, replaced, rows_of, with_dirty}
use Rattle.dd_meta.specs.Matching.{row_at, address_of, entry_of, listed, waiting, shown, IsBelow, home_of, is_home, with_row, Matches}
use Rattle.dd_meta.proofs.Homes.{home_size, home_list, put_it, put_rest, put_once, home_low, dirty_home, no_slot}
use Rattle.dd_meta.proofs.Numbers.{map_same, map_in_same, map_map, map_without}
use Rattle.dd_meta.proofs.Owed.{owed_low, owed_past}
use Rattle.dd_meta.proofs.Waiting.{Waits, waits_now, tells}

pub live_within : (n : ℕ) (nodes : Nodes ARow) → is_live n nodes ≡ true → n < length nodes.values
live_within n nodes live =
    elim (cases_lt n (length nodes.values)) [
      | inl low ↦ low
      | inr past ↦ absurd (both_ways false refl (sym (ap is_some (get_or_past nodes.values n None past)) ∙ live))
    ]

module _ {acap slots : ℕ} {nodes : Nodes ARow} {index : Index} (k : Matches acap slots nodes index) (node : ℕ) (live : is_live node nodes ≡ true) (old row : ARow) (value : value_at node nodes ≡ Some old)
    (address : row.address ≡ old.address) (linked : row.dirty ≡ true → is_link row.link ≡ true) (below : IsBelow slots row.link) where
  abbrev pub after : Nodes ARow
  after = with_row slots node row nodes

  within : node < length nodes.values
  within = live_within node nodes live

  here : is_in node (listed nodes) ≡ true
  here = sym (k.live node) ∙ live

  pub at_same : value_at node after ≡ Some row
  at_same = get_or-set_same nodes.values node (Some row) None within

  pub at_other : (n : ℕ) → n ≢ node → value_at n after ≡ value_at n nodes
  at_other n other = get_or-set_other nodes.values node n (Some row) None other

  pub address_same : (n : ℕ) → address_of after n ≡ address_of nodes n
  address_same n =
      elim (cases_eq n node) [
        | inl same ↦
            ap (address_of after) same ∙ ap (λ o. (unwrap_or o blank).address) at_same ∙ address
            ∙ sym (ap (λ o. (unwrap_or o blank).address) value) ∙ ap (address_of nodes) (sym same)
        | inr other ↦ ap (λ o. (unwrap_or o blank).address) (at_other n other)
      ]

  home_in : IfSome (home_of slots row) (λ l. l < length nodes.referrers)
  home_in = subst (λ (n : ℕ). IfSome (home_of slots row) (λ l. l < n)) (sym k.two) (home_low slots row.dirty row.link below)

  pub list_now : (list : ℕ) → list_at list after.referrers ≡ cond (is_home list (home_of slots row)) (node ∷ without node (list_at list nodes.referrers)) (without node (list_at list nodes.referrers))
  list_now list = home_list (home_of slots row) node list nodes.referrers home_in

  wait : Waits nodes node old.address row.dirty (shown acap slots nodes).dirty after.waiting
  wait = waits_now k node live old value row.dirty

  pub written_matches : Matches acap slots after index
  written_matches =
      record {
        some = k.some;
        room = length-set nodes.values node (Some row) ∙ k.room;
        keys = k.keys;
        one = k.one;
        one_waiting = wait.one;
        two = home_size (home_of slots row) node nodes.referrers ∙ k.two;
        fits = k.fits;
        live = λ n. elim (cases_eq n node) [
          | inl same ↦ ap (λ i. is_live i after) same ∙ ap is_some at_same ∙ sym here ∙ ap (λ i. is_in i (listed nodes)) (sym same)
          | inr other ↦ ap is_some (at_other n other) ∙ k.live n
        ];
        counted =
            let before : ◌≡◌ {A = ℕ} (cond (is_some (get_or nodes.values node None)) 1 0) 1 = ap (λ t. cond t 1 0) live in
            let sums : count_by is_some (set nodes.values node (Some row)) + cond (is_some (get_or nodes.values node None)) 1 0 ≡ count_by is_some nodes.values + 1 = sum_by-set (λ x. cond (is_some x) 1 0) nodes.values node (Some row) None within in
            let was : count_by is_some nodes.values ≡ length (listed nodes) = k.counted in
            omega (arith, before, sums, was);
        distinct = k.distinct;
        referring = λ list n. elim (cases_eq n node) [
          | inl same ↦
              ap (λ i. is_in i (list_at list after.referrers)) same ∙ ap (is_in node) (list_now list) ∙ put_it (is_home list (home_of slots row)) node (list_at list nodes.referrers)
              ∙ sym (ap (λ i. is_in i (listed nodes) && is_home list (home_of slots (row_at after i))) same ∙ ap (λ t. t && is_home list (home_of slots (row_at after node))) here ∙ ap (λ o. is_home list (home_of slots (unwrap_or o blank))) at_same)
          | inr other ↦
              ap (is_in n) (list_now list) ∙ put_rest (is_home list (home_of slots row)) node n (list_at list nodes.referrers) other ∙ k.referring list n
              ∙ ap (λ o. is_in n (listed nodes) && is_home list (home_of slots (unwrap_or o blank))) (sym (at_other n other))
        ];
        waits = λ n. elim (cases_eq n node) [
          | inl same ↦
              ap (λ i. is_in i (waiting after)) same ∙ wait.it
              ∙ sym (ap (λ i. is_in i (listed nodes) && (row_at after i).dirty) same ∙ ap (λ t. t && (row_at after node).dirty) here ∙ ap (λ o. (unwrap_or o blank).dirty) at_same)
          | inr other ↦
              wait.rest n other ∙ k.waits n ∙ ap (λ o. is_in n (listed nodes) && (unwrap_or o blank).dirty) (sym (at_other n other))
        ];
        once = wait.once;
        each_once = λ list.
            subst (λ (l : List ℕ). IsDistinct (λ x y. x == y) l) (sym (list_now list)) (put_once (is_home list (home_of slots row)) node (list_at list nodes.referrers) (k.each_once list));
        linked = λ n h. elim (cases_eq n node) [
          | inl same ↦ ap (λ i. is_link (row_at after i).link) same ∙ ap (λ o. is_link (unwrap_or o blank).link) at_same ∙ linked (sym wait.it ∙ ap (λ i. is_in i (waiting after)) (sym same) ∙ h)
          | inr other ↦ ap (λ o. is_link (unwrap_or o blank).link) (at_other n other) ∙ k.linked n (sym (wait.rest n other) ∙ h)
        ];
        below = λ n h. elim (cases_eq n node) [
          | inl same ↦ subst (λ (r : ARow). IsBelow slots r.link) (sym (ap (row_at after) same ∙ ap (λ o. unwrap_or o blank) at_same)) below
          | inr other ↦ subst (λ (r : ARow). IsBelow slots r.link) (sym (ap (λ o. unwrap_or o blank) (at_other n other))) (k.below n h)
        ];
        indexed = λ n key. k.indexed n key ∙ ap (λ a. is_in n (listed nodes) && a == key) (sym (address_same n));
        single = λ n m h g e. k.single n m h g (sym (address_same n) ∙ e ∙ address_same m);
      }

  entry_now : (n : ℕ) → entry_of after n ≡ written node row (entry_of nodes n)
  entry_now n =
      elim (cases_eq n node) [
        | inl same ↦
            ap (λ i. record { node = n; row = row_at after i }) same ∙ ap (λ o. record { node = n; row = unwrap_or o blank }) at_same
            ∙ sym (ap (λ t. cond t (record { node = n; row = row }) (entry_of nodes n)) (eq-eqb n node same))
        | inr other ↦
            ap (λ o. record { node = n; row = unwrap_or o blank }) (at_other n other)
            ∙ sym (ap (λ t. cond t (record { node = n; row = row }) (entry_of nodes n)) (ne_eqb n node other))
      ]

  row_now : (n : ℕ) → is_in n (listed nodes) ≡ true → row_at after n ≡ replaced row (row_at nodes n)
  row_now n there =
      elim (cases_eq n node) [
        | inl same ↦
            ap (row_at after) same ∙ ap (λ o. unwrap_or o blank) at_same
            ∙ sym (ap (λ t. cond t row (row_at nodes n)) (eq-eqb _ _ (ap (address_of nodes) same ∙ ap (λ o. (unwrap_or o blank).address) value ∙ sym address)))
        | inr other ↦
            ap (λ o. unwrap_or o blank) (at_other n other)
            ∙ sym (ap (λ t. cond t row (row_at nodes n)) (ne_eqb _ _ (λ e. other (k.single n node there here (e ∙ address ∙ sym (ap (λ o. (unwrap_or o blank).address) value))))))
      ]

  rows_now : rows_of (shown acap slots after) ≡ map (replaced row) (rows_of (shown acap slots nodes))
  rows_now =
      map_map (entry_of after) (λ (e : Entry). e.row) (listed nodes)
      ∙ map_in_same (row_at after) (λ n. replaced row (row_at nodes n)) (listed nodes) row_now
      ∙ sym (ap (map (replaced row)) (map_map (entry_of nodes) (λ (e : Entry). e.row) (listed nodes)) ∙ map_map (row_at nodes) (replaced row) (listed nodes))

  -- the list of a slot's dirty addresses
  at_home : (b : Bool) (xs : List ℕ) → ((m : ℕ) → is_in m xs ≡ true → is_in m (listed nodes) ≡ true)
      → map (address_of nodes) (cond b (node ∷ without node xs) (without node xs)) ≡ cond b (row.address ∷ without row.address (map (address_of nodes) xs)) (without row.address (map (address_of nodes) xs))
  at_home b xs inside = step b
    where
      rest : map (address_of nodes) (without node xs) ≡ without row.address (map (address_of nodes) xs)
      rest =
          sym (map_without (address_of nodes) old.address node xs (λ m h. tells k node live old value m (inside m h)))
          ∙ ap (λ a. without a (map (address_of nodes) xs)) (sym address)

      step : (t : Bool) → map (address_of nodes) (cond t (node ∷ without node xs) (without node xs)) ≡ cond t (row.address ∷ without row.address (map (address_of nodes) xs)) (without row.address (map (address_of nodes) xs))
      step false = rest
      step true = ap (λ a. a ∷ map (address_of nodes) (without node xs)) (ap (λ o. (unwrap_or o blank).address) value ∙ sym address) ∙ ap (λ (l : List ℕ). row.address ∷ l) rest

  owed_now : (slot : ℕ) → owed_to slot (shown acap slots after) ≡ owed_by slot row (owed_to slot (shown acap slots nodes))
  owed_now slot =
      elim (cases_lt slot slots) [
        | inl low ↦
            owed_low acap slots after written_matches.two slot low
            ∙ map_same (address_of after) (address_of nodes) (list_at slot after.referrers) address_same
            ∙ ap (map (address_of nodes)) (list_now slot)
            ∙ at_home (is_home slot (home_of slots row)) (list_at slot nodes.referrers) (λ m h. (and_parts _ _ (sym (k.referring slot m) ∙ h)).0)
            ∙ ap (λ t. cond t (row.address ∷ without row.address (map (address_of nodes) (list_at slot nodes.referrers))) (without row.address (map (address_of nodes) (list_at slot nodes.referrers)))) (dirty_home slots slot row.dirty row.link low)
            ∙ ap (owed_by slot row) (sym (owed_low acap slots nodes k.two slot low))
        | inr past ↦
            owed_past acap slots after written_matches.two slot past
            ∙ sym (ap (owed_by slot row) (owed_past acap slots nodes k.two slot past)
            ∙ ap (λ t. cond t (row.address ∷ []) []) (out row.dirty (no_slot slots slot row.link below (λ low. absurd (omega arith)))))
      ]
    where
      out : (d : Bool) → is_slot slot row.link ≡ false → (d && is_slot slot row.link) ≡ false
      out true e = e
      out false e = refl

  pub written_shown : Writes (shown acap slots nodes) (shown acap slots after) node row
  written_shown =
      record {
        entries = map_same (entry_of after) (λ n. written node row (entry_of nodes n)) (listed nodes) entry_now ∙ sym (map_map (entry_of nodes) (written node row) (listed nodes));
        rows = rows_now;
        dirty =
            map_same (address_of after) (address_of nodes) (reverse (waiting after)) address_same ∙ wait.addresses
            ∙ ap (λ a. cond row.dirty (with_dirty a (shown acap slots nodes).dirty) (without a (shown acap slots nodes).dirty)) (sym address);
        owed = owed_now;
        acap = refl;
        slots = refl;
      }
