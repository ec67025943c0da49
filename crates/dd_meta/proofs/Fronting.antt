-- What bringing an address to the front makes of a metadata cache, listed before or new.
use Rattle.std.proofs.Common.{◌≡◌, inl, inr, ℕ, ◌+◌, ◌==◌, not, Bool, true, false, List, [], ◌∷◌, length, map, refl, sym, ◌∙◌, ap, subst, arith, Option, Some, cond, is_some, count_by}
use Rattle.std.specs.Prelude.{◌&&◌, ◌||◌, filter, find, option_map, option_and_then, unwrap_or, IfSome}
use Rattle.std.specs.List.{IsDistinct}
use Rattle.std.proofs.lemmas.Bool.{eq-eqb, ne_eqb, cases_eq, both_ways}
use Rattle.std.proofs.lemmas.List.{length-map}
use Rattle.dd_record.specs.declared.row.ARow.{ARow}
use Rattle.dd_record.specs.Table.{is_link, a_row}
use Rattle.dd_lists.specs.Lists.{is_in, list_at, without, fronted, moved_front}
use Rattle.dd_lists.specs.Nodes.{Nodes, value_at, is_live}
use Rattle.dd_lists.proofs.Members.{in_here, in_without_other, at_moved}
use Rattle.dd_index.specs.Index.{Index}
use Rattle.dd_meta.specs.Entries.{Entry, Meta, Brings, Writes, Fronts, Renews, blank, rows_of, node_of, row_of, written, dirty_by, owed_by}
use Rattle.dd_meta.specs.Matching.{row_at, address_of, entry_of, listed, shown, IsBelow, home_of, is_home, with_row, Matches}
use Rattle.dd_meta.proofs.Numbers.{map_in_same, map_map, head_out, fewer, filter_map}
use Rattle.dd_meta.proofs.Homes.{put_once}
use Rattle.dd_meta.proofs.Placed.{some_is}
use Rattle.dd_meta.proofs.Rows.{found_row, row_got}
use Rattle.dd_meta.proofs.Marking.{named_live, named_is}
use Rattle.dd_meta.proofs.Writing.{written_matches, written_shown}
use Rattle.dd_meta.proofs.Waiting.{tells}

-- a number taken out of its list and put in front of it
fronted_in : (n m : ℕ) (xs : List ℕ) → is_in n xs ≡ true → is_in m (n ∷ without n xs) ≡ is_in m xs
fronted_in n m xs here =
    elim (cases_eq m n) [
      | inl same ↦ ap (λ i. is_in i (n ∷ without n xs)) same ∙ in_here n (without n xs) ∙ sym here ∙ ap (λ i. is_in i xs) (sym same)
      | inr other ↦ ap (λ t. t || is_in m (without n xs)) (ne_eqb m n other) ∙ in_without_other m n xs (λ e. other (sym e))
    ]

-- rows of entries that pass a test on them
map_filter : (p : ARow → Bool) (es : List Entry) → map (λ (e : Entry). e.row) (filter (λ (e : Entry). not (p e.row)) es) ≡ filter (λ row. not (p row)) (map (λ (e : Entry). e.row) es)
map_filter p [] = refl
map_filter p (e ∷ es) = step (p e.row) (map_filter p es)
  where
    step : (b : Bool) → map (λ (x : Entry). x.row) (filter (λ (x : Entry). not (p x.row)) es) ≡ filter (λ row. not (p row)) (map (λ (x : Entry). x.row) es)
        → map (λ (x : Entry). x.row) (cond (not b) (e ∷ filter (λ (x : Entry). not (p x.row)) es) (filter (λ (x : Entry). not (p x.row)) es)) ≡ cond (not b) (e.row ∷ filter (λ row. not (p row)) (map (λ (x : Entry). x.row) es)) (filter (λ row. not (p row)) (map (λ (x : Entry). x.row) es))
    step true later = later
    step false later = ap (λ (l : List ARow). e.row ∷ l) later

-- a listed node
module _ {acap slots : ℕ} {nodes : Nodes ARow} {index : Index} (k : Matches acap slots nodes index) (node : ℕ) (here : is_in node (listed nodes) ≡ true) where
  abbrev pub moved : Nodes ARow
  moved = record { values = nodes.values; recency = moved_front node nodes.recency; referrers = nodes.referrers; waiting = nodes.waiting }

  order : listed moved ≡ node ∷ without node (listed nodes)
  order = at_moved node 0 nodes.recency ∙ ap (λ t. cond t (node ∷ without node (listed nodes)) (listed nodes)) here

  members : (n : ℕ) → is_in n (listed moved) ≡ is_in n (listed nodes)
  members n = ap (is_in n) order ∙ fronted_in node n (listed nodes) here

  pub moved_matches : Matches acap slots moved index
  moved_matches =
      record {
        some = k.some;
        room = k.room;
        keys = k.keys;
        one = length-map nodes.recency (fronted node) ∙ k.one;
        one_waiting = k.one_waiting;
        two = k.two;
        fits = k.fits;
        live = λ n. k.live n ∙ sym (members n);
        counted =
            let size : length (listed moved) ≡ length (node ∷ without node (listed nodes)) = ap (λ (l : List ℕ). length l) order in
            let less : length (without node (listed nodes)) + 1 ≡ length (listed nodes) = fewer node (listed nodes) k.distinct here in
            let was : count_by is_some nodes.values ≡ length (listed nodes) = k.counted in
            omega (arith, size, less, was);
        distinct = subst (λ (l : List ℕ). IsDistinct (λ x y. x == y) l) (sym order) (put_once true node (listed nodes) k.distinct);
        referring = λ list n. k.referring list n ∙ ap (λ t. t && is_home list (home_of slots (row_at nodes n))) (sym (members n));
        waits = λ n. k.waits n ∙ ap (λ t. t && (row_at nodes n).dirty) (sym (members n));
        once = k.once;
        each_once = k.each_once;
        linked = k.linked;
        below = λ n h. k.below n (sym (members n) ∙ h);
        indexed = λ n key. k.indexed n key ∙ ap (λ t. t && (address_of nodes n == key)) (sym (members n));
        single = λ n m h g e. k.single n m (sym (members n) ∙ h) (sym (members m) ∙ g) e;
      }

  pub moved_shown : (address : ℕ) → address_of nodes node ≡ address → node_of address (shown acap slots nodes) ≡ Some node → Brings (shown acap slots nodes) (shown acap slots moved) address node
  moved_shown address is named =
      record {
        row = row_at nodes node;
        is = is;
        known = λ known e. one_node (sym e ∙ named);
        entries =
            ap (map (entry_of nodes)) order
            ∙ ap (λ (l : List Entry). entry_of nodes node ∷ l) (sym (filter_map (λ (e : Entry). e.row.address == address) (entry_of nodes) node (listed nodes) apart));
        dirty = refl;
        owed = refl;
        acap = refl;
        slots = refl;
      }
    where
      live : is_live node nodes ≡ true
      live = k.live node ∙ here

      value : value_at node nodes ≡ Some (row_at nodes node)
      value = some_is (value_at node nodes) live

      one_node : {a b : ℕ} → Some a ≡ Some b → a ≡ b
      one_node e = cc

      turn : (a b : ℕ) → (a == b) ≡ (b == a)
      turn a b = elim (cases_eq a b) [ inl e ↦ eq-eqb a b e ∙ sym (eq-eqb b a (sym e)) | inr e ↦ ne_eqb a b e ∙ sym (ne_eqb b a (λ s. e (sym s))) ]

      apart : (m : ℕ) → is_in m (listed nodes) ≡ true → (address_of nodes m == address) ≡ (node == m)
      apart m h = turn (address_of nodes m) address ∙ ap (λ a. a == address_of nodes m) (sym is) ∙ tells k node live (row_at nodes node) value m h

  -- its row is the one that it had
  pub moved_renews : (address : ℕ) → address_of nodes node ≡ address → node_of address (shown acap slots nodes) ≡ Some node
      → IfSome (a_row address (rows_of (shown acap slots nodes))) (Renews (shown acap slots nodes) (shown acap slots moved))
  unfolding moved_shown
  moved_renews address is named = subst (λ (o : Option ARow). IfSome o (Renews (shown acap slots nodes) (shown acap slots moved))) (sym has) renews
    where
      row : ARow
      row = row_at nodes node

      brings : Brings (shown acap slots nodes) (shown acap slots moved) address node
      brings = moved_shown address is named

      has : a_row address (rows_of (shown acap slots nodes)) ≡ Some row
      has =
          sym (found_row k address) ∙ ap (option_and_then (λ n. row_of n (shown acap slots nodes))) named
          ∙ row_got k node row (k.live node ∙ here) (some_is (value_at node nodes) (k.live node ∙ here))

      entries : (shown acap slots moved).entries ≡ record { node = node; row = row } ∷ filter (λ (e : Entry). not (e.row.address == row.address)) (shown acap slots nodes).entries
      entries = brings.entries ∙ ap (λ a. record { node = node; row = row } ∷ filter (λ (e : Entry). not (e.row.address == a)) (shown acap slots nodes).entries) (sym is)

      renews : Renews (shown acap slots nodes) (shown acap slots moved) row
      renews =
          record {
            node = node;
            known = ap (λ a. node_of a (shown acap slots nodes)) is ∙ named;
            entries = entries;
            rows = ap (map (λ (e : Entry). e.row)) entries ∙ ap (λ (l : List ARow). row ∷ l) (map_filter (λ (other : ARow). other.address == row.address) (shown acap slots nodes).entries);
            dirty = refl;
            owed = refl;
            acap = refl;
            slots = refl;
          }

-- the row of an address that was brought in front
pub brought_row : (old new : Meta) (address node : ℕ) (b : Brings old new address node) → row_of node new ≡ Some b.row
brought_row old new address node b =
    ap (λ es. option_map (λ (e : Entry). e.row) (find (λ (e : Entry). e.node == node) es)) b.entries
    ∙ ap (λ t. option_map (λ (e : Entry). e.row) (cond t (Some (record { node = node; row = b.row })) (find (λ (e : Entry). e.node == node) (filter (λ (e : Entry). not (e.row.address == address)) old.entries)))) (eq-eqb node node refl)

pub brought : (old new : Meta) (address node : ℕ) → Brings old new address node → is_some (row_of node new) ≡ true
brought old new address node b = ap is_some (brought_row old new address node b)

-- and then written
module _ {acap slots : ℕ} {nodes : Nodes ARow} {index : Index} (k : Matches acap slots nodes index) (before now : Meta) (is : shown acap slots nodes ≡ now) (address node : ℕ) (b : Brings before now address node)
    (row : ARow) (own : row.address ≡ address) (linked : row.dirty ≡ true → is_link row.link ≡ true) (below : IsBelow before.slots row.link) (new : Nodes ARow) (after : new ≡ with_row slots node row nodes) where
  live : is_live node nodes ≡ true
  live = named_live k now is node (brought before now address node b)

  value : value_at node nodes ≡ Some (row_at nodes node)
  value = some_is (value_at node nodes) live

  named : b.row ≡ row_at nodes node
  named = sym (ap (λ o. unwrap_or o blank) (brought_row before now address node b)) ∙ named_is k now is node (brought before now address node b) (row_at nodes node) value

  keeps_address : row.address ≡ (row_at nodes node).address
  keeps_address = own ∙ sym b.is ∙ ap (λ (r : ARow). r.address) named

  low : IsBelow slots row.link
  low = subst (λ (n : ℕ). IsBelow n row.link) (sym b.slots ∙ sym (ap (λ (m : Meta). m.slots) is)) below

  pub front_matches : Matches acap slots new index
  front_matches = subst (λ (n : Nodes ARow). Matches acap slots n index) (sym after) (written_matches k node live (row_at nodes node) row value keeps_address linked low)

  writes : Writes now (shown acap slots new) node row
  writes =
      subst (λ (n : Nodes ARow). Writes now (shown acap slots n) node row) (sym after)
      (subst (λ (m : Meta). Writes m (shown acap slots (with_row slots node row nodes)) node row) is
      (written_shown k node live (row_at nodes node) row value keeps_address linked low))

  -- no other entry has the node
  alone : (xs : List ℕ) → IsDistinct (λ x y. x == y) xs → map (entry_of nodes) xs ≡ record { node = node; row = b.row } ∷ filter (λ (e : Entry). not (e.row.address == address)) before.entries
      → map (written node row) (filter (λ (e : Entry). not (e.row.address == address)) before.entries) ≡ filter (λ (e : Entry). not (e.row.address == address)) before.entries
  alone [] d e = absurd (cc)
  alone (x ∷ xs) d e =
      let first : entry_of nodes x ≡ record { node = node; row = b.row } = cc in
      let same : x ≡ node = ap (λ (y : Entry). y.node) first in
      let rest : map (entry_of nodes) xs ≡ filter (λ (y : Entry). not (y.row.address == address)) before.entries = cc in
      sym (ap (map (written node row)) rest)
      ∙ map_map (entry_of nodes) (written node row) xs
      ∙ map_in_same (λ n. written node row (entry_of nodes n)) (entry_of nodes) xs
      (λ n h. ap (λ t. cond t (record { node = n; row = row }) (entry_of nodes n)) (ne_eqb n node (λ it. both_ways _ (head_out x xs d) (ap (λ i. is_in i xs) (same ∙ sym it) ∙ h))))
      ∙ rest

  front_entries : (shown acap slots new).entries ≡ record { node = node; row = row } ∷ filter (λ (e : Entry). not (e.row.address == row.address)) before.entries
  front_entries =
      writes.entries ∙ ap (map (written node row)) b.entries
      ∙ ap (λ t. cond t (record { node = node; row = row }) (record { node = node; row = b.row }) ∷ map (written node row) (filter (λ (e : Entry). not (e.row.address == address)) before.entries)) (eq-eqb node node refl)
      ∙ ap (λ (l : List Entry). record { node = node; row = row } ∷ l) (alone (listed nodes) k.distinct (ap (λ (m : Meta). m.entries) is ∙ b.entries))
      ∙ ap (λ a. record { node = node; row = row } ∷ filter (λ (e : Entry). not (e.row.address == a)) before.entries) (sym own)

  front_rows : rows_of (shown acap slots new) ≡ row ∷ filter (λ (other : ARow). not (other.address == row.address)) (rows_of before)
  front_rows = ap (map (λ (e : Entry). e.row)) front_entries ∙ ap (λ (l : List ARow). row ∷ l) (map_filter (λ (other : ARow). other.address == row.address) before.entries)

  pub front_shown : Fronts before (shown acap slots new) row
  front_shown =
      record {
        node = node;
        known = λ known e. b.known known (ap (λ a. node_of a before) (sym own) ∙ e);
        entries = front_entries;
        rows = front_rows;
        dirty = writes.dirty ∙ ap (dirty_by row) b.dirty;
        owed = λ slot. writes.owed slot ∙ ap (λ lists. owed_by slot row (list_at slot lists)) b.owed;
        acap = writes.acap ∙ b.acap;
        slots = writes.slots ∙ b.slots;
      }
