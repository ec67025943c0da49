-- What a metadata cache that matches shows, as facts on what it shows.
use Rattle.std.proofs.Common.{◌≡◌, inl, inr, ℕ, ◌<◌, ◌≤◌, ◌==◌, Bool, true, false, List, [], ◌∷◌, ◌++◌, length, map, refl, sym, ◌∙◌, ap, subst, arith, Option, Some, None, reverse, count_by, is_some}
use Rattle.std.specs.Prelude.{◌&&◌, ◌||◌, find, option_map}
use Rattle.std.specs.List.{AllByRecursion, IsDistinct, list_any}
use Rattle.std.proofs.lemmas.Bool.{eq-eqb, ne_eqb, eqb-true, both_ways, cases_lt, and_parts, or_cases, or_left, or_right}
use Rattle.std.proofs.lemmas.List.{length-map}
use Rattle.std.proofs.lemmas.List.Sums.{count_by-le-length}
use Rattle.dd_record.specs.declared.row.ARow.{ARow}
use Rattle.dd_record.specs.Table.{is_slot, is_dirty_at, is_dirty, IsDirtyLinked}
use Rattle.dd_lists.specs.Lists.{is_in, list_at}
use Rattle.dd_lists.specs.Nodes.{Nodes}
use Rattle.dd_lists.proofs.Members.{in_cons, in_here, in_later, distinct_none, distinct_front}
use Rattle.dd_index.specs.Index.{Index}
use Rattle.dd_meta.specs.Entries.{Entry, rows_of, owed_to}
use Rattle.dd_meta.specs.Matching.{row_at, address_of, entry_of, listed, waiting, shown, IsBelow, Matches}
use Rattle.dd_meta.specs.Keeping.{is_owed, IsMeta}
use Rattle.dd_meta.proofs.Numbers.{map_map, in_reverse, rev_cons, head_out, rest_distinct}
use Rattle.dd_meta.proofs.Homes.{dirty_home, no_slot}
use Rattle.dd_meta.proofs.Owed.{owed_low, owed_past, owed_size}
use Rattle.dd_meta.proofs.Rows.{find_map, find_in, find_out}
use Rattle.dd_meta.proofs.Stepping.{mapped_from}
use Rattle.dd_meta.proofs.Walking.{mapped_once, owed_once, wait_inside}

pub bool_same : (a b : Bool) → (a ≡ true → b ≡ true) → (b ≡ true → a ≡ true) → a ≡ b
bool_same true b to from = sym (to refl)
bool_same false true to from = from refl
bool_same false false to from = refl

pub and_true : (a b : Bool) → a ≡ true → b ≡ true → (a && b) ≡ true
and_true true b h e = e
and_true false b h e = h

in_map : (f : ℕ → ℕ) (n : ℕ) (xs : List ℕ) → is_in n xs ≡ true → is_in (f n) (map f xs) ≡ true
in_map f n [] h = h
in_map f n (x ∷ xs) h =
    elim (in_cons n x xs h) [
      | inl same ↦ or_left (f n == f x) (is_in (f n) (map f xs)) (eq-eqb (f n) (f x) (ap f same))
      | inr later ↦ or_right (f n == f x) (is_in (f n) (map f xs)) (in_map f n xs later)
    ]

-- distinct numbers back to front
last_apart : (n : ℕ) (xs : List ℕ) → is_in n xs ≡ false → IsDistinct (λ a b. a == b) xs → IsDistinct (λ a b. a == b) (xs ++ n ∷ [])
last_apart n [] out d = distinct_front n [] refl distinct_none
last_apart n (x ∷ xs) out d =
    distinct_front x (xs ++ n ∷ []) (later xs (head_out x xs d)) (last_apart n xs (rest_out (n == x) out) (rest_distinct x xs d))
  where
    rest_out : (b : Bool) → (b || is_in n xs) ≡ false → is_in n xs ≡ false
    rest_out true e = absurd (both_ways _ e refl)
    rest_out false e = e

    head_no : (b : Bool) → (b || is_in n xs) ≡ false → b ≡ false
    head_no true e = e
    head_no false e = refl

    later : (ys : List ℕ) → is_in x ys ≡ false → is_in x (ys ++ n ∷ []) ≡ false
    later [] e = ap (λ t. t || false) (ne_eqb x n (λ same. both_ways _ (head_no (n == x) out) (eq-eqb n x (sym same))))
    later (y ∷ ys) e = step (x == y) e (later ys)
      where
        step : (b : Bool) → (b || is_in x ys) ≡ false → (is_in x ys ≡ false → is_in x (ys ++ n ∷ []) ≡ false) → (b || is_in x (ys ++ n ∷ [])) ≡ false
        step true h go = h
        step false h go = go h

back_apart : (xs : List ℕ) → IsDistinct (λ a b. a == b) xs → IsDistinct (λ a b. a == b) (reverse xs)
back_apart [] d = d
back_apart (x ∷ xs) d =
    subst (λ (l : List ℕ). IsDistinct (λ a b. a == b) l) (sym (rev_cons x xs)) (last_apart x (reverse xs) (in_reverse x xs ∙ head_out x xs d) (back_apart xs (rest_distinct x xs d)))

module _ {acap slots : ℕ} {nodes : Nodes ARow} {index : Index} (k : Matches acap slots nodes index) where
  pub rows_are : rows_of (shown acap slots nodes) ≡ map (row_at nodes) (listed nodes)
  rows_are = map_map (entry_of nodes) (λ (e : Entry). e.row) (listed nodes)

  -- facts on each row, and on some row
  all_rows : (P : ARow → Type 0) (xs : List ℕ) → ((n : ℕ) → is_in n xs ≡ true → P (row_at nodes n)) → AllByRecursion P (map (row_at nodes) xs)
  all_rows P [] each = tt
  all_rows P (x ∷ xs) each = (each x (in_here x xs), all_rows P xs (λ n h. each n (in_later n x xs h)))

  pub any_row : (p : ARow → Bool) (xs : List ℕ) (n : ℕ) → is_in n xs ≡ true → p (row_at nodes n) ≡ true → list_any p (map (row_at nodes) xs) ≡ true
  any_row p [] n h e = absurd (both_ways false refl h)
  any_row p (x ∷ xs) n h e =
      elim (in_cons n x xs h) [
        | inl same ↦ or_left (p (row_at nodes x)) _ (ap (λ i. p (row_at nodes i)) (sym same) ∙ e)
        | inr later ↦ or_right (p (row_at nodes x)) _ (any_row p xs n later e)
      ]

  pub some_row : (p : ARow → Bool) (xs : List ℕ) → list_any p (map (row_at nodes) xs) ≡ true → (n : ℕ) × (is_in n xs ≡ true) × (p (row_at nodes n) ≡ true)
  some_row p [] h = absurd (both_ways false refl h)
  some_row p (x ∷ xs) h =
      elim (or_cases (p (row_at nodes x)) (list_any p (map (row_at nodes) xs)) h) [
        | inl here ↦ (x, in_here x xs, here)
        | inr later ↦ let found = some_row p xs later in (found.0, in_later found.0 x xs found.1, found.2)
      ]

  rows_apart : (xs : List ℕ) → ((m : ℕ) → is_in m xs ≡ true → is_in m (listed nodes) ≡ true) → IsDistinct (λ a b. a == b) xs → IsDistinct (λ (x y : ARow). x.address == y.address) (map (row_at nodes) xs)
  unfolding IsDistinct
  rows_apart [] inside d = tt
  rows_apart (x ∷ xs) inside d = (
    all_rows (λ (row : ARow). (address_of nodes x == row.address) ≡ false) xs
        (λ n h. ne_eqb _ _ (λ e. both_ways _ (head_out x xs d) (ap (λ i. is_in i xs) (k.single x n (inside x (in_here x xs)) (inside n (in_later n x xs h)) e) ∙ h))),
    rows_apart xs (λ m h. inside m (in_later m x xs h)) (rest_distinct x xs d),
  )

  nodes_apart : (xs : List ℕ) → IsDistinct (λ a b. a == b) xs → IsDistinct (λ (x y : Entry). x.node == y.node) (map (entry_of nodes) xs)
  unfolding IsDistinct
  nodes_apart [] d = tt
  nodes_apart (x ∷ xs) d = (each xs d.0, nodes_apart xs d.1)
    where
      each : (ys : List ℕ) → AllByRecursion (λ y. (x == y) ≡ false) ys → AllByRecursion (λ (e : Entry). (x == e.node) ≡ false) (map (entry_of nodes) ys)
      each [] all = tt
      each (y ∷ ys) all = (all.0, each ys all.1)

  linked_row : (n : ℕ) → is_in n (listed nodes) ≡ true → IsDirtyLinked (row_at nodes n)
  linked_row n h dirty = k.linked n (k.waits n ∙ and_true _ _ h dirty)

  dirty_row : (address : ℕ) → is_in address (shown acap slots nodes).dirty ≡ is_dirty_at address (map (row_at nodes) (listed nodes))
  dirty_row address = by_find (find (λ n. address_of nodes n == address) (listed nodes)) refl ∙ sym (ap is_dirty (find_map (λ (row : ARow). row.address == address) (row_at nodes) (listed nodes)))
    where
      by_find : (o : Option ℕ) → find (λ n. address_of nodes n == address) (listed nodes) ≡ o → is_in address (map (address_of nodes) (reverse (waiting nodes))) ≡ is_dirty (option_map (row_at nodes) o)
      by_find None e =
          bool_same _ false
          (λ h.
          let found = mapped_from (address_of nodes) address (reverse (waiting nodes)) h in
          absurd (find_out (λ n. address_of nodes n == address) (listed nodes) found.0 e (wait_inside k found.0 found.1) (eq-eqb _ _ found.2)))
          (λ h. absurd (both_ways false refl h))
      by_find (Some n) e =
          let it = find_in (λ m. address_of nodes m == address) (listed nodes) n e in
          bool_same _ (row_at nodes n).dirty
          (λ h.
          let found = mapped_from (address_of nodes) address (reverse (waiting nodes)) h in
          let same : found.0 ≡ n = k.single found.0 n (wait_inside k found.0 found.1) it.0 (found.2 ∙ sym (eqb-true _ _ it.1)) in
          ap (λ i. (row_at nodes i).dirty) (sym same) ∙ (and_parts _ _ (sym (k.waits found.0) ∙ sym (in_reverse found.0 (waiting nodes)) ∙ found.1)).1)
          (λ h.
          ap (λ a. is_in a (map (address_of nodes) (reverse (waiting nodes)))) (sym (eqb-true _ _ it.1))
          ∙ in_map (address_of nodes) n (reverse (waiting nodes)) (in_reverse n (waiting nodes) ∙ k.waits n ∙ and_true _ _ it.0 h))

  swap : (a b : Bool) → (a && b) ≡ (b && a)
  swap true true = refl
  swap true false = refl
  swap false true = refl
  swap false false = refl

  owed_row : (slot address : ℕ) → is_in address (owed_to slot (shown acap slots nodes)) ≡ list_any (λ row. is_owed slot row && address == row.address) (map (row_at nodes) (listed nodes))
  owed_row slot address =
      elim (cases_lt slot slots) [
        | inl low ↦ ap (is_in address) (owed_low acap slots nodes k.two slot low) ∙ bool_same _ _ (to low) (from low)
        | inr high ↦
            ap (is_in address) (owed_past acap slots nodes k.two slot high)
            ∙ bool_same false _ (λ h. absurd (both_ways false refl h))
            (λ h.
            let found = some_row (λ row. is_owed slot row && address == row.address) (listed nodes) h in
            let both = and_parts _ _ (and_parts _ _ found.2).0 in
            absurd (both_ways _ (no_slot slots slot (row_at nodes found.0).link (k.below found.0 found.1) (λ low. absurd (omega arith))) both.0))
      ]
    where
      to : slot < slots → is_in address (map (address_of nodes) (list_at slot nodes.referrers)) ≡ true → list_any (λ row. is_owed slot row && address == row.address) (map (row_at nodes) (listed nodes)) ≡ true
      to low h =
          let found = mapped_from (address_of nodes) address (list_at slot nodes.referrers) h in
          let parts = and_parts _ _ (sym (k.referring slot found.0) ∙ found.1) in
          let owed = sym (dirty_home slots slot (row_at nodes found.0).dirty (row_at nodes found.0).link low) ∙ parts.1 in
          any_row (λ row. is_owed slot row && address == row.address) (listed nodes) found.0 parts.0
          (and_true _ _ (swap (is_slot slot (row_at nodes found.0).link) (row_at nodes found.0).dirty ∙ owed) (eq-eqb _ _ (sym found.2)))

      from : slot < slots → list_any (λ row. is_owed slot row && address == row.address) (map (row_at nodes) (listed nodes)) ≡ true → is_in address (map (address_of nodes) (list_at slot nodes.referrers)) ≡ true
      from low h =
          let found = some_row (λ row. is_owed slot row && address == row.address) (listed nodes) h in
          let parts = and_parts _ _ found.2 in
          ap (λ a. is_in a (map (address_of nodes) (list_at slot nodes.referrers))) (eqb-true _ _ parts.1)
          ∙ in_map (address_of nodes) found.0 (list_at slot nodes.referrers)
          (k.referring slot found.0
          ∙ and_true _ _ found.1 (dirty_home slots slot (row_at nodes found.0).dirty (row_at nodes found.0).link low ∙ swap (row_at nodes found.0).dirty (is_slot slot (row_at nodes found.0).link) ∙ parts.0))

  once_at : (slot : ℕ) → IsDistinct (λ x y. x == y) (owed_to slot (shown acap slots nodes))
  once_at slot =
      elim (cases_lt slot slots) [
        | inl low ↦ owed_once k slot low
        | inr high ↦ subst (λ (l : List ℕ). IsDistinct (λ x y. x == y) l) (sym (owed_past acap slots nodes k.two slot high)) distinct_none
      ]

  few : length (shown acap slots nodes).entries ≤ acap
  few =
      let was : count_by is_some nodes.values ≡ length (listed nodes) = k.counted in
      omega (arith, length-map (listed nodes) (entry_of nodes), was, count_by-le-length is_some nodes.values, k.room)

  pub meta_kept : IsMeta (shown acap slots nodes)
  meta_kept =
      record {
        some = omega (arith, k.some);
        few = few;
        nodes = nodes_apart (listed nodes) k.distinct;
        sized = owed_size acap slots nodes k.two;
        addresses = subst (λ (l : List ARow). IsDistinct (λ (x y : ARow). x.address == y.address) l) (sym rows_are) (rows_apart (listed nodes) (λ m h. h) k.distinct);
        linked = subst (λ (l : List ARow). AllByRecursion IsDirtyLinked l) (sym rows_are) (all_rows IsDirtyLinked (listed nodes) linked_row);
        below = subst (λ (l : List ARow). AllByRecursion (λ (row : ARow). IsBelow slots row.link) l) (sym rows_are) (all_rows (λ (row : ARow). IsBelow slots row.link) (listed nodes) k.below);
        dirty = λ address. dirty_row address ∙ ap (is_dirty_at address) (sym rows_are);
        dirty_once = mapped_once k (reverse (waiting nodes)) (wait_inside k) (back_apart (waiting nodes) k.once);
        owed = λ slot address. owed_row slot address ∙ ap (list_any (λ row. is_owed slot row && address == row.address)) (sym rows_are);
        owed_once = once_at;
      }
