-- What a metadata cache shows.
use Rattle.std.proofs.Common.{◌≡◌, ◌≢◌, inl, inr, ℕ, zero, suc, ◌+◌, ◌-◌, ◌<◌, ◌^◌, ◌==◌, Bool, true, false, List, [], ◌∷◌, length, map, refl, sym, ◌∙◌, ap, subst, arith, Option, Some, None, get_or, cond, slice_get, replicate, take, is_some, count_by, reverse}
use Rattle.std.specs.Prelude.{find, ◌||◌, ◌&&◌, option_map, option_and_then, unwrap_or}
use Rattle.std.specs.List.{list_any, IsDistinct}
use Rattle.std.proofs.lemmas.Bool.{eqb-true, eqb-false, eq-eqb, ne_eqb, both_ways, and_parts}
use Rattle.std.proofs.lemmas.List.{length-map, length-replicate, get_or-reverse, length-reverse, take-replicate}
use Rattle.std.proofs.lemmas.List.Sums.{sum_by-cons}
use Rattle.std.proofs.lemmas.Option.{slice_get-map}
use Rattle.dd_record.specs.declared.row.ARow.{ARow}
use Rattle.dd_record.specs.Table.{a_row}
use Rattle.dd_record.specs.Listed.{row_behind}
use Rattle.dd_lists.specs.Lists.{is_in, list_at, behind}
use Rattle.dd_lists.specs.Nodes.{Nodes, value_at, is_live, node_count}
use Rattle.dd_lists.proofs.Members.{in_cons, in_here, in_later, distinct_none}
use Rattle.dd_lists.proofs.Found.{first_in_list}
use Rattle.dd_index.specs.Index.{Index, nodes_of}
use Rattle.dd_meta.specs.Entries.{Entry, blank, rows_of, node_of, row_of, is_listed_address}
use Rattle.dd_meta.proofs.Numbers.{map_map}
use Rattle.dd_meta.specs.Matching.{row_at, address_of, entry_of, listed, waiting, shown, Matches}

-- searches in lists of nodes
pub find_map : {X : Type 0} (p : X → Bool) (f : ℕ → X) (xs : List ℕ) → find p (map f xs) ≡ option_map f (find (λ n. p (f n)) xs)
find_map p f [] = refl
find_map p f (x ∷ xs) = step (p (f x)) (find_map p f xs)
  where
    step : (b : Bool) → find p (map f xs) ≡ option_map f (find (λ n. p (f n)) xs) → cond b (Some (f x)) (find p (map f xs)) ≡ option_map f (cond b (Some x) (find (λ n. p (f n)) xs))
    step true later = refl
    step false later = later

pub find_in : (p : ℕ → Bool) (xs : List ℕ) (n : ℕ) → find p xs ≡ Some n → (is_in n xs ≡ true) × (p n ≡ true)
find_in p [] n h = absurd (cc)
find_in p (x ∷ xs) n h = step (p x) refl (find_in p xs n) h
  where
    step : (b : Bool) → p x ≡ b → (find p xs ≡ Some n → (is_in n xs ≡ true) × (p n ≡ true)) → cond b (Some x) (find p xs) ≡ Some n → (is_in n (x ∷ xs) ≡ true) × (p n ≡ true)
    step true passes later e = let same : x ≡ n = cc in (ap (λ i. is_in i (x ∷ xs)) (sym same) ∙ in_here x xs, ap p (sym same) ∙ passes)
    step false passes later e = let found = later e in (in_later n x xs found.0, found.1)

pub find_out : (p : ℕ → Bool) (xs : List ℕ) (n : ℕ) → find p xs ≡ None → is_in n xs ≡ true → p n ≡ true → ⊥
find_out p [] n h there passes = both_ways false refl there
find_out p (x ∷ xs) n h there passes = step (λ e later. find_out p xs n e later passes) (p x) refl h
  where
    step : (find p xs ≡ None → is_in n xs ≡ true → ⊥) → (b : Bool) → p x ≡ b → cond b (Some x) (find p xs) ≡ None → ⊥
    step later true e h = cc
    step later false e h =
        elim (in_cons n x xs there) [
          | inl same ↦ both_ways _ e (ap p (sym same) ∙ passes)
          | inr rest ↦ later h rest
        ]

pub find_itself : (n : ℕ) (xs : List ℕ) → is_in n xs ≡ true → find (λ m. m == n) xs ≡ Some n
find_itself n [] h = absurd (both_ways false refl h)
find_itself n (x ∷ xs) h =
    elim (in_cons n x xs h) [
      | inl same ↦ ap (λ b. cond b (Some x) (find (λ m. m == n) xs)) (eq-eqb x n (sym same)) ∙ ap Some (sym same)
      | inr later ↦ step (x == n) refl (find_itself n xs later)
    ]
  where
    step : (b : Bool) → (x == n) ≡ b → find (λ m. m == n) xs ≡ Some n → cond b (Some x) (find (λ m. m == n) xs) ≡ Some n
    step true e later = ap Some (eqb-true x n e)
    step false e later = later

pub got_within : (xs : List ℕ) (i d : ℕ) → i < length xs → slice_get xs i ≡ Some (get_or xs i d)
got_within [] i d h = absurd (omega arith)
got_within (x ∷ xs) zero d h = refl
got_within (x ∷ xs) (suc i) d h = got_within xs i d (omega arith)

last_first : (xs : List ℕ) → slice_get xs (length xs - 1) ≡ slice_get (reverse xs) 0
last_first [] = refl
last_first (x ∷ xs) =
    let some : 0 < length (x ∷ xs) = omega arith in
    let none_less : length (x ∷ xs) - 1 - 0 ≡ length (x ∷ xs) - 1 = omega arith in
    got_within (x ∷ xs) (length (x ∷ xs) - 1) 0 (omega arith)
    ∙ ap (λ i. Some (get_or (x ∷ xs) i 0)) (sym none_less)
    ∙ ap Some (sym (get_or-reverse (x ∷ xs) 0 0 some))
    ∙ sym (got_within (reverse (x ∷ xs)) 0 0 (omega (arith, length-reverse (x ∷ xs))))

any_find : {X : Type 0} (p : X → Bool) (xs : List X) → list_any p xs ≡ is_some (find p xs)
any_find p [] = refl
any_find p (x ∷ xs) = step (p x) (any_find p xs)
  where
    step : (b : Bool) → list_any p xs ≡ is_some (find p xs) → (b || list_any p xs) ≡ is_some (cond b (Some x) (find p xs))
    step true later = refl
    step false later = later

-- a list whose members are all one number begins with it
head_only : (xs : List ℕ) (o : Option ℕ) → ((n : ℕ) → o ≡ Some n → is_in n xs ≡ true) → ((n m : ℕ) → o ≡ Some n → is_in m xs ≡ true → m ≡ n) → (o ≡ None → (m : ℕ) → is_in m xs ≡ true → ⊥) → slice_get xs 0 ≡ o
head_only [] None has only none = refl
head_only [] (Some n) has only none = absurd (both_ways false refl (has n refl))
head_only (x ∷ xs) None has only none = absurd (none refl x (in_here x xs))
head_only (x ∷ xs) (Some n) has only none = ap Some (only n x refl (in_here x xs))

and_true : (a b : Bool) → a ≡ true → b ≡ true → (a && b) ≡ true
and_true true b h e = e
and_true false b h e = h

module _ {acap slots : ℕ} {nodes : Nodes ARow} {index : Index} (k : Matches acap slots nodes index) where
  -- the node of an address
  pub found_is : (address : ℕ) → slice_get (nodes_of address index) 0 ≡ node_of address (shown acap slots nodes)
  found_is address =
      head_only (nodes_of address index) (find test (listed nodes))
      (λ n e. let found = find_in test (listed nodes) n e in k.indexed n address ∙ and_true _ _ found.0 found.1)
      (λ n m e h.
      let found = find_in test (listed nodes) n e in
      let here = and_parts _ _ (sym (k.indexed m address) ∙ h) in
      k.single m n here.0 found.0 (eqb-true _ _ here.1 ∙ sym (eqb-true _ _ found.1)))
      (λ e m h. let here = and_parts _ _ (sym (k.indexed m address) ∙ h) in find_out test (listed nodes) m e here.0 here.1)
      ∙ sym (ap (option_map (λ (e : Entry). e.node)) (find_map (λ (e : Entry). e.row.address == address) entry (listed nodes)) ∙ same (find test (listed nodes)))
    where
      test : ℕ → Bool
      test n = (row_at nodes n).address == address

      entry : ℕ → Entry
      entry n = record { node = n; row = row_at nodes n }

      same : (o : Option ℕ) → option_map (λ (e : Entry). e.node) (option_map entry o) ≡ o
      same None = refl
      same (Some n) = refl

  pub found_in : (address n : ℕ) → node_of address (shown acap slots nodes) ≡ Some n → (is_in n (listed nodes) ≡ true) × ((row_at nodes n).address ≡ address)
  found_in address n h =
      let there : is_in n (nodes_of address index) ≡ true = first_in_list n (nodes_of address index) (found_is address ∙ h) in
      let here = and_parts _ _ (sym (k.indexed n address) ∙ there) in
      (here.0, eqb-true _ _ here.1)

  -- the row of a node
  pub row_is : (node : ℕ) → row_of node (shown acap slots nodes) ≡ option_map (row_at nodes) (find (λ n. n == node) (listed nodes))
  row_is node = ap (option_map (λ (e : Entry). e.row)) (find_map (λ (e : Entry). e.node == node) entry (listed nodes)) ∙ same (find (λ n. n == node) (listed nodes))
    where
      entry : ℕ → Entry
      entry n = record { node = n; row = row_at nodes n }

      same : (o : Option ℕ) → option_map (λ (e : Entry). e.row) (option_map entry o) ≡ option_map (row_at nodes) o
      same None = refl
      same (Some n) = refl

  -- the row of an address, by its node
  pub found_row : (address : ℕ) → option_and_then (λ n. row_of n (shown acap slots nodes)) (node_of address (shown acap slots nodes)) ≡ a_row address (rows_of (shown acap slots nodes))
  found_row address =
      ap (λ o. option_and_then (λ n. row_of n (shown acap slots nodes)) (option_map (λ (e : Entry). e.node) o)) (find_map (λ (e : Entry). e.row.address == address) (entry_of nodes) (listed nodes))
      ∙ by_find (find (λ n. address_of nodes n == address) (listed nodes)) refl
      ∙ sym (ap (λ rows. find (λ row. row.address == address) rows) (map_map (entry_of nodes) (λ e. e.row) (listed nodes)) ∙ find_map (λ (row : ARow). row.address == address) (row_at nodes) (listed nodes))
    where
      by_find : (o : Option ℕ) → find (λ n. address_of nodes n == address) (listed nodes) ≡ o
          → option_and_then (λ n. row_of n (shown acap slots nodes)) (option_map (λ (e : Entry). e.node) (option_map (entry_of nodes) o)) ≡ option_map (row_at nodes) o
      by_find None e = refl
      by_find (Some n) e =
          let found = find_in (λ m. address_of nodes m == address) (listed nodes) n e in
          row_is n ∙ ap (option_map (row_at nodes)) (find_itself n (listed nodes) found.0)

  pub row_live : (node : ℕ) → is_some (row_of node (shown acap slots nodes)) ≡ true → is_live node nodes ≡ true
  row_live node h = k.live node ∙ by_find (find (λ n. n == node) (listed nodes)) refl (sym (ap is_some (row_is node)) ∙ h)
    where
      by_find : (o : Option ℕ) → find (λ n. n == node) (listed nodes) ≡ o → is_some (option_map (row_at nodes) o) ≡ true → is_in node (listed nodes) ≡ true
      by_find None e some = absurd (both_ways false refl some)
      by_find (Some n) e some =
          let found = find_in (λ n. n == node) (listed nodes) n e in
          ap (λ i. is_in i (listed nodes)) (sym (eqb-true n node found.1)) ∙ found.0

  pub row_got : (node : ℕ) (row : ARow) → is_live node nodes ≡ true → value_at node nodes ≡ Some row → row_of node (shown acap slots nodes) ≡ Some row
  row_got node row live value = row_is node ∙ by_find (find (λ n. n == node) (listed nodes)) refl
    where
      by_find : (o : Option ℕ) → find (λ n. n == node) (listed nodes) ≡ o → option_map (row_at nodes) o ≡ Some row
      by_find None e = absurd (find_out (λ n. n == node) (listed nodes) node e (sym (k.live node) ∙ live) (eq-eqb node node refl))
      by_find (Some n) e =
          let found = find_in (λ n. n == node) (listed nodes) n e in
          ap (λ i. Some (row_at nodes i)) (eqb-true n node found.1) ∙ ap (λ o. Some (unwrap_or o blank)) value

  pub found_some : (address n : ℕ) → node_of address (shown acap slots nodes) ≡ Some n → is_some (row_of n (shown acap slots nodes)) ≡ true
  found_some address n h = ap is_some (row_is n ∙ ap (option_map (row_at nodes)) (find_itself n (listed nodes) (found_in address n h).0))

  -- the addresses at the ends
  pub first_is : option_map (row_at nodes) (slice_get (listed nodes) 0) ≡ (slice_get (rows_of (shown acap slots nodes)) 0)
  first_is = by_list (listed nodes)
    where
      by_list : (xs : List ℕ) → option_map (row_at nodes) (slice_get xs 0) ≡ (slice_get (map (λ (e : Entry). e.row) (map (λ n. record { node = n; row = row_at nodes n }) xs)) 0)
      by_list [] = refl
      by_list (x ∷ xs) = refl

  pub oldest_is : option_map (λ n. (row_at nodes n).address) (slice_get (waiting nodes) (length (waiting nodes) - 1)) ≡ slice_get (shown acap slots nodes).dirty 0
  oldest_is =
      ap (option_map (λ n. (row_at nodes n).address)) (last_first (waiting nodes))
      ∙ sym (slice_get-map (λ n. (row_at nodes n).address) (reverse (waiting nodes)) 0)

  -- the row behind that of an address
  pub behind_is : (address n : ℕ) → is_in n (listed nodes) ≡ true → (row_at nodes n).address ≡ address
      → option_map (row_at nodes) (behind n (listed nodes)) ≡ (row_behind (λ row. row.address == address) (rows_of (shown acap slots nodes)))
  behind_is address n here is = go (listed nodes) here (λ m h e. k.single m n h here (e ∙ sym is))
    where
      go : (xs : List ℕ) → is_in n xs ≡ true → ((m : ℕ) → is_in m xs ≡ true → (row_at nodes m).address ≡ address → m ≡ n)
          → option_map (row_at nodes) (behind n xs) ≡ (row_behind (λ row. row.address == address) (map (λ (e : Entry). e.row) (map (λ m. record { node = m; row = row_at nodes m }) xs)))
      go [] h only = absurd (both_ways false refl h)
      go (x ∷ xs) h only = step (n == x) refl (λ later. go xs later (λ m i e. only m (in_later m x xs i) e))
        where
          rest : List ARow
          rest = map (λ (e : Entry). e.row) (map (λ m. record { node = m; row = row_at nodes m }) xs)

          heads : (ys : List ℕ) → option_map (row_at nodes) (slice_get ys 0) ≡ (slice_get (map (λ (e : Entry). e.row) (map (λ m. record { node = m; row = row_at nodes m }) ys)) 0)
          heads [] = refl
          heads (y ∷ ys) = refl

          step : (b : Bool) → (n == x) ≡ b → (is_in n xs ≡ true → option_map (row_at nodes) (behind n xs) ≡ (row_behind (λ row. row.address == address) rest))
              → option_map (row_at nodes) (cond b (slice_get xs 0) (behind n xs)) ≡ (cond ((row_at nodes x).address == address) (slice_get rest 0) (row_behind (λ row. row.address == address) rest))
          step true e later =
              heads xs
              ∙ sym (ap (λ t. (cond t (slice_get rest 0) (row_behind (λ row. row.address == address) rest)))
              (eq-eqb (row_at nodes x).address address (sym (ap (λ m. (row_at nodes m).address) (eqb-true n x e)) ∙ is)))
          step false e later =
              elim (in_cons n x xs h) [
                | inl same ↦ absurd (eqb-false n x e same)
                | inr there ↦
                    later there
                    ∙ sym (ap (λ t. (cond t (slice_get rest 0) (row_behind (λ row. row.address == address) rest)))
                    (ne_eqb (row_at nodes x).address address (λ own. eqb-false n x e (sym (only x (in_here x xs) own)))))
              ]

  pub behind_none : (address : ℕ) → node_of address (shown acap slots nodes) ≡ None → row_behind (λ row. row.address == address) (rows_of (shown acap slots nodes)) ≡ None
  behind_none address h = go (listed nodes) h
    where
      go : (xs : List ℕ) → option_map (λ (e : Entry). e.node) (find (λ (e : Entry). e.row.address == address) (map (λ m. record { node = m; row = row_at nodes m }) xs)) ≡ None
          → row_behind (λ row. row.address == address) (map (λ (e : Entry). e.row) (map (λ m. record { node = m; row = row_at nodes m }) xs)) ≡ None
      go [] e = refl
      go (x ∷ xs) e = step ((row_at nodes x).address == address) (go xs) e
        where
          step : (b : Bool) → (option_map (λ (e : Entry). e.node) (find (λ (e : Entry). e.row.address == address) (map (λ m. record { node = m; row = row_at nodes m }) xs)) ≡ None
              → row_behind (λ row. row.address == address) (map (λ (e : Entry). e.row) (map (λ m. record { node = m; row = row_at nodes m }) xs)) ≡ None)
              → option_map (λ (e : Entry). e.node) (cond b (Some (record { node = x; row = row_at nodes x })) (find (λ (e : Entry). e.row.address == address) (map (λ m. record { node = m; row = row_at nodes m }) xs))) ≡ None
              → cond b (slice_get (map (λ (e : Entry). e.row) (map (λ m. record { node = m; row = row_at nodes m }) xs)) 0) (row_behind (λ row. row.address == address) (map (λ (e : Entry). e.row) (map (λ m. record { node = m; row = row_at nodes m }) xs))) ≡ None
          step true later none = absurd (cc)
          step false later none = later none

  -- whether an address is listed
  pub listed_address : (address : ℕ) → is_listed_address address (shown acap slots nodes) ≡ is_some (node_of address (shown acap slots nodes))
  listed_address address = any_find (λ (e : Entry). e.row.address == address) (shown acap slots nodes).entries ∙ kept (find (λ (e : Entry). e.row.address == address) (shown acap slots nodes).entries)
    where
      kept : (o : Option Entry) → is_some o ≡ is_some (option_map (λ (e : Entry). e.node) o)
      kept None = refl
      kept (Some e) = refl

  pub out_of : (address : ℕ) → node_of address (shown acap slots nodes) ≡ None → is_listed_address address (shown acap slots nodes) ≡ false
  out_of address none = listed_address address ∙ ap is_some none

  -- the node that the index gives for an address
  pub first_in : (address key n : ℕ) (o : Option ℕ) → o ≡ slice_get (nodes_of key index) 0 → key ≡ address → o ≡ Some n → (is_in n (listed nodes) ≡ true) × (address_of nodes n ≡ address)
  first_in address key n o first same is = found_in address n (sym (found_is address) ∙ ap (λ a. slice_get (nodes_of a index) 0) (sym same) ∙ sym first ∙ is)

  pub first_node : (address key n : ℕ) (o : Option ℕ) → o ≡ slice_get (nodes_of key index) 0 → key ≡ address → o ≡ Some n → node_of address (shown acap slots nodes) ≡ Some n
  first_node address key n o first same is = sym (found_is address) ∙ ap (λ a. slice_get (nodes_of a index) 0) (sym same) ∙ sym first ∙ is

  pub first_out : (address key : ℕ) (o : Option ℕ) → o ≡ slice_get (nodes_of key index) 0 → key ≡ address → o ≡ None → is_listed_address address (shown acap slots nodes) ≡ false
  first_out address key o first same is = out_of address (sym (found_is address) ∙ ap (λ a. slice_get (nodes_of a index) 0) (sym same) ∙ sym first ∙ is)

  -- no listed node has an address that the index knows nothing of
  pub none_has : (address key n : ℕ) (o : Option ℕ) → o ≡ slice_get (nodes_of key index) 0 → key ≡ address → o ≡ None → is_in n (listed nodes) ≡ true → address_of nodes n ≢ address
  none_has address key n o first same is here own =
      both_ways _ (empty (nodes_of key index) (sym first ∙ is) n) (k.indexed n key ∙ and_true _ _ here (eq-eqb _ _ (own ∙ sym same)))
    where
      empty : (xs : List ℕ) → slice_get xs 0 ≡ None → (m : ℕ) → is_in m xs ≡ false
      empty [] e m = refl
      empty (x ∷ xs) e m = absurd (cc)

  pub entry_count : length (shown acap slots nodes).entries ≡ node_count nodes
  entry_count = length-map (listed nodes) (λ node. record { node = node; row = row_at nodes node }) ∙ sym k.counted

-- nothing is listed in new nodes
abbrev no_row : Option ARow
no_row = None

no_values : (n : ℕ) → count_by is_some (replicate n no_row) ≡ 0
no_values zero = refl
no_values (suc n) = omega (arith, sum_by-cons (λ o. cond (is_some o) 1 0) no_row (replicate n no_row), no_values n)

no_value : (n i : ℕ) → get_or (replicate n no_row) i no_row ≡ no_row
no_value zero i = refl
no_value (suc n) zero = refl
no_value (suc n) (suc i) = no_value n i

abbrev no_nodes : List ℕ
no_nodes = []

pub no_list : (n i : ℕ) → list_at i (replicate n []) ≡ []
no_list zero i = refl
no_list (suc n) zero = refl
no_list (suc n) (suc i) = no_list n i

pub new_matches : (acap slots lists : ℕ) (nodes : Nodes ARow) (index : Index) → 0 < acap → lists ≡ slots + slots → slots + slots < 2 ^ 32 → nodes ≡ record { values = replicate acap None; recency = replicate 1 []; referrers = replicate lists []; waiting = replicate 1 [] }
    → length index.keys ≡ acap → ((key : ℕ) → nodes_of key index ≡ []) → Matches acap slots nodes index
new_matches acap slots lists nodes index some both fits is keys empty =
    let P : Nodes ARow → Type 0 = λ n. Matches acap slots n index in
    subst P (sym is) (record {
      some = some;
      room = length-replicate acap no_row;
      keys = keys;
      one = refl;
      one_waiting = refl;
      two = length-replicate lists no_nodes ∙ both;
      fits = fits;
      live = λ n. ap is_some (no_value acap n);
      counted = no_values acap;
      distinct = distinct_none;
      referring = λ list n. ap (is_in n) (no_list lists list);
      waits = λ n. refl;
      once = distinct_none;
      each_once = λ list. subst (λ (l : List ℕ). IsDistinct (λ x y. x == y) l) (sym (no_list lists list)) distinct_none;
      linked = λ n h. absurd (both_ways false refl h);
      below = λ n h. absurd (both_ways false refl h);
      indexed = λ n key. ap (is_in n) (empty key);
      single = λ n m h g e. absurd (both_ways false refl h);
    })

map_empty : (f : ℕ → ℕ) (n : ℕ) → map (map f) (replicate n no_nodes) ≡ replicate n no_nodes
map_empty f zero = refl
map_empty f (suc n) = ap (λ (l : List (List ℕ)). no_nodes ∷ l) (map_empty f n)

pub new_view : (acap slots lists : ℕ) (nodes : Nodes ARow) → lists ≡ slots + slots → nodes ≡ record { values = replicate acap None; recency = replicate 1 []; referrers = replicate lists []; waiting = replicate 1 [] }
    → shown acap slots nodes ≡ record { acap = acap; slots = slots; entries = []; dirty = []; owed = replicate slots [] }
new_view acap slots lists nodes both is = ap (shown acap slots) is ∙ λ i. record { acap = acap; slots = slots; entries = []; dirty = []; owed = owed i }
  where
    none : Nodes ARow
    none = record { values = replicate acap None; recency = replicate 1 []; referrers = replicate lists []; waiting = replicate 1 [] }

    owed : map (map (address_of none)) (take slots (replicate lists no_nodes)) ≡ replicate slots no_nodes
    owed = ap (map (map (address_of none))) (take-replicate slots lists no_nodes (omega (arith, both))) ∙ map_empty (address_of none) slots
