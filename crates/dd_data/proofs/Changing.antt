-- What a slot moved to the front, a new one and one less make of a data cache.
use Rattle.std.proofs.Common.{◌≡◌, ◌≢◌, inl, inr, ℕ, suc, ◌+◌, ◌-◌, ◌<◌, ◌==◌, not, true, false, List, [], ◌∷◌, length, map, take, sym, ◌∙◌, ap, subst, arith, Option, Some, None, is_some, set, cond, slice_get}
use Rattle.std.specs.Prelude.{filter, option_map, unwrap_or, ◌||◌}
use Rattle.std.specs.List.{IsDistinct}
use Rattle.std.proofs.lemmas.Bool.{eq-eqb, ne_eqb, cases_eq, both_ways}
use Rattle.std.proofs.lemmas.List.{get_or-set_same, get_or-set_other, length-set, length-map, take-map}
use Rattle.dd_block.specs.declared.print.Fp.{Fp}
use Rattle.dd_record.specs.declared.row.BRow.{BRow}
use Rattle.dd_lists.specs.Lists.{Lists, is_in, is_listed, list_at, without, fronted, put_front, taken_out, moved_front}
use Rattle.dd_lists.proofs.Members.{in_here, in_without_other, gone, distinct_without, distinct_front, at_taken, at_moved, at_put, none_from, unlisted_from, listed_from, in_range}
use Rattle.dd_lists.proofs.Found.{got_in_list}
use Rattle.dd_index.specs.Index.{Index, nodes_of, Inserts, Removes, Fronts}
use Rattle.dd_index.proofs.Under.{filter_in, filter_same, filter_without, filter_fronted}
use Rattle.dd_data.specs.Blocks.{Data, in_front, fronted_row, last_row}
use Rattle.dd_data.specs.Matching.{key_of, print_at, is_held, print_of, row_at, is_under, listed, shown, Matches}
use Rattle.dd_data.proofs.Mapped.{filter_map, map_in_same, length_without, without_last}
use Rattle.dd_data.proofs.Shown.{held_low, has_row, last_rows}

-- in the only list, where a list has it
in_only : (n l : ℕ) (lists : List (List ℕ)) → length lists ≡ 1 → is_in n (list_at l lists) ≡ true → is_in n (list_at 0 lists) ≡ true
in_only n l lists one there =
    let within = in_range l n lists there in
    let first : l ≡ 0 = omega (arith, within, one) in
    ap (λ i. is_in n (list_at i lists)) (sym first) ∙ there

module _ {bcap count : ℕ} {recency : Lists} {index : Index} {prints : List (Option Fp)} (k : Matches bcap count recency index prints) (n : ℕ) where
  -- in the one list, or in none
  pub in_lists : is_in n (listed recency) ≡ true → is_listed n recency.lists ≡ true
  in_lists here = listed_from n 0 recency.lists here

  pub out_of_lists : is_in n (listed recency) ≡ false → is_listed n recency.lists ≡ false
  out_of_lists out = unlisted_from n recency.lists (λ l. none_from (is_in n (list_at l recency.lists)) (λ there. both_ways _ out (in_only n l recency.lists k.one there)))

  pub out_of_index : is_in n (listed recency) ≡ false → (key : ℕ) → is_in n (nodes_of key index) ≡ false
  out_of_index out key = none_from (is_in n (nodes_of key index)) (λ h. both_ways _ out (filter_in (is_under prints key) n (listed recency) (sym (ap (is_in n) (k.indexed key)) ∙ h)).0)

  -- a slot that is listed is moved to the front
  module _ (here : is_in n (listed recency) ≡ true) where
    listed_moved : list_at 0 (moved_front n recency.lists) ≡ n ∷ without n (listed recency)
    listed_moved = at_moved n 0 recency.lists ∙ ap (λ t. cond t (n ∷ without n (listed recency)) (listed recency)) here

    members_moved : (m : ℕ) → is_in m (list_at 0 (moved_front n recency.lists)) ≡ is_in m (listed recency)
    members_moved m =
        ap (is_in m) listed_moved
        ∙ elim (cases_eq m n) [
          | inl same ↦ ap (λ i. is_in i (n ∷ without n (listed recency))) same ∙ in_here n (without n (listed recency)) ∙ sym (ap (λ i. is_in i (listed recency)) same ∙ here)
          | inr other ↦ ap (λ t. t || is_in m (without n (listed recency))) (ne_eqb m n other) ∙ in_without_other m n (listed recency) (λ e. other (sym e))
        ]

    pub moved_matches : (new : Lists) (index' : Index) → new ≡ record recency { lists = moved_front n recency.lists } → Fronts index index' n → Matches bcap count new index' prints
    moved_matches new index' new_is fronts =
        let P : Lists → Type 0 = λ v. Matches bcap count v index' prints in
        subst P (sym new_is) (record {
          some = k.some;
          room = k.room;
          keys = fronts.room ∙ k.keys;
          one = length-map recency.lists (fronted n) ∙ k.one;
          few = k.few;
          counted = k.counted ∙ sym (length_without n (listed recency) k.distinct here) ∙ ap (λ (l : List ℕ). length l) (sym listed_moved);
          held = λ m. k.held m ∙ sym (members_moved m);
          distinct = subst (λ (xs : List ℕ). IsDistinct (λ x y. x == y) xs) (sym listed_moved) (distinct_front n (without n (listed recency)) (gone n (listed recency)) (distinct_without n (listed recency) k.distinct));
          indexed = λ key. fronts.nodes key ∙ ap (fronted n) (k.indexed key) ∙ sym (filter_fronted (is_under prints key) n (listed recency)) ∙ ap (filter (is_under prints key)) (sym (at_moved n 0 recency.lists));
        })

    -- what the rows become
    others : filter (λ (other : BRow). not (other.slot == n)) (map (row_at prints) (listed recency)) ≡ map (row_at prints) (without n (listed recency))
    others =
        filter_map (λ (other : BRow). not (other.slot == n)) (row_at prints) (listed recency)
        ∙ ap (map (row_at prints)) (filter_same (λ m. not (m == n)) (λ m. not (n == m)) (listed recency) same)
      where
        same : (m : ℕ) → is_in m (listed recency) ≡ true → not (m == n) ≡ not (n == m)
        same m h =
            elim (cases_eq n m) [
              | inl is_it ↦ ap not (eq-eqb m n (sym is_it) ∙ sym (eq-eqb n m is_it))
              | inr other ↦ ap not (ne_eqb m n (λ e. other (sym e)) ∙ sym (ne_eqb n m other))
            ]

    moved_rows : map (row_at prints) (list_at 0 (moved_front n recency.lists)) ≡ fronted_row n (map (row_at prints) (listed recency))
    moved_rows =
        ap (map (row_at prints)) listed_moved
        ∙ ap (λ (l : List BRow). row_at prints n ∷ l) (sym others)
        ∙ ap (λ (o : Option BRow). in_front o (map (row_at prints) (listed recency))) (sym (has_row k n here))

    pub moved_view : (now : Data) (new : Lists) → new ≡ record recency { lists = moved_front n recency.lists } → shown bcap recency prints ≡ now
        → shown bcap new prints ≡ record now { rows = fronted_row n now.rows }
    moved_view now new new_is now_is =
        ap (λ (m : Lists). shown bcap m prints) new_is
        ∙ (λ i. record { bcap = bcap; slots = length prints; rows = moved_rows i })
        ∙ ap (λ (d : Data). record { bcap = d.bcap; slots = d.slots; rows = fronted_row n d.rows }) now_is

  -- a new slot in front
  module _ (fp : Fp) (low : n < length prints) (out : is_in n (listed recency) ≡ false) where
    listed_added : list_at 0 (put_front 0 n recency.lists) ≡ n ∷ listed recency
    listed_added = at_put 0 n recency.lists (omega (arith, k.one))

    held_here : print_at (set prints n (Some fp)) n ≡ Some fp
    held_here = get_or-set_same prints n (Some fp) None low

    held_other : (m : ℕ) → m ≢ n → print_at (set prints n (Some fp)) m ≡ print_at prints m
    held_other m other = get_or-set_other prints n m (Some fp) None other

    print_here : print_of (set prints n (Some fp)) n ≡ fp
    print_here = ap (λ (o : Option Fp). unwrap_or o (record { 0 = [] })) held_here

    print_other : (m : ℕ) → is_in m (listed recency) ≡ true → print_of (set prints n (Some fp)) m ≡ print_of prints m
    print_other m h = ap (λ (o : Option Fp). unwrap_or o (record { 0 = [] })) (held_other m (λ e. both_ways _ out (ap (λ i. is_in i (listed recency)) (sym e) ∙ h)))

    added_rows : map (row_at (set prints n (Some fp))) (list_at 0 (put_front 0 n recency.lists)) ≡ record { slot = n; fp = fp } ∷ map (row_at prints) (listed recency)
    added_rows =
        ap (map (row_at (set prints n (Some fp)))) listed_added
        ∙ ap (λ (f : Fp). record { slot = n; fp = f } ∷ map (row_at (set prints n (Some fp))) (listed recency)) print_here
        ∙ ap (λ (l : List BRow). record { slot = n; fp = fp } ∷ l) (map_in_same (row_at (set prints n (Some fp))) (row_at prints) (listed recency) (λ m h. ap (λ (f : Fp). record { slot = m; fp = f }) (print_other m h)))

    pub added_view : (now : Data) (new : Lists) → new ≡ record recency { lists = put_front 0 n recency.lists } → shown bcap recency prints ≡ now
        → shown bcap new (set prints n (Some fp)) ≡ record now { rows = record { slot = n; fp = fp } ∷ now.rows }
    added_view now new new_is now_is =
        ap (λ (m : Lists). shown bcap m (set prints n (Some fp))) new_is
        ∙ (λ i. record { bcap = bcap; slots = length-set prints n (Some fp) i; rows = added_rows i })
        ∙ ap (λ (d : Data). record { bcap = d.bcap; slots = d.slots; rows = record { slot = n; fp = fp } ∷ d.rows }) now_is

    pub added_matches : (new : Lists) (index' : Index) → count < bcap → new ≡ record recency { lists = put_front 0 n recency.lists } → Inserts index index' (key_of fp) n → Matches bcap (count + 1) new index' (set prints n (Some fp))
    added_matches new index' room new_is inserts =
        let P : Lists → Type 0 = λ v. Matches bcap (count + 1) v index' (set prints n (Some fp)) in
        let size : length (list_at 0 (put_front 0 n recency.lists)) ≡ suc (length (listed recency)) = ap (λ (l : List ℕ). length l) listed_added in
        let same_size = length-set prints n (Some fp) in
        subst P (sym new_is) (record {
          some = k.some;
          room = k.room ∙ sym same_size;
          keys = inserts.room ∙ k.keys ∙ sym same_size;
          one = length-set recency.lists 0 (n ∷ listed recency) ∙ k.one;
          few = omega (arith, room);
          counted = omega (arith, k.counted, size);
          held = λ m. elim (cases_eq m n) [
            | inl same ↦ ap (is_held (set prints n (Some fp))) same ∙ ap is_some held_here ∙ sym (ap (is_in m) listed_added ∙ ap (λ i. is_in i (n ∷ listed recency)) same ∙ in_here n (listed recency))
            | inr other ↦ ap is_some (held_other m other) ∙ k.held m ∙ sym (ap (is_in m) listed_added ∙ ap (λ t. t || is_in m (listed recency)) (ne_eqb m n other))
          ];
          distinct = subst (λ (xs : List ℕ). IsDistinct (λ x y. x == y) xs) (sym listed_added) (distinct_front n (listed recency) out k.distinct);
          indexed = λ key. inserts.nodes key
              ∙ ap (λ (l : List ℕ). cond (key_of fp == key) (n ∷ l) l) (k.indexed key ∙ filter_same (is_under prints key) (is_under (set prints n (Some fp)) key) (listed recency) (λ m h. ap (λ (f : Fp). key_of f == key) (sym (print_other m h))))
              ∙ ap (λ (f : Fp). cond (key_of f == key) (n ∷ filter (is_under (set prints n (Some fp)) key) (listed recency)) (filter (is_under (set prints n (Some fp)) key) (listed recency))) (sym print_here)
              ∙ ap (filter (is_under (set prints n (Some fp)) key)) (sym listed_added);
        })

  -- the last slot is taken away
  module _ (last : slice_get (listed recency) (length (listed recency) - 1) ≡ Some n) where
    pub was_in : is_in n (listed recency) ≡ true
    was_in = got_in_list n (length (listed recency) - 1) (listed recency) last

    listed_dropped : list_at 0 (taken_out n recency.lists) ≡ without n (listed recency)
    listed_dropped = at_taken n 0 recency.lists

    low : n < length prints
    low = held_low prints n (k.held n ∙ was_in)

    still : (m : ℕ) → is_in m (without n (listed recency)) ≡ true → m ≢ n
    still m h same = both_ways _ (gone n (listed recency)) (ap (λ i. is_in i (without n (listed recency))) (sym same) ∙ h)

    print_still : (m : ℕ) → is_in m (without n (listed recency)) ≡ true → print_of (set prints n None) m ≡ print_of prints m
    print_still m h = ap (λ (o : Option Fp). unwrap_or o (record { 0 = [] })) (get_or-set_other prints n m None None (still m h))

    dropped_rows : map (row_at (set prints n None)) (list_at 0 (taken_out n recency.lists)) ≡ take (length (map (row_at prints) (listed recency)) - 1) (map (row_at prints) (listed recency))
    dropped_rows =
        ap (map (row_at (set prints n None))) listed_dropped
        ∙ map_in_same (row_at (set prints n None)) (row_at prints) (without n (listed recency)) (λ m h. ap (λ (f : Fp). record { slot = m; fp = f }) (print_still m h))
        ∙ ap (map (row_at prints)) (without_last n (listed recency) k.distinct last)
        ∙ sym (take-map (row_at prints) (length (listed recency) - 1) (listed recency))
        ∙ ap (λ i. take (i - 1) (map (row_at prints) (listed recency))) (sym (length-map (listed recency) (row_at prints)))

    pub last_is : last_row (map (row_at prints) (listed recency)) ≡ Some (row_at prints n)
    last_is = last_rows prints (listed recency) ∙ ap (option_map (row_at prints)) last

    pub dropped_view : (now : Data) (new : Lists) → new ≡ record recency { lists = taken_out n recency.lists } → shown bcap recency prints ≡ now
        → shown bcap new (set prints n None) ≡ record now { rows = take (length now.rows - 1) now.rows }
    dropped_view now new new_is now_is =
        ap (λ (m : Lists). shown bcap m (set prints n None)) new_is
        ∙ (λ i. record { bcap = bcap; slots = length-set prints n None i; rows = dropped_rows i })
        ∙ ap (λ (d : Data). record { bcap = d.bcap; slots = d.slots; rows = take (length d.rows - 1) d.rows }) now_is

    pub dropped_matches : (new : Lists) (index' : Index) → new ≡ record recency { lists = taken_out n recency.lists } → Removes index index' n → Matches bcap (count - 1) new index' (set prints n None)
    dropped_matches new index' new_is removes =
        let P : Lists → Type 0 = λ v. Matches bcap (count - 1) v index' (set prints n None) in
        let size : length (list_at 0 (taken_out n recency.lists)) ≡ length (without n (listed recency)) = ap (λ (l : List ℕ). length l) listed_dropped in
        let less : suc (length (without n (listed recency))) ≡ length (listed recency) = length_without n (listed recency) k.distinct was_in in
        subst P (sym new_is) (record {
          some = k.some;
          room = k.room ∙ sym (length-set prints n None);
          keys = removes.room ∙ k.keys ∙ sym (length-set prints n None);
          one = length-map recency.lists (without n) ∙ k.one;
          few = omega (arith, k.few);
          counted = omega (arith, k.counted, size, less);
          held = λ m. elim (cases_eq m n) [
            | inl same ↦ ap (is_held (set prints n None)) same ∙ ap is_some (get_or-set_same prints n None None low) ∙ sym (ap (is_in m) listed_dropped ∙ ap (λ i. is_in i (without n (listed recency))) same ∙ gone n (listed recency))
            | inr other ↦ ap is_some (get_or-set_other prints n m None None other) ∙ k.held m ∙ sym (ap (is_in m) listed_dropped ∙ in_without_other m n (listed recency) (λ e. other (sym e)))
          ];
          distinct = subst (λ (xs : List ℕ). IsDistinct (λ x y. x == y) xs) (sym listed_dropped) (distinct_without n (listed recency) k.distinct);
          indexed = λ key. removes.nodes key ∙ ap (without n) (k.indexed key) ∙ sym (filter_without (is_under prints key) n (listed recency))
              ∙ filter_same (is_under prints key) (is_under (set prints n None) key) (without n (listed recency)) (λ m h. ap (λ (f : Fp). key_of f == key) (sym (print_still m h)))
              ∙ ap (filter (is_under (set prints n None) key)) (sym listed_dropped);
        })
