-- Taking the links to a slot, one node after the other.
use Rattle.std.proofs.Common.{◌≡◌, ◌≢◌, inl, inr, ℕ, ◌+◌, ◌<◌, not, Bool, true, false, List, [], ◌∷◌, length, map, refl, sym, ◌∙◌, ap, subst, Some, None, cond, set, slice_get, reverse}
use Rattle.std.specs.Prelude.{◌&&◌, unwrap_or}
use Rattle.std.specs.List.{AllByRecursion}
use Rattle.std.proofs.lemmas.Bool.{cases_eq, both_ways, and_parts}
use Rattle.std.proofs.lemmas.List.{length-map}
use Rattle.dd_record.specs.declared.row.ARow.{ARow}
use Rattle.dd_record.specs.declared.row.Link.TheVariants.{Lost}
use Rattle.dd_record.specs.Table.{is_slot}
use Rattle.dd_lists.specs.Lists.{is_in, list_at, without, taken_out}
use Rattle.dd_lists.specs.Nodes.{Nodes, value_at, is_live}
use Rattle.dd_lists.proofs.Members.{in_cons, without_none, at_taken}
use Rattle.dd_index.specs.Index.{Index}
use Rattle.dd_meta.specs.Entries.{Entry, blank, unlinked, unlinked_row}
use Rattle.dd_meta.specs.Matching.{row_at, address_of, entry_of, listed, waiting, waiting_by, shown, home_of, is_home, with_row, with_lost, Matches, IsClean, Unlinks}
use Rattle.dd_meta.proofs.Numbers.{map_same, map_in_same, map_map, taken_none}
use Rattle.dd_meta.proofs.Homes.{clean_home, dirty_home}
use Rattle.dd_meta.proofs.Placed.{some_is}
use Rattle.dd_meta.proofs.Owed.{owed_same}
use Rattle.dd_meta.proofs.Waiting.{one_list}
use Rattle.dd_meta.proofs.Writing.{written_matches, at_same, at_other, address_same}

-- the rows of entries without their links
pub unlinked_rows : (slot : ℕ) (entries : List Entry) → map (λ (e : Entry). e.row) (map (unlinked slot) entries) ≡ map (unlinked_row slot) (map (λ (e : Entry). e.row) entries)
unlinked_rows slot [] = refl
unlinked_rows slot (e ∷ entries) = step (is_slot slot e.row.link) (unlinked_rows slot entries)
  where
    step : (b : Bool) → map (λ (x : Entry). x.row) (map (unlinked slot) entries) ≡ map (unlinked_row slot) (map (λ (x : Entry). x.row) entries)
        → (cond b (record { node = e.node; row = record { address = e.row.address; link = Lost; dirty = e.row.dirty; fp = e.row.fp } }) e).row ∷ map (λ (x : Entry). x.row) (map (unlinked slot) entries)
        ≡ cond b (record { address = e.row.address; link = Lost; dirty = e.row.dirty; fp = e.row.fp }) e.row ∷ map (unlinked_row slot) (map (λ (x : Entry). x.row) entries)
    step true later = ap (λ (l : List ARow). record { address = e.row.address; link = Lost; dirty = e.row.dirty; fp = e.row.fp } ∷ l) later
    step false later = ap (λ (l : List ARow). e.row ∷ l) later

-- what one node's link or more may have become
pub record Step (slot acap slots : ℕ) (index : Index) (old new : Nodes ARow) : Type 0 where
  pub matches : Matches acap slots new index
  pub clean : IsClean slot new
  pub entries : map (unlinked slot) (shown acap slots new).entries ≡ map (unlinked slot) (shown acap slots old).entries
  pub dirty : (shown acap slots new).dirty ≡ (shown acap slots old).dirty
  pub owed : (shown acap slots new).owed ≡ (shown acap slots old).owed

pub record Unlinking (slot slots : ℕ) (old new : Nodes ARow) : Type 0 where
  pub all : (acap : ℕ) (index : Index) → Matches acap slots old index → IsClean slot old → Step slot acap slots index old new
  pub one : length new.waiting ≡ 1
  pub two : length new.referrers ≡ slots + slots

abbrev pub lost : ARow → ARow
lost row = record { address = row.address; link = Lost; dirty = row.dirty; fp = row.fp }

no_and : (b : Bool) → b ≡ false → (c : Bool) → (b && c) ≡ false
no_and true e c = absurd (both_ways _ e refl)
no_and false e c = refl

not_true : (b : Bool) → not b ≡ true → b ≡ false
not_true true e = absurd (both_ways false refl e)
not_true false e = refl

-- the link of one clean node is taken
module _ (slot acap slots : ℕ) (index : Index) (nodes : Nodes ARow) (k : Matches acap slots nodes index) (clean : IsClean slot nodes) (node : ℕ) (here : is_in node (list_at (slots + slot) nodes.referrers) ≡ true)
    (old : ARow) (value : value_at node nodes ≡ Some old) where
  abbrev after : Nodes ARow
  after = with_row slots node (lost old) nodes

  row_old : row_at nodes node ≡ old
  row_old = ap (λ o. unwrap_or o blank) value

  parts : (is_in node (listed nodes) ≡ true) × (is_home (slots + slot) (home_of slots (row_at nodes node)) ≡ true)
  parts = and_parts _ _ (sym (k.referring (slots + slot) node) ∙ here)

  both : (not (row_at nodes node).dirty ≡ true) × (is_slot slot (row_at nodes node).link ≡ true)
  both = and_parts _ _ (sym (clean_home slots slot (row_at nodes node).dirty (row_at nodes node).link (k.below node parts.0)) ∙ parts.1)

  not_dirty : old.dirty ≡ false
  not_dirty = sym (ap (λ (r : ARow). r.dirty) row_old) ∙ not_true _ both.0

  linked_here : is_slot slot old.link ≡ true
  linked_here = sym (ap (λ (r : ARow). is_slot slot r.link) row_old) ∙ both.1

  live : is_live node nodes ≡ true
  live = k.live node ∙ parts.0

  same_waiting : after.waiting ≡ nodes.waiting
  same_waiting =
      ap (λ b. waiting_by b node nodes.waiting) not_dirty
      ∙ taken_none node nodes.waiting
      (one_list node nodes.waiting k.one_waiting ∙ k.waits node ∙ ap (λ t. t && (row_at nodes node).dirty) parts.0 ∙ ap (λ (r : ARow). r.dirty) row_old ∙ not_dirty)

  matches_after : Matches acap slots after index
  matches_after = written_matches k node live old (lost old) value refl (λ e. absurd (both_ways _ not_dirty e)) tt

  at_node : value_at node after ≡ Some (lost old)
  at_node = at_same k node live old (lost old) value refl (λ e. absurd (both_ways _ not_dirty e)) tt

  at_rest : (n : ℕ) → n ≢ node → value_at n after ≡ value_at n nodes
  at_rest = at_other k node live old (lost old) value refl (λ e. absurd (both_ways _ not_dirty e)) tt

  addresses : (n : ℕ) → address_of after n ≡ address_of nodes n
  addresses = address_same k node live old (lost old) value refl (λ e. absurd (both_ways _ not_dirty e)) tt

  entry : (n : ℕ) → unlinked slot (entry_of after n) ≡ unlinked slot (entry_of nodes n)
  entry n =
      elim (cases_eq n node) [
        | inl same ↦
            ap (λ i. unlinked slot (record { node = n; row = row_at after i })) same
            ∙ ap (λ o. unlinked slot (record { node = n; row = unwrap_or o blank })) at_node
            ∙ sym (ap (λ i. unlinked slot (record { node = n; row = row_at nodes i })) same
            ∙ ap (λ o. unlinked slot (record { node = n; row = unwrap_or o blank })) value
            ∙ ap (λ t. cond t (record { node = n; row = lost old }) (record { node = n; row = old })) linked_here)
        | inr other ↦ ap (λ o. unlinked slot (record { node = n; row = unwrap_or o blank })) (at_rest n other)
      ]

  owed_at : (other : ℕ) → other < slots → map (address_of after) (list_at other after.referrers) ≡ map (address_of nodes) (list_at other nodes.referrers)
  owed_at other low =
      map_same (address_of after) (address_of nodes) (list_at other after.referrers) addresses
      ∙ ap (map (address_of nodes)) (at_taken node other nodes.referrers ∙ without_none node (list_at other nodes.referrers) out)
    where
      out : is_in node (list_at other nodes.referrers) ≡ false
      out =
          k.referring other node ∙ ap (λ t. t && is_home other (home_of slots (row_at nodes node))) parts.0
          ∙ dirty_home slots other (row_at nodes node).dirty (row_at nodes node).link low ∙ no_and _ (not_true _ both.0) _

  pub unlink_one : Step slot acap slots index nodes after
  unlink_one =
      record {
        matches = matches_after;
        clean = λ n there link. elim (cases_eq n node) [
          | inl same ↦ absurd (both_ways false refl (sym (ap (λ i. is_slot slot (row_at after i).link) same ∙ ap (λ o. is_slot slot (unwrap_or o blank).link) at_node) ∙ link))
          | inr other ↦ ap (λ o. (unwrap_or o blank).dirty) (at_rest n other) ∙ clean n there (sym (ap (λ o. is_slot slot (unwrap_or o blank).link) (at_rest n other)) ∙ link)
        ];
        entries =
            map_map (entry_of after) (unlinked slot) (listed nodes)
            ∙ map_same (λ n. unlinked slot (entry_of after n)) (λ n. unlinked slot (entry_of nodes n)) (listed nodes) entry
            ∙ sym (map_map (entry_of nodes) (unlinked slot) (listed nodes));
        dirty =
            ap (λ lists. map (address_of after) (reverse (list_at 0 lists))) same_waiting
            ∙ map_same (address_of after) (address_of nodes) (reverse (waiting nodes)) addresses;
        owed = owed_same acap slots nodes after k.two matches_after.two owed_at;
      }

-- a further one
pub unlink_more : (slot slots : ℕ) (old nodes new : Nodes ARow) (node : ℕ) → Unlinking slot slots old nodes → is_in node (list_at (slots + slot) nodes.referrers) ≡ true → is_live node nodes ≡ true
    → new ≡ with_lost node nodes → Unlinking slot slots old new
unlink_more slot slots old nodes new node u here live is =
    record {
      all = λ acap index k clean.
          let so_far = u.all acap index k clean in
          let value = some_is (value_at node nodes) live in
          let step = unlink_one slot acap slots index nodes so_far.matches so_far.clean node here (row_at nodes node) value in
          let waits = same_waiting slot acap slots index nodes so_far.matches so_far.clean node here (row_at nodes node) value in
          subst (λ (n : Nodes ARow). Step slot acap slots index old n)
          (sym (is ∙ (λ i. record { values = set nodes.values node (Some (lost (row_at nodes node))); recency = nodes.recency; referrers = taken_out node nodes.referrers; waiting = sym waits i })))
          (record { matches = step.matches; clean = step.clean; entries = step.entries ∙ so_far.entries; dirty = step.dirty ∙ so_far.dirty; owed = step.owed ∙ so_far.owed });
      one = ap (λ (n : Nodes ARow). length n.waiting) is ∙ u.one;
      two = ap (λ (n : Nodes ARow). length n.referrers) is ∙ length-map nodes.referrers (without node) ∙ u.two;
    }

-- none is left
pub unlink_end : (slot slots : ℕ) (old nodes : Nodes ARow) → Unlinking slot slots old nodes → slice_get (list_at (slots + slot) nodes.referrers) 0 ≡ None → Unlinks slot slots old nodes
unlink_end slot slots old nodes u none =
    record {
      matches = λ acap index k clean. (u.all acap index k clean).matches;
      shows = λ acap index k clean.
          let so_far = u.all acap index k clean in
          let entries =
          sym (map_map (entry_of nodes) (unlinked slot) (listed nodes)
          ∙ map_in_same (λ n. unlinked slot (entry_of nodes n)) (entry_of nodes) (listed nodes)
          (λ n h. ap (λ t. cond t (record { node = n; row = lost (row_at nodes n) }) (entry_of nodes n)) (unlinked_all acap index so_far.matches so_far.clean n h)))
          ∙ so_far.entries in
          λ i. record { acap = acap; slots = slots; entries = entries i; dirty = so_far.dirty i; owed = so_far.owed i };
    }
  where
    empty : (xs : List ℕ) → slice_get xs 0 ≡ None → (n : ℕ) → is_in n xs ≡ false
    empty [] e n = refl
    empty (x ∷ xs) e n = absurd (cc)

    unlinked_all : (acap : ℕ) (index : Index) → Matches acap slots nodes index → IsClean slot nodes → (n : ℕ) → is_in n (listed nodes) ≡ true → is_slot slot (row_at nodes n).link ≡ false
    unlinked_all acap index k clean n h = by_test (is_slot slot (row_at nodes n).link) refl
      where
        none_here : (not (row_at nodes n).dirty && is_slot slot (row_at nodes n).link) ≡ false
        none_here =
            sym (clean_home slots slot (row_at nodes n).dirty (row_at nodes n).link (k.below n h))
            ∙ sym (ap (λ t. t && is_home (slots + slot) (home_of slots (row_at nodes n))) h) ∙ sym (k.referring (slots + slot) n) ∙ empty (list_at (slots + slot) nodes.referrers) none n

        by_test : (b : Bool) → is_slot slot (row_at nodes n).link ≡ b → b ≡ false
        by_test false e = refl
        by_test true e = absurd (both_ways false refl (sym none_here ∙ ap (λ d. not d && is_slot slot (row_at nodes n).link) (clean n h e) ∙ e))

-- rows without a dirty one that is linked to the slot
pub clean_from : (slot : ℕ) (nodes : Nodes ARow) → AllByRecursion (λ (row : ARow). is_slot slot row.link ≡ true → row.dirty ≡ false) (map (λ (e : Entry). e.row) (map (entry_of nodes) (listed nodes))) → IsClean slot nodes
clean_from slot nodes all = go (listed nodes) all
  where
    go : (xs : List ℕ) → AllByRecursion (λ (row : ARow). is_slot slot row.link ≡ true → row.dirty ≡ false) (map (λ (e : Entry). e.row) (map (entry_of nodes) xs))
        → (n : ℕ) → is_in n xs ≡ true → is_slot slot (row_at nodes n).link ≡ true → (row_at nodes n).dirty ≡ false
    go [] rest n h link = absurd (both_ways false refl h)
    go (x ∷ xs) rest n h link =
        elim (in_cons n x xs h) [
          | inl same ↦ ap (λ i. (row_at nodes i).dirty) same ∙ rest.0 (ap (λ i. is_slot slot (row_at nodes i).link) (sym same) ∙ link)
          | inr later ↦ go xs rest.1 n later link
        ]
