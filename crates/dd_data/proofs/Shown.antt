-- What a data cache shows.
use Rattle.std.proofs.Common.{◌≡◌, ◌≢◌, inl, inr, ℕ, ◌-◌, ◌<◌, ◌==◌, Bool, true, false, List, [], ◌∷◌, length, map, refl, sym, ◌∙◌, ap, subst, arith, Option, Some, None, cond, slice_get, is_some}
use Rattle.std.specs.Prelude.{filter, option_map, unwrap_or, ◌||◌, ◌&&◌}
use Rattle.std.specs.Str.{bytes_eq}
use Rattle.std.specs.List.{IsDistinct}
use Rattle.std.proofs.lemmas.Bool.{eqb-true, eq-eqb, ne_eqb, and_from, cases_eq, cases_lt, both_ways}
use Rattle.std.proofs.lemmas.Bool.Decides.{Decides-eqb}
use Rattle.std.proofs.lemmas.List.{length-map, get_or_past}
use Rattle.std.proofs.lemmas.List.Kept.{AllPairs-filter}
use Rattle.std.proofs.lemmas.Map.Made.{AllPairs-from_IsDistinct, IsDistinct-from_AllPairs}
use Rattle.std.proofs.lemmas.Option.{slice_get-map}
use Rattle.std.proofs.lemmas.Slice.Eq.{bytes_eq-Decides}
use Rattle.dd_block.specs.declared.print.Fp.{Fp}
use Rattle.dd_record.specs.declared.row.BRow.{BRow}
use Rattle.dd_record.specs.Table.{b_row}
use Rattle.dd_record.specs.Listed.{row_behind}
use Rattle.dd_lists.specs.Lists.{Lists, is_in, behind}
use Rattle.dd_lists.proofs.Members.{none_from}
use Rattle.dd_index.specs.Index.{Index, nodes_of}
use Rattle.dd_index.specs.Chains.{from_on}
use Rattle.dd_index.proofs.Under.{filter_in, in_filter, on_head, behind_filter}
use Rattle.dd_data.specs.Blocks.{alike, last_row, IsData}
use Rattle.dd_data.specs.Matching.{key_of, print_at, is_held, print_of, row_at, has_print, is_under, listed, shown, Matches}
use Rattle.dd_data.proofs.Mapped.{filter_map, filter_filter, all_map, distinct_map, behind_map, behind_none}

-- one fingerprint has one key
pub same_key : (a b : Fp) → bytes_eq a.0 b.0 ≡ true → key_of a ≡ key_of b
same_key a b same = ap (λ l. key_of (record { 0 = l })) ((bytes_eq-Decides a.0 b.0).0 same)

distinct_filter : (p : ℕ → Bool) (xs : List ℕ) → IsDistinct (λ x y. x == y) xs → IsDistinct (λ x y. x == y) (filter p xs)
distinct_filter p xs d = IsDistinct-from_AllPairs Decides-eqb (filter p xs) (AllPairs-filter (λ x y. x ≢ y) p xs (AllPairs-from_IsDistinct Decides-eqb xs d))

-- what has a fingerprint is one of the slots
pub held_low : (prints : List (Option Fp)) (slot : ℕ) → is_held prints slot ≡ true → slot < length prints
held_low prints slot h =
    elim (cases_lt slot (length prints)) [
      | inl within ↦ within
      | inr past ↦ absurd (both_ways _ (ap is_some (get_or_past prints slot None past)) h)
    ]

-- the last row
pub last_rows : (prints : List (Option Fp)) (xs : List ℕ) → last_row (map (row_at prints) xs) ≡ option_map (row_at prints) (slice_get xs (length xs - 1))
last_rows prints xs = slice_get-map (row_at prints) xs (length (map (row_at prints) xs) - 1) ∙ ap (λ i. option_map (row_at prints) (slice_get xs (i - 1))) (length-map xs (row_at prints))

-- the row of a slot
pub row_is : (prints : List (Option Fp)) (slot : ℕ) (xs : List ℕ) → b_row slot (map (row_at prints) xs) ≡ cond (is_in slot xs) (Some (row_at prints slot)) None
row_is prints slot [] = refl
row_is prints slot (x ∷ xs) =
    elim (cases_eq slot x) [
      | inl same ↦
          ap (λ b. cond b (Some (row_at prints x)) (b_row slot (map (row_at prints) xs))) (eq-eqb x slot (sym same))
          ∙ ap (λ s. Some (row_at prints s)) (sym same)
          ∙ sym (ap (λ b. cond (b || is_in slot xs) (Some (row_at prints slot)) None) (eq-eqb slot x same))
      | inr other ↦
          ap (λ b. cond b (Some (row_at prints x)) (b_row slot (map (row_at prints) xs))) (ne_eqb x slot (λ e. other (sym e)))
          ∙ row_is prints slot xs
          ∙ sym (ap (λ b. cond (b || is_in slot xs) (Some (row_at prints slot)) None) (ne_eqb slot x other))
    ]

module _ {bcap count : ℕ} {recency : Lists} {index : Index} {prints : List (Option Fp)} (k : Matches bcap count recency index prints) where
  abbrev rows : List BRow
  rows = map (row_at prints) (listed recency)

  pub count_is : count ≡ length (map (row_at prints) (listed recency))
  count_is = k.counted ∙ sym (length-map (listed recency) (row_at prints))

  pub data_is : IsData (shown bcap recency prints)
  data_is =
      record {
        some = omega (arith, k.some);
        few = omega (arith, count_is, k.few);
        below = all_map (λ (row : BRow). row.slot < length prints) (row_at prints) (listed recency) (λ slot h. held_low prints slot (k.held slot ∙ h));
        apart = distinct_map (λ (x y : BRow). x.slot == y.slot) (row_at prints) (listed recency) k.distinct (λ m n h g e. eqb-true m n e);
      }

  pub held_in : (slot : ℕ) → is_held prints slot ≡ true → is_in slot (listed recency) ≡ true
  held_in slot h = sym (k.held slot) ∙ h

  pub has_row : (slot : ℕ) → is_in slot (listed recency) ≡ true → b_row slot rows ≡ Some (row_at prints slot)
  has_row slot h = row_is prints slot (listed recency) ∙ ap (λ b. cond b (Some (row_at prints slot)) None) h

  pub no_row : (slot : ℕ) → is_in slot (listed recency) ≡ false → b_row slot rows ≡ None
  no_row slot h = row_is prints slot (listed recency) ∙ ap (λ b. cond b (Some (row_at prints slot)) None) h

  pub found_is : (slot : ℕ) (fp : Fp) → print_at prints slot ≡ Some fp → b_row slot rows ≡ Some (record { slot = slot; fp = fp })
  found_is slot fp is = has_row slot (held_in slot (ap is_some is)) ∙ ap (λ (o : Option Fp). Some (record { slot = slot; fp = unwrap_or o (record { 0 = [] }) })) is

  pub lost_is : (slot : ℕ) → print_at prints slot ≡ None → b_row slot rows ≡ None
  lost_is slot is = no_row slot (sym (k.held slot) ∙ ap is_some is)

  pub is_there : (slot : ℕ) → is_some (b_row slot rows) ≡ true → is_in slot (listed recency) ≡ true
  is_there slot h = by_in (is_in slot (listed recency)) refl
    where
      by_in : (b : Bool) → is_in slot (listed recency) ≡ b → b ≡ true
      by_in true e = refl
      by_in false e = absurd (both_ways _ (ap is_some (no_row slot e)) h)

  pub isnt_there : (slot : ℕ) → b_row slot rows ≡ None → is_in slot (listed recency) ≡ false
  isnt_there slot h = none_from (is_in slot (listed recency)) (λ e. both_ways _ (ap is_some h) (ap is_some (has_row slot e)))

  -- the row behind that of a slot
  pub next_is : (slot : ℕ) → is_in slot (listed recency) ≡ true → option_map (row_at prints) (behind slot (listed recency)) ≡ row_behind (λ (row : BRow). row.slot == slot) rows
  next_is slot h = behind_map (row_at prints) (λ (row : BRow). row.slot == slot) slot (listed recency) h (eq-eqb slot slot refl) (λ m i e. eqb-true m slot e)

  pub next_none : (slot : ℕ) → is_in slot (listed recency) ≡ false → row_behind (λ (row : BRow). row.slot == slot) rows ≡ None
  next_none slot out =
      behind_none (row_at prints) (λ (row : BRow). row.slot == slot) (listed recency)
      (λ m h e. both_ways _ out (ap (λ s. is_in s (listed recency)) (sym (eqb-true m slot e)) ∙ h))

  -- the slots of a key
  pub chain_distinct : (key : ℕ) → IsDistinct (λ x y. x == y) (nodes_of key index)
  chain_distinct key = subst (λ (xs : List ℕ). IsDistinct (λ x y. x == y) xs) (sym (k.indexed key)) (distinct_filter (is_under prints key) (listed recency) k.distinct)

  pub chain_held : (key slot : ℕ) → is_in slot (nodes_of key index) ≡ true → is_held prints slot ≡ true
  chain_held key slot h = k.held slot ∙ (filter_in (is_under prints key) slot (listed recency) (sym (ap (is_in slot) (k.indexed key)) ∙ h)).0

  pub chain_in : (slot key : ℕ) → is_in slot (listed recency) ≡ true → key_of (print_of prints slot) ≡ key → is_in slot (nodes_of key index) ≡ true
  chain_in slot key here e = ap (is_in slot) (k.indexed key) ∙ in_filter (is_under prints key) slot (listed recency) here (eq-eqb _ _ e)

  -- the slots of a fingerprint
  module _ (fp : Fp) where
    abbrev chain : List ℕ
    chain = nodes_of (key_of fp) index

    pub like_in : (slot : ℕ) → is_in slot (listed recency) ≡ true → has_print prints fp slot ≡ true → is_in slot (nodes_of (key_of fp) index) ≡ true
    like_in slot here passes = chain_in slot (key_of fp) here (same_key (print_of prints slot) fp passes)

    chain_like : filter (has_print prints fp) chain ≡ filter (has_print prints fp) (listed recency)
    chain_like =
        ap (filter (has_print prints fp)) (k.indexed (key_of fp))
        ∙ filter_filter (is_under prints (key_of fp)) (has_print prints fp) (listed recency) (λ n h. eq-eqb _ _ (same_key (print_of prints n) fp h))

    alike_is : alike fp rows ≡ map (row_at prints) (filter (has_print prints fp) (listed recency))
    alike_is = filter_map (λ (row : BRow). bytes_eq row.fp.0 fp.0) (row_at prints) (listed recency)

    pub first_candidate : (from : Option ℕ) → from ≡ slice_get chain 0 → option_map (row_at prints) (slice_get (filter (has_print prints fp) (from_on from chain)) 0) ≡ slice_get (alike fp rows) 0
    first_candidate from is =
        ap (λ o. option_map (row_at prints) (slice_get (filter (has_print prints fp) (from_on o chain)) 0)) is
        ∙ ap (λ (l : List ℕ). option_map (row_at prints) (slice_get (filter (has_print prints fp) l) 0)) (on_head chain)
        ∙ ap (λ (l : List ℕ). option_map (row_at prints) (slice_get l 0)) chain_like
        ∙ sym (slice_get-map (row_at prints) (filter (has_print prints fp) (listed recency)) 0)
        ∙ ap (λ (l : List BRow). slice_get l 0) (sym alike_is)

    pub next_candidate : (slot : ℕ) (from : Option ℕ) → is_in slot (listed recency) ≡ true → has_print prints fp slot ≡ true → from ≡ behind slot chain
        → option_map (row_at prints) (slice_get (filter (has_print prints fp) (from_on from chain)) 0) ≡ row_behind (λ (row : BRow). row.slot == slot) (alike fp rows)
    next_candidate slot from here passes from_is =
        ap (λ o. option_map (row_at prints) (slice_get (filter (has_print prints fp) (from_on o chain)) 0)) from_is
        ∙ ap (option_map (row_at prints)) (sym (behind_filter (has_print prints fp) slot chain (chain_distinct (key_of fp)) (like_in slot here passes) passes))
        ∙ ap (λ (l : List ℕ). option_map (row_at prints) (behind slot l)) chain_like
        ∙ behind_map (row_at prints) (λ (row : BRow). row.slot == slot) slot (filter (has_print prints fp) (listed recency)) (in_filter (has_print prints fp) slot (listed recency) here passes) (eq-eqb slot slot refl)
        (λ m h e. eqb-true m slot e)
        ∙ ap (row_behind (λ (row : BRow). row.slot == slot)) (sym alike_is)

    pub no_candidate : (slot : ℕ) → (is_held prints slot && has_print prints fp slot) ≡ false → row_behind (λ (row : BRow). row.slot == slot) (alike fp rows) ≡ None
    no_candidate slot not_both =
        ap (row_behind (λ (row : BRow). row.slot == slot)) alike_is
        ∙ behind_none (row_at prints) (λ (row : BRow). row.slot == slot) (filter (has_print prints fp) (listed recency))
        (λ m h e.
        let there = filter_in (has_print prints fp) m (listed recency) h in
        let same : m ≡ slot = eqb-true m slot e in
        both_ways _ not_both (and_from _ _ (k.held slot ∙ ap (λ s. is_in s (listed recency)) (sym same) ∙ there.0) (ap (has_print prints fp) (sym same) ∙ there.1)))
