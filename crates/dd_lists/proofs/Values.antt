-- Values of nodes, and what the calls keep of them.
use Rattle.std.proofs.Common.{◌≡◌, ◌≢◌, inl, inr, ℕ, zero, suc, ◌+◌, ◌<◌, Bool, true, false, List, [], ◌∷◌, length, refl, sym, ◌∙◌, ap, subst, arith, Option, Some, None, get_or, set, is_some, cond, count_by, replicate, rules}
use Rattle.std.specs.Prelude.{slice_index_or, IsSome}
use Rattle.std.proofs.lemmas.Bool.{cases_eq, cases_lt, both_ways}
use Rattle.std.proofs.lemmas.List.{get_or-set_same, get_or-set_other, get_or_past, length-set, length-map, ext_get_or}
use Rattle.std.proofs.lemmas.List.Sums.{sum_by-cons, sum_by-set}
use Rattle.slab.specs.Slab.{Slab, get, slab_len, Updates, with_value as with_slot}
use Rattle.slab.proofs.SlabLemmas.{Updates-with_value}
use Rattle.dd_lists.specs.Lists.{Lists, is_listed, list_at, without, fronted, put_front, taken_out, moved_front, before}
use Rattle.dd_lists.specs.Kept.{values_from, values_of, IsLane, IsNodes}
use Rattle.dd_lists.specs.Nodes.{Nodes, value_at, node_count, with_value}
use Rattle.dd_lists.proofs.Found.{listed_put, listed_taken, listed_moved}
use Rattle.dd_lists.proofs.Members.{none_from}

-- a lane is kept by each call on it
pub lane_put : {T : Type 0} (values : List (Option T)) (lane new : Lists) (l n : ℕ) → IsLane values lane → l < length lane.lists → is_some (slice_index_or values n None) ≡ true → new ≡ record lane { lists = put_front l n lane.lists } → IsLane values new
lane_put values lane new l n k within live is =
    let P : Lists → Type 0 = λ v. IsLane values v in
    subst P (sym is) (record {
      room = λ some. k.room (omega (arith, some, length-set lane.lists l (n ∷ list_at l lane.lists)));
      live = λ m h. elim (listed_put l n m lane.lists within h) [ inl same ↦ ap (λ i. is_some (slice_index_or values i None)) same ∙ live | inr old ↦ k.live m old ];
    })

pub lane_taken : {T : Type 0} (values : List (Option T)) (lane new : Lists) (n : ℕ) → IsLane values lane → new ≡ record lane { lists = taken_out n lane.lists } → IsLane values new
lane_taken values lane new n k is =
    let P : Lists → Type 0 = λ v. IsLane values v in
    subst P (sym is) (record { room = λ some. k.room (omega (arith, some, length-map lane.lists (without n))); live = λ m h. k.live m (listed_taken n m lane.lists h) })

pub lane_moved : {T : Type 0} (values : List (Option T)) (lane new : Lists) (n : ℕ) → IsLane values lane → new ≡ record lane { lists = moved_front n lane.lists } → IsLane values new
lane_moved values lane new n k is =
    let P : Lists → Type 0 = λ v. IsLane values v in
    subst P (sym is) (record { room = λ some. k.room (omega (arith, some, length-map lane.lists (fronted n))); live = λ m h. k.live m (listed_moved n m lane.lists h) })

-- by a new value
pub lane_more : {T : Type 0} (values : List (Option T)) (lane : Lists) (n : ℕ) (value : T) → IsLane values lane → n < length values → IsLane (set values n (Some value)) lane
lane_more values lane n value k within =
    record {
      room = λ some. k.room some ∙ sym (length-set values n (Some value));
      live = λ m h. elim (cases_eq m n) [
        | inl same ↦ ap is_some (ap (λ i. get_or (set values n (Some value)) i None) same ∙ get_or-set_same values n (Some value) None within)
        | inr other ↦ ap is_some (get_or-set_other values n m (Some value) None other) ∙ k.live m h
      ];
    }

-- and where a value goes whose node isn't listed
pub lane_less : {T : Type 0} (values : List (Option T)) (lane : Lists) (n : ℕ) → IsLane values lane → is_listed n lane.lists ≡ false → IsLane (set values n None) lane
lane_less values lane n k free =
    record {
      room = λ some. k.room some ∙ sym (length-set values n None);
      live = λ m h. elim (cases_eq m n) [
        | inl same ↦ absurd (both_ways _ free (ap (λ i. is_listed i lane.lists) (sym same) ∙ h))
        | inr other ↦ ap is_some (get_or-set_other values n m None None other) ∙ k.live m h
      ];
    }

abbrev pub one_if : Bool → ℕ
one_if b = cond b 1 0

-- what is some is within
pub live_within : {T : Type 0} (values : List (Option T)) (n : ℕ) → is_some (get_or values n None) ≡ true → n < length values
live_within values n live =
    elim (cases_lt n (length values)) [
      | inl within ↦ within
      | inr past ↦ absurd (both_ways _ (ap is_some (get_or_past values n None past)) live)
    ]

module _ {T : Type 0} where
  length_from : (f : ℕ → Option T) (a n : ℕ) → length (values_from f a n) ≡ n
  length_from f a zero = refl
  length_from f a (suc n) = let rest = length_from f (suc a) n in omega (arith, rest)

  at_from : (f : ℕ → Option T) (a n i : ℕ) → i < n → get_or (values_from f a n) i None ≡ f (a + i)
  at_from f a zero i h = absurd (omega (arith, h))
  at_from f a (suc n) zero h = let same : a ≡ a + 0 = omega arith in ap f same
  at_from f a (suc n) (suc i) h = let same : suc a + i ≡ a + suc i = omega arith in at_from f (suc a) n i (omega (arith, h)) ∙ ap f same

  none_from_each : (f : ℕ → Option T) → ((i : ℕ) → f i ≡ None) → (a n : ℕ) → values_from f a n ≡ replicate n None
  none_from_each f none a zero = refl
  none_from_each f none a (suc n) = λ i. none a i ∷ none_from_each f none (suc a) n i

  -- there are as many values as the slab has room for, and each is that of its number
  pub length_of : (slab : Slab T) → length (values_of slab) ≡ slab.capacity
  length_of slab = length_from (get slab) 0 slab.capacity

  pub value_is : (slab : Slab T) (n : ℕ) → n < slab.capacity → get_or (values_of slab) n None ≡ get slab n
  value_is slab n within = let same : 0 + n ≡ n = omega arith in at_from (get slab) 0 slab.capacity n within ∙ ap (get slab) same

  -- the number of a node is below the capacity, and has a value there
  pub live_below : (slab : Slab T) (n : ℕ) → is_some (get_or (values_of slab) n None) ≡ true → n < slab.capacity
  live_below slab n live = let within = live_within (values_of slab) n live in omega (arith, within, length_of slab)

  pub live_value : (slab : Slab T) (n : ℕ) → is_some (get_or (values_of slab) n None) ≡ true → get_or (values_of slab) n None ≡ get slab n
  live_value slab n live = value_is slab n (live_below slab n live)

  -- and so the slab has a value under it
  some_at : (o p : Option T) → o ≡ p → is_some o ≡ true → IsSome p
  some_at o p is live = subst IsSome is (has_some o live)
    where
      has_some : (o : Option T) → is_some o ≡ true → IsSome o
      has_some None never = absurd (cc never)
      has_some (Some value) live = refl

  pub live_has : (slab : Slab T) (n : ℕ) → is_some (get_or (values_of slab) n None) ≡ true → IsSome (get slab n)
  live_has slab n live = some_at _ _ (live_value slab n live) live

  -- the values after one number has another one
  pub values_set : (slab slab' : Slab T) (n : ℕ) (slot : Option T) → slab'.capacity ≡ slab.capacity → n < slab.capacity → Updates slab slab' n slot → values_of slab' ≡ set (values_of slab) n slot
  values_set slab slab' n slot capacity within u =
      ext_get_or None (values_of slab') (set (values_of slab) n slot)
      (length_of slab' ∙ capacity ∙ sym (length_of slab) ∙ sym (length-set (values_of slab) n slot))
      (λ m low. let below : m < slab.capacity = omega (arith, low, length_of slab', capacity) in elim (cases_eq m n) [ inl same ↦ at_same m same | inr other ↦ at_other m below other ])
    where
      at_same : (m : ℕ) → m ≡ n → get_or (values_of slab') m None ≡ get_or (set (values_of slab) n slot) m None
      at_same m same =
          ap (λ i. get_or (values_of slab') i None) same ∙ value_is slab' n (omega (arith, within, capacity)) ∙ u.changed
          ∙ sym (get_or-set_same (values_of slab) n slot None (omega (arith, within, length_of slab))) ∙ ap (λ i. get_or (set (values_of slab) n slot) i None) (sym same)

      at_other : (m : ℕ) → m < slab.capacity → m ≢ n → get_or (values_of slab') m None ≡ get_or (set (values_of slab) n slot) m None
      at_other m below other =
          value_is slab' m (omega (arith, below, capacity)) ∙ u.others m other ∙ sym (value_is slab m below)
          ∙ sym (get_or-set_other (values_of slab) n m slot None other)

  -- how many have a value
  pub count_is : (values : List (Option T)) (n : ℕ) (o was : Option T) → n < length values → get_or values n None ≡ was → count_by is_some (set values n o) + one_if (is_some was) ≡ count_by is_some values + one_if (is_some o)
  count_is values n o was within is =
      let sums : count_by is_some (set values n o) + one_if (is_some (get_or values n None)) ≡ count_by is_some values + one_if (is_some o) = sum_by-set (λ x. cond (is_some x) 1 0) values n o None within in
      let ones : one_if (is_some (get_or values n None)) ≡ one_if (is_some was) = ap (λ p. one_if (is_some p)) is in
      omega (arith, sums, ones)

  -- a number's value after a call, and so the lanes and the count
  module _ (slab slab' : Slab T) (recency referrers waiting : Lists) (n : ℕ) (k : IsNodes slab recency referrers waiting) (capacity : slab'.capacity ≡ slab.capacity) (within : n < slab.capacity) where
    inside : n < length (values_of slab)
    inside = omega (arith, within, length_of slab)

    pub added : (value : T) → get slab n ≡ None → Updates slab slab' n (Some value) → slab_len slab' ≡ slab_len slab + 1 → IsNodes slab' recency referrers waiting
    added value vacant u len =
        let values = values_set slab slab' n (Some value) capacity within u in
        let count : count_by is_some (values_of slab') ≡ count_by is_some (set (values_of slab) n (Some value)) = ap (count_by is_some) values in
        record {
          counted = omega (arith, len, k.counted, count, count_is (values_of slab) n (Some value) None inside (value_is slab n within ∙ vacant));
          fits = omega (arith, k.fits, capacity);
          by_recency = subst (λ v. IsLane v recency) (sym values) (lane_more (values_of slab) recency n value k.by_recency inside);
          by_referrers = subst (λ v. IsLane v referrers) (sym values) (lane_more (values_of slab) referrers n value k.by_referrers inside);
          by_waiting = subst (λ v. IsLane v waiting) (sym values) (lane_more (values_of slab) waiting n value k.by_waiting inside);
        }

    pub removed : (was : T) → get slab n ≡ Some was → Updates slab slab' n None → slab_len slab' + 1 ≡ slab_len slab → is_listed n recency.lists ≡ false → is_listed n referrers.lists ≡ false → is_listed n waiting.lists ≡ false
        → IsNodes slab' recency referrers waiting
    removed was here u len free_recency free_referrers free_waiting =
        let values = values_set slab slab' n None capacity within u in
        let count : count_by is_some (values_of slab') ≡ count_by is_some (set (values_of slab) n None) = ap (count_by is_some) values in
        record {
          counted = omega (arith, len, k.counted, count, count_is (values_of slab) n None (Some was) inside (value_is slab n within ∙ here));
          fits = omega (arith, k.fits, capacity);
          by_recency = subst (λ v. IsLane v recency) (sym values) (lane_less (values_of slab) recency n k.by_recency free_recency);
          by_referrers = subst (λ v. IsLane v referrers) (sym values) (lane_less (values_of slab) referrers n k.by_referrers free_referrers);
          by_waiting = subst (λ v. IsLane v waiting) (sym values) (lane_less (values_of slab) waiting n k.by_waiting free_waiting);
        }

  -- another value at a number that has one
  pub written : (slab : Slab T) (recency referrers waiting : Lists) (n : ℕ) (value : T) → IsNodes slab recency referrers waiting → is_some (get_or (values_of slab) n None) ≡ true → IsNodes (with_slot slab n value) recency referrers waiting
  written slab recency referrers waiting n value k live =
      let within = live_below slab n live in
      let had : is_some (get slab n) ≡ true = ap is_some (sym (live_value slab n live)) ∙ live in
      let values = values_set slab (with_slot slab n value) n (Some value) refl within (Updates-with_value slab n value (live_has slab n live)) in
      let count : count_by is_some (values_of (with_slot slab n value)) ≡ count_by is_some (set (values_of slab) n (Some value)) = ap (count_by is_some) values in
      let inside : n < length (values_of slab) = omega (arith, within, length_of slab) in
      let one : ◌≡◌ {A = ℕ} (one_if (is_some (get slab n))) 1 = ap one_if had in
      let two : ◌≡◌ {A = ℕ} (one_if (is_some (get_or (values_of slab) n None))) 1 = ap one_if live in
      record {
        counted = omega (arith, k.counted, count, one, two, count_is (values_of slab) n (Some value) (get_or (values_of slab) n None) inside refl, count_is slab.slots n (Some value) (get slab n) (live_within slab.slots n had) refl);
        fits = k.fits;
        by_recency = subst (λ v. IsLane v recency) (sym values) (lane_more (values_of slab) recency n value k.by_recency inside);
        by_referrers = subst (λ v. IsLane v referrers) (sym values) (lane_more (values_of slab) referrers n value k.by_referrers inside);
        by_waiting = subst (λ v. IsLane v waiting) (sym values) (lane_more (values_of slab) waiting n value k.by_waiting inside);
      }

module _ {T : Type 0} where
  -- nodes with another value at one
  pub value_view : (old now : Nodes T) (values : List (Option T)) (n : ℕ) (slot : Option T) → values ≡ set old.values n slot → old ≡ now
      → record { values = values; recency = old.recency; referrers = old.referrers; waiting = old.waiting } ≡ with_value n slot now
  value_view old now values n slot e is =
      let step : record { values = values; recency = old.recency; referrers = old.referrers; waiting = old.waiting } ≡ with_value n slot old =
      λ i. record { values = e i; recency = old.recency; referrers = old.referrers; waiting = old.waiting }
      in step ∙ ap (with_value n slot) is

  -- and how many there are then
  pub count_set : (old now : Nodes T) (values : List (Option T)) (n : ℕ) (slot was : Option T) → values ≡ set old.values n slot → old ≡ now → n < length old.values → get_or old.values n None ≡ was
      → count_by is_some values + one_if (is_some was) ≡ node_count now + one_if (is_some slot)
  count_set old now values n slot was e is within before =
      let size : count_by is_some values ≡ count_by is_some (set old.values n slot) = ap (count_by is_some) e in
      let same : node_count old ≡ node_count now = ap node_count is in
      let sums : count_by is_some (set old.values n slot) + one_if (is_some (get_or old.values n None)) ≡ count_by is_some old.values + one_if (is_some slot) = sum_by-set (λ x. cond (is_some x) 1 0) old.values n slot None within in
      let ones : one_if (is_some (get_or old.values n None)) ≡ one_if (is_some was) = ap (λ o. one_if (is_some o)) before in
      omega (arith, size, same, sums, ones)

  pub value_shown : (old now : Nodes T) (n : ℕ) (o : Option T) → old ≡ now → get_or old.values n None ≡ o → value_at n now ≡ o
  value_shown old now n o is e = ap (value_at n) (sym is) ∙ e

  pub has_value : (o : Option T) (value : T) → o ≡ Some value → IsSome o
  has_value o value e = subst IsSome (sym e) (let h : IsSome (Some value) = search rules in h)

-- what has no value is in no lane
pub free_unlisted : {T : Type 0} (values : List (Option T)) (lane : Lists) (lists : List (List ℕ)) (n : ℕ) → IsLane values lane → get_or values n None ≡ None → lane.lists ≡ lists → is_listed n lists ≡ false
free_unlisted values lane lists n k empty is =
    ap (is_listed n) (sym is) ∙ none_from (is_listed n lane.lists) (λ there. both_ways _ (ap is_some empty) (k.live n there))

nobody_listed : (n count : ℕ) → is_listed n (replicate count []) ≡ false
nobody_listed n zero = refl
nobody_listed n (suc count) = nobody_listed n count

abbrev no_value : (T : Type 0) → Option T
no_value T = None

no_count : (T : Type 0) (room : ℕ) → count_by is_some (replicate room (no_value T)) ≡ 0
no_count T zero = refl
no_count T (suc room) = omega (arith, sum_by-cons (λ (o : Option T). one_if (is_some o)) None (replicate room (no_value T)), no_count T room)

-- nothing yet
module _ {T : Type 0} (slab : Slab T) (room : ℕ) (empty : slab.slots ≡ []) (fits : slab.capacity ≡ room) where
  pub none_yet : values_of slab ≡ replicate room None
  none_yet = ap (values_from (get slab) 0) fits ∙ none_from_each (get slab) (λ i. ap (λ (l : List (Option T)). get_or l i None) empty) 0 room

  pub new_lane : (lane : Lists) (count : ℕ) → lane.lists ≡ replicate count [] → (0 < length lane.lists → lane.room ≡ room) → IsLane (values_of slab) lane
  new_lane lane count is sized =
      record {
        room = λ some. sized some ∙ sym fits ∙ sym (length_of slab);
        live = λ n h. absurd (both_ways _ (nobody_listed n count) (ap (is_listed n) (sym is) ∙ h));
      }

  pub new_count : slab_len slab ≡ count_by is_some (values_of slab)
  new_count =
      let len : slab_len slab ≡ 0 = ap (count_by is_some) empty in
      let none : count_by is_some (values_of slab) ≡ 0 = ap (count_by is_some) none_yet ∙ no_count T room in
      omega (arith, len, none)

  pub new_view : (recency referrers waiting : List (List ℕ)) (a b d : ℕ) → recency ≡ replicate a [] → referrers ≡ replicate b [] → waiting ≡ replicate d []
      → ◌≡◌ {A = Nodes T} (record { values = values_of slab; recency = recency; referrers = referrers; waiting = waiting }) (record { values = replicate room None; recency = replicate a []; referrers = replicate b []; waiting = replicate d [] })
  new_view recency referrers waiting a b d ra rb rd = λ i. record { values = none_yet i; recency = ra i; referrers = rb i; waiting = rd i }
