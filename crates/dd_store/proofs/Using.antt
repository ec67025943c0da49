-- Behind a reference exactly the listed slots are used again.
use Rattle.std.proofs.Common.{◌≡◌, ℕ, zero, suc, ◌<◌, ◌≤◌, ◌==◌, not, Bool, true, false, cond, List, [], ◌∷◌, length, take, refl, sym, ◌∙◌, ap, arith, Some, None}
use Rattle.std.specs.Prelude.{Option, filter, slice_get, slice_set, ◌&&◌, ◌||◌, IfSome, if◌then◌else◌}
use Rattle.std.specs.List.{IsDistinct}
use Rattle.std.proofs.lemmas.Bool.{eqb-true}
use Rattle.std.proofs.lemmas.Cmp.{nat_eq_equiv}
use Rattle.dd_slots.specs.declared.usage.Usage.{Usage}
use Rattle.dd_slots.specs.declared.usage.Usage.TheVariants.{Free, Used, Waiting}
use Rattle.dd_slots.specs.Slots.{is_used}
use Rattle.dd_slots.proofs.Marks.{get_set, loses}
use Rattle.dd_record.specs.declared.row.BRow.{BRow}
use Rattle.dd_record.specs.Table.{has_slot}
use Rattle.dd_record.specs.Replay.{b_moved, b_after, cut_block}
use Rattle.dd_model.proofs.Kept.{apart_front, got}
use Rattle.dd_model.proofs.Slots.{slot_get}
use Rattle.dd_store.specs.Referring.{used_by, let_go}

-- whether a slot is one of some, but for that of a row
abbrev but : Option BRow → ℕ → Bool → Bool
but None slot is = is
but (Some cut) slot is = is && not (slot == cut.slot)

abbrev Apart : List BRow → Type 0
Apart b = IsDistinct (λ x y. x.slot == y.slot) b

turned : (m n : ℕ) → (m == n) ≡ (n == m)
turned m n = nat_eq_equiv.symm m n

first_step : (r e h : Bool) → (r ≡ true → e ≡ false) → (r || (h && not e)) ≡ ((r || h) && not e)
first_step true e h other = ap not (sym (other refl))
first_step false e h other = refl

-- a list that is at most one too long
has_cut : (slot n : ℕ) (b : List BRow) → length b ≤ suc n → Apart b → has_slot slot (take n b) ≡ but (slice_get b n) slot (has_slot slot b)
unfolding IsDistinct
has_cut slot zero [] short apart = refl
has_cut slot (suc n) [] short apart = refl
has_cut slot zero (row ∷ []) short apart = by_test (row.slot == slot) (sym (turned row.slot slot))
  where
    by_test : (t : Bool) → (slot == row.slot) ≡ t → false ≡ ((t || false) && not (slot == row.slot))
    by_test true same = ap not (sym same)
    by_test false other = refl
has_cut slot zero (row ∷ other ∷ b) short apart = absurd (omega (arith, short))
has_cut slot (suc n) (row ∷ b) short apart = ap (λ h. row.slot == slot || h) (has_cut slot n b (omega (arith, short)) apart.1) ∙ by_cut (slice_get b n) refl
  where
    by_cut : (o : Option BRow) → slice_get b n ≡ o → (row.slot == slot || but o slot (has_slot slot b)) ≡ but o slot (row.slot == slot || has_slot slot b)
    by_cut None is = refl
    by_cut (Some cut) is = first_step (row.slot == slot) (slot == cut.slot) (has_slot slot b)
        (λ same. ap (λ k. k == cut.slot) (sym (eqb-true row.slot slot same)) ∙ got (λ (r : BRow). (row.slot == r.slot) ≡ false) b n cut is apart.0)

has_filter : (slot k : ℕ) (b : List BRow) → has_slot slot (filter (λ row. not (row.slot == k)) b) ≡ (has_slot slot b && not (slot == k))
has_filter slot k [] = refl
has_filter slot k (row ∷ b) = by_test (row.slot == k) refl (has_filter slot k b)
  where
    gone : (r e h : Bool) → (r ≡ true → e ≡ true) → (h && not e) ≡ ((r || h) && not e)
    gone true e true same = refl
    gone true e false same = ap not (sym (same refl))
    gone false e h same = refl

    by_test : (t : Bool) → (row.slot == k) ≡ t → has_slot slot (filter (λ r. not (r.slot == k)) b) ≡ (has_slot slot b && not (slot == k))
        → has_slot slot (cond (not t) (row ∷ filter (λ r. not (r.slot == k)) b) (filter (λ r. not (r.slot == k)) b)) ≡ ((row.slot == slot || has_slot slot b) && not (slot == k))
    by_test true is next = next ∙ gone (row.slot == slot) (slot == k) (has_slot slot b) (λ same. ap (λ n. n == k) (sym (eqb-true row.slot slot same)) ∙ is)
    by_test false is next = ap (λ h. row.slot == slot || h) next ∙ first_step (row.slot == slot) (slot == k) (has_slot slot b) (λ same. ap (λ n. n == k) (sym (eqb-true row.slot slot same)) ∙ is)

pub has_moved : (slot : ℕ) (row : BRow) (b : List BRow) → has_slot slot (b_moved row b) ≡ (if slot == row.slot then true else has_slot slot b)
has_moved slot row b = ap (λ h. row.slot == slot || h) (has_filter slot row.slot b) ∙ ap (λ t. t || (has_slot slot b && not (slot == row.slot))) (turned row.slot slot) ∙ by_test (slot == row.slot)
  where
    and_true : (h : Bool) → (h && true) ≡ h
    and_true true = refl
    and_true false = refl

    by_test : (t : Bool) → (t || (has_slot slot b && not t)) ≡ (if t then true else has_slot slot b)
    by_test true = refl
    by_test false = and_true (has_slot slot b)

pub used_is : (o : Option Usage) → is_used o ≡ true → o ≡ Some Used
used_is None h = absurd (cc h)
used_is (Some Free) h = absurd (cc h)
used_is (Some Used) h = refl
used_is (Some Waiting) h = absurd (cc h)

-- the slot of a block that fell off isn't used then
but_used : (slot : ℕ) (cut : Option BRow) (uses : List Usage) → IfSome cut (λ row. is_used (slice_get uses row.slot) ≡ true) → is_used (slice_get (let_go cut uses) slot) ≡ but cut slot (is_used (slice_get uses slot))
but_used slot None uses was = refl
but_used slot (Some cut) uses was = loses is_used uses cut.slot Used Waiting (used_is (slice_get uses cut.slot) was) refl slot

pub now_used : (slot i : ℕ) (uses : List Usage) → i < length uses → is_used (slice_get (slice_set uses i Used) slot) ≡ (if slot == i then true else is_used (slice_get uses slot))
now_used slot i uses lt = ap is_used (get_set uses i slot Used lt) ∙ by_test (slot == i)
  where
    by_test : (t : Bool) → is_used (if t then Some Used else slice_get uses slot) ≡ (if t then true else is_used (slice_get uses slot))
    by_test true = refl
    by_test false = refl

filter_short : {X : Type 0} (p : X → Bool) (xs : List X) → length (filter p xs) ≤ length xs
filter_short p [] = omega arith
filter_short p (x ∷ xs) =
    elim (p x) as (λ t. length (cond t (x ∷ filter p xs) (filter p xs)) ≤ suc (length xs)) [ true ↦ omega (arith, filter_short p xs) | false ↦ omega (arith, filter_short p xs) ]

-- what a list's cut has is used where the whole list's slots are
pub cut_used : (o : Option BRow) (b : List BRow) (uses : List Usage) → IfSome o (λ row. has_slot row.slot b ≡ true) → ((slot : ℕ) → is_used (slice_get uses slot) ≡ has_slot slot b) → IfSome o (λ row. is_used (slice_get uses row.slot) ≡ true)
cut_used None b uses listed same = tt
cut_used (Some cut) b uses listed same = same cut.slot ∙ listed

-- where exactly the listed slots were used, they are behind the reference
pub used_after : (bcap : ℕ) (block : Option BRow) (b : List BRow) (uses : List Usage) → length b ≤ bcap → Apart b → IfSome block (λ row. row.slot < length uses)
    → ((slot : ℕ) → is_used (slice_get uses slot) ≡ has_slot slot b)
    → (slot : ℕ) → is_used (slice_get (let_go (cut_block bcap block b) (used_by block uses)) slot) ≡ has_slot slot (b_after bcap block b)
used_after bcap None b uses short apart below was slot = was slot
used_after bcap (Some row) b uses short apart below was slot =
    let moved : List BRow = b_moved row b in
    let same : (n : ℕ) → is_used (slice_get (used_by (Some row) uses) n) ≡ has_slot n moved =
    λ n. now_used n row.slot uses below ∙ ap (λ h. if n == row.slot then true else h) (was n) ∙ sym (has_moved n row b) in
    let long : length moved ≤ suc bcap = omega (arith, filter_short (λ (other : BRow). not (other.slot == row.slot)) b, short) in
    but_used slot (slice_get moved bcap) (used_by (Some row) uses) (cut_used (slice_get moved bcap) moved (used_by (Some row) uses) (slot_get bcap moved) same)
    ∙ ap (but (slice_get moved bcap) slot) (same slot)
    ∙ sym (has_cut slot bcap moved long (apart_front (λ (r : BRow). r.slot) row b apart))
