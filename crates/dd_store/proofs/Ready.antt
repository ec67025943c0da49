-- Room is made, and records are committed where they have to be: a reference may be made then.
use Rattle.std.proofs.Common.{◌≡◌, ℕ, ◌+◌, ◌<◌, ◌==◌, Bool, true, false, List, [], ◌∷◌, map, length, refl, sym, ◌∙◌, ap, subst, arith, Some, None}
use Rattle.std.specs.Prelude.{Result, Ok, Err, OnOk, Option, option_map, slice_get, not, ◌&&◌, ◌||◌, nat_le}
use Rattle.std.proofs.lemmas.List.{length-map}
use Rattle.std.proofs.lemmas.Option.{slice_get-map}
use Rattle.dd_slots.specs.declared.usage.Usage.{Usage}
use Rattle.dd_slots.specs.declared.usage.Usage.TheVariants.{Free, Used, Waiting}
use Rattle.dd_slots.specs.Numbers.{is_among}
use Rattle.dd_slots.specs.Slots.{is_used, is_waiting, freed}
use Rattle.dd_slots.proofs.Room.{some_free}
use Rattle.dd_record.specs.declared.row.BRow.{BRow}
use Rattle.dd_record.specs.Table.{has_slot}
use Rattle.dd_model.specs.declared.given.Want.{Want}
use Rattle.dd_model.specs.Listing.{is_fresh}
use Rattle.dd_journal.specs.Sitting.{JournalView}
use Rattle.dd_store.specs.Committing.{committed_store}
use Rattle.dd_store.specs.declared.fault.StoreFault.{StoreFault}
use Rattle.dd_store.specs.Keeping.{StoreView, IsStore}
use Rattle.dd_store.specs.Serving.{unlaid}
use Rattle.dd_store.specs.Rounds.{Cleans, HasRoom}
use Rattle.dd_store.specs.Bringing.{IsPrepared, has_spare, must_commit}
use Rattle.dd_store.proofs.Uses.{used_then}

-- room stays where the rows do
pub room_still : (old now : StoreView) (address : ℕ) (want : Want) → now.table ≡ old.table → now.journal.geo ≡ old.journal.geo → HasRoom address want old → HasRoom address want now
room_still old now address want table geometry room =
    let there = subst (λ (v : StoreView). HasRoom address want v) (λ i. record old { journal = record old.journal { geo = sym geometry i }; table = sym table i }) room in
    record { out = there.out; drop = there.drop }

pub cleans_same : (old middle now : StoreView) → Cleans old middle → now.table ≡ middle.table → now.dirty ≡ middle.dirty → now.count ≡ middle.count → now.journal.geo ≡ middle.journal.geo → Cleans old now
cleans_same old middle now cleans table dirty count geometry = record {
  done = cleans.done;
  rows = table ∙ cleans.rows;
  ages = dirty ∙ cleans.ages;
  fewer = ap (λ (ns : List ℕ). length ns + length cleans.done) dirty ∙ cleans.fewer;
  count = count ∙ cleans.count;
  geometry = geometry ∙ cleans.geometry;
}

pub cleans_none : (old now : StoreView) → now.table ≡ old.table → now.dirty ≡ old.dirty → now.count ≡ old.count → now.journal.geo ≡ old.journal.geo → Cleans old now
cleans_none old now table dirty count geometry = record {
  done = [];
  rows = table;
  ages = dirty;
  fewer = omega (arith, ap length dirty);
  count = count;
  geometry = geometry;
}

or_none : (s t : Bool) → (s || t) ≡ false → (s ≡ false) × (t ≡ false)
or_none true t h = absurd (cc h)
or_none false t h = (refl, h)

and_not : (s t : Bool) → (s && not t) ≡ false → s ≡ true → t ≡ true
and_not true true h is = refl
and_not true false h is = absurd (cc h)
and_not false t h is = absurd (cc is)

less : (m n : ℕ) → nat_le m n ≡ false → n < m
less m n h = grind arith

-- what needn't wait for a commit is prepared
pub ready_now : (store : StoreView) (address : ℕ) (want : Want) → HasRoom address want store → must_commit want store ≡ false → IsPrepared address want store
ready_now store address want room now =
    let parts = or_none (nat_le store.journal.geo.group (length store.pending)) (is_fresh want && not (has_spare store.uses)) now in
    record { room = room; free = less store.journal.geo.group (length store.pending) parts.0; slot = and_not (is_fresh want) (has_spare store.uses) parts.1 }

more : (m n : ℕ) → n < m → nat_le m n ≡ false
more m n h = grind arith

not_and : (s t : Bool) → (s ≡ true → t ≡ true) → (s && not t) ≡ false
not_and true t h = ap not (h refl)
not_and false t h = refl

pub no_wait : (store : StoreView) (address : ℕ) (want : Want) → IsPrepared address want store → must_commit want store ≡ false
no_wait store address want prepared =
    ap (λ b. b || (is_fresh want && not (has_spare store.uses))) (more store.journal.geo.group (length store.pending) prepared.free) ∙ not_and (is_fresh want) (has_spare store.uses) prepared.slot

-- behind a commit some slot is free
slots_of : List BRow → List ℕ
slots_of b = map (λ (row : BRow). row.slot) b

among_slots : (slot : ℕ) (b : List BRow) → has_slot slot b ≡ true → is_among slot (slots_of b) ≡ true
unfolding slots_of
among_slots slot [] h = h
among_slots slot (row ∷ b) h = by_test (row.slot == slot) (slot == row.slot) (turned row.slot slot) h (among_slots slot b)
  where
    turned : (m n : ℕ) → (m == n) ≡ (n == m)
    turned m n = grind arith

    by_test : (s t : Bool) → s ≡ t → (s || has_slot slot b) ≡ true → (has_slot slot b ≡ true → is_among slot (slots_of b) ≡ true) → (t || is_among slot (slots_of b)) ≡ true
    by_test true true same e rest = refl
    by_test true false same e rest = absurd (cc same)
    by_test false true same e rest = refl
    by_test false false same e rest = rest e

none_waits : (o : Option Usage) → is_waiting (option_map freed o) ≡ false
none_waits None = refl
none_waits (Some Free) = refl
none_waits (Some Used) = refl
none_waits (Some Waiting) = refl

pub spare_then : (store : StoreView) → IsStore store → has_spare (map freed store.uses) ≡ true
unfolding slots_of
spare_then store is = some_free (map freed store.uses) (slots_of store.table.b)
    (λ slot used. among_slots slot store.table.b (sym (is.used slot) ∙ sym (used_then slot store.uses) ∙ ap is_used used))
    (λ slot. ap is_waiting (slice_get-map freed store.uses slot) ∙ none_waits (slice_get store.uses slot))
    (omega (arith, length-map store.uses freed, length-map store.table.b (λ (row : BRow). row.slot), is.sized, is.rows.len_b, store.journal.geo.spare_least))

-- behind a commit a reference is prepared
pub ready_then : (middle now : StoreView) (journal : JournalView) (address : ℕ) (want : Want) → IsStore middle → HasRoom address want middle → now ≡ committed_store (unlaid middle) journal → now.journal.geo ≡ middle.journal.geo → IsPrepared address want now
ready_then middle now journal address want is room now_is geometry = record {
  room = room_still middle now address want (ap (λ (v : StoreView). v.table) now_is) geometry room;
  free = omega (arith, ap (λ (v : StoreView). length v.pending) now_is, now.journal.geo.group_least);
  slot = λ fresh. ap (λ (v : StoreView). has_spare v.uses) now_is ∙ spare_then middle is;
}

pub ready_by : (result : Result Unit StoreFault) (middle now : StoreView) (address : ℕ) (want : Want) → IsStore middle → HasRoom address want middle → OnOk result (now ≡ committed_store (unlaid middle) now.journal) → now.journal.geo ≡ middle.journal.geo
    → OnOk result (IsPrepared address want now)
ready_by (Ok done) middle now address want is room now_is geometry = ready_then middle now now.journal address want is room now_is geometry
ready_by (Err fault) middle now address want is room now_is geometry = tt
