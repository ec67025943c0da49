-- How much the numbers of a store grow in a round of write-back, and in a reference.
use Rattle.std.proofs.Common.{◌≡◌, ◌⊎◌, ⊎_elim, ℕ, suc, ◌+◌, ◌≤◌, ◌==◌, not, Bool, true, false, cond, List, [], ◌∷◌, ◌++◌, length, sym, ap, subst, arith, if◌then◌else◌}
use Rattle.std.specs.Prelude.{Result, Ok, Err, OnOk, OnErr, ◌&&◌}
use Rattle.std.proofs.lemmas.List.{length-append}
use Rattle.dd_slots.specs.Numbers.{is_among}
use Rattle.dd_record.specs.declared.rec.Rec.{Rec}
use Rattle.dd_record.specs.Replay.{Touch}
use Rattle.dd_model.specs.Listing.{without, dirtied}
use Rattle.dd_store.specs.declared.fault.StoreFault.{StoreFault}
use Rattle.dd_store.specs.Keeping.{StoreView}
use Rattle.dd_store.specs.Referring.{referred_store}
use Rattle.dd_store.specs.Laying.{all_without, laid_store, marked_store}
use Rattle.dd_store.specs.Serving.{GrowsLittle, downed}

fewer : (number : ℕ) (numbers : List ℕ) → length (without number numbers) ≤ length numbers
fewer number [] = omega arith
fewer number (other ∷ numbers) =
    elim (other == number) as (λ t. length (cond (not t) (other ∷ without number numbers) (without number numbers)) ≤ suc (length numbers))
    [ true ↦ omega (arith, fewer number numbers) | false ↦ omega (arith, fewer number numbers) ]

all_fewer : (addresses numbers : List ℕ) → length (all_without addresses numbers) ≤ length numbers
all_fewer [] numbers = omega arith
all_fewer (address ∷ addresses) numbers = omega (arith, all_fewer addresses (without address numbers), fewer address numbers)

-- a store of which the journal, the count and the dirty addresses are known
by_fields : (old now : StoreView) → now.journal.geo ≡ old.journal.geo → now.count ≡ old.count → (now.journal.epoch ≡ old.journal.epoch) ⊎ (now.journal.epoch ≡ old.journal.epoch + 1) → length now.dirty ≤ length old.dirty → GrowsLittle old now
by_fields old now geo count epoch fewer = record {
  same_geo = geo;
  count = omega (arith, count);
  epoch = ⊎_elim (λ same. omega (arith, same, fewer)) (λ one_more. omega (arith, one_more, fewer)) epoch;
}

-- behind a commit, a lay and a mark
pub round_grows : (old one two now : StoreView) (address : ℕ) (result : Result Unit StoreFault) → one.journal.geo ≡ old.journal.geo → one.count ≡ old.count → one.dirty ≡ old.dirty
    → (one.journal.epoch ≡ old.journal.epoch) ⊎ (one.journal.epoch ≡ old.journal.epoch + 1) → two ≡ laid_store address one → OnOk result (now ≡ marked_store two) → OnErr result (now ≡ downed two) → GrowsLittle old now
round_grows old one two now address (Ok done) geo count dirty epoch laid marked down =
    subst (λ (v : StoreView). GrowsLittle old v) (sym marked) (subst (λ (v : StoreView). GrowsLittle old (marked_store v)) (sym laid)
    (by_fields old (marked_store (laid_store address one)) geo count epoch (omega (arith, all_fewer (laid_store address one).laid one.dirty, ap length dirty))))
round_grows old one two now address (Err fault) geo count dirty epoch laid marked down =
    subst (λ (v : StoreView). GrowsLittle old v) (sym down) (subst (λ (v : StoreView). GrowsLittle old (downed v)) (sym laid)
    (by_fields old (downed (laid_store address one)) geo count epoch (omega (arith, ap length dirty))))

-- no more than one address becomes dirty
one_more : (address : ℕ) (dirty : Bool) (numbers : List ℕ) → length (dirtied address dirty numbers) ≤ suc (length numbers)
one_more address dirty numbers =
    elim (dirty && not (is_among address numbers)) as (λ t. length (if t then numbers ++ address ∷ [] else numbers) ≤ suc (length numbers))
    [ true ↦ omega (arith, length-append numbers (address ∷ [])) | false ↦ omega arith ]

-- behind room for it, and the reference itself
pub referred_grows : (old middle now : StoreView) (its : Rec) (touch : Touch) → now ≡ referred_store its touch middle → middle.journal.geo ≡ old.journal.geo → middle.count ≡ old.count
    → middle.journal.epoch + length middle.dirty ≤ old.journal.epoch + length old.dirty + 2 → GrowsLittle old now
referred_grows old middle now its touch after geo count rises = subst (λ (v : StoreView). GrowsLittle old v) (sym after) (record {
  same_geo = geo;
  count = omega (arith, count);
  epoch = omega (arith, rises, one_more touch.address touch.dirty middle.dirty);
})
