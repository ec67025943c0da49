-- Dirty addresses that were made clean, one after the other: how many are left, and rounds in a row.
use Rattle.std.proofs.Common.{◌≡◌, ℕ, suc, ◌+◌, ◌<◌, ◌≤◌, ◌==◌, not, Bool, true, false, cond, List, [], ◌∷◌, ◌++◌, length, map, refl, sym, ◌∙◌, ap, subst, Some, arith, length-append}
use Rattle.std.specs.Prelude.{◌&&◌, ◌||◌, Result, Ok, Err, OnOk, IfErr}
use Rattle.std.specs.List.{AllByRecursion, IsDistinct}
use Rattle.std.proofs.lemmas.Bool.{eqb-true, eq-eqb}
use Rattle.std.proofs.lemmas.List.{length-map}
use Rattle.dd_block.specs.declared.print.Fp.{Fp}
use Rattle.dd_block.specs.declared.geometry.Geometry.{Geometry}
use Rattle.dd_rig.specs.World.{World}
use Rattle.dd_layout.specs.Layout.{disk_block}
use Rattle.dd_model.specs.State.{State, content}
use Rattle.dd_slots.specs.Numbers.{is_among, Enumerates}
use Rattle.dd_slots.proofs.Numbers.{few_among}
use Rattle.dd_record.specs.declared.row.ARow.{ARow}
use Rattle.dd_record.specs.Table.{Table, a_row, is_dirty, is_dirty_at}
use Rattle.dd_record.specs.Replay.{cleaned}
use Rattle.dd_model.specs.Listing.{without}
use Rattle.dd_model.proofs.Dirty.{cleaned_ones}
use Rattle.dd_store.specs.declared.fault.StoreFault.{StoreFault}
use Rattle.dd_store.specs.declared.fault.StoreFault.TheVariants.{FlashRead}
use Rattle.dd_store.specs.declared.along.Along.TheVariants.{Age}
use Rattle.dd_store.specs.Keeping.{StoreView, IsStore}
use Rattle.dd_journal.specs.Sitting.{JournalView}
use Rattle.dd_store.specs.Committing.{committed_store}
use Rattle.dd_store.specs.Laying.{all_cleaned, all_without}
use Rattle.dd_store.specs.Rounds.{Cleans, has_along}
use Rattle.dd_store.specs.Serving.{HoldsThen, unlaid}
use Rattle.dd_store.proofs.Marking.{dirty_all}
use Rattle.dd_store.proofs.Walks.{none_of}

stays : (number : ℕ) (numbers : List ℕ) → AllByRecursion (λ other. (number == other) ≡ false) numbers → without number numbers ≡ numbers
stays number [] h = refl
stays number (other ∷ numbers) h = ap (λ b. cond (not b) (other ∷ without number numbers) (without number numbers)) (flip number other h.0) ∙ ap (λ (rest : List ℕ). other ∷ rest) (stays number numbers h.1)
  where
    flip : (m n : ℕ) → (m == n) ≡ false → (n == m) ≡ false
    flip m n e = grind arith

-- one of distinct numbers is taken out
one_fewer : (number : ℕ) (numbers : List ℕ) → IsDistinct (λ x y. x == y) numbers → is_among number numbers ≡ true → length (without number numbers) + 1 ≡ length numbers
unfolding IsDistinct
one_fewer number [] apart among = absurd (cc among)
one_fewer number (other ∷ numbers) apart among = by_test (other == number) refl (number == other) refl among (λ later. one_fewer number numbers apart.1 later)
  where
    by_test : (b : Bool) → (other == number) ≡ b → (d : Bool) → (number == other) ≡ d → (d || is_among number numbers) ≡ true
        → (is_among number numbers ≡ true → length (without number numbers) + 1 ≡ length numbers)
        → length (cond (not b) (other ∷ without number numbers) (without number numbers)) + 1 ≡ suc (length numbers)
    by_test true here d turned is next =
        let same : without number numbers ≡ numbers = stays number numbers (subst (λ n. AllByRecursion (λ m. (n == m) ≡ false) numbers) (eqb-true other number here) apart.0) in
        omega (arith, ap (λ (ns : List ℕ). length ns) same)
    by_test false away true turned is next = absurd (cc (away, eq-eqb other number (sym (eqb-true number other turned))))
    by_test false away false turned is next = omega (arith, next is)

and_not : (a b : Bool) → a ≡ true → b ≡ false → (a && not b) ≡ true
and_not a b x y = ap (λ t. t && not b) x ∙ ap not y

-- each of distinct numbers is taken out
pub fewer_all : (numbers ones : List ℕ) (p : ℕ → Bool) → Enumerates p ones → IsDistinct (λ x y. x == y) numbers → AllByRecursion (λ n. p n ≡ true) numbers → length (all_without numbers ones) + length numbers ≡ length ones
unfolding IsDistinct
fewer_all [] ones p are apart pass = omega arith
fewer_all (number ∷ numbers) ones p are apart pass =
    let left : Enumerates (λ n. p n && not (n == number)) (without number ones) = cleaned_ones p (λ n. p n && not (n == number)) number ones are (λ n. refl) in
    let rest : length (all_without numbers (without number ones)) + length numbers ≡ length (without number ones) =
    fewer_all numbers (without number ones) (λ n. p n && not (n == number)) left apart.1 (both numbers apart.0 pass.1) in
    omega (arith, rest, one_fewer number ones are.once (are.each number ∙ pass.0))
  where
    turned : (m : ℕ) → (number == m) ≡ false → (m == number) ≡ false
    turned m e = grind arith

    both : (ns : List ℕ) → AllByRecursion (λ m. (number == m) ≡ false) ns → AllByRecursion (λ n. p n ≡ true) ns → AllByRecursion (λ n. (p n && not (n == number)) ≡ true) ns
    both [] others h = tt
    both (m ∷ ns) others h = (and_not (p m) (m == number) h.0 (turned m others.0), both ns others.1 h.1)

-- in a row
cleaned_append : (first then_ : List ℕ) (rows : List ARow) → all_cleaned (first ++ then_) rows ≡ all_cleaned then_ (all_cleaned first rows)
cleaned_append [] then_ rows = refl
cleaned_append (address ∷ first) then_ rows = cleaned_append first then_ (cleaned address rows)

without_append : (first then_ numbers : List ℕ) → all_without (first ++ then_) numbers ≡ all_without then_ (all_without first numbers)
without_append [] then_ numbers = refl
without_append (address ∷ first) then_ numbers = without_append first then_ (without address numbers)

pub cleans_none : (old new : StoreView) → new.table ≡ old.table → new.dirty ≡ old.dirty → new.count ≡ old.count → new.journal.geo ≡ old.journal.geo → Cleans old new
cleans_none old new rows ages count geo = record { done = []; rows = rows; ages = ages; fewer = omega (arith, ap (λ (ns : List ℕ). length ns) ages); count = count; geometry = geo }

pub cleans_then : (old middle new : StoreView) → Cleans old middle → Cleans middle new → Cleans old new
cleans_then old middle new first next = record {
  done = first.done ++ next.done;
  rows = next.rows ∙ ap (λ (t : Table). record t { a = all_cleaned next.done t.a }) first.rows ∙ ap (λ (rows : List ARow). record old.table { a = rows }) (sym (cleaned_append first.done next.done old.table.a));
  ages = next.ages ∙ ap (all_without next.done) first.ages ∙ sym (without_append first.done next.done old.dirty);
  fewer = omega (arith, first.fewer, next.fewer, length-append first.done next.done);
  count = next.count ∙ first.count;
  geometry = next.geometry ∙ first.geometry;
}

pub cleans_on : {T E : Type 0} (result : Result T E) (old middle new : StoreView) → Cleans old middle → OnOk result (Cleans middle new) → OnOk result (Cleans old new)
cleans_on (Ok done) old middle new first next = cleans_then old middle new first next
cleans_on (Err fault) old middle new first next = tt

pub cleans_failed : {T : Type 0} (result : Result T StoreFault) (old middle new : StoreView) → Cleans old middle → IfErr result (λ fault. fault ≡ FlashRead → Cleans middle new) → IfErr result (λ fault. fault ≡ FlashRead → Cleans old new)
cleans_failed (Ok done) old middle new first next = tt
cleans_failed (Err fault) old middle new first next = λ is. cleans_then old middle new first (next is)

-- where what is laid is forgotten nothing is cleaned
pub forget_cleans : (old new : StoreView) → new ≡ unlaid old → Cleans old new
forget_cleans old new is = subst (λ (v : StoreView). Cleans old v) (sym is) (cleans_none old (unlaid old) refl refl refl refl)

-- and where what is pending was committed
pub commit_cleans : (old new : StoreView) (journal : JournalView) → new ≡ committed_store (unlaid old) journal → journal.geo ≡ old.journal.geo → Cleans old new
commit_cleans old new journal is same = subst (λ (v : StoreView). Cleans old v) (sym is) (cleans_none old (committed_store (unlaid old) journal) refl refl refl same)

-- the dirty addresses are listed
dirty_listed : (address : ℕ) (rows : List ARow) → is_dirty_at address rows ≡ true → is_among address (map (λ row. row.address) rows) ≡ true
dirty_listed address [] dirty = absurd (cc dirty)
dirty_listed address (row ∷ rows) dirty = by_test (row.address == address) refl (address == row.address) refl dirty (λ later. dirty_listed address rows later)
  where
    by_test : (b : Bool) → (row.address == address) ≡ b → (d : Bool) → (address == row.address) ≡ d → is_dirty (cond b (Some row) (a_row address rows)) ≡ true
        → (is_dirty_at address rows ≡ true → is_among address (map (λ r. r.address) rows) ≡ true) → (d || is_among address (map (λ r. r.address) rows)) ≡ true
    by_test b here true turned is next = refl
    by_test true here false turned is next = absurd (cc (turned, eq-eqb address row.address (sym (eqb-true row.address address here))))
    by_test false away false turned is next = next is

-- so they are no more than the list is long
pub dirty_few : (store : StoreView) → IsStore store → length store.dirty ≤ store.journal.geo.acap
dirty_few store is =
    let rows = store.table.a in
    omega (arith, few_among (λ address. is_dirty_at address rows) store.dirty (map (λ (row : ARow). row.address) rows) is.dirty (λ m dirty. dirty_listed m rows dirty), length-map rows (λ (row : ARow). row.address), is.rows.len_a)

-- where none is among the dirty ones no address is dirty
pub none_dirty_at : (store : StoreView) → IsStore store → store.dirty ≡ [] → (at : ℕ) → is_dirty_at at store.table.a ≡ false
none_dirty_at store is none at = sym (is.dirty.each at) ∙ ap (is_among at) none

-- where no dirty address is left none is dirty
pub none_dirty : (old new : StoreView) → IsStore old → Cleans old new → new.dirty ≡ [] → (at : ℕ) → is_dirty_at at new.table.a ≡ false
none_dirty old new is cleans none at =
    let ones : Enumerates (λ n. is_dirty_at n (all_cleaned cleans.done old.table.a)) (all_without cleans.done old.dirty) = dirty_all cleans.done old.table.a old.dirty is.dirty in
    ap (λ (t : Table). is_dirty_at at t.a) cleans.rows ∙ sym (ones.each at) ∙ ap (is_among at) (sym cleans.ages ∙ none)

pub none_left : {T E : Type 0} (result : Result T E) (store : StoreView) → OnOk result (has_along Age store ≡ false) → OnOk result (store.dirty ≡ [])
none_left (Ok done) store none = none_of store.dirty none
none_left (Err fault) store none = tt

-- and the disk shows the array
pub clean_shows : {T : Type 0} (print : List ℕ → Fp) (result : Result T StoreFault) (old new : StoreView) (world : World) (s : State) → IsStore old → new.journal.geo ≡ old.journal.geo
    → OnOk result (Cleans old new) → OnOk result (new.dirty ≡ []) → HoldsThen print result s s new world
    → OnOk result ((address : ℕ) → address < old.journal.geo.blocks → disk_block old.journal.geo world.disk.shown address ≡ content s.array address)
clean_shows print (Ok done) old new world s is same cleans none holds = λ address below.
    subst (λ (g : Geometry). disk_block g world.disk.shown address ≡ content s.array address) same
    (sym (holds.means.clean address (subst (λ (g : Geometry). address < g.blocks) (sym same) below) (none_dirty old new is cleans none address)))
clean_shows print (Err fault) old new world s is same cleans none holds = tt
