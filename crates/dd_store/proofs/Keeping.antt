-- An address that a walk passes over, and one for which room is made, is as dirty as it was.
use Rattle.std.proofs.Common.{◌≡◌, ℕ, ◌==◌, not, Bool, true, false, cond, List, [], ◌∷◌, ◌++◌, take, refl, sym, ◌∙◌, ap, Some, None, arith}
use Rattle.std.specs.Prelude.{Option, Result, Ok, Err, OnOk, ◌||◌, is_some, option_map, if◌then◌else◌}
use Rattle.std.specs.List.{AllByRecursion}
use Rattle.dd_slots.specs.Numbers.{is_among}
use Rattle.dd_record.specs.declared.row.ARow.{ARow}
use Rattle.dd_record.specs.Table.{Table, a_row, is_dirty, is_dirty_at}
use Rattle.dd_model.specs.declared.done.Done.{Done}
use Rattle.dd_model.specs.declared.done.Victims.{Victims}
use Rattle.dd_model.specs.declared.given.Want.{Want}
use Rattle.dd_model.specs.Listing.{dirtied, victims_of, without, last_of_full}
use Rattle.dd_journal.specs.Sitting.{JournalView}
use Rattle.dd_store.specs.declared.along.Along.{Along}
use Rattle.dd_store.specs.declared.along.Along.TheVariants.{Age, Referrers}
use Rattle.dd_store.specs.Committing.{committed_store}
use Rattle.dd_store.specs.Bringing.{References}
use Rattle.dd_store.specs.Keeping.{StoreView, IsStore}
use Rattle.dd_store.specs.Laying.{all_laid, all_without, marked_store}
use Rattle.dd_store.specs.Referring.{listing_in}
use Rattle.dd_store.specs.Rounds.{Cleans, PassesOver, KeepsSkipped, walk_of}
use Rattle.dd_store.specs.Serving.{unlaid}
use Rattle.dd_store.proofs.Marking.{dirty_all, others_dirty}
use Rattle.dd_store.proofs.RoomBehind.{clean_all}
use Rattle.dd_store.proofs.Walks.{all_take}

flip : (a b : ℕ) → (a == b) ≡ false → (b == a) ≡ false
flip a b h = grind arith

others : (skip : ℕ) (numbers : List ℕ) → AllByRecursion (λ other. (other == skip) ≡ false) (without skip numbers)
others skip [] = tt
others skip (other ∷ numbers) = by_test (other == skip) refl (others skip numbers)
  where
    by_test : (b : Bool) → (other == skip) ≡ b → AllByRecursion (λ n. (n == skip) ≡ false) (without skip numbers)
        → AllByRecursion (λ n. (n == skip) ≡ false) (cond (not b) (other ∷ without skip numbers) (without skip numbers))
    by_test true here rest = rest
    by_test false away rest = (away, rest)

not_among : (skip : ℕ) (numbers : List ℕ) → AllByRecursion (λ other. (other == skip) ≡ false) numbers → is_among skip numbers ≡ false
not_among skip [] h = refl
not_among skip (other ∷ numbers) h = λ i. flip other skip h.0 i || not_among skip numbers h.1 i

-- the first addresses of a walk
pub passes_first : (along : Along) (n : ℕ) (dirty : List ℕ) (referrers : ℕ → List ℕ) (laid : List ℕ) → laid ≡ take n (walk_of along dirty referrers) → PassesOver along laid
passes_first Age n dirty referrers laid is = tt
passes_first (Referrers slot skip) n dirty referrers laid is =
    ap (is_among skip) is ∙ not_among skip (take n (without skip (referrers slot))) (all_take (λ other. (other == skip) ≡ false) n (without skip (referrers slot)) (others skip (referrers slot)))

-- a round: a commit, some addresses laid, and those marked clean
pub round_skips : (along : Along) (old first second new : StoreView) (journal : JournalView) → first ≡ committed_store (unlaid old) journal → second ≡ all_laid second.laid first → new ≡ marked_store second → PassesOver along second.laid → KeepsSkipped along old new
round_skips Age old first second new journal committed laid marked passes = tt
round_skips (Referrers slot skip) old first second new journal committed laid marked passes =
    ap (λ (v : StoreView). is_dirty_at skip v.table.a) marked
    ∙ others_dirty skip second.laid second.table.a passes
    ∙ ap (λ (v : StoreView). is_dirty_at skip v.table.a) laid
    ∙ ap (λ (v : StoreView). is_dirty_at skip v.table.a) committed

pub skips_unlaid : (along : Along) (old new : StoreView) → new ≡ unlaid old → KeepsSkipped along old new
skips_unlaid Age old new is = tt
skips_unlaid (Referrers slot skip) old new is = ap (λ (v : StoreView). is_dirty_at skip v.table.a) is

pub skips_then : (along : Along) (old middle new : StoreView) → KeepsSkipped along old middle → KeepsSkipped along middle new → KeepsSkipped along old new
skips_then Age old middle new first next = tt
skips_then (Referrers slot skip) old middle new first next = next ∙ first

-- an address that falls off isn't the one that is referenced: that isn't listed then
out_own : (address : ℕ) (old middle : StoreView) (o : Option ARow) → a_row address old.table.a ≡ o → Cleans old middle
    → ((if is_some o then None else option_map (λ (row : ARow). row.address) (last_of_full old.journal.geo.acap old.table.a)) ≡ None → middle ≡ unlaid old)
    → is_dirty_at address middle.table.a ≡ is_dirty_at address old.table.a
out_own address old middle (Some row) found cleans idle = ap (λ (v : StoreView). is_dirty_at address v.table.a) (idle refl)
out_own address old middle None found cleans idle =
    let clean : is_dirty_at address old.table.a ≡ false = ap is_dirty found in
    ap (λ t. is_dirty_at address t.a) cleans.rows ∙ clean_all address cleans.done old.table.a clean ∙ sym clean

pub own_out : (address : ℕ) (want : Want) (old middle : StoreView) (victims : Victims) → victims ≡ victims_of address want (listing_in old) → Cleans old middle → (victims.out ≡ None → middle ≡ unlaid old)
    → is_dirty_at address middle.table.a ≡ is_dirty_at address old.table.a
own_out address want old middle victims are cleans idle =
    out_own address old middle (a_row address old.table.a) refl cleans (λ none. idle (ap (λ (v : Victims). v.out) are ∙ none))

pub own_on : {T E : Type 0} (result : Result T E) (address slot : ℕ) (old middle new : StoreView) → is_dirty_at address middle.table.a ≡ is_dirty_at address old.table.a
    → OnOk result (KeepsSkipped (Referrers slot address) middle new) → OnOk result (is_dirty_at address new.table.a ≡ is_dirty_at address old.table.a)
own_on (Ok done) address slot old middle new first next = next ∙ first
own_on (Err fault) address slot old middle new first next = tt

-- nor does a commit change it
pub own_committed : {T E : Type 0} (result : Result T E) (address : ℕ) (old middle new : StoreView) (journal : JournalView) → is_dirty_at address middle.table.a ≡ is_dirty_at address old.table.a
    → OnOk result (new ≡ committed_store (unlaid middle) journal) → OnOk result (is_dirty_at address new.table.a ≡ is_dirty_at address old.table.a)
own_committed (Ok done) address old middle new journal first next = ap (λ (v : StoreView). is_dirty_at address v.table.a) next ∙ first
own_committed (Err fault) address old middle new journal first next = tt

-- A write of a dirty address keeps its place: of the dirty ones those fall away that were made clean, and it is none of them.
pub keeps_place : (address : ℕ) (old new : StoreView) (done : Done) (made : References address true old new done) → IsStore old → is_dirty_at address old.table.a ≡ true
    → (new.dirty ≡ all_without made.cleans.done old.dirty) × (is_among address new.dirty ≡ true)
keeps_place address old new done made is dirty =
    let among : is_among address (all_without made.cleans.done old.dirty) ≡ true =
    (dirty_all made.cleans.done old.table.a old.dirty is.dirty).each address ∙ ap (λ (t : Table). is_dirty_at address t.a) (sym made.cleans.rows) ∙ made.own ∙ dirty in
    let still : is_among address made.middle.dirty ≡ true = ap (is_among address) made.cleans.ages ∙ among in
    let ends : new.dirty ≡ all_without made.cleans.done old.dirty =
    ap (λ (v : StoreView). v.dirty) made.after
    ∙ (λ i. dirtied (made.at i) (made.becomes i) made.middle.dirty)
    ∙ ap (λ b. if not b then made.middle.dirty ++ address ∷ [] else made.middle.dirty) still
    ∙ made.cleans.ages in
    (ends, ap (is_among address) ends ∙ among)
