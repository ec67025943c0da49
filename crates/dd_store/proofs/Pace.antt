-- The epoch keeps pace with the count: how many rows are dirty behind each step.
use Rattle.std.proofs.Common.{◌≡◌, ◌∙◌, ◌⊎◌, ⊎_elim, ℕ, ◌+◌, ◌<◌, ◌≤◌, ◌==◌, not, Bool, true, false, cond, List, [], ◌∷◌, length, take, map, filter, refl, sym, ap, arith, Some, None, if◌then◌else◌}
use Rattle.std.specs.Prelude.{Option}
use Rattle.std.proofs.lemmas.List.{length-append}
use Rattle.std.proofs.lemmas.List.Sums.{sum_by-cons, sum_by-take-le}
use Rattle.dd_record.specs.declared.row.ARow.{ARow}
use Rattle.dd_record.specs.declared.row.BRow.{BRow}
use Rattle.dd_record.specs.declared.row.Link.TheVariants as links
use Rattle.dd_record.specs.declared.rec.Rec.{Rec}
use Rattle.dd_record.specs.Replay.{Touch, touched, linked_row, unlinked_from, cut_block, cleaned}
use Rattle.dd_record.specs.Table.{Table, a_row, is_slot, is_dirty, is_dirty_at}
use Rattle.dd_store.specs.Keeping.{StoreView, StaysInPace}
use Rattle.dd_store.specs.Meaning.{dirty_rows}
use Rattle.dd_store.specs.Referring.{referred_store}

one_most : (b : Bool) → cond b 1 0 ≤ 1
one_most true = omega arith
one_most false = omega arith

-- one row more
counted : (row : ARow) (rows : List ARow) → dirty_rows (row ∷ rows) ≡ cond row.dirty 1 0 + dirty_rows rows
counted row rows = sum_by-cons (λ (one : ARow). cond one.dirty 1 0) row rows

filtered_at : (t : Bool) (row : ARow) (kept rows : List ARow) → dirty_rows kept ≤ dirty_rows rows → dirty_rows (cond t (row ∷ kept) kept) ≤ dirty_rows (row ∷ rows)
filtered_at true row kept rows h = let here : dirty_rows (row ∷ kept) ≤ dirty_rows (row ∷ rows) = omega (arith, h, counted row kept, counted row rows) in here
filtered_at false row kept rows h = let here : dirty_rows kept ≤ dirty_rows (row ∷ rows) = omega (arith, h, counted row rows) in here

filtered : (p : ARow → Bool) (rows : List ARow) → dirty_rows (filter p rows) ≤ dirty_rows rows
filtered p [] = omega arith
filtered p (row ∷ rows) = filtered_at (p row) row (filter p rows) rows (filtered p rows)

cut_off : (n : ℕ) (rows : List ARow) → dirty_rows (take n rows) ≤ dirty_rows rows
cut_off n rows = sum_by-take-le (λ (row : ARow). cond row.dirty 1 0) rows n

-- links that go leave the rows as dirty as they were
same_dirty : (cut : Option BRow) (row : ARow) → (unlinked_from cut row).dirty ≡ row.dirty
same_dirty None row = refl
same_dirty (Some cut) row = elim (is_slot cut.slot row.link) as (λ t. (if t then record row { link = links.Lost } else row).dirty ≡ row.dirty) [ true ↦ refl | false ↦ refl ]

unlinked : (cut : Option BRow) (rows : List ARow) → dirty_rows (map (unlinked_from cut) rows) ≡ dirty_rows rows
unlinked cut [] = refl
unlinked cut (row ∷ rows) =
    counted (unlinked_from cut row) (map (unlinked_from cut) rows)
    ∙ ap (λ (b : Bool). cond b 1 0 + dirty_rows (map (unlinked_from cut) rows)) (same_dirty cut row)
    ∙ ap (λ n. cond row.dirty 1 0 + n) (unlinked cut rows)
    ∙ sym (counted row rows)

-- a reference makes one address dirty at most
touched_dirty : (acap bcap : ℕ) (touch : Touch) (table : Table) → dirty_rows (touched acap bcap touch table).a ≤ dirty_rows table.a + 1
touched_dirty acap bcap touch table =
    let first = linked_row touch table.a in
    let others : List ARow = filter (λ row. not (row.address == touch.address)) table.a in
    let cut = cut_block bcap touch.block table.b in
    let here : dirty_rows (map (unlinked_from cut) (take acap (first ∷ others))) ≤ dirty_rows table.a + 1 = omega (
      arith,
      unlinked cut (take acap (first ∷ others)),
      cut_off acap (first ∷ others),
      counted first others,
      one_most first.dirty,
      filtered (λ row. not (row.address == touch.address)) table.a,
    ) in
    here

pub pace_referred : (room : ℕ) (its : Rec) (touch : Touch) (store : StoreView) → StaysInPace room store → StaysInPace room (referred_store its touch store)
pace_referred room its touch store pace = omega (arith, pace, touched_dirty store.journal.geo.acap store.journal.geo.bcap touch store.table, length-append store.pending (its ∷ []))

-- what is made clean was dirty
cleaned_at : (t : Bool) (row : ARow) (rows later : List ARow) → dirty_rows later ≤ dirty_rows rows → dirty_rows ((if t then record row { dirty = false } else row) ∷ later) ≤ dirty_rows (row ∷ rows)
cleaned_at true row rows later h =
    let gone : dirty_rows (record row { dirty = false } ∷ later) ≡ dirty_rows later = counted (record row { dirty = false }) later ∙ omega arith in
    let here : dirty_rows (record row { dirty = false } ∷ later) ≤ dirty_rows (row ∷ rows) = omega (arith, h, gone, counted row rows) in
    here
cleaned_at false row rows later h = let here : dirty_rows (row ∷ later) ≤ dirty_rows (row ∷ rows) = omega (arith, h, counted row later, counted row rows) in here

cleaned_few : (address : ℕ) (rows : List ARow) → dirty_rows (cleaned address rows) ≤ dirty_rows rows
cleaned_few address [] = omega arith
cleaned_few address (row ∷ rows) = cleaned_at (row.address == address) row rows (cleaned address rows) (cleaned_few address rows)

fewer_at : (t : Bool) (address : ℕ) (row : ARow) (rows : List ARow) → (is_dirty_at address rows ≡ true → dirty_rows (cleaned address rows) + 1 ≤ dirty_rows rows)
    → is_dirty (cond t (Some row) (a_row address rows)) ≡ true → dirty_rows ((if t then record row { dirty = false } else row) ∷ cleaned address rows) + 1 ≤ dirty_rows (row ∷ rows)
fewer_at true address row rows next is =
    let gone : dirty_rows (record row { dirty = false } ∷ cleaned address rows) ≡ dirty_rows (cleaned address rows) = counted (record row { dirty = false }) (cleaned address rows) ∙ omega arith in
    let here_one : ℕ = cond row.dirty 1 0 in
    let one : here_one ≡ 1 = ap (λ (b : Bool). cond b 1 0) is in
    let here : dirty_rows (record row { dirty = false } ∷ cleaned address rows) + 1 ≤ dirty_rows (row ∷ rows) = omega (arith, gone, one, counted row rows, cleaned_few address rows) in
    here
fewer_at false address row rows next is =
    let here : dirty_rows (row ∷ cleaned address rows) + 1 ≤ dirty_rows (row ∷ rows) = omega (arith, next is, counted row (cleaned address rows), counted row rows) in
    here

pub cleaned_fewer : (address : ℕ) (rows : List ARow) → is_dirty_at address rows ≡ true → dirty_rows (cleaned address rows) + 1 ≤ dirty_rows rows
cleaned_fewer address [] dirty = absurd (cc dirty)
cleaned_fewer address (row ∷ rows) dirty = fewer_at (row.address == address) address row rows (cleaned_fewer address rows) dirty

-- something is pending, or nothing is
pub by_some : {P : Type 0} {X : Type 0} (recs : List X) → (recs ≡ [] → P) → (0 < length recs → P) → P
by_some [] none some = none refl
by_some (rec ∷ recs) none some = some (omega arith)

-- an epoch that is the same or the next one
pub rises : (old new : ℕ) → (new ≡ old) ⊎ (new ≡ old + 1) → new ≤ old + 1
rises old new either = ⊎_elim (λ same. omega (arith, same)) (λ next. omega (arith, next)) either
