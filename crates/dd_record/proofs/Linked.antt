-- Replay keeps dirty addresses linked.
use Rattle.std.proofs.Common.{◌≡◌, ℕ, zero, suc, ◌≤◌, ◌==◌, Bool, true, false, List, [], ◌∷◌, take, refl, sym, subst, arith, Some, None, if◌then◌else◌}
use Rattle.std.specs.Prelude.{Option, filter, not, ◌&&◌, ◌||◌, slice_get, option_and_then}
use Rattle.std.specs.List.{AllByRecursion, list_any}
use Rattle.std.proofs.lemmas.Bool.{eq-eqb, eqb-true}
use Rattle.dd_record.specs.declared.row.ARow.{ARow}
use Rattle.dd_record.specs.declared.row.BRow.{BRow}
use Rattle.dd_record.specs.declared.row.Link.TheVariants.{Lost}
use Rattle.dd_record.specs.declared.rec.Rec.{Rec}
use Rattle.dd_record.specs.declared.rec.Rec.TheVariants.{Hit, Link, Store, Zero, Clean}
use Rattle.dd_record.specs.Table.{Table, is_link, is_slot, is_dirty_at, IsDirtyLinked}
use Rattle.dd_record.specs.Replay.{Touch, a_moved, b_moved, cut_block, cut_address, link_to, linked_row, unlinked_from, touched, is_clean_cut, is_free_cut, may_touch, touch_of, cleaned_row, cleaned, after_touch, after_rec, replay}
use Rattle.dd_record.proofs.Lists.{all_take, all_filter, all_map, all_both, got}

-- a block that is cut isn't the one that was referenced
abbrev other_slot : ℕ → BRow → Type 0
other_slot slot row = (row.slot == slot) ≡ false

not_true : (b : Bool) → not b ≡ true → b ≡ false
not_true true h = absurd (cc h)
not_true false h = refl

others : (slot : ℕ) (rows : List BRow) → AllByRecursion (λ row. not (row.slot == slot) ≡ true → other_slot slot row) rows
others slot [] = tt
others slot (row ∷ rows) = (λ h. not_true (row.slot == slot) h, others slot rows)

cut_is_other : (bcap : ℕ) (block : BRow) (rows : List BRow) (cut : BRow) → 1 ≤ bcap → slice_get (b_moved block rows) bcap ≡ Some cut → other_slot block.slot cut
cut_is_other zero block rows cut some is = absurd (omega arith)
cut_is_other (suc n) block rows cut some is = got (other_slot block.slot) (filter (λ row. not (row.slot == block.slot)) rows) n cut is
    (all_filter (other_slot block.slot) (λ row. not (row.slot == block.slot)) rows (others block.slot rows))

same_slot : (m n : ℕ) → (m == n) ≡ true → (n == m) ≡ true
same_slot m n e = eq-eqb n m (sym (eqb-true m n e))

-- what is referenced isn't linked to the block that is cut
not_to_cut : (bcap : ℕ) (block : Option BRow) (rows : List BRow) (cut : BRow) → 1 ≤ bcap → cut_block bcap block rows ≡ Some cut → is_slot cut.slot (link_to block) ≡ true → ⊥
not_to_cut bcap None rows cut some is here = cc is
not_to_cut bcap (Some block) rows cut some is here = cc (same_slot block.slot cut.slot here, cut_is_other bcap block rows cut some is)

to_link : (block : Option BRow) → is_link (link_to block) ≡ true
to_link None = refl
to_link (Some block) = refl

-- a dirty row that links to the block that is cut is that of the address
no_other_dirty : (address slot : ℕ) (rows : List ARow) → list_any (λ row. is_slot slot row.link && row.dirty && not (row.address == address)) rows ≡ false
    → AllByRecursion (λ (row : ARow). not (row.address == address) ≡ true → is_slot slot row.link ≡ true → row.dirty ≡ false) rows
no_other_dirty address slot [] h = tt
no_other_dirty address slot (row ∷ rows) h = (
  λ other here. dirty_of (is_slot slot row.link) row.dirty (not (row.address == address)) (first_of (is_slot slot row.link && row.dirty && not (row.address == address)) _ h) here other,
  no_other_dirty address slot rows (rest_of (is_slot slot row.link && row.dirty && not (row.address == address)) _ h),
)
  where
    first_of : (a b : Bool) → (a || b) ≡ false → a ≡ false
    first_of true b h = absurd (cc h)
    first_of false b h = refl

    rest_of : (a b : Bool) → (a || b) ≡ false → b ≡ false
    rest_of true b h = absurd (cc h)
    rest_of false b h = h

    dirty_of : (s d o : Bool) → (s && d && o) ≡ false → s ≡ true → o ≡ true → d ≡ false
    dirty_of s false o h here other = refl
    dirty_of true true true h here other = absurd (cc h)
    dirty_of true true false h here other = absurd (cc other)
    dirty_of false true o h here other = absurd (cc here)

unlinks : (b : Bool) (row : ARow) → (b ≡ true → row.dirty ≡ false) → IsDirtyLinked row → IsDirtyLinked (if b then record row { link = Lost } else row)
unlinks true row clean linked = λ dirty. absurd (cc (dirty, clean refl))
unlinks false row clean linked = linked

and_parts : (a b : Bool) → (a && b) ≡ true → (a ≡ true) × (b ≡ true)
and_parts true true h = (refl, refl)
and_parts true false h = absurd (cc h)
and_parts false b h = absurd (cc h)

-- the rows of addresses before they are cut: where one links to a block that is cut, it isn't dirty
abbrev Loses : Option BRow → ARow → Type 0
Loses None row = IsDirtyLinked row
Loses (Some cut) row = IsDirtyLinked row × (is_slot cut.slot row.link ≡ true → row.dirty ≡ false)

loses_link : (cut : Option BRow) (row : ARow) → Loses cut row → IsDirtyLinked (unlinked_from cut row)
loses_link None row h = h
loses_link (Some cut) row h = unlinks (is_slot cut.slot row.link) row h.1 h.0

module _ (acap bcap : ℕ) (some : 1 ≤ bcap) (touch : Touch) (table : Table) where
  front_loses : (cut : Option BRow) → cut_block bcap touch.block table.b ≡ cut → Loses cut (linked_row touch table.a)
  front_loses None is = λ dirty. to_link touch.block
  front_loses (Some cut) is = (λ dirty. to_link touch.block, λ here. absurd (not_to_cut bcap touch.block table.b cut some is here))

  rest_loses : (cut : Option BRow) → is_free_cut touch.address table.a cut ≡ true → AllByRecursion IsDirtyLinked table.a → AllByRecursion (λ row. not (row.address == touch.address) ≡ true → Loses cut row) table.a
  rest_loses None free linked = all_both IsDirtyLinked IsDirtyLinked (λ row. not (row.address == touch.address) ≡ true → Loses None row) table.a (λ row here also other. here) linked linked
  rest_loses (Some cut) free linked =
      all_both IsDirtyLinked (λ row. not (row.address == touch.address) ≡ true → is_slot cut.slot row.link ≡ true → row.dirty ≡ false) (λ row. not (row.address == touch.address) ≡ true → Loses (Some cut) row) table.a
      (λ row here clean other. (here, clean other)) linked
      (no_other_dirty touch.address cut.slot table.a (not_true (list_any (λ row. is_slot cut.slot row.link && row.dirty && not (row.address == touch.address)) table.a) free))

  -- a touch that the rows allow keeps them so
  touched_linked : may_touch acap bcap touch table ≡ true → AllByRecursion IsDirtyLinked table.a → AllByRecursion IsDirtyLinked (touched acap bcap touch table).a
  touched_linked may linked =
      let cut : Option BRow = cut_block bcap touch.block table.b in
      let free = (and_parts (is_clean_cut (cut_address acap touch table.a)) (is_free_cut touch.address table.a cut) may).1 in
      all_map (Loses cut) IsDirtyLinked (unlinked_from cut) (take acap (a_moved touch table.a)) (loses_link cut)
      (all_take (Loses cut) acap (a_moved touch table.a)
      (front_loses cut refl, all_filter (Loses cut) (λ row. not (row.address == touch.address)) table.a (rest_loses cut free linked)))

cleans : (address : ℕ) (row : ARow) → IsDirtyLinked row → IsDirtyLinked (cleaned_row address row)
cleans address row linked = by_test (row.address == address)
  where
    by_test : (b : Bool) → IsDirtyLinked (if b then record row { dirty = false } else row)
    by_test true = λ dirty. absurd (cc dirty)
    by_test false = linked

module _ (acap bcap : ℕ) (some : 1 ≤ bcap) where
  by_touch : (touch : Option Touch) (table after : Table) → option_and_then (after_touch acap bcap table) touch ≡ Some after → AllByRecursion IsDirtyLinked table.a → AllByRecursion IsDirtyLinked after.a
  by_touch None table after is linked = absurd (cc is)
  by_touch (Some touch) table after is linked = by_test (may_touch acap bcap touch table) refl is
    where
      by_test : (b : Bool) → may_touch acap bcap touch table ≡ b → (if b then Some (touched acap bcap touch table) else None) ≡ Some after → AllByRecursion IsDirtyLinked after.a
      by_test true may e =
          let same : touched acap bcap touch table ≡ after = cc e in
          subst (λ (t : Table). AllByRecursion IsDirtyLinked t.a) same (touched_linked acap bcap some touch table may linked)
      by_test false may e = absurd (cc e)

  by_clean : (b : Bool) (address : ℕ) (table after : Table) → (if b then Some (record table { a = cleaned address table.a }) else None) ≡ Some after → AllByRecursion IsDirtyLinked table.a → AllByRecursion IsDirtyLinked after.a
  by_clean true address table after is linked =
      let same : record table { a = cleaned address table.a } ≡ after = cc is in
      subst (λ (t : Table). AllByRecursion IsDirtyLinked t.a) same (all_map IsDirtyLinked IsDirtyLinked (cleaned_row address) table.a (cleans address) linked)
  by_clean false address table after is linked = absurd (cc is)

  after_linked : (rec : Rec) (table after : Table) → after_rec acap bcap rec table ≡ Some after → AllByRecursion IsDirtyLinked table.a → AllByRecursion IsDirtyLinked after.a
  after_linked (Hit address) table after is linked = by_touch (touch_of (Hit address) table) table after is linked
  after_linked (Link address slot dirty) table after is linked = by_touch (touch_of (Link address slot dirty) table) table after is linked
  after_linked (Store address slot fp dirty) table after is linked = by_touch (touch_of (Store address slot fp dirty) table) table after is linked
  after_linked (Zero address dirty) table after is linked = by_touch (touch_of (Zero address dirty) table) table after is linked
  after_linked (Clean address) table after is linked = by_clean (is_dirty_at address table.a) address table after is linked

  -- a record, and the records behind it
  and_then : (recs : List Rec) (middle : Option Table) (after : Table) → ((t : Table) → middle ≡ Some t → AllByRecursion IsDirtyLinked t.a)
      → ((t : Table) → replay acap bcap recs t ≡ Some after → AllByRecursion IsDirtyLinked t.a → AllByRecursion IsDirtyLinked after.a) → option_and_then (replay acap bcap recs) middle ≡ Some after → AllByRecursion IsDirtyLinked after.a
  and_then recs None after here rest is = absurd (cc is)
  and_then recs (Some t) after here rest is = rest t is (here t refl)

  -- and so does each record that fits
  pub replay_linked : (recs : List Rec) (table after : Table) → replay acap bcap recs table ≡ Some after → AllByRecursion IsDirtyLinked table.a → AllByRecursion IsDirtyLinked after.a
  replay_linked [] table after is linked =
      let same : table ≡ after = cc is in
      subst (λ (t : Table). AllByRecursion IsDirtyLinked t.a) same linked
  replay_linked (rec ∷ recs) table after is linked =
      and_then recs (after_rec acap bcap rec table) after (λ t here. after_linked rec table t here linked) (λ t rest keeps. replay_linked recs t after rest keeps) is
