-- Behind a reference a store keeps what its type keeps.
use Rattle.std.proofs.Common.{◌≡◌, inl, ℕ, zero, suc, ◌+◌, ◌<◌, ◌≤◌, ◌==◌, Bool, true, false, cond, List, [], ◌∷◌, ◌++◌, length, take, refl, ◌∙◌, ap, subst, arith, Some, None, length-append}
use Rattle.std.specs.Prelude.{Option, option_map, option_and_then, slice_set, ◌||◌, ◌&&◌, not, is_none, count_by, IfSome}
use Rattle.std.specs.List.{AllByRecursion, IsDistinct}
use Rattle.std.proofs.lemmas.List.{length-set}
use Rattle.std.proofs.lemmas.List.Sums.{sum_by-append}
use Rattle.dd_block.specs.declared.print.Fp.{Fp}
use Rattle.dd_block.specs.declared.geometry.Geometry.{Geometry}
use Rattle.dd_slots.specs.declared.usage.Usage.{Usage}
use Rattle.dd_slots.specs.declared.usage.Usage.TheVariants.{Used}
use Rattle.dd_record.specs.declared.row.BRow.{BRow}
use Rattle.dd_record.specs.declared.rec.Rec.{Rec}
use Rattle.dd_record.specs.declared.rec.Rec.TheVariants.{Hit, Link, Store, Zero, Clean}
use Rattle.dd_record.specs.Spelling.{IsB, IsRec}
use Rattle.dd_record.specs.Table.{Table, has_slot, b_row, is_link, link_at, is_dirty_at}
use Rattle.dd_record.specs.Replay.{Touch, touched, touch_of, b_after, cut_block, raises, replay}
use Rattle.dd_record.proofs.Replayed.{AreListed, replay_listed}
use Rattle.dd_model.proofs.Dirty.{dirtied_ones}
use Rattle.dd_store.specs.Keeping.{StoreView, IsStore, NamesKept, is_spare}
use Rattle.dd_store.specs.Referring.{RecordFits, used_by, let_go, referred_store}
use Rattle.dd_store.proofs.Referring.{after_is, dirty_then}
use Rattle.dd_store.proofs.Uses.{fewer_free, let_go_stays, listed_kept, here_kept}
use Rattle.dd_store.proofs.Using.{used_after}

one_behind : (P : Rec → Type 0) (recs : List Rec) (rec : Rec) → AllByRecursion P recs → P rec → AllByRecursion P (recs ++ rec ∷ [])
one_behind P [] rec all here = (here, tt)
one_behind P (r ∷ recs) rec all here = (all.0, one_behind P recs rec all.1 here)

front_of : (geo : Geometry) (n : ℕ) (row : BRow) (rows : List BRow) → 1 ≤ n → AllByRecursion (IsB geo) (take n (row ∷ rows)) → IsB geo row
front_of geo zero row rows some all = absurd (omega arith)
front_of geo (suc n) row rows some all = all.0

slot_below : (geo : Geometry) (block : Option BRow) (b : List BRow) (uses : List Usage) → length uses ≡ geo.bcap + geo.spare → AllByRecursion (IsB geo) (b_after geo.bcap block b) → IfSome block (λ row. row.slot < length uses)
slot_below geo None b uses sized all = tt
slot_below geo (Some row) b uses sized all = omega (arith, (front_of geo geo.bcap row _ geo.bcap_least all).slot, sized)

has_of : (slot : ℕ) (row : BRow) (b : List BRow) → b_row slot b ≡ Some row → has_slot slot b ≡ true
has_of slot row [] is = absurd (cc is)
has_of slot row (r ∷ b) is = by_test (r.slot == slot) is (λ e. has_of slot row b e)
  where
    by_test : (t : Bool) → cond t (Some r) (b_row slot b) ≡ Some row → (b_row slot b ≡ Some row → has_slot slot b ≡ true) → (t || has_slot slot b) ≡ true
    by_test true e next = refl
    by_test false e next = next e

still_named : (cut block : Option BRow) (uses : List Usage) (rec : Rec) → NamesKept uses rec → NamesKept (let_go cut (used_by block uses)) rec
still_named cut block uses (Hit address) h = tt
still_named cut block uses (Link address slot dirty) h = fewer_free slot cut block uses h
still_named cut block uses (Store address slot fp dirty) h = fewer_free slot cut block uses h
still_named cut block uses (Zero address dirty) h = tt
still_named cut block uses (Clean address) h = tt

all_named : (cut block : Option BRow) (uses : List Usage) (recs : List Rec) → AllByRecursion (NamesKept uses) recs → AllByRecursion (NamesKept (let_go cut (used_by block uses))) recs
all_named cut block uses [] h = tt
all_named cut block uses (rec ∷ recs) h = (still_named cut block uses rec h.0, all_named cut block uses recs h.1)

-- the slot that the record names is used
module _ (store : StoreView) (is : IsStore store) (touch : Touch) (cut : Option BRow) where
  by_row : (address slot : ℕ) (dirty t : Bool) (o : Option BRow) → b_row slot store.table.b ≡ o → cond t (option_map (λ row. record { address = address; block = Some row; dirty = dirty }) o) None ≡ Some touch
      → is_spare slot (let_go cut (used_by touch.block store.uses)) ≡ false
  by_row address slot dirty true None found e = absurd (cc e)
  by_row address slot dirty false None found e = absurd (cc e)
  by_row address slot dirty t (Some row) found e = fewer_free slot cut touch.block store.uses (listed_kept store is slot (has_of slot row store.table.b found))

  by_store : (address slot : ℕ) (fp : Fp) (dirty t : Bool) → cond t (Some (record { address = address; block = Some (record { slot = slot; fp = fp }); dirty = dirty })) None ≡ Some touch
      → is_spare slot (let_go cut (used_by touch.block store.uses)) ≡ false
  by_store address slot fp dirty true e =
      let same : record { address = address; block = Some (record { slot = slot; fp = fp }); dirty = dirty } ≡ touch = cc e in
      subst (λ (u : Touch). is_spare slot (let_go cut (used_by u.block store.uses)) ≡ false) same (let_go_stays slot cut (slice_set store.uses slot Used) (here_kept store.uses slot))
  by_store address slot fp dirty false e = absurd (cc e)

  named_one : (rec : Rec) → touch_of rec store.table ≡ Some touch → NamesKept (let_go cut (used_by touch.block store.uses)) rec
  named_one (Hit address) e = tt
  named_one (Link address slot dirty) e = by_row address slot dirty (dirty || not (is_link (link_at address store.table.a))) (b_row slot store.table.b) refl e
  named_one (Store address slot fp dirty) e = by_store address slot fp dirty ((dirty || not (is_link (link_at address store.table.a))) && is_none (b_row slot store.table.b)) e
  named_one (Zero address dirty) e = tt
  named_one (Clean address) e = tt

used_long : (block : Option BRow) (uses : List Usage) → length (used_by block uses) ≡ length uses
used_long None uses = refl
used_long (Some row) uses = length-set uses row.slot Used

let_go_long : (cut : Option BRow) (uses : List Usage) → length (let_go cut uses) ≡ length uses
let_go_long None uses = refl
let_go_long (Some cut) uses = length-set uses cut.slot _

raised_more : (recs : List Rec) (rec : Rec) → raises rec ≡ true → count_by raises (recs ++ rec ∷ []) ≡ count_by raises recs + 1
raised_more recs rec up = sum_by-append (λ (r : Rec). cond (raises r) 1 0) recs (rec ∷ []) ∙ ap (λ (b : Bool). count_by raises recs + (0 + cond b 1 0)) up

module _ (store : StoreView) (is : IsStore store) (rec : Rec) (touch : Touch) (fits : RecordFits store rec touch)
    (right : IsRec store.journal.geo store.journal.version rec) (room : length store.pending < store.journal.geo.group) where
  abbrev after : Table
  after = touched store.journal.geo.acap store.journal.geo.bcap touch store.table

  listed : AreListed store.journal.geo store.journal.version after
  listed = replay_listed store.journal.geo store.journal.version (rec ∷ []) store.table after (right, tt)
      (record { fit = is.fit; b_rows = is.rows.b_rows; a_rows = is.rows.a_rows; len_b = is.rows.len_b; len_a = is.rows.len_a })
      (ap (option_and_then (replay store.journal.geo.acap store.journal.geo.bcap [])) (after_is store is rec touch fits))

  abbrev cut : Option BRow
  cut = cut_block store.journal.geo.bcap touch.block store.table.b

  pub referred_is : IsStore (referred_store rec touch store)
  unfolding IsDistinct
  referred_is = record {
    journal_up = is.journal_up;
    version = is.version;
    rows = record { b_rows = listed.b_rows; a_rows = listed.a_rows; len_b = listed.len_b; len_a = listed.len_a };
    fit = listed.fit;
    few = omega (arith, length-append store.pending (rec ∷ []), room);
    records = one_behind (IsRec store.journal.geo store.journal.version) store.pending rec is.records right;
    counted = ap suc is.counted ∙ omega (arith, raised_more store.pending rec fits.raised);
    sized = let_go_long cut (used_by touch.block store.uses) ∙ used_long touch.block store.uses ∙ is.sized;
    used = used_after store.journal.geo.bcap touch.block store.table.b store.uses is.rows.len_b is.fit.slots (slot_below store.journal.geo touch.block store.table.b store.uses is.sized listed.b_rows) is.used;
    named = one_behind (NamesKept (let_go cut (used_by touch.block store.uses))) store.pending rec (all_named cut touch.block store.uses store.pending is.named) (named_one store is touch cut rec fits.touches);
    dirty = dirtied_ones (λ address. is_dirty_at address store.table.a) (λ address. is_dirty_at address after.a) touch.address touch.dirty
        (dirty_then store is rec touch fits) store.dirty is.dirty;
    laid = λ address never. absurd (cc never);
    laid_once = tt;
    few_laid = omega arith;
    laid_alone = inl refl;
  }
