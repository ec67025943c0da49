-- A reference: rows, count and pending records go on by one, and what is kept goes on with them.
use Rattle.std.proofs.Common.{◌≡◌, ⊎_elim, ℕ, zero, suc, ◌+◌, ◌<◌, ◌≤◌, ◌==◌, Bool, true, false, cond, List, [], ◌∷◌, ◌++◌, length, map, refl, sym, ◌∙◌, ap, subst, arith, Some, None, if◌then◌else◌, get_or-set_same, get_or-set_other}
use Rattle.std.specs.Prelude.{Option, option_and_then, ◌||◌, slice_set, filter, not}
use Rattle.std.specs.List.{AllByRecursion, IsDistinct}
use Rattle.std.specs.Str.{bytes_eq}
use Rattle.std.proofs.lemmas.Bool.{eqb-true, eq-eqb, and_parts, false≢true}
use Rattle.std.proofs.lemmas.List.{length-set}
use Rattle.std.proofs.lemmas.Slice.Eq.{bytes_eq-Decides}
use Rattle.dd_block.specs.declared.print.Fp.{Fp}
use Rattle.dd_rig.specs.World.{World}
use Rattle.dd_layout.specs.Layout.{slot_block, disk_block}
use Rattle.dd_record.specs.declared.row.ARow.{ARow}
use Rattle.dd_record.specs.declared.row.BRow.{BRow}
use Rattle.dd_record.specs.declared.rec.Rec.{Rec}
use Rattle.dd_record.specs.declared.rec.Rec.TheVariants.{Hit, Link, Store, Zero, Clean}
use Rattle.dd_record.specs.Table.{Table, is_dirty_at}
use Rattle.dd_record.specs.Replay.{Touch, a_moved, touched, may_touch, touch_of, after_rec, replay, raises, cut_address, cut_block, is_clean_cut, is_free_cut}
use Rattle.dd_model.specs.State.{State, content, is_zero_block, is_known}
use Rattle.dd_model.specs.Reference.{reference}
use Rattle.dd_model.specs.Rows.{held_block}
use Rattle.dd_model.proofs.Slots.{held_all, listed_alone, HoldsAlone}
use Rattle.dd_model.proofs.RecordLaws.{HasBlock, MayMove, shows-touched, links-fit}
use Rattle.dd_model.proofs.Dirty.{dirty_touched}
use Rattle.dd_store.specs.Meaning.{Basis, Means, sizes_of}
use Rattle.dd_store.specs.Keeping.{StoreView, IsStore, Holds, Kept}
use Rattle.dd_store.specs.Referring.{IsThere, IsPlaced, RecordFits, Refers, referred_store}
use Rattle.dd_store.proofs.Pace.{pace_referred}
use Rattle.dd_store.proofs.Uses.{fewer_free}

-- a record that references, where the cut is allowed
pub after_touch : (acap bcap : ℕ) (rec : Rec) (table : Table) (touch : Touch) → raises rec ≡ true → touch_of rec table ≡ Some touch → may_touch acap bcap touch table ≡ true → after_rec acap bcap rec table ≡ Some (touched acap bcap touch table)
after_touch acap bcap rec table touch raised is may = by_rec rec raised is
  where
    onto : (o : Option Touch) → o ≡ Some touch → option_and_then (λ t. if may_touch acap bcap t table then Some (touched acap bcap t table) else None) o ≡ Some (touched acap bcap touch table)
    onto o e = ap (option_and_then (λ t. if may_touch acap bcap t table then Some (touched acap bcap t table) else None)) e ∙ ap (λ b. if b then Some (touched acap bcap touch table) else None) may

    by_rec : (r : Rec) → raises r ≡ true → touch_of r table ≡ Some touch → after_rec acap bcap r table ≡ Some (touched acap bcap touch table)
    by_rec (Hit address) up e = onto (touch_of (Hit address) table) e
    by_rec (Link address slot dirty) up e = onto (touch_of (Link address slot dirty) table) e
    by_rec (Store address slot fp dirty) up e = onto (touch_of (Store address slot fp dirty) table) e
    by_rec (Zero address dirty) up e = onto (touch_of (Zero address dirty) table) e
    by_rec (Clean address) up e = absurd (cc up)

-- one more record behind those that fit
pub replay_more : (acap bcap : ℕ) (recs : List Rec) (rec : Rec) (rows table after : Table) → replay acap bcap recs rows ≡ Some table → after_rec acap bcap rec table ≡ Some after → replay acap bcap (recs ++ rec ∷ []) rows ≡ Some after
replay_more acap bcap [] rec rows table after is next =
    let same : rows ≡ table = cc is in
    ap (λ (t : Table). option_and_then (replay acap bcap []) (after_rec acap bcap rec t)) same ∙ ap (option_and_then (replay acap bcap [])) next
replay_more acap bcap (r ∷ recs) rec rows table after is next = onto (λ t e. replay_more acap bcap recs rec t table after e next) (after_rec acap bcap r rows) is
  where
    onto : ((t : Table) → replay acap bcap recs t ≡ Some table → replay acap bcap (recs ++ rec ∷ []) t ≡ Some after) → (o : Option Table) → option_and_then (replay acap bcap recs) o ≡ Some table → option_and_then (replay acap bcap (recs ++ rec ∷ [])) o ≡ Some after
    onto rest None e = absurd (cc e)
    onto rest (Some t) e = rest t e

or_false : (a b : Bool) → (a || b) ≡ false → (a ≡ false) × (b ≡ false)
or_false true b h = absurd (cc h)
or_false false b h = (refl, h)

filter_short : {X : Type 0} (p : X → Bool) (xs : List X) → length (filter p xs) ≤ length xs
filter_short p [] = omega arith
filter_short p (x ∷ xs) =
    elim (p x) as (λ t. length (cond t (x ∷ filter p xs) (filter p xs)) ≤ suc (length xs)) [ true ↦ omega (arith, filter_short p xs) | false ↦ omega (arith, filter_short p xs) ]

-- an array with another block of the same length
all_set : (P : List ℕ → Type 0) (array : List (List ℕ)) (at : ℕ) (block : List ℕ) → P block → AllByRecursion P array → AllByRecursion P (slice_set array at block)
all_set P [] at block new all = tt
all_set P (x ∷ array) zero block new all = (new, all.1)
all_set P (x ∷ array) (suc at) block new all = (all.0, all_set P array at block new all.1)

-- a block that isn't known is none of them
none_is : (block : List ℕ) (blocks : List (List ℕ)) → is_known block blocks ≡ false → AllByRecursion (λ other. bytes_eq other block ≡ false) blocks
none_is block [] none = tt
none_is block (other ∷ blocks) none = let parts = or_false (bytes_eq other block) (is_known block blocks) none in (parts.0, none_is block blocks parts.1)

-- what is there may move to the front
module _ (print : List ℕ → Fp) (held : ℕ → List ℕ) (s : State) (table : Table) (blocks : s.blocks ≡ map (held_block held) table.b) (distinct : IsDistinct bytes_eq s.blocks) where
  alone : (row : BRow) (block : List ℕ) → held row.slot ≡ block → IsPlaced s table (Some row) block → HoldsAlone held row table.b
  alone row block is placed = ⊎_elim
      (λ listed. listed_alone held row table.b (subst (λ (bs : List (List ℕ)). IsDistinct bytes_eq bs) blocks distinct) listed)
      (λ fresh. λ i listed same. absurd (false≢true (sym (held_all held (λ other. bytes_eq other block ≡ false) i table.b
      (none_is block (map (held_block held) table.b) (ap (is_known block) (sym blocks) ∙ fresh.1)) listed) ∙ (bytes_eq-Decides (held i) block).1 (same ∙ is))))
      placed

  pub may_move : (row : Option BRow) (block : List ℕ) → IsThere print held row block → IsPlaced s table row block → MayMove print held table.b row
  may_move None block there placed = tt
  may_move (Some row) block there placed = (ap is_zero_block there.0 ∙ there.2, there.1 ∙ ap print (sym there.0), alone row block there.0 placed)

pub has_block : (print : List ℕ → Fp) (held : ℕ → List ℕ) (row : Option BRow) (block : List ℕ) → IsThere print held row block → HasBlock held row block
has_block print held None block there = there
has_block print held (Some row) block there = there.0

-- what becomes of the rows
module _ (store : StoreView) (is : IsStore store) (rec : Rec) (touch : Touch) (fits : RecordFits store rec touch) where
  abbrev after : Table
  after = touched store.journal.geo.acap store.journal.geo.bcap touch store.table

  pub after_is : after_rec store.journal.geo.acap store.journal.geo.bcap rec store.table ≡ Some after
  after_is = after_touch store.journal.geo.acap store.journal.geo.bcap rec store.table touch fits.raised fits.touches fits.may

  short : length (a_moved touch store.table.a) ≤ store.journal.geo.acap + 1
  short = omega (arith, is.rows.len_a, filter_short (λ (row : ARow). not (row.address == touch.address)) store.table.a)

  -- which addresses are dirty then
  pub dirty_then : (address : ℕ) → is_dirty_at address after.a ≡ (if touch.address == address then (touch.dirty || is_dirty_at touch.address store.table.a) else is_dirty_at address store.table.a)
  dirty_then address = dirty_touched store.journal.geo.acap touch store.table.a (cut_block store.journal.geo.bcap touch.block store.table.b) short
      (and_parts (is_clean_cut (cut_address store.journal.geo.acap touch store.table.a)) (is_free_cut touch.address store.table.a (cut_block store.journal.geo.bcap touch.block store.table.b)) fits.may).0 address

  -- what isn't dirty behind the step wasn't before it
  pub clean_was : (address : ℕ) → is_dirty_at address after.a ≡ false → is_dirty_at address store.table.a ≡ false
  clean_was address clean = by_address (touch.address == address) refl (sym (dirty_then address) ∙ clean)
    where
      by_address : (b : Bool) → (touch.address == address) ≡ b → (if b then (touch.dirty || is_dirty_at touch.address store.table.a) else is_dirty_at address store.table.a) ≡ false → is_dirty_at address store.table.a ≡ false
      by_address true here e = ap (λ (n : ℕ). is_dirty_at n store.table.a) (sym (eqb-true touch.address address here)) ∙ (or_false touch.dirty (is_dirty_at touch.address store.table.a) e).1
      by_address false other e = e

module _ (print : List ℕ → Fp) (store : StoreView) (world : World) (s : State) (is : IsStore store) (holds : Holds print store world s)
    (rec : Rec) (touch : Touch) (block : List ℕ) (refers : Refers print store world.flash.shown s rec touch block) where
  abbrev held : ℕ → List ℕ
  held = slot_block store.journal.geo world.flash.shown

  abbrev rows_then : Table
  rows_then = touched store.journal.geo.acap store.journal.geo.bcap touch store.table

  may : MayMove print held store.table.b touch.block
  may = may_move print held s store.table holds.means.lists.blocks holds.means.lists.distinct touch.block block refers.there refers.placed

  inside : touch.address < length s.array
  inside = omega (arith, refers.below, holds.means.array_length)

  clean_after : (address : ℕ) → address < store.journal.geo.blocks → is_dirty_at address rows_then.a ≡ false → content (slice_set s.array touch.address block) address ≡ disk_block store.journal.geo world.disk.shown address
  clean_after address below clean = by_address (touch.address == address) refl (sym (dirty_then store is rec touch refers.fits address) ∙ clean)
    where
      was : content s.array address ≡ disk_block store.journal.geo world.disk.shown address
      was = holds.means.clean address below (clean_was store is rec touch refers.fits address clean)

      by_address : (b : Bool) → (touch.address == address) ≡ b → (if b then (touch.dirty || is_dirty_at touch.address store.table.a) else is_dirty_at address store.table.a) ≡ false
          → content (slice_set s.array touch.address block) address ≡ disk_block store.journal.geo world.disk.shown address
      by_address true here e =
          let at : touch.address ≡ address = eqb-true touch.address address here in
          ap (content (slice_set s.array touch.address block)) (sym at) ∙ get_or-set_same s.array touch.address block [] inside
          ∙ refers.read (or_false touch.dirty (is_dirty_at touch.address store.table.a) e).0 ∙ ap (content s.array) at ∙ was
      by_address false other e =
          get_or-set_other s.array touch.address address block [] (λ (same : address ≡ touch.address). absurd (false≢true (sym other ∙ eq-eqb touch.address address (sym same)))) ∙ was

  means_after : Means print store.journal.geo world.flash.shown world.disk.shown rows_then (suc store.count) (reference (sizes_of store.journal.geo) s touch.address block)
  means_after = record {
    array_length = length-set s.array touch.address block ∙ holds.means.array_length;
    array_blocks = all_set (λ other. length other ≡ store.journal.geo.block) s.array touch.address block refers.long holds.means.array_blocks;
    lists = shows-touched print held (sizes_of store.journal.geo) s store.table store.count holds.means.lists touch.address touch.dirty inside (links-fit store.table is.fit) is.rows.len_b
        touch.block block (has_block print held touch.block block refers.there) may;
    clean = clean_after;
  }

  -- one record and one reference more
  pub holds_referred : Holds print (referred_store rec touch store) world (reference (sizes_of store.journal.geo) s touch.address block)
  holds_referred = record { means = means_after; laid = λ address never. absurd (cc never) }

  -- and what is committed stays
  pub kept_referred : (basis : Basis) (c : State) → Kept basis print store world c s → Kept basis print (referred_store rec touch store) world c (reference (sizes_of store.journal.geo) s touch.address block)
  kept_referred basis c kept = record {
    up = kept.up;
    pace = pace_referred basis.room rec touch store kept.pace;
    holds = holds_referred;
    counted = kept.counted;
    stands = kept.stands;
    rows = kept.rows;
    sits = kept.sits;
    fit = kept.fit;
    replayed = replay_more store.journal.geo.acap store.journal.geo.bcap store.pending rec kept.rows store.table rows_then kept.replayed (after_is store is rec touch refers.fits);
    slots_stable = kept.slots_stable;
    slots_kept = λ slot listed. fewer_free slot (cut_block store.journal.geo.bcap touch.block store.table.b) touch.block store.uses (kept.slots_kept slot listed);
    blocks_committed = kept.blocks_committed;
    blocks_held = λ address below clean. kept.blocks_held address below (clean_was store is rec touch refers.fits address clean);
  }
