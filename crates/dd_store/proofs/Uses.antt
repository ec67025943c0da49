-- What slots are used for: a listed slot isn't free, and a free one isn't listed, also behind a commit.
use Rattle.std.proofs.Common.{◌≡◌, ℕ, zero, suc, ◌<◌, true, false, List, [], ◌∷◌, map, refl, sym, ◌∙◌, ap, arith, Some, None}
use Rattle.std.specs.Prelude.{Option, option_map, slice_get, slice_set}
use Rattle.std.proofs.lemmas.Option.{slice_get-map}
use Rattle.dd_block.specs.Geometry.{slot_count}
use Rattle.dd_slots.specs.declared.usage.Usage.{Usage}
use Rattle.dd_slots.specs.declared.usage.Usage.TheVariants.{Free, Used, Waiting}
use Rattle.dd_slots.specs.Slots.{is_free, is_used, freed}
use Rattle.dd_slots.proofs.Marks.{within}
use Rattle.dd_record.specs.declared.row.BRow.{BRow}
use Rattle.dd_record.specs.Table.{has_slot}
use Rattle.dd_store.specs.Keeping.{StoreView, IsStore, is_spare}
use Rattle.dd_store.specs.Referring.{used_by, let_go}

-- a use is one of three
pub used_kept : (o : Option Usage) → is_used o ≡ true → is_free o ≡ false
used_kept None h = refl
used_kept (Some Free) h = absurd (cc h)
used_kept (Some Used) h = refl
used_kept (Some Waiting) h = refl

free_unused : (o : Option Usage) → is_free o ≡ true → is_used o ≡ false
free_unused None h = refl
free_unused (Some Free) h = refl
free_unused (Some Used) h = absurd (cc h)
free_unused (Some Waiting) h = absurd (cc h)

-- what is used stays so behind a commit, and nothing else becomes so
freed_used : (o : Option Usage) → is_used (option_map freed o) ≡ is_used o
freed_used None = refl
freed_used (Some Free) = refl
freed_used (Some Used) = refl
freed_used (Some Waiting) = refl

pub used_then : (slot : ℕ) (uses : List Usage) → is_used (slice_get (map freed uses) slot) ≡ is_used (slice_get uses slot)
used_then slot uses = ap is_used (slice_get-map freed uses slot) ∙ freed_used (slice_get uses slot)

module _ (store : StoreView) (is : IsStore store) (slot : ℕ) where
  pub listed_kept : has_slot slot store.table.b ≡ true → is_spare slot store.uses ≡ false
  listed_kept listed = used_kept (slice_get store.uses slot) (is.used slot ∙ listed)

  pub listed_kept_then : has_slot slot store.table.b ≡ true → is_spare slot (map freed store.uses) ≡ false
  listed_kept_then listed = used_kept (slice_get (map freed store.uses) slot) (used_then slot store.uses ∙ is.used slot ∙ listed)

  pub spare_unlisted : is_spare slot store.uses ≡ true → has_slot slot store.table.b ≡ false
  spare_unlisted spare = sym (is.used slot) ∙ free_unused (slice_get store.uses slot) spare

  pub spare_below : is_spare slot store.uses ≡ true → slot < slot_count store.journal.geo
  spare_below spare = omega (arith, within is_free store.uses slot refl spare, is.sized)

-- a slot that is used for something else isn't free where it wasn't
other_use : (uses : List Usage) (i slot : ℕ) (usage : Usage) → is_free (Some usage) ≡ false → is_spare slot uses ≡ false → is_spare slot (slice_set uses i usage) ≡ false
other_use [] i slot usage isnt h = h
other_use (u ∷ uses) zero zero usage isnt h = isnt
other_use (u ∷ uses) zero (suc slot) usage isnt h = h
other_use (u ∷ uses) (suc i) zero usage isnt h = h
other_use (u ∷ uses) (suc i) (suc slot) usage isnt h = other_use uses i slot usage isnt h

used_stays : (slot : ℕ) (row : Option BRow) (uses : List Usage) → is_spare slot uses ≡ false → is_spare slot (used_by row uses) ≡ false
used_stays slot None uses h = h
used_stays slot (Some row) uses h = other_use uses row.slot slot Used refl h

pub let_go_stays : (slot : ℕ) (cut : Option BRow) (uses : List Usage) → is_spare slot uses ≡ false → is_spare slot (let_go cut uses) ≡ false
let_go_stays slot None uses h = h
let_go_stays slot (Some cut) uses h = other_use uses cut.slot slot Waiting refl h

-- a reference frees no slot
pub fewer_free : (slot : ℕ) (cut row : Option BRow) (uses : List Usage) → is_spare slot uses ≡ false → is_spare slot (let_go cut (used_by row uses)) ≡ false
fewer_free slot cut row uses h = let_go_stays slot cut (used_by row uses) (used_stays slot row uses h)

-- a slot that is used isn't free
pub here_kept : (uses : List Usage) (slot : ℕ) → is_spare slot (slice_set uses slot Used) ≡ false
here_kept [] slot = refl
here_kept (u ∷ uses) zero = refl
here_kept (u ∷ uses) (suc slot) = here_kept uses slot
