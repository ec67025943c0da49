-- Which slots are used, and that one is free.
use Rattle.std.proofs.Common.{◌≡◌, ℕ, zero, suc, ◌<◌, ◌==◌, Bool, true, false, List, [], ◌∷◌, length, map, refl, sym, ◌∙◌, ap, subst, arith, Some, None, if◌then◌else◌}
use Rattle.std.specs.Prelude.{Option, option_map, slice_get, slice_set, is_some, ◌||◌, IfSome}
use Rattle.std.proofs.lemmas.Cmp.{nat_eq_equiv}
use Rattle.std.proofs.lemmas.List.{length-map, length-set, set-get_or}
use Rattle.std.proofs.lemmas.Option.{slice_get-map, slice_get_within, get_or_from_slice_get}
use Rattle.dd_slots.specs.declared.usage.Usage.{Usage}
use Rattle.dd_slots.specs.declared.usage.Usage.TheVariants.{Free, Used, Waiting}
use Rattle.dd_slots.specs.Numbers.{is_among}
use Rattle.dd_slots.specs.Slots.{SlotsView, count_of, has_free, is_used, is_waiting, freed, use_of}
use Rattle.dd_slots.proofs.Marks.{get_set}
use Rattle.dd_slots.proofs.Room.{some_free}
use Rattle.dd_record.specs.declared.row.BRow.{BRow}
use Rattle.dd_record.specs.declared.row.Link.TheVariants.{Slot}
use Rattle.dd_record.specs.Table.{b_row, has_slot, link_at}
use Rattle.dd_record.specs.Replay.{b_moved, cut_block}
use Rattle.dd_model.specs.declared.given.Block.{Block}
use Rattle.dd_model.specs.declared.given.Block.TheVariants.{Known, Fresh, Zero}
use Rattle.dd_model.specs.Listing.{Listing, IsListing, IsGiven, row_of, cut_of, referred}
use Rattle.dd_model.proofs.Kept.{found_key}
use Rattle.dd_model.proofs.Records.{link_given}
use Rattle.dd_model.proofs.Slots.{slot_get}
use Rattle.dd_store.specs.Referring.{used_by, let_go}
use Rattle.dd_store.proofs.Uses.{used_then}
use Rattle.dd_store.proofs.Using.{has_moved, used_after, used_is}
use Rattle.dd_store.proofs.UsedSlots.{some_has}
use Rattle.dd_serve.specs.Scratch.{FitsSlots, placed, read_of, slots_after}

same_among : (slot : ℕ) (b : List BRow) → is_among slot (map (λ (row : BRow). row.slot) b) ≡ has_slot slot b
same_among slot [] = refl
same_among slot (row ∷ b) = ap (λ t. t || is_among slot (map (λ (r : BRow). r.slot) b)) (nat_eq_equiv.symm slot row.slot) ∙ ap (λ t. row.slot == slot || t) (same_among slot b)

-- fewer blocks are listed than there are slots
pub one_is_free : (lists : Listing) (slots : SlotsView) → IsListing lists → FitsSlots lists slots → has_free slots ≡ true
one_is_free lists slots kept fits = some_free slots.uses (map (λ (row : BRow). row.slot) lists.table.b)
    (λ slot is. same_among slot lists.table.b ∙ sym (fits.used slot) ∙ ap is_used is)
    fits.none_waits
    (omega (arith, length-map lists.table.b (λ (row : BRow). row.slot), kept.b_few, fits.count))

-- a slot that is free has no listed block
pub free_unlisted : (lists : Listing) (slots : SlotsView) (slot : ℕ) → FitsSlots lists slots → use_of slots slot ≡ Some Free → has_slot slot lists.table.b ≡ false
free_unlisted lists slots slot fits is = sym (fits.used slot) ∙ ap is_used is

no_row : (slot : ℕ) (b : List BRow) (o : Option BRow) → b_row slot b ≡ o → has_slot slot b ≡ false → o ≡ None
no_row slot b None is free = refl
no_row slot b (Some row) is free = absurd (cc (some_has slot row b is, free))

pub fresh_given : (lists : Listing) (slots : SlotsView) (row : BRow) → FitsSlots lists slots → use_of slots row.slot ≡ Some Free → IsGiven lists (Fresh row)
fresh_given lists slots row fits is = (
  omega (arith, slice_get_within slots.uses row.slot Free is, fits.count, fits.lists_slots),
  no_row row.slot lists.table.b (b_row row.slot lists.table.b) refl (free_unlisted lists slots row.slot fits is),
)

-- a slot that was taken and given back is free as before
pub given_back : (uses : List Usage) (slot : ℕ) → slice_get uses slot ≡ Some Free → ((n : ℕ) → is_waiting (slice_get uses n) ≡ false) → map freed (slice_set (slice_set uses slot Used) slot Waiting) ≡ uses
given_back uses slot is none = ext uses slot is none
  where
    freed_same : (u : Usage) → is_waiting (Some u) ≡ false → freed u ≡ u
    freed_same Free h = refl
    freed_same Used h = refl
    freed_same Waiting h = absurd (cc h)

    all_freed : (us : List Usage) → ((n : ℕ) → is_waiting (slice_get us n) ≡ false) → map freed us ≡ us
    all_freed [] h = refl
    all_freed (u ∷ us) h = ap (λ v. v ∷ map freed us) (freed_same u (h 0)) ∙ ap (λ vs. u ∷ vs) (all_freed us (λ n. h (suc n)))

    ext : (us : List Usage) (n : ℕ) → slice_get us n ≡ Some Free → ((m : ℕ) → is_waiting (slice_get us m) ≡ false) → map freed (slice_set (slice_set us n Used) n Waiting) ≡ us
    ext [] n e h = absurd (cc e)
    ext (u ∷ us) zero e h = ap (λ v. v ∷ map freed us) (freed_is u e) ∙ ap (λ vs. u ∷ vs) (all_freed us (λ n. h (suc n)))
      where
        freed_is : (v : Usage) → Some v ≡ Some Free → Free ≡ v
        freed_is Free same = refl
        freed_is Used same = absurd (cc same)
        freed_is Waiting same = absurd (cc same)
    ext (u ∷ us) (suc n) e h = ap (λ v. v ∷ map freed (slice_set (slice_set us n Used) n Waiting)) (freed_same u (h 0)) ∙ ap (λ vs. u ∷ vs) (ext us n e (λ m. h (suc m)))

module _ (lists : Listing) (slots : SlotsView) (kept : IsListing lists) (fits : FitsSlots lists slots) where
  listed_used : (slot : ℕ) → has_slot slot lists.table.b ≡ true → use_of slots slot ≡ Some Used
  listed_used slot listed = used_is (use_of slots slot) (fits.used slot ∙ listed)

  set_same : (uses : List Usage) (slot : ℕ) (usage : Usage) → slice_get uses slot ≡ Some usage → slice_set uses slot usage ≡ uses
  set_same uses slot usage is = ap (slice_set uses slot) (sym (get_or_from_slice_get uses slot usage Free is)) ∙ set-get_or uses slot Free

  known_uses : (slot : ℕ) (o : Option BRow) → b_row slot lists.table.b ≡ o → is_some o ≡ true → slots.uses ≡ used_by o slots.uses
  known_uses slot None is some = absurd (cc some)
  known_uses slot (Some row) is some =
      let at : row.slot ≡ slot = found_key (λ (r : BRow). r.slot) slot lists.table.b row is in
      sym (set_same slots.uses row.slot Used (ap (use_of slots) at ∙ listed_used slot (some_has slot row lists.table.b is)))

  -- the slot of what is referenced is used
  pub placed_uses : (given : Block) → IsGiven lists given → (placed given slots).uses ≡ used_by (row_of given lists.table.b) slots.uses
  placed_uses (Known slot) is = known_uses slot (b_row slot lists.table.b) refl is
  placed_uses (Fresh row) is = refl
  placed_uses Zero is = refl

  known_below : (slot : ℕ) (o : Option BRow) → b_row slot lists.table.b ≡ o → IfSome o (λ row. row.slot < length slots.uses)
  known_below slot None is = tt
  known_below slot (Some row) is =
      let at : row.slot ≡ slot = found_key (λ (r : BRow). r.slot) slot lists.table.b row is in
      slice_get_within slots.uses row.slot Used (ap (use_of slots) at ∙ listed_used slot (some_has slot row lists.table.b is))

  below : (given : Block) → IsGiven lists given → IfSome (row_of given lists.table.b) (λ row. row.slot < length slots.uses)
  below (Known slot) is = known_below slot (b_row slot lists.table.b) refl
  below (Fresh row) is = omega (arith, is.0, fits.count, fits.lists_slots)
  below Zero is = tt

  now_used : (slot i : ℕ) → i < length slots.uses → is_used (slice_get (slice_set slots.uses i Used) slot) ≡ (if slot == i then true else is_used (slice_get slots.uses slot))
  now_used slot i lt = ap is_used (get_set slots.uses i slot Used lt) ∙ by_test (slot == i)
    where
      by_test : (t : Bool) → is_used (if t then Some Used else slice_get slots.uses slot) ≡ (if t then true else is_used (slice_get slots.uses slot))
      by_test true = refl
      by_test false = refl

  moved_used : (row : BRow) → row.slot < length slots.uses → (slot : ℕ) → has_slot slot (b_moved row lists.table.b) ≡ true → slice_get (slice_set slots.uses row.slot Used) slot ≡ Some Used
  moved_used row lt slot listed = used_is (slice_get (slice_set slots.uses row.slot Used) slot)
      (now_used slot row.slot lt ∙ ap (λ h. if slot == row.slot then true else h) (fits.used slot) ∙ sym (has_moved slot row lists.table.b) ∙ listed)

  -- the slot of a block that falls off is used until then
  cut_used : (o : Option BRow) → IfSome o (λ row. row.slot < length slots.uses) → IfSome (cut_block lists.bcap o lists.table.b) (λ row. slice_get (used_by o slots.uses) row.slot ≡ Some Used)
  cut_used None lt = tt
  cut_used (Some row) lt = of_place (slice_get (b_moved row lists.table.b) lists.bcap) (slot_get lists.bcap (b_moved row lists.table.b))
    where
      of_place : (o : Option BRow) → IfSome o (λ r. has_slot r.slot (b_moved row lists.table.b) ≡ true) → IfSome o (λ r. slice_get (slice_set slots.uses row.slot Used) r.slot ≡ Some Used)
      of_place None h = tt
      of_place (Some r) h = moved_used row lt r.slot h

  -- the slot of a linked address is one there is
  pub linked_below : (address slot : ℕ) → link_at address lists.table.a ≡ Slot slot → slot < count_of slots
  linked_below address slot link = by_row (b_row slot lists.table.b) refl (link_given lists address slot kept link)
    where
      by_row : (o : Option BRow) → b_row slot lists.table.b ≡ o → is_some o ≡ true → slot < count_of slots
      by_row None is some = absurd (cc some)
      by_row (Some row) is some = slice_get_within slots.uses slot Used (listed_used slot (some_has slot row lists.table.b is))

  module _ (address : ℕ) (given : Block) (is : IsGiven lists given) where
    abbrev cut : Option BRow
    cut = (cut_of (read_of address given lists) lists).drop

    pub drop_used : IfSome cut (λ row. use_of (placed given slots) row.slot ≡ Some Used)
    drop_used = subst (λ (uses : List Usage). IfSome cut (λ row. slice_get uses row.slot ≡ Some Used)) (sym (placed_uses given is)) (cut_used (row_of given lists.table.b) (below given is))

    not_waiting : (o : Option Usage) → is_waiting (option_map freed o) ≡ false
    not_waiting None = refl
    not_waiting (Some Free) = refl
    not_waiting (Some Used) = refl
    not_waiting (Some Waiting) = refl

    length_let_go : (o : Option BRow) (uses : List Usage) → length (let_go o uses) ≡ length uses
    length_let_go None uses = refl
    length_let_go (Some row) uses = length-set uses row.slot Waiting

    length_used_by : (o : Option BRow) (uses : List Usage) → length (used_by o uses) ≡ length uses
    length_used_by None uses = refl
    length_used_by (Some row) uses = length-set uses row.slot Used

    pub same_count : count_of (slots_after cut (placed given slots)) ≡ count_of slots
    same_count = length-map (let_go cut (placed given slots).uses) freed ∙ length_let_go cut (placed given slots).uses ∙ ap length (placed_uses given is) ∙ length_used_by (row_of given lists.table.b) slots.uses

    -- behind the read the slots fit the lists again
    pub fits_after : FitsSlots (referred (read_of address given lists) lists) (slots_after cut (placed given slots))
    fits_after = record {
      lists_slots = fits.lists_slots;
      count = same_count ∙ fits.count;
      used = λ slot. used_then slot (let_go cut (placed given slots).uses)
          ∙ ap (λ (uses : List Usage). is_used (slice_get (let_go cut uses) slot)) (placed_uses given is)
          ∙ used_after lists.bcap (row_of given lists.table.b) lists.table.b slots.uses kept.b_few kept.fit.slots (below given is) fits.used slot;
      none_waits = λ slot. ap is_waiting (slice_get-map freed (let_go cut (placed given slots).uses) slot) ∙ not_waiting (slice_get (let_go cut (placed given slots).uses) slot);
    }
