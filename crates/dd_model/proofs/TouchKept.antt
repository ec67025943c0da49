-- What holds of all lists holds of them after a touch.
use Rattle.std.proofs.Common.{◌≡◌, ◌⊎◌, inl, inr, ⊎_elim, ℕ, suc, ◌+◌, ◌<◌, ◌≤◌, ◌==◌, Bool, true, false, cond, List, [], ◌∷◌, length, take, refl, sym, ◌∙◌, ap, subst, arith, Some, None, length-take}
use Rattle.std.specs.Prelude.{Option, filter, not, ◌&&◌, ◌||◌, slice_get, ⊤}
use Rattle.std.specs.Str.{bytes_eq}
use Rattle.std.proofs.lemmas.List.{length-map}
use Rattle.std.specs.List.{AllByRecursion, IsDistinct, list_any}
use Rattle.std.proofs.lemmas.Bool.{eq-eqb, eqb-true, and_parts, and_from, or_left, both_ways}
use Rattle.std.proofs.lemmas.Cmp.{nat_eq_equiv}
use Rattle.std.proofs.lemmas.Map.Views.{any-filter_same}
use Rattle.std.proofs.lemmas.Slice.Eq.{bytes_eq-Decides}
use Rattle.dd_block.specs.declared.print.Fp.{Fp}
use Rattle.dd_record.specs.declared.row.ARow.{ARow}
use Rattle.dd_record.specs.declared.row.BRow.{BRow}
use Rattle.dd_record.specs.declared.row.Link.{Link}
use Rattle.dd_record.specs.declared.row.Link.TheVariants as links
use Rattle.dd_record.specs.Table.{Table, is_slot, b_row, is_dirty_at, slot_fits, link_fits, RowsFit}
use Rattle.dd_record.specs.Replay.{Touch, b_moved, b_after, a_moved, cut_block, cut_address, link_to, print_beside, linked_row, unlinked_from, touched, is_clean_cut, is_free_cut}
use Rattle.dd_model.specs.declared.given.Block.{Block}
use Rattle.dd_model.specs.declared.given.Block.TheVariants.{Known, Fresh, Zero}
use Rattle.dd_model.specs.Listing.{Listing, IsListing, IsGiven, row_of, touch_by, may_refer, referred}
use Rattle.dd_model.proofs.Kept.{all_take, all_filter, all_map, all_of, apart_take, apart_map, apart_front, any_cut, found_key}
use Rattle.dd_model.proofs.DirtyLinks.{dirty-touched}
use Rattle.dd_model.proofs.Dirty.{unlinked_address, dirty_touched, dirtied_ones}

-- the block is the listed one with its slot, or its slot isn't listed
abbrev pub IsOne : List BRow → BRow → Type 0
IsOne rows block = (b_row block.slot rows ≡ Some block) ⊎ (b_row block.slot rows ≡ None)

-- a block of that slot that passes
abbrev pub with_slot : ℕ → (BRow → Bool) → BRow → Bool
with_slot slot passes row = row.slot == slot && passes row

none_or : (b : Bool) (x : BRow) (o : Option BRow) → cond b (Some x) o ≡ None → (b ≡ false) × (o ≡ None)
none_or true x o h = absurd (cc h)
none_or false x o h = (refl, h)

-- where the slot isn't listed none passes
none_passes : (slot : ℕ) (passes : BRow → Bool) (rows : List BRow) → b_row slot rows ≡ None → list_any (with_slot slot passes) rows ≡ false
none_passes slot passes [] h = refl
none_passes slot passes (row ∷ rows) h =
    let parts = none_or (row.slot == slot) row (b_row slot rows) h in
    ap (λ b. (b && passes row) || list_any (with_slot slot passes) rows) parts.0 ∙ none_passes slot passes rows parts.1

others_fail : (slot : ℕ) (passes : BRow → Bool) (rows : List BRow) → AllByRecursion (λ row. (slot == row.slot) ≡ false) rows → list_any (with_slot slot passes) rows ≡ false
others_fail slot passes [] h = refl
others_fail slot passes (row ∷ rows) h = ap (λ b. (b && passes row) || list_any (with_slot slot passes) rows) (nat_eq_equiv.symm row.slot slot ∙ h.0) ∙ others_fail slot passes rows h.1

or_none : (b : Bool) → (b || false) ≡ b
or_none true = refl
or_none false = refl

-- where the slots are apart the one that is listed passes
listed_passes : (slot : ℕ) (passes : BRow → Bool) (rows : List BRow) (block : BRow) → IsDistinct (λ x y. x.slot == y.slot) rows → b_row slot rows ≡ Some block → list_any (with_slot slot passes) rows ≡ true → passes block ≡ true
unfolding IsDistinct
listed_passes slot passes [] block apart is any = absurd (cc is)
listed_passes slot passes (row ∷ rows) block apart is any = by_test (row.slot == slot) refl is any (λ e h. listed_passes slot passes rows block apart.1 e h)
  where
    by_test : (b : Bool) → (row.slot == slot) ≡ b → cond b (Some row) (b_row slot rows) ≡ Some block → ((b && passes row) || list_any (with_slot slot passes) rows) ≡ true
        → (b_row slot rows ≡ Some block → list_any (with_slot slot passes) rows ≡ true → passes block ≡ true) → passes block ≡ true
    by_test true here e h later =
        let same : row ≡ block = cc e in
        let at : row.slot ≡ slot = eqb-true row.slot slot here in
        let rest : list_any (with_slot slot passes) rows ≡ false = others_fail slot passes rows (subst (λ (n : ℕ). AllByRecursion (λ r. (n == r.slot) ≡ false) rows) at apart.0) in
        ap passes (sym same) ∙ sym (or_none (passes row)) ∙ ap (λ b. passes row || b) (sym rest) ∙ h
    by_test false away e h later = later e h

-- one that passes is there after the block was moved to the front
module _ (slot : ℕ) (passes : BRow → Bool) (rows : List BRow) (block : BRow) (apart : IsDistinct (λ x y. x.slot == y.slot) rows) (one : IsOne rows block) where
  moved_passes : list_any (with_slot slot passes) rows ≡ true → list_any (with_slot slot passes) (b_moved block rows) ≡ true
  moved_passes any = by_test (block.slot == slot) refl
    where
      others : (block.slot == slot) ≡ false → (row : BRow) → with_slot slot passes row ≡ true → not (row.slot == block.slot) ≡ true
      others away row h =
          let at : row.slot ≡ slot = eqb-true row.slot slot (and_parts (row.slot == slot) (passes row) h).0 in
          ap not (ap (λ n. n == block.slot) at ∙ nat_eq_equiv.symm slot block.slot ∙ away)

      by_test : (b : Bool) → (block.slot == slot) ≡ b → ((b && passes block) || list_any (with_slot slot passes) (filter (λ row. not (row.slot == block.slot)) rows)) ≡ true
      by_test true here =
          let at : slot ≡ block.slot = sym (eqb-true block.slot slot here) in
          let is : passes block ≡ true = ⊎_elim
          (λ listed. listed_passes slot passes rows block apart (ap (λ n. b_row n rows) at ∙ listed) any)
          (λ fresh. absurd (both_ways (list_any (with_slot slot passes) rows) (none_passes slot passes rows (ap (λ n. b_row n rows) at ∙ fresh)) any))
          one in
          ap (λ b. b || list_any (with_slot slot passes) (filter (λ row. not (row.slot == block.slot)) rows)) is
      by_test false away =
          any-filter_same (with_slot slot passes) (λ row. not (row.slot == block.slot)) true (λ row h. others away row h) rows ∙ any

-- a link that fits, behind a cut
unlinks : (b : Bool) (rows : List BRow) (row : ARow) → (b ≡ false → link_fits rows row ≡ true) → link_fits rows (cond b (record row { link = links.Lost }) row) ≡ true
unlinks true rows row h = refl
unlinks false rows row h = h refl

module _ (bcap : ℕ) (moved : List BRow) (few : length moved ≤ bcap + 1) where
  linked_behind : (row : ARow) (slot : ℕ) (cut : Option BRow) → slice_get moved bcap ≡ cut → row.link ≡ links.Slot slot
      → list_any (with_slot slot (λ block. bytes_eq block.fp.0 row.fp.0)) moved ≡ true → link_fits (take bcap moved) (unlinked_from cut row) ≡ true
  linked_behind row slot None is link any = ⊎_elim
      (λ stays. ap (λ l. slot_fits (take bcap moved) l row.fp.0) link ∙ stays)
      (λ goes. absurd (cc (is, goes.1)))
      (any_cut (with_slot slot (λ block. bytes_eq block.fp.0 row.fp.0)) bcap moved few any)
  linked_behind row slot (Some c) is link any = unlinks (is_slot c.slot row.link) (take bcap moved) row (λ other. ⊎_elim
      (λ stays. ap (λ l. slot_fits (take bcap moved) l row.fp.0) link ∙ stays)
      (λ goes.
      let same : goes.0 ≡ c = cc (is, goes.1) in
      let here : (goes.0.slot == slot) ≡ true = (and_parts (goes.0.slot == slot) (bytes_eq goes.0.fp.0 row.fp.0) goes.2).0 in
      let turned : (slot == goes.0.slot) ≡ true = nat_eq_equiv.symm slot goes.0.slot ∙ here in
      absurd (both_ways (is_slot c.slot row.link) other (ap (is_slot c.slot) link ∙ ap (λ (b : BRow). slot == b.slot) (sym same) ∙ turned)))
      (any_cut (with_slot slot (λ block. bytes_eq block.fp.0 row.fp.0)) bcap moved few any))

same_bytes : (bytes : List ℕ) → bytes_eq bytes bytes ≡ true
same_bytes bytes = (bytes_eq-Decides bytes bytes).1 refl

-- what falls off is one row at most
short_moved : {X : Type 0} (p : X → Bool) (xs : List X) → length (filter p xs) ≤ length xs
short_moved p [] = omega arith
short_moved p (x ∷ xs) = by_test (p x) (short_moved p xs)
  where
    by_test : (b : Bool) → length (filter p xs) ≤ length xs → length (cond b (x ∷ filter p xs) (filter p xs)) ≤ suc (length xs)
    by_test true rest = omega arith
    by_test false rest = omega arith

-- what is referenced is one of the listed blocks, or one that isn't listed; zeros are none
abbrev pub IsOneOf : Listing → Option BRow → Type 0
IsOneOf lists None = ⊤
IsOneOf lists (Some block) = IsOne lists.table.b block × (block.slot < lists.slots)

-- what holds of B behind a reference
pub record Behind (lists : Listing) (block : Option BRow) (cut : Option BRow) : Type 0 where
  pub short : length (b_after lists.bcap block lists.table.b) ≤ lists.bcap
  pub below : AllByRecursion (λ row. row.slot < lists.slots) (b_after lists.bcap block lists.table.b)
  pub slots : IsDistinct (λ x y. x.slot == y.slot) (b_after lists.bcap block lists.table.b)
  -- a link that fitted fits, or is unlinked
  pub stays : (row : ARow) → link_fits lists.table.b row ≡ true → link_fits (b_after lists.bcap block lists.table.b) (unlinked_from cut row) ≡ true
  -- and the new one fits
  pub front : (row : ARow) → row.link ≡ link_to block → row.fp ≡ print_beside block → link_fits (b_after lists.bcap block lists.table.b) (unlinked_from cut row) ≡ true

module _ (lists : Listing) (kept : IsListing lists) where
  behind_zeros : Behind lists None None
  behind_zeros = record {
    short = kept.b_few;
    below = kept.b_slots;
    slots = kept.fit.slots;
    stays = λ row h. h;
    front = λ row link fp. ap (λ l. slot_fits lists.table.b l row.fp.0) link;
  }

  module _ (block : BRow) (one : IsOne lists.table.b block) (below : block.slot < lists.slots) where
    abbrev b : List BRow
    b = b_moved block lists.table.b

    b_short : length b ≤ lists.bcap + 1
    b_short = omega (arith, kept.b_few, short_moved (λ (row : BRow). not (row.slot == block.slot)) lists.table.b)

    by_link : (row : ARow) (link : Link) → row.link ≡ link → slot_fits lists.table.b link row.fp.0 ≡ true → link_fits (take lists.bcap b) (unlinked_from (slice_get b lists.bcap) row) ≡ true
    by_link row links.Lost is h = no_slot (slice_get b lists.bcap)
      where
        no_slot : (c : Option BRow) → link_fits (take lists.bcap b) (unlinked_from c row) ≡ true
        no_slot None = ap (λ l. slot_fits (take lists.bcap b) l row.fp.0) is
        no_slot (Some c) = unlinks (is_slot c.slot row.link) (take lists.bcap b) row (λ other. ap (λ l. slot_fits (take lists.bcap b) l row.fp.0) is)
    by_link row links.Zero is h = no_slot (slice_get b lists.bcap)
      where
        no_slot : (c : Option BRow) → link_fits (take lists.bcap b) (unlinked_from c row) ≡ true
        no_slot None = ap (λ l. slot_fits (take lists.bcap b) l row.fp.0) is
        no_slot (Some c) = unlinks (is_slot c.slot row.link) (take lists.bcap b) row (λ other. ap (λ l. slot_fits (take lists.bcap b) l row.fp.0) is)
    by_link row (links.Slot slot) is h = linked_behind lists.bcap b b_short row slot (slice_get b lists.bcap) refl is
        (moved_passes slot (λ block. bytes_eq block.fp.0 row.fp.0) lists.table.b block kept.fit.slots one h)

    behind_block : Behind lists (Some block) (slice_get b lists.bcap)
    behind_block = record {
      short = omega (arith, length-take lists.bcap b);
      below = all_take (λ (row : BRow). row.slot < lists.slots) lists.bcap b
          (below, all_filter (λ (row : BRow). row.slot < lists.slots) (λ row. not (row.slot == block.slot)) lists.table.b (all_of (λ (row : BRow). row.slot < lists.slots) (λ row. not (row.slot == block.slot) ≡ true → row.slot < lists.slots) lists.table.b (λ row h other. h) kept.b_slots));
      slots = apart_take (λ (row : BRow). row.slot) lists.bcap b (apart_front (λ (row : BRow). row.slot) block lists.table.b kept.fit.slots);
      stays = λ row h. by_link row row.link refl h;
      front = λ row link fp. linked_behind lists.bcap b b_short row block.slot (slice_get b lists.bcap) refl link
          (or_left (block.slot == block.slot && bytes_eq block.fp.0 row.fp.0) _
          (and_from (block.slot == block.slot) (bytes_eq block.fp.0 row.fp.0) (eq-eqb block.slot block.slot refl) (ap (λ (p : Fp). bytes_eq block.fp.0 p.0) fp ∙ same_bytes block.fp.0)));
    }

  pub behind : (block : Option BRow) → IsOneOf lists block → Behind lists block (cut_block lists.bcap block lists.table.b)
  behind None one = behind_zeros
  behind (Some block) one = behind_block block one.0 one.1

module _ (lists : Listing) (kept : IsListing lists) (touch : Touch) (one : IsOneOf lists touch.block) (may : may_refer touch lists ≡ true) where
  abbrev a : List ARow
  a = a_moved touch lists.table.a

  abbrev cut : Option BRow
  cut = cut_block lists.bcap touch.block lists.table.b

  abbrev after : Table
  after = touched lists.acap lists.bcap touch lists.table

  blocks : Behind lists touch.block cut
  blocks = behind lists kept touch.block one

  a_short : length a ≤ lists.acap + 1
  a_short = omega (arith, kept.a_few, short_moved (λ (row : ARow). not (row.address == touch.address)) lists.table.a)

  links_after : AllByRecursion (λ row. link_fits after.b row ≡ true) after.a
  links_after = all_map (λ row. link_fits after.b (unlinked_from cut row) ≡ true) (λ row. link_fits after.b row ≡ true) (unlinked_from cut) (take lists.acap a) (λ row h. h)
      (all_take (λ row. link_fits after.b (unlinked_from cut row) ≡ true) lists.acap a (
        blocks.front (linked_row touch lists.table.a) refl refl,
        all_filter (λ row. link_fits after.b (unlinked_from cut row) ≡ true) (λ row. not (row.address == touch.address)) lists.table.a
            (all_of (λ row. link_fits lists.table.b row ≡ true) (λ row. not (row.address == touch.address) ≡ true → link_fits after.b (unlinked_from cut row) ≡ true) lists.table.a
            (λ row fits other. blocks.stays row fits) kept.fit.links),
      ))

  fit_after : RowsFit after
  fit_after = record {
    slots = blocks.slots;
    addresses = apart_map (λ (row : ARow). row.address) (unlinked_from cut) (unlinked_address cut) (take lists.acap a)
        (apart_take (λ (row : ARow). row.address) lists.acap a (apart_front (λ (row : ARow). row.address) (linked_row touch lists.table.a) lists.table.a kept.fit.addresses));
    links = links_after;
  }

  pub referred_kept : IsListing (referred touch lists)
  referred_kept = record {
    acap_least = kept.acap_least;
    bcap_least = kept.bcap_least;
    slots_least = kept.slots_least;
    a_few = omega (arith, length-map (take lists.acap a) (unlinked_from cut), length-take lists.acap a);
    b_few = blocks.short;
    b_slots = blocks.below;
    fit = fit_after;
    linked = dirty-touched lists.acap lists.bcap kept.bcap_least touch.address touch.dirty lists.table kept.linked touch.block may;
    dirty_ones = dirtied_ones (λ address. is_dirty_at address lists.table.a) (λ address. is_dirty_at address after.a) touch.address touch.dirty
        (dirty_touched lists.acap touch lists.table.a cut a_short (and_parts (is_clean_cut (cut_address lists.acap touch lists.table.a)) (is_free_cut touch.address lists.table.a cut) may).0)
        lists.dirty kept.dirty_ones;
  }

-- the slot of a listed row is one there is
listed_below : (slots slot : ℕ) (rows : List BRow) (row : BRow) → AllByRecursion (λ r. r.slot < slots) rows → b_row slot rows ≡ Some row → row.slot < slots
listed_below slots slot [] row all is = absurd (cc is)
listed_below slots slot (r ∷ rows) row all is = by_test (r.slot == slot) is (λ e. listed_below slots slot rows row all.1 e)
  where
    by_test : (b : Bool) → cond b (Some r) (b_row slot rows) ≡ Some row → (b_row slot rows ≡ Some row → row.slot < slots) → row.slot < slots
    by_test true e rest = let same : r ≡ row = cc e in subst (λ (x : BRow). x.slot < slots) same all.0
    by_test false e rest = rest e

-- a block that is given is one of them
known_one : (lists : Listing) (slot : ℕ) (o : Option BRow) → IsListing lists → b_row slot lists.table.b ≡ o → IsOneOf lists o
known_one lists slot None kept is = tt
known_one lists slot (Some row) kept is = (
  inl (ap (λ n. b_row n lists.table.b) (found_key (λ (r : BRow). r.slot) slot lists.table.b row is) ∙ is),
  listed_below lists.slots slot lists.table.b row kept.b_slots is,
)

pub given_one : (lists : Listing) (block : Block) → IsListing lists → IsGiven lists block → IsOneOf lists (row_of block lists.table.b)
given_one lists (Known slot) kept h = known_one lists slot (b_row slot lists.table.b) kept refl
given_one lists (Fresh row) kept h = (inr h.1, h.0)
given_one lists Zero kept h = tt

-- a reference keeps what holds of all lists
pub touch_kept : (lists : Listing) (address : ℕ) (block : Block) (dirty : Bool) → IsListing lists → IsGiven lists block → may_refer (touch_by address block dirty lists) lists ≡ true → IsListing (referred (touch_by address block dirty lists) lists)
touch_kept lists address block dirty kept given may = referred_kept lists kept (touch_by address block dirty lists) (given_one lists block kept given) may
