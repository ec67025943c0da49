-- A record that fits leads the rows to those that carry the state behind its reference.
use Rattle.std.proofs.Common.{◌≡◌, ◌⊎◌, inl, inr, ⊎_elim, ℕ, zero, suc, ◌<◌, ◌≤◌, ◌==◌, Bool, true, false, cond, not, List, [], ◌∷◌, length, replicate, refl, ap, sym, ◌∙◌, subst, arith, Option, Some, None, get_or}
use Rattle.std.specs.Prelude.{option_map, option_and_then, unwrap_or, is_none, ⊤, ◌||◌, ◌&&◌}
use Rattle.std.specs.List.{AllByRecursion}
use Rattle.std.proofs.lemmas.List.{length-replicate}
use Rattle.std.proofs.lemmas.Bool.{false≢true, eqb-true}
use Rattle.std.proofs.lemmas.Option.{none-some, cond_some}
use Rattle.dd_block.specs.declared.print.Fp.{Fp}
use Rattle.dd_record.specs.declared.row.ARow.{ARow}
use Rattle.dd_record.specs.declared.row.BRow.{BRow}
use Rattle.dd_record.specs.declared.row.Link.{Link}
use Rattle.dd_record.specs.declared.row.Link.TheVariants as links
use Rattle.dd_record.specs.declared.rec.Rec.{Rec}
use Rattle.dd_record.specs.declared.rec.Rec.TheVariants.{Hit, Link as ToSlot, Store, Zero, Clean}
use Rattle.dd_record.specs.Table.{Table, has_slot, a_row, b_row, link_of, link_at, is_link, is_dirty_at, IsDirtyLinked}
use Rattle.dd_record.specs.Replay.{Touch, after_rec, after_touch, may_touch, touched, hit_of, cleaned, raises}
use Rattle.dd_model.specs.State.{Sizes, State, content}
use Rattle.dd_model.specs.Reference.{reference}
use Rattle.dd_model.specs.Rows.{LinkTells, RowTells}
use Rattle.dd_model.proofs.Slots.{held_all}
use Rattle.dd_model.proofs.Zeros.{zeros_are}
use Rattle.dd_model.proofs.CutLinks.{IsListedLink}
use Rattle.dd_model.proofs.RecordLaws.{HasBlock, MayMove, may_move-listed, shows-cleaned, found_listed}
use Rattle.dd_model.proofs.Carried.{Carries, carried-touched}
use Rattle.dd_model.proofs.Filters.{all_true}

-- the state behind a record, where slots hold these blocks
abbrev pub recorded : (ℕ → List ℕ) → Sizes → Rec → State → State
recorded held sizes (Hit address) s = reference sizes s address (content s.array address)
recorded held sizes (ToSlot address slot dirty) s = reference sizes s address (held slot)
recorded held sizes (Store address slot fp dirty) s = reference sizes s address (held slot)
recorded held sizes (Zero address dirty) s = reference sizes s address (replicate sizes.block 0)
recorded held sizes (Clean address) s = s

-- its address is one of the array's
abbrev pub IsWithin : ℕ → Rec → Type 0
IsWithin blocks (Hit address) = address < blocks
IsWithin blocks (ToSlot address slot dirty) = address < blocks
IsWithin blocks (Store address slot fp dirty) = address < blocks
IsWithin blocks (Zero address dirty) = address < blocks
IsWithin blocks (Clean address) = ⊤

-- what a Store brings: a block of the right length, whose row may move to the front
abbrev pub MayStore : (List ℕ → Fp) → (ℕ → List ℕ) → Sizes → List BRow → Rec → Type 0
MayStore print held sizes b (Hit address) = ⊤
MayStore print held sizes b (ToSlot address slot dirty) = ⊤
MayStore print held sizes b (Store address slot fp dirty) = (length (held slot) ≡ sizes.block) × MayMove print held b (Some (record { slot = slot; fp = fp }))
MayStore print held sizes b (Zero address dirty) = ⊤
MayStore print held sizes b (Clean address) = ⊤

-- the count behind a record
abbrev pub counted : Rec → ℕ → ℕ
counted rec count = cond (raises rec) (suc count) count

all_at : {X : Type 0} (P : X → Type 0) (xs : List X) (i : ℕ) (d : X) → i < length xs → AllByRecursion P xs → P (get_or xs i d)
all_at P [] i d h all = absurd (omega (arith, h))
all_at P (x ∷ xs) zero d h all = all.0
all_at P (x ∷ xs) (suc i) d h all = all_at P xs i d (omega (arith, h)) all.1

-- the row of an address is one of the rows
row_found : (P : ARow → Type 0) (address : ℕ) (a : List ARow) → AllByRecursion P a → (a_row address a ≡ None) ⊎ ((row : ARow) × (a_row address a ≡ Some row) × (row.address ≡ address) × P row)
row_found P address [] all = inl refl
row_found P address (row ∷ a) all =
    elim (row.address == address) as (λ t. (row.address == address) ≡ t → (cond t (Some row) (a_row address a) ≡ None) ⊎ ((r : ARow) × (cond t (Some row) (a_row address a) ≡ Some r) × (r.address ≡ address) × P r)) [
      | true ↦ λ same. inr (row, refl, eqb-true row.address address same, all.0)
      | false ↦ λ differ. row_found P address a all.1
    ] refl

slot_of : (slot : ℕ) (row : BRow) (b : List BRow) → b_row slot b ≡ Some row → row.slot ≡ slot
slot_of slot row [] h = absurd (none-some row h)
slot_of slot row (other ∷ b) h =
    elim (other.slot == slot) as (λ t. (other.slot == slot) ≡ t → cond t (Some other) (b_row slot b) ≡ Some row → row.slot ≡ slot) [
      | true ↦ λ same here. ap (λ (r : BRow). r.slot) (sym (ap (λ o. unwrap_or o other) here)) ∙ eqb-true other.slot slot same
      | false ↦ λ differ there. slot_of slot row b there
    ] refl h

module _ (print : List ℕ → Fp) (held : ℕ → List ℕ) (sizes : Sizes) (table : Table) (count : ℕ) (s : State) (carries : Carries print held sizes table count s) (room : 1 ≤ sizes.bcap) where
  -- a touch of an address with this content
  abbrev Touches : ℕ → List ℕ → Touch → Type 0
  Touches address x touch = (touch.address ≡ address) × HasBlock held touch.block x × MayMove print held table.b touch.block

  by_touch : (address : ℕ) (x : List ℕ) → address < sizes.blocks → length x ≡ sizes.block → (found : Option Touch) → ((touch : Touch) → found ≡ Some touch → Touches address x touch)
      → (after : Table) → option_and_then (after_touch sizes.acap sizes.bcap table) found ≡ Some after → Carries print held sizes after (suc count) (reference sizes s address x)
  by_touch address x below long None touches after h = absurd (none-some after h)
  by_touch address x below long (Some touch) touches after h =
      let may : (may_touch sizes.acap sizes.bcap touch table ≡ true) × (touched sizes.acap sizes.bcap touch table ≡ after) =
      cond_some (may_touch sizes.acap sizes.bcap touch table) (touched sizes.acap sizes.bcap touch table) after h in
      let is : Touches address x touch = touches touch refl in
      subst (λ t. Carries print held sizes t (suc count) (reference sizes s address x)) may.1
      (subst (λ n. Carries print held sizes (touched sizes.acap sizes.bcap touch table) (suc count) (reference sizes s n x)) is.0
      (carried-touched print held sizes table count s carries touch.address touch.dirty touch.block x room (subst (λ n. n < sizes.blocks) (sym is.0) below) long is.1 is.2 may.0))

  -- the row of a slot
  by_slot : (address slot : ℕ) (dirty : Bool) (found : Option BRow) → b_row slot table.b ≡ found → (touch : Touch)
      → option_map (λ row. record { address = address; block = Some row; dirty = dirty }) found ≡ Some touch → Touches address (held slot) touch × (has_slot slot table.b ≡ true)
  by_slot address slot dirty None at touch h = absurd (none-some touch h)
  by_slot address slot dirty (Some row) at touch h =
      let same : row.slot ≡ slot = slot_of slot row table.b at in (
        subst (λ (t : Touch). Touches address (held slot) t) (ap (λ o. unwrap_or o touch) h)
            (refl, ap held same, may_move-listed print held sizes s table count carries.shows slot row at),
        subst (λ n. has_slot n table.b ≡ true) same (found_listed print held sizes s table count carries.shows slot row table.b (λ r. ⊤) (all_true table.b) at).0,
      )

  by_hit : (address : ℕ) (link : Link) (fp : Fp) → LinkTells print held (content s.array address) link fp → (touch : Touch) → hit_of address link table.b ≡ Some touch → Touches address (content s.array address) touch
  by_hit address links.Lost fp tells touch h = absurd (none-some touch h)
  by_hit address (links.Slot slot) fp tells touch h = subst (λ x. Touches address x touch) tells.0 (by_slot address slot false (b_row slot table.b) refl touch h).0
  by_hit address links.Zero fp tells touch h = subst (λ (t : Touch). Touches address (content s.array address) t) (ap (λ o. unwrap_or o touch) h) (refl, tells.0, tt)

  hit_touches : (address : ℕ) (touch : Touch) → hit_of address (link_at address table.a) table.b ≡ Some touch → Touches address (content s.array address) touch
  hit_touches address touch h =
      ⊎_elim
      (λ none. absurd (none-some touch (sym (ap (λ o. hit_of address (link_of o) table.b) none) ∙ h)))
      (λ found. by_hit address (found.0).link (found.0).fp (subst (λ n. LinkTells print held (content s.array n) (found.0).link (found.0).fp) found.2 found.3) touch
      (sym (ap (λ o. hit_of address (link_of o) table.b) found.1) ∙ h))
      (row_found (RowTells print held s.array) address table.a carries.shows.a_rows)

  known_long : (slot : ℕ) → has_slot slot table.b ≡ true → length (held slot) ≡ sizes.block
  known_long slot listed =
      held_all held (λ block. length block ≡ sizes.block) slot table.b (subst (λ blocks. AllByRecursion (λ block. length block ≡ sizes.block) blocks) carries.shows.blocks carries.rules.block_lengths) listed

  slot_carried : (address slot : ℕ) (dirty : Bool) → address < sizes.blocks → (found : Option BRow) → b_row slot table.b ≡ found → (after : Table)
      → option_and_then (after_touch sizes.acap sizes.bcap table) (option_map (λ row. record { address = address; block = Some row; dirty = dirty }) found) ≡ Some after
      → Carries print held sizes after (suc count) (reference sizes s address (held slot))
  slot_carried address slot dirty below None at after h = absurd (none-some after h)
  slot_carried address slot dirty below (Some row) at after h =
      let touch : Touch = record { address = address; block = Some row; dirty = dirty } in
      let is : Touches address (held slot) touch × (has_slot slot table.b ≡ true) = by_slot address slot dirty (Some row) at touch refl in
      by_touch address (held slot) below (known_long slot is.1) (Some touch) (λ t same. subst (λ (u : Touch). Touches address (held slot) u) (ap (λ o. unwrap_or o touch) same) is.0) after h

  cond_and : (t : Bool) (found : Option Touch) (after : Table) → option_and_then (after_touch sizes.acap sizes.bcap table) (cond t found None) ≡ Some after
      → option_and_then (after_touch sizes.acap sizes.bcap table) found ≡ Some after
  cond_and true found after h = h
  cond_and false found after h = absurd (none-some after h)

  dirty_cleaned : (address : ℕ) (a : List ARow) → AllByRecursion IsDirtyLinked a → AllByRecursion IsDirtyLinked (cleaned address a)
  dirty_cleaned address [] h = tt
  dirty_cleaned address (row ∷ a) h =
      (elim (row.address == address) as (λ t. IsDirtyLinked (cond t (record row { dirty = false }) row)) [ true ↦ λ never. absurd (false≢true never) | false ↦ h.0 ], dirty_cleaned address a h.1)

  links_cleaned : (address : ℕ) (a : List ARow) → AllByRecursion (λ (row : ARow). IsListedLink table.b row.link) a → AllByRecursion (λ (row : ARow). IsListedLink table.b row.link) (cleaned address a)
  links_cleaned address [] h = tt
  links_cleaned address (row ∷ a) h =
      (elim (row.address == address) as (λ t. (let r : ARow = cond t (record row { dirty = false }) row in IsListedLink table.b r.link)) [ true ↦ h.0 | false ↦ h.0 ], links_cleaned address a h.1)

  clean_carried : (address : ℕ) → Carries print held sizes (record table { a = cleaned address table.a }) count s
  clean_carried address = record {
    shows = shows-cleaned print held sizes s table count carries.shows address;
    rules = carries.rules;
    listed = links_cleaned address table.a carries.listed;
    dirty_linked = dirty_cleaned address table.a carries.dirty_linked;
  }

  -- the rows behind a record that fits carry the state behind its reference
  pub carried-rec : (rec : Rec) (after : Table) → IsWithin sizes.blocks rec → MayStore print held sizes table.b rec → after_rec sizes.acap sizes.bcap rec table ≡ Some after
      → Carries print held sizes after (counted rec count) (recorded held sizes rec s)
  carried-rec (Hit address) after below may h =
      by_touch address (content s.array address) below
      (all_at (λ block. length block ≡ sizes.block) s.array address [] (subst (λ n. address < n) (sym carries.rules.array_length) below) carries.rules.array_blocks)
      (hit_of address (link_at address table.a) table.b) (hit_touches address) after h
  carried-rec (ToSlot address slot dirty) after below may h =
      slot_carried address slot dirty below (b_row slot table.b) refl after
      (cond_and (dirty || not (is_link (link_at address table.a))) (option_map (λ row. record { address = address; block = Some row; dirty = dirty }) (b_row slot table.b)) after h)
  carried-rec (Store address slot fp dirty) after below may h =
      let touch : Touch = record { address = address; block = Some (record { slot = slot; fp = fp }); dirty = dirty } in
      by_touch address (held slot) below may.0 (Some touch) (λ t same. subst (λ (u : Touch). Touches address (held slot) u) (ap (λ o. unwrap_or o touch) same) (refl, refl, may.1)) after
      (cond_and ((dirty || not (is_link (link_at address table.a))) && is_none (b_row slot table.b)) (Some touch) after h)
  carried-rec (Zero address dirty) after below may h =
      let touch : Touch = record { address = address; block = None; dirty = dirty } in
      by_touch address (replicate sizes.block 0) below (length-replicate sizes.block 0) (Some touch)
      (λ t same. subst (λ (u : Touch). Touches address (replicate sizes.block 0) u) (ap (λ o. unwrap_or o touch) same) (refl, zeros_are sizes.block, tt)) after
      (cond_and (dirty || not (is_link (link_at address table.a))) (Some touch) after h)
  carried-rec (Clean address) after below may h =
      subst (λ t. Carries print held sizes t count s) (cond_some (is_dirty_at address table.a) (record table { a = cleaned address table.a }) after h).1 (clean_carried address)
