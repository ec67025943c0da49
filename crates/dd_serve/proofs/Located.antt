-- Where the content of an address was found, and what its read is called.
use Rattle.std.proofs.Common.{◌≡◌, ◌⊎◌, inl, inr, ℕ, ◌+◌, ◌-◌, ◌*◌, ◌<◌, ◌≤◌, Bool, true, false, List, length, take, drop, refl, sym, ◌∙◌, ap, subst, arith, Some, None, if◌then◌else◌}
use Rattle.std.specs.Prelude.{Option, is_some, ◌||◌}
use Rattle.std.specs.List.{AllByRecursion, IsDistinct}
use Rattle.std.specs.Str.{bytes_eq}
use Rattle.std.proofs.lemmas.Bool.{false≢true}
use Rattle.dd_block.specs.declared.print.Fp.{Fp}
use Rattle.dd_rig.specs.declared.device.Dev.TheVariants.{Flash, Disk}
use Rattle.dd_rig.specs.World.{World, shown}
use Rattle.dd_rig.proofs.Overwrite.{length-overwrite, overwrite_outside}
use Rattle.dd_slots.specs.declared.usage.Usage.{Usage}
use Rattle.dd_slots.specs.declared.usage.Usage.TheVariants.{Free}
use Rattle.dd_slots.specs.Slots.{SlotsView, slot_from, is_used, saved}
use Rattle.dd_slots.proofs.Ranges.{other_slot_same, saved_slot}
use Rattle.dd_record.specs.declared.row.ARow.{ARow}
use Rattle.dd_record.specs.declared.row.BRow.{BRow}
use Rattle.dd_record.specs.declared.row.Link.{Link}
use Rattle.dd_record.specs.declared.row.Link.TheVariants as links
use Rattle.dd_record.specs.Table.{a_row, b_row, has_slot, is_link, link_of, link_at}
use Rattle.dd_model.specs.declared.kind.Kind.{Kind}
use Rattle.dd_model.specs.declared.kind.Kind.TheVariants.{Hit, Join, Miss}
use Rattle.dd_model.specs.declared.given.Block.{Block}
use Rattle.dd_model.specs.declared.given.Block.TheVariants.{Known, Fresh, Zero}
use Rattle.dd_model.specs.State.{State, IsState, content, array_of, is_zero_block, is_known, is_at_hand, is_linked}
use Rattle.dd_model.specs.Reference.{read_kind}
use Rattle.dd_model.specs.Rows.{LinkTells, RowTells, Shows}
use Rattle.dd_model.specs.Confirming.{Confirms}
use Rattle.dd_model.specs.Listing.{Listing, IsListing}
use Rattle.dd_model.proofs.Arrays.{array_block}
use Rattle.dd_model.proofs.Confirmed.{known_found}
use Rattle.dd_model.proofs.Fitting.{linked-shown}
use Rattle.dd_model.proofs.HeldSame.{HoldSame, shows-same}
use Rattle.dd_model.proofs.Kept.{found_key}
use Rattle.dd_model.proofs.RecordLaws.{may_move-listed, links-fit}
use Rattle.dd_model.proofs.Records.{link_given}
use Rattle.dd_model.proofs.Zeros.{zeros_same}
use Rattle.dd_store.specs.Referring.{IsThere, IsPlaced}
use Rattle.dd_store.proofs.LayingOne.{found_address}
use Rattle.dd_store.proofs.LayingRow.{found_row}
use Rattle.dd_store.proofs.Sole.{length_at}
use Rattle.dd_store.proofs.UsedSlots.{some_has}
use Rattle.dd_serve.specs.Scratch.{ScratchView, Found, Located, IsSound, scratch_of, scratch_sizes, scratch_state, held_in, block_of}

back : (a n : ℕ) → n ≡ (a + n) - a
back a n = omega arith

-- a block of the array is that of the disk
pub array_is : (block blocks : ℕ) (world : World) (address : ℕ) → address < blocks → content (array_of block blocks (shown Disk world)) address ≡ block_of block world address
array_is block blocks world address below =
    array_block block blocks (shown Disk world) address below
    ∙ ap (λ n. take n (drop (address * block) (shown Disk world))) (back (address * block) block)

-- a slot that is free has no listed block
free_unlisted : (used listed : Bool) (o : Option Usage) → o ≡ Some Free → is_used o ≡ listed → listed ≡ false
free_unlisted used listed o is same = sym same ∙ ap is_used is

module _ (printed : List ℕ → Fp) (blocks count : ℕ) (lists : Listing) (slots : SlotsView) (kept : IsListing lists) (world : World) (sound : IsSound printed (scratch_of blocks lists slots count) world) where
  abbrev scratch : ScratchView
  scratch = scratch_of blocks lists slots count

  abbrev held : ℕ → List ℕ
  held = held_in slots world

  abbrev state : State
  state = scratch_state scratch world

  module _ (address : ℕ) (below : address < blocks) where
    abbrev its : List ℕ
    its = content state.array address

    -- what a link tells of the content
    by_row : (link : Link) (o : Option ARow) → a_row address lists.table.a ≡ o → link_of o ≡ link → (link ≡ links.Lost → ⊥) → (fp : Fp) × LinkTells printed held its link fp
    by_row link None found is some = absurd (some (sym is))
    by_row link (Some row) found is some =
        let tells : RowTells printed held state.array row = found_row (RowTells printed held state.array) address lists.table.a row sound.0.a_rows found in (
          row.fp,
          subst (λ (l : Link). LinkTells printed held its l row.fp) is
              (subst (λ n. LinkTells printed held (content state.array n) row.link row.fp) (found_address address lists.table.a row found) tells),
        )

    linked_is : is_linked address state.addresses ≡ is_link (link_at address lists.table.a)
    linked_is = linked-shown address lists.table.a sound.1.apart

    kind_hit : (link : Link) → link_at address lists.table.a ≡ link → is_link link ≡ true → read_kind state address ≡ Hit
    kind_hit link is linked = ap (λ b. if b then Hit else (if is_at_hand its state.blocks then Join else Miss)) (linked_is ∙ ap is_link is ∙ linked)

    kind_lost : link_at address lists.table.a ≡ links.Lost → read_kind state address ≡ (if is_at_hand its state.blocks then Join else Miss)
    kind_lost lost = ap (λ b. if b then Hit else (if is_at_hand its state.blocks then Join else Miss)) (linked_is ∙ ap is_link lost)

  -- a listed block is there
  known_there : (slot : ℕ) (block : List ℕ) (o : Option BRow) → b_row slot lists.table.b ≡ o → is_some o ≡ true → held slot ≡ block → IsThere printed held o block × IsPlaced state lists.table o block
  known_there slot block None found given is = absurd (cc given)
  known_there slot block (Some row) found given is =
      let move = may_move-listed printed held (scratch_sizes scratch) state lists.table count sound.0 slot row found in
      let same : row.slot ≡ slot = found_key (λ (r : BRow). r.slot) slot lists.table.b row found in
      let there : held row.slot ≡ block = ap held same ∙ is in (
        (there, move.1 ∙ ap printed there, ap is_zero_block (sym there) ∙ move.0),
        inl (some_has row.slot row lists.table.b (ap (λ n. b_row n lists.table.b) same ∙ found)),
      )

  -- in the slot of a linked address
  pub located_hit : (address : ℕ) → address < blocks → (slot : ℕ) (block : List ℕ) → link_at address lists.table.a ≡ links.Slot slot → block ≡ held slot → Located printed scratch world world address block Hit (Known slot)
  located_hit address below slot block link is =
      let tells = by_row address below (links.Slot slot) (a_row address lists.table.a) refl link (λ lost. absurd (cc lost)) in
      let known = known_there slot block (b_row slot lists.table.b) refl (link_given lists address slot kept link) (sym is) in
      record {
        kind_is = sym (kind_hit address below (links.Slot slot) link refl);
        block_is = is ∙ tells.1.0;
        state = refl;
        sound = sound;
        there = known.0;
        in_place = known.1;
      }

  -- zeros
  pub located_zeros : (address : ℕ) → address < blocks → (block : List ℕ) → link_at address lists.table.a ≡ links.Zero → is_zero_block block ≡ true → length block ≡ slots.block → Located printed scratch world world address block Hit Zero
  located_zeros address below block link zeros long =
      let tells = by_row address below links.Zero (a_row address lists.table.a) refl link (λ lost. absurd (cc lost)) in
      let inside : address < length state.array = omega (arith, below, sound.1.array_length) in
      record {
        kind_is = sym (kind_hit address below links.Zero link refl);
        block_is = zeros_same block (its address below) zeros tells.1.0 (long ∙ sym (length_at slots.block state.array address sound.1.array_blocks inside));
        state = refl;
        sound = sound;
        there = zeros;
        in_place = tt;
      }

  -- the content of an address that isn't linked, zeros
  pub located_join : (address : ℕ) → address < blocks → (block : List ℕ) → link_at address lists.table.a ≡ links.Lost → block ≡ block_of slots.block world address → is_zero_block block ≡ true
      → Located printed scratch world world address block Join Zero
  located_join address below block lost is zeros =
      let same : block ≡ its address below = is ∙ sym (array_is slots.block blocks world address below) in
      record {
        kind_is = sym (kind_lost address below lost ∙ ap (λ b. if is_at_hand b state.blocks then Join else Miss) (sym same) ∙ ap (λ b. if (b || is_known block state.blocks) then Join else Miss) zeros);
        block_is = same;
        state = refl;
        sound = sound;
        there = zeros;
        in_place = tt;
      }

  -- or another block
  pub located_found : (address : ℕ) → address < blocks → (block : List ℕ) (after : World) (kind : Kind) (given : Block) → link_at address lists.table.a ≡ links.Lost → block ≡ block_of slots.block world address
      → is_zero_block block ≡ false → Found printed scratch world after block kind given → Located printed scratch world after address block kind given
  located_found address below block after kind given lost is some found =
      let same : block ≡ its address below = is ∙ sym (array_is slots.block blocks world address below) in
      record {
        kind_is = found.kind_is ∙ sym (kind_lost address below lost ∙ ap (λ b. if is_at_hand b state.blocks then Join else Miss) (sym same) ∙ ap (λ b. if (b || is_known block state.blocks) then Join else Miss) some);
        block_is = same;
        state = found.state;
        sound = found.sound;
        there = found.there;
        in_place = found.in_place;
      }

  -- a search that found the block
  pub found_listed : (block : List ℕ) (slot : ℕ) → Confirms (printed block) block slots (shown Flash world) lists.table.b (Some slot) → Found printed scratch world world block Join (Known slot)
  found_listed block slot confirms =
      let given : is_some (b_row slot lists.table.b) ≡ true = ap is_some confirms.0 in
      let known = known_there slot block (b_row slot lists.table.b) refl given confirms.1 in
      record {
        kind_is = sym (ap (λ b. if b then Join else Miss) (known_found printed block slots (shown Flash world) lists.table count state (Some slot) sound.0 confirms));
        state = refl;
        sound = sound;
        there = known.0;
        in_place = known.1;
      }

  -- one that found none, and then the block was put into a free slot
  pub found_fresh : (block : List ℕ) (slot : ℕ) → Confirms (printed block) block slots (shown Flash world) lists.table.b None → is_zero_block block ≡ false → length block ≡ slots.block
      → has_slot slot lists.table.b ≡ false → slot_from slots slot + slots.block ≤ length (shown Flash world) → Found printed scratch world (saved slots slot block world) block Miss (Fresh (record { slot = slot; fp = printed block }))
  found_fresh block slot confirms some long free room = record {
    kind_is = sym (ap (λ b. if b then Join else Miss) unknown);
    state = ap (λ (bs : List (List ℕ)). record state { blocks = bs }) (sym shows.blocks);
    sound = (
      record { blocks = refl; distinct = subst (λ (bs : List (List ℕ)). IsDistinct bytes_eq bs) shows.blocks shows.distinct; nonzero = subst (λ (bs : List (List ℕ)). AllByRecursion (λ b. is_zero_block b ≡ false) bs) shows.blocks shows.nonzero; addresses = refl; counted = refl; b_prints = shows.b_prints; a_rows = shows.a_rows },
      subst (λ (bs : List (List ℕ)). IsState (scratch_sizes scratch) (record state { blocks = bs })) shows.blocks sound.1,
    );
    there = (saved_slot slots slot block world long room, refl, some);
    in_place = inr (free, unknown);
  }
    where
      unknown : is_known block state.blocks ≡ false
      unknown = known_found printed block slots (shown Flash world) lists.table count state None sound.0 confirms

      others : HoldSame printed held (held_in slots (saved slots slot block world)) lists.table.b
      others other listed = sym (other_slot_same slots slot other (λ same. absurd (false≢true (sym free ∙ ap (λ n. has_slot n lists.table.b) (sym same) ∙ listed))) (shown Flash world) (shown Flash (saved slots slot block world))
          (length-overwrite (slot_from slots slot) block (shown Flash world))
          (λ place out. overwrite_outside (slot_from slots slot) block (shown Flash world) place (subst (λ n. (place < slot_from slots slot) ⊎ (slot_from slots slot + n ≤ place)) (sym long) out)))

      shows : Shows printed (held_in slots (saved slots slot block world)) lists.table count state
      shows = shows-same printed held (held_in slots (saved slots slot block world)) lists.table count state others (links-fit lists.table kept.fit) sound.0
