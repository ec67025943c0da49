-- A content that is there stays there while the store holds the same state and lists the same blocks.
use Rattle.std.proofs.Common.{◌≡◌, ◌⊎◌, ℕ, ◌<◌, Bool, true, false, List, [], ◌∷◌, map, refl, sym, ◌∙◌, ap, subst, Some, None}
use Rattle.std.specs.Prelude.{Option, ◌||◌, ◌==◌}
use Rattle.std.proofs.lemmas.Bool.{eqb-true}
use Rattle.dd_block.specs.declared.geometry.Geometry.{Geometry}
use Rattle.dd_block.specs.declared.print.Fp.{Fp}
use Rattle.dd_rig.specs.World.{World}
use Rattle.dd_layout.specs.Layout.{slot_block}
use Rattle.dd_record.specs.declared.row.BRow.{BRow}
use Rattle.dd_record.specs.Table.{has_slot}
use Rattle.dd_record.specs.Replay.{Touch}
use Rattle.dd_model.specs.State.{State, is_known}
use Rattle.dd_model.specs.Rows.{held_block}
use Rattle.dd_store.specs.Keeping.{StoreView, Holds}
use Rattle.dd_store.specs.Referring.{IsThere, IsPlaced}
use Rattle.dd_store.specs.Rounds.{Cleans}
use Rattle.dd_store.specs.Bringing.{Carries}
use Rattle.dd_store.proofs.Prepared.{same_b}

-- where the same rows hold the same blocks, a listed slot holds the same block
held_same : (one another : ℕ → List ℕ) (slot : ℕ) (b : List BRow) → map (held_block one) b ≡ map (held_block another) b → has_slot slot b ≡ true → one slot ≡ another slot
held_same one another slot [] same listed = absurd (cc listed)
held_same one another slot (row ∷ b) same listed = by_test (row.slot == slot) refl listed (λ e. held_same one another slot b (tails same) e)
  where
    heads : map (held_block one) (row ∷ b) ≡ map (held_block another) (row ∷ b) → one row.slot ≡ another row.slot
    heads e = cc e

    tails : map (held_block one) (row ∷ b) ≡ map (held_block another) (row ∷ b) → map (held_block one) b ≡ map (held_block another) b
    tails e = cc e

    by_test : (t : Bool) → (row.slot == slot) ≡ t → (t || has_slot slot b) ≡ true → (has_slot slot b ≡ true → one slot ≡ another slot) → one slot ≡ another slot
    by_test true here e rest = let is : row.slot ≡ slot = eqb-true row.slot slot here in ap one (sym is) ∙ heads same ∙ ap another is
    by_test false other e rest = rest e

module _ (print : List ℕ → Fp) (old now : StoreView) (before after : World) (s : State) (cleans : Cleans old now) (was : Holds print old before s) (is : Holds print now after s) where
  abbrev held : ℕ → List ℕ
  held = slot_block old.journal.geo before.flash.shown

  abbrev held_now : ℕ → List ℕ
  held_now = slot_block now.journal.geo after.flash.shown

  pub slot_stays : (slot : ℕ) → has_slot slot old.table.b ≡ true → held_now slot ≡ held slot
  slot_stays slot listed = held_same held_now held slot old.table.b
      (ap (map (held_block held_now)) (sym (same_b old now cleans)) ∙ sym is.means.lists.blocks ∙ was.means.lists.blocks) listed

  there_still : (block : Option BRow) (bytes : List ℕ) → IsPlaced s old.table block bytes → (has_slot_of : (row : BRow) → block ≡ Some row → has_slot row.slot old.table.b ≡ true) → IsThere print held block bytes → IsThere print held_now block bytes
  there_still None bytes placed listed there = there
  there_still (Some row) bytes placed listed there = (slot_stays row.slot (listed row refl) ∙ there.0, there.1, there.2)

  placed_still : (block : Option BRow) (bytes : List ℕ) → IsPlaced s old.table block bytes → IsPlaced s now.table block bytes
  placed_still None bytes placed = tt
  placed_still (Some row) bytes placed = subst (λ (b : List BRow). (has_slot row.slot b ≡ true) ⊎ ((has_slot row.slot b ≡ false) × (is_known bytes s.blocks ≡ false))) (sym (same_b old now cleans)) placed

  -- a touch of a listed block, or of zeros, carries what it did
  pub carries_still : (touch : Touch) (bytes : List ℕ) → ((row : BRow) → touch.block ≡ Some row → has_slot row.slot old.table.b ≡ true) → Carries print old before.flash.shown s touch bytes → Carries print now after.flash.shown s touch bytes
  carries_still touch bytes listed carries = record {
    below = subst (λ (g : Geometry). touch.address < g.blocks) (sym cleans.geometry) carries.below;
    long = carries.long ∙ ap (λ (g : Geometry). g.block) (sym cleans.geometry);
    there = there_still touch.block bytes carries.placed listed carries.there;
    placed = placed_still touch.block bytes carries.placed;
    read = carries.read;
  }
