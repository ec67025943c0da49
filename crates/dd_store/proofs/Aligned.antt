-- What orphans there are where both lists go together.
use Rattle.std.proofs.Common.{◌≡◌, ◌⊎◌, ℕ, ◌≤◌, List, length, ap, ◌∙◌, arith}
use Rattle.std.proofs.lemmas.List.{length-map}
use Rattle.dd_block.specs.declared.print.Fp.{Fp}
use Rattle.dd_rig.specs.World.{World}
use Rattle.dd_layout.specs.Layout.{slot_block}
use Rattle.dd_model.specs.Alignment.{Aligned}
use Rattle.dd_model.specs.Orphans.{orphaned_addresses, orphaned_blocks}
use Rattle.dd_model.specs.Rows.{held_block}
use Rattle.dd_model.specs.State.{State}
use Rattle.dd_model.proofs.AlignmentLaws.{no-orphans}
use Rattle.dd_store.specs.Keeping.{StoreView, Holds}

module _ (print : List ℕ → Fp) (store : StoreView) (world : World) (s : State) (holds : Holds print store world s) where
  -- one of its counts of orphans is 0
  pub one_none : length store.table.b ≤ store.journal.geo.bcap → Aligned store.journal.geo.bcap s → (orphaned_addresses s ≡ 0) ⊎ (orphaned_blocks s ≡ 0)
  one_none few aligned =
      let long : length s.blocks ≡ length store.table.b = ap length holds.means.lists.blocks ∙ length-map store.table.b (held_block (slot_block store.journal.geo world.flash.shown)) in
      no-orphans store.journal.geo.bcap s holds.means.lists.nonzero (omega (arith, long, few)) aligned
