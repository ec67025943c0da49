-- What a search for a block tells of the state that a store holds.
use Rattle.std.proofs.Common.{◌≡◌, ℕ, List, sym, ◌∙◌, subst, Some, None}
use Rattle.std.specs.Prelude.{Option}
use Rattle.dd_block.specs.declared.print.Fp.{Fp}
use Rattle.dd_rig.specs.World.{World}
use Rattle.dd_slots.specs.Slots.{SlotsView, block_in}
use Rattle.dd_model.specs.Confirming.{Confirms}
use Rattle.dd_model.specs.Rows.{Shows}
use Rattle.dd_model.specs.State.{State}
use Rattle.dd_model.proofs.Confirmed.{known_found}
use Rattle.dd_store.specs.Bringing.{FoundAs}
use Rattle.dd_store.specs.Keeping.{StoreView, Holds}
use Rattle.dd_store.specs.Saving.{AreSlotsOf}
use Rattle.dd_store.proofs.Saving.{block_there}

pub found_as : (print : List ℕ → Fp) (store : StoreView) (world : World) (s : State) → Holds print store world s → (slots : SlotsView) → AreSlotsOf store.journal.geo slots → (fp : Fp) (block : List ℕ) → fp ≡ print block
    → (found : Option ℕ) → Confirms fp block slots world.flash.shown store.table.b found → FoundAs store.journal.geo world.flash.shown s block found
found_as print store world s holds slots placed fp block printed found confirms = by_found found (subst (λ (f : Fp). Confirms f block slots world.flash.shown store.table.b found) printed confirms)
  where
    shows : Shows print (block_in slots world.flash.shown) store.table store.count s
    shows = subst (λ (held : ℕ → List ℕ). Shows print held store.table store.count s) (λ i slot. sym (block_there store.journal.geo slots world.flash.shown slot placed) i) holds.means.lists

    by_found : (o : Option ℕ) → Confirms (print block) block slots world.flash.shown store.table.b o → FoundAs store.journal.geo world.flash.shown s block o
    by_found None none = known_found print block slots world.flash.shown store.table store.count s None shows none
    by_found (Some slot) some = (known_found print block slots world.flash.shown store.table store.count s (Some slot) shows some, sym (block_there store.journal.geo slots world.flash.shown slot placed) ∙ some.1)
