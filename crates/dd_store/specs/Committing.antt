-- A store whose records are committed.
use Rattle.std.specs.Prelude.{ℕ, List, [], ◌⊎◌, map}
use Rattle.dd_block.specs.declared.print.Fp.{Fp}
use Rattle.dd_rig.specs.Device.{IsImage}
use Rattle.dd_rig.specs.World.{World}
use Rattle.dd_slots.specs.Slots.{freed}
use Rattle.dd_record.specs.declared.rec.Rec.{Rec}
use Rattle.dd_record.specs.Table.{Table}
use Rattle.dd_model.specs.State.{State}
use Rattle.dd_journal.specs.Sitting.{JournalView}
use Rattle.dd_store.specs.Meaning.{Basis, Stands}
use Rattle.dd_store.specs.Keeping.{StoreView}

-- both devices stand for one of two states
abbrev pub StandForEither : (basis : Basis) → (List ℕ → Fp) → (one another : State) → (flash disk : List ℕ) → Type 0
StandForEither basis print one another flash disk = Stands basis print flash disk one ⊎ Stands basis print flash disk another

-- whatever a crash leaves now stands for one of two states
abbrev pub AllStandForEither : (basis : Basis) → (List ℕ → Fp) → (one another : State) → World → Type 0
AllStandForEither basis print one another world = (flash disk : List ℕ) → IsImage world.flash flash → IsImage world.disk disk → StandForEither basis print one another flash disk

-- a store with this journal, these rows and this count, and these pending records
abbrev pub with_parts : StoreView → JournalView → Table → ℕ → List Rec → StoreView
with_parts store journal table count pending = record store { journal = journal; table = table; count = count; pending = pending }

-- behind a commit nothing is pending, and the slots that waited are free
abbrev pub committed_store : StoreView → JournalView → StoreView
committed_store store journal = record store { journal = journal; pending = []; uses = map freed store.uses }
