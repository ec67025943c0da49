-- What the lines of an output cost a store: calls of its devices, and addresses that may be dirty behind them.
use Rattle.std.specs.Prelude.{◌≡◌, ◌+◌, ◌*◌, ◌≤◌, ℕ, true, false, List, length}
use Rattle.dd_rig.specs.declared.device.Dev.TheVariants.{Disk}
use Rattle.dd_rig.specs.declared.tallies.Calls.{Calls}
use Rattle.dd_rig.specs.declared.tallies.Counts.{Counts}
use Rattle.dd_rig.specs.Counts.{plus}
use Rattle.dd_rig.specs.World.{World, shown}
use Rattle.dd_model.specs.State.{Sizes, State, array_of}
use Rattle.dd_script.specs.Counting.{hits_in, loads_in, updates_in, all_calm, dirty_after}
use Rattle.dd_store.specs.Keeping.{StoreView}
use Rattle.dd_store.specs.Rounds.{LoadsAtMost}
use Rattle.dd_loop.specs.Answering.{HasFault}

-- the calls of a device: reads, and writes and syncs
abbrev pub calls_of : Calls → ℕ
calls_of calls = calls.reads + calls.writes

-- what whole lines cost the disk that tell no fault
pub record CostsWhole (lines : List (List ℕ)) (old new : StoreView) (before after : Calls) : Type 0 where
  -- one call for a join and a miss; and two at most for an address that becomes dirty, when it is written back
  pub loads : LoadsAtMost (loads_in lines + 2 * updates_in lines) old new before after
  -- where nothing falls off and nothing is written back, a write makes none
  pub calm : all_calm lines ≡ true → calls_of after ≤ calls_of before + loads_in lines

-- What lines cost, and the beginnings of so many more.
pub record CostsLines (old new : StoreView) (lines : List (List ℕ)) (more : ℕ) (before after : Counts) : Type 0 where
  pub acap : new.journal.geo.acap ≡ old.journal.geo.acap
  -- each hit of a block that isn't zeros reads the flash
  pub hits : plus before.flash.reads (hits_in lines) ≤ after.flash.reads
  pub dirty : more ≡ 0 → length old.dirty ≤ old.journal.geo.acap → length new.dirty ≤ dirty_after old.journal.geo.acap (length old.dirty) lines
  pub whole : more ≡ 0 → HasFault false lines → CostsWhole lines old new before.disk after.disk

-- The disk is called no more than whole lines tell, and so often in front of them: once for a join and a miss; twice at most for an address
-- that becomes dirty, or may have been so at the start; and where nothing falls off and nothing is written back, for joins and misses alone.
pub record CallsLittle (opening listed : ℕ) (lines : List (List ℕ)) (before after : Calls) : Type 0 where
  pub loads : calls_of after ≤ calls_of before + (opening + loads_in lines + 2 * (updates_in lines + listed))
  pub calm : all_calm lines ≡ true → calls_of after ≤ calls_of before + (opening + loads_in lines)

-- What lines cost by the counts alone, where so many addresses at most were dirty in front of them.
pub record Spends (listed : ℕ) (lines : List (List ℕ)) (more : ℕ) (before after : Counts) : Type 0 where
  pub hits : plus before.flash.reads (hits_in lines) ≤ after.flash.reads
  pub whole : more ≡ 0 → HasFault false lines → CallsLittle 0 listed lines before.disk after.disk

-- the disk has the array of a state
abbrev pub HasArray : Sizes → World → State → Type 0
HasArray sizes world s = array_of sizes.block sizes.blocks (shown Disk world) ≡ s.array

-- and it has it where no address can be dirty behind these lines
abbrev pub HasArrayBehind : Sizes → World → List (List ℕ) → State → Type 0
HasArrayBehind sizes world lines s = dirty_after sizes.acap sizes.acap lines ≡ 0 → HasArray sizes world s
