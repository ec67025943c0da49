-- How often a replay asks its devices.
use Rattle.std.specs.Prelude.{◌≡◌, ◌≤◌, ◌<◌, ◌-◌, ◌^◌, ℕ, ◌+◌, ◌*◌, List, [], ◌∷◌, cond, nat_le}
use Rattle.dd_rig.specs.declared.device.Dev.TheVariants as dev
use Rattle.dd_rig.specs.declared.tallies.Calls.{Calls}
use Rattle.dd_rig.specs.declared.tallies.Counts.{Counts}
use Rattle.dd_rig.specs.Counts.{Quota, Makes, plus, up_to}
use Rattle.dd_model.specs.State.{Sizes, is_zero_block}
use Rattle.dd_model.specs.declared.given.Block.{Block}
use Rattle.dd_model.specs.declared.given.Block.TheVariants.{Known, Fresh, Zero}
use Rattle.dd_model.specs.declared.kind.Kind.{Kind}
use Rattle.dd_model.specs.declared.kind.Kind.TheVariants.{Hit, Join, Miss, Dup, New}
use Rattle.dd_script.specs.Answers.{faults_in}
use Rattle.dd_script.specs.Counting.{hits_in, loads_in, misses_in}
use Rattle.dd_serve.specs.declared.blocks.ScratchFault.{ScratchFault}
use Rattle.dd_serve.specs.declared.blocks.ScratchFault.TheVariants.{FlashRead, DiskRead, FlashWrite}

-- the flash was read so many times or more, and no more calls were made than these
abbrev pub Asks : (slots : ℕ) (flash disk : Quota) → Counts → Counts → Type 0
Asks slots flash disk before after = (plus before.flash.reads slots ≤ after.flash.reads) × Makes flash disk before after

-- a hit of a block reads its slot, and a hit of zeros reads nothing
abbrev pub slots_for : Kind → List ℕ → ℕ
slots_for Hit block = cond (is_zero_block block) 0 1
slots_for Join block = 0
slots_for Miss block = 0
slots_for Dup block = 0
slots_for New block = 0

-- the same by where the content was found
abbrev pub slots_at : Kind → Block → ℕ
slots_at Hit Zero = 0
slots_at Hit (Known slot) = 1
slots_at Hit (Fresh row) = 1
slots_at kind given = 0

-- a join and a miss read a block of the disk, and look for it in the slots
abbrev pub looks_for : Kind → ℕ
looks_for Hit = 0
looks_for Join = 1
looks_for Miss = 1
looks_for Dup = 0
looks_for New = 0

-- a miss writes a slot
abbrev pub writes_for : Kind → ℕ
writes_for Hit = 0
writes_for Join = 0
writes_for Miss = 1
writes_for Dup = 0
writes_for New = 0

-- So many hits of other blocks than zeros, looks and misses: such a hit reads one slot, a look reads the disk once and each slot at most once, and a miss writes one
-- slot.
abbrev pub AsksFor : (block bcap : ℕ) (hits looks misses : ℕ) → Counts → Counts → Type 0
AsksFor block bcap hits looks misses before after = Asks hits (up_to (hits + bcap * looks) misses (block * misses)) (up_to looks 0 0) before after

-- only a write that fails was begun
abbrev pub writes_until : ScratchFault → ℕ
writes_until FlashRead = 0
writes_until DiskRead = 0
writes_until FlashWrite = 1

-- how many of these lines took a look: joins, misses and faults
abbrev pub looks_in : List (List ℕ) → ℕ
looks_in lines = loads_in lines + (faults_in dev.Flash lines + faults_in dev.Disk lines)

-- the calls of a replay that said these lines, where so many commands more were begun, each as a hit, a look and a miss
abbrev pub AsksForLines : Sizes → List (List ℕ) → (more : ℕ) → Counts → Counts → Type 0
AsksForLines sizes lines more before after =
    Asks (hits_in lines) (up_to (hits_in lines + more + sizes.bcap * (looks_in lines + more)) (misses_in lines + more) (sizes.block * (misses_in lines + more))) (up_to (looks_in lines + more) 0 0) before after

-- the calls for one line
abbrev pub AsksForLine : Sizes → List ℕ → Counts → Counts → Type 0
AsksForLine sizes line before after = AsksFor sizes.block sizes.bcap (hits_in (line ∷ [])) (looks_in (line ∷ [])) (misses_in (line ∷ [])) before after

-- While neither count stands at its last value, as many bytes were written as there were writes and syncs, times the block. So each write
-- has a block, and no sync was made, as it writes no bytes.
pub record WritesBlocks (block : ℕ) (before after : Calls) : Type 0 where
  pub writes : before.writes ≤ after.writes
  pub written : before.written ≤ after.written
  pub bytes : after.writes < 2 ^ 64 - 1 → after.written < 2 ^ 64 - 1 → after.written + block * before.writes ≡ before.written + block * after.writes

-- the flash was written in blocks alone, and the disk neither written nor synced
pub record OnlyBlocks (block : ℕ) (before after : Counts) : Type 0 where
  pub flash : WritesBlocks block before.flash after.flash
  pub disk : after.disk.writes ≡ before.disk.writes

-- behind the look at byte 0
abbrev pub looked : Counts → Counts
looked counts = record counts { flash = record counts.flash { reads = plus counts.flash.reads 1 } }

-- with 5 to 8 a command may have been begun that has no line
abbrev pub unfinished : ℕ → ℕ
unfinished status = cond (nat_le 5 status) 1 0
