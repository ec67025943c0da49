-- What a scratch answers to lines, as `Cache` of dd_loop asks for it.
use Rattle.std.specs.Prelude.{◌≡◌, ◌+◌, ◌<◌, ◌^◌, ℕ, true, List, ⊤}
use Rattle.dd_block.specs.declared.print.Fp.{Fp}
use Rattle.dd_rig.specs.declared.device.Dev.{Dev}
use Rattle.dd_rig.specs.declared.device.Dev.TheVariants.{Flash, Disk}
use Rattle.dd_rig.specs.declared.tallies.Counts.{Counts}
use Rattle.dd_rig.specs.World.{World}
use Rattle.dd_model.specs.State.{State}
use Rattle.dd_loop.specs.Terms.{Terms}
use Rattle.dd_serve.specs.Calls.{AsksForLines}
use Rattle.dd_serve.specs.Scratch.{ScratchView, Fits, IsSound, Scratched, KeepsImages, scratch_sizes, scratch_state}

-- what stays as it is while a scratch answers: its lines only read
abbrev pub scratch_terms : (List ℕ → Fp) → ScratchView → Terms
scratch_terms print scratch = record { print = print; sizes = scratch_sizes scratch; reads_only = true }

-- So many lines more may be answered: the devices are large enough, the count leaves room for them, and a block fits into the buffer
-- for a comparison.
pub record MayAnswer (scratch : ScratchView) (other : ℕ) (lines : ℕ) (size : Dev → ℕ) : Type 0 where
  pub fits : Fits scratch size
  pub count : scratch.count + lines < 2 ^ 64
  pub room : other ≡ scratch.slots.block

-- rows and devices stand for that state, and since the script began only the flash was written, behind its first 64 bytes
pub record HoldsState (print : List ℕ → Fp) (scratch : ScratchView) (first now : World) (held : State) : Type 0 where
  pub sound : IsSound print scratch now
  pub is : held ≡ scratch_state scratch now
  pub since : Scratched first now

-- a crash leaves of both devices what a replay may leave, whatever state is held
abbrev pub StaysBy : World → (flash disk : List ℕ) → State → Type 0
StaysBy first flash disk s = KeepsImages first flash disk

-- what lines cost, and that the sizes stay
pub record CostsLines (old new : ScratchView) (lines : List (List ℕ)) (more : ℕ) (before after : Counts) : Type 0 where
  pub same : scratch_sizes new ≡ scratch_sizes old
  pub asks : AsksForLines (scratch_sizes old) lines more before after

-- a replay stops for a write of the flash alone
abbrev pub IsFlash : Dev → Type 0
IsFlash Flash = ⊤
IsFlash Disk = ⊥
