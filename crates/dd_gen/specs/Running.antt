-- What a store answers to generated commands, and what a crash within that leaves.
use Rattle.std.specs.Prelude.{◌≤◌, ℕ, List, Option, Some, None, ⊤}
use Rattle.dd_block.specs.declared.print.Fp.{Fp}
use Rattle.dd_rig.specs.Device.{IsImage}
use Rattle.dd_rig.specs.World.{World}
use Rattle.dd_model.specs.declared.done.Done.{Done}
use Rattle.dd_model.specs.State.{Sizes, State}
use Rattle.dd_model.specs.Reference.{Tells, read_answer, write_answer}
use Rattle.dd_script.specs.Command.{Command, read, write, flush, tick, after_all}
use Rattle.dd_script.specs.declared.reply.Sums.{Sums}
use Rattle.dd_store.specs.Keeping.{StoreView, Kept}
use Rattle.dd_store.specs.Meaning.{Basis, Stands}
use Rattle.dd_gen.specs.Generator.{generated}
use Rattle.dd_gen.specs.Sums.{sums_of, no_sums}

-- a reference is answered as the model has it, and any other command by nothing
abbrev pub AnswersCommand : (List ℕ → Fp) → Sizes → State → Command → Option Done → Type 0
AnswersCommand print sizes s (read address) (Some done) = Tells print done (read_answer sizes s address)
AnswersCommand print sizes s (write address block) (Some done) = Tells print done (write_answer sizes s address block)
AnswersCommand print sizes s flush None = ⊤
AnswersCommand print sizes s tick None = ⊤
AnswersCommand print sizes s command other = ⊥

-- A run of the commands that a seed generates, from the state at its start.
module _ (print : List ℕ → Fp) (sizes : Sizes) (start : State) (seed : ℕ) where
  -- the state behind the first n of them
  abbrev pub state_at : ℕ → State
  state_at n = after_all sizes start (generated sizes seed n)

  -- and what their references come to
  abbrev pub sums_at : ℕ → Sums
  sums_at n = sums_of sizes start (generated sizes seed n) no_sums

-- and what is left and held of it, while the epoch keeps its pace
module _ (basis : Basis) (print : List ℕ → Fp) (sizes : Sizes) (start : State) (seed : ℕ) where
  -- the devices stand for the state behind some of the first n
  pub record StandsWithin (n : ℕ) (flash disk : List ℕ) : Type 0 where
    pub k : ℕ
    pub few : k ≤ n
    pub stands : Stands basis print flash disk (state_at print sizes start seed k)

  -- and so does whatever a crash leaves now
  abbrev pub AllStandWithin : ℕ → World → Type 0
  AllStandWithin n world = (flash disk : List ℕ) → IsImage world.flash flash → IsImage world.disk disk → StandsWithin n flash disk

  -- the store holds the state behind the first n, and has committed that behind some of them
  pub record Holding (n : ℕ) (store : StoreView) (world : World) : Type 0 where
    pub k : ℕ
    pub few : k ≤ n
    pub kept : Kept basis print store world (state_at print sizes start seed k) (state_at print sizes start seed n)
