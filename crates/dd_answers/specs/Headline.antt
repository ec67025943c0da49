-- The promise on crashes, as a property of one outcome.
use Rattle.std.specs.Prelude.{◌≡◌, ◌⊎◌, ◌≤◌, ◌+◌, ℕ, List, ◌++◌, length}
use Rattle.dd_block.specs.declared.print.Fp.{Fp}
use Rattle.dd_rig.specs.World.{World, Outcome, IsOwn}
use Rattle.dd_model.specs.State.{Sizes, State}
use Rattle.dd_script.specs.Answers.{taken, state_after, acknowledged, Answers, IsStopped}
use Rattle.dd_script.specs.Command.{Command}
use Rattle.dd_recover.specs.Beginning.{Begins, BeginsAt, basis_from, sizes_from}
use Rattle.dd_script.specs.Output.{dialect_of}
use Rattle.dd_script.specs.Script.{commands_of}
use Rattle.dd_script.specs.Text.{ended}
use Rattle.dd_store.specs.Meaning.{Basis, Stands}

-- The two devices stand for the array and both lists after one prefix of the answered reads and writes, no shorter than any flush
-- acknowledged in the output. It reads the outcome's own output, so it is the same property at each moment of a run. The run began in a
-- state, with these commands, and with this output behind it.
pub record Headline (basis : Basis) (print : List ℕ → Fp) (sizes : Sizes) (start : State) (commands : List Command) (said : List ℕ) (o : Outcome) : Type 0 where
  -- what this run had said
  pub output : List ℕ
  pub out : o.out ≡ said ++ output
  -- how many of the references that it answers the devices have: the count that the flash spells, less that of the start
  pub k : ℕ
  pub few : k ≤ length (taken commands output)
  -- on the basis of the start: the epoch is no further ahead of the count, and the bytes behind the slots and behind the array are the same
  pub stands : Stands basis print o.flash o.disk (state_after sizes start commands output k)
  pub counted : stands.count ≡ start.count + k
  -- so the next run begins with that state
  pub again : BeginsAt basis print (state_after sizes start commands output k) o.flash o.disk
  pub acknowledges : acknowledged start.count output ≤ start.count + k
  -- and what it had said answers the commands
  pub answers : Answers print sizes start commands output

-- The devices are as a crash before the opening might have left them, and no more was said than a part of one line that stops the run.
pub record IsUnopened (old : World) (o : Outcome) : Type 0 where
  pub own : IsOwn old o.flash o.disk
  pub line : List ℕ
  pub stopped : IsStopped line
  pub rest : List ℕ
  pub more : List ℕ
  pub part : ended line ≡ rest ++ more
  pub out : o.out ≡ old.said ++ rest

-- The promise on crashes: nothing was opened yet, or the devices stand for the state after one prefix.
abbrev pub Promises : {print : List ℕ → Fp} {world : World} → Begins print world → (script : List ℕ) → Outcome → Type 0
Promises {print} {world} from script o =
    IsUnopened world o ⊎ Headline (basis_from from) print (sizes_from from) from.start (commands_of (dialect_of (sizes_from from)) script) world.said o
