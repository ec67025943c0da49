-- A run of `serve`: what it says and promises over devices that were formatted, and why it ends.
use Rattle.std.specs.Prelude.{◌≡◌, ◌⊎◌, ◌≤◌, ℕ, List}
use Rattle.dd_block.specs.declared.print.Fp.{Fp}
use Rattle.dd_rig.specs.declared.tallies.Counts.{Counts}
use Rattle.dd_rig.specs.Clock.{Clock, Elapses}
use Rattle.dd_rig.specs.World.{World, Outcome, MayLeave}
use Rattle.dd_model.specs.Alignment.{Aligned}
use Rattle.dd_model.specs.State.{Sizes}
use Rattle.dd_script.specs.Output.{dialect_of}
use Rattle.dd_script.specs.Reading.{IsTakenTo}
use Rattle.dd_script.specs.Script.{commands_of, lines_of}
use Rattle.dd_loop.specs.declared.ending.Ending.{Ending}
use Rattle.dd_recover.specs.Beginning.{Begins, sizes_from}
use Rattle.dd_answers.specs.Serving.{Caused, IsBounded, Serves}
use Rattle.dd_serve.specs.Together.{StatsTellNone}

-- A crash within the run or behind it leaves what is promised.
pub record KeepsPromise (promise : Outcome → Type 0) (new : World) (first last : Clock) : Type 0 where
  pub within : Elapses first last promise
  pub behind : (o : Outcome) → MayLeave new o → promise o

-- What a run says of a script, over devices that stand for the state at its start.
pub record ServesScript (print : List ℕ → Fp) (old : World) (from : Begins print old) (script : List ℕ) (status : ℕ) (before after : Counts) (new : World) : Type 0 where
  -- its lines answer the commands, the status says how it ended, and the devices were called no more than the lines tell
  pub says : Serves print (sizes_from from) from.start script 1 status old new before after
  -- where both lists go together at the start each whole `stat` line tells that there are no orphans of one kind, up to the first
  -- answered write that changes the content of a listed address
  pub together : Aligned (sizes_from from).bcap from.start
      → StatsTellNone (sizes_from from) from.start (commands_of (dialect_of (sizes_from from)) script) (lines_of says.output).whole

-- Why it ends so: which count rose. Where it is refused nothing was taken from the script, and where that is too long it has no whole
-- line q among 2^40 bytes.
abbrev pub ServeEndsFor : Ending → (untaken tells : Type 0) → (script : List ℕ) → (before after : Counts) → (takes_before takes_after : ℕ) → Type 0
ServeEndsFor ending untaken tells script before after takes_before takes_after =
    Caused untaken ((sizes : Sizes) × (tells → IsBounded sizes script → ⊥)) ending before after takes_before takes_after

-- where no call and no take fails a script that is bounded is served, or there is no memory
abbrev pub ServesWell : (List ℕ → Fp) → (status : ℕ) → (calm : Type 0) → (script : List ℕ) → (old : World) → Type 0
ServesWell print status calm script old = calm → (from : Begins print old) → IsBounded (sizes_from from) script → (status ≡ 0) ⊎ (status ≡ 4)

-- a script that was served is taken to its end or its quit, and up to 4,096 bytes behind that
abbrev pub TakesScript : (List ℕ → Fp) → (status : ℕ) → (tells : Type 0) → (script rest : List ℕ) → (old : World) → Type 0
TakesScript print status tells script rest old = tells → (from : Begins print old) → status ≤ 1 → IsTakenTo (dialect_of (sizes_from from)) script rest
