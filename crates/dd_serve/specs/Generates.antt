-- A run of `gen`: what it says and promises over devices that were formatted, and why it ends.
use Rattle.std.specs.Prelude.{◌≡◌, ◌⊎◌, ℕ, List, ⊤}
use Rattle.dd_block.specs.declared.print.Fp.{Fp}
use Rattle.dd_rig.specs.declared.tallies.Counts.{Counts}
use Rattle.dd_rig.specs.World.{World, Outcome}
use Rattle.dd_loop.specs.declared.ending.Ending.{Ending}
use Rattle.dd_recover.specs.Beginning.{Begins, sizes_from}
use Rattle.dd_gen.specs.Large.{Caused, Promises, TellsSums}
use Rattle.dd_serve.specs.declared.words.Load.{Load}

-- both lines of so many of the commands that the seed generates, or the line that says why it ended without them
abbrev pub Generates : (print : List ℕ → Fp) (old : World) → Begins print old → Load → (status : ℕ) → (before after : Counts) → (new : World) → Type 0
Generates print old from load status before after new = TellsSums print (sizes_from from) from.start load.seed load.count status before after old new

-- nothing was opened yet, or the devices stand for the state behind some first part of those commands
abbrev pub PromisesCommands : (print : List ℕ → Fp) (old : World) → Begins print old → Load → Outcome → Type 0
PromisesCommands print old from load o = Promises from load.seed load.count o

-- why it ends so: which count rose
abbrev pub GenEndsFor : Ending → (before after : Counts) → Type 0
GenEndsFor ending before after = Caused ⊤ ending before after

-- where no call fails all of them are served, or there is no memory
abbrev pub GeneratesWell : (List ℕ → Fp) → (status : ℕ) → (old : World) → Type 0
GeneratesWell print status old = Begins print old → (status ≡ 0) ⊎ (status ≡ 4)
