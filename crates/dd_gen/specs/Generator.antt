-- The commands that a seed generates.
use Rattle.std.specs.Prelude.{ℕ, zero, suc, ◌*◌, ◌%◌, ◌==◌, ◌<◌, nat_le, List, [], ◌∷◌, if◌then◌else◌, ⊤}
use Rattle.std.specs.Int.{w32, to_le_bytes}
use Rattle.dd_block.specs.Text.{filled}
use Rattle.dd_model.specs.State.{Sizes}
use Rattle.dd_script.specs.Command.{Command, read, write, flush, tick}
use Rattle.dd_gen.specs.Lcg.{next_state, draw}
use Rattle.dd_gen.specs.declared.generator.Made.{Made}
use Rattle.dd_gen.specs.declared.generator.Made.TheVariants as made

-- the block of a content: its number, the lower byte first, and zeros behind
abbrev pub numbered_block : (block content : ℕ) → List ℕ
numbered_block block content = filled block (to_le_bytes w32 content)

-- a generated command, and the state behind its draws
pub record Drawn : Type 0 where
  pub command : Command
  pub state : ℕ

-- by the number that was drawn first: nine in sixteen are reads, five are writes, one is a tick, and one a flush
abbrev pub drawn_by : Sizes → (kind x : ℕ) → Drawn
drawn_by sizes kind x =
    if nat_le kind 8 then record { command = read (draw x % sizes.blocks); state = next_state x }
    else if nat_le kind 13 then record { command = write (draw x % sizes.blocks) (numbered_block sizes.block (draw (next_state x) % (2 * sizes.bcap))); state = next_state (next_state x) }
    else if kind == 14 then record { command = tick; state = x }
    else record { command = flush; state = x }

-- the next command from a state on
abbrev pub drawn : Sizes → (x : ℕ) → Drawn
drawn sizes x = drawn_by sizes (draw x % 16) (next_state x)

-- the state behind so many commands
abbrev pub drawn_on : Sizes → (x n : ℕ) → ℕ
drawn_on sizes x zero = x
drawn_on sizes x (suc n) = drawn_on sizes (drawn sizes x).state n

-- so many commands from a state on
abbrev pub generated : Sizes → (x count : ℕ) → List Command
generated sizes x zero = []
generated sizes x (suc count) = (drawn sizes x).command ∷ generated sizes (drawn sizes x).state count

-- what a call made, where a write leaves its block in these bytes
abbrev pub command_of : Made → List ℕ → Command
command_of (made.Read address) bytes = read address
command_of (made.Write address) bytes = write address bytes
command_of made.Tick bytes = tick
command_of made.Flush bytes = flush

-- the address of a reference is below it
abbrev pub IsWithin : (blocks : ℕ) → Made → Type 0
IsWithin blocks (made.Read address) = address < blocks
IsWithin blocks (made.Write address) = address < blocks
IsWithin blocks made.Tick = ⊤
IsWithin blocks made.Flush = ⊤
