-- A script as it is read: what is left of it, and what a line uses up.
use Rattle.std.specs.Prelude.{◌≡◌, ◌≢◌, ◌⊎◌, ◌+◌, ◌-◌, ◌<◌, ◌≤◌, ◌==◌, ℕ, Bool, true, false, List, [], ◌∷◌, ◌++◌, length, take, Option, Some, None, if◌then◌else◌, ⊤}
use Rattle.dd_rig.specs.Counts.{Rose}
use Rattle.dd_script.specs.declared.line.Line.{Line}
use Rattle.dd_script.specs.declared.line.Line.TheVariants as line_is
use Rattle.dd_script.specs.declared.dialect.Dialect.{Dialect}
use Rattle.dd_script.specs.Command.{Command, quit}
use Rattle.dd_script.specs.Line.{line_room, told}
use Rattle.dd_script.specs.Script.{is_quit, EndsWithin}
use Rattle.dd_script.specs.declared.pieces.ScriptFault.{ScriptFault}
use Rattle.dd_script.specs.declared.pieces.ScriptFault.TheVariants as fault

-- how many bytes of a script are taken at most: 2^40
abbrev pub script_limit : ℕ
script_limit = 1099511627776

-- how many are taken at once
abbrev pub piece_size : ℕ
piece_size = 4096

-- bytes taken and not yet read, how many were taken in all, and whether the end has come
pub record Held : Type 0 where
  pub bytes : List ℕ
  pub taken : ℕ
  pub ended : Bool

-- what is left of the script, with what the source has left
abbrev pub left : Held → List ℕ → List ℕ
left held rest = held.bytes ++ (if held.ended then [] else rest)

-- how many bytes may still be read
abbrev pub fuel : Held → ℕ
fuel held = length held.bytes + (script_limit - held.taken)

-- up to the end of the first line
abbrev pub first_line : List ℕ → List ℕ
first_line [] = []
first_line (b ∷ bytes) = if b == 10 then [] else b ∷ first_line bytes

-- behind it
abbrev pub after_line : List ℕ → List ℕ
after_line [] = []
after_line (b ∷ bytes) = if b == 10 then bytes else after_line bytes

-- whether a line ends in it
abbrev pub has_end : List ℕ → Bool
has_end [] = false
has_end (b ∷ bytes) = if b == 10 then true else has_end bytes

-- the next line, as far as it is kept, or the end
abbrev pub NextLine : Option ℕ → List ℕ → List ℕ → List ℕ → Type 0
NextLine None buffer before after = (before ≡ []) × (after ≡ [])
NextLine (Some n) buffer before after = (before ≢ []) × (take n buffer ≡ take line_room (first_line before)) × (after ≡ after_line before)

-- what was found used up some of what may be read
abbrev pub LineBurns : Option ℕ → ℕ → ℕ → Type 0
LineBurns None before after = (after ≤ before) × (0 < after)
LineBurns (Some _) before after = after < before

-- a line that ends with the script ends where more might be read
abbrev pub EndsInside : List ℕ → ℕ → Type 0
EndsInside before fuel_after = (has_end before ≡ true) ⊎ (0 < fuel_after)

-- as many bytes may be read less as were read
abbrev pub Spends : List ℕ → List ℕ → ℕ → ℕ → Type 0
Spends before after fuel_before fuel_after = fuel_after + length before ≡ fuel_before + length after

-- the command that a line tells stands in front of the others, which end with a quit
abbrev pub fronted : Option Command → List Command → List Command
fronted None commands = commands
fronted (Some quit) commands = quit ∷ []
fronted (Some command) commands = command ∷ commands

-- whether a line is a quit
abbrev pub quits : Option Command → Bool
quits None = false
quits (Some command) = is_quit command

-- reading a line that is no quit used up some of what may be read
abbrev pub BurnsUnlessQuit : Line → ℕ → ℕ → Type 0
BurnsUnlessQuit line_is.Quit before after = ⊤
BurnsUnlessQuit line before after = after < before

-- a quit ends the script within its bound, and any other line leaves that to the lines behind it
abbrev pub Bounds : Line → Type 0 → Type 0 → Type 0
Bounds line_is.Quit before after = before
Bounds line before after = (before → after) × (after → before)

-- A script that ends within its first n bytes has its first line within them, and where that is no quit the lines behind it end
-- within as many less.
abbrev pub Passes : Dialect → Line → List ℕ → List ℕ → Type 0
Passes dialect line before after =
    (n : ℕ) → EndsWithin n dialect before → (length before ≤ n + length after) × (quits (told [] line) ≡ false → EndsWithin (n + length after - length before) dialect after)

-- No more than a piece is taken behind the end of a script, or behind its quit: one that ends within its first n bytes has at most
-- so many more taken.
abbrev pub IsTakenTo : Dialect → List ℕ → List ℕ → Type 0
IsTakenTo dialect script rest = (n : ℕ) → EndsWithin n dialect script → length script ≤ length rest + (n + piece_size)

-- why a script can't be read on: a take failed, or this, which says that it is too long
abbrev pub Fails : Type 0 → ScriptFault → (failed_before failed_after : ℕ) → Type 0
Fails long fault.Take failed_before failed_after = Rose failed_before failed_after
Fails long fault.Length failed_before failed_after = long
