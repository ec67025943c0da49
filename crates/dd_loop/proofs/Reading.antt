-- Lines that are read, by the dialect of what answers them.
use Rattle.std.proofs.Common.{◌≡◌, ◌≢◌, ℕ, false, List, [], ◌∷◌, subst}
use Rattle.std.specs.List.{filter_map}
use Rattle.std.specs.Prelude.{Option}
use Rattle.dd_script.specs.declared.dialect.Dialect.{Dialect}
use Rattle.dd_script.specs.declared.line.Line.{Line}
use Rattle.dd_script.specs.Command.{Command, quit}
use Rattle.dd_script.specs.Line.{command_of_line, told}
use Rattle.dd_script.specs.Reading.{fronted, quits, Bounds, Passes}
use Rattle.dd_script.specs.Script.{script_lines, through_quit, commands_of, EndsWithin}
use Rattle.dd_script.proofs.Commanding.{bounds_other}

pub same_front : (d e : Dialect) (o : Option Command) (before after : List ℕ) → d ≡ e → commands_of d before ≡ fronted o (commands_of d after) → commands_of e before ≡ fronted o (commands_of e after)
same_front d e o before after same h = subst (λ (k : Dialect). commands_of k before ≡ fronted o (commands_of k after)) same h

pub bounds_for : (d e : Dialect) (block : List ℕ) (line : Line) (fuel_before fuel_after : ℕ) (before after : List ℕ) → d ≡ e → quits (told block line) ≡ false
    → Bounds line (EndsWithin fuel_before d before) (EndsWithin fuel_after d after)
    → (EndsWithin fuel_before e before → EndsWithin fuel_after e after) × (EndsWithin fuel_after e after → EndsWithin fuel_before e before)
bounds_for d e block line fuel_before fuel_after before after same other h =
    subst (λ (k : Dialect). (EndsWithin fuel_before k before → EndsWithin fuel_after k after) × (EndsWithin fuel_after k after → EndsWithin fuel_before k before)) same
    (bounds_other block line (EndsWithin fuel_before d before) (EndsWithin fuel_after d after) other h)

pub passes_for : (d e : Dialect) (line : Line) (before after : List ℕ) → d ≡ e → Passes d line before after → Passes e line before after
passes_for d e line before after same h = subst (λ (k : Dialect). Passes k line before after) same h

-- a script has a command that is left
pub commands_some : (dialect : Dialect) (text : List ℕ) → commands_of dialect text ≢ []
commands_some dialect text = quit_some (filter_map (command_of_line dialect) (script_lines text))
  where
    quit_some : (commands : List Command) → through_quit commands ≢ []
    quit_some [] e = absurd (cc)
    quit_some (quit ∷ commands) e = absurd (cc)
    quit_some (command ∷ commands) e = absurd (cc)
