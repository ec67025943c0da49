-- What the answers to `s` tell as long as both lists go together.
use Rattle.std.specs.Prelude.{◌≡◌, ◌⊎◌, ℕ, ◌&&◌, Bool, true, false, List, [], ◌∷◌, codes, ⊤}
use Rattle.dd_model.specs.Alignment.{is_rewrite}
use Rattle.dd_model.specs.State.{Sizes, State}
use Rattle.dd_script.specs.Answers.{answered_one, begins, is_answer}
use Rattle.dd_script.specs.Command.{Command, write, after_all}
use Rattle.dd_script.specs.Text.{stat_text}

-- an answered write that changes the content of a listed address
abbrev pub rewrites : State → Command → List ℕ → Bool
rewrites s (write address block) line = is_answer line && is_rewrite s address block
rewrites s command line = false

-- whether a line tells both counts of orphans
abbrev pub is_stat : List ℕ → Bool
is_stat line = begins line (codes "stat ")

-- one of them is 0
pub record TellsNone (line : List ℕ) : Type 0 where
  pub count : ℕ
  pub addresses : ℕ
  pub blocks : ℕ
  pub is : line ≡ stat_text count addresses blocks
  pub none : (addresses ≡ 0) ⊎ (blocks ≡ 0)

-- each line that tells both counts tells a 0, up to the first answered write that changes the content of a listed address
abbrev pub StatsTellNone : Sizes → State → List Command → List (List ℕ) → Type 0
StatsTellNone sizes s commands [] = ⊤
StatsTellNone sizes s [] (line ∷ lines) = ⊤
StatsTellNone sizes s (command ∷ commands) (line ∷ lines) =
    (is_stat line ≡ true → TellsNone line) × (rewrites s command line ≡ false → StatsTellNone sizes (after_all sizes s (answered_one command line)) commands lines)
