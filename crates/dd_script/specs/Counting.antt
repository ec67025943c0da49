-- What the lines of an output count: hits, loads, misses and updates, and how many addresses may be dirty behind them.
use Rattle.std.specs.Prelude.{ℕ, ◌-◌, ◌||◌, ◌&&◌, not, Bool, false, List, [], ◌∷◌, ◌++◌, take, codes, count_by, if◌then◌else◌}
use Rattle.std.specs.List.{list_all}
use Rattle.std.specs.Str.{bytes_eq}
use Rattle.dd_script.specs.Answers.{begins}
use Rattle.dd_script.specs.Text.{cleaned_text, ticked_text}

-- whether a line tells a hit of zeros: it begins with `hit 00`, and a space or its end stands behind
abbrev pub is_zeros_hit : List ℕ → Bool
is_zeros_hit line = bytes_eq (take 7 (line ++ codes " ")) (codes "hit 00 ")

-- whether it tells a hit of another block
abbrev pub is_hit : List ℕ → Bool
is_hit line = bytes_eq (take 4 line) (codes "hit ") && not (is_zeros_hit line)

-- whether it tells a read that asked the disk
abbrev pub is_load : List ℕ → Bool
is_load line = bytes_eq (take 5 line) (codes "join ") || bytes_eq (take 5 line) (codes "miss ")

abbrev pub is_miss : List ℕ → Bool
is_miss line = bytes_eq (take 5 line) (codes "miss ")

-- whether it tells a write
abbrev pub is_update : List ℕ → Bool
is_update line = bytes_eq (take 3 line) (codes "dup") || bytes_eq (take 3 line) (codes "new")

-- how many of these lines are hits whose text isn't 00
abbrev pub hits_in : List (List ℕ) → ℕ
hits_in lines = count_by is_hit lines

-- how many are joins and misses
abbrev pub loads_in : List (List ℕ) → ℕ
loads_in lines = count_by is_load lines

-- how many are misses
abbrev pub misses_in : List (List ℕ) → ℕ
misses_in lines = count_by is_miss lines

-- how many are dups and news
abbrev pub updates_in : List (List ℕ) → ℕ
updates_in lines = count_by is_update lines

-- whether the bytes of a word stand somewhere in a line
abbrev pub mentions : (word line : List ℕ) → Bool
mentions word [] = false
mentions word (b ∷ line) = begins (b ∷ line) word || mentions word line

-- whether a line tells of nothing that fell off, and of no write-back
abbrev pub is_calm : List ℕ → Bool
is_calm line = not (mentions (codes " out ") line || mentions (codes " drop ") line || bytes_eq line cleaned_text || bytes_eq line ticked_text)

abbrev pub all_calm : List (List ℕ) → Bool
all_calm lines = list_all is_calm lines

-- how many addresses may be dirty behind a line, where n may be in front of it and at most acap are listed: none behind `cleaned`,
-- one less behind `ticked`, and any behind a write
abbrev pub dirty_behind : (acap n : ℕ) → List ℕ → ℕ
dirty_behind acap n line = if is_update line then acap else (if bytes_eq line cleaned_text then 0 else (if bytes_eq line ticked_text then n - 1 else n))

-- and behind several
abbrev pub dirty_after : (acap n : ℕ) → List (List ℕ) → ℕ
dirty_after acap n [] = n
dirty_after acap n (line ∷ lines) = dirty_after acap (dirty_behind acap n line) lines
