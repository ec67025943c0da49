-- Which outcome of a crash a number picks.
use Rattle.std.specs.Prelude.{◌+◌, ◌-◌, ◌/◌, ◌%◌, ℕ, Bool, ◌==◌, ◌&&◌, nat_le, nat_lt, if◌then◌else◌, List, [], ◌∷◌, ◌++◌, length, take}
use Rattle.dd_rig.specs.World.{World, Outcome}
use Rattle.std.specs.List.{list_any}
use Rattle.dd_block.specs.Lcg.{next_state, draw}

-- a range has this place
abbrev pub is_in : ℕ × ℕ → ℕ → Bool
is_in range place = nat_le range.0 place && nat_lt (place - range.0) range.1

-- one of the ranges has it
abbrev pub is_free : List (ℕ × ℕ) → ℕ → Bool
is_free ranges place = list_any (λ range. is_in range place) ranges

-- A free byte: the stable one, the shown one, 1, or one of three by a draw.
abbrev pub picked_byte : ℕ → ℕ → ℕ → ℕ → ℕ
picked_byte pick h stable shown =
    if pick == 0 then stable else
    if pick == 1 then shown else
    if pick == 2 then 1 else
    if h % 3 == 0 then stable else
    if h % 3 == 1 then shown else
    (h / 4) % 256

-- one byte, where the generator stands at x: a free one takes a draw
abbrev pub next_byte : ℕ → List (ℕ × ℕ) → ℕ → ℕ → ℕ → ℕ → ℕ
next_byte pick ranges place x stable shown = if is_free ranges place then picked_byte pick (draw x) stable shown else stable

abbrev pub next_number : List (ℕ × ℕ) → ℕ → ℕ → ℕ
next_number ranges place x = if is_free ranges place then next_state x else x

-- the bytes from a place on
abbrev pub picked_bytes : ℕ → List (ℕ × ℕ) → ℕ → ℕ → List ℕ → List ℕ → List ℕ
picked_bytes pick ranges place x [] shown = []
picked_bytes pick ranges place x (s ∷ stable) [] = []
picked_bytes pick ranges place x (s ∷ stable) (v ∷ shown) =
    next_byte pick ranges place x s v ∷ picked_bytes pick ranges (place + 1) (next_number ranges place x) stable shown

-- where the generator stands after them
abbrev pub picked_rest : List (ℕ × ℕ) → ℕ → ℕ → List ℕ → ℕ
picked_rest ranges place x [] = x
picked_rest ranges place x (s ∷ stable) = picked_rest ranges (place + 1) (next_number ranges place x) stable

-- how many bytes of an unfinished piece came out
abbrev pub picked_count : ℕ → ℕ → ℕ → ℕ
picked_count pick h size =
    if pick == 0 then 0 else
    if pick == 1 then size else
    if pick == 2 then size / 2 else
    h % (size + 1)

abbrev pub picked_output : ℕ → ℕ → List ℕ → List ℕ → List ℕ
picked_output pick x said unfinished = said ++ take (picked_count pick (draw x) (length unfinished)) unfinished

-- the outcome that a number picks of a world with an unfinished piece
abbrev pub picked : ℕ → World → List ℕ → Outcome
picked pick world unfinished =
    let after_flash = picked_rest world.flash.ranges 0 pick world.flash.stable in
    let after_disk = picked_rest world.disk.ranges 0 after_flash world.disk.stable in
    record {
      flash = picked_bytes pick world.flash.ranges 0 pick world.flash.stable world.flash.shown;
      disk = picked_bytes pick world.disk.ranges 0 after_flash world.disk.stable world.disk.shown;
      out = picked_output pick after_disk world.said unfinished;
    }
