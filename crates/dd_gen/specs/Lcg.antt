-- The number step.
use Rattle.std.specs.Prelude.{ℕ, ◌+◌, ◌*◌, ◌/◌, ◌%◌, ◌^◌}

-- the state after a step
abbrev pub next_state : ℕ → ℕ
next_state x = (6364136223846793005 * x + 1442695040888963407) % 2 ^ 64

-- what the step draws: the high 32 bits of the state after it
abbrev pub draw : ℕ → ℕ
draw x = next_state x / 2 ^ 32
