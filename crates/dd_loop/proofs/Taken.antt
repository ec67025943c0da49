-- How much of a script is taken.
use Rattle.std.proofs.Common.{◌≡◌, ℕ, ◌+◌, ◌-◌, ◌≤◌, List, length, Bool, true, false, arith, subst, length-append}
use Rattle.std.specs.Prelude.{if◌then◌else◌, ◌++◌, []}
use Rattle.dd_script.specs.declared.dialect.Dialect.{Dialect}
use Rattle.dd_script.specs.declared.line.Line.{Line}
use Rattle.dd_script.specs.Line.{told}
use Rattle.dd_script.specs.Reading.{Held, left, piece_size, quits, Passes, IsTakenTo}
use Rattle.dd_script.specs.Script.{EndsWithin}

-- a script that ends within its first n bytes has come to lines that end within as many less as were read
abbrev pub GoesThrough : Dialect → List ℕ → List ℕ → Type 0
GoesThrough dialect first now = (n : ℕ) → EndsWithin n dialect first → (length first ≤ n + length now) × EndsWithin (n + length now - length first) dialect now

pub goes_first : (dialect : Dialect) (first : List ℕ) → GoesThrough dialect first first
goes_first dialect first = λ n within. (omega arith, subst (λ m. EndsWithin m dialect first) (omega arith) within)

pub goes_on : (dialect : Dialect) (line : Line) (first now next : List ℕ) → GoesThrough dialect first now → Passes dialect line now next → quits (told [] line) ≡ false → GoesThrough dialect first next
goes_on dialect line first now next so_far passes other = λ n within.
    let here = so_far n within in
    let next_here = passes (n + length now - length first) here.1 in
    let same : (n + length now - length first) + length next - length now ≡ n + length next - length first = omega (arith, here.0, next_here.0) in
    (omega (arith, here.0, next_here.0), subst (λ m. EndsWithin m dialect next) same (next_here.1 other))

held_more : (held : Held) (rest : List ℕ) → length (left held rest) ≤ length held.bytes + length rest
held_more held rest = more held.ended
  where
    more : (b : Bool) → length (held.bytes ++ (if b then [] else rest)) ≤ length held.bytes + length rest
    more true = omega (arith, length-append held.bytes [])
    more false = omega (arith, length-append held.bytes rest)

-- behind the last line no more than one piece is taken
pub taken_to : (dialect : Dialect) (line : Line) (first now rest : List ℕ) (held : Held) → GoesThrough dialect first now → Passes dialect line now (left held rest) → length held.bytes ≤ piece_size → IsTakenTo dialect first rest
taken_to dialect line first now rest held so_far passes piece = λ n within.
    let here = so_far n within in
    let last = passes (n + length now - length first) here.1 in
    omega (arith, here.0, last.0, held_more held rest, piece)
