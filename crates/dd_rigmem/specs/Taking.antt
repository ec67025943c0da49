-- What a source in memory tells, and what a take of it does.
use Rattle.std.specs.Prelude.{ℕ, List, length, min, drop}
use Rattle.dd_rig.specs.Counts.{plus}

pub record Taking : Type 0 where
  -- the bytes that are not yet taken
  pub rest : List ℕ
  -- how many a take gives at most
  pub piece : ℕ
  -- the takes that fail, by their numbers from 1
  pub fails : List ℕ
  pub takes : ℕ
  pub failures : ℕ

-- before the first take
abbrev pub new_taking : List ℕ → ℕ → List ℕ → Taking
new_taking bytes piece fails = record { rest = bytes; piece = piece; fails = fails; takes = 0; failures = 0 }

-- how many bytes a take gives where it has room for so many: as many as there are, up to a piece
abbrev pub given : ℕ → Taking → ℕ
given room source = min (min room source.piece) (length source.rest)

-- a take of so many bytes
abbrev pub took : ℕ → Taking → Taking
took count source = record source { rest = drop count source.rest; takes = plus source.takes 1 }

-- a take that fails takes nothing
abbrev pub took_none : Taking → Taking
took_none source = record source { takes = plus source.takes 1; failures = plus source.failures 1 }
