-- What stays as it is while a cache answers.
use Rattle.std.specs.Prelude.{ℕ, Bool, List}
use Rattle.dd_block.specs.declared.print.Fp.{Fp}
use Rattle.dd_model.specs.State.{Sizes, State}
use Rattle.dd_script.specs.Command.{lists}
use Rattle.dd_script.specs.Output.{reply_line}
use Rattle.dd_script.specs.declared.dialect.Dialect.{Dialect}

-- the fingerprint of a block, the sizes, and whether the lines only read
pub record Terms : Type 0 where
  pub print : List ℕ → Fp
  pub sizes : Sizes
  pub reads_only : Bool

-- the line that tells both lists
abbrev pub lists_line : Terms → State → List ℕ
lists_line terms s = reply_line terms.print terms.sizes s lists

-- what the lines may say
abbrev pub dialect_in : Terms → Dialect
dialect_in terms = record { reads_only = terms.reads_only; blocks = terms.sizes.blocks; block = terms.sizes.block }
