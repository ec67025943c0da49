use Rattle.std.proofs.Common.{rules}
use Rattle.std.proofs.lemmas.Slice.{overwrites}
use Rattle.dd_block.proofs.field.put_u32.Goals as goal

pub returns-clause-spelled : goal.returns-clause-spelled
returns-clause-spelled c = search (rules, overwrites)

pub returns-clause-behind : goal.returns-clause-behind
returns-clause-behind c = search (rules, overwrites)
