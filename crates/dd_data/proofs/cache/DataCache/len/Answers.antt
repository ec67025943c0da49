use Rattle.std.proofs.Common.{subst}
use Rattle.dd_data.specs.Blocks.{Data, IsData}
use Rattle.dd_data.proofs.Shown.{data_is}
use Rattle.dd_data.proofs.cache.DataCache.len.Goals as goal

pub returns-clause-kept : goal.returns-clause-kept
returns-clause-kept c = subst (λ (d : Data). IsData d) c.self.view_is (data_is c.self.invariant)
