use Rattle.std.proofs.Common.{subst}
use Rattle.dd_meta.specs.Entries.{Meta}
use Rattle.dd_meta.specs.Keeping.{IsMeta}
use Rattle.dd_meta.proofs.Facts.{meta_kept}
use Rattle.dd_meta.proofs.meta.MetaCache.len.Goals as goal

pub returns-clause-keeps : goal.returns-clause-keeps
returns-clause-keeps c = subst (λ (m : Meta). IsMeta m) c.self.view_is (meta_kept c.self.invariant)
