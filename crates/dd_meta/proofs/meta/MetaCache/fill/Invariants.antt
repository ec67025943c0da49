use Rattle.std.proofs.Common.{◌≡◌, drop}
use Rattle.dd_meta.specs.Entries.{rows_of}
use Rattle.dd_meta.specs.Keeping.{IsMeta}
use Rattle.dd_meta.specs.Walks.{dirty_of_rows}
use Rattle.dd_meta.proofs.meta.MetaCache.fill.Given as goal

abbrev pub invariant-loop-at : goal.invariant-loop-at
invariant-loop-at l =
    (rows_of l.self ≡ drop l.at l.rows) × (l.self.dirty ≡ dirty_of_rows (drop l.at l.rows))
    × (l.self.acap ≡ l.fn.self.acap) × (l.self.slots ≡ l.fn.self.slots) × IsMeta l.self
