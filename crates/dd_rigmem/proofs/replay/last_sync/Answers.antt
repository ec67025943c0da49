use Rattle.std.proofs.Common.{◌∙◌, ◌-◌, sym, arith}
use Rattle.dd_rigmem.proofs.Replaying.{synced_there}
use Rattle.dd_rigmem.proofs.replay.last_sync.Goals as goal

pub returns-then-is_sync-clause-sync : goal.returns-then-is_sync-clause-sync
returns-then-is_sync-clause-sync c = λ some.
    synced_there c.args.dev c.args.events.now (c.loop-end.end - 1) c.index-events-end.result (omega (arith, some, c.loop-end.invariant)) c.index-events-end.is (sym c.is_sync.ensures ∙ c.if-is_sync.true)
