use Rattle.std.proofs.Common.{◌≡◌, drop}
use Rattle.dd_rigmem.specs.Replay.{shown_events}
use Rattle.dd_rigmem.proofs.replay.replay_shown.Given as goal

abbrev pub invariant-loop-event : goal.invariant-loop-event
invariant-loop-event l = shown_events l.dev (drop l.event-index l.events) l.shown.items ≡ shown_events l.dev l.events l.start
