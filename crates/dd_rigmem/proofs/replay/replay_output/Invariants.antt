use Rattle.std.proofs.Common.{◌≡◌, [], drop}
use Rattle.dd_rigmem.specs.Replay.{said_events}
use Rattle.dd_rigmem.proofs.replay.replay_output.Given as goal

abbrev pub invariant-loop-event : goal.invariant-loop-event
invariant-loop-event l = said_events (drop l.event-index l.events) l.said.items ≡ said_events l.events []
