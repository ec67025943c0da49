use Rattle.std.proofs.Common.{◌≡◌, drop}
use Rattle.dd_rigmem.specs.History.{stable_device}
use Rattle.dd_rigmem.specs.Replay.{device_events}
use Rattle.dd_rigmem.proofs.replay.replay_device.Given as goal

abbrev pub invariant-loop-event : goal.invariant-loop-event
invariant-loop-event l = device_events l.dev (drop l.event-index (drop l.settled l.events)) l.device ≡ device_events l.dev l.events (stable_device l.start)
