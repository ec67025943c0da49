use Rattle.std.proofs.Common.{◌∙◌, ap, drop}
use Rattle.dd_rigmem.specs.History.{stable_device}
use Rattle.dd_rigmem.specs.Replay.{device_events}
use Rattle.dd_rigmem.proofs.Replaying.{replayed_from}
use Rattle.dd_rigmem.proofs.replay.replay_device.Goals as goal

pub loop-event-init : goal.loop-event-init
loop-event-init c =
    let events = c.args.events.now in
    let settled = c.last_sync-settled.result in
    ap (device_events c.args.dev (drop settled events)) (c.in_ok-device.ensures ∙ ap stable_device (c.deref.ensures.value ∙ c.in_ok-bytes.ensures))
    ∙ replayed_from c.args.dev settled events c.args.start.now c.last_sync-settled.ensures.sync
