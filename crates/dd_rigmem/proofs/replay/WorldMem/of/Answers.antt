use Rattle.std.proofs.Common.{◌∙◌, [], List, ℕ, sym, ap}
use Rattle.dd_rig.specs.declared.device.Dev.TheVariants.{Flash, Disk}
use Rattle.dd_rig.specs.Device.{Device}
use Rattle.dd_rigmem.specs.declared.event.Event.{Event}
use Rattle.dd_rigmem.specs.History.{stable_device}
use Rattle.dd_rigmem.specs.Replay.{device_events, said_events}
use Rattle.dd_rigmem.proofs.Replaying.{world_replayed, parts}
use Rattle.dd_rigmem.proofs.replay.WorldMem.of.Goals as goal

pub returns : goal.returns
returns c =
    let history = c.args.past.now in
    let events = c.events-events.ensures in
    let flash = c.in_ok-flash.ensures ∙ ap (λ (l : List Event). device_events Flash l (stable_device c.start.result.now)) events ∙ ap (λ (l : List ℕ). device_events Flash history.events (stable_device l)) c.start.ensures in
    let disk = c.in_ok-disk.ensures ∙ ap (λ (l : List Event). device_events Disk l (stable_device c.start-2.result.now)) events ∙ ap (λ (l : List ℕ). device_events Disk history.events (stable_device l)) c.start-2.ensures in
    let said = c.in_ok-said.ensures ∙ ap (λ (l : List Event). said_events l []) events in
    ap (λ (d : Device). parts d c.in_ok-disk.disk c.in_ok-said.said.items) flash
    ∙ ap (λ (d : Device). parts (device_events Flash history.events (stable_device history.start.flash)) d c.in_ok-said.said.items) disk
    ∙ ap (λ (l : List ℕ). parts (device_events Flash history.events (stable_device history.start.flash)) (device_events Disk history.events (stable_device history.start.disk)) l) said
    ∙ sym (world_replayed history)
