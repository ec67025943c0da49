-- One device's part in a list of events, and that of the output.
use Rattle.std.specs.Prelude.{ℕ, zero, suc, List, [], ◌∷◌, ◌++◌, take, Bool, false, if◌then◌else◌}
use Rattle.dd_rig.specs.declared.device.Dev.{Dev}
use Rattle.dd_rig.specs.Device.{Device, overwrite, write_bytes, make_stable}
use Rattle.dd_rigmem.specs.declared.event.Event.{Event}
use Rattle.dd_rigmem.specs.declared.event.Event.TheVariants.{Wrote, Synced, Emitted}
use Rattle.dd_rigmem.specs.Planned.{same_dev}

abbrev pub device_event : Dev → Event → Device → Device
device_event dev (Wrote w) device = if same_dev w.dev dev then write_bytes w.at w.bytes device else device
device_event dev (Synced other) device = if same_dev other dev then make_stable device else device
device_event dev (Emitted e) device = device

-- a device after a list of events
abbrev pub device_events : Dev → List Event → Device → Device
device_events dev [] device = device
device_events dev (event ∷ events) device = device_events dev events (device_event dev event device)

abbrev pub shown_event : Dev → Event → List ℕ → List ℕ
shown_event dev (Wrote w) shown = if same_dev w.dev dev then overwrite w.at w.bytes shown else shown
shown_event dev (Synced other) shown = shown
shown_event dev (Emitted e) shown = shown

-- what it shows then
abbrev pub shown_events : Dev → List Event → List ℕ → List ℕ
shown_events dev [] shown = shown
shown_events dev (event ∷ events) shown = shown_events dev events (shown_event dev event shown)

abbrev pub said_event : Event → List ℕ → List ℕ
said_event (Wrote w) said = said
said_event (Synced dev) said = said
said_event (Emitted e) said = said ++ take e.count e.piece

-- the output after a list of events
abbrev pub said_events : List Event → List ℕ → List ℕ
said_events [] said = said
said_events (event ∷ events) said = said_events events (said_event event said)

abbrev pub is_sync_of : Dev → Event → Bool
is_sync_of dev (Wrote w) = false
is_sync_of dev (Synced other) = same_dev other dev
is_sync_of dev (Emitted e) = false

-- the event at a place is a sync of that device
abbrev pub is_synced_at : Dev → List Event → ℕ → Bool
is_synced_at dev [] place = false
is_synced_at dev (event ∷ events) zero = is_sync_of dev event
is_synced_at dev (event ∷ events) (suc place) = is_synced_at dev events place
