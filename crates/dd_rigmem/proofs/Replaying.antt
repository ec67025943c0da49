-- One device's part in a list of events is what the events make of it.
use Rattle.std.proofs.Common.{◌≡◌, ℕ, zero, suc, ◌-◌, ◌<◌, List, [], ◌∷◌, length, get_or, take, drop, Bool, true, false, if◌then◌else◌, refl, sym, ◌∙◌, ap, subst, arith}
use Rattle.dd_rig.specs.declared.device.Dev.{Dev}
use Rattle.dd_rig.specs.declared.device.Dev.TheVariants.{Flash, Disk}
use Rattle.dd_rig.specs.Device.{Device, overwrite, write_bytes, make_stable}
use Rattle.dd_rig.specs.World.{World, on_device}
use Rattle.dd_rigmem.specs.declared.event.Event.{Event}
use Rattle.dd_rigmem.specs.declared.event.Event.TheVariants.{Wrote, Synced, Emitted}
use Rattle.dd_rigmem.specs.Planned.{same_dev}
use Rattle.dd_rigmem.specs.History.{History, stable_device, start_of, after_event, after_events, world_of}
use Rattle.dd_rigmem.specs.Replay.{device_event, device_events, shown_event, shown_events, said_event, said_events, is_sync_of, is_synced_at}
use Rattle.dd_rigmem.proofs.Kept.{true_is_not_false}

-- the parts of a world
abbrev pub parts : Device → Device → List ℕ → World
parts flash disk said = record { flash = flash; disk = disk; said = said }

one_event : (event : Event) (world : World) → after_event event world ≡ parts (device_event Flash event world.flash) (device_event Disk event world.disk) (said_event event world.said)
one_event (Wrote w) world = elim w.dev as (λ d. on_device d (write_bytes w.at w.bytes) world ≡ parts (if same_dev d Flash then write_bytes w.at w.bytes world.flash else world.flash) (if same_dev d Disk then write_bytes w.at w.bytes world.disk else world.disk) world.said) [ Flash ↦ refl | Disk ↦ refl ]
one_event (Synced Flash) world = refl
one_event (Synced Disk) world = refl
one_event (Emitted e) world = refl

all_events : (events : List Event) (world : World) → after_events events world ≡ parts (device_events Flash events world.flash) (device_events Disk events world.disk) (said_events events world.said)
all_events [] world = refl
all_events (event ∷ events) world =
    all_events events (after_event event world)
    ∙ ap (λ (w : World). parts (device_events Flash events w.flash) (device_events Disk events w.disk) (said_events events w.said)) (one_event event world)

pub world_replayed : (history : History) → world_of history ≡ parts (device_events Flash history.events (stable_device history.start.flash)) (device_events Disk history.events (stable_device history.start.disk)) (said_events history.events [])
world_replayed history = all_events history.events (start_of history.start)

-- some events first, then the others
device_split : (dev : Dev) (n : ℕ) (events : List Event) (device : Device) → device_events dev (drop n events) (device_events dev (take n events) device) ≡ device_events dev events device
device_split dev zero events device = refl
device_split dev (suc n) [] device = refl
device_split dev (suc n) (event ∷ events) device = device_split dev n events (device_event dev event device)

event_shown : (dev : Dev) (event : Event) (device : Device) → (device_event dev event device).shown ≡ shown_event dev event device.shown
event_shown dev (Wrote w) device = elim (same_dev w.dev dev) as (λ b. (if b then write_bytes w.at w.bytes device else device).shown ≡ (if b then overwrite w.at w.bytes device.shown else device.shown)) [ true ↦ refl | false ↦ refl ]
event_shown dev (Synced other) device = elim (same_dev other dev) as (λ b. (if b then make_stable device else device).shown ≡ device.shown) [ true ↦ refl | false ↦ refl ]
event_shown dev (Emitted e) device = refl

-- a sync leaves what is shown, stable
sync_settles : (dev : Dev) (event : Event) (device : Device) → is_sync_of dev event ≡ true → device_event dev event device ≡ stable_device (shown_event dev event device.shown)
sync_settles dev (Wrote w) device is = absurd (true_is_not_false (sym is))
sync_settles dev (Synced other) device is = ap (λ (b : Bool). if b then make_stable device else device) is
sync_settles dev (Emitted e) device is = absurd (true_is_not_false (sym is))

settles : (dev : Dev) (place : ℕ) (events : List Event) (device : Device) → is_synced_at dev events place ≡ true → device_events dev (take (suc place) events) device ≡ stable_device (shown_events dev (take (suc place) events) device.shown)
settles dev place [] device is = absurd (true_is_not_false (sym is))
settles dev zero (event ∷ events) device is = sync_settles dev event device is
settles dev (suc place) (event ∷ events) device is =
    settles dev place events (device_event dev event device) is
    ∙ ap (λ (l : List ℕ). stable_device (shown_events dev (take (suc place) events) l)) (event_shown dev event device)

-- a device from its last sync on
pub replayed_from : (dev : Dev) (n : ℕ) (events : List Event) (start : List ℕ) → (0 < n → is_synced_at dev events (n - 1) ≡ true) → device_events dev (drop n events) (stable_device (shown_events dev (take n events) start)) ≡ device_events dev events (stable_device start)
replayed_from dev zero events start is = refl
replayed_from dev (suc place) events start is =
    let at_end : is_synced_at dev events place ≡ true = subst (λ (k : ℕ). is_synced_at dev events k ≡ true) (omega arith) (is (omega arith)) in
    ap (λ (d : Device). device_events dev (drop (suc place) events) d) (sym (settles dev place events (stable_device start) at_end)) ∙ device_split dev (suc place) events (stable_device start)

-- the event at a place, as it is read
pub synced_there : (dev : Dev) (events : List Event) (place : ℕ) (event : Event) → place < length events → event ≡ get_or events place event → is_sync_of dev event ≡ true → is_synced_at dev events place ≡ true
synced_there dev [] place event lt is sync = absurd (omega arith)
synced_there dev (e ∷ events) zero event lt is sync = ap (is_sync_of dev) (sym is) ∙ sync
synced_there dev (e ∷ events) (suc place) event lt is sync = synced_there dev events place event (omega arith) is sync
