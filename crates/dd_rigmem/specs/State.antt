-- What each call of a rig in memory answers and does.
use Rattle.std.specs.Prelude.{◌≡◌, ◌≢◌, ◌↔◌, ℕ, List, [], Some, false, Bool, Result, IsOk, IsErr}
use Rattle.dd_rig.specs.declared.device.Dev.{Dev}
use Rattle.dd_rig.specs.declared.device.Failed.{Failed}
use Rattle.dd_rig.specs.Counts.{plus}
use Rattle.dd_rig.specs.World.{World}
use Rattle.dd_rigmem.specs.declared.plan.Call.{Call}
use Rattle.dd_rigmem.specs.declared.plan.Call.TheVariants.{Write, Sync, Emit}
use Rattle.dd_rigmem.specs.declared.plan.Fail.{Fail}
use Rattle.dd_rigmem.specs.declared.plan.Fate.TheVariants.{Goes, IsLate}
use Rattle.dd_rigmem.specs.declared.rig_mem.RigMem.{RigMem}
use Rattle.dd_rigmem.specs.Bytes.{Bytes}
use Rattle.dd_rigmem.specs.Planned.{Schedule, schedule_of, fate_of, plan_after}
use Rattle.dd_rigmem.specs.History.{History, world_of, start_of, unfinished_of}
use Rattle.dd_rigmem.specs.Effects.{written_by, synced_by, said_by, unfinished_by, cut_by}

-- what a rig in memory began with, and what was done since
abbrev pub history_of : RigMem → History
history_of rig = rig.past

-- what a rig in memory tells
pub record State : Type 0 where
  pub plan : Schedule
  pub world : World
  -- the piece of the emit at which the machine stopped
  pub unfinished : List ℕ
  -- whether it stopped within an emit
  pub cut : Bool
  -- the calls that found no room
  pub starved : ℕ

abbrev pub state_of : RigMem → State
state_of rig = record { plan = rig.plan; world = world_of rig.past; unfinished = unfinished_of rig.emitting rig.past.events; cut = rig.emitting; starved = rig.starved }

-- both devices are stable with these bytes, and nothing was done
abbrev pub new_state : Bytes → List Fail → State
new_state start fails = record { plan = schedule_of fails; world = start_of start; unfinished = []; cut = false; starved = 0 }

-- the machine will stop at that call
abbrev pub stopping_at : ℕ → State → State
stopping_at call rig = record rig { plan = record rig.plan { stop = Some call } }

-- a call that changes nothing is still counted
abbrev pub after_call : Call → State → State
after_call call rig = record rig { plan = plan_after call rig.plan }

abbrev pub after_write : Dev → ℕ → List ℕ → State → State
after_write dev at bytes rig = record rig {
  plan = plan_after (Write dev) rig.plan;
  world = written_by (fate_of (Write dev) rig.plan) dev at bytes rig.world;
}

abbrev pub after_sync : Dev → State → State
after_sync dev rig = record rig {
  plan = plan_after (Sync dev) rig.plan;
  world = synced_by (fate_of (Sync dev) rig.plan) dev rig.world;
}

abbrev pub after_emit : List ℕ → State → State
after_emit piece rig = record rig {
  plan = plan_after Emit rig.plan;
  world = said_by (fate_of Emit rig.plan) piece rig.world;
  unfinished = unfinished_by (fate_of Emit rig.plan) piece rig.unfinished;
  cut = cut_by (fate_of Emit rig.plan) rig.cut;
}

-- A call that found no room was not late. It failed, is counted, and changed nothing.
pub record Starves (call : Call) (result : Result Unit Failed) (old new : State) : Type 0 where
  pub early : fate_of call old.plan ≢ IsLate
  pub failed : IsErr result
  pub state : new ≡ record old { plan = plan_after call old.plan; starved = plus old.starved 1 }

-- A call goes exactly where its fate lets it, and does what its fate says.
pub record Follows (call : Call) (result : Result Unit Failed) (change : State → State) (old new : State) : Type 0 where
  pub answer : IsOk result ↔ (fate_of call old.plan ≡ Goes)
  pub state : new ≡ change old
