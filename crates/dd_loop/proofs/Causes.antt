-- Counts of failures over several calls.
use Rattle.std.proofs.Common.{ℕ, ◌≤◌, arith}
use Rattle.dd_rig.specs.declared.device.Dev.{Dev}
use Rattle.dd_rig.specs.declared.tallies.Counts.{Counts}
use Rattle.dd_rig.specs.Counts.{Rose, NeverFalls}
use Rattle.dd_rig.proofs.Falling.{falls_self, falls_trans, frame_self, frame_trans}
use Rattle.dd_script.specs.declared.reply.Stop.TheVariants as stop
use Rattle.dd_loop.specs.declared.halt.Halt.{Halt}
use Rattle.dd_loop.specs.declared.halt.Halt.TheVariants.{Stopped, Output}
use Rattle.dd_loop.specs.Halting.{Halts, HaltsByDevice}

rose_later : (a b c : ℕ) → a ≤ b → Rose b c → Rose a c
rose_later a b c h r = omega (arith, h, r)

pub halts_later : (Stops : Dev → Type 0) (failed long : Type 0) (halt : Halt) (a b c : Counts) → NeverFalls a b → Halts Stops failed long halt b c → Halts Stops failed long halt a c
halts_later Stops failed long Output a b c h r = rose_later _ _ _ h.emits r
halts_later Stops failed long (Stopped stop.Flash) a b c h r = (r.0, rose_later _ _ _ h.flash.failed_writes r.1)
halts_later Stops failed long (Stopped stop.Disk) a b c h r = (r.0, rose_later _ _ _ h.disk.failed_writes r.1)
halts_later Stops failed long (Stopped stop.Script) a b c h r = r
halts_later Stops failed long (Stopped stop.Length) a b c h r = r
halts_later Stops failed long (Stopped stop.Memory) a b c h r = r

-- a halt by a device is one of the run
pub halts_device : (Stops : Dev → Type 0) (halt : Halt) (a b : Counts) → HaltsByDevice Stops halt a b → Halts Stops ⊥ ⊥ halt a b
halts_device Stops Output a b h = absurd h
halts_device Stops (Stopped stop.Flash) a b h = h
halts_device Stops (Stopped stop.Disk) a b h = h
halts_device Stops (Stopped stop.Script) a b h = absurd h
halts_device Stops (Stopped stop.Length) a b h = absurd h
halts_device Stops (Stopped stop.Memory) a b h = absurd h

pub ruleset cause_steps = (frame_self, frame_trans, falls_self, falls_trans, halts_later, halts_device)

-- a weaker cause
pub halts_by : (Stops : Dev → Type 0) (failed long some more : Type 0) → (failed → some) → (long → more) → (halt : Halt) (a b : Counts) → Halts Stops failed long halt a b → Halts Stops some more halt a b
halts_by Stops failed long some more v w Output a b h = h
halts_by Stops failed long some more v w (Stopped stop.Flash) a b h = h
halts_by Stops failed long some more v w (Stopped stop.Disk) a b h = h
halts_by Stops failed long some more v w (Stopped stop.Script) a b h = v h
halts_by Stops failed long some more v w (Stopped stop.Length) a b h = w h
halts_by Stops failed long some more v w (Stopped stop.Memory) a b h = h
