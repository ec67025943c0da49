-- Counts along a run of calls.
use Rattle.std.proofs.Common.{◌≤◌, ◌+◌, ℕ, ◌∙◌, refl, arith}
use Rattle.dd_rig.specs.declared.device.Dev.{Dev}
use Rattle.dd_rig.specs.declared.tallies.Calls.{Calls}
use Rattle.dd_rig.specs.declared.tallies.Counts.{Counts}
use Rattle.dd_rig.specs.Counts.{NoneFalls, NeverFalls, Frame, Quota, up_to, nothing, Makes, Rose}

pub none_self : (a : Calls) → NoneFalls a a
none_self a = record { reads = omega arith; writes = omega arith; written = omega arith; failed_reads = omega arith; failed_writes = omega arith }

pub none_trans : (a b c : Calls) → NoneFalls a b → NoneFalls b c → NoneFalls a c
none_trans a b c h k = record {
  reads = omega (arith, h.reads, k.reads);
  writes = omega (arith, h.writes, k.writes);
  written = omega (arith, h.written, k.written);
  failed_reads = omega (arith, h.failed_reads, k.failed_reads);
  failed_writes = omega (arith, h.failed_writes, k.failed_writes);
}

-- before the first call
pub falls_self : (a : Counts) → NeverFalls a a
falls_self a = record { flash = none_self a.flash; disk = none_self a.disk; emits = omega arith }

-- one call after another
pub falls_trans : (a b c : Counts) → NeverFalls a b → NeverFalls b c → NeverFalls a c
falls_trans a b c h k = record {
  flash = none_trans a.flash b.flash c.flash h.flash k.flash;
  disk = none_trans a.disk b.disk c.disk h.disk k.disk;
  emits = omega (arith, h.emits, k.emits);
}

pub frame_self : (a : Counts) (sizes : Dev → ℕ) → Frame a a sizes sizes
frame_self a sizes = (falls_self a, refl)

pub frame_trans : (a b c : Counts) (first second third : Dev → ℕ) → Frame a b first second → Frame b c second third → Frame a c first third
frame_trans a b c first second third h k = (falls_trans a b c h.0 k.0, k.1 ∙ h.1)

-- no call is made before the first
pub makes_none : (a : Counts) → Makes nothing nothing a a
makes_none a = ((omega arith, omega arith, omega arith), (omega arith, omega arith, omega arith))

-- the calls of one part of a run, and those of the next
pub makes_both : (flash disk more_flash more_disk : Quota) (a b c : Counts) → Makes flash disk a b → Makes more_flash more_disk b c
    → Makes (up_to (flash.reads + more_flash.reads) (flash.writes + more_flash.writes) (flash.bytes + more_flash.bytes)) (up_to (disk.reads + more_disk.reads) (disk.writes + more_disk.writes) (disk.bytes + more_disk.bytes)) a c
makes_both flash disk more_flash more_disk a b c h k = (
  (omega (arith, h.0.0, k.0.0), omega (arith, h.0.1, k.0.1), omega (arith, h.0.2, k.0.2)),
  (omega (arith, h.1.0, k.1.0), omega (arith, h.1.1, k.1.1), omega (arith, h.1.2, k.1.2)),
)

-- a count that rose has risen at each later moment
pub rose_later : (first second third : ℕ) → Rose first second → second ≤ third → Rose first third
rose_later first second third rose le = omega (arith, rose, le)

pub ruleset frame_steps = (none_self, falls_self, falls_trans, frame_self, frame_trans)
