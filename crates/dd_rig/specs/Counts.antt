-- How many calls were made and failed. Each number stands at the last value of u64 once it is there.
use Rattle.std.specs.Prelude.{◌≡◌, ◌^◌, ◌<◌, ◌≤◌, ◌+◌, ◌-◌, ℕ, min, Result, Ok, Err}
use Rattle.dd_rig.specs.declared.device.Dev.{Dev}
use Rattle.dd_rig.specs.declared.tallies.Calls.{Calls}
use Rattle.dd_rig.specs.declared.tallies.Counts.{Counts}
use Rattle.dd_rig.specs.declared.device.Dev.TheVariants.{Flash, Disk}

-- a count that rises by n, up to its last value
abbrev pub plus : ℕ → ℕ → ℕ
plus count n = min (count + n) (2 ^ 64 - 1)

-- a count of failures after a call
abbrev pub plus_failure : {T E : Type 0} → Result T E → ℕ → ℕ
plus_failure (Ok _) count = count
plus_failure (Err _) count = plus count 1

abbrev pub calls_of : Dev → Counts → Calls
calls_of Flash counts = counts.flash
calls_of Disk counts = counts.disk

abbrev pub on_calls : Dev → (Calls → Calls) → Counts → Counts
on_calls Flash change counts = record counts { flash = change counts.flash }
on_calls Disk change counts = record counts { disk = change counts.disk }

abbrev pub after_read : {T E : Type 0} → Result T E → Calls → Calls
after_read result calls = record calls { reads = plus calls.reads 1; failed_reads = plus_failure result calls.failed_reads }

abbrev pub after_write : {T E : Type 0} → ℕ → Result T E → Calls → Calls
after_write size result calls =
    record calls { writes = plus calls.writes 1; written = plus calls.written size; failed_writes = plus_failure result calls.failed_writes }

abbrev pub after_sync : {T E : Type 0} → Result T E → Calls → Calls
after_sync result calls = record calls { writes = plus calls.writes 1; failed_writes = plus_failure result calls.failed_writes }

abbrev pub count_read : {T E : Type 0} → Dev → Result T E → Counts → Counts
count_read dev result counts = on_calls dev (after_read result) counts

abbrev pub count_write : {T E : Type 0} → Dev → ℕ → Result T E → Counts → Counts
count_write dev size result counts = on_calls dev (after_write size result) counts

abbrev pub count_sync : {T E : Type 0} → Dev → Result T E → Counts → Counts
count_sync dev result counts = on_calls dev (after_sync result) counts

abbrev pub count_emit : {T E : Type 0} → Result T E → Counts → Counts
count_emit result counts = record counts { failed_emits = plus_failure result counts.failed_emits }

abbrev pub no_calls : Calls
no_calls = record { reads = 0; writes = 0; written = 0; failed_reads = 0; failed_writes = 0 }

abbrev pub no_counts : Counts
no_counts = record { flash = no_calls; disk = no_calls; failed_emits = 0 }

-- a count rose, or it stands at its last value
abbrev pub Rose : ℕ → ℕ → Type 0
Rose before after = plus before 1 ≤ after

-- no count of a device falls
pub record NoneFalls (before after : Calls) : Type 0 where
  pub reads : before.reads ≤ after.reads
  pub writes : before.writes ≤ after.writes
  pub written : before.written ≤ after.written
  pub failed_reads : before.failed_reads ≤ after.failed_reads
  pub failed_writes : before.failed_writes ≤ after.failed_writes

-- no count falls
pub record NeverFalls (before after : Counts) : Type 0 where
  pub flash : NoneFalls before.flash after.flash
  pub disk : NoneFalls before.disk after.disk
  pub emits : before.failed_emits ≤ after.failed_emits

-- a count that neither rose nor stands at its last value
abbrev pub IsStill : ℕ → ℕ → Type 0
IsStill before after = (after ≡ before) × (after < 2 ^ 64 - 1)

-- no call failed
pub record IsQuiet (before after : Counts) : Type 0 where
  pub flash_reads : IsStill before.flash.failed_reads after.flash.failed_reads
  pub flash_writes : IsStill before.flash.failed_writes after.flash.failed_writes
  pub disk_reads : IsStill before.disk.failed_reads after.disk.failed_reads
  pub disk_writes : IsStill before.disk.failed_writes after.disk.failed_writes
  pub emits : IsStill before.failed_emits after.failed_emits

-- What every call keeps, and so every run of calls: no count falls, and each device has its size.
abbrev pub Frame : (before after : Counts) (sizes sizes_after : Dev → ℕ) → Type 0
Frame before after sizes sizes_after = NeverFalls before after × (sizes_after ≡ sizes)

-- how many calls of a device may be made: reads, writes and syncs together, and the bytes of the writes
pub record Quota : Type 0 where
  pub reads : ℕ
  pub writes : ℕ
  pub bytes : ℕ

-- so many reads, so many writes and syncs, and so many bytes
abbrev pub up_to : (reads writes bytes : ℕ) → Quota
up_to reads writes bytes = record { reads = reads; writes = writes; bytes = bytes }

-- no call at all
abbrev pub nothing : Quota
nothing = up_to 0 0 0

-- a device was called no more often than that
abbrev pub CalledAtMost : Quota → Calls → Calls → Type 0
CalledAtMost most before after =
    (after.reads ≤ before.reads + most.reads) × (after.writes ≤ before.writes + most.writes) × (after.written ≤ before.written + most.bytes)

-- no more calls were made than these, on the flash and on the disk
abbrev pub Makes : (flash disk : Quota) → Counts → Counts → Type 0
Makes flash disk before after = CalledAtMost flash before.flash after.flash × CalledAtMost disk before.disk after.disk
