-- What a commit leaves of the journal, why it fails, and what it costs.
use Rattle.std.specs.Prelude.{◌≡◌, ◌⊎◌, ◌<◌, ◌≤◌, ◌+◌, ◌*◌, ℕ, false, Result, IsTrue, OnOk, OnErr}
use Rattle.dd_rig.specs.declared.device.Dev.{Dev}
use Rattle.dd_rig.specs.declared.tallies.Counts.{Counts}
use Rattle.dd_rig.specs.Counts.{Frame, Makes, Rose, up_to, nothing}
use Rattle.dd_record.specs.Table.{Table}
use Rattle.dd_journal.specs.Regions.{snapshot_size}
use Rattle.dd_journal.specs.Sitting.{JournalView, LeavesRoom}

-- Behind an Ok it is up, has committed that count, and has the room that so many records leave; behind a failure it is down, and else as
-- it was. Its epoch is the same or one greater.
pub record Commits {T E : Type 0} (result : Result T E) (count records : ℕ) (old new : JournalView) : Type 0 where
  pub ok : OnOk result (IsTrue new.is_up × (new.committed ≡ count))
  pub room : OnOk result (0 < records → LeavesRoom records old new)
  pub down : OnErr result (new ≡ record old { is_up = false })
  pub epoch : (new.epoch ≡ old.epoch) ⊎ (new.epoch ≡ old.epoch + 1)
  pub geometry : new.geo ≡ old.geo
  pub version : new.version ≡ old.version

-- it fails where a write or a sync of the flash failed; no count falls, and each device has its size
pub record FailsByFlash {T E : Type 0} (result : Result T E) (before after : Counts) (size size_after : Dev → ℕ) : Type 0 where
  pub cause : OnErr result (Rose before.flash.failed_writes after.flash.failed_writes)
  pub frame : Frame before after size size_after

-- it costs a group of so many records where they have room, else a snapshot of the rows; and the disk isn't called
pub record CostsOfCommit (old : JournalView) (records : ℕ) (rows : Table) (before after : Counts) : Type 0 where
  pub group : 48 * records + 6 ≤ old.room → Makes (up_to 0 4 (48 * records + 6)) nothing before after
  pub snapshot : old.room < 48 * records + 6 → Makes (up_to 0 6 (3 + snapshot_size rows)) nothing before after
  pub disk : after.disk ≡ before.disk
