-- What a format writes, and what a crash within it leaves of the flash. These are contracts of private functions: what is
-- to be believed of a format stands in Formatting.
use Rattle.std.specs.Prelude.{◌⊎◌, ℕ, List, [], ◌∷◌, drop}
use Rattle.dd_block.specs.declared.geometry.Geometry.{Geometry}
use Rattle.dd_rig.specs.declared.device.Dev.TheVariants.{Flash, Disk}
use Rattle.dd_rig.specs.declared.tallies.Counts.{Counts}
use Rattle.dd_rig.specs.Counts.{Rose}
use Rattle.dd_rig.specs.Device.{write_bytes, make_stable}
use Rattle.dd_rig.specs.World.{World, Outcome, on_device, WithinWrite}
use Rattle.dd_layout.specs.Layout.{region_at}
use Rattle.dd_layout.specs.Super.{super_text}
use Rattle.dd_journal.specs.Gates.{open_over, WithinPublish}
use Rattle.dd_journal.specs.Sitting.{regions_size}
use Rattle.dd_recover.specs.Formatting.{first_text}
use Rattle.dd_recover.specs.declared.fault.FormatFault.{FormatFault}
use Rattle.dd_recover.specs.declared.fault.FormatFault.TheVariants.{FlashWrite, DiskWrite}

-- the superblock behind its gate
unfoldable pub super_body : Geometry → List ℕ
super_body geo = drop 1 (super_text geo)

-- both devices are synced, the flash first
abbrev pub settled : World → World
settled world = on_device Disk make_stable (on_device Flash make_stable world)

-- region 1 is closed, and the first text is written into region 0
abbrev pub with_regions : Geometry → World → World
with_regions geo world = on_device Flash (write_bytes (region_at geo 0) first_text) (on_device Flash (write_bytes (region_at geo 1) (0 ∷ [])) world)

-- the regions are written, and the superblock is published over them
abbrev pub formatted_world : Geometry → World → World
formatted_world geo world = open_over 0 (super_body geo) (with_regions geo world)

-- what a crash leaves while the regions are written, or while the superblock is published
abbrev pub WithinFormat : Geometry → World → Outcome → Type 0
WithinFormat geo world outcome = WithinWrite Flash (region_at geo 0) (regions_size geo) world outcome ⊎ WithinPublish 0 (super_body geo) (with_regions geo world) outcome

-- the count that says which sync failed
abbrev pub Unsynced : FormatFault → Counts → Counts → Type 0
Unsynced FlashWrite before after = Rose before.flash.failed_writes after.flash.failed_writes
Unsynced DiskWrite before after = Rose before.disk.failed_writes after.disk.failed_writes
Unsynced other before after = ⊥
