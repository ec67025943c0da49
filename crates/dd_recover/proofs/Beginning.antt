-- What stands for a state is what a run begins with.
use Rattle.std.proofs.Common.{◌≡◌, ◌+◌, ◌-◌, ◌*◌, ◌<◌, ◌≤◌, ◌^◌, ℕ, List, refl, sym, subst, arith}
use Rattle.dd_block.specs.declared.print.Fp.{Fp}
use Rattle.dd_rig.specs.World.{World, shown}
use Rattle.dd_rig.specs.declared.device.Dev.TheVariants.{Flash, Disk}
use Rattle.dd_record.specs.declared.rec.Rec.{Rec}
use Rattle.dd_record.specs.Replay.{count_after}
use Rattle.dd_model.specs.State.{State}
use Rattle.dd_journal.specs.Regions.{records_of}
use Rattle.dd_store.specs.Meaning.{Basis, Stands, dirty_rows}
use Rattle.dd_recover.specs.Beginning.{Begins, BeginsAt, GoesOnFrom}

-- records lower no count
counts_up : (count : ℕ) (recs : List Rec) (after : ℕ) → count_after count recs ≡ after → count ≤ after
counts_up count recs after is = omega (arith, is)

begins_here : (basis : Basis) (print : List ℕ → Fp) (world : World) (s : State) → Stands basis print (shown Flash world) (shown Disk world) s → 3 * s.count + basis.room < 2 ^ 62
    → (begins : Begins print world) × (begins.start ≡ s) × GoesOnFrom basis begins
begins_here basis print world s stands few =
    let least : ℕ = stands.says.reading.epoch + 2 * dirty_rows stands.table.a - 3 * stands.count in
    let ahead : least ≤ basis.room = omega (arith, stands.pace) in
    let count_is : s.count ≡ stands.count = stands.means.lists.counted in
    let counted = counts_up stands.says.reading.count (records_of stands.says.reading) stands.count stands.says.counted in (
      record { start = s; basis = basis; stands = stands; young = (omega (arith, stands.pace, few, count_is), omega (arith, counted, few, count_is)) },
      refl,
      record { room = ahead; flash = stands.behind.0; disk = stands.behind.1 },
    )

pub begins_at : (basis : Basis) (print : List ℕ → Fp) (s : State) (flash disk : List ℕ) → Stands basis print flash disk s → BeginsAt basis print s flash disk
begins_at basis print s flash disk stands = λ world flash_is disk_is few.
    begins_here basis print world s
    (subst (λ (f : List ℕ). Stands basis print f (shown Disk world) s) (sym flash_is) (subst (λ (d : List ℕ). Stands basis print flash d s) (sym disk_is) stands))
    few
