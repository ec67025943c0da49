-- What the devices of a world have that its flash spells: there is one such basis.
use Rattle.std.proofs.Common.{drop, ◌≡◌, ◌+◌, ◌-◌, ◌*◌, ℕ, List, refl, sym, ◌∙◌, ap, subst, arith}
use Rattle.dd_block.specs.declared.print.Fp.{Fp}
use Rattle.dd_rig.specs.World.{World, shown}
use Rattle.dd_rig.specs.declared.device.Dev.TheVariants.{Flash, Disk}
use Rattle.dd_record.specs.Table.{Table}
use Rattle.dd_block.specs.declared.geometry.Geometry.{Geometry}
use Rattle.dd_journal.specs.Regions.{Says}
use Rattle.dd_store.specs.Meaning.{Basis, Stands, dirty_rows}
use Rattle.dd_store.proofs.Sole.{says_one, epoch_one}
use Rattle.dd_answers.specs.Answering.{IsBasisOf}
use Rattle.dd_recover.specs.Beginning.{Begins, basis_from}
use Rattle.dd_layout.specs.Layout.{disk_need, flash_need}

same_basis : (one another : Basis) → one.room ≡ another.room → one.flash ≡ another.flash → one.disk ≡ another.disk → one ≡ another
same_basis one another room flash disk = λ i. record { room = room i; flash = flash i; disk = disk i }

pub basis_one : (basis other : Basis) (world : World) → IsBasisOf basis world → IsBasisOf other world → basis ≡ other
basis_one basis other world m n =
    let flash : List ℕ = shown Flash world in
    let one = says_one flash 2 m.geo m.table m.count n.geo n.table n.count m.says n.says in
    let epoch = epoch_one flash 2 m.geo m.table m.count n.geo n.table n.count m.says n.says in
    same_basis basis other
    (m.room
    ∙ ap (λ (e : ℕ). e + 2 * dirty_rows m.table.a - 3 * m.count) epoch
    ∙ ap (λ (t : Table). n.says.reading.epoch + 2 * dirty_rows t.a - 3 * m.count) one.same_table
    ∙ ap (λ (c : ℕ). n.says.reading.epoch + 2 * dirty_rows n.table.a - 3 * c) one.same_count
    ∙ sym n.room)
    (sym m.behind.0 ∙ ap (λ (geo : Geometry). drop (flash_need geo) flash) one.same_geo ∙ n.behind.0)
    (sym m.behind.1 ∙ ap (λ (geo : Geometry). drop (disk_need geo) (shown Disk world)) one.same_geo ∙ n.behind.1)

-- devices stand for their state on what they have
abbrev pub based : {print : List ℕ → Fp} {world : World} (from : Begins print world) → Stands (basis_from from) print (shown Flash world) (shown Disk world) from.start
based from = record {
  geo = from.stands.geo;
  table = from.stands.table;
  count = from.stands.count;
  says = from.stands.says;
  pace = omega arith;
  disk_size = from.stands.disk_size;
  behind = (refl, refl);
  means = from.stands.means;
}

-- and that is what a world has that shows the same
pub basis_stays : {print : List ℕ → Fp} {world : World} (from : Begins print world) (opened : World) → shown Flash opened ≡ shown Flash world → shown Disk opened ≡ shown Disk world → IsBasisOf (basis_from from) opened
basis_stays {print} {world} from opened flash disk =
    let says_there : (says : Says (shown Flash opened) from.stands.geo 2 from.stands.table from.stands.count) × (says.reading.epoch ≡ from.stands.says.reading.epoch) =
    subst (λ (f : List ℕ). (says : Says f from.stands.geo 2 from.stands.table from.stands.count) × (says.reading.epoch ≡ from.stands.says.reading.epoch)) (sym flash) (from.stands.says, refl) in
    record {
      geo = from.stands.geo;
      table = from.stands.table;
      count = from.stands.count;
      says = says_there.0;
      room = ap (λ (e : ℕ). e + 2 * dirty_rows from.stands.table.a - 3 * from.stands.count) (sym says_there.1);
      behind = (ap (λ (f : List ℕ). drop (flash_need from.stands.geo) f) flash, ap (λ (d : List ℕ). drop (disk_need from.stands.geo) d) disk);
    }
