-- What the devices are sure of: the committed rows mean the committed state, and no crash changes what they use.
use Rattle.std.proofs.Common.{◌≡◌, inl, ℕ, ◌+◌, ◌*◌, ◌<◌, ◌≤◌, true, false, List, length, drop, sym, ◌∙◌, ap, subst, arith, Some}
use Rattle.std.specs.Prelude.{IsTrue}
use Rattle.dd_block.specs.declared.print.Fp.{Fp}
use Rattle.dd_block.specs.declared.geometry.Geometry.{Geometry}
use Rattle.dd_layout.specs.Layout.{region_at, slot_at, disk_block, flash_need, disk_need}
use Rattle.dd_rig.specs.Device.{Device, IsImage}
use Rattle.dd_rig.specs.World.{World}
use Rattle.dd_record.specs.Table.{Table, RowsFit, has_slot, is_dirty_at}
use Rattle.dd_record.specs.Replay.{replay, count_after}
use Rattle.dd_model.specs.State.{State}
use Rattle.dd_journal.specs.Regions.{Reading, Says, records_of}
use Rattle.dd_journal.specs.Sitting.{JournalView, SaysAs, Sits, IsStablePart, regions_size}
use Rattle.dd_journal.proofs.Sole.{spells_one}
use Rattle.dd_store.specs.Meaning.{Basis, Means, Stands, KeepsPace, HasBehind}
use Rattle.dd_store.specs.Keeping.{StoreView, Kept, Holds, AllStand, StaysInPace, IsStableSlot, IsStableBlock, is_spare}
use Rattle.dd_store.proofs.Parts.{LiesApart, slots_apart, regions_before, behind_same}
use Rattle.dd_store.proofs.Altering.{Alters, from_before, shown_stays, stable_stays}
use Rattle.dd_store.proofs.Agreeing.{Agrees, means_same, says_as_same}

-- a flash that says rows, over bytes that agree with those over which they mean a state
pub stands_from : (basis : Basis) (print : List ℕ → Fp) (geo : Geometry) (flash disk flash' disk' : List ℕ) (rows : Table) (count : ℕ) (s : State)
    → (said : Says flash' geo 2 rows count) × KeepsPace basis.room said.reading.epoch rows.a count → RowsFit rows → Agrees geo flash disk flash' disk' rows → Means print geo flash disk rows count s → disk_need geo ≤ length disk' → HasBehind basis geo flash' disk' → Stands basis print flash' disk' s
stands_from basis print geo flash disk flash' disk' rows count s said fit agrees means large behind = record {
  geo = geo;
  table = rows;
  count = count;
  says = said.0;
  pace = said.1;
  disk_size = large;
  behind = behind;
  means = means_same geo flash disk flash' disk' print rows count s fit agrees means;
}

-- what a flash says, and what is known of its epoch, in a version of another name
pub in_version : (P : ℕ → Type 0) (flash : List ℕ) (geo : Geometry) (v w : ℕ) (rows : Table) (count : ℕ) → v ≡ w → (says : Says flash geo v rows count) → P says.reading.epoch
    → (said : Says flash geo w rows count) × P said.reading.epoch
in_version P flash geo v w rows count same says h = subst (λ (n : ℕ). (said : Says flash geo n rows count) × P said.reading.epoch) same (says, h)

pub record Sure (basis : Basis) (print : List ℕ → Fp) (journal : JournalView) (world : World) (rows : Table) (committed : State) : Type 0 where
  pub version : journal.version ≡ 2
  pub sits : Sits journal world rows
  pub pace : KeepsPace basis.room journal.epoch rows.a journal.committed
  pub fit : RowsFit rows
  pub slots : (slot : ℕ) → has_slot slot rows.b ≡ true → IsStableSlot journal.geo world slot
  pub blocks : (address : ℕ) → address < journal.geo.blocks → is_dirty_at address rows.a ≡ false → IsStableBlock journal.geo world address
  pub means : Means print journal.geo world.flash.shown world.disk.shown rows journal.committed committed
  pub size : disk_need journal.geo ≤ length world.disk.stable
  -- what lies behind the slots, and behind the array, whatever a crash leaves
  pub flash_behind : (bytes : List ℕ) → IsImage world.flash bytes → drop (flash_need journal.geo) bytes ≡ basis.flash
  pub disk_behind : (bytes : List ℕ) → IsImage world.disk bytes → drop (disk_need journal.geo) bytes ≡ basis.disk

-- so whatever a crash leaves stands for the committed state
pub sure_stands : (basis : Basis) (print : List ℕ → Fp) (journal : JournalView) (world : World) (rows : Table) (committed : State) → Sure basis print journal world rows committed → AllStand basis print world committed
sure_stands basis print journal world rows committed sure = λ flash disk flash_image disk_image.
    let here = sure.sits.each flash flash_image in
    stands_from basis print journal.geo world.flash.shown world.disk.shown flash disk rows journal.committed committed
    (in_version (λ epoch. KeepsPace basis.room epoch rows.a journal.committed) flash journal.geo journal.version 2 rows journal.committed sure.version here.says
    (subst (λ (epoch : ℕ). KeepsPace basis.room epoch rows.a journal.committed) (sym here.epoch) sure.pace)) sure.fit
    (record {
      slots = λ slot listed. sure.slots slot listed flash flash_image;
      blocks = λ address below clean. sure.blocks address below clean disk disk_image;
    })
    sure.means
    (omega (arith, sure.size, disk_image.same_length)) (sure.flash_behind flash flash_image, sure.disk_behind disk disk_image)

-- the one reading of a flash tells what a state that it stands for is by
module _ (basis : Basis) (print : List ℕ → Fp) (flash disk : List ℕ) (geo : Geometry) (version : ℕ) (rows : Table) (count : ℕ) (says : Says flash geo version rows count) (s : State) (stands : Stands basis print flash disk s) where
  same_reading : stands.says.reading ≡ says.reading
  same_reading = spells_one flash stands.says.reading says.reading stands.says.spells says.spells

  pub same_version : version ≡ 2
  same_version = sym says.versioned ∙ ap (λ (r : Reading). r.version) (sym same_reading) ∙ stands.says.versioned

  same_geo : stands.geo ≡ geo
  same_geo = sym stands.says.geometry ∙ ap (λ (r : Reading). r.geo) same_reading ∙ says.geometry

  same_table : stands.table ≡ rows
  same_table =
      let both : Some stands.table ≡ Some rows = sym stands.says.replayed ∙ ap (λ (g : Geometry). replay g.acap g.bcap (records_of stands.says.reading) stands.says.reading.table) same_geo
      ∙ ap (λ (r : Reading). replay geo.acap geo.bcap (records_of r) r.table) same_reading ∙ says.replayed in
      cc both

  same_count : stands.count ≡ count
  same_count = sym stands.says.counted ∙ ap (λ (r : Reading). count_after r.count (records_of r)) same_reading ∙ says.counted

  pub means_that : Means print geo flash disk rows count s
  means_that =
      subst (λ (c : ℕ). Means print geo flash disk rows c s) same_count
      (subst (λ (t : Table). Means print geo flash disk t stands.count s) same_table
      (subst (λ (g : Geometry). Means print g flash disk stands.table stands.count s) same_geo stands.means))

  pub pace_that : KeepsPace basis.room says.reading.epoch rows.a count
  pace_that =
      subst (λ (c : ℕ). KeepsPace basis.room says.reading.epoch rows.a c) same_count
      (subst (λ (t : Table). KeepsPace basis.room says.reading.epoch t.a stands.count) same_table
      (subst (λ (r : Reading). KeepsPace basis.room r.epoch stands.table.a stands.count) same_reading stands.pace))

  pub disk_large : disk_need geo ≤ length disk
  disk_large = subst (λ (g : Geometry). disk_need g ≤ length disk) same_geo stands.disk_size

  pub behind_that : HasBehind basis geo flash disk
  behind_that = subst (λ (g : Geometry). HasBehind basis g flash disk) same_geo stands.behind

-- what is kept, and what the devices are sure of
module _ (basis : Basis) (print : List ℕ → Fp) (store : StoreView) (world : World) (flash_shows : IsImage world.flash world.flash.shown) (disk_shows : IsImage world.disk world.disk.shown) (c s : State) where
  pub sure_of : (k : Kept basis print store world c s) → Sure basis print store.journal world k.rows c
  sure_of k =
      let here = k.sits.each world.flash.shown flash_shows in
      let says = here.says in
      let stands = k.stands world.flash.shown world.disk.shown flash_shows disk_shows in
      record {
        version = same_version basis print world.flash.shown world.disk.shown store.journal.geo store.journal.version k.rows store.journal.committed says c stands;
        sits = k.sits;
        pace = subst (λ (epoch : ℕ). KeepsPace basis.room epoch k.rows.a store.journal.committed) here.epoch
            (pace_that basis print world.flash.shown world.disk.shown store.journal.geo store.journal.version k.rows store.journal.committed says c stands);
        fit = k.fit;
        slots = k.slots_stable;
        blocks = k.blocks_committed;
        means = means_that basis print world.flash.shown world.disk.shown store.journal.geo store.journal.version k.rows store.journal.committed says c stands;
        size = omega (arith, disk_large basis print world.flash.shown world.disk.shown store.journal.geo store.journal.version k.rows store.journal.committed says c stands, disk_shows.same_length);
        flash_behind = λ bytes image.
            (behind_that basis print bytes world.disk.shown store.journal.geo store.journal.version k.rows store.journal.committed (k.sits.each bytes image).says c (k.stands bytes world.disk.shown image disk_shows)).0;
        disk_behind = λ bytes image.
            (behind_that basis print world.flash.shown bytes store.journal.geo store.journal.version k.rows store.journal.committed says c (k.stands world.flash.shown bytes flash_shows image)).1;
      }

pub kept_of : (basis : Basis) (print : List ℕ → Fp) (store : StoreView) (world : World) (rows : Table) (c s : State) → Sure basis print store.journal world rows c → IsTrue store.is_up → StaysInPace basis.room store → Holds print store world s
    → replay store.journal.geo.acap store.journal.geo.bcap store.pending rows ≡ Some store.table
    → ((slot : ℕ) → has_slot slot rows.b ≡ true → is_spare slot store.uses ≡ false)
    → ((address : ℕ) → address < store.journal.geo.blocks → is_dirty_at address store.table.a ≡ false → IsStableBlock store.journal.geo world address) → Kept basis print store world c s
kept_of basis print store world rows c s sure up pace holds replayed used blocks = record {
  up = up;
  pace = pace;
  holds = holds;
  counted = sure.means.lists.counted;
  stands = sure_stands basis print store.journal world rows c sure;
  rows = rows;
  sits = sure.sits;
  fit = sure.fit;
  replayed = replayed;
  slots_stable = sure.slots;
  slots_kept = used;
  blocks_committed = sure.blocks;
  blocks_held = blocks;
}

-- rows that don't list a slot that changes mean what they meant
module _ (print : List ℕ → Fp) (journal : JournalView) (old new : World) (slot : ℕ) (alters : Alters (slot_at journal.geo slot) journal.geo.block old.flash new.flash) (same_disk : new.disk ≡ old.disk)
    (fits : slot_at journal.geo slot + journal.geo.block ≤ length old.flash.stable) where
  other_slot : (table : Table) → has_slot slot table.b ≡ false → (listed : ℕ) → has_slot listed table.b ≡ true → LiesApart (slot_at journal.geo slot) journal.geo.block (slot_at journal.geo listed) journal.geo.block
  other_slot table none listed is = slots_apart journal.geo slot listed (λ e. absurd (cc (is, none, ap (λ n. has_slot n table.b) e)))

  pub means_still : (table : Table) (count : ℕ) (s : State) → RowsFit table → has_slot slot table.b ≡ false → Means print journal.geo old.flash.shown old.disk.shown table count s → Means print journal.geo new.flash.shown new.disk.shown table count s
  means_still table count s fit none means = means_same journal.geo old.flash.shown old.disk.shown new.flash.shown new.disk.shown print table count s fit
      (record {
        slots = λ listed is. shown_stays (slot_at journal.geo slot) journal.geo.block old.flash new.flash alters fits (slot_at journal.geo listed) journal.geo.block (other_slot table none listed is);
        blocks = λ address below clean. ap (λ (d : Device). disk_block journal.geo d.shown address) same_disk;
      })
      means

-- a slot of the flash changes that the committed rows don't list
module _ (basis : Basis) (print : List ℕ → Fp) (journal : JournalView) (old new : World) (rows : Table) (c : State) (sure : Sure basis print journal old rows c)
    (slot : ℕ) (unlisted : has_slot slot rows.b ≡ false) (alters : Alters (slot_at journal.geo slot) journal.geo.block old.flash new.flash) (same_disk : new.disk ≡ old.disk)
    (fits : slot_at journal.geo slot + journal.geo.block ≤ length old.flash.stable) (inside : slot_at journal.geo slot + journal.geo.block ≤ flash_need journal.geo) where
  in_front : LiesApart (slot_at journal.geo slot) journal.geo.block (region_at journal.geo 0) (regions_size journal.geo)
  in_front = inl (regions_before journal.geo slot)

  says_still : (bytes : List ℕ) → IsImage new.flash bytes → SaysAs journal bytes rows
  says_still bytes image =
      let was = from_before (slot_at journal.geo slot) journal.geo.block old.flash new.flash alters fits bytes image in
      let here = sure.sits.each was.before was.is_image in
      says_as_same journal was.before bytes rows (omega (arith, here.says.spells.reads.region, here.region))
      (record { same_length = sym was.same_length; same = λ place lt. was.same_outside place (inl (omega (arith, regions_before journal.geo slot))) }) here

  behind_still : (bytes : List ℕ) → IsImage new.flash bytes → drop (flash_need journal.geo) bytes ≡ basis.flash
  behind_still bytes image =
      let was = from_before (slot_at journal.geo slot) journal.geo.block old.flash new.flash alters fits bytes image in
      behind_same (flash_need journal.geo) (slot_at journal.geo slot) journal.geo.block was.before bytes was.same_length was.same_outside inside ∙ sure.flash_behind was.before was.is_image

  pub sure_flash : Sure basis print journal new rows c
  sure_flash = record {
    version = sure.version;
    sits = record {
      stable = stable_stays (slot_at journal.geo slot) journal.geo.block old.flash new.flash alters fits (region_at journal.geo 0) (regions_size journal.geo) in_front sure.sits.stable;
      each = says_still;
    };
    pace = sure.pace;
    fit = sure.fit;
    slots = λ listed is. stable_stays (slot_at journal.geo slot) journal.geo.block old.flash new.flash alters fits (slot_at journal.geo listed) journal.geo.block (other_slot print journal old new slot alters same_disk fits rows unlisted listed is) (sure.slots listed is);
    blocks = λ address below clean. subst (λ (d : Device). IsStablePart d (address * journal.geo.block) journal.geo.block) (sym same_disk) (sure.blocks address below clean);
    means = means_still print journal old new slot alters same_disk fits rows journal.committed c sure.fit unlisted sure.means;
    size = subst (λ (d : Device). disk_need journal.geo ≤ length d.stable) (sym same_disk) sure.size;
    flash_behind = behind_still;
    disk_behind = λ bytes image. sure.disk_behind bytes (subst (λ (d : Device). IsImage d bytes) same_disk image);
  }
