-- What was found of a flash is what its one reading says.
use Rattle.std.proofs.Common.{◌≡◌, ℕ, List, take, sym, ◌∙◌, ap, subst, Some, Ok, Err}
use Rattle.std.specs.Prelude.{Result, IfOk}
use Rattle.dd_block.specs.Bytes.{StandsAt}
use Rattle.dd_block.specs.declared.geometry.Geometry.{Geometry}
use Rattle.dd_block.specs.declared.print.Fp.{Fp}
use Rattle.dd_rig.specs.World.{World}
use Rattle.dd_layout.specs.Super.{super_text}
use Rattle.dd_record.specs.declared.head.Head.{Head}
use Rattle.dd_record.specs.Table.{Table, RowsFit}
use Rattle.dd_record.specs.Replay.{replay, count_after}
use Rattle.dd_model.specs.State.{State}
use Rattle.dd_journal.specs.declared.found.Found.{Found}
use Rattle.dd_journal.specs.Found.{IsFound, IsFoundAs, IsReadOff, found_table, found_records}
use Rattle.dd_journal.specs.Logged.{placed_records}
use Rattle.dd_journal.specs.Regions.{Reading, Reads, Says, Spells, records_of}
use Rattle.dd_journal.specs.Sitting.{JournalView, IsStable, Sits}
use Rattle.dd_journal.proofs.Finds.{found_records_are}
use Rattle.dd_journal.proofs.Sole.{spells_one}
use Rattle.dd_store.specs.Keeping.{StoreView}
use Rattle.dd_store.specs.Meaning.{HasBehind, Basis, KeepsPace, Means, Stands}
use Rattle.dd_recover.specs.Opening.{reading_fault}
use Rattle.dd_recover.specs.Stages.{FoundMeans, HasFound, found_fault, refused_by}

-- it is refused for the same
pub found_fault_is : (geo : Geometry) (r : Reading) (found : Found) → IsFoundAs geo r found → reading_fault r ≡ found_fault geo found
found_fault_is geo r found is =
    let at = is.geometry in
    let region = is.region in
    let head = is.head in
    let table = is.table in
    let recs : placed_records r ≡ found.recs.items = sym is.recs in
    λ i. refused_by (at i) (region i) ((head i).version) (table i) (recs i)

-- a flash that begins with the superblock spells what is read behind it
pub spells_of : (flash : List ℕ) (geo : Geometry) (r : Reading) → Reads flash r → r.geo ≡ geo → take 64 flash ≡ super_text geo → Spells flash r
spells_of flash geo r reads at text = record {
  reads = reads;
  super = subst (λ (g : Geometry). StandsAt flash 0 (super_text g)) (sym at) text;
}

-- what was found of devices that stand for a state
record MeansSo (basis : Basis) (print : List ℕ → Fp) (geo : Geometry) (found : Found) (world : World) (s : State) (stands : Stands basis print world.flash.shown world.disk.shown s) : Type 0 where
  same_geo : stands.geo ≡ geo
  means : FoundMeans basis print geo found world s

module _ (print : List ℕ → Fp) (geo : Geometry) (found : Found) (is : IsFound geo found) where
  means_so : (world : World) → take 64 world.flash.shown ≡ super_text geo → IsReadOff geo world.flash.shown found
      → ((committed : Table) → RowsFit (found_table found) → replay geo.acap geo.bcap (found_records found) (found_table found) ≡ Some committed → Sits found.journal world committed)
      → (basis : Basis) (s : State) (stands : Stands basis print world.flash.shown world.disk.shown s) → MeansSo basis print geo found world s stands
  means_so world text off sits basis s stands =
      let flash : List ℕ = world.flash.shown in
      let disk : List ℕ = world.disk.shown in
      let says = stands.says in
      let same : says.reading ≡ off.reading = spells_one flash says.reading off.reading says.spells (spells_of flash geo off.reading off.reads off.found_as.geometry text) in
      let same_geo : stands.geo ≡ geo = sym says.geometry ∙ ap (λ (r : Reading). r.geo) same ∙ off.found_as.geometry in
      let tables : says.reading.table ≡ found_table found = ap (λ (r : Reading). r.table) same ∙ off.found_as.table in
      let recs : records_of says.reading ≡ found_records found = ap records_of same ∙ sym (found_records_are geo off.reading found off.found_as) in
      let counts : says.reading.count ≡ found.head.count = ap (λ (r : Reading). r.count) same ∙ ap (λ (h : Head). h.count) off.found_as.head in
      let moved : replay stands.geo.acap stands.geo.bcap (records_of says.reading) says.reading.table ≡ replay geo.acap geo.bcap (found_records found) (found_table found) =
      λ i. replay (same_geo i).acap (same_geo i).bcap (recs i) (tables i) in
      let counted : count_after says.reading.count (records_of says.reading) ≡ count_after found.head.count (found_records found) = λ i. count_after (counts i) (recs i) in
      let committed : stands.count ≡ found.journal.committed = sym says.counted ∙ counted ∙ sym (ap (λ (j : JournalView). j.committed) is.journal) in
      let replayed : replay geo.acap geo.bcap (found_records found) (found_table found) ≡ Some stands.table = sym moved ∙ says.replayed in
      let epochs : says.reading.epoch ≡ found.journal.epoch = ap (λ (r : Reading). r.epoch) same ∙ ap (λ (h : Head). h.epoch) off.found_as.head ∙ sym (ap (λ (j : JournalView). j.epoch) is.journal) in
      record {
        same_geo = same_geo;
        means = record {
          rows = stands.table;
          replayed = replayed;
          sits = sits stands.table (subst RowsFit tables says.fit) replayed;
          pace = subst (λ (n : ℕ). KeepsPace basis.room found.journal.epoch stands.table.a n) committed (subst (λ (epoch : ℕ). KeepsPace basis.room epoch stands.table.a stands.count) epochs stands.pace);
          behind = subst (λ (g : Geometry). HasBehind basis g flash disk) same_geo stands.behind;
          means = subst (λ (n : ℕ). Means print geo flash disk stands.table n s) committed (subst (λ (g : Geometry). Means print g flash disk stands.table stands.count s) same_geo stands.means);
        };
      }

  -- over the worlds behind each read, which change nothing
  pub found_means : (old read now : World) → read ≡ old → now ≡ read → take 64 old.flash.shown ≡ super_text geo → IsReadOff geo read.flash.shown found
      → ((committed : Table) → IsStable read.flash → StandsAt read.flash.shown 0 (super_text geo) → RowsFit (found_table found)
      → replay geo.acap geo.bcap (found_records found) (found_table found) ≡ Some committed → Sits found.journal now committed)
      → IsStable old.flash → (basis : Basis) (s : State) (stands : Stands basis print old.flash.shown old.disk.shown s) → (stands.geo ≡ geo) × FoundMeans basis print geo found now s
  found_means old read now read_is now_is text off sits stable basis s stands =
      let same : now ≡ old = now_is ∙ read_is in
      let sits_old = subst
      (λ (w : World). (committed : Table) → IsStable w.flash → StandsAt w.flash.shown 0 (super_text geo) → RowsFit (found_table found)
      → replay geo.acap geo.bcap (found_records found) (found_table found) ≡ Some committed → Sits found.journal now committed)
      read_is sits in
      let here = means_so old text (subst (λ (w : World). IsReadOff geo w.flash.shown found) read_is off)
      (λ committed fit replayed. subst (λ (w : World). Sits found.journal w committed) same (sits_old committed stable text fit replayed)) basis s stands in
      (here.same_geo, subst (λ (w : World). FoundMeans basis print geo found w s) (sym same) here.means)

-- the journal of a store that has what was found sits on the rig
pub found_sits : (geo : Geometry) (found : Found) (store : StoreView) (old read now : World) → read ≡ old → take 64 old.flash.shown ≡ super_text geo
    → ((committed : Table) → IsStable read.flash → StandsAt read.flash.shown 0 (super_text geo) → RowsFit (found_table found)
    → replay geo.acap geo.bcap (found_records found) (found_table found) ≡ Some committed → Sits found.journal now committed)
    → HasFound geo found store → IsStable old.flash → Sits store.journal now store.table
found_sits geo found store old read now read_is text sits has stable =
    let sits_old = subst
    (λ (w : World). (committed : Table) → IsStable w.flash → StandsAt w.flash.shown 0 (super_text geo) → RowsFit (found_table found)
    → replay geo.acap geo.bcap (found_records found) (found_table found) ≡ Some committed → Sits found.journal now committed)
    read_is sits in
    subst (λ (j : JournalView). Sits j now store.table) (sym has.journal) (sits_old store.table stable text has.fit has.replayed)

-- a store that has what was found has the rows and the count that the flash says
pub found_says : (geo : Geometry) (found : Found) (store : StoreView) (flash bytes : List ℕ) → bytes ≡ flash → take 64 flash ≡ super_text geo → IsFound geo found → IsReadOff geo bytes found
    → HasFound geo found store → Says flash store.journal.geo 2 store.table store.count
found_says geo found store flash bytes shows text is read has =
    let off : IsReadOff geo flash found = subst (λ (b : List ℕ). IsReadOff geo b found) shows read in
    let r : Reading = off.reading in
    let at : geo ≡ store.journal.geo = sym (ap (λ (j : JournalView). j.geo) (has.journal ∙ is.journal)) in
    let recs : found_records found ≡ records_of r = found_records_are geo r found off.found_as in
    let tables : found_table found ≡ r.table = sym off.found_as.table in
    let counts : found.head.count ≡ r.count = sym (ap (λ (h : Head). h.count) off.found_as.head) in
    let moved : replay geo.acap geo.bcap (found_records found) (found_table found) ≡ replay store.journal.geo.acap store.journal.geo.bcap (records_of r) r.table =
    λ i. replay (at i).acap (at i).bcap (recs i) (tables i) in
    let counted : count_after found.head.count (found_records found) ≡ count_after r.count (records_of r) = λ i. count_after (counts i) (recs i) in
    record {
      reading = r;
      spells = spells_of flash geo r off.reads off.found_as.geometry text;
      geometry = off.found_as.geometry ∙ at;
      versioned = ap (λ (h : Head). h.version) off.found_as.head ∙ has.version;
      fit = subst RowsFit tables has.fit;
      replayed = sym moved ∙ has.replayed;
      counted = sym counted ∙ sym (ap (λ (j : JournalView). j.committed) is.journal) ∙ sym has.counted;
    }

-- two facts of an Ok
pub ok_both : {T E : Type 0} (result : Result T E) (P Q R : T → Type 0) → ((x : T) → P x → Q x → R x) → IfOk result P → IfOk result Q → IfOk result R
ok_both (Ok x) P Q R here p q = here x p q
ok_both (Err e) P Q R here p q = tt
