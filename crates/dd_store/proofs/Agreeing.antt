-- What rows mean, and what a flash spells, where other bytes have the parts that they use.
use Rattle.std.proofs.Common.{◌≡◌, ℕ, ◌+◌, ◌-◌, ◌<◌, ◌≤◌, true, false, List, length, get_or, sym, ◌∙◌, ap, subst, arith}
use Rattle.dd_block.specs.Bytes.{part}
use Rattle.dd_block.specs.declared.print.Fp.{Fp}
use Rattle.dd_block.specs.declared.geometry.Geometry.{Geometry}
use Rattle.dd_layout.specs.Layout.{region_at, region_size, region_bytes, slot_block, disk_block, flash_need}
use Rattle.dd_record.specs.Table.{Table, RowsFit, has_slot, is_dirty_at}
use Rattle.dd_model.specs.State.{State}
use Rattle.dd_model.proofs.HeldSame.{shows-same}
use Rattle.dd_model.proofs.RecordLaws.{links-fit}
use Rattle.dd_journal.specs.Regions.{Reading, Says, RegionSpells, IsOlder}
use Rattle.dd_journal.specs.Sitting.{JournalView, SaysAs, regions_size}
use Rattle.dd_journal.proofs.Places.{placed}
use Rattle.dd_store.specs.Meaning.{Means}
use Rattle.dd_store.proofs.Parts.{same_bytes}

module _ (geo : Geometry) (flash disk flash' disk' : List ℕ) where
  -- the slots that rows list, and the blocks of the disk whose addresses aren't dirty in them, are the same
  pub record Agrees (table : Table) : Type 0 where
    pub slots : (slot : ℕ) → has_slot slot table.b ≡ true → slot_block geo flash' slot ≡ slot_block geo flash slot
    pub blocks : (address : ℕ) → address < geo.blocks → is_dirty_at address table.a ≡ false → disk_block geo disk' address ≡ disk_block geo disk address

  -- rows that fit mean the same over both
  pub means_same : (print : List ℕ → Fp) (table : Table) (count : ℕ) (s : State) → RowsFit table → Agrees table → Means print geo flash disk table count s → Means print geo flash' disk' table count s
  means_same print table count s fit agrees m = record {
    array_length = m.array_length;
    array_blocks = m.array_blocks;
    lists = shows-same print (slot_block geo flash) (slot_block geo flash') table count s (λ slot listed. sym (agrees.slots slot listed)) (links-fit table fit) m.lists;
    clean = λ address below not_dirty. m.clean address below not_dirty ∙ sym (agrees.blocks address below not_dirty);
  }

-- two flashes have the same bytes in front of the slots
pub record SameFront (geo : Geometry) (one another : List ℕ) : Type 0 where
  pub same_length : length another ≡ length one
  pub same : (place : ℕ) → place < region_at geo 0 + regions_size geo → get_or another place 0 ≡ get_or one place 0

module _ (geo : Geometry) (one another : List ℕ) (front : SameFront geo one another) where
  same_region : (region : ℕ) → region < 2 → region_bytes geo another region ≡ region_bytes geo one region
  same_region region is =
      let place = placed geo region is in
      same_bytes another one (region_at geo region) (region_size geo) front.same_length (λ k lt. front.same (region_at geo region + k) (omega (arith, place.to)))

  same_super : part another 0 64 ≡ part one 0 64
  same_super = same_bytes another one 0 64 front.same_length (λ k lt. front.same (0 + k) (omega arith))

  spells : (r : Reading) → r.geo ≡ geo → r.region < 2 → (region_bytes r.geo another r.region ≡ region_bytes r.geo one r.region) × (region_bytes r.geo another (1 - r.region) ≡ region_bytes r.geo one (1 - r.region))
  spells r is region = (
    subst (λ (g : Geometry). region_bytes g another r.region ≡ region_bytes g one r.region) (sym is) (same_region r.region region),
    subst (λ (g : Geometry). region_bytes g another (1 - r.region) ≡ region_bytes g one (1 - r.region)) (sym is) (same_region (1 - r.region) (omega arith)),
  )

  -- both spell the same
  pub says_same : (version : ℕ) (rows : Table) (count : ℕ) → Says one geo version rows count → Says another geo version rows count
  says_same version rows count says =
      let r = says.reading in
      let regions = spells r says.geometry says.spells.reads.region in
      record {
        reading = r;
        spells = record {
          reads = record {
            size = subst (λ (n : ℕ). flash_need r.geo ≤ n) (sym front.same_length) says.spells.reads.size;
            region = says.spells.reads.region;
            counts = subst (λ (b : List ℕ). RegionSpells b r) (sym regions.0) says.spells.reads.counts;
            other = subst (λ (b : List ℕ). IsOlder r.geo r.epoch b) (sym regions.1) says.spells.reads.other;
          };
          super = same_super ∙ says.spells.super;
        };
        geometry = says.geometry;
        versioned = says.versioned;
        fit = says.fit;
        replayed = says.replayed;
        counted = says.counted;
      }

-- and the same as a journal keeps it
pub says_as_same : (journal : JournalView) (one another : List ℕ) (rows : Table) → journal.region < 2 → SameFront journal.geo one another → SaysAs journal one rows → SaysAs journal another rows
unfolding says_same
says_as_same journal one another rows region front says_as =
    let there : region_bytes journal.geo another (1 - journal.region) ≡ region_bytes journal.geo one (1 - journal.region) = same_region journal.geo one another front (1 - journal.region) (omega arith) in
    record {
      says = says_same journal.geo one another front journal.version rows journal.committed says_as.says;
      region = says_as.region;
      epoch = says_as.epoch;
      len_a = says_as.len_a;
      len_b = says_as.len_b;
      room = says_as.room;
      other = (λ is. ap (λ (b : List ℕ). get_or b 0 0) there ∙ says_as.other.0 is, λ one_there. says_as.other.1 (sym (ap (λ (b : List ℕ). get_or b 0 0) there) ∙ one_there));
    }
