-- A formatted flash stands for the array that the disk shows, with empty lists.
use Rattle.std.proofs.Common.{◌≡◌, ℕ, ◌≤◌, List, [], ◌∷◌, length, refl, inl, arith}
use Rattle.std.specs.List.{IsDistinct}
use Rattle.dd_block.specs.declared.print.Fp.{Fp}
use Rattle.dd_block.specs.declared.geometry.Geometry.{Geometry}
use Rattle.dd_layout.specs.Layout.{region_bytes, disk_need}
use Rattle.dd_record.specs.Spelling.{head_text}
use Rattle.dd_record.specs.Table.{empty_table}
use Rattle.dd_model.proofs.Arrays.{array_block, array_blocks, length-array_of}
use Rattle.dd_journal.specs.Regions.{Reading, Spells, RegionSpells}
use Rattle.dd_journal.proofs.Standing.{front_stands, stands_byte}
use Rattle.dd_rig.specs.World.{World}
use Rattle.dd_store.specs.Meaning.{Stands}
use Rattle.dd_store.proofs.Sole.{stands_one}
use Rattle.dd_recover.proofs.Beginning.{begins_at}
use Rattle.dd_recover.specs.Formatting.{fresh_basis, IsFormatted, formatted_state, first_head, first_text, IsFresh}

abbrev first_reading : Geometry → Reading
first_reading geo = record { geo = geo; region = 0; version = 2; epoch = 1; count = 0; table = empty_table; groups = [] }

first_counts : (geo : Geometry) (flash : List ℕ) → IsFresh geo flash → RegionSpells (region_bytes geo flash 0) (first_reading geo)
first_counts geo flash f = record {
  head = record { version = refl; epoch = omega arith; count = omega arith; len_a = omega arith; len_b = omega arith };
  rows = record { b_rows = tt; a_rows = tt; len_b = omega arith; len_a = omega arith };
  groups = tt;
  text = front_stands (region_bytes geo flash 0) 0 (1 ∷ head_text first_head) (0 ∷ []) (omega arith) f.region;
  closed = λ one.
      let zero_there = stands_byte (region_bytes geo flash 0) 0 first_text 33 f.region (omega arith) in
      omega (arith, one, zero_there);
}

spells_first : (geo : Geometry) (flash : List ℕ) → IsFresh geo flash → Spells flash (first_reading geo)
spells_first geo flash f = record {
  reads = record { size = f.size; region = omega arith; counts = first_counts geo flash f; other = inl (λ one. omega (arith, one, f.other)) };
  super = f.super;
}

stands_fresh : (print : List ℕ → Fp) (geo : Geometry) (flash disk : List ℕ) → IsFresh geo flash → disk_need geo ≤ length disk
    → (here : Stands (fresh_basis geo flash disk) print flash disk (formatted_state geo disk)) × (here.geo ≡ geo)
unfolding IsDistinct
stands_fresh print geo flash disk f room = (
  record {
    geo = geo;
    table = empty_table;
    count = 0;
    says = record { reading = first_reading geo; spells = spells_first geo flash f; geometry = refl; versioned = refl; fit = record { slots = tt; addresses = tt; links = tt }; replayed = refl; counted = refl };
    pace = omega arith;
    disk_size = room;
    behind = (refl, refl);
    means = record {
      array_length = length-array_of geo.block geo.blocks disk;
      array_blocks = array_blocks geo.block geo.blocks disk room;
      lists = record { blocks = refl; distinct = tt; nonzero = tt; addresses = refl; counted = refl; b_prints = tt; a_rows = tt };
      clean = λ address below not_dirty. array_block geo.block geo.blocks disk address below;
    };
  },
  refl,
)

pub formatted : (print : List ℕ → Fp) (geo : Geometry) (world : World) (flash : List ℕ) → IsFresh geo flash → disk_need geo ≤ length world.disk.shown → IsFormatted print geo world flash world.disk.shown
formatted print geo world flash f room =
    let here = stands_fresh print geo flash world.disk.shown f room in
    record {
      stands = here.0;
      only = λ other s stands. stands_one other (fresh_basis geo flash world.disk.shown) print flash world.disk.shown s (formatted_state geo world.disk.shown) stands here.0;
      geometry = here.1;
      again = begins_at (fresh_basis geo flash world.disk.shown) print (formatted_state geo world.disk.shown) flash world.disk.shown here.0;
      bytes = f;
    }
