-- Calls that write the flash in blocks.
use Rattle.std.proofs.Common.{◌≡◌, ℕ, ◌+◌, ◌*◌, ◌<◌, ◌^◌, refl, sym, ◌∙◌, ap, subst, arith}
use Rattle.std.specs.Prelude.{Result, ◌-◌}
use Rattle.dd_rig.specs.declared.device.Dev.{Dev}
use Rattle.dd_rig.specs.declared.device.Dev.TheVariants.{Flash, Disk}
use Rattle.dd_rig.specs.declared.tallies.Counts.{Counts}
use Rattle.dd_rig.specs.Counts.{Makes, NeverFalls, count_read, count_write, nothing, plus, up_to}
use Rattle.dd_loop.specs.Saying.{IsIdle}
use Rattle.dd_serve.specs.Calls.{OnlyBlocks}
use Rattle.dd_serve.specs.Laws.{only_none, only_both, only_said}

-- a read
read_at : {T E : Type 0} (block : ℕ) (dev : Dev) (r : Result T E) (before : Counts) → OnlyBlocks block before (count_read dev r before)
read_at block Flash r before = record { flash = record { writes = omega arith; written = omega arith; bytes = λ few short. refl }; disk = refl }
read_at block Disk r before = record { flash = record { writes = omega arith; written = omega arith; bytes = λ few short. refl }; disk = refl }

pub only_read : {T E : Type 0} (block : ℕ) (dev : Dev) (r : Result T E) (before after : Counts) → after ≡ count_read dev r before → OnlyBlocks block before after
only_read block dev r before after is = subst (λ (k : Counts). OnlyBlocks block before k) (sym is) (read_at block dev r before)

-- reads of the flash alone
pub only_asked : (block reads : ℕ) (before after : Counts) → Makes (up_to reads 0 0) nothing before after → NeverFalls before after → OnlyBlocks block before after
only_asked block reads before after h falls =
    let writes : after.flash.writes ≡ before.flash.writes = omega (arith, h.0.1, falls.flash.writes) in
    record {
      flash = record {
        writes = falls.flash.writes;
        written = falls.flash.written;
        bytes = λ few short. omega (arith, h.0.2, falls.flash.written, ap (λ (n : ℕ). block * n) writes);
      };
      disk = omega (arith, h.1.1, falls.disk.writes);
    }

one_more : (block w v : ℕ) → v + block + block * w ≡ v + block * (w + 1)
one_more block w v = grind arith

one_write : (block w v x y : ℕ) → x ≡ plus w 1 → y ≡ plus v block → x < 2 ^ 64 - 1 → y < 2 ^ 64 - 1 → y + block * w ≡ v + block * x
one_write block w v x y first second few short =
    let more : x ≡ w + 1 = omega (arith, first, few) in
    let longer : y ≡ v + block = omega (arith, second, short) in
    ap (λ (n : ℕ). n + block * w) longer ∙ one_more block w v ∙ ap (λ (n : ℕ). v + block * n) (sym more)

-- a write of a block
pub only_write : {T E : Type 0} (block : ℕ) (r : Result T E) (before after : Counts) → after ≡ count_write Flash block r before → NeverFalls before after → OnlyBlocks block before after
only_write block r before after is falls = record {
  flash = record {
    writes = falls.flash.writes;
    written = falls.flash.written;
    bytes = λ few short. one_write block before.flash.writes before.flash.written after.flash.writes after.flash.written (ap (λ (k : Counts). k.flash.writes) is) (ap (λ (k : Counts). k.flash.written) is) few short;
  };
  disk = ap (λ (k : Counts). k.disk.writes) is;
}

-- and no call behind
pub only_idle : (block : ℕ) (before a b : Counts) → OnlyBlocks block before a → IsIdle a b → OnlyBlocks block before b
only_idle block before a b h idle = only_said block before a b idle.0 idle.1 h

-- nor in front
pub only_first : (block : ℕ) (before after : Counts) → IsIdle before after → OnlyBlocks block before after
only_first block before after idle = only_said block before before after idle.0 idle.1 (only_none block before)

pub ruleset written_steps = (only_none, only_both)
