-- The look at byte 0 of the flash, before a replay.
use Rattle.std.proofs.Common.{◌≡◌, [], ap, arith, subst, sym}
use Rattle.std.specs.Prelude.{Result}
use Rattle.dd_rig.specs.declared.device.Dev.TheVariants as dev
use Rattle.dd_rig.specs.declared.tallies.Calls.{Calls}
use Rattle.dd_rig.specs.declared.tallies.Counts.{Counts}
use Rattle.dd_rig.specs.Counts.{NeverFalls, Makes, up_to, nothing, count_read}
use Rattle.dd_model.specs.State.{Sizes}
use Rattle.dd_serve.specs.Calls.{AsksForLines, looked}
use Rattle.dd_serve.specs.Laws.{asks_early}
use Rattle.dd_loop.specs.Saying.{IsIdle}

-- one read of the flash, and no call of a device behind it
pub one_look : {T E : Type 0} (r : Result T E) (a b d : Counts) → b ≡ count_read dev.Flash r a → IsIdle b d → Makes (up_to 1 0 0) nothing a d
one_look r a b d looked idle = (
  (
    omega (arith, ap (λ (k : Calls). k.reads) idle.0, ap (λ (k : Counts). k.flash.reads) looked),
    omega (arith, ap (λ (k : Calls). k.writes) idle.0, ap (λ (k : Counts). k.flash.writes) looked),
    omega (arith, ap (λ (k : Calls). k.written) idle.0, ap (λ (k : Counts). k.flash.written) looked),
  ),
  (
    omega (arith, ap (λ (k : Calls). k.reads) idle.1, ap (λ (k : Counts). k.disk.reads) looked),
    omega (arith, ap (λ (k : Calls). k.writes) idle.1, ap (λ (k : Counts). k.disk.writes) looked),
    omega (arith, ap (λ (k : Calls). k.written) idle.1, ap (λ (k : Counts). k.disk.written) looked),
  ),
)

-- behind the look no count has fallen below what it counts
pub looked_falls : {T E : Type 0} (r : Result T E) (a b : Counts) → b ≡ count_read dev.Flash r a → NeverFalls a b → NeverFalls (looked a) b
looked_falls r a b e h = record {
  flash = record {
    reads = omega (arith, ap (λ (k : Counts). k.flash.reads) e);
    writes = h.flash.writes;
    written = h.flash.written;
    failed_reads = h.flash.failed_reads;
    failed_writes = h.flash.failed_writes;
  };
  disk = h.disk;
  emits = h.emits;
}

-- and no line was said
pub asks_looked : {T E : Type 0} (sizes : Sizes) (r : Result T E) (a b : Counts) → b ≡ count_read dev.Flash r a → AsksForLines sizes [] 0 (looked a) b
asks_looked sizes r a b e = subst (λ (k : Counts). AsksForLines sizes [] 0 (looked a) k) (sym e) (asks_early sizes (looked a) (count_read dev.Flash r a) (omega arith) (omega arith) (omega arith) (omega arith) (omega arith) (omega arith) (omega arith))
