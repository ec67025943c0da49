use Rattle.std.proofs.Common.{◌≡◌, ◌<◌, ℕ, false, length, get_or, take}
use Rattle.std.specs.Prelude.{reverse}
use Rattle.dd_rigmem.specs.Pick.{is_free}
use Rattle.dd_rigmem.proofs.device_mem.free_places.Given as goal

abbrev pub invariant-loop-range : goal.invariant-loop-range
invariant-loop-range l = record {
  long : length l.free.items ≡ l.size;
  each : (place : ℕ) → place < l.size → get_or l.free.items place false ≡ is_free (reverse (take l.range-index l.ranges)) place;
}
