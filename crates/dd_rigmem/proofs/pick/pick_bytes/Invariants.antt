use Rattle.std.proofs.Common.{◌≡◌, ◌++◌, ◌≤◌, length, drop}
use Rattle.dd_rigmem.specs.Pick.{picked_bytes, picked_rest}
use Rattle.dd_rigmem.proofs.pick.pick_bytes.Given as goal

abbrev pub invariant-loop-place : goal.invariant-loop-place
invariant-loop-place l = record {
  bytes : l.bytes.items ++ picked_bytes l.pick l.device.ranges l.place l.numbers.state (drop l.place l.stable) (drop l.place l.shown) ≡ picked_bytes l.pick l.device.ranges 0 l.fn.numbers.state l.stable l.shown;
  numbers : picked_rest l.device.ranges l.place l.numbers.state (drop l.place l.stable) ≡ picked_rest l.device.ranges 0 l.fn.numbers.state l.stable;
  long : length l.stable ≤ length l.shown;
  stable : l.stable ≡ l.device.stable;
  shown : l.shown ≡ l.device.shown;
}
