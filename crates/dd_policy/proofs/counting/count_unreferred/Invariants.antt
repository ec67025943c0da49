use Rattle.std.proofs.Common.{◌≡◌, ◌≤◌, take, not}
use Rattle.std.specs.Prelude.{count_by, slice_get}
use Rattle.dd_meta.specs.Entries.{rows_of}
use Rattle.dd_model.specs.Orphans.{is_linked_to}
use Rattle.dd_policy.proofs.counting.count_unreferred.Given as goal

abbrev pub invariant-loop-place : goal.invariant-loop-place
invariant-loop-place l = record {
  next : l.at ≡ slice_get l.blocks.rows l._place;
  few : l.count ≤ l._place;
  counted : l.count ≡ count_by (λ block. not (is_linked_to block.slot (rows_of l.meta))) (take l._place l.blocks.rows);
}
