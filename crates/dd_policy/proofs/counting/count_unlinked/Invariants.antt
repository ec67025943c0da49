use Rattle.std.proofs.Common.{◌≡◌, ◌≤◌, take, not}
use Rattle.std.specs.Prelude.{count_by, slice_get}
use Rattle.dd_record.specs.Table.{is_link}
use Rattle.dd_meta.specs.Entries.{rows_of}
use Rattle.dd_policy.proofs.counting.count_unlinked.Given as goal

abbrev pub invariant-loop-place : goal.invariant-loop-place
invariant-loop-place l = record {
  next : l.at ≡ slice_get (rows_of l.meta) l._place;
  few : l.count ≤ l._place;
  counted : l.count ≡ count_by (λ row. not (is_link row.link)) (take l._place (rows_of l.meta));
}
