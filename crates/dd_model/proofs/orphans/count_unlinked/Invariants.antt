use Rattle.std.proofs.Common.{◌≡◌, ◌≤◌, take, not}
use Rattle.std.specs.Prelude.{count_by}
use Rattle.dd_record.specs.Table.{is_link}
use Rattle.dd_model.proofs.orphans.count_unlinked.Given as goal

abbrev pub invariant-loop-row : goal.invariant-loop-row
invariant-loop-row l = record {
  few : l.count ≤ l.row-index;
  counted : l.count ≡ count_by (λ row. not (is_link row.link)) (take l.row-index l.rows);
}
