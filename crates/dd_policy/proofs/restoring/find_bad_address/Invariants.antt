use Rattle.std.proofs.Common.{◌≡◌, take, []}
use Rattle.std.specs.Prelude.{reverse}
use Rattle.dd_record.specs.Table.{first_bad, a_fits}
use Rattle.dd_meta.specs.Entries.{rows_of}
use Rattle.dd_model.proofs.Walking.{bad_from}
use Rattle.dd_policy.proofs.restoring.find_bad_address.Given as goal

abbrev pub invariant-loop-row : goal.invariant-loop-row
invariant-loop-row l = record {
  rows : rows_of l.meta ≡ reverse (take l.row-index l.a);
  acap : l.meta.acap ≡ l.fn.meta.acap;
  slots : l.meta.slots ≡ l.fn.meta.slots;
  so_far : first_bad (a_fits l.blocks.rows) [] 0 l.a ≡ bad_from (a_fits l.blocks.rows) l.a l.row-index;
}
