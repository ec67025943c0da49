use Rattle.std.proofs.Common.{◌≡◌, take, []}
use Rattle.std.specs.Prelude.{reverse}
use Rattle.dd_record.specs.Table.{first_bad, b_fits}
use Rattle.dd_model.proofs.Walking.{bad_from}
use Rattle.dd_policy.proofs.restoring.find_bad_block.Given as goal

abbrev pub invariant-loop-row : goal.invariant-loop-row
invariant-loop-row l = record {
  rows : l.blocks.rows ≡ reverse (take l.row-index l.b);
  bcap : l.blocks.bcap ≡ l.fn.blocks.bcap;
  slots : l.blocks.slots ≡ l.fn.blocks.slots;
  so_far : first_bad b_fits [] 0 l.b ≡ bad_from b_fits l.b l.row-index;
}
