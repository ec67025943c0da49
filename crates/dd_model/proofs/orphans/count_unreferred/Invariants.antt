use Rattle.std.proofs.Common.{◌≡◌, ◌≤◌, take, not}
use Rattle.std.specs.Prelude.{count_by}
use Rattle.dd_model.specs.Orphans.{is_linked_to}
use Rattle.dd_model.proofs.orphans.count_unreferred.Given as goal

abbrev pub invariant-loop-block : goal.invariant-loop-block
invariant-loop-block l = record {
  few : l.count ≤ l.block-index;
  counted : l.count ≡ count_by (λ block. not (is_linked_to block.slot l.rows)) (take l.block-index l.blocks);
}
