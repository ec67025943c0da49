use Rattle.std.proofs.Common.{◌∙◌, ap, List}
use Rattle.dd_record.specs.declared.row.BRow.{BRow}
use Rattle.dd_data.specs.Blocks.{Data}
use Rattle.dd_policy.proofs.Roomy.{block_front, block_stays}
use Rattle.dd_policy.proofs.blocks.bring_known.Goals as goal

pub returns-clause-after : goal.returns-clause-after
returns-clause-after c =
    let old : Data = c.args.blocks.now in
    c.front_known.ensures ∙ ap (λ (rows : List BRow). record { bcap = old.bcap; slots = old.slots; rows = rows }) (block_front c.args.slot old.bcap old.rows c.len.ensures.kept.some c.len.ensures.kept.few)

pub returns-clause-drop : goal.returns-clause-drop
returns-clause-drop c = block_stays c.args.slot c.args.blocks.now.bcap c.args.blocks.now.rows c.len.ensures.kept.some c.len.ensures.kept.few
