use Rattle.std.proofs.Common.{◌∙◌, sym}
use Rattle.dd_policy.proofs.Taken.{slots_apart}
use Rattle.dd_policy.proofs.restoring.take_blocks.Goals as goal

pub fill_blocks-requires-clause-apart : goal.fill_blocks-requires-clause-apart
fill_blocks-requires-clause-apart c = slots_apart c.args.b.now (sym c.find_bad_block.ensures.bad ∙ c.in-None.is)
