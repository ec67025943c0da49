use Rattle.std.proofs.Common.{◌∙◌, sym}
use Rattle.dd_policy.proofs.Taken.{that_some, that_none}
use Rattle.dd_policy.proofs.restoring.has_block.Goals as goal

pub returns-in-Some : goal.returns-in-Some
returns-in-Some c = c.is_like.ensures ∙ sym (that_some c.args.slot c.args.fp c.args.blocks.now.rows c.in-Some.block c.len.ensures.kept.apart (sym c.find.ensures ∙ c.in-Some.is))

pub returns-in-None : goal.returns-in-None
returns-in-None c = sym (that_none c.args.slot c.args.fp c.args.blocks.now.rows (sym c.find.ensures ∙ c.in-None.is))
