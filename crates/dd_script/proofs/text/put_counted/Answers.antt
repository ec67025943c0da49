use Rattle.dd_script.proofs.LineEnds.{numbered_no_end}
use Rattle.dd_script.proofs.text.put_counted.Goals as goal

pub returns-clause-line : goal.returns-clause-line
returns-clause-line c = numbered_no_end c.args.words.now c.args.count c.requires.line
