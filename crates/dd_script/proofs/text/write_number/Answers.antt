use Rattle.dd_script.proofs.LineEnds.{numbered_no_end}
use Rattle.dd_script.proofs.text.write_number.Goals as goal

pub returns-clause-line : goal.returns-clause-line
returns-clause-line c = numbered_no_end c.args.words.now c.args.number c.requires.line
