use Rattle.dd_script.proofs.LineEnds.{sum_no_end}
use Rattle.dd_script.proofs.text.write_sum.Goals as goal

pub returns-clause-line : goal.returns-clause-line
returns-clause-line c = sum_no_end c.args.sums
