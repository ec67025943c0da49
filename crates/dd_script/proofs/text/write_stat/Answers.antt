use Rattle.dd_script.proofs.LineEnds.{stat_no_end}
use Rattle.dd_script.proofs.text.write_stat.Goals as goal

pub returns-clause-line : goal.returns-clause-line
returns-clause-line c = stat_no_end c.args.count c.args.orphans.a c.args.orphans.b
