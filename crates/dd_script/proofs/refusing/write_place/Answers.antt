use Rattle.dd_script.proofs.LineEnds.{place_no_end}
use Rattle.dd_script.proofs.refusing.write_place.Goals as goal

pub returns-clause-line : goal.returns-clause-line
returns-clause-line c = place_no_end c.args.words.now c.args.region c.args.at c.requires.line
