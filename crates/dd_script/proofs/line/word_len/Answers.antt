use Rattle.std.proofs.Common.{sym}
use Rattle.dd_script.proofs.Scanning.{never_blank, blank_at}
use Rattle.dd_script.proofs.line.word_len.Goals as goal

pub returns-in-Some-clause-count : goal.returns-in-Some-clause-count
returns-in-Some-clause-count c = sym (blank_at c.in-Some.at c.args.text.now c.in-Some.ensures.0.before c.in-Some.ensures.0.high c.in-Some.ensures.1)

pub returns-in-None-clause-count : goal.returns-in-None-clause-count
returns-in-None-clause-count c = sym (never_blank c.args.text.now c.in-None.ensures)
