use Rattle.std.proofs.Common.{sym, ◌∙◌}
use Rattle.dd_script.proofs.NumberWords.{digits_utf8}
use Rattle.dd_script.proofs.number.number_of.Goals as goal

pub returns-in-Err : goal.returns-in-Err
returns-in-Err c = absurd (c.in-Err.ensures.cases.0 (digits_utf8 c.args.word.now (sym c.are_digits.ensures ∙ c.if-not-are_digits.false)))
