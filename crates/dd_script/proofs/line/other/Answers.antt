use Rattle.dd_script.proofs.line.other.Goals as goal

pub returns-then-eq-3-clause-within : goal.returns-then-eq-3-clause-within
returns-then-eq-3-clause-within c = λ writes. c.alone.ensures.within c.args.dialect writes

pub returns-then-eq-4-clause-within : goal.returns-then-eq-4-clause-within
returns-then-eq-4-clause-within c = λ writes. c.alone-then-eq-4.ensures.within c.args.dialect writes

pub returns-then-eq-5-clause-within : goal.returns-then-eq-5-clause-within
returns-then-eq-5-clause-within c = λ writes. c.alone-then-eq-5.ensures.within c.args.dialect writes
