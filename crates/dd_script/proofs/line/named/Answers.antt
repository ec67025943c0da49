use Rattle.dd_script.proofs.line.named.Goals as goal

pub returns-then-eq-2-clause-within : goal.returns-then-eq-2-clause-within
returns-then-eq-2-clause-within c = c.alone.ensures.within c.args.dialect tt

pub returns-then-eq-3-clause-within : goal.returns-then-eq-3-clause-within
returns-then-eq-3-clause-within c = c.alone-then-eq-3.ensures.within c.args.dialect tt

pub returns-then-eq-4-clause-within : goal.returns-then-eq-4-clause-within
returns-then-eq-4-clause-within c = c.alone-then-eq-4.ensures.within c.args.dialect tt
