use Rattle.dd_gen.proofs.stepping.step_flush.Goals as goal

pub returns-in-Ok-clause-serves : goal.returns-in-Ok-clause-serves
returns-in-Ok-clause-serves g c = λ t basis one s kept. let h = c.in-Ok.ensures.serves t basis one s kept in record { crash = h.crash; leaves = h.leaves }

pub returns-in-Err-clause-serves : goal.returns-in-Err-clause-serves
returns-in-Err-clause-serves g c = λ t basis one s kept. let h = c.in-Err.ensures.serves t basis one s kept in record { crash = h.crash; leaves = h.leaves }
