use Rattle.std.proofs.Common.{sym, subst}
use Rattle.std.specs.Prelude.{IfOk}
use Rattle.dd_script.specs.Command.{after}
use Rattle.dd_store.specs.Meaning.{sizes_of}
use Rattle.dd_store.specs.Serving.{Serves}
use Rattle.dd_gen.specs.declared.generator.Made.{Made}
use Rattle.dd_gen.specs.Generator.{command_of}
use Rattle.dd_gen.specs.Running.{AnswersCommand}
use Rattle.dd_gen.proofs.stepping.step.Goals as goal

pub returns-in-Read-clause-serves : goal.returns-in-Read-clause-serves
returns-in-Read-clause-serves g c = λ t basis one s kept.
    subst (λ (made : Made). Serves basis (g.F.Fingerprint.printed c.args.store.now.print) c.step_read.result (g.R.Rig.clock c.args.rig.now) (g.R.Rig.clock c.step_read.new.rig) c.step_read.new.store.store (g.R.Rig.world c.step_read.new.rig) one s
    (after (sizes_of c.args.store.now.store.journal.geo) s (command_of made c.args.block.now))) (sym c.in-Read.is) (c.step_read.ensures.serves t basis one s kept)

pub returns-in-Read-clause-answers : goal.returns-in-Read-clause-answers
returns-in-Read-clause-answers g c = λ t basis one s kept.
    subst (λ (made : Made). IfOk c.step_read.result (λ done. AnswersCommand (g.F.Fingerprint.printed c.args.store.now.print) (sizes_of c.args.store.now.store.journal.geo) s (command_of made c.args.block.now) done)) (sym c.in-Read.is)
    (c.step_read.ensures.answers t basis one s kept)

pub returns-in-Write-clause-serves : goal.returns-in-Write-clause-serves
returns-in-Write-clause-serves g c = λ t basis one s kept.
    subst (λ (made : Made). Serves basis (g.F.Fingerprint.printed c.args.store.now.print) c.step_write.result (g.R.Rig.clock c.args.rig.now) (g.R.Rig.clock c.step_write.new.rig) c.step_write.new.store.store (g.R.Rig.world c.step_write.new.rig) one s
    (after (sizes_of c.args.store.now.store.journal.geo) s (command_of made c.args.block.now))) (sym c.in-Write.is) (c.step_write.ensures.serves t basis one s kept)

pub returns-in-Write-clause-answers : goal.returns-in-Write-clause-answers
returns-in-Write-clause-answers g c = λ t basis one s kept.
    subst (λ (made : Made). IfOk c.step_write.result (λ done. AnswersCommand (g.F.Fingerprint.printed c.args.store.now.print) (sizes_of c.args.store.now.store.journal.geo) s (command_of made c.args.block.now) done)) (sym c.in-Write.is)
    (c.step_write.ensures.answers t basis one s kept)

pub returns-in-Tick-clause-serves : goal.returns-in-Tick-clause-serves
returns-in-Tick-clause-serves g c = λ t basis one s kept.
    subst (λ (made : Made). Serves basis (g.F.Fingerprint.printed c.args.store.now.print) c.step_tick.result (g.R.Rig.clock c.args.rig.now) (g.R.Rig.clock c.step_tick.new.rig) c.step_tick.new.store.store (g.R.Rig.world c.step_tick.new.rig) one s
    (after (sizes_of c.args.store.now.store.journal.geo) s (command_of made c.args.block.now))) (sym c.in-Tick.is) (c.step_tick.ensures.serves t basis one s kept)

pub returns-in-Tick-clause-answers : goal.returns-in-Tick-clause-answers
returns-in-Tick-clause-answers g c = λ t basis one s kept.
    subst (λ (made : Made). IfOk c.step_tick.result (λ done. AnswersCommand (g.F.Fingerprint.printed c.args.store.now.print) (sizes_of c.args.store.now.store.journal.geo) s (command_of made c.args.block.now) done)) (sym c.in-Tick.is)
    (c.step_tick.ensures.answers t basis one s kept)

pub returns-in-Flush-clause-serves : goal.returns-in-Flush-clause-serves
returns-in-Flush-clause-serves g c = λ t basis one s kept.
    subst (λ (made : Made). Serves basis (g.F.Fingerprint.printed c.args.store.now.print) c.step_flush.result (g.R.Rig.clock c.args.rig.now) (g.R.Rig.clock c.step_flush.new.rig) c.step_flush.new.store.store (g.R.Rig.world c.step_flush.new.rig) one s
    (after (sizes_of c.args.store.now.store.journal.geo) s (command_of made c.args.block.now))) (sym c.in-Flush.is) (c.step_flush.ensures.serves t basis one s kept)

pub returns-in-Flush-clause-answers : goal.returns-in-Flush-clause-answers
returns-in-Flush-clause-answers g c = λ t basis one s kept.
    subst (λ (made : Made). IfOk c.step_flush.result (λ done. AnswersCommand (g.F.Fingerprint.printed c.args.store.now.print) (sizes_of c.args.store.now.store.journal.geo) s (command_of made c.args.block.now) done)) (sym c.in-Flush.is)
    (c.step_flush.ensures.answers t basis one s kept)
