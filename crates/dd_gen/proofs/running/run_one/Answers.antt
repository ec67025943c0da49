use Rattle.std.proofs.Common.{◌≡◌, ◌∙◌, ap, subst}
use Rattle.dd_block.specs.declared.geometry.Geometry.{Geometry}
use Rattle.dd_gen.specs.Generator.{drawn}
use Rattle.dd_model.specs.declared.done.Done.{Done}
use Rattle.dd_script.specs.Command.{Command, after}
use Rattle.dd_store.specs.Meaning.{sizes_of}
use Rattle.dd_store.specs.Serving.{GoesOn}
use Rattle.dd_answers.proofs.Replying.{within_call}
use Rattle.std.specs.Prelude.{Option, IfSome, is_some}
use Rattle.dd_gen.specs.Sums.{counted_by, with_cut, with_kind}
use Rattle.dd_gen.proofs.Generated.{counts_below, counts_command}
use Rattle.dd_gen.proofs.Ran.{failed_either}
use Rattle.dd_gen.proofs.running.run_one.Goals as goal

pub returns-in-Ok-clause-crash : goal.returns-in-Ok-clause-crash
returns-in-Ok-clause-crash g c = λ t basis one s kept. within_call basis (g.F.Fingerprint.printed c.args.store.now.print) one s (g.R.Rig.world c.args.rig.now) (c.step.ensures.serves t basis one s kept).crash (c.step.ensures.unsaid t)

pub returns-in-Err-clause-crash : goal.returns-in-Err-clause-crash
returns-in-Err-clause-crash g c = λ t basis one s kept. within_call basis (g.F.Fingerprint.printed c.args.store.now.print) one s (g.R.Rig.world c.args.rig.now) (c.step.ensures.serves t basis one s kept).crash (c.step.ensures.unsaid t)

pub returns-in-Ok-clause-goes : goal.returns-in-Ok-clause-goes
returns-in-Ok-clause-goes g c = λ t basis one s kept.
    subst (λ (command : Command). GoesOn basis (g.F.Fingerprint.printed c.args.store.now.print) one s c.step.new.store.store (g.R.Rig.world c.step.new.rig) (after (sizes_of c.args.store.now.store.journal.geo) s command)) (c.next-made.ensures.made ∙ ap (λ (geo : Geometry). (drawn (sizes_of geo) c.args.commands.now.numbers.x).command) c.geometry.ensures)
    (c.in-Ok.ensures.serves t basis one s kept).leaves

pub returns-in-Ok-clause-counts : goal.returns-in-Ok-clause-counts
returns-in-Ok-clause-counts g c = λ t basis one s kept.
    subst (λ (command : Command). c.count_done.result ≡ counted_by (sizes_of c.args.store.now.store.journal.geo) s command c.args.sums) (c.next-made.ensures.made ∙ ap (λ (geo : Geometry). (drawn (sizes_of geo) c.args.commands.now.numbers.x).command) c.geometry.ensures)
    (counts_command (g.F.Fingerprint.printed c.args.store.now.print) (sizes_of c.args.store.now.store.journal.geo) s _ c.in-Ok.done c.args.sums c.count_done.result (c.in-Ok.ensures.answers t basis one s kept)
    (λ d is. subst (λ o. IfSome o (λ done. c.count_done.result ≡ with_cut (is_some done.cut.out) (is_some done.cut.drop) (with_kind done.kind c.args.sums))) is c.count_done.ensures.some) c.count_done.ensures.none)

pub returns-in-Err-clause-stops : goal.returns-in-Err-clause-stops
returns-in-Err-clause-stops g c = λ t basis one s kept.
    failed_either basis (Option Done) (g.F.Fingerprint.printed c.args.store.now.print) c.in-Err.fault one s _ c.step.new.store.store (g.R.Rig.world c.step.new.rig) (c.in-Err.ensures.serves t basis one s kept).leaves

pub returns-in-Ok-clause-below : goal.returns-in-Ok-clause-below
returns-in-Ok-clause-below g c = λ n h. counts_below c.in-Ok.done c.args.sums c.count_done.result c.count_done.ensures.some c.count_done.ensures.none n h
