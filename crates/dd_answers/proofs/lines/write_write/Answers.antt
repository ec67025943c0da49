use Rattle.std.proofs.Common.{refl, sym, subst, arith}
use Rattle.dd_model.specs.declared.done.Done.{Done}
use Rattle.dd_script.specs.Command.{write as a_write, after}
use Rattle.dd_store.specs.Meaning.{sizes_of}
use Rattle.dd_answers.specs.Costs.{CostsLines}
use Rattle.dd_answers.proofs.Costs.{begun_costs, fault_costs, write_costs, IsWrite, is_write}
use Rattle.dd_answers.proofs.Replying.{within_call, replies_write, tells_fault, halts_either}
use Rattle.dd_answers.proofs.lines.write_write.Goals as goal

pub returns-in-Ok-clause-crash : goal.returns-in-Ok-clause-crash
returns-in-Ok-clause-crash g c = λ t basis one s kept. within_call basis (g.F.Fingerprint.printed c.args.store.now.print) one s (g.R.Rig.world c.args.rig.now) (c.write.ensures.serves t basis one s kept).crash (c.write.ensures.silent t).0

pub returns-in-Err-clause-crash : goal.returns-in-Err-clause-crash
returns-in-Err-clause-crash g c = λ t basis one s kept. within_call basis (g.F.Fingerprint.printed c.args.store.now.print) one s (g.R.Rig.world c.args.rig.now) (c.write.ensures.serves t basis one s kept).crash (c.write.ensures.silent t).0

pub returns-in-Ok-clause-answer : goal.returns-in-Ok-clause-answer
returns-in-Ok-clause-answer g c = λ t basis one s kept.
    let left = (c.in-Ok.ensures.serves t basis one s kept).leaves in
    let told = c.in-Ok.ensures.tells t s kept.holds in (
      _,
      c.write_reply.ensures.text,
      replies_write basis (g.F.Fingerprint.printed c.args.store.now.print) (sizes_of c.args.store.now.store.journal.geo) c.write.new.self.store (g.R.Rig.world c.write.new.rig) (CostsLines c.args.store.now.store c.write.new.self.store) (g.R.Rig.counts c.args.rig.now) (g.R.Rig.counts c.write.new.rig) c.write.ensures.fails.1.0 one s c.args.address c.args.block.now c.in-Ok.done c.write_reply.ensures.line told left
          (write_costs c.args.store.now.store c.write.new.self.store (g.R.Rig.counts c.args.rig.now) (g.R.Rig.counts c.write.new.rig) c.write.ensures.fails.1.0 c.write.ensures.rows.grows.same_geo c.in-Ok.done (subst IsWrite (sym told.kind) (is_write _)) c.in-Ok.ensures.few c.in-Ok.ensures.costs.loads c.in-Ok.ensures.costs.calm),
    )

pub returns-in-Err-clause-answer : goal.returns-in-Err-clause-answer
returns-in-Err-clause-answer g c = λ t basis one s kept.
    tells_fault basis (g.F.Fingerprint.printed c.args.store.now.print) (sizes_of c.args.store.now.store.journal.geo) c.write.new.self.store (g.R.Rig.world c.write.new.rig) (CostsLines c.args.store.now.store c.write.new.self.store) (g.R.Rig.counts c.args.rig.now) (g.R.Rig.counts c.write.new.rig) c.write.ensures.fails.1.0 one s Done (a_write c.args.address c.args.block.now) (after (sizes_of c.args.store.now.store.journal.geo) s (a_write c.args.address c.args.block.now)) c.in-Err.fault c.write_fault.result c.write_fault.new.text (λ e. refl) (λ e. absurd (c.in-Err.ensures.fetches.0 e)) c.write_fault.ensures.line
    (c.in-Err.ensures.serves t basis one s kept).leaves c.in-Err.ensures.fails.0
    (λ is device. fault_costs c.args.store.now.store c.write.new.self.store (g.R.Rig.counts c.args.rig.now) (g.R.Rig.counts c.write.new.rig) c.write.ensures.fails.1.0 c.write.ensures.rows.grows.same_geo device (omega (arith, (c.in-Err.ensures.rows.failed is).fewer)))

pub returns-in-Err-clause-halt : goal.returns-in-Err-clause-halt
returns-in-Err-clause-halt g c = λ t basis one s kept.
    halts_either Done basis (g.F.Fingerprint.printed c.args.store.now.print) one s (after (sizes_of c.args.store.now.store.journal.geo) s (a_write c.args.address c.args.block.now)) c.write.new.self.store (g.R.Rig.world c.write.new.rig) _ (begun_costs c.args.store.now.store c.write.new.self.store (g.R.Rig.counts c.args.rig.now) (g.R.Rig.counts c.write.new.rig) c.write.ensures.fails.1.0 c.write.ensures.rows.grows.same_geo) c.in-Err.fault c.write_fault.result c.write_fault.new.text c.write_fault.ensures.line (c.in-Err.ensures.serves t basis one s kept).leaves
