use Rattle.std.proofs.Common.{inl, inr, refl, sym, subst, arith}
use Rattle.dd_model.specs.declared.done.Done.{Done}
use Rattle.dd_script.specs.Command.{read as a_read, after}
use Rattle.dd_store.specs.Meaning.{sizes_of}
use Rattle.dd_answers.specs.Costs.{CostsLines}
use Rattle.dd_answers.proofs.Costs.{begun_costs, fault_costs, read_costs, IsRead, is_read}
use Rattle.dd_answers.proofs.Replying.{within_call, replies_read, tells_fault, halts_either}
use Rattle.dd_answers.proofs.lines.write_read.Goals as goal

pub returns-in-Ok-clause-crash : goal.returns-in-Ok-clause-crash
returns-in-Ok-clause-crash g c = λ t basis one s kept. within_call basis (g.F.Fingerprint.printed c.args.store.now.print) one s (g.R.Rig.world c.args.rig.now) (c.read.ensures.serves t basis one s kept).crash (c.read.ensures.silent t).0

pub returns-in-Err-clause-crash : goal.returns-in-Err-clause-crash
returns-in-Err-clause-crash g c = λ t basis one s kept. within_call basis (g.F.Fingerprint.printed c.args.store.now.print) one s (g.R.Rig.world c.args.rig.now) (c.read.ensures.serves t basis one s kept).crash (c.read.ensures.silent t).0

pub returns-in-Ok-clause-answer : goal.returns-in-Ok-clause-answer
returns-in-Ok-clause-answer g c = λ t basis one s kept.
    let left = (c.in-Ok.ensures.serves t basis one s kept).leaves in
    let told = c.in-Ok.ensures.tells t s kept.holds in (
      _,
      c.reply_read.ensures.text,
      replies_read basis (g.F.Fingerprint.printed c.args.store.now.print) (sizes_of c.args.store.now.store.journal.geo) c.read.new.self.store (g.R.Rig.world c.read.new.rig) (CostsLines c.args.store.now.store c.read.new.self.store) (g.R.Rig.counts c.args.rig.now) (g.R.Rig.counts c.read.new.rig) c.read.ensures.fails.1.0 one s c.args.address c.read.new.into c.in-Ok.done c.reply_read.ensures.line told.0 told.1 left
          (read_costs c.args.store.now.store c.read.new.self.store (g.R.Rig.counts c.args.rig.now) (g.R.Rig.counts c.read.new.rig) c.read.ensures.fails.1.0 c.read.ensures.rows.grows.same_geo c.args.address c.read.new.into c.in-Ok.done (subst IsRead (sym told.1.kind) (is_read _ _)) c.in-Ok.ensures.rows.made c.in-Ok.ensures.costs.hit_reads c.in-Ok.ensures.costs.loads c.in-Ok.ensures.costs.calm),
    )

pub returns-in-Err-clause-answer : goal.returns-in-Err-clause-answer
returns-in-Err-clause-answer g c = λ t basis one s kept.
    tells_fault basis (g.F.Fingerprint.printed c.args.store.now.print) (sizes_of c.args.store.now.store.journal.geo) c.read.new.self.store (g.R.Rig.world c.read.new.rig) (CostsLines c.args.store.now.store c.read.new.self.store) (g.R.Rig.counts c.args.rig.now) (g.R.Rig.counts c.read.new.rig) c.read.ensures.fails.1.0 one s Done (a_read c.args.address) (after (sizes_of c.args.store.now.store.journal.geo) s (a_read c.args.address)) c.in-Err.fault c.write_fault.result c.write_fault.new.text (λ e. inl refl) (λ e. inr refl) c.write_fault.ensures.line
    (c.in-Err.ensures.serves t basis one s kept).leaves c.in-Err.ensures.fails.0
    (λ is device. fault_costs c.args.store.now.store c.read.new.self.store (g.R.Rig.counts c.args.rig.now) (g.R.Rig.counts c.read.new.rig) c.read.ensures.fails.1.0 c.read.ensures.rows.grows.same_geo device (omega (arith, (c.in-Err.ensures.rows.failed is).fewer)))

pub returns-in-Err-clause-halt : goal.returns-in-Err-clause-halt
returns-in-Err-clause-halt g c = λ t basis one s kept.
    halts_either Done basis (g.F.Fingerprint.printed c.args.store.now.print) one s (after (sizes_of c.args.store.now.store.journal.geo) s (a_read c.args.address)) c.read.new.self.store (g.R.Rig.world c.read.new.rig) _ (begun_costs c.args.store.now.store c.read.new.self.store (g.R.Rig.counts c.args.rig.now) (g.R.Rig.counts c.read.new.rig) c.read.ensures.fails.1.0 c.read.ensures.rows.grows.same_geo) c.in-Err.fault c.write_fault.result c.write_fault.new.text c.write_fault.ensures.line (c.in-Err.ensures.serves t basis one s kept).leaves
