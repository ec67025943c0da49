use Rattle.std.proofs.Common.{refl, arith}
use Rattle.dd_script.specs.Command.{clean as a_clean}
use Rattle.dd_store.specs.Meaning.{sizes_of}
use Rattle.dd_answers.specs.Costs.{CostsLines}
use Rattle.dd_answers.proofs.Costs.{begun_costs, cleaned_costs, cleans_by, fault_costs}
use Rattle.dd_answers.proofs.Replying.{within_call, replies_clean, tells_fault, halts_either}
use Rattle.dd_answers.proofs.lines.write_cleaned.Goals as goal

pub returns-in-Ok-clause-crash : goal.returns-in-Ok-clause-crash
returns-in-Ok-clause-crash g c = λ t basis one s kept. within_call basis (g.F.Fingerprint.printed c.args.store.now.print) one s (g.R.Rig.world c.args.rig.now) (c.clean.ensures.serves t basis one s kept).crash (c.clean.ensures.silent t).0

pub returns-in-Err-clause-crash : goal.returns-in-Err-clause-crash
returns-in-Err-clause-crash g c = λ t basis one s kept. within_call basis (g.F.Fingerprint.printed c.args.store.now.print) one s (g.R.Rig.world c.args.rig.now) (c.clean.ensures.serves t basis one s kept).crash (c.clean.ensures.silent t).0

pub returns-in-Ok-clause-answer : goal.returns-in-Ok-clause-answer
returns-in-Ok-clause-answer g c = λ t basis one s kept. (
  _,
  c.write_reply.ensures.text,
  replies_clean basis (g.F.Fingerprint.printed c.args.store.now.print) (sizes_of c.args.store.now.store.journal.geo) c.clean.new.self.store (g.R.Rig.world c.clean.new.rig) (CostsLines c.args.store.now.store c.clean.new.self.store) (g.R.Rig.counts c.args.rig.now) (g.R.Rig.counts c.clean.new.rig) c.clean.ensures.fails.1.0 one s c.write_reply.ensures.line (c.in-Ok.ensures.serves t basis one s kept).leaves
      (cleaned_costs c.args.store.now.store c.clean.new.self.store (g.R.Rig.counts c.args.rig.now) (g.R.Rig.counts c.clean.new.rig) c.clean.ensures.fails.1.0 c.clean.ensures.rows.grows.same_geo c.in-Ok.ensures.none c.in-Ok.ensures.loads),
)

pub returns-in-Err-clause-answer : goal.returns-in-Err-clause-answer
returns-in-Err-clause-answer g c = λ t basis one s kept.
    tells_fault basis (g.F.Fingerprint.printed c.args.store.now.print) (sizes_of c.args.store.now.store.journal.geo) c.clean.new.self.store (g.R.Rig.world c.clean.new.rig) (CostsLines c.args.store.now.store c.clean.new.self.store) (g.R.Rig.counts c.args.rig.now) (g.R.Rig.counts c.clean.new.rig) c.clean.ensures.fails.1.0 one s Unit a_clean s c.in-Err.fault c.write_fault.result c.write_fault.new.text (λ e. refl) (λ e. absurd (c.in-Err.ensures.fetches.0 e)) c.write_fault.ensures.line
    (c.in-Err.ensures.serves t basis one s kept).leaves c.in-Err.ensures.fails.0
    (λ is device. fault_costs c.args.store.now.store c.clean.new.self.store (g.R.Rig.counts c.args.rig.now) (g.R.Rig.counts c.clean.new.rig) c.clean.ensures.fails.1.0 c.clean.ensures.rows.grows.same_geo device (omega (arith, (cleans_by _ c.in-Err.fault c.in-Err.ensures.fetches.0 c.in-Err.ensures.rows.failed is).fewer)))

pub returns-in-Err-clause-halt : goal.returns-in-Err-clause-halt
returns-in-Err-clause-halt g c = λ t basis one s kept.
    halts_either Unit basis (g.F.Fingerprint.printed c.args.store.now.print) one s s c.clean.new.self.store (g.R.Rig.world c.clean.new.rig) _ (begun_costs c.args.store.now.store c.clean.new.self.store (g.R.Rig.counts c.args.rig.now) (g.R.Rig.counts c.clean.new.rig) c.clean.ensures.fails.1.0 c.clean.ensures.rows.grows.same_geo) c.in-Err.fault c.write_fault.result c.write_fault.new.text c.write_fault.ensures.line (c.in-Err.ensures.serves t basis one s kept).leaves
