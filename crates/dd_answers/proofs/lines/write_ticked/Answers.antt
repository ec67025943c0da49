use Rattle.std.proofs.Common.{ℕ, refl, arith}
use Rattle.std.specs.Prelude.{Option}
use Rattle.dd_script.specs.Command.{tick as a_tick}
use Rattle.dd_store.specs.Meaning.{sizes_of}
use Rattle.dd_answers.specs.Costs.{CostsLines}
use Rattle.dd_answers.proofs.Costs.{begun_costs, ticked_costs, cleans_by, fault_costs}
use Rattle.dd_answers.proofs.Replying.{within_call, replies_tick, tells_fault, halts_either}
use Rattle.dd_answers.proofs.lines.write_ticked.Goals as goal

pub returns-in-Ok-clause-crash : goal.returns-in-Ok-clause-crash
returns-in-Ok-clause-crash g c = λ t basis one s kept. within_call basis (g.F.Fingerprint.printed c.args.store.now.print) one s (g.R.Rig.world c.args.rig.now) (c.tick.ensures.serves t basis one s kept).crash (c.tick.ensures.silent t).0

pub returns-in-Err-clause-crash : goal.returns-in-Err-clause-crash
returns-in-Err-clause-crash g c = λ t basis one s kept. within_call basis (g.F.Fingerprint.printed c.args.store.now.print) one s (g.R.Rig.world c.args.rig.now) (c.tick.ensures.serves t basis one s kept).crash (c.tick.ensures.silent t).0

pub returns-in-Ok-clause-answer : goal.returns-in-Ok-clause-answer
returns-in-Ok-clause-answer g c = λ t basis one s kept. (
  _,
  c.write_reply.ensures.text,
  replies_tick basis (g.F.Fingerprint.printed c.args.store.now.print) (sizes_of c.args.store.now.store.journal.geo) c.tick.new.self.store (g.R.Rig.world c.tick.new.rig) (CostsLines c.args.store.now.store c.tick.new.self.store) (g.R.Rig.counts c.args.rig.now) (g.R.Rig.counts c.tick.new.rig) c.tick.ensures.fails.1.0 one s c.write_reply.ensures.line (c.in-Ok.ensures.serves t basis one s kept).leaves
      (ticked_costs c.args.store.now.store c.tick.new.self.store (g.R.Rig.counts c.args.rig.now) (g.R.Rig.counts c.tick.new.rig) c.tick.ensures.fails.1.0 c.tick.ensures.cleans.grows.same_geo c.in-Ok.field-0 c.in-Ok.ensures.oldest.0 c.in-Ok.ensures.oldest.1 c.in-Ok.ensures.cleans.cleaned c.in-Ok.ensures.loads),
)

pub returns-in-Err-clause-answer : goal.returns-in-Err-clause-answer
returns-in-Err-clause-answer g c = λ t basis one s kept.
    tells_fault basis (g.F.Fingerprint.printed c.args.store.now.print) (sizes_of c.args.store.now.store.journal.geo) c.tick.new.self.store (g.R.Rig.world c.tick.new.rig) (CostsLines c.args.store.now.store c.tick.new.self.store) (g.R.Rig.counts c.args.rig.now) (g.R.Rig.counts c.tick.new.rig) c.tick.ensures.fails.1.0 one s (Option ℕ) a_tick s c.in-Err.fault c.write_fault.result c.write_fault.new.text (λ e. refl) (λ e. absurd (c.in-Err.ensures.fetches.0 e)) c.write_fault.ensures.line
    (c.in-Err.ensures.serves t basis one s kept).leaves c.in-Err.ensures.fails.0
    (λ is device. fault_costs c.args.store.now.store c.tick.new.self.store (g.R.Rig.counts c.args.rig.now) (g.R.Rig.counts c.tick.new.rig) c.tick.ensures.fails.1.0 c.tick.ensures.cleans.grows.same_geo device (omega (arith, (cleans_by _ c.in-Err.fault c.in-Err.ensures.fetches.0 c.in-Err.ensures.cleans.failed is).fewer)))

pub returns-in-Err-clause-halt : goal.returns-in-Err-clause-halt
returns-in-Err-clause-halt g c = λ t basis one s kept.
    halts_either (Option ℕ) basis (g.F.Fingerprint.printed c.args.store.now.print) one s s c.tick.new.self.store (g.R.Rig.world c.tick.new.rig) _ (begun_costs c.args.store.now.store c.tick.new.self.store (g.R.Rig.counts c.args.rig.now) (g.R.Rig.counts c.tick.new.rig) c.tick.ensures.fails.1.0 c.tick.ensures.cleans.grows.same_geo) c.in-Err.fault c.write_fault.result c.write_fault.new.text c.write_fault.ensures.line (c.in-Err.ensures.serves t basis one s kept).leaves
