use Rattle.std.proofs.Common.{rules, ℕ, length, sym, ◌∙◌, ap, arith}
use Rattle.dd_script.specs.Command.{flush as a_flush}
use Rattle.dd_store.specs.Keeping.{StoreView}
use Rattle.dd_store.specs.Meaning.{sizes_of}
use Rattle.dd_answers.specs.Costs.{CostsLines}
use Rattle.dd_answers.proofs.Costs.{begun_costs, flushed_costs, no_disk, no_read}
use Rattle.dd_answers.proofs.Replying.{within_call, replies_flush, tells_fault, halts_either}
use Rattle.dd_answers.proofs.lines.write_flushed.Goals as goal

pub returns-in-Ok-clause-crash : goal.returns-in-Ok-clause-crash
returns-in-Ok-clause-crash g c = λ t basis one s kept. within_call basis (g.F.Fingerprint.printed c.args.store.now.print) one s (g.R.Rig.world c.args.rig.now) (c.flush.ensures.serves t basis one s kept).crash (c.flush.ensures.silent t).0

pub returns-in-Err-clause-crash : goal.returns-in-Err-clause-crash
returns-in-Err-clause-crash g c = λ t basis one s kept. within_call basis (g.F.Fingerprint.printed c.args.store.now.print) one s (g.R.Rig.world c.args.rig.now) (c.flush.ensures.serves t basis one s kept).crash (c.flush.ensures.silent t).0

pub returns-in-Ok-clause-answer : goal.returns-in-Ok-clause-answer
returns-in-Ok-clause-answer g c = λ t basis one s kept.
    let now = c.in-Ok.ensures.committed t basis one s kept in (
      _,
      c.write_reply.ensures.text,
      replies_flush basis (g.F.Fingerprint.printed c.args.store.now.print) (sizes_of c.args.store.now.store.journal.geo) c.flush.new.self.store (g.R.Rig.world c.flush.new.rig) (CostsLines c.args.store.now.store c.flush.new.self.store) (g.R.Rig.counts c.args.rig.now) (g.R.Rig.counts c.flush.new.rig) c.flush.ensures.fails.1.0 one s c.in-Ok.count (search rules) c.write_reply.ensures.line (c.in-Ok.ensures.count.0 ∙ sym kept.holds.means.lists.counted) now
          (flushed_costs c.args.store.now.store c.flush.new.self.store (g.R.Rig.counts c.args.rig.now) (g.R.Rig.counts c.flush.new.rig) c.flush.ensures.fails.1.0 c.flush.ensures.grows.same_geo c.in-Ok.count (omega (arith, ap (λ (v : StoreView). length v.dirty) c.in-Ok.ensures.store)) (no_disk (g.R.Rig.counts c.args.rig.now) (g.R.Rig.counts c.flush.new.rig) c.flush.ensures.costs.disk)),
    )

pub returns-in-Err-clause-answer : goal.returns-in-Err-clause-answer
returns-in-Err-clause-answer g c = λ t basis one s kept.
    tells_fault basis (g.F.Fingerprint.printed c.args.store.now.print) (sizes_of c.args.store.now.store.journal.geo) c.flush.new.self.store (g.R.Rig.world c.flush.new.rig) (CostsLines c.args.store.now.store c.flush.new.self.store) (g.R.Rig.counts c.args.rig.now) (g.R.Rig.counts c.flush.new.rig) c.flush.ensures.fails.1.0 one s ℕ a_flush s c.in-Err.fault c.write_fault.result c.write_fault.new.text (λ e. absurd (cc (e, c.in-Err.ensures.fault))) (λ e. absurd (cc (e, c.in-Err.ensures.fault))) c.write_fault.ensures.line
    (c.in-Err.ensures.serves t basis one s kept).leaves c.in-Err.ensures.fails.0
    (λ is. absurd (no_read c.in-Err.fault c.in-Err.ensures.fault is))

pub returns-in-Err-clause-halt : goal.returns-in-Err-clause-halt
returns-in-Err-clause-halt g c = λ t basis one s kept.
    halts_either ℕ basis (g.F.Fingerprint.printed c.args.store.now.print) one s s c.flush.new.self.store (g.R.Rig.world c.flush.new.rig) _ (begun_costs c.args.store.now.store c.flush.new.self.store (g.R.Rig.counts c.args.rig.now) (g.R.Rig.counts c.flush.new.rig) c.flush.ensures.fails.1.0 c.flush.ensures.grows.same_geo) c.in-Err.fault c.write_fault.result c.write_fault.new.text c.write_fault.ensures.line (c.in-Err.ensures.serves t basis one s kept).leaves
