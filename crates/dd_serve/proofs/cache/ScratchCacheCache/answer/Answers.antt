use Rattle.dd_rig.specs.World.{World}
use Rattle.dd_serve.specs.Laws.{scratched_both}
use Rattle.dd_serve.proofs.Moments.{answer_moment}
use Rattle.dd_serve.proofs.Replying.{halts_all}
use Rattle.dd_serve.proofs.cache.ScratchCacheCache.answer.Goals as goal

pub returns-clause-crash : goal.returns-clause-crash
returns-clause-crash g c = λ t first one s kept. answer_moment _ _ first (g.R.Rig.world c.args.rig.now) one s kept.since (c.write_answer.ensures.time t)

pub returns-clause-halt : goal.returns-clause-halt
returns-clause-halt g c = λ t first one s kept.
    let old : World = g.R.Rig.world c.args.rig.now in
    let new : World = g.R.Rig.world c.write_answer.new.rig in
    halts_all c.write_answer.result c.args.self.now.scratch c.write_answer.new.scratch first new (g.R.Rig.counts c.args.rig.now) (g.R.Rig.counts c.write_answer.new.rig) one s
    (scratched_both first old new kept.since (c.write_answer.ensures.others t).0) c.write_answer.ensures.sizes c.write_answer.ensures.begun
