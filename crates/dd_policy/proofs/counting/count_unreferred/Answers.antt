use Rattle.std.proofs.Common.{◌<◌, ◌∙◌, ap, arith, length, not, Bool}
use Rattle.dd_record.specs.declared.row.BRow.{BRow}
use Rattle.dd_meta.specs.Entries.{rows_of}
use Rattle.dd_model.specs.Orphans.{is_linked_to}
use Rattle.dd_policy.proofs.Steps.{count_step, goes_on, one_by, one_of}
use Rattle.dd_policy.proofs.counting.count_unreferred.Goals as goal
use Rattle.dd_policy.proofs.counting.count_unreferred.Goals.{in-Some, in_default}

pub loop-place-preserved : goal.loop-place-preserved
loop-place-preserved c =
    let rows = c.args.blocks.now.rows in
    let i = c.loop-place.invariant in
    elim c.match-at.branch [
      | in-Some w ↦
          let step =
          count_step (λ (r : BRow). r.slot) (λ (r : BRow). not (is_linked_to r.slot (rows_of c.args.meta.now))) rows c.loop-place._place c.loop-place.count w.from-count.result c.loop-place.at w.next-at-in-Some.result w.in-Some.row c.len-all.ensures.kept.apart
          i.next i.few i.counted w.in-Some.is (w.from-count.ensures ∙ one_of (not w.is_referred.result) ∙ ap (λ (b : Bool). one_by (not b)) w.is_referred.ensures) w.next-at-in-Some.ensures in
          record { next = w.at-is ∙ step.next; few = omega (arith, w.count-is, step.few); counted = w.count-is ∙ step.counted }
      | in_default w ↦
          let low : c.loop-place._place < length rows = omega (arith, c.loop-place-test.true, c.len-all.ensures.count) in
          absurd (goes_on rows c.loop-place._place c.loop-place.at i.next low w.in_default.not-Some)
    ]
