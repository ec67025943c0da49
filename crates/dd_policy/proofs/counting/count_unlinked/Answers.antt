use Rattle.std.proofs.Common.{◌<◌, ◌∙◌, ap, arith, length, not, Bool}
use Rattle.std.proofs.lemmas.List.{length-map}
use Rattle.dd_record.specs.declared.row.ARow.{ARow}
use Rattle.dd_record.specs.Table.{is_link}
use Rattle.dd_meta.specs.Entries.{Entry, rows_of}
use Rattle.dd_policy.proofs.Steps.{count_step, goes_on, one_by, one_of}
use Rattle.dd_policy.proofs.counting.count_unlinked.Goals as goal
use Rattle.dd_policy.proofs.counting.count_unlinked.Goals.{in-Some, in_default}

pub loop-place-preserved : goal.loop-place-preserved
loop-place-preserved c =
    let rows = rows_of c.args.meta.now in
    let i = c.loop-place.invariant in
    elim c.match-at.branch [
      | in-Some w ↦
          let step =
          count_step (λ (r : ARow). r.address) (λ (r : ARow). not (is_link r.link)) rows c.loop-place._place c.loop-place.count w.from-count.result c.loop-place.at w.walk-at-in-Some.result w.in-Some.row c.len-all.ensures.keeps.addresses
          i.next i.few i.counted w.in-Some.is (w.from-count.ensures ∙ one_of (not w.is_link.result) ∙ ap (λ (b : Bool). one_by (not b)) w.is_link.ensures) w.walk-at-in-Some.ensures in
          record { next = w.at-is ∙ step.next; few = omega (arith, w.count-is, step.few); counted = w.count-is ∙ step.counted }
      | in_default w ↦
          let low : c.loop-place._place < length rows = omega (arith, c.loop-place-test.true, c.len-all.ensures.count, length-map c.args.meta.now.entries (λ (e : Entry). e.row)) in
          absurd (goes_on rows c.loop-place._place c.loop-place.at i.next low w.in_default.not-Some)
    ]
