use Rattle.std.proofs.Common.{◌≡◌, ◌<◌, ◌+◌, ◌-◌, ◌∙◌, ap, sym, arith, length, drop}
use Rattle.dd_record.specs.Table.{b_row}
use Rattle.dd_data.specs.Blocks.{Data}
use Rattle.dd_policy.proofs.Taken.{drop_fresh}
use Rattle.dd_policy.proofs.restoring.fill_blocks.Goals as goal

pub front_new-requires-clause-fresh : goal.front_new-requires-clause-fresh
front_new-requires-clause-fresh c =
    let more : c.loop-at.at - 1 + 1 ≡ c.loop-at.at = omega (arith, c.loop-at-test.true) in
    let low : c.loop-at.at - 1 < length c.args.b.now = omega (arith, c.loop-at-test.true, c.loop-at.auto) in
    ap (b_row _) (ap (λ (d : Data). d.rows) c.loop-at.invariant ∙ ap (λ n. drop n c.args.b.now) (sym more)) ∙ drop_fresh c.args.b.now (c.loop-at.at - 1) _ low c.requires.apart
