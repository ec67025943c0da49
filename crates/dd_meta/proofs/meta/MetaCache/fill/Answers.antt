use Rattle.std.proofs.Common.{◌≡◌, ◌+◌, ◌-◌, ◌<◌, length, drop, sym, ◌∙◌, ap, arith, refl, map}
use Rattle.dd_meta.specs.Entries.{Entry}
use Rattle.dd_meta.specs.Walks.{dirty_of_rows}
use Rattle.dd_meta.proofs.Emptying.{nothing_dirty}
use Rattle.dd_meta.proofs.Filled.{fill_step, drop_all}
use Rattle.dd_meta.proofs.meta.MetaCache.fill.Goals as goal

pub loop-at-init : goal.loop-at-init
loop-at-init c = (
  ap (map (λ (e : Entry). e.row)) c.requires.empty ∙ sym (drop_all c.args.rows.now),
  nothing_dirty c.args.self.now c.len.ensures.keeps c.requires.empty ∙ ap dirty_of_rows (sym (drop_all c.args.rows.now)),
  refl,
  refl,
  c.len.ensures.keeps,
)

pub loop-at-preserved : goal.loop-at-preserved
loop-at-preserved c =
    let more : c.loop-at.at - 1 + 1 ≡ c.loop-at.at = omega (arith, c.loop-at-test.true) in
    let low : c.loop-at.at - 1 < length c.args.rows.now = omega (arith, c.loop-at-test.true, c.loop-at.auto) in
    let step =
    fill_step c.args.rows.now (c.loop-at.at - 1) _ low c.requires.addresses c.loop-at.self c.front.new.self c.front.ensures.after
    (c.loop-at.invariant.0 ∙ ap (λ n. drop n c.args.rows.now) (sym more)) (c.loop-at.invariant.1 ∙ ap (λ n. dirty_of_rows (drop n c.args.rows.now)) (sym more)) in
    (step.0, step.1, c.front.ensures.after.acap ∙ c.loop-at.invariant.2, c.front.ensures.after.slots ∙ c.loop-at.invariant.3, c.front.ensures.keeps)
