use Rattle.std.proofs.Common.{ℕ, List, ap, subst, sym, ◌∙◌}
use Rattle.dd_block.specs.declared.print.Fp.{Fp}
use Rattle.dd_rig.specs.World.{World, say}
use Rattle.dd_model.specs.Listing.{Listing}
use Rattle.dd_model.specs.State.{State}
use Rattle.dd_script.specs.Command.{lists}
use Rattle.dd_script.specs.Output.{reply_line}
use Rattle.dd_script.specs.Text.{ended}
use Rattle.dd_loop.specs.Saying.{SaysPiece}
use Rattle.dd_loop.proofs.More.{more_some}
use Rattle.dd_answers.specs.Listed.{rows_text}
use Rattle.dd_answers.proofs.Listed.{on_ok, rows_say}
use Rattle.dd_serve.specs.Scratch.{ScratchView, held_in, scratch_sizes, scratch_state}
use Rattle.dd_serve.proofs.cache.ScratchCacheCache.list.Goals as goal

pub returns-clause-says : goal.returns-clause-says
returns-clause-says g c = λ t first one s kept.
    let print : List ℕ → Fp = g.F.Fingerprint.printed c.args.self.now.print in
    let scratch : ScratchView = c.args.self.now.scratch in
    let world : World = g.R.Rig.world c.args.rig.now in
    let ls = c.lists.result.now in
    let a = g.met.L.Lists.same_a ls ∙ ap (λ (l : Listing). l.table.a) c.lists.ensures in
    let b = g.met.L.Lists.same_b ls ∙ ap (λ (l : Listing). l.table.b) c.lists.ensures in
    let is = ap (λ rows. rows_text rows (g.L.Rows.b_rows ls)) a ∙ ap (λ rows. rows_text scratch.lists.table.a rows) b
    ∙ rows_say print (scratch_sizes scratch) (held_in scratch.slots world) scratch.lists.table scratch.count (scratch_state scratch world) kept.sound.0 ∙ ap (λ (x : State). reply_line print (scratch_sizes scratch) x lists) (sym kept.is) in
    subst (λ (l : List ℕ). SaysPiece (ended l) (g.R.Rig.clock c.args.rig.now) (g.R.Rig.clock c.say_rows.new.rig) world (g.R.Rig.world c.say_rows.new.rig)) is (c.say_rows.ensures.says t)

pub returns-clause-said : goal.returns-clause-said
returns-clause-said g c = λ t first one s kept.
    let print : List ℕ → Fp = g.F.Fingerprint.printed c.args.self.now.print in
    let scratch : ScratchView = c.args.self.now.scratch in
    let world : World = g.R.Rig.world c.args.rig.now in
    let ls = c.lists.result.now in
    let a = g.met.L.Lists.same_a ls ∙ ap (λ (l : Listing). l.table.a) c.lists.ensures in
    let b = g.met.L.Lists.same_b ls ∙ ap (λ (l : Listing). l.table.b) c.lists.ensures in
    let is = ap (λ rows. rows_text rows (g.L.Rows.b_rows ls)) a ∙ ap (λ rows. rows_text scratch.lists.table.a rows) b
    ∙ rows_say print (scratch_sizes scratch) (held_in scratch.slots world) scratch.lists.table scratch.count (scratch_state scratch world) kept.sound.0 ∙ ap (λ (x : State). reply_line print (scratch_sizes scratch) x lists) (sym kept.is) in
    on_ok c.say_rows.result _ _ (λ now. now ∙ ap (λ (l : List ℕ). say (ended l) world) is) (c.say_rows.ensures.said t)

pub returns-clause-more : goal.returns-clause-more
returns-clause-more g c = λ t. more_some _ (g.R.Rig.world c.args.rig.now) (g.R.Rig.world c.say_rows.new.rig) (c.say_rows.ensures.says t).part
