use Rattle.std.proofs.Common.{ℕ, List, ap, subst, ◌∙◌}
use Rattle.dd_block.specs.declared.print.Fp.{Fp}
use Rattle.dd_layout.specs.Layout.{slot_block}
use Rattle.dd_rig.specs.World.{World, say}
use Rattle.dd_record.specs.Table.{Table}
use Rattle.dd_script.specs.Text.{ended}
use Rattle.dd_store.specs.Meaning.{sizes_of}
use Rattle.dd_loop.specs.Saying.{SaysPiece}
use Rattle.dd_loop.proofs.More.{more_some}
use Rattle.dd_answers.specs.Listed.{rows_text}
use Rattle.dd_answers.proofs.Listed.{on_ok, rows_say}
use Rattle.dd_answers.proofs.cache.StoreCacheCache.list.Goals as goal

pub returns-clause-says : goal.returns-clause-says
returns-clause-says g c = λ t first one s kept.
    let print : List ℕ → Fp = g.F.Fingerprint.printed c.args.self.now.store.print in
    let store = c.args.self.now.store.store in
    let world : World = g.R.Rig.world c.args.rig.now in
    let lists = c.lists.result.now in
    let a = g.met.L.Lists.same_a lists ∙ ap (λ (t : Table). t.a) c.lists.ensures.table in
    let b = g.met.L.Lists.same_b lists ∙ ap (λ (t : Table). t.b) c.lists.ensures.table in
    let is = ap (λ rows. rows_text rows (g.L.Rows.b_rows lists)) a ∙ ap (λ rows. rows_text store.table.a rows) b ∙ rows_say print (sizes_of store.journal.geo) (slot_block store.journal.geo world.flash.shown) store.table store.count s kept.2.holds.means.lists in
    subst (λ (l : List ℕ). SaysPiece (ended l) (g.R.Rig.clock c.args.rig.now) (g.R.Rig.clock c.say_rows.new.rig) world (g.R.Rig.world c.say_rows.new.rig)) is (c.say_rows.ensures.says t)

pub returns-clause-said : goal.returns-clause-said
returns-clause-said g c = λ t first one s kept.
    let print : List ℕ → Fp = g.F.Fingerprint.printed c.args.self.now.store.print in
    let store = c.args.self.now.store.store in
    let world : World = g.R.Rig.world c.args.rig.now in
    let lists = c.lists.result.now in
    let a = g.met.L.Lists.same_a lists ∙ ap (λ (t : Table). t.a) c.lists.ensures.table in
    let b = g.met.L.Lists.same_b lists ∙ ap (λ (t : Table). t.b) c.lists.ensures.table in
    let is = ap (λ rows. rows_text rows (g.L.Rows.b_rows lists)) a ∙ ap (λ rows. rows_text store.table.a rows) b ∙ rows_say print (sizes_of store.journal.geo) (slot_block store.journal.geo world.flash.shown) store.table store.count s kept.2.holds.means.lists in
    on_ok c.say_rows.result _ _ (λ now. now ∙ ap (λ (l : List ℕ). say (ended l) world) is) (c.say_rows.ensures.said t)

pub returns-clause-more : goal.returns-clause-more
returns-clause-more g c = λ t. more_some _ (g.R.Rig.world c.args.rig.now) (g.R.Rig.world c.say_rows.new.rig) (c.say_rows.ensures.says t).part
