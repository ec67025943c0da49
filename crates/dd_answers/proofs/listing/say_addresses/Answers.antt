use Rattle.std.proofs.Common.{rules, ◌<◌, ℕ, take, sym, ◌∙◌, subst}
use Rattle.dd_rig.proofs.Falling.{frame_trans}
use Rattle.dd_rig.specs.World.{World}
use Rattle.dd_record.specs.declared.row.ARow.{ARow}
use Rattle.dd_answers.specs.Listed.{a_entry}
use Rattle.dd_answers.proofs.Pieces.{at_row, at_end, said_listed, said_on, said_cut, said_all, says_all, rows_left, walk_shrinks}
use Rattle.dd_answers.proofs.listing.say_addresses.Goals as goal

abbrev key : ARow → ℕ
key row = row.address

pub returns-in_err-say-clause-says : goal.returns-in_err-say-clause-says
returns-in_err-say-clause-says g c = λ t.
    let rows = g.T.Rows.a_rows c.args.rows.now in
    let old : World = g.R.Rig.world c.args.rig.now in
    let here : World = g.R.Rig.world c.loop-next.rig in
    let first = g.R.Rig.clock c.args.rig.now in
    let now = g.R.Rig.clock c.loop-next.rig in
    let s = at_row a_entry key rows g.R.Rig.tells first now old here c.loop-next.next c.in-Some.row c.in-Some.is c.loop-next.invariant.said in
    said_cut a_entry key rows g.R.Rig.tells first now old here c.requires.distinct c.in-Some.row s (take c.list_a-size.result c.list_a-size.new.into) c.list_a-size.ensures.text (g.R.Rig.world c.say.new.rig)
    (λ u. record { part = c.say.ensures.part u; within = c.say.ensures.time u }) t

pub walk_a-next-requires-in-Some : goal.walk_a-next-requires-in-Some
walk_a-next-requires-in-Some g c =
    let rows = g.T.Rows.a_rows c.args.rows.now in
    let old : World = g.R.Rig.world c.args.rig.now in
    let here : World = g.R.Rig.world c.loop-next.rig in
    let first = g.R.Rig.clock c.args.rig.now in
    let now = g.R.Rig.clock c.loop-next.rig in
    said_listed a_entry key rows g.R.Rig.tells first now old here c.requires.distinct c.in-Some.row (at_row a_entry key rows g.R.Rig.tells first now old here c.loop-next.next c.in-Some.row c.in-Some.is c.loop-next.invariant.said)

pub loop-next-smaller : goal.loop-next-smaller
loop-next-smaller g c =
    let rows = g.T.Rows.a_rows c.args.rows.now in
    let old : World = g.R.Rig.world c.args.rig.now in
    let here : World = g.R.Rig.world c.loop-next.rig in
    let first = g.R.Rig.clock c.args.rig.now in
    let now = g.R.Rig.clock c.loop-next.rig in
    let s = at_row a_entry key rows g.R.Rig.tells first now old here c.loop-next.next c.in-Some.row c.in-Some.is c.loop-next.invariant.said in
    let less = walk_shrinks a_entry key rows g.R.Rig.tells first now now old here here c.requires.distinct c.in-Some.row c.walk_a-next-in-Some.result s c.walk_a-next-in-Some.ensures in
    subst (λ n. rows_left key c.walk_a-next-in-Some.result rows < rows_left key n rows) (sym c.in-Some.is) less

pub loop-next-preserved : goal.loop-next-preserved
loop-next-preserved g c =
    let rows = g.T.Rows.a_rows c.args.rows.now in
    let old : World = g.R.Rig.world c.args.rig.now in
    let here : World = g.R.Rig.world c.loop-next.rig in
    let first = g.R.Rig.clock c.args.rig.now in
    let now = g.R.Rig.clock c.loop-next.rig in
    let s = at_row a_entry key rows g.R.Rig.tells first now old here c.loop-next.next c.in-Some.row c.in-Some.is c.loop-next.invariant.said in
    record {
      said = said_on a_entry key rows g.R.Rig.tells first now old here c.requires.distinct c.in-Some.row s (take c.list_a-size.result c.list_a-size.new.into) c.list_a-size.ensures.text c.walk_a-next-in-Some.result (g.R.Rig.world c.say.new.rig)
          c.walk_a-next-in-Some.ensures c.in_ok-say.ensures.said (λ u. record { part = c.say.ensures.part u; within = c.say.ensures.time u });
      idle = (c.say.ensures.idle.0 ∙ c.loop-next.invariant.idle.0, c.say.ensures.idle.1 ∙ c.loop-next.invariant.idle.1);
      frame = frame_trans _ _ _ _ _ _ c.loop-next.invariant.frame c.say.ensures.frame;
      room = c.list_a-size.auto.into ∙ c.loop-next.invariant.room;
    }

pub returns-clause-says : goal.returns-clause-says
returns-clause-says g c =
    let rows = g.T.Rows.a_rows c.args.rows.now in
    let old : World = g.R.Rig.world c.args.rig.now in
    let here : World = g.R.Rig.world c.loop-next.rig in
    let first = g.R.Rig.clock c.args.rig.now in
    let now = g.R.Rig.clock c.loop-next.rig in
    says_all a_entry key rows g.R.Rig.tells first now old here (at_end a_entry key rows g.R.Rig.tells first now old here c.loop-next.next (search rules) c.loop-next.invariant.said)

pub returns-clause-said : goal.returns-clause-said
returns-clause-said g c =
    let rows = g.T.Rows.a_rows c.args.rows.now in
    let old : World = g.R.Rig.world c.args.rig.now in
    let here : World = g.R.Rig.world c.loop-next.rig in
    let first = g.R.Rig.clock c.args.rig.now in
    let now = g.R.Rig.clock c.loop-next.rig in
    said_all a_entry key rows g.R.Rig.tells first now old here (at_end a_entry key rows g.R.Rig.tells first now old here c.loop-next.next (search rules) c.loop-next.invariant.said)
