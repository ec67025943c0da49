use Rattle.std.proofs.Common.{◌≡◌, ◌∙◌, ◌∷◌, ap, sym, subst, None, List}
use Rattle.dd_record.specs.declared.row.BRow.{BRow}
use Rattle.dd_record.specs.Table.{b_row}
use Rattle.dd_data.specs.Blocks.{Data}
use Rattle.dd_model.proofs.Falling.{last_falls}
use Rattle.dd_policy.proofs.Roomy.{find_roomy, fresh_front}
use Rattle.dd_policy.proofs.blocks.bring_fresh.Goals as goal

pub front_new-requires-clause-fresh : goal.front_new-requires-clause-fresh
front_new-requires-clause-fresh c =
    let old : Data = c.args.blocks.now in
    subst (λ (d : Data). b_row c.args.row.slot d.rows ≡ None) (sym c.make_room-drop.ensures.after) (find_roomy (λ (r : BRow). r.slot) c.args.row.slot old.bcap old.rows c.requires.fresh)

pub returns-clause-after : goal.returns-clause-after
returns-clause-after c =
    let old : Data = c.args.blocks.now in
    c.front_new.ensures
    ∙ ap (λ (d : Data). record { bcap = d.bcap; slots = d.slots; rows = c.args.row ∷ d.rows }) c.make_room-drop.ensures.after
    ∙ ap (λ (rows : List BRow). record { bcap = old.bcap; slots = old.slots; rows = rows }) (fresh_front (λ (r : BRow). r.slot) old.bcap c.args.row.slot c.args.row old.rows c.len.ensures.kept.some c.len.ensures.kept.few c.requires.fresh)

pub returns-clause-drop : goal.returns-clause-drop
returns-clause-drop c =
    let old : Data = c.args.blocks.now in
    c.make_room-drop.ensures.drop ∙ sym (last_falls (λ (r : BRow). r.slot) old.bcap c.len.ensures.kept.some c.args.row.slot c.args.row old.rows c.len.ensures.kept.few c.requires.fresh)
