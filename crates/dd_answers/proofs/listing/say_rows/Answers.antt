use Rattle.std.proofs.Common.{ℕ, List, ◌++◌, codes, subst, ◌∙◌, ap}
use Rattle.std.specs.List.{flat_map}
use Rattle.dd_rig.specs.Clock.{Clock}
use Rattle.dd_rig.specs.World.{World, say}
use Rattle.dd_loop.specs.Saying.{SaysPiece}
use Rattle.dd_answers.specs.Listed.{a_entry, b_entry}
use Rattle.dd_answers.proofs.Listed.{Sofar, cut_one, cut_two, cut_three, cut_four, on_ok, one_more, some_more, whole_text}
use Rattle.dd_answers.proofs.Pieces.{said_both}
use Rattle.dd_answers.proofs.listing.say_rows.Goals as goal

pub returns-in_err-say-clause-says : goal.returns-in_err-say-clause-says
returns-in_err-say-clause-says g c = λ t.
    let rows = c.args.rows.now in
    let world = g.R.Rig.world in
    let clock = g.R.Rig.clock in
    let old : World = world c.args.rig.now in
    let first : Clock = clock c.args.rig.now in
    let a : List ℕ = flat_map a_entry (g.T.Rows.a_rows rows) in
    let b : List ℕ = flat_map b_entry (g.T.Rows.b_rows rows) in
    let whole = whole_text (g.T.Rows.a_rows rows) (g.T.Rows.b_rows rows) in
    subst (λ (l : List ℕ). SaysPiece l first (clock c.say.new.rig) old (world c.say.new.rig)) whole
    (cut_one old first (codes "A") a (codes " B") b (codes "\n") (clock c.say.new.rig) (world c.say.new.rig) (record { part = c.say.ensures.part t; within = c.say.ensures.time t }))

pub returns-in_err-say_addresses-clause-says : goal.returns-in_err-say_addresses-clause-says
returns-in_err-say_addresses-clause-says g c = λ t.
    let rows = c.args.rows.now in
    let world = g.R.Rig.world in
    let clock = g.R.Rig.clock in
    let old : World = world c.args.rig.now in
    let first : Clock = clock c.args.rig.now in
    let a : List ℕ = flat_map a_entry (g.T.Rows.a_rows rows) in
    let b : List ℕ = flat_map b_entry (g.T.Rows.b_rows rows) in
    let whole = whole_text (g.T.Rows.a_rows rows) (g.T.Rows.b_rows rows) in
    let one : Sofar old first (codes "A") (clock c.say.new.rig) (world c.say.new.rig) = record { is = c.in_ok-say.ensures.said t; says = record { part = c.say.ensures.part t; within = c.say.ensures.time t } } in
    subst (λ (l : List ℕ). SaysPiece l first (clock c.say_addresses.new.rig) old (world c.say_addresses.new.rig)) whole
    (cut_two old first (codes "A") a (codes " B") b (codes "\n") (clock c.say_addresses.new.rig) (world c.say_addresses.new.rig)
    (some_more old first (codes "A") a (clock c.say.new.rig) (clock c.say_addresses.new.rig) (world c.say.new.rig) (world c.say_addresses.new.rig) one (c.say_addresses.ensures.says t)))

pub returns-in_err-say-2-clause-says : goal.returns-in_err-say-2-clause-says
returns-in_err-say-2-clause-says g c = λ t.
    let rows = c.args.rows.now in
    let world = g.R.Rig.world in
    let clock = g.R.Rig.clock in
    let old : World = world c.args.rig.now in
    let first : Clock = clock c.args.rig.now in
    let a : List ℕ = flat_map a_entry (g.T.Rows.a_rows rows) in
    let b : List ℕ = flat_map b_entry (g.T.Rows.b_rows rows) in
    let whole = whole_text (g.T.Rows.a_rows rows) (g.T.Rows.b_rows rows) in
    let one : Sofar old first (codes "A") (clock c.say.new.rig) (world c.say.new.rig) = record { is = c.in_ok-say.ensures.said t; says = record { part = c.say.ensures.part t; within = c.say.ensures.time t } } in
    let two : Sofar old first (codes "A" ++ a) (clock c.say_addresses.new.rig) (world c.say_addresses.new.rig) =
    one_more old first (codes "A") a (clock c.say.new.rig) (clock c.say_addresses.new.rig) (world c.say.new.rig) (world c.say_addresses.new.rig) one (c.in_ok-say_addresses.ensures.said t) (c.say_addresses.ensures.says t) in
    subst (λ (l : List ℕ). SaysPiece l first (clock c.say-2.new.rig) old (world c.say-2.new.rig)) whole
    (cut_three old first (codes "A") a (codes " B") b (codes "\n") (clock c.say-2.new.rig) (world c.say-2.new.rig)
    (some_more old first (codes "A" ++ a) (codes " B") (clock c.say_addresses.new.rig) (clock c.say-2.new.rig) (world c.say_addresses.new.rig) (world c.say-2.new.rig) two (record { part = c.say-2.ensures.part t; within = c.say-2.ensures.time t })))

pub returns-in_err-say_blocks-clause-says : goal.returns-in_err-say_blocks-clause-says
returns-in_err-say_blocks-clause-says g c = λ t.
    let rows = c.args.rows.now in
    let world = g.R.Rig.world in
    let clock = g.R.Rig.clock in
    let old : World = world c.args.rig.now in
    let first : Clock = clock c.args.rig.now in
    let a : List ℕ = flat_map a_entry (g.T.Rows.a_rows rows) in
    let b : List ℕ = flat_map b_entry (g.T.Rows.b_rows rows) in
    let whole = whole_text (g.T.Rows.a_rows rows) (g.T.Rows.b_rows rows) in
    let one : Sofar old first (codes "A") (clock c.say.new.rig) (world c.say.new.rig) = record { is = c.in_ok-say.ensures.said t; says = record { part = c.say.ensures.part t; within = c.say.ensures.time t } } in
    let two : Sofar old first (codes "A" ++ a) (clock c.say_addresses.new.rig) (world c.say_addresses.new.rig) =
    one_more old first (codes "A") a (clock c.say.new.rig) (clock c.say_addresses.new.rig) (world c.say.new.rig) (world c.say_addresses.new.rig) one (c.in_ok-say_addresses.ensures.said t) (c.say_addresses.ensures.says t) in
    let three : Sofar old first (codes "A" ++ a ++ codes " B") (clock c.say-2.new.rig) (world c.say-2.new.rig) =
    one_more old first (codes "A" ++ a) (codes " B") (clock c.say_addresses.new.rig) (clock c.say-2.new.rig) (world c.say_addresses.new.rig) (world c.say-2.new.rig) two (c.in_ok-say-2.ensures.said t) (record { part = c.say-2.ensures.part t; within = c.say-2.ensures.time t }) in
    subst (λ (l : List ℕ). SaysPiece l first (clock c.say_blocks.new.rig) old (world c.say_blocks.new.rig)) whole
    (cut_four old first (codes "A") a (codes " B") b (codes "\n") (clock c.say_blocks.new.rig) (world c.say_blocks.new.rig)
    (some_more old first (codes "A" ++ a ++ codes " B") b (clock c.say-2.new.rig) (clock c.say_blocks.new.rig) (world c.say-2.new.rig) (world c.say_blocks.new.rig) three (c.say_blocks.ensures.says t)))

pub returns-clause-says : goal.returns-clause-says
returns-clause-says g c = λ t.
    let rows = c.args.rows.now in
    let world = g.R.Rig.world in
    let clock = g.R.Rig.clock in
    let old : World = world c.args.rig.now in
    let first : Clock = clock c.args.rig.now in
    let a : List ℕ = flat_map a_entry (g.T.Rows.a_rows rows) in
    let b : List ℕ = flat_map b_entry (g.T.Rows.b_rows rows) in
    let whole = whole_text (g.T.Rows.a_rows rows) (g.T.Rows.b_rows rows) in
    let one : Sofar old first (codes "A") (clock c.say.new.rig) (world c.say.new.rig) = record { is = c.in_ok-say.ensures.said t; says = record { part = c.say.ensures.part t; within = c.say.ensures.time t } } in
    let two : Sofar old first (codes "A" ++ a) (clock c.say_addresses.new.rig) (world c.say_addresses.new.rig) =
    one_more old first (codes "A") a (clock c.say.new.rig) (clock c.say_addresses.new.rig) (world c.say.new.rig) (world c.say_addresses.new.rig) one (c.in_ok-say_addresses.ensures.said t) (c.say_addresses.ensures.says t) in
    let three : Sofar old first (codes "A" ++ a ++ codes " B") (clock c.say-2.new.rig) (world c.say-2.new.rig) =
    one_more old first (codes "A" ++ a) (codes " B") (clock c.say_addresses.new.rig) (clock c.say-2.new.rig) (world c.say_addresses.new.rig) (world c.say-2.new.rig) two (c.in_ok-say-2.ensures.said t) (record { part = c.say-2.ensures.part t; within = c.say-2.ensures.time t }) in
    let four : Sofar old first (codes "A" ++ a ++ codes " B" ++ b) (clock c.say_blocks.new.rig) (world c.say_blocks.new.rig) =
    one_more old first (codes "A" ++ a ++ codes " B") b (clock c.say-2.new.rig) (clock c.say_blocks.new.rig) (world c.say-2.new.rig) (world c.say_blocks.new.rig) three (c.in_ok-say_blocks.ensures.said t) (c.say_blocks.ensures.says t) in
    subst (λ (l : List ℕ). SaysPiece l first (clock c.say-3.new.rig) old (world c.say-3.new.rig)) whole
    (some_more old first (codes "A" ++ a ++ codes " B" ++ b) (codes "\n") (clock c.say_blocks.new.rig) (clock c.say-3.new.rig) (world c.say_blocks.new.rig) (world c.say-3.new.rig) four (record { part = c.say-3.ensures.part t; within = c.say-3.ensures.time t }))

pub returns-clause-said : goal.returns-clause-said
returns-clause-said g c = λ t.
    let rows = c.args.rows.now in
    let world = g.R.Rig.world in
    let clock = g.R.Rig.clock in
    let old : World = world c.args.rig.now in
    let first : Clock = clock c.args.rig.now in
    let a : List ℕ = flat_map a_entry (g.T.Rows.a_rows rows) in
    let b : List ℕ = flat_map b_entry (g.T.Rows.b_rows rows) in
    let whole = whole_text (g.T.Rows.a_rows rows) (g.T.Rows.b_rows rows) in
    let one : Sofar old first (codes "A") (clock c.say.new.rig) (world c.say.new.rig) = record { is = c.in_ok-say.ensures.said t; says = record { part = c.say.ensures.part t; within = c.say.ensures.time t } } in
    let two : Sofar old first (codes "A" ++ a) (clock c.say_addresses.new.rig) (world c.say_addresses.new.rig) =
    one_more old first (codes "A") a (clock c.say.new.rig) (clock c.say_addresses.new.rig) (world c.say.new.rig) (world c.say_addresses.new.rig) one (c.in_ok-say_addresses.ensures.said t) (c.say_addresses.ensures.says t) in
    let three : Sofar old first (codes "A" ++ a ++ codes " B") (clock c.say-2.new.rig) (world c.say-2.new.rig) =
    one_more old first (codes "A" ++ a) (codes " B") (clock c.say_addresses.new.rig) (clock c.say-2.new.rig) (world c.say_addresses.new.rig) (world c.say-2.new.rig) two (c.in_ok-say-2.ensures.said t) (record { part = c.say-2.ensures.part t; within = c.say-2.ensures.time t }) in
    let four : Sofar old first (codes "A" ++ a ++ codes " B" ++ b) (clock c.say_blocks.new.rig) (world c.say_blocks.new.rig) =
    one_more old first (codes "A" ++ a ++ codes " B") b (clock c.say-2.new.rig) (clock c.say_blocks.new.rig) (world c.say-2.new.rig) (world c.say_blocks.new.rig) three (c.in_ok-say_blocks.ensures.said t) (c.say_blocks.ensures.says t) in
    on_ok c.say-3.result _ _ (λ is. said_both (codes "A" ++ a ++ codes " B" ++ b) (codes "\n") old (world c.say_blocks.new.rig) four.is (world c.say-3.new.rig) is ∙ ap (λ (l : List ℕ). say l old) whole) (c.say-3.ensures.said t)
