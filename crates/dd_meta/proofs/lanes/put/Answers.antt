use Rattle.std.proofs.Common.{◌∙◌, ap, sym, refl}
use Rattle.dd_lists.specs.Lists.{is_listed}
use Rattle.dd_lists.specs.Nodes.{Nodes}
use Rattle.dd_lists.proofs.Views.{moved_is, taken_free}
use Rattle.dd_record.specs.declared.row.ARow.{ARow}
use Rattle.dd_meta.proofs.Placed.{only_here}
use Rattle.dd_meta.proofs.lanes.put.Goals as goal

pub move_front-requires : goal.move_front-requires
move_front-requires c =
    let only = only_here c.args.list c.args.home c.args.node c.args.nodes.now.referrers c.requires.home (sym c.is_home.ensures ∙ c.if-is_home.true) in
    (only c.args.list).0 refl

pub returns-then-is_home : goal.returns-then-is_home
returns-then-is_home c =
    let only = only_here c.args.list c.args.home c.args.node c.args.nodes.now.referrers c.requires.home (sym c.is_home.ensures ∙ c.if-is_home.true) in
    let same = moved_is c.args.list c.args.node c.args.nodes.now.referrers only in
    c.move_front.ensures ∙ (λ i. record { values = c.args.nodes.now.values; recency = c.args.nodes.now.recency; referrers = sym same i; waiting = c.args.nodes.now.waiting })

pub push_front-requires-clause-unlisted : goal.push_front-requires-clause-unlisted
push_front-requires-clause-unlisted c = ap (λ (n : Nodes ARow). is_listed c.args.node n.referrers) c.leave.ensures ∙ taken_free c.args.node c.args.nodes.now.referrers
