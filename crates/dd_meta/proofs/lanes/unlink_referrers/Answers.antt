use Rattle.std.proofs.Common.{◌≡◌, ℕ, ◌+◌, Option, Some, None, ◌∙◌, ap, sym, arith, length}
use Rattle.dd_record.specs.declared.row.ARow.{ARow}
use Rattle.dd_lists.specs.Lists.{list_at, without}
use Rattle.dd_lists.specs.Nodes.{Nodes}
use Rattle.dd_lists.proofs.Members.{at_taken, listed_from}
use Rattle.dd_lists.proofs.Found.{first_in_list}
use Rattle.dd_meta.proofs.Numbers.{less_without}
use Rattle.dd_meta.proofs.Unlinking.{unlink_more, unlink_end}
use Rattle.dd_meta.proofs.lanes.unlink_referrers.Goals as goal

pub lose-requires-clause-listed : goal.lose-requires-clause-listed
lose-requires-clause-listed c =
    let list : ℕ = c.args.slots + c.args.slot in
    let here = first_in_list c.in-Some.node (list_at list c.loop-node.nodes.referrers) (sym c.front.ensures.first ∙ c.in-Some.is) in
    listed_from c.in-Some.node list c.loop-node.nodes.referrers here

pub loop-node-smaller : goal.loop-node-smaller
loop-node-smaller c =
    let list : ℕ = c.args.slots + c.args.slot in
    let here = first_in_list c.in-Some.node (list_at list c.loop-node.nodes.referrers) (sym c.front.ensures.first ∙ c.in-Some.is) in
    let size : length (list_at list c.lose.new.nodes.referrers) ≡ length (without c.in-Some.node (list_at list c.loop-node.nodes.referrers)) =
    ap (λ (n : Nodes ARow). length (list_at list n.referrers)) c.lose.ensures ∙ ap (λ l. length l) (at_taken c.in-Some.node list c.loop-node.nodes.referrers) in
    let less = less_without c.in-Some.node (list_at list c.loop-node.nodes.referrers) here in
    omega (arith, size, less)

pub loop-node-preserved : goal.loop-node-preserved
loop-node-preserved c =
    let list : ℕ = c.args.slots + c.args.slot in
    let here = first_in_list c.in-Some.node (list_at list c.loop-node.nodes.referrers) (sym c.front.ensures.first ∙ c.in-Some.is) in
    unlink_more c.args.slot c.args.slots c.args.nodes.now c.loop-node.nodes c.lose.new.nodes c.in-Some.node c.loop-node.invariant here c.in-Some.ensures.live c.lose.ensures

pub returns : goal.returns
returns c = unlink_end c.args.slot c.args.slots c.args.nodes.now c.loop-node.nodes c.loop-node.invariant (sym c.front.ensures.first ∙ nothing c.front.result c.in_default.not-Some)
  where
    nothing : (o : Option ℕ) → ((m : ℕ) → o ≡ Some m → ⊥) → o ≡ None
    nothing None h = λ i. None
    nothing (Some m) h = absurd (h m (λ i. Some m))
