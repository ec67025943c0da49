use Rattle.std.proofs.Common.{◌≡◌, ◌∙◌, ℕ, ◌<◌, ap, sym, subst, arith, false, length}
use Rattle.dd_record.specs.declared.row.ARow.{ARow}
use Rattle.dd_lists.specs.Lists.{put_front}
use Rattle.dd_lists.specs.Nodes.{Nodes}
use Rattle.dd_index.specs.Index.{Inserts}
use Rattle.dd_meta.specs.Entries.{Meta, Brings, is_listed_address}
use Rattle.dd_meta.specs.Matching.{Matches, shown}
use Rattle.dd_meta.proofs.Rows.{first_in, first_node, first_out, entry_count}
use Rattle.dd_meta.proofs.Fronting.{moved_matches, moved_shown}
use Rattle.dd_meta.proofs.Adding.{added_matches, added_shown}
use Rattle.dd_meta.proofs.meta.MetaCache.bring.Goals as goal

pub move_front-requires : goal.move_front-requires
move_front-requires c = (first_in c.self.invariant c.args.address _ c.in-Some.node _ c.first.ensures c.from.ensures c.in-Some.is).0

pub invariant_of-self : goal.invariant_of-self
invariant_of-self c =
    let here = first_in c.self.invariant c.args.address _ c.in-Some.node _ c.first.ensures c.from.ensures c.in-Some.is in
    subst (λ (n : Nodes ARow). Matches c.self.inside.acap c.self.inside.slots n c.self.inside.index) (sym c.move_front.ensures) (moved_matches c.self.invariant c.in-Some.node here.0)

pub returns-in-Some : goal.returns-in-Some
returns-in-Some c =
    let here = first_in c.self.invariant c.args.address _ c.in-Some.node _ c.first.ensures c.from.ensures c.in-Some.is in
    subst (λ (m : Meta). Brings m (shown c.self.inside.acap c.self.inside.slots c.move_front.new.self) c.args.address c.in-Some.node) c.self.view_is
    (subst (λ (n : Nodes ARow). Brings (shown c.self.inside.acap c.self.inside.slots c.self.inside.nodes) (shown c.self.inside.acap c.self.inside.slots n) c.args.address c.in-Some.node) (sym c.move_front.ensures)
    (moved_shown c.self.invariant c.in-Some.node here.0 c.args.address here.1 (first_node c.self.invariant c.args.address _ c.in-Some.node _ c.first.ensures c.from.ensures c.in-Some.is)))

pub add-node-requires : goal.add-node-requires
add-node-requires c =
    let out : is_listed_address c.args.address c.args.self.now ≡ false = sym (ap (is_listed_address c.args.address) c.self.view_is) ∙ first_out c.self.invariant c.args.address _ _ c.first.ensures c.from.ensures c.in-None.is in
    let fits : length c.args.self.now.entries < c.args.self.now.acap = c.requires out in
    let same : length (shown c.self.inside.acap c.self.inside.slots c.self.inside.nodes).entries ≡ length c.args.self.now.entries = ap (λ (m : Meta). length m.entries) c.self.view_is in
    let cap : c.self.inside.acap ≡ c.args.self.now.acap = ap (λ (m : Meta). m.acap) c.self.view_is in
    omega (arith, fits, same, cap, entry_count c.self.invariant, c.self.invariant.room)

pub invariant_of-self-in-None : goal.invariant_of-self-in-None
invariant_of-self-in-None c =
    let out = first_out c.self.invariant c.args.address _ _ c.first.ensures c.from.ensures c.in-None.is in
    let ins : Inserts c.self.inside.index c.insert.new.self c.args.address c.add-node.result = subst (λ (a : ℕ). Inserts c.self.inside.index c.insert.new.self a c.add-node.result) c.from-in-None.ensures c.insert.ensures in
    let after = c.push_front.ensures ∙ ap (λ (n : Nodes ARow). record { values = n.values; recency = put_front 0 c.add-node.result n.recency; referrers = n.referrers; waiting = n.waiting }) c.add-node.ensures.after in
    subst (λ (n : Nodes ARow). Matches c.self.inside.acap c.self.inside.slots n c.insert.new.self) (sym after)
    (added_matches c.self.invariant c.add-node.result c.add-node.ensures.room c.add-node.ensures.fresh c.args.address c.args.fp out c.insert.new.self ins)

pub returns-in-None : goal.returns-in-None
returns-in-None c =
    let out = first_out c.self.invariant c.args.address _ _ c.first.ensures c.from.ensures c.in-None.is in
    let ins : Inserts c.self.inside.index c.insert.new.self c.args.address c.add-node.result = subst (λ (a : ℕ). Inserts c.self.inside.index c.insert.new.self a c.add-node.result) c.from-in-None.ensures c.insert.ensures in
    let after = c.push_front.ensures ∙ ap (λ (n : Nodes ARow). record { values = n.values; recency = put_front 0 c.add-node.result n.recency; referrers = n.referrers; waiting = n.waiting }) c.add-node.ensures.after in
    subst (λ (m : Meta). Brings m (shown c.self.inside.acap c.self.inside.slots c.push_front.new.self) c.args.address c.add-node.result) c.self.view_is
    (subst (λ (n : Nodes ARow). Brings (shown c.self.inside.acap c.self.inside.slots c.self.inside.nodes) (shown c.self.inside.acap c.self.inside.slots n) c.args.address c.add-node.result) (sym after)
    (added_shown c.self.invariant c.add-node.result c.add-node.ensures.room c.add-node.ensures.fresh c.args.address c.args.fp out c.insert.new.self ins))
