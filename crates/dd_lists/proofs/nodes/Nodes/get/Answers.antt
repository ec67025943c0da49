use Rattle.std.proofs.Common.{◌≡◌, true, is_some, get_or, None, ◌∙◌}
use Rattle.dd_lists.specs.Kept.{values_of}
use Rattle.dd_lists.proofs.Values.{live_has, live_value, value_shown}
use Rattle.dd_lists.proofs.nodes.Nodes.get.Goals as goal

pub index-requires : goal.index-requires
index-requires g c =
    let live : is_some (get_or (values_of c.self.inside.slab) c.args.node None) ≡ true = rw (← c.self.view_is) at c.requires in
    live_has c.self.inside.slab c.args.node live

pub returns : goal.returns
returns g c =
    let live : is_some (get_or (values_of c.self.inside.slab) c.args.node None) ≡ true = rw (← c.self.view_is) at c.requires in
    value_shown _ _ c.args.node _ c.self.view_is (live_value c.self.inside.slab c.args.node live ∙ c.index.ensures)
