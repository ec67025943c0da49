use Rattle.std.proofs.Common.{◌∙◌, sym}
use Rattle.dd_meta.proofs.Placed.{wait_same}
use Rattle.dd_meta.proofs.lanes.wait.Goals as goal

pub returns-else-dirty : goal.returns-else-dirty
returns-else-dirty c =
    let same = wait_same c.args.waits c.args.dirty c.args.node c.args.nodes.now.waiting c.requires.one c.requires.waits (c.if-waits.false ∙ sym c.if-dirty.false) in
    λ i. record { values = c.args.nodes.now.values; recency = c.args.nodes.now.recency; referrers = c.args.nodes.now.referrers; waiting = sym same i }
