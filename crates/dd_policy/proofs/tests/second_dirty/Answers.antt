use Rattle.std.proofs.Common.{sym, None}
use Rattle.dd_model.proofs.Stepping.{next_among}
use Rattle.dd_policy.proofs.tests.second_dirty.Goals as goal

pub next_dirty-requires-in-Some : goal.next_dirty-requires-in-Some
next_dirty-requires-in-Some g c = next_among None c.in-Some.first (g.L.Lists.listing c.args.lists.now).dirty (sym c.in-Some.ensures)
