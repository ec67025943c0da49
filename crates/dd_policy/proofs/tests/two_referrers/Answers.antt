use Rattle.std.proofs.Common.{sym, None}
use Rattle.dd_model.specs.Listing.{without}
use Rattle.dd_model.proofs.Stepping.{next_among}
use Rattle.dd_policy.proofs.tests.two_referrers.Goals as goal

pub next_referrer-requires-in-Some : goal.next_referrer-requires-in-Some
next_referrer-requires-in-Some g c = next_among None c.in-Some.first (without c.args.skip (g.L.Lists.referrers c.args.lists.now c.args.slot)) (sym c.in-Some.ensures)
