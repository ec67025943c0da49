use Rattle.std.proofs.Common.{◌≡◌, sym, subst, ℕ, Option, false}
use Rattle.dd_lists.specs.Lists.{is_listed}
use Rattle.dd_meta.specs.Matching.{IsHome}
use Rattle.dd_meta.proofs.Numbers.{taken_none}
use Rattle.dd_meta.proofs.Placed.{at_home, homeless}
use Rattle.dd_meta.proofs.lanes.leave.Goals as goal

pub unlink-requires : goal.unlink-requires
unlink-requires c = at_home c.in-Some.field-0 c.args.node c.args.nodes.now.referrers (subst (λ (o : Option ℕ). IsHome o c.args.node c.args.nodes.now.referrers) c.in-Some.is c.requires)

pub returns-in-None : goal.returns-in-None
returns-in-None c =
    let out : is_listed c.args.node c.args.nodes.now.referrers ≡ false = homeless c.args.node c.args.nodes.now.referrers (subst (λ (o : Option ℕ). IsHome o c.args.node c.args.nodes.now.referrers) c.in-None.is c.requires) in
    let same = taken_none c.args.node c.args.nodes.now.referrers out in
    λ i. record { values = c.args.nodes.now.values; recency = c.args.nodes.now.recency; referrers = sym same i; waiting = c.args.nodes.now.waiting }
