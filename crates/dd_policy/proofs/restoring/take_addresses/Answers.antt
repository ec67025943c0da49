use Rattle.std.proofs.Common.{◌∙◌, ap, sym, subst, ℕ}
use Rattle.std.specs.List.{AllByRecursion}
use Rattle.dd_meta.specs.Entries.{Meta}
use Rattle.dd_meta.specs.Matching.{IsBelow}
use Rattle.dd_policy.proofs.Taken.{addresses_apart, links_below}
use Rattle.dd_policy.proofs.restoring.take_addresses.Goals as goal

pub fill-requires-clause-addresses : goal.fill-requires-clause-addresses
fill-requires-clause-addresses c = addresses_apart c.args.blocks.now.rows c.args.a.now c.len.ensures.kept.apart (sym c.find_bad_address.ensures.bad ∙ c.in-None.is)

pub fill-requires-clause-below : goal.fill-requires-clause-below
fill-requires-clause-below c =
    let same = ap (λ (m : Meta). m.slots) c.clear-in-None.ensures.after ∙ c.find_bad_address.ensures.slots in
    subst (λ (n : ℕ). AllByRecursion (λ row. IsBelow n row.link) c.args.a.now) (sym same) (links_below c.args.meta.now.slots c.args.a.now c.requires.below)
