use Rattle.std.proofs.Common.{◌∙◌}
use Rattle.dd_model.proofs.Falling.{victims_next}
use Rattle.dd_policy.specs.Coupling.{listing_in}
use Rattle.dd_policy.proofs.Victims.{victim_is}
use Rattle.dd_policy.proofs.policy.PolicyLists.victims.Goals as goal

pub returns-clause-which : goal.returns-clause-which
returns-clause-which c = λ i. record { out = (c.victim.ensures ∙ victim_is c.args.address c.args.self.now.meta) i; drop = c.victim-2.ensures i }

pub returns-clause-next : goal.returns-clause-next
returns-clause-next c = λ block dirty given is.
    let lists = c.args.self.now in
    (λ i. record { out = (c.victim.ensures ∙ victim_is c.args.address lists.meta) i; drop = c.victim-2.ensures i })
    ∙ victims_next (listing_in lists.meta lists.blocks) c.args.address c.args.want lists.keeps.kept block dirty given is
