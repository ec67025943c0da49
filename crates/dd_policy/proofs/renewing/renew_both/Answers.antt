use Rattle.dd_model.proofs.Records.{link_given}
use Rattle.dd_policy.specs.Coupling.{listing_in}
use Rattle.dd_policy.proofs.Renewed.{is_listed, none_cut, renewed}
use Rattle.dd_policy.proofs.renewing.renew_both.Goals as goal

pub bring_known-requires : goal.bring_known-requires
bring_known-requires c = link_given (listing_in c.args.meta.now c.args.blocks.now) c.args.address c.args.slot c.requires.kept c.requires.linked

pub renew-requires : goal.renew-requires
renew-requires c = is_listed c.args.meta.now c.args.blocks.now c.requires.kept c.args.address c.args.slot c.requires.linked

pub returns-clause-after : goal.returns-clause-after
returns-clause-after c =
    renewed c.args.meta.now c.args.blocks.now c.requires.kept c.args.address c.args.slot c.requires.linked c.renew.new.self c.bring_known.new.blocks c.renew.ensures.after c.bring_known.ensures.after

pub returns-clause-cut : goal.returns-clause-cut
returns-clause-cut c = none_cut (listing_in c.args.meta.now c.args.blocks.now) c.requires.kept c.args.address c.args.slot c.requires.linked
