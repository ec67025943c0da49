use Rattle.std.proofs.Common.{◌∙◌, ap, sym, None}
use Rattle.std.specs.Prelude.{if◌then◌else◌}
use Rattle.dd_data.specs.Blocks.{Data}
use Rattle.dd_model.specs.declared.given.Want.{Want}
use Rattle.dd_model.specs.Listing.{is_fresh, last_of_full}
use Rattle.dd_policy.proofs.Victims.{drop_is}
use Rattle.dd_policy.proofs.blocks.victim.Goals as goal

pub returns-in-Fresh : goal.returns-in-Fresh
returns-in-Fresh c =
    let blocks : Data = c.args.blocks.now in
    c.victim.ensures ∙ drop_is blocks.bcap blocks.rows ∙ ap (λ (w : Want). if is_fresh w then last_of_full blocks.bcap blocks.rows else None) (sym c.in-Fresh.is)
