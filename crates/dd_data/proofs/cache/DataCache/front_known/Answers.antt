use Rattle.std.proofs.Common.{◌∙◌, ap, is_some, refl}
use Rattle.dd_record.specs.Table.{b_row}
use Rattle.dd_data.specs.Blocks.{Data}
use Rattle.dd_data.specs.Matching.{key_of, print_of}
use Rattle.dd_data.proofs.Shown.{is_there, chain_in}
use Rattle.dd_data.proofs.Changing.{moved_matches, moved_view}
use Rattle.dd_data.proofs.cache.DataCache.front_known.Goals as goal

pub move_front-requires : goal.move_front-requires
move_front-requires c = is_there c.self.invariant c.args.slot (ap (λ (d : Data). is_some (b_row c.args.slot d.rows)) c.self.view_is ∙ c.requires)

pub move_front-requires-2 : goal.move_front-requires-2
move_front-requires-2 c =
    let here = is_there c.self.invariant c.args.slot (ap (λ (d : Data). is_some (b_row c.args.slot d.rows)) c.self.view_is ∙ c.requires) in
    (key_of (print_of c.self.inside.prints.items c.args.slot), chain_in c.self.invariant c.args.slot _ here refl)

pub invariant_of-self : goal.invariant_of-self
invariant_of-self c =
    let here = is_there c.self.invariant c.args.slot (ap (λ (d : Data). is_some (b_row c.args.slot d.rows)) c.self.view_is ∙ c.requires) in
    moved_matches c.self.invariant c.args.slot here c.move_front.new.self c.move_front-2.new.self c.move_front.ensures c.move_front-2.ensures

pub returns : goal.returns
returns c =
    let here = is_there c.self.invariant c.args.slot (ap (λ (d : Data). is_some (b_row c.args.slot d.rows)) c.self.view_is ∙ c.requires) in
    moved_view c.self.invariant c.args.slot here c.args.self.now c.move_front.new.self c.move_front.ensures c.self.view_is
