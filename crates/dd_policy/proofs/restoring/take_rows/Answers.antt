use Rattle.dd_policy.specs.Coupling.{taken}
use Rattle.dd_policy.proofs.Taken.{refused_same}
use Rattle.dd_policy.proofs.restoring.take_rows.Goals as goal

pub returns-in-Some-take_addresses-clause-refused : goal.returns-in-Some-take_addresses-clause-refused
returns-in-Some-take_addresses-clause-refused c =
    let after = c.take_addresses.ensures in
    refused_same c.args.meta.now c.take_addresses.new.meta c.args.blocks.now c.take_blocks.new.blocks c.clear_blocks.new.blocks (taken c.take_blocks.result c.args.b.now) c.args.a.now c.take_addresses.result c.in-Some-take_addresses.index
    c.requires.kept c.requires.may.empty c.in-Some-take_addresses.is after.rows after.dirty after.acap c.take_blocks.ensures.after c.clear_blocks.ensures
