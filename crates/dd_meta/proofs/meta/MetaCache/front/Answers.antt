use Rattle.std.proofs.Common.{refl}
use Rattle.dd_meta.proofs.Marking.{named_live}
use Rattle.dd_meta.proofs.Fronting.{brought, front_matches, front_shown}
use Rattle.dd_meta.proofs.Facts.{meta_kept}
use Rattle.dd_meta.proofs.Placed.{placed_is}
use Rattle.dd_meta.proofs.meta.MetaCache.front.Goals as goal

pub write-requires-clause-live : goal.write-requires-clause-live
write-requires-clause-live c = named_live c.self.invariant c.bring-node.new.self c.self.view_is c.bring-node.result (brought c.args.self.now c.bring-node.new.self c.args.address c.bring-node.result c.bring-node.ensures)

pub write-requires-clause-placed : goal.write-requires-clause-placed
write-requires-clause-placed c =
    placed_is c.self.invariant c.bring-node.result
    (named_live c.self.invariant c.bring-node.new.self c.self.view_is c.bring-node.result (brought c.args.self.now c.bring-node.new.self c.args.address c.bring-node.result c.bring-node.ensures))

pub invariant_of-self : goal.invariant_of-self
invariant_of-self c =
    front_matches c.self.invariant c.args.self.now c.bring-node.new.self c.self.view_is c.args.address c.bring-node.result c.bring-node.ensures
    (record { address = c.args.address; link = c.args.link; dirty = c.args.dirty; fp = c.args.fp }) refl c.requires.linked c.requires.below c.write.new.nodes c.write.ensures

pub returns-clause-after : goal.returns-clause-after
returns-clause-after c =
    front_shown c.self.invariant c.args.self.now c.bring-node.new.self c.self.view_is c.args.address c.bring-node.result c.bring-node.ensures
    (record { address = c.args.address; link = c.args.link; dirty = c.args.dirty; fp = c.args.fp }) refl c.requires.linked c.requires.below c.write.new.nodes c.write.ensures

pub returns-clause-keeps : goal.returns-clause-keeps
returns-clause-keeps c =
    meta_kept
    (front_matches c.self.invariant c.args.self.now c.bring-node.new.self c.self.view_is c.args.address c.bring-node.result c.bring-node.ensures
    (record { address = c.args.address; link = c.args.link; dirty = c.args.dirty; fp = c.args.fp }) refl c.requires.linked c.requires.below c.write.new.nodes c.write.ensures)
