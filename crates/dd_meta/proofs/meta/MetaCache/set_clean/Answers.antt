use Rattle.std.proofs.Common.{false, refl}
use Rattle.std.proofs.lemmas.Bool.{both_ways}
use Rattle.dd_meta.proofs.Marking.{named_live, mark_matches, mark_shown}
use Rattle.dd_meta.proofs.Facts.{meta_kept}
use Rattle.dd_meta.proofs.Placed.{placed_is}
use Rattle.dd_meta.proofs.meta.MetaCache.set_clean.Goals as goal

pub get-row-requires : goal.get-row-requires
get-row-requires c = named_live c.self.invariant c.args.self.now c.self.view_is c.args.node c.requires

pub write-requires-clause-placed : goal.write-requires-clause-placed
write-requires-clause-placed c = placed_is c.self.invariant c.args.node (named_live c.self.invariant c.args.self.now c.self.view_is c.args.node c.requires)

pub invariant_of-self : goal.invariant_of-self
invariant_of-self c = mark_matches c.self.invariant c.args.self.now c.self.view_is c.args.node c.requires c.get-row.result.now c.get-row.ensures false (λ never. absurd (both_ways false refl never)) c.write.new.nodes c.write.ensures

pub returns-clause-after : goal.returns-clause-after
returns-clause-after c = mark_shown c.self.invariant c.args.self.now c.self.view_is c.args.node c.requires c.get-row.result.now c.get-row.ensures false (λ never. absurd (both_ways false refl never)) c.write.new.nodes c.write.ensures

pub returns-clause-keeps : goal.returns-clause-keeps
returns-clause-keeps c =
    meta_kept (mark_matches c.self.invariant c.args.self.now c.self.view_is c.args.node c.requires c.get-row.result.now c.get-row.ensures false (λ never. absurd (both_ways false refl never)) c.write.new.nodes c.write.ensures)
