use Rattle.std.proofs.Common.{refl, sym, ◌∙◌}
use Rattle.dd_meta.proofs.Emptying.{last_clean, no_last, cleared}
use Rattle.dd_meta.proofs.meta.MetaCache.clear.Goals as goal

pub drop_back-requires-clause-clean : goal.drop_back-requires-clause-clean
drop_back-requires-clause-clean c = last_clean c.loop-node.self.entries c.set_clean.new.self.entries c.in-Some.node _ refl c.set_clean.ensures.after.entries (sym c.in-Some.is ∙ c.last.ensures.last)

pub returns-clause-after : goal.returns-clause-after
returns-clause-after c =
    cleared c.loop-node.self c.args.self.now.acap c.args.self.now.slots c.last.ensures.keeps (no_last c.loop-node.self.entries c.last.result c.last.ensures.last c.in_default.not-Some)
    c.loop-node.invariant.0 c.loop-node.invariant.1
