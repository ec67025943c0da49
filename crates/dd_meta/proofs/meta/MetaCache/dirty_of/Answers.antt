use Rattle.std.proofs.Common.{◌∙◌, ◌<◌, ap, sym, subst, None, ℕ}
use Rattle.dd_lists.specs.Lists.{list_at}
use Rattle.dd_lists.proofs.Found.{first_in_list}
use Rattle.dd_meta.specs.Entries.{Meta, owed_to}
use Rattle.dd_meta.specs.Keeping.{IsMeta}
use Rattle.dd_meta.specs.Walks.{but, next_of}
use Rattle.dd_meta.proofs.Facts.{meta_kept}
use Rattle.dd_meta.proofs.Referring.{first_referrer}
use Rattle.dd_meta.proofs.Walking.{list_listed, owed_first}
use Rattle.dd_meta.proofs.meta.MetaCache.dirty_of.Goals as goal

pub pass-requires-clause-listed : goal.pass-requires-clause-listed
pass-requires-clause-listed c =
    list_listed c.front.result c.args.slot c.self.inside.nodes.referrers (λ n e. first_in_list n (list_at c.args.slot c.self.inside.nodes.referrers) (sym c.front.ensures.first ∙ e))

pub returns-clause-first : goal.returns-clause-first
returns-clause-first c =
    let low : c.args.slot < c.self.inside.slots = subst (λ (n : ℕ). c.args.slot < n) (sym (ap (λ (m : Meta). m.slots) c.self.view_is)) c.requires in
    owed_first c.self.invariant c.args.slot low c.args.skip c.front.result c.pass.result c.pass.ensures c.front.ensures.first
    ∙ ap (λ (m : Meta). next_of None (but c.args.skip (owed_to c.args.slot m))) c.self.view_is

pub returns-clause-referrer : goal.returns-clause-referrer
returns-clause-referrer c =
    let low : c.args.slot < c.self.inside.slots = subst (λ (n : ℕ). c.args.slot < n) (sym (ap (λ (m : Meta). m.slots) c.self.view_is)) c.requires in
    first_referrer c.args.self.now (subst (λ (m : Meta). IsMeta m) c.self.view_is (meta_kept c.self.invariant)) c.args.slot c.args.skip c.pass.result
    (owed_first c.self.invariant c.args.slot low c.args.skip c.front.result c.pass.result c.pass.ensures c.front.ensures.first
    ∙ ap (λ (m : Meta). next_of None (but c.args.skip (owed_to c.args.slot m))) c.self.view_is)
