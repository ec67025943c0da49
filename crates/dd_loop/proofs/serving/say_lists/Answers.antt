use Rattle.std.proofs.Common.{◌≡◌, List, ℕ, ◌∷◌, [], map, sym, subst, ◌∙◌, Some}
use Rattle.dd_rig.specs.World.{World}
use Rattle.dd_rig.specs.declared.tallies.Counts.{Counts}
use Rattle.dd_loop.specs.Terms.{Terms}
use Rattle.dd_loop.specs.Answering.{Pays, CutsLine}
use Rattle.dd_loop.specs.declared.halt.Halt.{Halt}
use Rattle.dd_loop.specs.declared.halt.Halt.TheVariants.{Output}
use Rattle.dd_script.specs.Command.{lists}
use Rattle.dd_script.specs.Output.{reply_line}
use Rattle.dd_script.proofs.Handing.{handed_on}
use Rattle.dd_loop.proofs.Listing.{lists_within, lists_cut, lists_said, lists_paid}
use Rattle.dd_loop.proofs.serving.say_lists.Goals as goal

pub returns-in_err-list-clause-crash : goal.returns-in_err-list-clause-crash
returns-in_err-list-clause-crash g c = λ t first one s kept.
    let old : World = g.R.Rig.world c.args.rig.now in
    let terms : Terms = g.C.Cache.terms c.args.cache.now in
    lists_within (g.C.Cache.stands terms first) terms.print terms.sizes one s (g.C.Cache.kept c.args.cache.now first old) old (λ a b k. g.met.C.Cache.stood c.args.cache.now first old a b k) kept (c.list.ensures.says t first one s kept).within

pub returns-clause-crash : goal.returns-clause-crash
returns-clause-crash g c = λ t first one s kept.
    let old : World = g.R.Rig.world c.args.rig.now in
    let terms : Terms = g.C.Cache.terms c.args.cache.now in
    lists_within (g.C.Cache.stands terms first) terms.print terms.sizes one s (g.C.Cache.kept c.args.cache.now first old) old (λ a b k. g.met.C.Cache.stood c.args.cache.now first old a b k) kept (c.list.ensures.says t first one s kept).within

pub returns-in_err-list-clause-cut : goal.returns-in_err-list-clause-cut
returns-in_err-list-clause-cut g c = λ t first one s kept.
    let old : World = g.R.Rig.world c.args.rig.now in
    let new : World = g.R.Rig.world c.list.new.rig in
    let before : Counts = g.R.Rig.counts c.args.rig.now in
    let after : Counts = g.R.Rig.counts c.list.new.rig in
    let terms : Terms = g.C.Cache.terms c.args.cache.now in
    let Costs = g.C.Cache.costs c.args.cache.now c.args.cache.now in
    let line : List ℕ = reply_line terms.print terms.sizes s lists in
    let free : Costs (line ∷ []) 0 before before = g.met.C.Cache.lists c.args.cache.now s.addresses (map terms.print s.blocks) before in
    let cost : Costs (line ∷ []) 0 before after = g.met.C.Cache.idle c.args.cache.now c.args.cache.now (line ∷ []) 0 before before after c.list.ensures.idle.0 c.list.ensures.idle.1 free in
    let cut : CutsLine terms.print terms.sizes (g.C.Cache.stands terms first) (Pays Costs before after) Output one s (Some lists) old new =
    lists_cut (g.C.Cache.stands terms first) terms.print terms.sizes one s (g.C.Cache.kept c.args.cache.now first old) old (λ a b k. g.met.C.Cache.stood c.args.cache.now first old a b k) kept (Pays Costs before after) new
    (lists_paid terms.print terms.sizes s Costs before after c.list.ensures.frame.0 cost) (c.list.ensures.says t first one s kept).part in
    let was = c.in_err-list.was in
    let halt = c.in_err-list.ensures.halt in
    let is : c.in_err-list.field-0.0 ≡ Output = cc in
    handed_on c.from_residual.result _ (λ (h : Halt). CutsLine terms.print terms.sizes (g.C.Cache.stands terms first) (Pays Costs before after) h one s (Some lists) old new)
    c.from_residual.ensures.1
    (λ h same. subst (λ (k : Halt). CutsLine terms.print terms.sizes (g.C.Cache.stands terms first) (Pays Costs before after) k one s (Some lists) old new) (sym (same ∙ is)) cut)

pub returns-clause-answer : goal.returns-clause-answer
returns-clause-answer g c = λ t first one s kept.
    let old : World = g.R.Rig.world c.args.rig.now in
    let new : World = g.R.Rig.world c.list.new.rig in
    let before : Counts = g.R.Rig.counts c.args.rig.now in
    let after : Counts = g.R.Rig.counts c.list.new.rig in
    let terms : Terms = g.C.Cache.terms c.args.cache.now in
    let Costs = g.C.Cache.costs c.args.cache.now c.args.cache.now in
    let line : List ℕ = reply_line terms.print terms.sizes s lists in
    let free : Costs (line ∷ []) 0 before before = g.met.C.Cache.lists c.args.cache.now s.addresses (map terms.print s.blocks) before in
    let cost : Costs (line ∷ []) 0 before after = g.met.C.Cache.idle c.args.cache.now c.args.cache.now (line ∷ []) 0 before before after c.list.ensures.idle.0 c.list.ensures.idle.1 free in
    let devices = c.list.ensures.devices t in
    lists_said (g.C.Cache.stands terms first) terms.print terms.sizes one s (g.C.Cache.kept c.args.cache.now first new) (λ ls. Pays Costs before after ls 0) old new
    (g.met.C.Cache.unsaid c.args.cache.now first old new one s devices.0 devices.1 kept) (lists_paid terms.print terms.sizes s Costs before after c.list.ensures.frame.0 cost) (c.in_ok-list.ensures.said t first one s kept)

pub returns-in_err-list-clause-does : goal.returns-in_err-list-clause-does
returns-in_err-list-clause-does g c =
    let terms : Terms = g.C.Cache.terms c.args.cache.now in
    let before : Counts = g.R.Rig.counts c.args.rig.now in
    g.met.C.Cache.does_said terms before before (g.R.Rig.counts c.list.new.rig) c.list.ensures.idle.0 c.list.ensures.idle.1 (g.met.C.Cache.does_none terms before)

pub returns-clause-does : goal.returns-clause-does
returns-clause-does g c =
    let terms : Terms = g.C.Cache.terms c.args.cache.now in
    let before : Counts = g.R.Rig.counts c.args.rig.now in
    g.met.C.Cache.does_said terms before before (g.R.Rig.counts c.list.new.rig) c.list.ensures.idle.0 c.list.ensures.idle.1 (g.met.C.Cache.does_none terms before)

pub returns-in_err-list-clause-leaves : goal.returns-in_err-list-clause-leaves
returns-in_err-list-clause-leaves g c = λ t.
    let old : World = g.R.Rig.world c.args.rig.now in
    let same = c.list.ensures.devices t in
    g.met.C.Cache.leaves_said old old (g.R.Rig.world c.list.new.rig) same.0 same.1 (g.met.C.Cache.leaves_all old)

pub returns-clause-leaves : goal.returns-clause-leaves
returns-clause-leaves g c = λ t.
    let old : World = g.R.Rig.world c.args.rig.now in
    let same = c.list.ensures.devices t in
    g.met.C.Cache.leaves_said old old (g.R.Rig.world c.list.new.rig) same.0 same.1 (g.met.C.Cache.leaves_all old)
