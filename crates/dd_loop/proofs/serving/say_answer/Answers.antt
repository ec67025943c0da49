use Rattle.std.proofs.Common.{◌≡◌, List, ℕ, sym, subst, ◌∙◌}
use Rattle.dd_rig.specs.World.{World}
use Rattle.dd_rig.specs.declared.tallies.Counts.{Counts}
use Rattle.dd_model.specs.State.{State}
use Rattle.dd_script.specs.Line.{told}
use Rattle.dd_loop.specs.Terms.{Terms}
use Rattle.dd_loop.specs.Standing.{AllStand}
use Rattle.dd_loop.specs.Answering.{Pays, CutsLine}
use Rattle.dd_loop.specs.declared.halt.Halt.{Halt}
use Rattle.dd_loop.specs.declared.halt.Halt.TheVariants.{Output}
use Rattle.dd_script.proofs.Handing.{handed_on}
use Rattle.dd_loop.proofs.Answering.{line_within, line_cut}
use Rattle.dd_loop.proofs.Faults.{counts_later}
use Rattle.dd_loop.proofs.serving.say_answer.Goals as goal

pub returns-in_err-say-in-Some-clause-crash : goal.returns-in_err-say-in-Some-clause-crash
returns-in_err-say-in-Some-clause-crash g c = λ t first one s kept.
    let old : World = g.R.Rig.world c.args.rig.now in
    let middle : World = g.R.Rig.world c.answer.new.rig in
    let terms : Terms = g.C.Cache.terms c.args.cache.now in
    let stands : (a b : State) → g.C.Cache.kept c.answer.new.self first middle a b → AllStand (g.C.Cache.stands terms first) middle a =
    λ a b k. subst (λ (x : Terms). AllStand (g.C.Cache.stands x first) middle a) c.answer.ensures.same (g.met.C.Cache.stood c.answer.new.self first middle a b k) in
    line_within (g.C.Cache.stands terms first) terms.print terms.sizes (g.C.Cache.kept c.answer.new.self first middle) (λ lines. Pays (g.C.Cache.costs c.args.cache.now c.answer.new.self) (g.R.Rig.counts c.args.rig.now) (g.R.Rig.counts c.answer.new.rig) lines 0) one s old middle (c.answer.ensures.said t) stands c.in-Some.written c.answer.new.text
    (told c.args.block.now c.args.line) (rw c.in-Some.is at (c.in_ok-answer.ensures.answer t first one s kept)) (c.answer.ensures.crash t first one s kept) (c.say.ensures.time t)

pub returns-in_ok-say-in-Some-clause-crash : goal.returns-in_ok-say-in-Some-clause-crash
returns-in_ok-say-in-Some-clause-crash g c = λ t first one s kept.
    let old : World = g.R.Rig.world c.args.rig.now in
    let middle : World = g.R.Rig.world c.answer.new.rig in
    let terms : Terms = g.C.Cache.terms c.args.cache.now in
    let stands : (a b : State) → g.C.Cache.kept c.answer.new.self first middle a b → AllStand (g.C.Cache.stands terms first) middle a =
    λ a b k. subst (λ (x : Terms). AllStand (g.C.Cache.stands x first) middle a) c.answer.ensures.same (g.met.C.Cache.stood c.answer.new.self first middle a b k) in
    line_within (g.C.Cache.stands terms first) terms.print terms.sizes (g.C.Cache.kept c.answer.new.self first middle) (λ lines. Pays (g.C.Cache.costs c.args.cache.now c.answer.new.self) (g.R.Rig.counts c.args.rig.now) (g.R.Rig.counts c.answer.new.rig) lines 0) one s old middle (c.answer.ensures.said t) stands c.in-Some.written c.answer.new.text
    (told c.args.block.now c.args.line) (rw c.in-Some.is at (c.in_ok-answer.ensures.answer t first one s kept)) (c.answer.ensures.crash t first one s kept) (c.say.ensures.time t)

pub returns-in_err-say-in-Some-clause-cut : goal.returns-in_err-say-in-Some-clause-cut
returns-in_err-say-in-Some-clause-cut g c = λ t first one s kept.
    let old : World = g.R.Rig.world c.args.rig.now in
    let middle : World = g.R.Rig.world c.answer.new.rig in
    let last : World = g.R.Rig.world c.say.new.rig in
    let before : Counts = g.R.Rig.counts c.args.rig.now in
    let then : Counts = g.R.Rig.counts c.answer.new.rig in
    let after : Counts = g.R.Rig.counts c.say.new.rig in
    let terms : Terms = g.C.Cache.terms c.args.cache.now in
    let Costs = g.C.Cache.costs c.args.cache.now c.answer.new.self in
    let stands : (a b : State) → g.C.Cache.kept c.answer.new.self first middle a b → AllStand (g.C.Cache.stands terms first) middle a =
    λ a b k. subst (λ (x : Terms). AllStand (g.C.Cache.stands x first) middle a) c.answer.ensures.same (g.met.C.Cache.stood c.answer.new.self first middle a b k) in
    let pays : (lines : List (List ℕ)) → Pays Costs before then lines 0 → Pays Costs before after lines 0 =
    λ lines p. (g.met.C.Cache.idle c.args.cache.now c.answer.new.self lines 0 before then after c.say.ensures.idle.0 c.say.ensures.idle.1 p.0, counts_later lines before then after p.1 c.say.ensures.frame.0) in
    let cut : CutsLine terms.print terms.sizes (g.C.Cache.stands terms first) (Pays Costs before after) Output one s (told c.args.block.now c.args.line) old last =
    line_cut (g.C.Cache.stands terms first) terms.print terms.sizes (g.C.Cache.kept c.answer.new.self first middle) (λ lines. Pays (g.C.Cache.costs c.args.cache.now c.answer.new.self) (g.R.Rig.counts c.args.rig.now) (g.R.Rig.counts c.answer.new.rig) lines 0) one s old middle (c.answer.ensures.said t) stands c.in-Some.written c.answer.new.text
    (Pays Costs before after) pays
    (told c.args.block.now c.args.line) last (rw c.in-Some.is at (c.in_ok-answer.ensures.answer t first one s kept)) (c.say.ensures.part t) in
    let was = c.in_err-say-in-Some.was in
    let halt = c.in_err-say-in-Some.ensures.halt in
    let is : c.in_err-say-in-Some.field-0.0 ≡ Output = cc in
    handed_on c.from_residual-in_err-say-in-Some.result _ (λ (h : Halt). CutsLine terms.print terms.sizes (g.C.Cache.stands terms first) (Pays Costs before after) h one s (told c.args.block.now c.args.line) old last)
    c.from_residual-in_err-say-in-Some.ensures.1
    (λ h same. subst (λ (k : Halt). CutsLine terms.print terms.sizes (g.C.Cache.stands terms first) (Pays Costs before after) k one s (told c.args.block.now c.args.line) old last) (sym (same ∙ is)) cut)
