use Rattle.std.proofs.Common.{inl, inr, ⊎_elim, ℕ, List, sym, ap, subst}
use Rattle.dd_rig.proofs.Moments.{widens}
use Rattle.dd_block.specs.declared.print.Fp.{Fp}
use Rattle.dd_script.specs.Line.{told}
use Rattle.dd_store.specs.Keeping.{Kept}
use Rattle.dd_store.specs.Meaning.{sizes_of}
use Rattle.dd_loop.specs.Answering.{Pays}
use Rattle.dd_answers.specs.Answering.{KeptSince}
use Rattle.dd_answers.specs.Costs.{CostsLines}
use Rattle.dd_answers.proofs.Replying.{answers_by}
use Rattle.dd_answers.proofs.Spent.{err_map}
use Rattle.dd_answers.proofs.cache.StoreCacheCache.answer.Goals as goal

pub returns-clause-crash : goal.returns-clause-crash
returns-clause-crash g c = λ t first one s kept. widens (c.write_answer.ensures.crash t kept.0 one s kept.2) (λ o left. (⊎_elim (λ stands. inl (kept.0, kept.1, stands)) (λ stands. inr (kept.0, kept.1, stands)) left.0, left.1))

pub returns-clause-answer : goal.returns-clause-answer
returns-clause-answer g c = λ t first one s kept.
    let printed : List ℕ → Fp = g.F.Fingerprint.printed c.args.self.now.store.print in
    let printed_now : List ℕ → Fp = g.F.Fingerprint.printed c.write_answer.new.store.print in
    let new = c.write_answer.new.store.store in
    let world = g.R.Rig.world c.write_answer.new.rig in
    let before = g.R.Rig.counts c.args.rig.now in
    let end = g.R.Rig.counts c.write_answer.new.rig in
    answers_by printed (sizes_of c.args.self.now.store.store.journal.geo) (λ committed held. Kept kept.0 printed new world committed held) (λ committed held. KeptSince printed_now new first world committed held)
    (λ lines. Pays (CostsLines c.args.self.now.store.store new) before end lines 0)
    (λ a b k. (kept.0, kept.1, subst (λ (p : List ℕ → Fp). Kept kept.0 p new world a b) (ap g.F.Fingerprint.printed (sym c.write_answer.ensures.same.0)) k)) one s
    (told c.args.block.now c.args.line) c.write_answer.result c.write_answer.new.text (c.write_answer.ensures.answer t kept.0 one s kept.2)

pub returns-clause-halt : goal.returns-clause-halt
returns-clause-halt g c = λ t first one s kept.
    err_map c.write_answer.result _ _
    (λ halt left. (λ flash disk flash_image disk_image. ⊎_elim (λ stands. inl (kept.0, kept.1, stands)) (λ stands. inr (kept.0, kept.1, stands)) (left.0 flash disk flash_image disk_image), left.1))
    (c.write_answer.ensures.halt t kept.0 one s kept.2)
