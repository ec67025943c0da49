use Rattle.std.proofs.Common.{inl, ℕ, Bool, List, [], refl, sym, subst}
use Rattle.dd_script.specs.Command.{read as a_read, write as a_write, flush as a_flush, clean as a_clean, tick as a_tick, quit as a_quit, bad, stat}
use Rattle.dd_script.specs.Text.{bad_text, stat_text}
use Rattle.dd_model.specs.Orphans.{orphans_of}
use Rattle.dd_rig.proofs.Falling.{falls_self}
use Rattle.dd_script.specs.declared.line.Line.TheVariants as line_is
use Rattle.dd_store.specs.Keeping.{Kept}
use Rattle.dd_store.specs.Meaning.{sizes_of}
use Rattle.dd_loop.specs.Answering.{GoesOnWith, Pays}
use Rattle.dd_loop.specs.declared.halt.Halt.{Halt}
use Rattle.dd_loop.specs.Standing.{AllStandForEither}
use Rattle.dd_script.proofs.Handing.{handed_on}
use Rattle.dd_answers.specs.Answering.{StandsBy}
use Rattle.dd_answers.specs.Costs.{CostsLines}
use Rattle.dd_answers.proofs.Costs.{bad_costs, stat_costs}
use Rattle.dd_answers.proofs.Replying.{replies_bad, replies_stat, told_by}
use Rattle.dd_answers.proofs.lines.write_answer.Goals as goal

pub returns-in_ok-write_read-in-Read-clause-answer : goal.returns-in_ok-write_read-in-Read-clause-answer
returns-in_ok-write_read-in-Read-clause-answer g c = λ t basis one s kept.
    let printed = g.F.Fingerprint.printed c.args.store.now.print in
    told_by printed (sizes_of c.args.store.now.store.journal.geo) (λ committed held. Kept basis printed c.write_read.new.store.store (g.R.Rig.world c.write_read.new.rig) committed held)
    (λ lines. Pays (CostsLines c.args.store.now.store c.write_read.new.store.store) (g.R.Rig.counts c.args.rig.now) (g.R.Rig.counts c.write_read.new.rig) lines 0) one s c.args.block.now c.args.line (line_is.Read c.in-Read.address) (a_read c.in-Read.address) c.in_ok-write_read-in-Read.field-0 c.write_read.new.text c.in-Read.is refl
    (c.in_ok-write_read-in-Read.ensures.answer t basis one s kept)

pub returns-in_ok-write_write-in-Write-clause-answer : goal.returns-in_ok-write_write-in-Write-clause-answer
returns-in_ok-write_write-in-Write-clause-answer g c = λ t basis one s kept.
    let printed = g.F.Fingerprint.printed c.args.store.now.print in
    told_by printed (sizes_of c.args.store.now.store.journal.geo) (λ committed held. Kept basis printed c.write_write.new.store.store (g.R.Rig.world c.write_write.new.rig) committed held)
    (λ lines. Pays (CostsLines c.args.store.now.store c.write_write.new.store.store) (g.R.Rig.counts c.args.rig.now) (g.R.Rig.counts c.write_write.new.rig) lines 0) one s c.args.block.now c.args.line (line_is.Write c.in-Write.address) (a_write c.in-Write.address c.args.block.now) c.in_ok-write_write-in-Write.field-0 c.write_write.new.text c.in-Write.is refl
    (c.in_ok-write_write-in-Write.ensures.answer t basis one s kept)

pub returns-in_ok-write_flushed-in-Flush-clause-answer : goal.returns-in_ok-write_flushed-in-Flush-clause-answer
returns-in_ok-write_flushed-in-Flush-clause-answer g c = λ t basis one s kept.
    let printed = g.F.Fingerprint.printed c.args.store.now.print in
    told_by printed (sizes_of c.args.store.now.store.journal.geo) (λ committed held. Kept basis printed c.write_flushed.new.store.store (g.R.Rig.world c.write_flushed.new.rig) committed held)
    (λ lines. Pays (CostsLines c.args.store.now.store c.write_flushed.new.store.store) (g.R.Rig.counts c.args.rig.now) (g.R.Rig.counts c.write_flushed.new.rig) lines 0) one s c.args.block.now c.args.line line_is.Flush a_flush c.in_ok-write_flushed-in-Flush.field-0 c.write_flushed.new.text c.in-Flush.is refl
    (c.in_ok-write_flushed-in-Flush.ensures.answer t basis one s kept)

pub returns-in_ok-write_cleaned-in-Clean-clause-answer : goal.returns-in_ok-write_cleaned-in-Clean-clause-answer
returns-in_ok-write_cleaned-in-Clean-clause-answer g c = λ t basis one s kept.
    let printed = g.F.Fingerprint.printed c.args.store.now.print in
    told_by printed (sizes_of c.args.store.now.store.journal.geo) (λ committed held. Kept basis printed c.write_cleaned.new.store.store (g.R.Rig.world c.write_cleaned.new.rig) committed held)
    (λ lines. Pays (CostsLines c.args.store.now.store c.write_cleaned.new.store.store) (g.R.Rig.counts c.args.rig.now) (g.R.Rig.counts c.write_cleaned.new.rig) lines 0) one s c.args.block.now c.args.line line_is.Clean a_clean c.in_ok-write_cleaned-in-Clean.field-0 c.write_cleaned.new.text c.in-Clean.is refl
    (c.in_ok-write_cleaned-in-Clean.ensures.answer t basis one s kept)

pub returns-in_ok-write_ticked-in-Tick-clause-answer : goal.returns-in_ok-write_ticked-in-Tick-clause-answer
returns-in_ok-write_ticked-in-Tick-clause-answer g c = λ t basis one s kept.
    let printed = g.F.Fingerprint.printed c.args.store.now.print in
    told_by printed (sizes_of c.args.store.now.store.journal.geo) (λ committed held. Kept basis printed c.write_ticked.new.store.store (g.R.Rig.world c.write_ticked.new.rig) committed held)
    (λ lines. Pays (CostsLines c.args.store.now.store c.write_ticked.new.store.store) (g.R.Rig.counts c.args.rig.now) (g.R.Rig.counts c.write_ticked.new.rig) lines 0) one s c.args.block.now c.args.line line_is.Tick a_tick c.in_ok-write_ticked-in-Tick.field-0 c.write_ticked.new.text c.in-Tick.is refl
    (c.in_ok-write_ticked-in-Tick.ensures.answer t basis one s kept)

pub returns-in_ok-write_bye-in-Quit-clause-answer : goal.returns-in_ok-write_bye-in-Quit-clause-answer
returns-in_ok-write_bye-in-Quit-clause-answer g c = λ t basis one s kept.
    let printed = g.F.Fingerprint.printed c.args.store.now.print in
    told_by printed (sizes_of c.args.store.now.store.journal.geo) (λ committed held. Kept basis printed c.write_bye.new.store.store (g.R.Rig.world c.write_bye.new.rig) committed held)
    (λ lines. Pays (CostsLines c.args.store.now.store c.write_bye.new.store.store) (g.R.Rig.counts c.args.rig.now) (g.R.Rig.counts c.write_bye.new.rig) lines 0) one s c.args.block.now c.args.line line_is.Quit a_quit c.in_ok-write_bye-in-Quit.field-0 c.write_bye.new.text c.in-Quit.is refl
    (c.in_ok-write_bye-in-Quit.ensures.answer t basis one s kept)

pub returns-in_err-write_read-in-Read-clause-halt : goal.returns-in_err-write_read-in-Read-clause-halt
returns-in_err-write_read-in-Read-clause-halt g c = λ t basis one s kept.
    handed_on c.from_residual.result _ (λ (h : Halt). AllStandForEither (StandsBy basis (g.F.Fingerprint.printed c.args.store.now.print)) one s (g.R.Rig.world c.write_read.new.rig) × CostsLines c.args.store.now.store c.write_read.new.store.store [] 1 (g.R.Rig.counts c.args.rig.now) (g.R.Rig.counts c.write_read.new.rig))
    c.from_residual.ensures.1 (λ h same. c.in_err-write_read-in-Read.ensures.halt t basis one s kept)

pub returns-in_err-write_write-in-Write-clause-halt : goal.returns-in_err-write_write-in-Write-clause-halt
returns-in_err-write_write-in-Write-clause-halt g c = λ t basis one s kept.
    handed_on c.from_residual-in_err-write_write-in-Write.result _ (λ (h : Halt). AllStandForEither (StandsBy basis (g.F.Fingerprint.printed c.args.store.now.print)) one s (g.R.Rig.world c.write_write.new.rig) × CostsLines c.args.store.now.store c.write_write.new.store.store [] 1 (g.R.Rig.counts c.args.rig.now) (g.R.Rig.counts c.write_write.new.rig))
    c.from_residual-in_err-write_write-in-Write.ensures.1 (λ h same. c.in_err-write_write-in-Write.ensures.halt t basis one s kept)

pub returns-in_err-write_flushed-in-Flush-clause-halt : goal.returns-in_err-write_flushed-in-Flush-clause-halt
returns-in_err-write_flushed-in-Flush-clause-halt g c = λ t basis one s kept.
    handed_on c.from_residual-in_err-write_flushed-in-Flush.result _ (λ (h : Halt). AllStandForEither (StandsBy basis (g.F.Fingerprint.printed c.args.store.now.print)) one s (g.R.Rig.world c.write_flushed.new.rig) × CostsLines c.args.store.now.store c.write_flushed.new.store.store [] 1 (g.R.Rig.counts c.args.rig.now) (g.R.Rig.counts c.write_flushed.new.rig))
    c.from_residual-in_err-write_flushed-in-Flush.ensures.1 (λ h same. c.in_err-write_flushed-in-Flush.ensures.halt t basis one s kept)

pub returns-in_err-write_cleaned-in-Clean-clause-halt : goal.returns-in_err-write_cleaned-in-Clean-clause-halt
returns-in_err-write_cleaned-in-Clean-clause-halt g c = λ t basis one s kept.
    handed_on c.from_residual-in_err-write_cleaned-in-Clean.result _ (λ (h : Halt). AllStandForEither (StandsBy basis (g.F.Fingerprint.printed c.args.store.now.print)) one s (g.R.Rig.world c.write_cleaned.new.rig) × CostsLines c.args.store.now.store c.write_cleaned.new.store.store [] 1 (g.R.Rig.counts c.args.rig.now) (g.R.Rig.counts c.write_cleaned.new.rig))
    c.from_residual-in_err-write_cleaned-in-Clean.ensures.1 (λ h same. c.in_err-write_cleaned-in-Clean.ensures.halt t basis one s kept)

pub returns-in_err-write_ticked-in-Tick-clause-halt : goal.returns-in_err-write_ticked-in-Tick-clause-halt
returns-in_err-write_ticked-in-Tick-clause-halt g c = λ t basis one s kept.
    handed_on c.from_residual-in_err-write_ticked-in-Tick.result _ (λ (h : Halt). AllStandForEither (StandsBy basis (g.F.Fingerprint.printed c.args.store.now.print)) one s (g.R.Rig.world c.write_ticked.new.rig) × CostsLines c.args.store.now.store c.write_ticked.new.store.store [] 1 (g.R.Rig.counts c.args.rig.now) (g.R.Rig.counts c.write_ticked.new.rig))
    c.from_residual-in_err-write_ticked-in-Tick.ensures.1 (λ h same. c.in_err-write_ticked-in-Tick.ensures.halt t basis one s kept)

pub returns-in_err-write_bye-in-Quit-clause-halt : goal.returns-in_err-write_bye-in-Quit-clause-halt
returns-in_err-write_bye-in-Quit-clause-halt g c = λ t basis one s kept.
    handed_on c.from_residual-in_err-write_bye-in-Quit.result _ (λ (h : Halt). AllStandForEither (StandsBy basis (g.F.Fingerprint.printed c.args.store.now.print)) one s (g.R.Rig.world c.write_bye.new.rig) × CostsLines c.args.store.now.store c.write_bye.new.store.store [] 1 (g.R.Rig.counts c.args.rig.now) (g.R.Rig.counts c.write_bye.new.rig))
    c.from_residual-in_err-write_bye-in-Quit.ensures.1 (λ h same. c.in_err-write_bye-in-Quit.ensures.halt t basis one s kept)

pub returns-in-Bad-clause-answer : goal.returns-in-Bad-clause-answer
returns-in-Bad-clause-answer g c = λ t basis one s kept.
    let printed = g.F.Fingerprint.printed c.args.store.now.print in
    let sizes = sizes_of c.args.store.now.store.journal.geo in
    let store = c.args.store.now.store in
    let world = g.R.Rig.world c.args.rig.now in
    let counts = g.R.Rig.counts c.args.rig.now in
    let kind = c.in-Bad.kind in
    let says = replies_bad basis printed sizes store world (CostsLines store store) counts counts (falls_self counts) one s kind c.write_bad.ensures.line (record { committed = one; either = inl refl; kept = kept }) (bad_costs store counts kind) in
    told_by printed sizes (λ committed held. Kept basis printed store world committed held) (λ lines. Pays (CostsLines store store) counts counts lines 0) one s c.args.block.now c.args.line (line_is.Bad kind) (bad kind) c.write_bad.result c.write_bad.new.text
    c.in-Bad.is refl
    (bad_text kind, c.write_bad.ensures.text, subst (λ (b : Bool). GoesOnWith printed sizes (λ committed held. Kept basis printed store world committed held) (λ lines. Pays (CostsLines store store) counts counts lines 0) one s (bad kind) b (bad_text kind)) (sym c.write_bad.ensures.faulted) says)

pub returns-in-Stat-clause-answer : goal.returns-in-Stat-clause-answer
returns-in-Stat-clause-answer g c = λ t basis one s kept.
    let printed = g.F.Fingerprint.printed c.args.store.now.print in
    let sizes = sizes_of c.args.store.now.store.journal.geo in
    let store = c.args.store.now.store in
    let world = g.R.Rig.world c.args.rig.now in
    let counts = g.R.Rig.counts c.args.rig.now in
    let orphans = orphans_of store.table in
    let line : List ℕ = stat_text store.count orphans.a orphans.b in
    let says = replies_stat basis printed sizes store world (CostsLines store store) counts counts (falls_self counts) one s store.count orphans (sym kept.holds.means.lists.counted) (c.write_stat.ensures.state world s kept.holds)
    (record { committed = one; either = inl refl; kept = kept }) (stat_costs store counts store.count orphans.a orphans.b) in
    told_by printed sizes (λ committed held. Kept basis printed store world committed held) (λ lines. Pays (CostsLines store store) counts counts lines 0) one s c.args.block.now c.args.line line_is.Stat stat c.write_stat.result c.write_stat.new.text
    c.in-Stat.is refl
    (line, c.write_stat.ensures.text, subst (λ (b : Bool). GoesOnWith printed sizes (λ committed held. Kept basis printed store world committed held) (λ lines. Pays (CostsLines store store) counts counts lines 0) one s stat b line) (sym c.write_stat.ensures.faulted) says)
