use Rattle.std.proofs.Common.{◌<◌, ◌^◌, ℕ, Bool, List, false, refl, sym, subst, arith}
use Rattle.dd_block.specs.declared.print.Fp.{Fp}
use Rattle.dd_rig.specs.World.{World}
use Rattle.dd_rig.proofs.Falling.{falls_self}
use Rattle.dd_script.specs.Command.{read as a_read, quit as a_quit, bad as a_bad, stat}
use Rattle.dd_script.specs.Text.{bye_text, bad_text, stat_text}
use Rattle.dd_model.specs.Orphans.{orphans_of}
use Rattle.dd_script.specs.declared.line.Line.TheVariants as line_is
use Rattle.dd_loop.specs.Answering.{GoesOnWith, Pays}
use Rattle.dd_serve.specs.Answering.{HoldsState, CostsLines}
use Rattle.dd_serve.specs.Scratch.{ScratchView, scratch_sizes}
use Rattle.dd_serve.proofs.Replying.{told_by, replies_bye, replies_stat, replies_bad}
use Rattle.dd_serve.proofs.answering.write_answer.Goals as goal

pub returns-in_ok-write_read-in-Read-clause-answer : goal.returns-in_ok-write_read-in-Read-clause-answer
returns-in_ok-write_read-in-Read-clause-answer g c = λ t first one s kept.
    let print : List ℕ → Fp = g.F.Fingerprint.printed c.args.print.now in
    let old : ScratchView = c.args.scratch.now in
    let new : ScratchView = c.write_read.new.scratch in
    let world : World = g.R.Rig.world c.write_read.new.rig in
    told_by print (scratch_sizes old) (λ committed held. HoldsState print new first world held) (λ lines. Pays (CostsLines old new) (g.R.Rig.counts c.args.rig.now) (g.R.Rig.counts c.write_read.new.rig) lines 0)
    one s c.args.block.now c.args.line (line_is.Read c.in-Read.address) (a_read c.in-Read.address) c.in_ok-write_read-in-Read.field-0 c.write_read.new.text c.in-Read.is refl
    (c.in_ok-write_read-in-Read.ensures.answer t first one s kept)

pub returns-in-Quit-clause-answer : goal.returns-in-Quit-clause-answer
returns-in-Quit-clause-answer g c = λ t first one s kept.
    let print : List ℕ → Fp = g.F.Fingerprint.printed c.args.print.now in
    let scratch : ScratchView = c.args.scratch.now in
    let world : World = g.R.Rig.world c.args.rig.now in
    let counts = g.R.Rig.counts c.args.rig.now in
    let fits : c.count.result < 2 ^ 64 = omega (arith, c.count.ensures, c.requires.count) in
    told_by print (scratch_sizes scratch) (λ committed held. HoldsState print scratch first world held) (λ lines. Pays (CostsLines scratch scratch) counts counts lines 0)
    one s c.args.block.now c.args.line line_is.Quit a_quit (record { size = c.write_reply.result; faulted = false }) c.write_reply.new.into c.in-Quit.is refl
    (bye_text c.count.result, c.write_reply.ensures.text, replies_bye print scratch first world counts (falls_self counts) one s kept c.count.result fits c.count.ensures c.write_reply.ensures.line)

pub returns-in-Bad-clause-answer : goal.returns-in-Bad-clause-answer
returns-in-Bad-clause-answer g c = λ t first one s kept.
    let print : List ℕ → Fp = g.F.Fingerprint.printed c.args.print.now in
    let scratch : ScratchView = c.args.scratch.now in
    let world : World = g.R.Rig.world c.args.rig.now in
    let counts = g.R.Rig.counts c.args.rig.now in
    told_by print (scratch_sizes scratch) (λ committed held. HoldsState print scratch first world held) (λ lines. Pays (CostsLines scratch scratch) counts counts lines 0)
    one s c.args.block.now c.args.line (line_is.Bad c.in-Bad.kind) (a_bad c.in-Bad.kind) (record { size = c.write_reply-in-Bad.result; faulted = false }) c.write_reply-in-Bad.new.into c.in-Bad.is refl
    (bad_text c.in-Bad.kind, c.write_reply-in-Bad.ensures.text, replies_bad print scratch first world counts (falls_self counts) one s kept c.in-Bad.kind c.write_reply-in-Bad.ensures.line)

pub returns-in-Stat-clause-answer : goal.returns-in-Stat-clause-answer
returns-in-Stat-clause-answer g c = λ t first one s kept.
    let print : List ℕ → Fp = g.F.Fingerprint.printed c.args.print.now in
    let scratch : ScratchView = c.args.scratch.now in
    let world : World = g.R.Rig.world c.args.rig.now in
    let counts = g.R.Rig.counts c.args.rig.now in
    let orphans = orphans_of scratch.lists.table in
    let line : List ℕ = stat_text scratch.count orphans.a orphans.b in
    let says = replies_stat print scratch first world counts (falls_self counts) one s kept orphans (c.write_stat.ensures.state print world kept.sound) in
    told_by print (scratch_sizes scratch) (λ committed held. HoldsState print scratch first world held) (λ lines. Pays (CostsLines scratch scratch) counts counts lines 0)
    one s c.args.block.now c.args.line line_is.Stat stat c.write_stat.result c.write_stat.new.text c.in-Stat.is refl
    (line, c.write_stat.ensures.text, subst (λ (b : Bool). GoesOnWith print (scratch_sizes scratch) (λ committed held. HoldsState print scratch first world held) (λ lines. Pays (CostsLines scratch scratch) counts counts lines 0) one s stat b line) (sym c.write_stat.ensures.faulted) says)
