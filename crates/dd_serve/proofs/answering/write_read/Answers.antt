use Rattle.std.proofs.Common.{true, false, inl, inr, refl, sym, ap, subst, ℕ, List}
use Rattle.dd_block.specs.declared.print.Fp.{Fp}
use Rattle.dd_rig.specs.declared.device.Dev.TheVariants.{Flash, Disk}
use Rattle.dd_rig.specs.World.{World}
use Rattle.dd_model.specs.State.{State}
use Rattle.dd_script.specs.Command.{read as a_read}
use Rattle.dd_loop.specs.Answering.{Pays, WritesLine}
use Rattle.dd_serve.specs.Answering.{HoldsState, CostsLines}
use Rattle.dd_serve.specs.Laws.{scratched_both}
use Rattle.dd_serve.specs.Scratch.{ScratchView, scratch_state, scratch_sizes}
use Rattle.dd_serve.proofs.Replying.{replies_read, faults, sound_left, state_left}
use Rattle.dd_serve.proofs.answering.write_read.Goals as goal

pub returns-in-Ok-clause-answer : goal.returns-in-Ok-clause-answer
returns-in-Ok-clause-answer g c = λ t first one s kept.
    let print : List ℕ → Fp = g.F.Fingerprint.printed c.args.print.now in
    let old : ScratchView = c.args.scratch.now in
    let new : ScratchView = c.read.new.self in
    let middle : World = g.R.Rig.world c.args.rig.now in
    let world : World = g.R.Rig.world c.read.new.rig in
    let before = g.R.Rig.counts c.args.rig.now in
    let end = g.R.Rig.counts c.read.new.rig in
    subst (λ (x : State). WritesLine print (scratch_sizes old) (λ committed held. HoldsState print new first world held) (λ lines. Pays (CostsLines old new) before end lines 0) one x (a_read c.args.address) (record { size = c.reply_read.result; faulted = false }) c.reply_read.new.into) (sym kept.is) (
      _,
      c.reply_read.ensures.text,
      replies_read print old new first world before end c.read.ensures.frame.0 (scratched_both first middle world kept.since (c.read.ensures.others t).0) c.in-Ok.ensures.sizes.0 (c.in-Ok.ensures.sound t kept.sound) one (scratch_state old middle)
          c.args.address c.read.new.block c.in-Ok.done c.reply_read.ensures.line (c.in-Ok.ensures.block t kept.sound) (c.in-Ok.ensures.answer t kept.sound) (c.in-Ok.ensures.state t kept.sound) (c.in-Ok.ensures.asks_for t kept.sound),
    )

pub returns-in-Err-FlashRead-clause-answer : goal.returns-in-Err-FlashRead-clause-answer
returns-in-Err-FlashRead-clause-answer g c = λ t first one s kept.
    let print : List ℕ → Fp = g.F.Fingerprint.printed c.args.print.now in
    let old : ScratchView = c.args.scratch.now in
    let new : ScratchView = c.read.new.self in
    let middle : World = g.R.Rig.world c.args.rig.now in
    let world : World = g.R.Rig.world c.read.new.rig in
    let before = g.R.Rig.counts c.args.rig.now in
    let end = g.R.Rig.counts c.read.new.rig in
    let told = rw c.in-Err-FlashRead.field-0-is at c.in-Err-FlashRead.ensures in
    subst (λ (x : State). WritesLine print (scratch_sizes old) (λ committed held. HoldsState print new first world held) (λ lines. Pays (CostsLines old new) before end lines 0) one x (a_read c.args.address) (record { size = c.write_reply.result; faulted = true }) c.write_reply.new.into) (sym kept.is) (
      _,
      c.write_reply.ensures.text,
      faults print old new first world before end c.read.ensures.frame.0 (scratched_both first middle world kept.since (c.read.ensures.others t).0) (ap scratch_sizes told.kept) (sound_left print old new middle world told.kept (told.unread t) kept.sound) one (scratch_state old middle)
          (a_read c.args.address) Flash (inl refl) (state_left old new middle world told.kept (told.unread t)) told.cause told.asks,
    )

pub returns-in-Err-DiskRead-clause-answer : goal.returns-in-Err-DiskRead-clause-answer
returns-in-Err-DiskRead-clause-answer g c = λ t first one s kept.
    let print : List ℕ → Fp = g.F.Fingerprint.printed c.args.print.now in
    let old : ScratchView = c.args.scratch.now in
    let new : ScratchView = c.read.new.self in
    let middle : World = g.R.Rig.world c.args.rig.now in
    let world : World = g.R.Rig.world c.read.new.rig in
    let before = g.R.Rig.counts c.args.rig.now in
    let end = g.R.Rig.counts c.read.new.rig in
    let told = rw c.in-Err-DiskRead.field-0-is at c.in-Err-DiskRead.ensures in
    subst (λ (x : State). WritesLine print (scratch_sizes old) (λ committed held. HoldsState print new first world held) (λ lines. Pays (CostsLines old new) before end lines 0) one x (a_read c.args.address) (record { size = c.write_reply-in-Err-DiskRead.result; faulted = true }) c.write_reply-in-Err-DiskRead.new.into) (sym kept.is) (
      _,
      c.write_reply-in-Err-DiskRead.ensures.text,
      faults print old new first world before end c.read.ensures.frame.0 (scratched_both first middle world kept.since (c.read.ensures.others t).0) (ap scratch_sizes told.kept) (sound_left print old new middle world told.kept (told.unread t) kept.sound) one (scratch_state old middle)
          (a_read c.args.address) Disk (inr refl) (state_left old new middle world told.kept (told.unread t)) told.cause told.asks,
    )
