use Rattle.std.proofs.Common.{ℕ, List, length, subst, sym}
use Rattle.dd_block.specs.declared.print.Fp.{Fp}
use Rattle.dd_rig.specs.World.{World}
use Rattle.dd_rig.proofs.Falling.{falls_self}
use Rattle.dd_model.specs.State.{Sizes}
use Rattle.dd_script.specs.Command.{Command}
use Rattle.dd_script.specs.Output.{dialect_of}
use Rattle.dd_script.specs.Script.{commands_of}
use Rattle.dd_store.specs.Meaning.{sizes_of}
use Rattle.dd_loop.specs.declared.ending.Ending.{Ending}
use Rattle.dd_loop.specs.declared.halt.Halt.TheVariants.{Stopped}
use Rattle.dd_script.specs.declared.reply.Stop.TheVariants.{Memory}
use Rattle.dd_loop.specs.Serving.{ServedUpTo}
use Rattle.dd_loop.proofs.Reading.{commands_some}
use Rattle.dd_answers.specs.Answering.{StandsSince}
use Rattle.dd_answers.specs.Serving.{LinesPaid, LoopEnds}
use Rattle.dd_answers.proofs.Finishing.{unserved, ends_so}
use Rattle.dd_answers.proofs.serving.serve_store.Goals as goal

pub returns-in-Err-clause-ends : goal.returns-in-Err-clause-ends
returns-in-Err-clause-ends g c = λ t u start kept.
    let print : List ℕ → Fp = g.F.Fingerprint.printed c.args.store.print in
    let sizes : Sizes = sizes_of c.args.store.store.journal.geo in
    let commands : List Command = commands_of (dialect_of sizes) (g.S.Source.rest c.args.source.now) in
    subst (λ r. ServedUpTo print sizes (StandsSince print (g.R.Rig.world c.args.rig.now)) start commands (LinesPaid (length start.addresses) (g.R.Rig.counts c.args.rig.now) (g.R.Rig.counts r)) (Stopped Memory) (g.R.Rig.world c.args.rig.now).said (g.R.Rig.world r)) (sym c.in-Err.ensures.early.1)
    (unserved (length start.addresses) print sizes (StandsSince print (g.R.Rig.world c.args.rig.now)) Memory start commands (g.R.Rig.world c.args.rig.now) (g.R.Rig.counts c.args.rig.now) (g.R.Rig.counts c.args.rig.now) (λ flash disk flash_image disk_image. (kept.0, kept.1, kept.2.stands flash disk flash_image disk_image)) (commands_some (dialect_of sizes) (g.S.Source.rest c.args.source.now))
    (falls_self (g.R.Rig.counts c.args.rig.now)))

pub returns-in-Ok-clause-ends : goal.returns-in-Ok-clause-ends
returns-in-Ok-clause-ends g c = λ t u start kept.
    let print : List ℕ → Fp = g.F.Fingerprint.printed c.args.store.print in
    let sizes : Sizes = sizes_of c.args.store.store.journal.geo in
    let commands : List Command = commands_of (dialect_of sizes) (g.S.Source.rest c.args.source.now) in
    let before = g.R.Rig.counts c.args.rig.now in
    let after = g.R.Rig.counts c.serve_script.new.rig in
    let new : World = g.R.Rig.world c.serve_script.new.rig in
    subst (λ (ending : Ending). LoopEnds print (g.R.Rig.world c.args.rig.now) sizes start commands ending (g.R.Rig.world c.args.rig.now).said new before after) (sym c.served_ending.ensures)
    (ends_so print (g.R.Rig.world c.args.rig.now) sizes start commands c.in-Ok.served (g.R.Rig.world c.args.rig.now).said new before after (c.in-Ok.ensures.all t u start kept) (c.in-Ok.ensures.some t u start kept))
