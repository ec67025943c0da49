use Rattle.std.proofs.Common.{◌≡◌, sym, subst, ◌∙◌}
use Rattle.dd_rig.specs.declared.device.Dev.TheVariants.{Disk}
use Rattle.dd_rig.specs.Counts.{IsStill}
use Rattle.dd_rig.specs.World.{World}
use Rattle.dd_model.proofs.AlignmentLaws.{aligned-fresh}
use Rattle.dd_script.specs.Output.{dialect_of}
use Rattle.dd_script.specs.Script.{commands_of, lines_of}
use Rattle.dd_store.proofs.Kept.{stands_state}
use Rattle.dd_loop.specs.Ending.{SaysEnding}
use Rattle.dd_loop.specs.Saying.{SaysAlone}
use Rattle.dd_recover.specs.Beginning.{sizes_from}
use Rattle.dd_serve.specs.declared.words.Asked.{Asked}
use Rattle.dd_serve.specs.Replays.{lines_since, plan_sizes, replay_commands, replay_dialect, replay_start, said_since}
use Rattle.dd_serve.specs.Run.{IsCaused, Does, Shows, Leaves, EndsWell, Takes}
use Rattle.dd_serve.specs.Words.{HasRanges, IsPlan}
use Rattle.dd_serve.proofs.Ranges.{commands_in}
use Rattle.dd_serve.proofs.Running.{format_ends, replay_ends, small_calls, small_caused, small_leaves}
use Rattle.dd_serve.proofs.Starts.{replay_rules}
use Rattle.dd_serve.proofs.Together.{stats_tell}
use Rattle.dd_serve.proofs.top.run_asked.Goals as goal

pub returns-in-Some-clause-cause : goal.returns-in-Some-clause-cause
returns-in-Some-clause-cause g c =
    let before = g.R.Rig.counts c.args.rig.now in
    let after = g.R.Rig.counts c.finish.new.rig in
    let old : World = g.R.Rig.world c.args.rig.now in
    let new : World = g.R.Rig.world c.finish.new.rig in
    let script = g.S.Source.rest c.args.source.now in
    let size = g.R.Rig.device_size c.args.rig.now in
    small_caused c.args.asked c.in-Some.why c.finish.result (λ line. g.R.Rig.tells → SaysAlone line before after old new) (λ ending. g.R.Rig.tells → SaysEnding ending before after old new) (c.args.source.now ≡ c.args.source.now) g.S.Source.tells size script
    before after (g.S.Source.failures c.args.source.now) (g.S.Source.failures c.args.source.now) (sym c.in-Some.is ∙ c.too_small.ensures.why) c.finish.ensures.status c.in-Some.ensures.status (λ t. c.finish.ensures.said t)

pub returns-in-Some-clause-calls : goal.returns-in-Some-clause-calls
returns-in-Some-clause-calls g c = small_calls c.args.asked c.finish.result (g.R.Rig.counts c.args.rig.now) (g.R.Rig.counts c.finish.new.rig) c.finish.ensures.idle

pub returns-in-Some-clause-crash : goal.returns-in-Some-clause-crash
returns-in-Some-clause-crash g c = λ t.
    let old : World = g.R.Rig.world c.args.rig.now in
    let new : World = g.R.Rig.world c.finish.new.rig in
    let printed = g.F.Fingerprint.printed c.args.print in
    let script = g.S.Source.rest c.args.source.now in
    let size = g.R.Rig.device_size c.args.rig.now in
    small_leaves printed c.args.asked c.in-Some.why g.S.Source.tells size script old new _ _ (sym c.in-Some.is ∙ c.too_small.ensures.why) (c.finish.ensures.time t)

pub returns-in-Replay-clause-cause : goal.returns-in-Replay-clause-cause
returns-in-Replay-clause-cause g c =
    let before = g.R.Rig.counts c.args.rig.now in
    let after = g.R.Rig.counts c.run_replay.new.rig in
    let old : World = g.R.Rig.world c.args.rig.now in
    let new : World = g.R.Rig.world c.run_replay.new.rig in
    let script = g.S.Source.rest c.args.source.now in
    subst (λ (a : Asked). IsCaused a c.run_replay.result (λ line. g.R.Rig.tells → SaysAlone line before after old new) (λ ending. g.R.Rig.tells → SaysEnding ending before after old new) (c.run_replay.new.source ≡ c.args.source.now) g.S.Source.tells script before after (g.S.Source.failures c.args.source.now) (g.S.Source.failures c.run_replay.new.source)) (sym c.in-Replay.is)
    c.run_replay.ensures.caused

pub returns-in-Replay-clause-calls : goal.returns-in-Replay-clause-calls
returns-in-Replay-clause-calls g c =
    subst (λ (a : Asked). Does a c.run_replay.result (g.R.Rig.counts c.args.rig.now) (g.R.Rig.counts c.run_replay.new.rig)) (sym c.in-Replay.is)
    (c.run_replay.ensures.blocks, c.run_replay.ensures.looks)

pub returns-in-Replay-clause-shown : goal.returns-in-Replay-clause-shown
returns-in-Replay-clause-shown g c = λ t.
    let printed = g.F.Fingerprint.printed c.args.print in
    let size = g.R.Rig.device_size c.args.rig.now in
    let script = g.S.Source.rest c.args.source.now in
    let before = g.R.Rig.counts c.args.rig.now in
    let after = g.R.Rig.counts c.run_replay.new.rig in
    let old : World = g.R.Rig.world c.args.rig.now in
    let new : World = g.R.Rig.world c.run_replay.new.rig in
    let plan = c.in-Replay.plan in
    let is : IsPlan plan = subst HasRanges c.in-Replay.is c.requires in
    let long = (g.met.R.Rig.shows_image c.args.rig.now Disk t).same_length ∙ g.met.R.Rig.has_size c.args.rig.now Disk t in
    subst (λ (asked : Asked). Shows printed asked c.run_replay.result g.S.Source.tells size script before after old new) (sym c.in-Replay.is) (
      c.run_replay.ensures.others t,
      c.run_replay.ensures.served t,
      λ u first.
          let says = c.run_replay.ensures.served t u first in
          stats_tell printed (plan_sizes plan (size Disk)) (replay_start plan (size Disk) old) (replay_commands plan (size Disk) script) (lines_since old new) (lines_of (said_since old new)).rest
          (commands_in (replay_dialect plan (size Disk)) script) (replay_rules plan (size Disk) old is long) (aligned-fresh plan.bcap (replay_start plan (size Disk) old).array) says.answers,
    )

pub returns-in-Replay-clause-quiet : goal.returns-in-Replay-clause-quiet
returns-in-Replay-clause-quiet g c = λ t quiet.
    let before = g.R.Rig.counts c.args.rig.now in
    let after = g.R.Rig.counts c.run_replay.new.rig in
    let old : World = g.R.Rig.world c.args.rig.now in
    let new : World = g.R.Rig.world c.run_replay.new.rig in
    let printed = g.F.Fingerprint.printed c.args.print in
    let script = g.S.Source.rest c.args.source.now in
    let size = g.R.Rig.device_size c.args.rig.now in
    subst (λ (a : Asked). EndsWell printed a c.run_replay.result (g.S.Source.tells × IsStill (g.S.Source.failures c.args.source.now) (g.S.Source.failures c.run_replay.new.source)) size script old) (sym c.in-Replay.is)
    (replay_ends printed c.in-Replay.plan c.run_replay.result g.S.Source.tells (λ line. g.R.Rig.tells → SaysAlone line before after old new) (λ ending. g.R.Rig.tells → SaysEnding ending before after old new) size script before after old new (g.S.Source.failures c.args.source.now) (g.S.Source.failures c.run_replay.new.source)
    c.run_replay.ensures.status (c.run_replay.ensures.refused t) c.run_replay.ensures.caused (c.run_replay.ensures.served t) quiet)

pub returns-in-Format-clause-cause : goal.returns-in-Format-clause-cause
returns-in-Format-clause-cause g c =
    let before = g.R.Rig.counts c.args.rig.now in
    let after = g.R.Rig.counts c.run_format.new.rig in
    let old : World = g.R.Rig.world c.args.rig.now in
    let new : World = g.R.Rig.world c.run_format.new.rig in
    let script = g.S.Source.rest c.args.source.now in
    subst (λ (a : Asked). IsCaused a c.run_format.result (λ line. g.R.Rig.tells → SaysAlone line before after old new) (λ ending. g.R.Rig.tells → SaysEnding ending before after old new) (c.args.source.now ≡ c.args.source.now) g.S.Source.tells script before after (g.S.Source.failures c.args.source.now) (g.S.Source.failures c.args.source.now)) (sym c.in-Format.is)
    c.run_format.ensures.caused

pub returns-in-Format-clause-crash : goal.returns-in-Format-clause-crash
returns-in-Format-clause-crash g c = λ t.
    let old : World = g.R.Rig.world c.args.rig.now in
    let new : World = g.R.Rig.world c.run_format.new.rig in
    let printed = g.F.Fingerprint.printed c.args.print in
    let script = g.S.Source.rest c.args.source.now in
    subst (λ (a : Asked). Leaves printed a g.S.Source.tells script old new (g.R.Rig.clock c.args.rig.now) (g.R.Rig.clock c.run_format.new.rig)) (sym c.in-Format.is)
    (c.run_format.ensures.crash t)

pub returns-in-Format-clause-quiet : goal.returns-in-Format-clause-quiet
returns-in-Format-clause-quiet g c = λ t quiet.
    let before = g.R.Rig.counts c.args.rig.now in
    let after = g.R.Rig.counts c.run_format.new.rig in
    let old : World = g.R.Rig.world c.args.rig.now in
    let new : World = g.R.Rig.world c.run_format.new.rig in
    let printed = g.F.Fingerprint.printed c.args.print in
    let script = g.S.Source.rest c.args.source.now in
    let size = g.R.Rig.device_size c.args.rig.now in
    subst (λ (a : Asked). EndsWell printed a c.run_format.result (g.S.Source.tells × IsStill (g.S.Source.failures c.args.source.now) (g.S.Source.failures c.args.source.now)) size script old) (sym c.in-Format.is)
    (format_ends printed c.in-Format.geo c.run_format.result (g.S.Source.tells × IsStill (g.S.Source.failures c.args.source.now) (g.S.Source.failures c.args.source.now)) (λ line. g.R.Rig.tells → SaysAlone line before after old new) (λ ending. g.R.Rig.tells → SaysEnding ending before after old new) size script before after old new
    c.run_format.ensures.status (c.run_format.ensures.refused t) c.run_format.ensures.caused quiet)

pub returns-in-Serve-clause-cause : goal.returns-in-Serve-clause-cause
returns-in-Serve-clause-cause g c =
    let before = g.R.Rig.counts c.args.rig.now in
    let after = g.R.Rig.counts c.serve.new.rig in
    let old : World = g.R.Rig.world c.args.rig.now in
    let new : World = g.R.Rig.world c.serve.new.rig in
    let script = g.S.Source.rest c.args.source.now in
    let h = c.serve.ensures.caused in
    subst (λ (a : Asked). IsCaused a c.serve.result (λ line. g.R.Rig.tells → SaysAlone line before after old new) (λ ending. g.R.Rig.tells → SaysEnding ending before after old new) (c.serve.new.source ≡ c.args.source.now) g.S.Source.tells script before after (g.S.Source.failures c.args.source.now) (g.S.Source.failures c.serve.new.source)) (sym c.in-Serve.is)
    (h.0, h.1, c.serve.ensures.asked, h.2, h.3)

pub returns-in-Serve-clause-shown : goal.returns-in-Serve-clause-shown
returns-in-Serve-clause-shown g c = λ t.
    let before = g.R.Rig.counts c.args.rig.now in
    let after = g.R.Rig.counts c.serve.new.rig in
    let old : World = g.R.Rig.world c.args.rig.now in
    let new : World = g.R.Rig.world c.serve.new.rig in
    let printed = g.F.Fingerprint.printed c.args.print in
    let script = g.S.Source.rest c.args.source.now in
    let size = g.R.Rig.device_size c.args.rig.now in
    subst (λ (a : Asked). Shows printed a c.serve.result g.S.Source.tells size script before after old new) (sym c.in-Serve.is)
    (λ u from. record {
      says = c.serve.ensures.serves t u from;
      together = λ aligned.
          let sizes = sizes_from from in
          let says = c.serve.ensures.serves t u from in
          stats_tell printed sizes from.start (commands_of (dialect_of sizes) script) (lines_of says.output).whole (lines_of says.output).rest (commands_in (dialect_of sizes) script)
          (stands_state from.basis printed _ _ from.start from.stands) aligned says.answers;
    })

pub returns-in-Serve-clause-crash : goal.returns-in-Serve-clause-crash
returns-in-Serve-clause-crash g c = λ t.
    let old : World = g.R.Rig.world c.args.rig.now in
    let new : World = g.R.Rig.world c.serve.new.rig in
    let printed = g.F.Fingerprint.printed c.args.print in
    let script = g.S.Source.rest c.args.source.now in
    subst (λ (a : Asked). Leaves printed a g.S.Source.tells script old new (g.R.Rig.clock c.args.rig.now) (g.R.Rig.clock c.serve.new.rig)) (sym c.in-Serve.is)
    (λ u from. record { within = c.serve.ensures.crash t u from; behind = c.serve.ensures.left t u from })

pub returns-in-Serve-clause-quiet : goal.returns-in-Serve-clause-quiet
returns-in-Serve-clause-quiet g c = λ t quiet.
    let old : World = g.R.Rig.world c.args.rig.now in
    let printed = g.F.Fingerprint.printed c.args.print in
    let script = g.S.Source.rest c.args.source.now in
    let size = g.R.Rig.device_size c.args.rig.now in
    subst (λ (a : Asked). EndsWell printed a c.serve.result (g.S.Source.tells × IsStill (g.S.Source.failures c.args.source.now) (g.S.Source.failures c.serve.new.source)) size script old) (sym c.in-Serve.is)
    (λ calm from bounded. c.serve.ensures.quiet t calm.0 from quiet calm.1 bounded)

pub returns-in-Serve-clause-source : goal.returns-in-Serve-clause-source
returns-in-Serve-clause-source g c =
    let old : World = g.R.Rig.world c.args.rig.now in
    let printed = g.F.Fingerprint.printed c.args.print in
    let script = g.S.Source.rest c.args.source.now in
    subst (λ (a : Asked). Takes printed a c.serve.result (c.serve.new.source ≡ c.args.source.now) g.S.Source.tells (g.R.Rig.tells × g.S.Source.tells) (g.R.Rig.device_size c.args.rig.now Disk) script (g.S.Source.rest c.serve.new.source) old) (sym c.in-Serve.is)
    ((λ none. (c.serve.ensures.untaken none).0, λ both from small. c.serve.ensures.taken both.0 both.1 from small))

pub returns-in-Gen-clause-cause : goal.returns-in-Gen-clause-cause
returns-in-Gen-clause-cause g c =
    let before = g.R.Rig.counts c.args.rig.now in
    let after = g.R.Rig.counts c.generate.new.rig in
    let old : World = g.R.Rig.world c.args.rig.now in
    let new : World = g.R.Rig.world c.generate.new.rig in
    let script = g.S.Source.rest c.args.source.now in
    let h = c.generate.ensures.caused in
    subst (λ (a : Asked). IsCaused a c.generate.result (λ line. g.R.Rig.tells → SaysAlone line before after old new) (λ ending. g.R.Rig.tells → SaysEnding ending before after old new) (c.args.source.now ≡ c.args.source.now) g.S.Source.tells script before after (g.S.Source.failures c.args.source.now) (g.S.Source.failures c.args.source.now)) (sym c.in-Gen.is)
    (h.0, h.1, c.generate.ensures.asked, h.2, h.3)

pub returns-in-Gen-clause-shown : goal.returns-in-Gen-clause-shown
returns-in-Gen-clause-shown g c = λ t.
    let before = g.R.Rig.counts c.args.rig.now in
    let after = g.R.Rig.counts c.generate.new.rig in
    let old : World = g.R.Rig.world c.args.rig.now in
    let new : World = g.R.Rig.world c.generate.new.rig in
    let printed = g.F.Fingerprint.printed c.args.print in
    let script = g.S.Source.rest c.args.source.now in
    let size = g.R.Rig.device_size c.args.rig.now in
    subst (λ (a : Asked). Shows printed a c.generate.result g.S.Source.tells size script before after old new) (sym c.in-Gen.is)
    (λ from. c.generate.ensures.tells t from)

pub returns-in-Gen-clause-crash : goal.returns-in-Gen-clause-crash
returns-in-Gen-clause-crash g c = λ t.
    let old : World = g.R.Rig.world c.args.rig.now in
    let new : World = g.R.Rig.world c.generate.new.rig in
    let printed = g.F.Fingerprint.printed c.args.print in
    let script = g.S.Source.rest c.args.source.now in
    subst (λ (a : Asked). Leaves printed a g.S.Source.tells script old new (g.R.Rig.clock c.args.rig.now) (g.R.Rig.clock c.generate.new.rig)) (sym c.in-Gen.is)
    (λ from. record { within = c.generate.ensures.crash t from; behind = c.generate.ensures.left t from })
