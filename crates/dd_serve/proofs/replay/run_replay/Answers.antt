use Rattle.std.proofs.Common.{◌≡◌, ℕ, List, Bool, true, inl, inr, ap, sym, ◌∙◌, subst, refl, None, Some, arith, ◌==◌, slice_index}
use Rattle.std.specs.Option.{option_or}
use Rattle.dd_rig.specs.declared.device.Dev.{Dev}
use Rattle.dd_rig.specs.declared.device.Dev.TheVariants.{Flash, Disk}
use Rattle.dd_rig.specs.declared.tallies.Calls.{Calls}
use Rattle.dd_rig.specs.declared.tallies.Counts.{Counts}
use Rattle.dd_rig.specs.Counts.{Rose}
use Rattle.dd_rig.specs.World.{World, shown}
use Rattle.dd_recover.specs.declared.fault.FormatFault.TheVariants as fault
use Rattle.dd_script.specs.declared.reply.Stop.TheVariants as stop
use Rattle.dd_script.specs.declared.reply.Refusal.TheVariants as refusal
use Rattle.std.specs.Prelude.{if◌then◌else◌}
use Rattle.dd_script.specs.Text.{stop_text, refusal_text}
use Rattle.dd_serve.specs.declared.words.Asked.TheVariants.{Replay}
use Rattle.dd_serve.specs.Refusing.{Refuses, small_for, in_use}
use Rattle.dd_serve.specs.Replays.{LooksInVain, Replays, replay_dialect, plan_sizes}
use Rattle.dd_loop.specs.declared.ending.Ending.TheVariants.{Refused, Stopped}
use Rattle.dd_loop.specs.Saying.{SaysAlone}
use Rattle.dd_loop.proofs.Lastly.{alone_since, behind_since, ending_later}
use Rattle.dd_loop.proofs.More.{more_same}
use Rattle.dd_loop.proofs.Reading.{commands_some}
use Rattle.dd_serve.proofs.Endings.{replay_behind}
use Rattle.dd_serve.proofs.Finishing.{stops_alone, stops_early}
use Rattle.dd_serve.specs.Calls.{looked}
use Rattle.dd_serve.proofs.Looking.{one_look, looked_falls, asks_looked}
use Rattle.dd_serve.proofs.Refused.{refuses_fault, refuses_large}
use Rattle.dd_serve.specs.Laws.{only_both}
use Rattle.dd_serve.proofs.Written.{only_idle, only_read}
use Rattle.dd_serve.proofs.replay.run_replay.Goals as goal

pub returns-in-Err-clause-refused : goal.returns-in-Err-clause-refused
returns-in-Err-clause-refused g c = λ t.
    let size = g.R.Rig.device_size c.args.rig.now in
    let old : World = g.R.Rig.world c.args.rig.now in
    let middle : World = g.R.Rig.world c.is_in_use.new.rig in
    let new : World = g.R.Rig.world c.finish.new.rig in
    let before = g.R.Rig.counts c.args.rig.now in
    let between = g.R.Rig.counts c.is_in_use.new.rig in
    let after = g.R.Rig.counts c.finish.new.rig in
    let says : SaysAlone (stop_text stop.Flash) before after old new = alone_since (stop_text stop.Flash) before between after old middle new c.in-Err.ensures.frame.0 (ap (λ (w : World). w.said) (c.in-Err.ensures.world t)) (c.finish.ensures.said t) in
    let rose : Rose before.flash.failed_reads after.flash.failed_reads = omega (arith, c.in-Err.ensures.cause, ap (λ (d : Calls). d.failed_reads) c.finish.ensures.idle.0) in
    let refuses : Refuses (in_use (shown Flash old)) 7 before after old new = refuses_fault fault.FlashRead (slice_index (shown Flash old) 0 == 1) before after old new refl tt (λ e. rose) says in
    subst (λ (n : ℕ). Refuses (option_or (small_for (Replay c.args.plan) size) (in_use (shown Flash old))) n before after old new) (sym c.finish.ensures.status) (refuses_large (small_for (Replay c.args.plan) size) (in_use (shown Flash old)) 7 before after old new c.requires.large refuses)

pub returns-in-Err-clause-caused : goal.returns-in-Err-clause-caused
returns-in-Err-clause-caused g c =
    let old : World = g.R.Rig.world c.args.rig.now in
    let middle : World = g.R.Rig.world c.is_in_use.new.rig in
    let new : World = g.R.Rig.world c.finish.new.rig in
    let before = g.R.Rig.counts c.args.rig.now in
    let between = g.R.Rig.counts c.is_in_use.new.rig in
    let after = g.R.Rig.counts c.finish.new.rig in
    let rose : Rose before.flash.failed_reads after.flash.failed_reads = omega (arith, c.in-Err.ensures.cause, ap (λ (d : Calls). d.failed_reads) c.finish.ensures.idle.0) in
    let is = c.finish.ensures.status in
    let falls = c.in-Err.ensures.frame.0 in (
      Stopped stop.Flash,
      is,
      (λ two. omega (arith, is, two)),
      inr (
        rose,
        (λ t. alone_since (stop_text stop.Flash) before between after old middle new falls (ap (λ (w : World). w.said) (c.in-Err.ensures.world t)) (c.finish.ensures.said t)),
        one_look c.is_in_use.result before between after c.is_in_use.ensures.counts c.finish.ensures.idle,
      ),
      λ t. behind_since (stop_text stop.Flash) before between after old middle new falls (more_same old middle (ap (λ (w : World). w.said) (c.in-Err.ensures.world t))) (c.finish.ensures.said t),
    )

pub returns-in-Ok-true-clause-caused : goal.returns-in-Ok-true-clause-caused
returns-in-Ok-true-clause-caused g c =
    let is = c.finish-in-Ok-true.ensures.status in (
      Refused refusal.InUse,
      is,
      (λ two. omega (arith, is, two)),
      tt,
      λ t.
          alone_since (refusal_text refusal.InUse) (g.R.Rig.counts c.args.rig.now) (g.R.Rig.counts c.is_in_use.new.rig) (g.R.Rig.counts c.finish-in-Ok-true.new.rig) (g.R.Rig.world c.args.rig.now) (g.R.Rig.world c.is_in_use.new.rig)
          (g.R.Rig.world c.finish-in-Ok-true.new.rig) c.is_in_use.ensures.frame.0 (ap (λ (w : World). w.said) (c.is_in_use.ensures.world t)) (c.finish-in-Ok-true.ensures.said t),
    )

pub returns-in-Ok-false-clause-caused : goal.returns-in-Ok-false-clause-caused
returns-in-Ok-false-clause-caused g c =
    let old : World = g.R.Rig.world c.args.rig.now in
    let middle : World = g.R.Rig.world c.is_in_use.new.rig in
    let new : World = g.R.Rig.world c.serve_plan.new.rig in
    let before = g.R.Rig.counts c.args.rig.now in
    let between = g.R.Rig.counts c.is_in_use.new.rig in
    let after = g.R.Rig.counts c.serve_plan.new.rig in
    let falls = c.is_in_use.ensures.frame.0 in
    let Both : List ℕ → Type 0 = λ line. g.R.Rig.tells → SaysAlone line before after old new in
    let h = c.serve_plan.ensures.caused in (
      h.0,
      h.1,
      h.2,
      replay_behind (LooksInVain Both before after) h.0 (λ line. g.R.Rig.tells → SaysAlone line between after middle new) Both before between after (g.S.Source.failures c.args.source.now) (g.S.Source.failures c.serve_plan.new.source) falls
          (λ line one t. alone_since line before between after old middle new falls (ap (λ (w : World). w.said) (c.is_in_use.ensures.world t)) (one t)) h.3,
      λ t. ending_later h.0 before between after old middle new falls (ap (λ (w : World). w.said) (c.is_in_use.ensures.world t)) (h.4 t),
    )

pub returns-in-Err-clause-served : goal.returns-in-Err-clause-served
returns-in-Err-clause-served g c = λ t u first.
    let print = g.F.Fingerprint.printed c.args.print in
    let old : World = g.R.Rig.world c.args.rig.now in
    let new : World = g.R.Rig.world c.finish.new.rig in
    let before : Counts = looked (g.R.Rig.counts c.args.rig.now) in
    let between : Counts = g.R.Rig.counts c.is_in_use.new.rig in
    let after : Counts = g.R.Rig.counts c.finish.new.rig in
    let script : List ℕ = g.S.Source.rest c.args.source.now in
    let one = c.is_in_use.ensures.counts in
    let later = looked_falls c.is_in_use.result (g.R.Rig.counts c.args.rig.now) between one c.in-Err.ensures.frame.0 in
    let asks = asks_looked (plan_sizes c.args.plan (g.R.Rig.device_size c.args.rig.now Disk)) c.is_in_use.result (g.R.Rig.counts c.args.rig.now) between one in
    let said : SaysAlone (stop_text stop.Flash) between after old new = subst (λ (w : World). SaysAlone (stop_text stop.Flash) between after w new) (c.in-Err.ensures.world t) (c.finish.ensures.said t) in
    subst (λ (n : ℕ). Replays print c.args.plan (g.R.Rig.device_size c.args.rig.now Disk) n script old new before after) (sym c.finish.ensures.status)
    (stops_alone print c.args.plan (g.R.Rig.device_size c.args.rig.now Disk) script old before stop.Flash old new between after later c.finish.ensures.frame.0 c.finish.ensures.idle
    (stops_early print c.args.plan (g.R.Rig.device_size c.args.rig.now Disk) script old before stop.Flash between later asks (λ e. absurd (cc)) (λ e. omega (arith, e)) (commands_some (replay_dialect c.args.plan (g.R.Rig.device_size c.args.rig.now Disk)) script)) said)

pub returns-in-Ok-true-clause-refused : goal.returns-in-Ok-true-clause-refused
returns-in-Ok-true-clause-refused g c = λ t.
    let size = g.R.Rig.device_size c.args.rig.now in
    let old : World = g.R.Rig.world c.args.rig.now in
    let new : World = g.R.Rig.world c.finish-in-Ok-true.new.rig in
    let before = g.R.Rig.counts c.args.rig.now in
    let between = g.R.Rig.counts c.is_in_use.new.rig in
    let after = g.R.Rig.counts c.finish-in-Ok-true.new.rig in
    let is : (slice_index (shown Flash old) 0 == 1) ≡ true = sym (c.in-Ok-true.ensures.used t) ∙ c.in-Ok-true.field-0-test in
    let says : SaysAlone (refusal_text refusal.InUse) before after old new = alone_since (refusal_text refusal.InUse) before between after old (g.R.Rig.world c.is_in_use.new.rig) new c.is_in_use.ensures.frame.0 (ap (λ (w : World). w.said) (c.is_in_use.ensures.world t)) (c.finish-in-Ok-true.ensures.said t) in
    let refuses : Refuses (in_use (shown Flash old)) 3 before after old new = subst (λ (b : Bool). Refuses (if b then Some refusal.InUse else None) 3 before after old new) (sym is) (inl (refl, says)) in
    subst (λ (n : ℕ). Refuses (option_or (small_for (Replay c.args.plan) size) (in_use (shown Flash old))) n before after old new) (sym c.finish-in-Ok-true.ensures.status)
    (refuses_large (small_for (Replay c.args.plan) size) (in_use (shown Flash old)) 3 before after old new c.requires.large refuses)

pub returns-in-Ok-false-clause-served : goal.returns-in-Ok-false-clause-served
returns-in-Ok-false-clause-served g c = λ t u first.
    let print = g.F.Fingerprint.printed c.args.print in
    let old : World = g.R.Rig.world c.args.rig.now in
    let new : World = g.R.Rig.world c.serve_plan.new.rig in
    let after : Counts = g.R.Rig.counts c.serve_plan.new.rig in
    let script : List ℕ = g.S.Source.rest c.args.source.now in
    let one = subst (λ (w : World). Replays print c.args.plan (g.R.Rig.device_size c.args.rig.now Disk) c.serve_plan.result script w new (g.R.Rig.counts c.is_in_use.new.rig) after) (c.is_in_use.ensures.world t)
    (subst (λ (size : Dev → ℕ). Replays print c.args.plan (size Disk) c.serve_plan.result script (g.R.Rig.world c.is_in_use.new.rig) new (g.R.Rig.counts c.is_in_use.new.rig) after) c.is_in_use.ensures.frame.1 (c.serve_plan.ensures.served t u)) in
    subst (λ (k : Counts). Replays print c.args.plan (g.R.Rig.device_size c.args.rig.now Disk) c.serve_plan.result script old new k after) c.in-Ok-false.ensures.counts one

pub returns-in-Err-clause-blocks : goal.returns-in-Err-clause-blocks
returns-in-Err-clause-blocks g c =
    only_idle c.args.plan.block (g.R.Rig.counts c.args.rig.now) (g.R.Rig.counts c.is_in_use.new.rig) (g.R.Rig.counts c.finish.new.rig)
    (only_read c.args.plan.block Flash c.is_in_use.result (g.R.Rig.counts c.args.rig.now) (g.R.Rig.counts c.is_in_use.new.rig) c.is_in_use.ensures.counts) c.finish.ensures.idle

pub returns-in-Ok-true-clause-blocks : goal.returns-in-Ok-true-clause-blocks
returns-in-Ok-true-clause-blocks g c =
    only_idle c.args.plan.block (g.R.Rig.counts c.args.rig.now) (g.R.Rig.counts c.is_in_use.new.rig) (g.R.Rig.counts c.finish-in-Ok-true.new.rig)
    (only_read c.args.plan.block Flash c.is_in_use.result (g.R.Rig.counts c.args.rig.now) (g.R.Rig.counts c.is_in_use.new.rig) c.is_in_use.ensures.counts) c.finish-in-Ok-true.ensures.idle

pub returns-in-Ok-false-clause-blocks : goal.returns-in-Ok-false-clause-blocks
returns-in-Ok-false-clause-blocks g c =
    only_both c.args.plan.block (g.R.Rig.counts c.args.rig.now) (g.R.Rig.counts c.is_in_use.new.rig) (g.R.Rig.counts c.serve_plan.new.rig)
    (only_read c.args.plan.block Flash c.is_in_use.result (g.R.Rig.counts c.args.rig.now) (g.R.Rig.counts c.is_in_use.new.rig) c.is_in_use.ensures.counts) c.serve_plan.ensures.blocks
