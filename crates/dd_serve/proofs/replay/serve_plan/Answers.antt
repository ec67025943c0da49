use Rattle.std.proofs.Common.{◌≡◌, ℕ, List, true, false, Bool, subst, sym, refl, ap, ◌∙◌, arith}
use Rattle.dd_rig.specs.declared.tallies.Counts.{Counts}
use Rattle.dd_rig.specs.Counts.{NeverFalls, Rose}
use Rattle.dd_rig.specs.declared.device.Dev.TheVariants.{Disk}
use Rattle.dd_rig.specs.World.{World}
use Rattle.dd_script.specs.declared.reply.Stop.TheVariants as stop
use Rattle.dd_script.specs.Text.{stop_text}
use Rattle.dd_loop.specs.declared.halt.Halt.TheVariants as halted
use Rattle.dd_loop.specs.declared.ending.Ending.TheVariants.{Served, Stopped, Unheard}
use Rattle.dd_loop.specs.Ending.{status_of}
use Rattle.dd_loop.specs.Halting.{Halts}
use Rattle.dd_serve.specs.Answering.{IsFlash}
use Rattle.dd_loop.specs.Saying.{IsIdle, SaysAlone}
use Rattle.dd_serve.specs.Replays.{Replays, ReplaysAll, ReplaysUpTo, IsBounded, plan_sizes, replay_dialect}
use Rattle.dd_rig.proofs.Falling.{falls_self}
use Rattle.dd_serve.specs.Laws.{asks_early}
use Rattle.dd_serve.proofs.Moments.{end_moment}
use Rattle.dd_loop.proofs.Reading.{commands_some}
use Rattle.dd_loop.proofs.Causes.{halts_by}
use Rattle.dd_loop.proofs.Lastly.{alone_since, ending_since}
use Rattle.dd_serve.proofs.Endings.{halt_caused, not_first, served_two}
use Rattle.dd_serve.proofs.Finishing.{status_for, serves_all, serves_cut, ends_silent, stops_alone, stops_served, stops_early, stop_large}
use Rattle.dd_serve.proofs.Written.{only_idle}
use Rattle.dd_serve.proofs.replay.serve_plan.Goals as goal

status_is : (b : Bool) → status_for b ≡ status_of (Served b)
status_is true = refl
status_is false = refl

pub returns-in_default-clause-caused : goal.returns-in_default-clause-caused
returns-in_default-clause-caused g c =
    let is = c.finish.ensures.status in
    let says : g.R.Rig.tells → SaysAlone (stop_text stop.Memory) (g.R.Rig.counts c.args.rig.now) (g.R.Rig.counts c.finish.new.rig) (g.R.Rig.world c.args.rig.now) (g.R.Rig.world c.finish.new.rig) = λ t.
    alone_since (stop_text stop.Memory) (g.R.Rig.counts c.args.rig.now) (g.R.Rig.counts c.serve_script.new.rig) (g.R.Rig.counts c.finish.new.rig) (g.R.Rig.world c.args.rig.now) (g.R.Rig.world c.serve_script.new.rig)
    (g.R.Rig.world c.finish.new.rig) c.serve_script.ensures.later (ap (λ (w : World). w.said) (c.in_default.ensures.early t)) (c.finish.ensures.said t) in (
      Stopped stop.Memory,
      is,
      (λ two. omega (arith, is, two)),
      says,
      says,
    )

pub returns-in-Ok-served-clause-caused : goal.returns-in-Ok-served-clause-caused
returns-in-Ok-served-clause-caused g c =
    let is = c.finish-in-Ok-served.ensures.status in (Served c.in-Ok-served.faulted, is, served_two c.in-Ok-served.faulted c.finish-in-Ok-served.result is, tt, λ t. tt)

pub returns-in-Output-clause-caused : goal.returns-in-Output-clause-caused
returns-in-Output-clause-caused g c =
    let is = c.finish-in-Output.ensures.status in
    let rose : Rose (g.R.Rig.counts c.args.rig.now).failed_emits (g.R.Rig.counts c.serve_script.new.rig).failed_emits = rw c.in-Output.is at (rw c.in-Err.is at c.in-Ok.ensures.halt) in (
      Unheard,
      is,
      (λ two. omega (arith, is, two)),
      omega (arith, rose, c.finish-in-Output.ensures.frame.0.emits),
      λ t. tt,
    )

pub returns-in-Stopped-clause-caused : goal.returns-in-Stopped-clause-caused
returns-in-Stopped-clause-caused g c =
    let before : Counts = g.R.Rig.counts c.args.rig.now in
    let between : Counts = g.R.Rig.counts c.serve_script.new.rig in
    let end : Counts = g.R.Rig.counts c.finish-in-Stopped.new.rig in
    let m = g.S.Source.failures c.args.source.now in
    let n = g.S.Source.failures c.serve_script.new.source in
    let F : Type 0 = Rose m n in
    let why = c.in-Stopped.why in
    let P : Type 0 = g.S.Source.tells → IsBounded c.args.plan (g.R.Rig.device_size c.args.rig.now Disk) (g.S.Source.rest c.args.source.now) → ⊥ in
    let halts : Halts IsFlash F P (halted.Stopped why) before between = rw c.in-Stopped.is at (rw c.in-Err.is at c.in-Ok.ensures.halt) in
    let is = c.finish-in-Stopped.ensures.status in (
      Stopped why,
      is,
      (λ two. omega (arith, is, two, stop_large why)),
      halt_caused why P (λ line. g.R.Rig.tells → SaysAlone line before end (g.R.Rig.world c.args.rig.now) (g.R.Rig.world c.finish-in-Stopped.new.rig)) before between end m n c.finish-in-Stopped.ensures.frame.0 halts,
      λ t.
          ending_since (Stopped why) before between end (g.R.Rig.world c.args.rig.now) (g.R.Rig.world c.serve_script.new.rig) (g.R.Rig.world c.finish-in-Stopped.new.rig) c.serve_script.ensures.later (c.serve_script.ensures.more t)
          (λ first. absurd (not_first why F P before between halts first)) (c.finish-in-Stopped.ensures.said t),
    )

pub returns-in_default-clause-served : goal.returns-in_default-clause-served
returns-in_default-clause-served g c = λ t u.
    let print = g.F.Fingerprint.printed c.args.print in
    let old : World = g.R.Rig.world c.args.rig.now in
    let new : World = g.R.Rig.world c.finish.new.rig in
    let before : Counts = g.R.Rig.counts c.args.rig.now in
    let end : Counts = g.R.Rig.counts c.finish.new.rig in
    let script : List ℕ = g.S.Source.rest c.args.source.now in
    let counts = c.in_default.ensures.early_counts in
    let world = c.in_default.ensures.early t in
    let said : SaysAlone (stop_text stop.Memory) before end old new = subst (λ (w : World). SaysAlone (stop_text stop.Memory) before end w new) world
    (subst (λ (k : Counts). SaysAlone (stop_text stop.Memory) k end (g.R.Rig.world c.serve_script.new.rig) new) counts (c.finish.ensures.said t)) in
    let later = subst (λ (k : Counts). NeverFalls k end) counts c.finish.ensures.frame.0 in
    let idle = subst (λ (k : Counts). IsIdle k end) counts c.finish.ensures.idle in
    subst (λ (n : ℕ). Replays print c.args.plan (g.R.Rig.device_size c.args.rig.now Disk) n script old new before end) (sym c.finish.ensures.status)
    (stops_alone print c.args.plan (g.R.Rig.device_size c.args.rig.now Disk) script old before stop.Memory old new before end (falls_self before) later idle (stops_early print c.args.plan (g.R.Rig.device_size c.args.rig.now Disk) script old before stop.Memory before (falls_self before) (asks_early (plan_sizes c.args.plan (g.R.Rig.device_size c.args.rig.now Disk)) before before (omega arith) (omega arith) (omega arith) (omega arith) (omega arith) (omega arith) (omega arith)) (λ e. absurd (cc)) (λ e. omega arith) (commands_some (replay_dialect c.args.plan (g.R.Rig.device_size c.args.rig.now Disk)) script)) said)

pub returns-in-Ok-served-clause-served : goal.returns-in-Ok-served-clause-served
returns-in-Ok-served-clause-served g c = λ t u.
    let print = g.F.Fingerprint.printed c.args.print in
    let old : World = g.R.Rig.world c.args.rig.now in
    let new : World = g.R.Rig.world c.serve_script.new.rig in
    let before : Counts = g.R.Rig.counts c.args.rig.now in
    let end : Counts = g.R.Rig.counts c.serve_script.new.rig in
    let script : List ℕ = g.S.Source.rest c.args.source.now in
    let faulted : Bool = c.in-Ok-served.faulted in
    let served : ReplaysAll print c.args.plan (g.R.Rig.device_size c.args.rig.now Disk) faulted script old new before end = rw c.in-Ok-served.is at (c.in-Ok.ensures.all t u) in
    let bounded : IsBounded c.args.plan (g.R.Rig.device_size c.args.rig.now Disk) script = rw c.in-Ok-served.is at (c.in-Ok.ensures.bounded u) in
    let all = serves_all print c.args.plan (g.R.Rig.device_size c.args.rig.now Disk) script old before faulted new end served bounded in
    let same = c.finish-in-Ok-served.ensures.silent refl in
    ends_silent print c.args.plan (g.R.Rig.device_size c.args.rig.now Disk) script old before (status_for faulted) c.finish-in-Ok-served.result new (g.R.Rig.world c.finish-in-Ok-served.new.rig) end (g.R.Rig.counts c.finish-in-Ok-served.new.rig)
    (ap g.R.Rig.world same) (ap g.R.Rig.counts same) (status_is faulted ∙ sym c.finish-in-Ok-served.ensures.status) all

pub returns-in-Output-clause-served : goal.returns-in-Output-clause-served
returns-in-Output-clause-served g c = λ t u.
    let print = g.F.Fingerprint.printed c.args.print in
    let old : World = g.R.Rig.world c.args.rig.now in
    let new : World = g.R.Rig.world c.serve_script.new.rig in
    let before : Counts = g.R.Rig.counts c.args.rig.now in
    let end : Counts = g.R.Rig.counts c.serve_script.new.rig in
    let script : List ℕ = g.S.Source.rest c.args.source.now in
    let same = c.finish-in-Output.ensures.silent refl in
    ends_silent print c.args.plan (g.R.Rig.device_size c.args.rig.now Disk) script old before 6 c.finish-in-Output.result new (g.R.Rig.world c.finish-in-Output.new.rig) end (g.R.Rig.counts c.finish-in-Output.new.rig)
    (ap g.R.Rig.world same) (ap g.R.Rig.counts same) (sym c.finish-in-Output.ensures.status)
    (serves_cut print c.args.plan (g.R.Rig.device_size c.args.rig.now Disk) script old before new end (rw c.in-Output.is at (rw c.in-Err.is at (c.in-Ok.ensures.some t u))) (rw c.in-Output.is at (rw c.in-Err.is at c.in-Ok.ensures.halt)))

pub returns-in-Stopped-clause-served : goal.returns-in-Stopped-clause-served
returns-in-Stopped-clause-served g c = λ t u.
    let print = g.F.Fingerprint.printed c.args.print in
    let old : World = g.R.Rig.world c.args.rig.now in
    let middle : World = g.R.Rig.world c.serve_script.new.rig in
    let new : World = g.R.Rig.world c.finish-in-Stopped.new.rig in
    let before : Counts = g.R.Rig.counts c.args.rig.now in
    let between : Counts = g.R.Rig.counts c.serve_script.new.rig in
    let end : Counts = g.R.Rig.counts c.finish-in-Stopped.new.rig in
    let script : List ℕ = g.S.Source.rest c.args.source.now in
    let F : Type 0 = Rose (g.S.Source.failures c.args.source.now) (g.S.Source.failures c.serve_script.new.source) in
    let why = c.in-Stopped.why in
    let P : Type 0 = g.S.Source.tells → IsBounded c.args.plan (g.R.Rig.device_size c.args.rig.now Disk) script → ⊥ in
    let Q : Type 0 = IsBounded c.args.plan (g.R.Rig.device_size c.args.rig.now Disk) script → ⊥ in
    let halts : Halts IsFlash F P (halted.Stopped why) before between = rw c.in-Stopped.is at (rw c.in-Err.is at c.in-Ok.ensures.halt) in
    let halted_so : Halts IsFlash F Q (halted.Stopped why) before between = halts_by IsFlash F P F Q (λ f. f) (λ long. long u) (halted.Stopped why) before between halts in
    let served : ReplaysUpTo print c.args.plan (g.R.Rig.device_size c.args.rig.now Disk) (halted.Stopped why) script old middle before between = rw c.in-Stopped.is at (rw c.in-Err.is at (c.in-Ok.ensures.some t u)) in
    subst (λ (n : ℕ). Replays print c.args.plan (g.R.Rig.device_size c.args.rig.now Disk) n script old new before end) (sym c.finish-in-Stopped.ensures.status)
    (stops_alone print c.args.plan (g.R.Rig.device_size c.args.rig.now Disk) script old before why middle new between end c.serve_script.ensures.later c.finish-in-Stopped.ensures.frame.0 c.finish-in-Stopped.ensures.idle
    (stops_served print c.args.plan (g.R.Rig.device_size c.args.rig.now Disk) script old before why F middle between served halted_so) (c.finish-in-Stopped.ensures.said t))

pub returns-in-Stopped-clause-time : goal.returns-in-Stopped-clause-time
returns-in-Stopped-clause-time g c = λ t. end_moment _ _ _ _ (g.R.Rig.world c.serve_script.new.rig) (c.serve_script.ensures.time t) (c.serve_script.ensures.others t) (c.finish-in-Stopped.ensures.time t)

pub returns-in-Stopped-clause-taken : goal.returns-in-Stopped-clause-taken
returns-in-Stopped-clause-taken g c = λ u small. absurd (omega (arith, small, stop_large c.in-Stopped.why, c.finish-in-Stopped.ensures.status))

pub returns-in_default-clause-blocks : goal.returns-in_default-clause-blocks
returns-in_default-clause-blocks g c = only_idle c.args.plan.block (g.R.Rig.counts c.args.rig.now) (g.R.Rig.counts c.serve_script.new.rig) (g.R.Rig.counts c.finish.new.rig) c.serve_script.ensures.blocks c.finish.ensures.idle

pub returns-in-Ok-served-clause-blocks : goal.returns-in-Ok-served-clause-blocks
returns-in-Ok-served-clause-blocks g c = only_idle c.args.plan.block (g.R.Rig.counts c.args.rig.now) (g.R.Rig.counts c.serve_script.new.rig) (g.R.Rig.counts c.finish-in-Ok-served.new.rig) c.serve_script.ensures.blocks c.finish-in-Ok-served.ensures.idle

pub returns-in-Output-clause-blocks : goal.returns-in-Output-clause-blocks
returns-in-Output-clause-blocks g c = only_idle c.args.plan.block (g.R.Rig.counts c.args.rig.now) (g.R.Rig.counts c.serve_script.new.rig) (g.R.Rig.counts c.finish-in-Output.new.rig) c.serve_script.ensures.blocks c.finish-in-Output.ensures.idle

pub returns-in-Stopped-clause-blocks : goal.returns-in-Stopped-clause-blocks
returns-in-Stopped-clause-blocks g c = only_idle c.args.plan.block (g.R.Rig.counts c.args.rig.now) (g.R.Rig.counts c.serve_script.new.rig) (g.R.Rig.counts c.finish-in-Stopped.new.rig) c.serve_script.ensures.blocks c.finish-in-Stopped.ensures.idle
