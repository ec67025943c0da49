use Rattle.std.proofs.Common.{ap, ℕ, List, subst, ◌∙◌, arith}
use Rattle.std.proofs.lemmas.Result.{IfErr-weaker}
use Rattle.dd_block.specs.declared.print.Fp.{Fp}
use Rattle.dd_rig.specs.declared.device.Dev.TheVariants.{Disk}
use Rattle.dd_rig.specs.Counts.{Rose}
use Rattle.dd_rig.specs.World.{World}
use Rattle.dd_script.specs.Output.{reading_dialect_of}
use Rattle.dd_script.specs.Reading.{Held, left, fuel}
use Rattle.dd_script.specs.Script.{EndsWithin}
use Rattle.dd_loop.specs.declared.halt.Halt.{Halt}
use Rattle.dd_loop.specs.Halting.{Halts}
use Rattle.dd_loop.proofs.Causes.{halts_by}
use Rattle.dd_serve.specs.Answering.{HoldsState, IsFlash}
use Rattle.dd_serve.specs.Replays.{IsFirst, IsBounded, replay_start}
use Rattle.dd_serve.specs.Scratch.{ScratchView, scratch_sizes}
use Rattle.dd_serve.proofs.Moments.{script_moment}
use Rattle.dd_serve.proofs.Scripts.{all_for, some_for, all_bounded, all_taken, bounded_back}
use Rattle.dd_serve.proofs.Starts.{first_fits, first_holds, first_sizes}
use Rattle.dd_serve.specs.Calls.{OnlyBlocks}
use Rattle.dd_serve.proofs.replay.serve_script.Goals as goal

pub serve_lines-requires-clause-ready : goal.serve_lines-requires-clause-ready
serve_lines-requires-clause-ready g c =
    let size = g.R.Rig.device_size c.args.rig.now in
    let one : ScratchView = c.in_ok-scratch.scratch in
    let first : IsFirst c.args.plan (size Disk) one = c.in_ok-scratch.ensures in
    record {
      fits = first_fits c.args.plan size one c.requires.plan c.requires.large first;
      count = omega (arith, first.count, ap fuel c.in_ok-reader.ensures);
      room = omega (arith, c.in_ok-other.ensures.len, first.slots.same_block);
    }

pub returns-clause-all : goal.returns-clause-all
returns-clause-all g c = λ t u.
    let print : List ℕ → Fp = g.F.Fingerprint.printed c.args.print in
    let old : World = g.R.Rig.world c.args.rig.now in
    let new : World = g.R.Rig.world c.serve_lines.new.rig in
    let size = g.R.Rig.device_size c.args.rig.now in
    let one : ScratchView = c.in_ok-scratch.scratch in
    let kept : HoldsState print one old old (replay_start c.args.plan (size Disk) old) = first_holds print c.args.plan size one old c.requires.plan c.in_ok-scratch.ensures
    ((g.met.R.Rig.shows_image c.args.rig.now Disk t).same_length ∙ g.met.R.Rig.has_size c.args.rig.now Disk t) in
    all_for c.args.plan (size Disk) (g.S.Source.rest c.args.source.now) one c.in_ok-reader.reader (first_sizes c.args.plan (size Disk) one c.in_ok-scratch.ensures) c.in_ok-reader.ensures
    print old new (g.R.Rig.counts c.args.rig.now) (g.R.Rig.counts c.serve_lines.new.rig) c.serve_lines.new.cache.scratch _ c.serve_lines.result (c.serve_lines.ensures.all t u old (replay_start c.args.plan (size Disk) old) kept)

pub returns-clause-some : goal.returns-clause-some
returns-clause-some g c = λ t u.
    let print : List ℕ → Fp = g.F.Fingerprint.printed c.args.print in
    let old : World = g.R.Rig.world c.args.rig.now in
    let new : World = g.R.Rig.world c.serve_lines.new.rig in
    let size = g.R.Rig.device_size c.args.rig.now in
    let one : ScratchView = c.in_ok-scratch.scratch in
    let kept : HoldsState print one old old (replay_start c.args.plan (size Disk) old) = first_holds print c.args.plan size one old c.requires.plan c.in_ok-scratch.ensures
    ((g.met.R.Rig.shows_image c.args.rig.now Disk t).same_length ∙ g.met.R.Rig.has_size c.args.rig.now Disk t) in
    some_for c.args.plan (size Disk) (g.S.Source.rest c.args.source.now) one c.in_ok-reader.reader (first_sizes c.args.plan (size Disk) one c.in_ok-scratch.ensures) c.in_ok-reader.ensures
    print old new (g.R.Rig.counts c.args.rig.now) (g.R.Rig.counts c.serve_lines.new.rig) c.serve_lines.new.cache.scratch c.serve_lines.result (c.serve_lines.ensures.some t u old (replay_start c.args.plan (size Disk) old) kept)

pub returns-clause-time : goal.returns-clause-time
returns-clause-time g c = λ t.
    let print : List ℕ → Fp = g.F.Fingerprint.printed c.args.print in
    let old : World = g.R.Rig.world c.args.rig.now in
    let size = g.R.Rig.device_size c.args.rig.now in
    let one : ScratchView = c.in_ok-scratch.scratch in
    let kept : HoldsState print one old old (replay_start c.args.plan (size Disk) old) = first_holds print c.args.plan size one old c.requires.plan c.in_ok-scratch.ensures
    ((g.met.R.Rig.shows_image c.args.rig.now Disk t).same_length ∙ g.met.R.Rig.has_size c.args.rig.now Disk t) in
    script_moment _ _ old (c.serve_lines.ensures.moments t old (replay_start c.args.plan (size Disk) old) (replay_start c.args.plan (size Disk) old) kept)

pub returns-clause-bounded : goal.returns-clause-bounded
returns-clause-bounded g c = λ u.
    let size : ℕ = g.R.Rig.device_size c.args.rig.now Disk in
    all_bounded c.args.plan size (g.S.Source.rest c.args.source.now) c.in_ok-scratch.scratch c.in_ok-reader.reader (first_sizes c.args.plan size c.in_ok-scratch.scratch c.in_ok-scratch.ensures) c.in_ok-reader.ensures c.serve_lines.result (c.serve_lines.ensures.bounded u)

pub returns-clause-taken : goal.returns-clause-taken
returns-clause-taken g c = λ u.
    let size : ℕ = g.R.Rig.device_size c.args.rig.now Disk in
    all_taken c.args.plan size (g.S.Source.rest c.args.source.now) c.in_ok-scratch.scratch c.in_ok-reader.reader (first_sizes c.args.plan size c.in_ok-scratch.scratch c.in_ok-scratch.ensures) c.in_ok-reader.ensures c.serve_lines.result
    (g.S.Source.rest c.serve_lines.new.source) (c.serve_lines.ensures.taken u)

pub returns-clause-halt : goal.returns-clause-halt
returns-clause-halt g c =
    let rest : List ℕ = g.S.Source.rest c.args.source.now in
    let counts = g.R.Rig.counts in
    let size : ℕ = g.R.Rig.device_size c.args.rig.now Disk in
    let one : ScratchView = c.in_ok-scratch.scratch in
    let held : Held = c.in_ok-reader.reader in
    let F : Type 0 = Rose (g.S.Source.failures c.args.source.now) (g.S.Source.failures c.serve_lines.new.source) in
    let P : Type 0 = g.S.Source.tells → EndsWithin (fuel held) (reading_dialect_of (scratch_sizes one)) (left held rest) → ⊥ in
    let Q : Type 0 = g.S.Source.tells → IsBounded c.args.plan size rest → ⊥ in
    let w : P → Q = λ long u within. long u (bounded_back c.args.plan size rest one held (first_sizes c.args.plan size one c.in_ok-scratch.ensures) c.in_ok-reader.ensures within) in
    IfErr-weaker c.serve_lines.result
    (λ (halt : Halt). Halts IsFlash F P halt (counts c.args.rig.now) (counts c.serve_lines.new.rig))
    (λ (halt : Halt). Halts IsFlash F Q halt (counts c.args.rig.now) (counts c.serve_lines.new.rig))
    (λ halt s. halts_by IsFlash F P F Q (λ f. f) w halt _ _ s) c.serve_lines.ensures.halt

pub returns-clause-blocks : goal.returns-clause-blocks
returns-clause-blocks g c = subst (λ (n : ℕ). OnlyBlocks n (g.R.Rig.counts c.args.rig.now) (g.R.Rig.counts c.serve_lines.new.rig)) c.in_ok-scratch.ensures.slots.same_block c.serve_lines.ensures.does
