-- A script that is served over a scratch: what `Cache` tells of it, and what a replay says.
use Rattle.std.proofs.Common.{◌≡◌, ℕ, Bool, false, List, [], subst, sym, Ok, Err, IfOk}
use Rattle.std.specs.Prelude.{Result, IfErr, OnOk}
use Rattle.dd_block.specs.declared.print.Fp.{Fp}
use Rattle.dd_rig.specs.declared.tallies.Counts.{Counts}
use Rattle.dd_rig.specs.World.{World}
use Rattle.dd_model.specs.State.{Sizes, State}
use Rattle.dd_script.specs.Command.{Command}
use Rattle.dd_script.specs.Output.{reading_dialect_of}
use Rattle.dd_script.specs.Reading.{Held, left, fuel, IsTakenTo}
use Rattle.dd_script.specs.Script.{commands_of, EndsWithin}
use Rattle.dd_loop.specs.declared.halt.Halt.{Halt}
use Rattle.dd_loop.specs.Answering.{Pays}
use Rattle.dd_loop.specs.Serving.{ServedAll, ServedUpTo}
use Rattle.dd_loop.proofs.Served.{all_by, some_by}
use Rattle.dd_serve.specs.declared.words.Plan.{Plan}
use Rattle.dd_serve.specs.Answering.{StaysBy, CostsLines}
use Rattle.dd_serve.specs.Calls.{AsksForLines}
use Rattle.dd_serve.specs.Replays.{ReplaysAll, ReplaysUpTo, IsBounded, plan_sizes, replay_start, replay_dialect}
use Rattle.dd_serve.specs.Scratch.{ScratchView, scratch_sizes}

-- The sizes of the scratch are those of the plan, and the reader holds nothing yet.
module _ (plan : Plan) (disk : ℕ) (script : List ℕ) (one : ScratchView) (held : Held) (same : scratch_sizes one ≡ plan_sizes plan disk) (none : held ≡ record { bytes = []; taken = 0; ended = false }) where
  module _ (print : List ℕ → Fp) (old new : World) (before end : Counts) (two : ScratchView) where
    costs_asks : (lines : List (List ℕ)) (more : ℕ) → Pays (CostsLines one two) before end lines more → Pays (AsksForLines (scratch_sizes one)) before end lines more
    costs_asks lines more p = (p.0.asks, p.1)

    pub all_for : (Holding : List (List ℕ) → State → Type 0) (served : Result Bool Halt)
        → IfOk served (λ faulted. ServedAll print (scratch_sizes one) (StaysBy old) (replay_start plan disk old) (commands_of (reading_dialect_of (scratch_sizes one)) (left held script)) (Pays (CostsLines one two) before end) Holding faulted old.said new)
        → IfOk served (λ faulted. ReplaysAll print plan disk faulted script old new before end)
    all_for Holding (Ok faulted) h =
        let start : State = replay_start plan disk old in
        let commands : List Command = commands_of (reading_dialect_of (scratch_sizes one)) (left held script) in
        let by : ServedAll print (scratch_sizes one) (StaysBy old) start commands (Pays (AsksForLines (scratch_sizes one)) before end) (λ lines s. Unit {0}) faulted old.said new =
        all_by print (scratch_sizes one) (StaysBy old) start commands (Pays (CostsLines one two) before end) (Pays (AsksForLines (scratch_sizes one)) before end) costs_asks old.said new Holding (λ lines s. Unit {0}) (λ lines s paid h. tt) faulted h in
        subst (λ (k : Held). ServedAll print (plan_sizes plan disk) (StaysBy old) start (commands_of (replay_dialect plan disk) (left k script)) (Pays (AsksForLines (plan_sizes plan disk)) before end) (λ lines s. Unit {0}) faulted old.said new) none
        (subst (λ (z : Sizes). ServedAll print z (StaysBy old) start (commands_of (reading_dialect_of z) (left held script)) (Pays (AsksForLines z) before end) (λ lines s. Unit {0}) faulted old.said new) same by)
    all_for Holding (Err halt) h = tt

    pub some_for : (served : Result Bool Halt)
        → IfErr served (λ halt. ServedUpTo print (scratch_sizes one) (StaysBy old) (replay_start plan disk old) (commands_of (reading_dialect_of (scratch_sizes one)) (left held script)) (Pays (CostsLines one two) before end) halt old.said new)
        → IfErr served (λ halt. ReplaysUpTo print plan disk halt script old new before end)
    some_for (Ok faulted) h = tt
    some_for (Err halt) h =
        let start : State = replay_start plan disk old in
        let commands : List Command = commands_of (reading_dialect_of (scratch_sizes one)) (left held script) in
        let by : ServedUpTo print (scratch_sizes one) (StaysBy old) start commands (Pays (AsksForLines (scratch_sizes one)) before end) halt old.said new =
        some_by print (scratch_sizes one) (StaysBy old) start commands (Pays (CostsLines one two) before end) (Pays (AsksForLines (scratch_sizes one)) before end) costs_asks old.said new halt h in
        subst (λ (k : Held). ServedUpTo print (plan_sizes plan disk) (StaysBy old) start (commands_of (replay_dialect plan disk) (left k script)) (Pays (AsksForLines (plan_sizes plan disk)) before end) halt old.said new) none
        (subst (λ (z : Sizes). ServedUpTo print z (StaysBy old) start (commands_of (reading_dialect_of z) (left held script)) (Pays (AsksForLines z) before end) halt old.said new) same by)

  pub bounded_for : EndsWithin (fuel held) (reading_dialect_of (scratch_sizes one)) (left held script) → IsBounded plan disk script
  bounded_for h =
      subst (λ (k : Held). EndsWithin (fuel k) (replay_dialect plan disk) (left k script)) none
      (subst (λ (z : Sizes). EndsWithin (fuel held) (reading_dialect_of z) (left held script)) same h)

  pub bounded_back : IsBounded plan disk script → EndsWithin (fuel held) (reading_dialect_of (scratch_sizes one)) (left held script)
  bounded_back h =
      subst (λ (z : Sizes). EndsWithin (fuel held) (reading_dialect_of z) (left held script)) (sym same)
      (subst (λ (k : Held). EndsWithin (fuel k) (replay_dialect plan disk) (left k script)) (sym none) h)

  pub all_bounded : (served : Result Bool Halt) → OnOk served (EndsWithin (fuel held) (reading_dialect_of (scratch_sizes one)) (left held script)) → OnOk served (IsBounded plan disk script)
  all_bounded (Ok faulted) h = bounded_for h
  all_bounded (Err halt) h = tt

  pub all_taken : (served : Result Bool Halt) (rest : List ℕ) → OnOk served (IsTakenTo (reading_dialect_of (scratch_sizes one)) (left held script) rest) → OnOk served (IsTakenTo (replay_dialect plan disk) script rest)
  all_taken (Ok faulted) rest h =
      subst (λ (k : Held). IsTakenTo (replay_dialect plan disk) (left k script) rest) none
      (subst (λ (z : Sizes). IsTakenTo (reading_dialect_of z) (left held script) rest) same h)
  all_taken (Err halt) rest h = tt
