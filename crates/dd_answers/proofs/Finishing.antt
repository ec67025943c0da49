-- How serving ends.
use Rattle.std.proofs.Common.{◌≢◌, inl, ℕ, Bool, List, [], length, refl, sym, arith, append-nil, Ok, Err}
use Rattle.std.specs.Prelude.{Result, IfOk, IfErr, OnOk}
use Rattle.dd_rig.specs.declared.tallies.Counts.{Counts}
use Rattle.dd_rig.specs.Counts.{NeverFalls}
use Rattle.dd_rig.specs.Device.{IsImage}
use Rattle.dd_rig.specs.World.{World}
use Rattle.dd_block.specs.declared.print.Fp.{Fp}
use Rattle.dd_model.specs.State.{Sizes, State}
use Rattle.dd_script.specs.Command.{Command}
use Rattle.dd_loop.specs.Serving.{ServedAll, ServedUpTo}
use Rattle.dd_loop.proofs.Faults.{counts_none}
use Rattle.dd_loop.proofs.More.{more_same}
use Rattle.dd_answers.specs.Answering.{StandsSince}
use Rattle.dd_rig.proofs.Falling.{falls_self, frame_self}
use Rattle.dd_script.specs.declared.reply.Stop.{Stop}
use Rattle.dd_loop.specs.declared.halt.Halt.{Halt}
use Rattle.dd_loop.specs.declared.halt.Halt.TheVariants.{Stopped, Output}
use Rattle.dd_answers.specs.Serving.{LinesPaid, LoopEnds, served_ending}
use Rattle.dd_answers.specs.Costs.{HasArrayBehind}

pub ruleset serving_steps = (falls_self, frame_self, more_same)

pub ok_both : {T E : Type 0} (r : Result T E) (P Q : Type 0) → OnOk r P → OnOk r Q → OnOk r (P × Q)
ok_both (Ok x) P Q h k = (h, k)
ok_both (Err e) P Q h k = tt

-- it stopped before its first line, and nothing was done
pub unserved : (listed : ℕ) (print : List ℕ → Fp) (sizes : Sizes) (StandFor : (flash disk : List ℕ) → State → Type 0) (why : Stop) (start : State) (commands : List Command) (new : World) (before after : Counts)
    → ((flash disk : List ℕ) → IsImage new.flash flash → IsImage new.disk disk → StandFor flash disk start) → commands ≢ [] → NeverFalls before after → ServedUpTo print sizes StandFor start commands (LinesPaid listed before after) (Stopped why) new.said new
unserved listed print sizes StandFor why start commands new before after stands some falls = record {
  sofar = record {
    lines = [];
    rest = [];
    answered = tt;
    whole = tt;
    part = inl refl;
    no_end = tt;
    said = sym (append-nil new.said);
    now = λ flash disk flash_image disk_image. record { k = 0; few = omega arith; stands = stands flash disk flash_image disk_image; acknowledges = omega arith };
    paid = (record { hits = omega (arith, falls.flash.reads); whole = λ none. absurd (cc none) }, counts_none before after falls);
  };
  halts = (some, refl);
}

-- the loop ended so
pub ends_so : (print : List ℕ → Fp) (first : World) (sizes : Sizes) (start : State) (commands : List Command) (served : Result Bool Halt) (said : List ℕ) (new : World) (before after : Counts)
    → IfOk served (λ faulted. ServedAll print sizes (StandsSince print first) start commands (LinesPaid (length start.addresses) before after) (HasArrayBehind sizes new) faulted said new)
    → IfErr served (λ halt. ServedUpTo print sizes (StandsSince print first) start commands (LinesPaid (length start.addresses) before after) halt said new)
    → LoopEnds print first sizes start commands (served_ending served) said new before after
ends_so print first sizes start commands (Ok faulted) said new before after all some = all
ends_so print first sizes start commands (Err Output) said new before after all some = some
ends_so print first sizes start commands (Err (Stopped why)) said new before after all some = some
