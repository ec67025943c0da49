-- Both lists, as the line that answers a command.
use Rattle.std.proofs.Common.{◌≡◌, inl, ℕ, false, List, [], ◌∷◌, length, map, take, refl, ap, subst, sym, arith, Some}
use Rattle.std.proofs.lemmas.List.{take_all}
use Rattle.dd_block.specs.declared.print.Fp.{Fp}
use Rattle.dd_rig.specs.declared.tallies.Counts.{Counts}
use Rattle.dd_rig.specs.Clock.{Clock, Elapses}
use Rattle.dd_rig.specs.Counts.{NeverFalls}
use Rattle.dd_rig.specs.World.{World, SaysSome, WithinEmit, say}
use Rattle.dd_rig.proofs.Moments.{starts}
use Rattle.dd_model.specs.State.{Sizes, State}
use Rattle.dd_script.specs.Command.{lists}
use Rattle.dd_script.specs.Output.{reply_line}
use Rattle.dd_script.specs.Text.{ended}
use Rattle.dd_script.proofs.LineEnds.{lists_no_end}
use Rattle.dd_loop.specs.declared.cache.Written.{Written}
use Rattle.dd_loop.specs.declared.halt.Halt.TheVariants.{Output}
use Rattle.dd_loop.specs.Answering.{Pays, GoesOnWith, WritesAnswer, AnswersLine, WithinLine, CutsLine}
use Rattle.dd_loop.specs.Standing.{AllStand, WithinCall}
use Rattle.dd_loop.proofs.Answering.{line_within, line_cut}
use Rattle.dd_loop.proofs.FaultLines.{reply_has_none, reply_counts}

module _ (StandFor : (flash disk : List ℕ) → State → Type 0) (print : List ℕ → Fp) (sizes : Sizes) (c s : State) where
  abbrev line : List ℕ
  line = reply_line print sizes s lists

  -- the state stays, and what is committed
  goes : (Kept : (committed held : State) → Type 0) (Paid : List (List ℕ) → Type 0) → Kept c s → Paid (line ∷ []) → GoesOnWith print sizes Kept Paid c s lists false line
  goes Kept Paid kept paid = record {
    no_end = lists_no_end s.addresses (map print s.blocks);
    one = refl;
    fault = reply_has_none print sizes s lists line refl;
    committed = c;
    either = inl refl;
    sure = tt;
    kept = kept;
    paid = paid;
  }

  abbrev written : Written
  written = record { size = length (ended line); faulted = false }

  whole : take (length (ended line)) (ended line) ≡ ended line
  whole = take_all (length (ended line)) (ended line) (omega arith)

  -- as if the line stood in a buffer
  writes : (Kept : (committed held : State) → Type 0) (Paid : List (List ℕ) → Type 0) → Kept c s → Paid (line ∷ []) → WritesAnswer print sizes Kept Paid c s (Some lists) (Some written) (ended line)
  writes Kept Paid kept paid = (line, whole, goes Kept Paid kept paid)

  module _ (Kept : (committed held : State) → Type 0) (old : World) (stands : (one another : State) → Kept one another → AllStand StandFor old one) (kept : Kept c s) where
    -- a crash within it
    pub lists_within : {first last : Clock} → Elapses first last (WithinEmit (ended line) old) → Elapses first last (WithinLine print sizes StandFor c s (Some lists) old)
    lists_within {first} {last} emit =
        line_within StandFor print sizes Kept (λ ls. Unit {0}) c s old old refl stands written (ended line) (Some lists) (writes Kept (λ ls. Unit {0}) kept tt)
        (starts first (WithinCall StandFor c s old)) (subst (λ (piece : List ℕ). Elapses first last (WithinEmit piece old)) (sym whole) emit)

    -- an emit failed
    pub lists_cut : (Paid : List (List ℕ) → ℕ → Type 0) (new : World) → Paid (line ∷ []) 0 → SaysSome (ended line) old new → CutsLine print sizes StandFor Paid Output c s (Some lists) old new
    lists_cut Paid new paid some =
        line_cut StandFor print sizes Kept (λ ls. Paid ls 0) c s old old refl stands written (ended line) Paid (λ ls p. p) (Some lists) new (writes Kept (λ ls. Paid ls 0) kept paid)
        (subst (λ (piece : List ℕ). SaysSome piece old new) (sym whole) some)

  -- none did
  pub lists_said : (Later : (committed held : State) → Type 0) (Paid : List (List ℕ) → Type 0) (old new : World) → Later c s → Paid (line ∷ []) → new ≡ say (ended line) old → AnswersLine print sizes Later Paid c s (Some lists) false old.said new.said
  lists_said Later Paid old new later paid is = (line, ap (λ (w : World). w.said) is, goes Later Paid later paid)

-- what it costs
pub lists_paid : (print : List ℕ → Fp) (sizes : Sizes) (s : State) (Costs : List (List ℕ) → ℕ → Counts → Counts → Type 0) (before after : Counts) → NeverFalls before after → Costs (reply_line print sizes s lists ∷ []) 0 before after
    → Pays Costs before after (reply_line print sizes s lists ∷ []) 0
lists_paid print sizes s Costs before after falls cost = (cost, reply_counts (reply_line print sizes s lists) before after (reply_has_none print sizes s lists (reply_line print sizes s lists) refl) falls)
