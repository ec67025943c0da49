-- What was served by one account of what lines cost, and of what is held behind them, was served by another.
use Rattle.std.specs.Prelude.{ℕ, Bool, List}
use Rattle.dd_block.specs.declared.print.Fp.{Fp}
use Rattle.dd_rig.specs.World.{World}
use Rattle.dd_model.specs.State.{Sizes, State}
use Rattle.dd_script.specs.Command.{Command}
use Rattle.dd_loop.specs.declared.halt.Halt.{Halt}
use Rattle.dd_loop.specs.Serving.{Sofar, ServedAll, ServedUpTo}

module _ (print : List ℕ → Fp) (sizes : Sizes) (StandFor : (flash disk : List ℕ) → State → Type 0) (start : State) (commands : List Command) (Then Now : List (List ℕ) → ℕ → Type 0)
    (pays : (lines : List (List ℕ)) (more : ℕ) → Then lines more → Now lines more) (said : List ℕ) (new : World) where
  abbrev sofar_by : (more : ℕ) → Sofar print sizes StandFor start commands (λ lines. Then lines more) said new → Sofar print sizes StandFor start commands (λ lines. Now lines more) said new
  sofar_by more s = record {
    lines = s.lines;
    rest = s.rest;
    answered = s.answered;
    whole = s.whole;
    part = s.part;
    no_end = s.no_end;
    said = s.said;
    now = s.now;
    paid = pays s.lines more s.paid;
  }

  pub all_by : (HeldThen HeldNow : List (List ℕ) → State → Type 0) → ((lines : List (List ℕ)) (s : State) → Then lines 0 → HeldThen lines s → HeldNow lines s) → (faulted : Bool)
      → ServedAll print sizes StandFor start commands Then HeldThen faulted said new → ServedAll print sizes StandFor start commands Now HeldNow faulted said new
  all_by HeldThen HeldNow holds faulted h = record {
    sofar = sofar_by 0 h.sofar;
    held = holds h.sofar.lines _ h.sofar.paid h.held;
    all = h.all;
    nothing_more = h.nothing_more;
    fault = h.fault;
    exact = h.exact;
  }

  pub some_by : (halt : Halt) → ServedUpTo print sizes StandFor start commands Then halt said new → ServedUpTo print sizes StandFor start commands Now halt said new
  some_by halt h = record { sofar = sofar_by 1 h.sofar; halts = h.halts }
