-- The end of a run: what its status says of what was said.
use Rattle.std.proofs.Common.{◌≡◌, ◌≢◌, inl, inr, ⊎_elim, ℕ, ◌+◌, ◌<◌, ◌≤◌, Bool, true, false, List, [], ◌∷◌, ◌++◌, length, take, drop, refl, sym, ◌∙◌, ap, subst, arith, append_assoc, append-nil, if◌then◌else◌, ◌==◌, length-append}
use Rattle.std.specs.List.{AllByRecursion, flat_map}
use Rattle.std.specs.Str.{bytes_eq}
use Rattle.std.proofs.lemmas.Bool.{cases_lt}
use Rattle.std.proofs.lemmas.List.{take_all, take-append-le, take-append-drop}
use Rattle.std.proofs.Math.Seq.{drop-append_seam}
use Rattle.dd_block.specs.declared.print.Fp.{Fp}
use Rattle.dd_rig.specs.declared.device.Dev.{Dev}
use Rattle.dd_rig.specs.declared.device.Dev.TheVariants as dev
use Rattle.dd_rig.specs.declared.tallies.Counts.{Counts}
use Rattle.dd_rig.specs.Counts.{Rose, NeverFalls, IsStill}
use Rattle.dd_rig.specs.World.{World}
use Rattle.dd_model.specs.State.{Sizes, State}
use Rattle.dd_script.specs.declared.reply.Stop.{Stop}
use Rattle.dd_script.specs.declared.reply.Stop.TheVariants as stop
use Rattle.dd_script.specs.Command.{Command, after_all}
use Rattle.dd_script.specs.Script.{Lines, lines_of}
use Rattle.dd_script.specs.Text.{HasNoEnd, ended, fault_text, stop_text}
use Rattle.dd_script.specs.Output.{output_of}
use Rattle.dd_script.specs.Answers.{answered_by, Answered, IsPart, IsStopped, Tell, Answers, faults_in}
use Rattle.dd_script.proofs.Lines.{lines_of-lines}
use Rattle.dd_script.proofs.LineWords.{stop_no_end}
use Rattle.dd_script.proofs.Taking.{tell-part, tell-stop}
use Rattle.dd_loop.specs.declared.halt.Halt.TheVariants.{Stopped, Output}
use Rattle.dd_loop.specs.Answering.{CountsFaults, HasFault}
use Rattle.dd_loop.specs.Ending.{stopped_status}
use Rattle.dd_loop.specs.Halting.{Halts}
use Rattle.dd_loop.specs.Saying.{EndsIn, IsIdle, SaysAlone}
use Rattle.dd_loop.proofs.Faults.{counts_none, counts_later}
use Rattle.dd_loop.proofs.Standing.{flat_snoc, whole_snoc, front_no_end}
use Rattle.dd_serve.specs.declared.words.Plan.{Plan}
use Rattle.dd_serve.specs.Answering.{IsFlash}
use Rattle.dd_script.specs.Counting.{loads_in}
use Rattle.dd_script.proofs.Counting.{faults_both}
use Rattle.dd_serve.specs.Calls.{AsksForLines, unfinished}
use Rattle.dd_serve.specs.Laws.{asks_still, asks_weaker}
use Rattle.dd_serve.specs.Replays.{Replays, ReplaysAll, ReplaysUpTo, IsBounded, said_since, lines_since, plan_sizes, replay_start, replay_commands, replay_output}
use Rattle.dd_serve.proofs.Costs.{asks_stop}

-- what was said since
since_is : (old new more : List ℕ) → new ≡ old ++ more → drop (length old) new ≡ more
since_is old new more e = ap (drop (length old)) e ∙ drop-append_seam old more

cut_some : (xs : List ℕ) (n : ℕ) → length xs < n → take n (ended xs) ≡ ended xs
cut_some xs n h = take_all n (ended xs) (omega (arith, h, length-append xs (10 ∷ [])))

cut_part : (xs : List ℕ) (n : ℕ) → n ≤ length xs → take n (ended xs) ≡ take n xs
cut_part xs n h = take-append-le n xs (10 ∷ []) h

-- the status of a run whose script was served to its end
abbrev pub status_for : Bool → ℕ
status_for false = 0
status_for true = 1

-- a run that stops has a status of its own
pub stop_large : (why : Stop) → 4 ≤ stopped_status why
stop_large stop.Flash = omega arith
stop_large stop.Disk = omega arith
stop_large stop.Script = omega arith
stop_large stop.Length = omega arith
stop_large stop.Memory = omega arith

-- and it isn't that of a run whose emit failed
stop_heard : (why : Stop) → 6 ≡ stopped_status why → ⊥
stop_heard stop.Flash e = omega (arith, e)
stop_heard stop.Disk e = omega (arith, e)
stop_heard stop.Script e = omega (arith, e)
stop_heard stop.Length e = omega (arith, e)
stop_heard stop.Memory e = omega (arith, e)

-- it tells why, but for the device
abbrev stop_for : ℕ → Stop
stop_for status = if status == 4 then stop.Memory else if status == 5 then stop.Script else if status == 8 then stop.Length else stop.Flash

stop_back : (why : Stop) → why ≢ stop.Disk → stop_for (stopped_status why) ≡ why
stop_back stop.Flash not = refl
stop_back stop.Disk not = absurd (not refl)
stop_back stop.Script not = refl
stop_back stop.Length not = refl
stop_back stop.Memory not = refl

same_stop : (why other : Stop) → why ≢ stop.Disk → other ≢ stop.Disk → stopped_status why ≡ stopped_status other → why ≡ other
same_stop why other not nor e = sym (stop_back why not) ∙ ap stop_for e ∙ stop_back other nor

-- a run of which no emit failed doesn't have one that did
not_both : (a b c d : ℕ) → a ≤ b → c ≤ d → IsStill a d → Rose b c → ⊥
not_both a b c d h k still rose = omega (arith, h, k, still.0, still.1, rose)

module _ (print : List ℕ → Fp) (plan : Plan) (disk : ℕ) (script : List ℕ) (old : World) (before : Counts) where
  abbrev sizes : Sizes
  sizes = plan_sizes plan disk

  abbrev start : State
  start = replay_start plan disk old

  abbrev commands : List Command
  commands = replay_commands plan disk script

  -- whole lines that answer the first commands, and a part of one more behind them
  pub record Told (new : World) (end : Counts) : Type 0 where
    pub lines : List (List ℕ)
    pub rest : List ℕ
    pub answered : Answered print (plan_sizes plan disk) (replay_start plan disk old) (replay_commands plan disk script) lines
    pub whole : AllByRecursion HasNoEnd lines
    pub part : IsPart print (plan_sizes plan disk) (after_all (plan_sizes plan disk) (replay_start plan disk old) (answered_by lines (replay_commands plan disk script))) (drop (length lines) (replay_commands plan disk script)) rest
    pub no_end : HasNoEnd rest
    pub said : new.said ≡ old.said ++ (flat_map ended lines ++ rest)
    pub faults : CountsFaults lines before end

  since_lines : (new : World) (end : Counts) (s : Told new end) → said_since old new ≡ flat_map ended s.lines ++ s.rest
  since_lines new end s = since_is old.said new.said (flat_map ended s.lines ++ s.rest) s.said

  lines_are : (new : World) (end : Counts) (s : Told new end) → lines_of (said_since old new) ≡ record { whole = s.lines; rest = s.rest }
  lines_are new end s = ap lines_of (since_lines new end s) ∙ lines_of-lines s.lines s.rest s.whole s.no_end

  goes_on : (new : World) (end : Counts) (s : Told new end) → new.said ≡ old.said ++ said_since old new
  goes_on new end s = s.said ∙ ap (λ (l : List ℕ). old.said ++ l) (sym (since_lines new end s))

  answers_so : (new : World) (end : Counts) (s : Told new end) → Answers print sizes start commands (said_since old new)
  answers_so new end s =
      subst (λ (l : Lines). Tell print sizes start commands l.whole l.rest) (sym (lines_are new end s)) (tell-part print sizes s.lines start commands s.rest s.answered s.part)

  faults_so : (new : World) (end : Counts) (s : Told new end) → CountsFaults (lines_since old new) before end
  faults_so new end s = subst (λ (l : List (List ℕ)). CountsFaults l before end) (sym (ap (λ (l : Lines). l.whole) (lines_are new end s))) s.faults

  asks_so : (more : ℕ) (new : World) (end : Counts) (s : Told new end) → AsksForLines sizes s.lines more before end → AsksForLines sizes (lines_since old new) more before end
  asks_so more new end s h = subst (λ (l : List (List ℕ)). AsksForLines sizes l more before end) (sym (ap (λ (l : Lines). l.whole) (lines_are new end s))) h

  served_more : (faulted : Bool) (lines : List (List ℕ)) (end : Counts) → AsksForLines sizes lines 0 before end → AsksForLines sizes lines (unfinished (status_for faulted)) before end
  served_more false lines end h = h
  served_more true lines end h = h

  loads_so : (faulted : Bool) (new : World) (end : Counts) (s : Told new end) → HasFault faulted s.lines → AsksForLines sizes s.lines 0 before end → status_for faulted ≡ 0
      → end.disk.reads ≤ before.disk.reads + loads_in (lines_since old new)
  loads_so false new end s fault loads zero_is = subst (λ (l : List (List ℕ)). end.disk.reads ≤ before.disk.reads + loads_in l) (sym (ap (λ (l : Lines). l.whole) (lines_are new end s))) (omega (arith, loads.1.1.0, fault.0, fault.1))
  loads_so true new end s fault loads zero_is = absurd (omega arith)

  exact_so : (faulted : Bool) (new : World) → (faulted ≡ false → new.said ≡ old.said ++ output_of print sizes start commands) → status_for faulted ≡ 0 → said_since old new ≡ replay_output print plan disk old script
  exact_so false new exact zero_is = since_is old.said new.said (output_of print sizes start commands) (exact refl)
  exact_so true new exact zero_is = absurd (omega arith)

  fault_so : (faulted : Bool) (new : World) (end : Counts) (s : Told new end) → HasFault faulted s.lines → status_for faulted ≡ 1 → 0 < faults_in dev.Flash (lines_since old new) + faults_in dev.Disk (lines_since old new)
  fault_so false new end s fault one_is = absurd (omega arith)
  fault_so true new end s fault one_is = subst (λ (l : List (List ℕ)). 0 < faults_in dev.Flash l + faults_in dev.Disk l) (sym (ap (λ (l : Lines). l.whole) (lines_are new end s))) fault

  no_last : (faulted : Bool) (why : Stop) → status_for faulted ≡ stopped_status why → ⊥
  no_last false why e = omega (arith, e, stop_large why)
  no_last true why e = omega (arith, e, stop_large why)

  status_small : (faulted : Bool) → (status_for faulted ≡ 8) → ⊥
  status_small false e = omega arith
  status_small true e = omega arith

  abbrev told_all : (faulted : Bool) (new : World) (end : Counts) → ReplaysAll print plan disk faulted script old new before end → Told new end
  told_all faulted new end served =
      let s = served.sofar in
      record { lines = s.lines; rest = s.rest; answered = s.answered; whole = s.whole; part = s.part; no_end = s.no_end; said = s.said; faults = s.paid.1 }

  -- each command was answered
  pub serves_all : (faulted : Bool) (new : World) (end : Counts) → ReplaysAll print plan disk faulted script old new before end → IsBounded plan disk script → Replays print plan disk (status_for faulted) script old new before end
  serves_all faulted new end served bounded =
      let s : Told new end = told_all faulted new end served in
      let are = lines_are new end s in
      let faults = faults_so new end s in
      record {
        said = goes_on new end s;
        answers = answers_so new end s;
        whole = λ still. ap (λ (l : Lines). l.rest) are ∙ served.nothing_more;
        all = λ small. record {
          answered = subst (λ (l : Lines). Answered print sizes start commands l.whole) (sym are) s.answered;
          all = subst (λ (l : Lines). length l.whole ≡ length commands) (sym are) served.all;
          whole = ap (λ (l : Lines). l.rest) are ∙ served.nothing_more;
        };
        exact = exact_so faulted new served.exact;
        fault = fault_so faulted new end s served.fault;
        flash_faults = faults.flash;
        disk_faults = faults.disk;
        asks = served_more faulted (lines_since old new) end (asks_so 0 new end s served.sofar.paid.0);
        loads = loads_so faulted new end s served.fault served.sofar.paid.0;
        last = λ why not e. absurd (no_last faulted why e);
        bounded = λ small. bounded;
        long = λ e. absurd (status_small faulted e);
      }

  -- an emit failed
  pub serves_cut : (new : World) (end : Counts) → ReplaysUpTo print plan disk Output script old new before end → Rose before.failed_emits end.failed_emits → Replays print plan disk 6 script old new before end
  serves_cut new end served rose =
      let so = served.sofar in
      let s : Told new end = record { lines = so.lines; rest = so.rest; answered = so.answered; whole = so.whole; part = so.part; no_end = so.no_end; said = so.said; faults = so.paid.1 } in
      let faults = faults_so new end s in
      record {
        said = goes_on new end s;
        answers = answers_so new end s;
        whole = λ still. absurd (not_both _ _ _ _ (omega arith) (omega arith) still rose);
        all = λ small. absurd (omega arith);
        exact = λ e. absurd (omega arith);
        fault = λ e. absurd (omega arith);
        flash_faults = faults.flash;
        disk_faults = faults.disk;
        asks = asks_so 1 new end s so.paid.0;
        loads = λ e. absurd (omega arith);
        last = λ why not e. absurd (stop_heard why e);
        bounded = λ small. absurd (omega arith);
        long = λ e. absurd (omega arith);
      }

  -- an ending that has no line says nothing more
  pub ends_silent : (status last : ℕ) (new later : World) (end after : Counts) → later ≡ new → after ≡ end → status ≡ last → Replays print plan disk status script old new before end → Replays print plan disk last script old later before after
  ends_silent status last new later end after same calls is h =
      subst (λ (n : ℕ). Replays print plan disk n script old later before after) is
      (subst (λ (k : Counts). Replays print plan disk status script old later before k) (sym calls)
      (subst (λ (w : World). Replays print plan disk status script old w before end) (sym same) h))

  stop_no_fault : (why : Stop) (device : Dev) → bytes_eq (stop_text why) (fault_text device) ≡ false
  stop_no_fault stop.Flash dev.Flash = refl
  stop_no_fault stop.Disk dev.Flash = refl
  stop_no_fault stop.Script dev.Flash = refl
  stop_no_fault stop.Length dev.Flash = refl
  stop_no_fault stop.Memory dev.Flash = refl
  stop_no_fault stop.Flash dev.Disk = refl
  stop_no_fault stop.Disk dev.Disk = refl
  stop_no_fault stop.Script dev.Disk = refl
  stop_no_fault stop.Length dev.Disk = refl
  stop_no_fault stop.Memory dev.Disk = refl

  -- what a run says that stops
  pub record StopsWith (why : Stop) (middle : World) (end : Counts) : Type 0 where
    pub so_far : Told middle end
    pub some : drop (length so_far.lines) (replay_commands plan disk script) ≢ []
    pub nothing_more : so_far.rest ≡ []
    pub not_disk : why ≢ stop.Disk
    pub long : stopped_status why ≡ 8 → IsBounded plan disk script → ⊥
    pub asks : AsksForLines (plan_sizes plan disk) so_far.lines (unfinished (stopped_status why)) before end

  faults_stop : (why : Stop) (lines : List (List ℕ)) (end : Counts) → CountsFaults lines before end → CountsFaults (lines ++ stop_text why ∷ []) before end
  faults_stop why lines end h = record {
    flash = omega (arith, h.flash, faults_both dev.Flash lines (stop_text why ∷ []), none dev.Flash);
    disk = omega (arith, h.disk, faults_both dev.Disk lines (stop_text why ∷ []), none dev.Disk);
  }
    where
      none : (device : Dev) → faults_in device (stop_text why ∷ []) ≡ 0
      none device = ap (λ b. 0 + (if b then 1 else 0)) (stop_no_fault why device)

  -- the line of the status was said whole
  stops_whole : (why : Stop) (middle new : World) (between end : Counts) → NeverFalls between end → IsIdle between end → StopsWith why middle between → new.said ≡ middle.said ++ ended (stop_text why) → Replays print plan disk (stopped_status why) script old new before end
  stops_whole why middle new between end later idle stops said =
      let s = stops.so_far in
      let line : List ℕ = stop_text why in
      let front : middle.said ≡ old.said ++ flat_map ended s.lines = s.said ∙ ap (λ (l : List ℕ). old.said ++ (flat_map ended s.lines ++ l)) stops.nothing_more ∙ ap (λ (l : List ℕ). old.said ++ l) (append-nil (flat_map ended s.lines)) in
      let whole : new.said ≡ old.said ++ flat_map ended (s.lines ++ line ∷ []) =
      said ∙ ap (λ (l : List ℕ). l ++ ended line) front ∙ append_assoc old.said (flat_map ended s.lines) (ended line) ∙ ap (λ (l : List ℕ). old.said ++ l) (sym (flat_snoc s.lines line)) in
      let since : said_since old new ≡ flat_map ended (s.lines ++ line ∷ []) = since_is old.said new.said (flat_map ended (s.lines ++ line ∷ [])) whole in
      let are : lines_of (said_since old new) ≡ record { whole = s.lines ++ line ∷ []; rest = [] } =
      ap lines_of (since ∙ sym (append-nil (flat_map ended (s.lines ++ line ∷ [])))) ∙ lines_of-lines (s.lines ++ line ∷ []) [] (whole_snoc s.lines line s.whole (stop_no_end why)) tt in
      let lines : lines_since old new ≡ s.lines ++ line ∷ [] = ap (λ (l : Lines). l.whole) are in
      let faults : CountsFaults (lines_since old new) before end = subst (λ (l : List (List ℕ)). CountsFaults l before end) (sym lines) (faults_stop why s.lines end (counts_later s.lines before between end s.faults later)) in
      record {
        said = whole ∙ ap (λ (l : List ℕ). old.said ++ l) (sym since);
        answers = subst (λ (l : Lines). Tell print sizes start commands l.whole l.rest) (sym are) (tell-stop print sizes s.lines start commands line s.answered stops.some (why, refl));
        whole = λ still. ap (λ (l : Lines). l.rest) are;
        all = λ small. absurd (omega (arith, stop_large why));
        exact = λ e. absurd (omega (arith, stop_large why, e));
        fault = λ e. absurd (omega (arith, stop_large why, e));
        flash_faults = faults.flash;
        disk_faults = faults.disk;
        asks = subst (λ (l : List (List ℕ)). AsksForLines sizes l (unfinished (stopped_status why)) before end) (sym lines) (asks_stop sizes s.lines why (unfinished (stopped_status why)) before end (asks_still sizes s.lines (unfinished (stopped_status why)) before between end idle stops.asks));
        loads = λ e. absurd (omega (arith, stop_large why, e));
        last = λ other not e. subst (λ (w : Stop). EndsIn (stop_text w) (said_since old new) before end) (same_stop why other stops.not_disk not e) (s.lines, s.whole, inl since);
        bounded = λ small. absurd (omega (arith, stop_large why));
        long = stops.long;
      }

  -- a part of it was
  stops_part : (why : Stop) (middle new : World) (between end : Counts) (n : ℕ) → NeverFalls before between → NeverFalls between end → IsIdle between end → StopsWith why middle between → Rose between.failed_emits end.failed_emits
      → new.said ≡ middle.said ++ take n (ended (stop_text why)) → n ≤ length (stop_text why) → Replays print plan disk (stopped_status why) script old new before end
  stops_part why middle new between end n earlier later idle stops rose said short =
      let line : List ℕ = stop_text why in
      let first = stops.so_far in
      let front : middle.said ≡ old.said ++ flat_map ended first.lines = first.said ∙ ap (λ (l : List ℕ). old.said ++ (flat_map ended first.lines ++ l)) stops.nothing_more ∙ ap (λ (l : List ℕ). old.said ++ l) (append-nil (flat_map ended first.lines)) in
      let s : Told new end = record {
        lines = first.lines;
        rest = take n line;
        answered = first.answered;
        whole = first.whole;
        part = may_stop _ _ line (why, refl) stops.some (take n line) (drop n line) (sym (take-append-drop n line));
        no_end = front_no_end n line (stop_no_end why);
        said = said ∙ ap (λ (l : List ℕ). middle.said ++ l) (cut_part line n short) ∙ ap (λ (l : List ℕ). l ++ take n line) front ∙ append_assoc old.said (flat_map ended first.lines) (take n line);
        faults = counts_later first.lines before between end first.faults later;
      } in
      let faults = faults_so new end s in
      record {
        said = goes_on new end s;
        answers = answers_so new end s;
        whole = λ still. absurd (not_both _ _ _ _ earlier.emits (omega arith) still rose);
        all = λ small. absurd (omega (arith, stop_large why));
        exact = λ e. absurd (omega (arith, stop_large why, e));
        fault = λ e. absurd (omega (arith, stop_large why, e));
        flash_faults = faults.flash;
        disk_faults = faults.disk;
        asks = asks_so (unfinished (stopped_status why)) new end s (asks_still sizes first.lines (unfinished (stopped_status why)) before between end idle stops.asks);
        loads = λ e. absurd (omega (arith, stop_large why, e));
        last = λ other not e. subst (λ (w : Stop). EndsIn (stop_text w) (said_since old new) before end) (same_stop why other stops.not_disk not e)
            (first.lines, first.whole, inr (omega (arith, earlier.emits, rose), n, since_lines new end s ∙ ap (λ (l : List ℕ). flat_map ended first.lines ++ l) (sym (cut_part line n short))));
        bounded = λ small. absurd (omega (arith, stop_large why));
        long = stops.long;
      }
    where
      may_stop : (state : State) (left : List Command) (line : List ℕ) → IsStopped line → left ≢ [] → (rest more : List ℕ) → line ≡ rest ++ more → IsPart print sizes state left rest
      may_stop state [] line is some rest more e = absurd (some refl)
      may_stop state (command ∷ left) line is some rest more e = inr (line, more, inr is, e)

  -- the line of the status was said, or an emit failed
  pub stops_alone : (why : Stop) (middle new : World) (between end : Counts) → NeverFalls before between → NeverFalls between end → IsIdle between end → StopsWith why middle between → SaysAlone (stop_text why) between end middle new
      → Replays print plan disk (stopped_status why) script old new before end
  stops_alone why middle new between end earlier later idle stops (inl said) = stops_whole why middle new between end later idle stops said
  stops_alone why middle new between end earlier later idle stops (inr (rose, n, said)) = ⊎_elim
      (λ (long : length (stop_text why) < n). stops_whole why middle new between end later idle stops (said ∙ ap (λ (l : List ℕ). middle.said ++ l) (cut_some (stop_text why) n long)))
      (λ (short : n ≤ length (stop_text why)). stops_part why middle new between end n earlier later idle stops rose said short)
      (cases_lt (length (stop_text why)) n)

  halts_not_disk : (why : Stop) (failed long : Type 0) (a b : Counts) → Halts IsFlash failed long (Stopped why) a b → why ≢ stop.Disk
  halts_not_disk why failed long a b h = λ is. (subst (λ (w : Stop). Halts IsFlash failed long (Stopped w) a b) is h).0

  halts_long : (why : Stop) (failed long : Type 0) (a b : Counts) → Halts IsFlash failed long (Stopped why) a b → stopped_status why ≡ 8 → long
  halts_long stop.Flash failed long a b h e = absurd (omega arith)
  halts_long stop.Disk failed long a b h e = absurd h.0
  halts_long stop.Script failed long a b h e = absurd (omega arith)
  halts_long stop.Length failed long a b h e = h
  halts_long stop.Memory failed long a b h e = absurd h

  halts_asks : (why : Stop) (failed long : Type 0) (a b : Counts) → Halts IsFlash failed long (Stopped why) a b → (lines : List (List ℕ)) → AsksForLines sizes lines 1 before b → AsksForLines sizes lines (unfinished (stopped_status why)) before b
  halts_asks stop.Flash failed long a b h lines asks = asks
  halts_asks stop.Disk failed long a b h lines asks = absurd h.0
  halts_asks stop.Script failed long a b h lines asks = asks
  halts_asks stop.Length failed long a b h lines asks = asks
  halts_asks stop.Memory failed long a b h lines asks = absurd h

  -- serving halted
  pub stops_served : (why : Stop) (failed : Type 0) (middle : World) (end : Counts) → ReplaysUpTo print plan disk (Stopped why) script old middle before end
      → Halts IsFlash failed (IsBounded plan disk script → ⊥) (Stopped why) before end → StopsWith why middle end
  stops_served why failed middle end served halts =
      let so = served.sofar in
      record {
        so_far = record { lines = so.lines; rest = so.rest; answered = so.answered; whole = so.whole; part = so.part; no_end = so.no_end; said = so.said; faults = so.paid.1 };
        some = served.halts.0;
        nothing_more = served.halts.1;
        not_disk = halts_not_disk why failed (IsBounded plan disk script → ⊥) before end halts;
        long = halts_long why failed (IsBounded plan disk script → ⊥) before end halts;
        asks = halts_asks why failed (IsBounded plan disk script → ⊥) before end halts so.lines so.paid.0;
      }

  -- it never began: no more than a read of the flash was made
  pub stops_early : (why : Stop) (between : Counts) → NeverFalls before between → AsksForLines sizes [] 0 before between → why ≢ stop.Disk → (stopped_status why ≡ 8 → ⊥)
      → commands ≢ [] → StopsWith why old between
  stops_early why between later asks not_disk not_long some = record {
    so_far = record { lines = []; rest = []; answered = tt; whole = tt; part = inl refl; no_end = tt; said = sym (append-nil old.said); faults = counts_none before between later };
    some = some;
    nothing_more = refl;
    not_disk = not_disk;
    long = λ e. absurd (not_long e);
    asks = early_asks why between asks;
  }
    where
      early_asks : (why : Stop) (between : Counts) → AsksForLines sizes [] 0 before between → AsksForLines sizes [] (unfinished (stopped_status why)) before between
      early_asks stop.Flash between h = asks_weaker sizes [] before between h
      early_asks stop.Disk between h = asks_weaker sizes [] before between h
      early_asks stop.Script between h = asks_weaker sizes [] before between h
      early_asks stop.Length between h = asks_weaker sizes [] before between h
      early_asks stop.Memory between h = h
