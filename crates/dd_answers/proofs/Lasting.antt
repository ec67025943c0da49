-- The last line of a run, behind the lines that were served.
use Rattle.std.proofs.Common.{◌≡◌, ◌≢◌, inl, inr, ⊎_elim, ℕ, ◌+◌, ◌<◌, ◌≤◌, Bool, List, [], ◌∷◌, ◌++◌, length, take, drop, refl, sym, ◌∙◌, ap, subst, arith, append_assoc, append-nil, length-append}
use Rattle.std.specs.List.{AllByRecursion, flat_map}
use Rattle.std.proofs.lemmas.Bool.{cases_lt}
use Rattle.std.proofs.lemmas.List.{take_all, take-append-le, take-append-drop}
use Rattle.dd_block.specs.declared.print.Fp.{Fp}
use Rattle.dd_rig.specs.declared.device.Dev.TheVariants as dev
use Rattle.dd_rig.specs.declared.tallies.Counts.{Counts}
use Rattle.dd_rig.specs.declared.tallies.Calls.{Calls}
use Rattle.dd_rig.specs.Counts.{IsStill, Rose, NeverFalls, plus}
use Rattle.dd_rig.proofs.Falling.{falls_self}
use Rattle.dd_rig.specs.Device.{Device, IsImage}
use Rattle.dd_rig.specs.World.{World, Outcome, MayLeave}
use Rattle.dd_model.specs.State.{Sizes, State, array_of}
use Rattle.dd_script.specs.declared.reply.Stop.{Stop}
use Rattle.dd_script.specs.declared.reply.Stop.TheVariants as stop
use Rattle.dd_script.specs.Answers.{answered_by, faults_in, IsStopped, MayCome, Tell, Answered}
use Rattle.dd_script.specs.Command.{Command, after_all}
use Rattle.dd_script.specs.Counting.{hits_in}
use Rattle.dd_script.proofs.Counting.{hits_both, stop_counted}
use Rattle.dd_script.specs.Output.{dialect_of, output_of}
use Rattle.dd_script.specs.Script.{Lines, lines_of, commands_of}
use Rattle.dd_script.specs.Text.{HasNoEnd, ended, stop_text}
use Rattle.dd_script.proofs.Lines.{lines_of-lines}
use Rattle.dd_script.proofs.LineWords.{stop_acks, stop_no_end, no_acks}
use Rattle.dd_script.proofs.Taking.{tell-part, tell-stop, count_after}
use Rattle.dd_loop.specs.declared.ending.Ending.{Ending}
use Rattle.dd_loop.specs.declared.ending.Ending.TheVariants.{Served, Refused, Stopped, Unheard}
use Rattle.dd_loop.specs.declared.halt.Halt.TheVariants as halts
use Rattle.dd_loop.specs.Answering.{CountsFaults, HasFault}
use Rattle.dd_loop.specs.Ending.{status_of, ending_line, SaysLast, WithinLast}
use Rattle.dd_loop.specs.Saying.{SaysAlone, IsIdle}
use Rattle.dd_loop.specs.Serving.{Sofar, ServedUpTo}
use Rattle.dd_loop.specs.Standing.{Stood, StandForPrefix}
use Rattle.dd_loop.proofs.Faults.{counts_both, counts_later}
use Rattle.dd_loop.proofs.Standing.{prefix_of_lines, stood-snoc, whole_snoc, flat_snoc, front_no_end}
use Rattle.dd_answers.specs.Answering.{IsBasisOf, StandsSince}
use Rattle.dd_answers.specs.Headline.{Headline}
use Rattle.dd_recover.proofs.Beginning.{begins_at}
use Rattle.dd_answers.proofs.Pacing.{basis_one}
use Rattle.dd_store.specs.Meaning.{Basis, Stands}
use Rattle.dd_script.specs.Answers.{state_after}
use Rattle.dd_answers.specs.Serving.{Caused, Ends, LinesPaid, IsBounded, LoopEnds, Serves}
use Rattle.dd_answers.specs.Costs.{CallsLittle, HasArrayBehind}

still_emits : (a b c : ℕ) → a ≤ b → IsStill a c → Rose b c → ⊥
still_emits a b c h still rose = omega (arith, h, still.0, still.1, rose)

-- a line that stops a run says of no device that its read failed
stop_faults : (why : Stop) (a b : Counts) → NeverFalls a b → CountsFaults (stop_text why ∷ []) a b
stop_faults why a b falls = record { flash = omega (arith, none_flash why, falls.flash.failed_reads); disk = omega (arith, none_disk why, falls.disk.failed_reads) }
  where
    none_flash : (why : Stop) → faults_in dev.Flash (stop_text why ∷ []) ≡ 0
    none_flash stop.Flash = refl
    none_flash stop.Disk = refl
    none_flash stop.Script = refl
    none_flash stop.Length = refl
    none_flash stop.Memory = refl

    none_disk : (why : Stop) → faults_in dev.Disk (stop_text why ∷ []) ≡ 0
    none_disk stop.Flash = refl
    none_disk stop.Disk = refl
    none_disk stop.Script = refl
    none_disk stop.Length = refl
    none_disk stop.Memory = refl

cancel : (xs ys zs : List ℕ) → xs ++ ys ≡ xs ++ zs → ys ≡ zs
cancel [] ys zs same = same
cancel (x ∷ xs) ys zs same = cancel xs ys zs (cc)

long_of : (Long : Type 0) (why : Stop) (a b : Counts) (m n : ℕ) → Caused ⊥ Long (Stopped why) a b m n → why ≡ stop.Length → Long
long_of Long stop.Flash a b m n h e = absurd (cc)
long_of Long stop.Disk a b m n h e = absurd (cc)
long_of Long stop.Script a b m n h e = absurd (cc)
long_of Long stop.Length a b m n h e = h
long_of Long stop.Memory a b m n h e = absurd (cc)

-- how much of the last line was said
pub said_some : (line : List ℕ) (a b : Counts) (old new : World) → SaysAlone line a b old new → (n : ℕ) × (new.said ≡ old.said ++ take n (ended line))
said_some line a b old new (inl is) = (length (ended line), is ∙ ap (λ (l : List ℕ). old.said ++ l) (sym (take_all (length (ended line)) (ended line) (omega arith))))
said_some line a b old new (inr cut) = (cut.1, cut.2)

module _ (print : List ℕ → Fp) (sizes : Sizes) (start : State) (commands : List Command) (said : List ℕ) where
  -- the line that stops the run, or a part of it, behind whole lines
  record Stopping (StandFor : (flash disk : List ℕ) → State → Type 0) (lines : List (List ℕ)) (out : List ℕ) (before after : Counts) : Type 0 where
    now : List (List ℕ)
    rest : List ℕ
    whole : AllByRecursion HasNoEnd now
    no_end : HasNoEnd rest
    tell : Tell print sizes start commands now rest
    out_is : out ≡ said ++ (flat_map ended now ++ rest)
    later : (flash disk : List ℕ) → Stood StandFor print sizes start commands lines flash disk → Stood StandFor print sizes start commands now flash disk
    faults : CountsFaults now before after
    hits : plus before.flash.reads (hits_in now) ≤ after.flash.reads

  may_stop : (s : State) (cs : List Command) (line : List ℕ) → cs ≢ [] → IsStopped line → MayCome print sizes s cs line
  may_stop s [] line some stops = absurd (some refl)
  may_stop s (c ∷ cs) line some stops = inr stops

  first_of : (cs : List Command) → cs ≢ [] → (command : Command) × (left : List Command) × (cs ≡ command ∷ left)
  first_of [] some = absurd (some refl)
  first_of (c ∷ cs) some = (c, cs, refl)

  stopping : (listed : ℕ) (StandFor : (flash disk : List ℕ) → State → Type 0) (why : Stop) (n : ℕ) (new : World) (out : List ℕ) (before middle after : Counts) (so : Sofar print sizes StandFor start commands (λ lines. LinesPaid listed before middle lines 1) said new)
      → so.rest ≡ [] → drop (length so.lines) commands ≢ [] → NeverFalls middle after → out ≡ new.said ++ take n (ended (stop_text why)) → Stopping StandFor so.lines out before after
  stopping listed StandFor why n new out before middle after so none some falls is =
      let line : List ℕ = stop_text why in
      let was : new.said ≡ said ++ flat_map ended so.lines = so.said ∙ ap (λ (l : List ℕ). said ++ (flat_map ended so.lines ++ l)) none ∙ ap (λ (l : List ℕ). said ++ l) (append-nil (flat_map ended so.lines)) in
      let first = first_of (drop (length so.lines) commands) some in
      let here : out ≡ said ++ (flat_map ended so.lines ++ take n (ended line)) =
      is ∙ ap (λ (l : List ℕ). l ++ take n (ended line)) was ∙ append_assoc said (flat_map ended so.lines) (take n (ended line)) in
      ⊎_elim
      (λ long. record {
        now = so.lines ++ line ∷ [];
        rest = [];
        whole = whole_snoc so.lines line so.whole (stop_no_end why);
        no_end = tt;
        tell = tell-stop print sizes so.lines start commands line so.answered some (why, refl);
        out_is = here ∙ ap (λ (l : List ℕ). said ++ (flat_map ended so.lines ++ l)) (cut_some line long)
            ∙ ap (λ (l : List ℕ). said ++ l) (sym (flat_snoc so.lines line) ∙ sym (append-nil (flat_map ended (so.lines ++ line ∷ []))));
        later = λ flash disk stood. stood-snoc StandFor print sizes start commands said so.lines first.1 first.0 line first.2 flash disk stood (no_acks line (start.count + stood.k) (stop_acks why));
        faults = counts_both so.lines (line ∷ []) before middle after so.paid.1 (stop_faults why middle after falls);
        hits = omega (arith, so.paid.0.hits, falls.flash.reads, hits_both so.lines (line ∷ []), (stop_counted why).hits);
      })
      (λ short. record {
        now = so.lines;
        rest = take n line;
        whole = so.whole;
        no_end = front_no_end n line (stop_no_end why);
        tell = tell-part print sizes so.lines start commands (take n line) so.answered
            (inr (line, drop n line, may_stop (after_all sizes start (answered_by so.lines commands)) (drop (length so.lines) commands) line some (why, refl), sym (take-append-drop n line)));
        out_is = here ∙ ap (λ (l : List ℕ). said ++ (flat_map ended so.lines ++ l)) (cut_part line short);
        later = λ flash disk stood. stood;
        faults = counts_later so.lines before middle after so.paid.1 falls;
        hits = omega (arith, so.paid.0.hits, falls.flash.reads);
      })
      (cases_lt (length line) n)
    where
      cut_some : (xs : List ℕ) → length xs < n → take n (ended xs) ≡ ended xs
      cut_some xs k = take_all n (ended xs) (omega (arith, k, length-append xs (10 ∷ [])))

      cut_part : (xs : List ℕ) → n ≤ length xs → take n (ended xs) ≡ take n xs
      cut_part xs k = take-append-le n xs (10 ∷ []) k

-- what a crash leaves, on what the world had in which the run began
module _ (print : List ℕ → Fp) (first : World) (basis : Basis) (has : IsBasisOf basis first) (sizes : Sizes) (start : State) (commands : List Command) (said : List ℕ) where
  -- the count that the flash spells is that of the state
  pub headline_from : (o : Outcome) → StandForPrefix (StandsSince print first) print sizes start commands said o → Headline basis print sizes start commands said o
  headline_from o h =
      let stands : Stands basis print o.flash o.disk (state_after sizes start commands h.output h.k) =
      subst (λ n. Stands n print o.flash o.disk (state_after sizes start commands h.output h.k)) (basis_one h.stands.0 basis first h.stands.1 has) h.stands.2 in
      record {
        output = h.output;
        out = h.out;
        k = h.k;
        few = h.few;
        stands = stands;
        counted = sym stands.means.lists.counted ∙ count_after sizes start (lines_of h.output).whole commands h.k h.few;
        again = begins_at basis print (state_after sizes start commands h.output h.k) o.flash o.disk stands;
        acknowledges = h.acknowledges;
        answers = h.answers;
      }

  headline_lines : (o : Outcome) (lines : List (List ℕ)) (rest : List ℕ) → o.out ≡ said ++ (flat_map ended lines ++ rest) → AllByRecursion HasNoEnd lines → HasNoEnd rest
      → Tell print sizes start commands lines rest → Stood (StandsSince print first) print sizes start commands lines o.flash o.disk → Headline basis print sizes start commands said o
  headline_lines o lines rest is whole no_end tell stood = headline_from o (prefix_of_lines (StandsSince print first) print sizes start commands said o lines rest is whole no_end tell stood)

  -- what was said so far, where a crash now leaves a prefix
  headline_sofar : (Paid : List (List ℕ) → Type 0) (new : World) (so : Sofar print sizes (StandsSince print first) start commands Paid said new) (o : Outcome) → o.out ≡ new.said → IsImage new.flash o.flash → IsImage new.disk o.disk → Headline basis print sizes start commands said o
  headline_sofar Paid new so o is flash disk =
      headline_lines o so.lines so.rest (is ∙ so.said) so.whole so.no_end (tell-part print sizes so.lines start commands so.rest so.answered so.part) (so.now o.flash o.disk flash disk)

  headline_stopped : (why : Stop) (n : ℕ) (new : World) (before after : Counts) (served : ServedUpTo print sizes (StandsSince print first) start commands (LinesPaid (length start.addresses) before after) (halts.Stopped why) said new) (o : Outcome)
      → o.out ≡ new.said ++ take n (ended (stop_text why)) → IsImage new.flash o.flash → IsImage new.disk o.disk → Headline basis print sizes start commands said o
  headline_stopped why n new before after served o is flash disk =
      let falls : NeverFalls after after = falls_self after in
      let s = stopping print sizes start commands said (length start.addresses) (StandsSince print first) why n new o.out before after after served.sofar served.halts.1 served.halts.0 falls is in
      headline_lines o s.now s.rest s.out_is s.whole s.no_end s.tell (s.later o.flash o.disk (served.sofar.now o.flash o.disk flash disk))

  -- a crash within the last line
  pub headline_last : (ending : Ending) (new : World) (before after : Counts) → LoopEnds print first sizes start commands ending said new before after → (o : Outcome) → WithinLast (ending_line ending) new o → Headline basis print sizes start commands said o
  headline_last (Served faulted) new before after ends o within = absurd within
  headline_last (Refused why) new before after ends o within = absurd ends
  headline_last (Stopped why) new before after ends o within = headline_stopped why within.0 new before after ends o within.1.out within.1.flash within.1.disk
  headline_last Unheard new before after ends o within = absurd within

  -- a crash behind the last line
  pub headline_behind : (ending : Ending) (middle new : World) (before between after : Counts) → LoopEnds print first sizes start commands ending said middle before between → SaysLast (ending_line ending) between after middle new
      → new.flash ≡ middle.flash → new.disk ≡ middle.disk → (o : Outcome) → MayLeave new o → Headline basis print sizes start commands said o
  headline_behind (Served faulted) middle new before between after ends says flash disk o left =
      headline_sofar _ middle ends.sofar o (left.out ∙ says) (subst (λ (d : Device). IsImage d o.flash) flash left.flash) (subst (λ (d : Device). IsImage d o.disk) disk left.disk)
  headline_behind (Refused why) middle new before between after ends says flash disk o left = absurd ends
  headline_behind (Stopped why) middle new before between after ends says flash disk o left =
      let some = said_some (stop_text why) between after middle new says in
      headline_stopped why some.0 middle before between ends o (left.out ∙ some.1) (subst (λ (d : Device). IsImage d o.flash) flash left.flash) (subst (λ (d : Device). IsImage d o.disk) disk left.disk)
  headline_behind Unheard middle new before between after ends says flash disk o left =
      headline_sofar _ middle ends.sofar o (left.out ∙ says) (subst (λ (d : Device). IsImage d o.flash) flash left.flash) (subst (λ (d : Device). IsImage d o.disk) disk left.disk)

-- what was said in all
module _ (print : List ℕ → Fp) (sizes : Sizes) (start : State) (script : List ℕ) (opening : ℕ) where
  serves_lines : (ending : Ending) (status : ℕ) (old new : World) (before after : Counts) (lines : List (List ℕ)) (rest : List ℕ) → new.said ≡ old.said ++ (flat_map ended lines ++ rest) → AllByRecursion HasNoEnd lines → HasNoEnd rest
      → Tell print sizes start (commands_of (dialect_of sizes) script) lines rest → CountsFaults lines before after → plus before.flash.reads (hits_in lines) ≤ after.flash.reads → (IsStill before.failed_emits after.failed_emits → rest ≡ []) → status ≡ status_of ending
      → Ends print sizes start script opening ending (flat_map ended lines ++ rest) new before after → Serves print sizes start script opening status old new before after
  serves_lines ending status old new before after lines rest is whole no_end tell faults hits still status_is ends =
      let e : record { whole = lines; rest = rest } ≡ lines_of (flat_map ended lines ++ rest) = sym (lines_of-lines lines rest whole no_end) in
      record {
        output = flat_map ended lines ++ rest;
        said = is;
        answers = subst (λ (l : Lines). Tell print sizes start (commands_of (dialect_of sizes) script) l.whole l.rest) e tell;
        whole = λ calm. ap (λ (l : Lines). l.rest) (sym e) ∙ still calm;
        faults = subst (λ (l : Lines). CountsFaults l.whole before after) e faults;
        hits = subst (λ (l : Lines). plus before.flash.reads (hits_in l.whole) ≤ after.flash.reads) e hits;
        ending = ending;
        status_is = status_is;
        ends = ends;
      }

  pub serves_stopped : (listed : ℕ) (StandFor : (flash disk : List ℕ) → State → Type 0) (why : Stop) (status : ℕ) (old middle new : World) (before between after : Counts) → NeverFalls before between → NeverFalls between after
      → ServedUpTo print sizes StandFor start (commands_of (dialect_of sizes) script) (LinesPaid listed before between) (halts.Stopped why) old.said middle → SaysAlone (stop_text why) between after middle new
      → status ≡ status_of (Stopped why) → (why ≡ stop.Length → IsBounded sizes script → ⊥) → Serves print sizes start script opening status old new before after
  serves_stopped listed StandFor why status old middle new before between after falls more ends (inl says) status_is long =
      let so = ends.sofar in
      let line : List ℕ = stop_text why in
      let was : middle.said ≡ old.said ++ flat_map ended so.lines = so.said ∙ ap (λ (l : List ℕ). old.said ++ (flat_map ended so.lines ++ l)) ends.halts.1 ∙ ap (λ (l : List ℕ). old.said ++ l) (append-nil (flat_map ended so.lines)) in
      let is : new.said ≡ old.said ++ (flat_map ended (so.lines ++ line ∷ []) ++ []) =
      says ∙ ap (λ (l : List ℕ). l ++ ended line) was ∙ append_assoc old.said (flat_map ended so.lines) (ended line)
      ∙ ap (λ (l : List ℕ). old.said ++ l) (sym (flat_snoc so.lines line) ∙ sym (append-nil (flat_map ended (so.lines ++ line ∷ [])))) in
      serves_lines (Stopped why) status old new before after (so.lines ++ line ∷ []) [] is (whole_snoc so.lines line so.whole (stop_no_end why)) tt
      (tell-stop print sizes so.lines start (commands_of (dialect_of sizes) script) line so.answered ends.halts.0 (why, refl))
      (counts_both so.lines (line ∷ []) before between after so.paid.1 (stop_faults why between after more))
      (omega (arith, so.paid.0.hits, more.flash.reads, hits_both so.lines (line ∷ []), (stop_counted why).hits)) (λ calm. refl) status_is
      ((so.lines, so.whole, inl (append-nil (flat_map ended (so.lines ++ line ∷ [])))), long)
  serves_stopped listed StandFor why status old middle new before between after falls more ends (inr says) status_is long =
      let so = ends.sofar in
      let line : List ℕ = stop_text why in
      let n : ℕ = says.1 in
      let was : middle.said ≡ old.said ++ flat_map ended so.lines = so.said ∙ ap (λ (l : List ℕ). old.said ++ (flat_map ended so.lines ++ l)) ends.halts.1 ∙ ap (λ (l : List ℕ). old.said ++ l) (append-nil (flat_map ended so.lines)) in
      let s = stopping print sizes start (commands_of (dialect_of sizes) script) old.said listed StandFor why n middle new.said before between after so ends.halts.1 ends.halts.0 more says.2 in
      let is : old.said ++ (flat_map ended s.now ++ s.rest) ≡ old.said ++ (flat_map ended so.lines ++ take n (ended line)) =
      sym s.out_is ∙ says.2 ∙ ap (λ (l : List ℕ). l ++ take n (ended line)) was ∙ append_assoc old.said (flat_map ended so.lines) (take n (ended line)) in
      let rose : Rose before.failed_emits after.failed_emits = omega (arith, says.0, falls.emits) in
      serves_lines (Stopped why) status old new before after s.now s.rest s.out_is s.whole s.no_end s.tell s.faults s.hits
      (λ calm. absurd (still_emits before.failed_emits between.failed_emits after.failed_emits falls.emits calm says.0)) status_is
      ((so.lines, so.whole, inr (rose, n, cancel old.said (flat_map ended s.now ++ s.rest) (flat_map ended so.lines ++ take n (ended line)) is)), long)

  pub serves_last : (first : World) (ending : Ending) (status : ℕ) (old middle new : World) (before between after : Counts) (Long : Type 0) (takes_before takes_after : ℕ) → NeverFalls before between → NeverFalls between after
      → (new.disk ≡ middle.disk) × IsIdle between after → LoopEnds print first sizes start (commands_of (dialect_of sizes) script) ending old.said middle before between → SaysLast (ending_line ending) between after middle new → status ≡ status_of ending
      → (Long → IsBounded sizes script → ⊥) → ((faulted : Bool) → ending ≡ Served faulted → IsBounded sizes script)
      → Caused ⊥ Long ending before between takes_before takes_after → Serves print sizes start script opening status old new before after
  serves_last first (Served faulted) status old middle new before between after Long takes_before takes_after falls more idle ends says status_is long bounded caused =
      let so = ends.sofar in
      let is : new.said ≡ old.said ++ (flat_map ended so.lines ++ []) = says ∙ so.said ∙ ap (λ (l : List ℕ). old.said ++ (flat_map ended so.lines ++ l)) ends.nothing_more in
      let e : record { whole = so.lines; rest = [] } ≡ lines_of (flat_map ended so.lines ++ []) = sym (lines_of-lines so.lines [] so.whole tt) in
      serves_lines (Served faulted) status old new before after so.lines [] is so.whole tt (tell-part print sizes so.lines start (commands_of (dialect_of sizes) script) [] so.answered (inl refl))
      (counts_later so.lines before between after so.paid.1 more) (omega (arith, so.paid.0.hits, more.flash.reads)) (λ calm. refl) status_is
      (record {
        all = record {
          answered = subst (λ (l : Lines). Answered print sizes start (commands_of (dialect_of sizes) script) l.whole) e so.answered;
          all = subst (λ (l : Lines). length l.whole ≡ length (commands_of (dialect_of sizes) script)) e ends.all;
          whole = ap (λ (l : Lines). l.rest) (sym e);
        };
        fault = subst (λ (l : Lines). HasFault faulted l.whole) e ends.fault;
        exact = λ fine. cancel old.said (flat_map ended so.lines ++ []) (output_of print sizes start (commands_of (dialect_of sizes) script)) (sym (ap (λ (l : List ℕ). old.said ++ (flat_map ended so.lines ++ l)) ends.nothing_more) ∙ sym so.said ∙ ends.exact fine);
        bounded = bounded faulted refl;
        calls = λ fine.
            let spent = so.paid.0.whole refl (subst (λ (b : Bool). HasFault b so.lines) fine ends.fault) in
            subst (λ (l : Lines). CallsLittle opening (length start.addresses) l.whole before.disk after.disk) e
            (subst (λ (k : Calls). CallsLittle opening (length start.addresses) so.lines before.disk k) (sym idle.1.1)
            (record { loads = omega (arith, spent.loads); calm = λ calm. omega (arith, spent.calm calm) }));
        drained = subst (λ (l : Lines). HasArrayBehind sizes new l.whole (after_all sizes start (answered_by l.whole (commands_of (dialect_of sizes) script)))) e
            (λ none. ap (λ (d : Device). array_of sizes.block sizes.blocks d.shown) idle.0 ∙ ends.held none);
      })
  serves_last first (Refused why) status old middle new before between after Long takes_before takes_after falls more idle ends says status_is long bounded caused = absurd ends
  serves_last first (Stopped why) status old middle new before between after Long takes_before takes_after falls more idle ends says status_is long bounded caused =
      serves_stopped (length start.addresses) (StandsSince print first) why status old middle new before between after falls more ends says status_is (λ e. long (long_of Long why before between takes_before takes_after caused e))
  serves_last first Unheard status old middle new before between after Long takes_before takes_after falls more idle ends says status_is long bounded caused =
      let so = ends.sofar in
      serves_lines Unheard status old new before after so.lines so.rest (says ∙ so.said) so.whole so.no_end (tell-part print sizes so.lines start (commands_of (dialect_of sizes) script) so.rest so.answered so.part)
      (counts_later so.lines before between after so.paid.1 more) (omega (arith, so.paid.0.hits, more.flash.reads)) (λ calm. absurd (still_emits before.failed_emits before.failed_emits after.failed_emits (omega arith) calm (omega (arith, caused, more.emits)))) status_is tt
