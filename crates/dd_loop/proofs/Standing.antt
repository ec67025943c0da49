-- A script that is served line by line: what was said so far, and what a crash leaves.
use Rattle.std.proofs.Common.{◌≡◌, ◌≢◌, ◌⊎◌, inl, inr, ⊎_elim, ℕ, zero, suc, ◌+◌, ◌<◌, ◌≤◌, Bool, true, false, List, [], ◌∷◌, ◌++◌, length, take, drop, refl, sym, ◌∙◌, ap, subst, arith, Some, None, append_assoc, append-nil, length-append, length-drop}
use Rattle.std.specs.Prelude.{Option, IfSome, ◌||◌}
use Rattle.std.specs.List.{AllByRecursion, flat_map}
use Rattle.std.proofs.lemmas.Bool.{cases_lt}
use Rattle.std.proofs.lemmas.List.{take_all, take-append-le, take-append-drop}
use Rattle.dd_block.specs.declared.print.Fp.{Fp}
use Rattle.dd_rig.specs.World.{World, Outcome}
use Rattle.dd_model.specs.State.{Sizes, State}
use Rattle.dd_script.specs.Command.{Command, quit, after, after_all}
use Rattle.dd_script.specs.Reading.{fronted, quits}
use Rattle.dd_script.specs.Output.{reply_line, output_of}
use Rattle.dd_script.specs.Script.{Lines, lines_of}
use Rattle.dd_script.specs.Text.{HasNoEnd, ended}
use Rattle.dd_script.specs.Answers.{answered_one, answered_by, acknowledged_by, acknowledged_in, AnswersOne, Answered, MayCome, IsPart, Tell}
use Rattle.dd_script.proofs.Lines.{lines_of-lines}
use Rattle.dd_script.proofs.LineWords.{after_reply}
use Rattle.dd_script.proofs.Taking.{after_all-append, answered_by-snoc, left-snoc, count_after, acknowledged-snoc, answered-snoc, tell-part}
use Rattle.dd_loop.specs.declared.halt.Halt.{Halt}
use Rattle.dd_loop.specs.declared.halt.Halt.TheVariants.{Stopped, Output}
use Rattle.dd_loop.specs.Answering.{HasFault, Replied, AnswersLine, WithinLine, CutsLine}
use Rattle.dd_loop.specs.Serving.{Sofar, ServedAll, ServedUpTo}
use Rattle.dd_loop.specs.Standing.{IsHeld, StandForEither, AllStand, AllStandForEither, Stood, StandForPrefix}
use Rattle.dd_loop.proofs.Faults.{fault_snoc, fault_same}

pub whole_snoc : (lines : List (List ℕ)) (line : List ℕ) → AllByRecursion HasNoEnd lines → HasNoEnd line → AllByRecursion HasNoEnd (lines ++ line ∷ [])
whole_snoc [] line h e = (e, tt)
whole_snoc (first ∷ lines) line h e = (h.0, whole_snoc lines line h.1 e)

pub flat_snoc : (lines : List (List ℕ)) (line : List ℕ) → flat_map ended (lines ++ line ∷ []) ≡ flat_map ended lines ++ ended line
flat_snoc [] line = append-nil (ended line)
flat_snoc (first ∷ lines) line = ap (λ (l : List ℕ). ended first ++ l) (flat_snoc lines line) ∙ sym (append_assoc (ended first) (flat_map ended lines) (ended line))

pub front_no_end : (n : ℕ) (xs : List ℕ) → HasNoEnd xs → HasNoEnd (take n xs)
front_no_end zero xs h = tt
front_no_end (suc n) [] h = tt
front_no_end (suc n) (x ∷ xs) h = (h.0, front_no_end n xs h.1)

-- what is left behind the command that a line told: nothing behind a quit
abbrev pub after_front : Option Command → List Command → List Command
after_front None left = left
after_front (Some quit) left = []
after_front (Some command) left = left

pub front_quit : (o : Option Command) (left : List Command) → quits o ≡ true → after_front o left ≡ []
front_quit None left e = absurd (cc)
front_quit (Some quit) left e = refl
front_quit (Some command) left e = absurd (cc)

pub front_other : (o : Option Command) (left : List Command) → quits o ≡ false → after_front o left ≡ left
front_other None left e = refl
front_other (Some quit) left e = absurd (cc)
front_other (Some command) left e = refl

fronted_some : (command : Command) (left : List Command) → fronted (Some command) left ≡ command ∷ after_front (Some command) left
fronted_some quit left = refl
fronted_some command left = refl

or_false : (a b : Bool) → (a || b) ≡ false → (a ≡ false) × (b ≡ false)
or_false true b e = absurd (cc)
or_false false b e = (refl, e)

-- no more lines than commands are answered
pub no_more_lines : (print : List ℕ → Fp) (sizes : Sizes) (s : State) (commands : List Command) (lines : List (List ℕ)) → Answered print sizes s commands lines → length lines ≤ length commands
no_more_lines print sizes s commands [] h = omega arith
no_more_lines print sizes s [] (line ∷ lines) h = absurd h
no_more_lines print sizes s (command ∷ commands) (line ∷ lines) h = omega (arith, no_more_lines print sizes (after_all sizes s (answered_one command line)) commands lines h.1)

pub one_of : (print : List ℕ → Fp) (sizes : Sizes) (s : State) (faulted : Bool) (command : Command) (line : List ℕ) → Replied print sizes faulted s command line → AnswersOne print sizes s command line
one_of print sizes s false command line r = inl r
one_of print sizes s true command line r = inr r

reply_of : (print : List ℕ → Fp) (sizes : Sizes) (s : State) (b : Bool) (command : Command) (line : List ℕ) → b ≡ false → Replied print sizes b s command line → line ≡ reply_line print sizes s command
reply_of print sizes s false command line e r = r
reply_of print sizes s true command line e r = absurd (cc)

module _ (StandFor : (flash disk : List ℕ) → State → Type 0) (print : List ℕ → Fp) (sizes : Sizes) (start : State) (commands : List Command) (said : List ℕ) where
  -- whole lines and a rest, over devices that stand for a prefix
  pub prefix_of_lines : (o : Outcome) (lines : List (List ℕ)) (rest : List ℕ) → o.out ≡ said ++ (flat_map ended lines ++ rest) → AllByRecursion HasNoEnd lines → HasNoEnd rest
      → Tell print sizes start commands lines rest → Stood StandFor print sizes start commands lines o.flash o.disk → StandForPrefix StandFor print sizes start commands said o
  prefix_of_lines o lines rest is whole no_end tell stood =
      let own : List ℕ = flat_map ended lines ++ rest in
      let e : record { whole = lines; rest = rest } ≡ lines_of own = sym (lines_of-lines lines rest whole no_end) in
      record {
        output = own;
        out = is;
        k = stood.k;
        few = subst (λ (l : Lines). stood.k ≤ length (answered_by l.whole commands)) e stood.few;
        stands = subst (λ (l : Lines). StandFor o.flash o.disk (after_all sizes start (take stood.k (answered_by l.whole commands)))) e stood.stands;
        acknowledges = subst (λ (l : Lines). acknowledged_in start.count l.whole ≤ start.count + stood.k) e stood.acknowledges;
        answers = subst (λ (l : Lines). Tell print sizes start commands l.whole l.rest) e tell;
      }

  -- What a part of a line is behind whole lines: a rest, or one more of them. A crash that leaves a prefix which has what the line
  -- acknowledges leaves one there too, and what pays the line pays the lines.
  pub record Split (Paid : List (List ℕ) → Type 0) (lines : List (List ℕ)) (line out : List ℕ) : Type 0 where
    pub now : List (List ℕ)
    pub rest : List ℕ
    pub answered : Answered print sizes start commands now
    pub whole : AllByRecursion HasNoEnd now
    pub part : IsPart print sizes (after_all sizes start (answered_by now commands)) (drop (length now) commands) rest
    pub no_end : HasNoEnd rest
    pub out_is : out ≡ said ++ (flat_map ended now ++ rest)
    pub later : (flash disk : List ℕ) (stood : Stood StandFor print sizes start commands lines flash disk) → IfSome (acknowledged_by line) (λ a. a ≤ start.count + stood.k) → Stood StandFor print sizes start commands now flash disk
    pub paid : Paid now

  -- a prefix of the references of these lines is one of one line more
  pub stood-snoc : (lines : List (List ℕ)) (left : List Command) (command : Command) (line : List ℕ) → drop (length lines) commands ≡ command ∷ left
      → (flash disk : List ℕ) (stood : Stood StandFor print sizes start commands lines flash disk) → IfSome (acknowledged_by line) (λ a. a ≤ start.count + stood.k) → Stood StandFor print sizes start commands (lines ++ line ∷ []) flash disk
  stood-snoc lines left command line h flash disk stood sure =
      let e : answered_by (lines ++ line ∷ []) commands ≡ answered_by lines commands ++ answered_one command line = answered_by-snoc lines commands left command line h in
      let front : take stood.k (answered_by (lines ++ line ∷ []) commands) ≡ take stood.k (answered_by lines commands) =
      ap (take stood.k) e ∙ take-append-le stood.k (answered_by lines commands) (answered_one command line) stood.few in
      record {
        k = stood.k;
        few = omega (arith, stood.few, ap length e, length-append (answered_by lines commands) (answered_one command line));
        stands = subst (λ (xs : List Command). StandFor flash disk (after_all sizes start xs)) (sym front) stood.stands;
        acknowledges = acknowledged-snoc start.count (start.count + stood.k) lines line stood.acknowledges sure;
      }

  may_come : (s : State) (cs left : List Command) (command : Command) (line : List ℕ) → cs ≡ command ∷ left → AnswersOne print sizes s command line → MayCome print sizes s cs line
  may_come s cs left command line e one = subst (λ (l : List Command). MayCome print sizes s l line) (sym e) (inl one)

  pub split_line : (Paid : List (List ℕ) → Type 0) (lines : List (List ℕ)) (left : List Command) (command : Command) (line : List ℕ) (n : ℕ) (before out : List ℕ) → drop (length lines) commands ≡ command ∷ left
      → Answered print sizes start commands lines → AllByRecursion HasNoEnd lines → before ≡ said ++ flat_map ended lines
      → HasNoEnd line → AnswersOne print sizes (after_all sizes start (answered_by lines commands)) command line → out ≡ before ++ take n (ended line)
      → Paid lines → Paid (lines ++ line ∷ []) → Split Paid lines line out
  split_line Paid lines left command line n before out h so whole was no_end one is short_paid long_paid =
      ⊎_elim
      (λ long. record {
        now = lines ++ line ∷ [];
        rest = [];
        answered = answered-snoc print sizes lines start commands left command line h so one;
        whole = whole_snoc lines line whole no_end;
        part = inl refl;
        no_end = tt;
        out_is = is ∙ ap (λ (l : List ℕ). l ++ take n (ended line)) was ∙ append_assoc said (flat_map ended lines) (take n (ended line))
            ∙ ap (λ (l : List ℕ). said ++ (flat_map ended lines ++ l)) (cut_some long) ∙ ap (λ (l : List ℕ). said ++ l) (sym (flat_snoc lines line) ∙ sym (append-nil (flat_map ended (lines ++ line ∷ []))));
        later = stood-snoc lines left command line h;
        paid = long_paid;
      })
      (λ short. record {
        now = lines;
        rest = take n line;
        answered = so;
        whole = whole;
        part = inr (line, drop n line, may_come (after_all sizes start (answered_by lines commands)) (drop (length lines) commands) left command line h one, sym (take-append-drop n line));
        no_end = front_no_end n line no_end;
        out_is = is ∙ ap (λ (l : List ℕ). l ++ take n (ended line)) was ∙ append_assoc said (flat_map ended lines) (take n (ended line)) ∙ ap (λ (l : List ℕ). said ++ (flat_map ended lines ++ l)) (cut_part short);
        later = λ flash disk stood sure. stood;
        paid = short_paid;
      })
      (cases_lt (length line) n)
    where
      cut_some : length line < n → take n (ended line) ≡ ended line
      cut_some k = take_all n (ended line) (omega (arith, k, length-append line (10 ∷ [])))

      cut_part : n ≤ length line → take n (ended line) ≡ take n line
      cut_part k = take-append-le n line (10 ∷ []) k

  -- whole lines so far, and the cache that answered them
  pub record Going (Kept : (committed held : State) → Type 0) (Paid : List (List ℕ) → Type 0) (faulted : Bool) (now : List ℕ) (left : List Command) : Type 0 where
    pub lines : List (List ℕ)
    pub answered : Answered print sizes start commands lines
    pub whole : AllByRecursion HasNoEnd lines
    pub said_is : now ≡ said ++ flat_map ended lines
    pub left_is : drop (length lines) commands ≡ left
    -- so many references are committed
    pub k : ℕ
    pub few : k ≤ length (answered_by lines commands)
    pub acknowledges : acknowledged_in start.count lines ≤ start.count + k
    pub kept : Kept (after_all sizes start (take k (answered_by lines commands))) (after_all sizes start (answered_by lines commands))
    pub fault : HasFault faulted lines
    -- without a fault line it is the output of the commands that were answered
    pub exact : faulted ≡ false → flat_map ended lines ++ output_of print sizes (after_all sizes start (answered_by lines commands)) left ≡ output_of print sizes start commands
    pub paid : Paid lines

  pub going_first : (Kept : (committed held : State) → Type 0) (Paid : List (List ℕ) → Type 0) → Kept start start → Paid [] → Going Kept Paid false said commands
  going_first Kept Paid kept paid = record {
    lines = [];
    answered = tt;
    whole = tt;
    said_is = sym (append-nil said);
    left_is = refl;
    k = 0;
    few = omega arith;
    acknowledges = omega arith;
    kept = kept;
    fault = (refl, refl);
    exact = λ e. refl;
    paid = paid;
  }

  module _ (Kept : (committed held : State) → Type 0) (Paid : List (List ℕ) → Type 0) (faulted : Bool) (now : List ℕ) (left : List Command) (g : Going Kept Paid faulted now left) where
    abbrev held : State
    held = after_all sizes start (answered_by g.lines commands)

    abbrev committed : State
    committed = after_all sizes start (take g.k (answered_by g.lines commands))

    -- one of the two states that the cache has is a prefix
    record Prefix (t : State) : Type 0 where
      k : ℕ
      more : g.k ≤ k
      few : k ≤ length (answered_by g.lines commands)
      is : t ≡ after_all sizes start (take k (answered_by g.lines commands))

    prefix_of : (t : State) → (t ≡ committed) ⊎ (t ≡ held) → Prefix t
    prefix_of t (inl e) = record { k = g.k; more = omega arith; few = g.few; is = e }
    prefix_of t (inr e) = record {
      k = length (answered_by g.lines commands);
      more = g.few;
      few = omega arith;
      is = e ∙ ap (after_all sizes start) (sym (take_all (length (answered_by g.lines commands)) (answered_by g.lines commands) (omega arith)));
    }

    prefix_count : (t : State) (p : Prefix t) → t.count ≡ start.count + p.k
    prefix_count t p = ap (λ (s : State). s.count) p.is ∙ count_after sizes start g.lines commands p.k p.few

    stood_at : (flash disk : List ℕ) (t : State) (p : Prefix t) → StandFor flash disk t → Stood StandFor print sizes start commands g.lines flash disk
    stood_at flash disk t p stands = record {
      k = p.k;
      few = p.few;
      stands = subst (λ (s : State). StandFor flash disk s) p.is stands;
      acknowledges = omega (arith, g.acknowledges, p.more);
    }

    -- it has what a line acknowledges
    stood_sure : (flash disk : List ℕ) (t : State) (p : Prefix t) (line : List ℕ) → StandFor flash disk t → IfSome (acknowledged_by line) (λ a. a ≤ t.count)
        → (stood : Stood StandFor print sizes start commands g.lines flash disk) × IfSome (acknowledged_by line) (λ a. a ≤ start.count + stood.k)
    unfolding stood_at
    stood_sure flash disk t p line stands sure = (stood_at flash disk t p stands, subst (λ (n : ℕ). IfSome (acknowledged_by line) (λ a. a ≤ n)) (prefix_count t p) sure)

    pub stood_either : (flash disk : List ℕ) → StandForEither StandFor committed held flash disk → Stood StandFor print sizes start commands g.lines flash disk
    stood_either flash disk either = ⊎_elim (λ h. stood_at flash disk committed (prefix_of committed (inl refl)) h) (λ h. stood_at flash disk held (prefix_of held (inr refl)) h) either

    -- no line more
    at_lines : (o : Outcome) → o.out ≡ now → Stood StandFor print sizes start commands g.lines o.flash o.disk → StandForPrefix StandFor print sizes start commands said o
    at_lines o is stood =
        prefix_of_lines o g.lines [] (is ∙ g.said_is ∙ ap (λ (l : List ℕ). said ++ l) (sym (append-nil (flat_map ended g.lines)))) g.whole tt (tell-part print sizes g.lines start commands [] g.answered (inl refl)) stood

    split : (PaidNow : List (List ℕ) → Type 0) (next : List Command) (command : Command) (line : List ℕ) (n : ℕ) (out : List ℕ) → left ≡ fronted (Some command) next → HasNoEnd line → AnswersOne print sizes held command line
        → out ≡ now ++ take n (ended line) → PaidNow g.lines → PaidNow (g.lines ++ line ∷ []) → Split PaidNow g.lines line out
    split PaidNow next command line n out front no_end one is short long =
        split_line PaidNow g.lines (after_front (Some command) next) command line n now out (g.left_is ∙ front ∙ fronted_some command next) g.answered g.whole g.said_is no_end one is short long

    -- a crash within the answer to a line
    pub prefix_within : (o : Option Command) (next : List Command) → left ≡ fronted o next → (old : World) → old.said ≡ now → (outcome : Outcome)
        → WithinLine print sizes StandFor committed held o old outcome → StandForPrefix StandFor print sizes start commands said outcome
    prefix_within None next front old was outcome h = at_lines outcome (h.1 ∙ was) (stood_either outcome.flash outcome.disk h.0)
    prefix_within (Some command) next front old was outcome (inl h) = at_lines outcome (h.1 ∙ was) (stood_either outcome.flash outcome.disk h.0)
    prefix_within (Some command) next front old was outcome (inr h) =
        let split_here = split (λ lines. Unit {0}) next command h.line h.n outcome.out front h.no_end h.one (h.out_is ∙ ap (λ (l : List ℕ). l ++ take h.n (ended h.line)) was) tt tt in
        let stood = stood_sure outcome.flash outcome.disk h.state (prefix_of h.state h.either) h.line h.stands h.sure in
        prefix_of_lines outcome split_here.now split_here.rest split_here.out_is split_here.whole split_here.no_end
        (tell-part print sizes split_here.now start commands split_here.rest split_here.answered split_here.part) (split_here.later outcome.flash outcome.disk stood.0 stood.1)

    -- one line more
    pub going_line : (Later : (committed held : State) → Type 0) (PaidLine PaidNow : List (List ℕ) → Type 0) (o : Option Command) (failed : Bool) (next : List Command) (now_after : List ℕ) → left ≡ fronted o next
        → ((others : List (List ℕ)) → PaidLine others → PaidNow (g.lines ++ others))
        → AnswersLine print sizes Later PaidLine committed held o failed now now_after → Going Later PaidNow (faulted || failed) now_after (after_front o next)
    going_line Later PaidLine PaidNow None failed next now_after front pays h = record {
      lines = g.lines;
      answered = g.answered;
      whole = g.whole;
      said_is = h.3 ∙ g.said_is;
      left_is = g.left_is ∙ front;
      k = g.k;
      few = g.few;
      acknowledges = g.acknowledges;
      kept = h.0;
      fault = fault_same faulted failed g.lines h.2 g.fault;
      exact = λ e. ap (λ (l : List Command). flat_map ended g.lines ++ output_of print sizes held l) (sym front) ∙ g.exact (or_false faulted failed e).0;
      paid = subst (λ (ls : List (List ℕ)). PaidNow ls) (append-nil g.lines) (pays [] h.1);
    }
    going_line Later PaidLine PaidNow (Some command) failed next now_after front pays h =
        let line : List ℕ = h.0 in
        let left_here : drop (length g.lines) commands ≡ command ∷ after_front (Some command) next = g.left_is ∙ front ∙ fronted_some command next in
        let p : Prefix h.2.committed = prefix_of h.2.committed h.2.either in
        let refs : List Command = answered_by g.lines commands in
        let e : answered_by (g.lines ++ line ∷ []) commands ≡ refs ++ answered_one command line = answered_by-snoc g.lines commands (after_front (Some command) next) command line left_here in
        let first : take p.k (answered_by (g.lines ++ line ∷ []) commands) ≡ take p.k refs = ap (take p.k) e ∙ take-append-le p.k refs (answered_one command line) p.few in
        let held_is : after_all sizes held (answered_one command line) ≡ after_all sizes start (answered_by (g.lines ++ line ∷ []) commands) =
        sym (after_all-append sizes start refs (answered_one command line)) ∙ ap (after_all sizes start) (sym e) in
        let kept : Later (after_all sizes start (take p.k (answered_by (g.lines ++ line ∷ []) commands))) (after_all sizes held (answered_one command line)) =
        subst (λ (t : State). Later t (after_all sizes held (answered_one command line))) (p.is ∙ ap (after_all sizes start) (sym first)) h.2.kept in
        record {
          lines = g.lines ++ line ∷ [];
          answered = answered-snoc print sizes g.lines start commands (after_front (Some command) next) command line left_here g.answered (one_of print sizes held failed command line h.2.one);
          whole = whole_snoc g.lines line g.whole h.2.no_end;
          said_is = h.1 ∙ ap (λ (l : List ℕ). l ++ ended line) g.said_is ∙ append_assoc said (flat_map ended g.lines) (ended line) ∙ ap (λ (l : List ℕ). said ++ l) (sym (flat_snoc g.lines line));
          left_is = left-snoc g.lines commands (after_front (Some command) next) command line left_here;
          k = p.k;
          few = omega (arith, p.few, ap length e, length-append refs (answered_one command line));
          acknowledges = acknowledged-snoc start.count (start.count + p.k) g.lines line (omega (arith, g.acknowledges, p.more)) (subst (λ (n : ℕ). IfSome (acknowledged_by line) (λ a. a ≤ n)) (prefix_count h.2.committed p) h.2.sure);
          kept = subst (λ (t : State). Later (after_all sizes start (take p.k (answered_by (g.lines ++ line ∷ []) commands))) t) held_is kept;
          fault = fault_snoc faulted failed g.lines line g.fault h.2.fault;
          exact = λ no.
              let both = or_false faulted failed no in
              let is : line ≡ reply_line print sizes held command = reply_of print sizes held failed command line both.1 h.2.one in
              let state : after_all sizes start (answered_by (g.lines ++ line ∷ []) commands) ≡ after sizes held command = sym held_is ∙ after_reply print sizes held command line is in
              let rest : List Command = after_front (Some command) next in
              ap (λ (l : List ℕ). l ++ output_of print sizes (after_all sizes start (answered_by (g.lines ++ line ∷ []) commands)) rest) (flat_snoc g.lines line)
              ∙ append_assoc (flat_map ended g.lines) (ended line) (output_of print sizes (after_all sizes start (answered_by (g.lines ++ line ∷ []) commands)) rest)
              ∙ ap (λ (t : State). flat_map ended g.lines ++ (ended line ++ output_of print sizes t rest)) state
              ∙ ap (λ (l : List ℕ). flat_map ended g.lines ++ (ended l ++ output_of print sizes (after sizes held command) rest)) is
              ∙ ap (λ (l : List Command). flat_map ended g.lines ++ output_of print sizes held l) (sym (front ∙ fronted_some command next)) ∙ g.exact both.0;
          paid = pays (line ∷ []) h.2.paid;
        }

    -- whatever a crash leaves now, where no line is begun
    pub sofar_either : (PaidNow : List (List ℕ) → Type 0) (new : World) → new.said ≡ now → AllStandForEither StandFor committed held new → PaidNow g.lines → Sofar print sizes StandFor start commands PaidNow said new
    sofar_either PaidNow new was either paid = record {
      lines = g.lines;
      rest = [];
      answered = g.answered;
      whole = g.whole;
      part = inl refl;
      no_end = tt;
      said = was ∙ g.said_is ∙ ap (λ (l : List ℕ). said ++ l) (sym (append-nil (flat_map ended g.lines)));
      now = λ flash disk flash_image disk_image. stood_either flash disk (either flash disk flash_image disk_image);
      paid = paid;
    }

    -- the run halts before the next line
    pub halts_between : (PaidNow : List (List ℕ) → ℕ → Type 0) (halt : Halt) (new : World) → new.said ≡ now → AllStandForEither StandFor committed held new → left ≢ [] → PaidNow g.lines 1
        → ServedUpTo print sizes StandFor start commands PaidNow halt said new
    unfolding sofar_either
    halts_between PaidNow Output new was either some paid = record { sofar = sofar_either (λ lines. PaidNow lines 1) new was either paid; halts = tt }
    halts_between PaidNow (Stopped why) new was either some paid = record { sofar = sofar_either (λ lines. PaidNow lines 1) new was either paid; halts = ((λ none. some (sym g.left_is ∙ none)), refl) }

    -- the run halts in the answer to a line
    pub halts_within : (PaidLine PaidNow : List (List ℕ) → ℕ → Type 0) (halt : Halt) (o : Option Command) (next : List Command) (old new : World) → left ≡ fronted o next → left ≢ [] → old.said ≡ now
        → (PaidLine [] 1 → PaidNow g.lines 1) → ((line : List ℕ) → PaidLine (line ∷ []) 0 → PaidNow g.lines 1 × PaidNow (g.lines ++ line ∷ []) 1)
        → CutsLine print sizes StandFor PaidLine halt committed held o old new → ServedUpTo print sizes StandFor start commands PaidNow halt said new
    halts_within PaidLine PaidNow (Stopped why) o next old new front some was begun cuts cut = halts_between PaidNow (Stopped why) new (cut.1 ∙ was) cut.0 some (begun cut.2)
    halts_within PaidLine PaidNow Output None next old new front some was begun cuts cut = absurd cut
    halts_within PaidLine PaidNow Output (Some command) next old new front some was begun cuts cut =
        let paid = cuts cut.line cut.paid in
        let split_here = split (λ lines. PaidNow lines 1) next command cut.line cut.n new.said front cut.no_end cut.one (cut.out_is ∙ ap (λ (l : List ℕ). l ++ take cut.n (ended cut.line)) was) paid.0 paid.1 in
        record {
          sofar = record {
            lines = split_here.now;
            rest = split_here.rest;
            answered = split_here.answered;
            whole = split_here.whole;
            part = split_here.part;
            no_end = split_here.no_end;
            said = split_here.out_is;
            now = λ flash disk flash_image disk_image.
                let stood = stood_sure flash disk cut.state (prefix_of cut.state cut.either) cut.line (cut.stands flash disk flash_image disk_image) cut.sure in
                split_here.later flash disk stood.0 stood.1;
            paid = split_here.paid;
          };
          halts = tt;
        }

    -- each command was answered
    pub served_all : (PaidNow : List (List ℕ) → ℕ → Type 0) (new : World) → new.said ≡ now → AllStand StandFor new committed → left ≡ [] → PaidNow g.lines 0
        → ServedAll print sizes StandFor start commands PaidNow (λ lines s. IsHeld Kept s) faulted said new
    served_all PaidNow new was stands none paid =
        let nothing_left : drop (length g.lines) commands ≡ [] = g.left_is ∙ none in
        record {
          sofar = record {
            lines = g.lines;
            rest = [];
            answered = g.answered;
            whole = g.whole;
            part = inl refl;
            no_end = tt;
            said = was ∙ g.said_is ∙ ap (λ (l : List ℕ). said ++ l) (sym (append-nil (flat_map ended g.lines)));
            now = λ flash disk flash_image disk_image. stood_either flash disk (inl (stands flash disk flash_image disk_image));
            paid = paid;
          };
          held = (committed, g.kept);
          all = omega (arith, ap length nothing_left, length-drop (length g.lines) commands, no_more_lines print sizes start commands g.lines g.answered);
          nothing_more = refl;
          fault = g.fault;
          exact = λ no. was ∙ g.said_is ∙ ap (λ (l : List ℕ). said ++ l)
              (sym (append-nil (flat_map ended g.lines)) ∙ ap (λ (l : List Command). flat_map ended g.lines ++ output_of print sizes held l) (sym none) ∙ g.exact no);
        }
