-- One more line at the end of an output: which references it answers, and what it acknowledges.
use Rattle.std.proofs.Common.{◌≡◌, ◌≢◌, inl, inr, ℕ, zero, suc, ◌+◌, ◌≤◌, Bool, true, false, List, [], ◌∷◌, ◌++◌, length, take, drop, refl, sym, ◌∙◌, ap, subst, arith, cond, Some, None, append_assoc, append-nil, length-take}
use Rattle.std.specs.Prelude.{Option, IfSome}
use Rattle.std.specs.List.{AllByRecursion}
use Rattle.dd_block.specs.declared.print.Fp.{Fp}
use Rattle.dd_model.specs.State.{Sizes, State}
use Rattle.dd_script.specs.Command.{Command, read, write, is_reference, after, after_all}
use Rattle.dd_script.specs.Answers.{is_answer, answered_one, answered_by, acknowledged_by, or_more, acknowledged_in, IsStopped, AnswersOne, Answered, IsPart, Tell}

-- the state after commands and more of them
pub after_all-append : (sizes : Sizes) (s : State) (xs ys : List Command) → after_all sizes s (xs ++ ys) ≡ after_all sizes (after_all sizes s xs) ys
after_all-append sizes s [] ys = refl
after_all-append sizes s (x ∷ xs) ys = after_all-append sizes (after sizes s x) xs ys

-- the references that one more line answers
pub answered_by-snoc : (lines : List (List ℕ)) (commands left : List Command) (command : Command) (line : List ℕ) → drop (length lines) commands ≡ command ∷ left
    → answered_by (lines ++ line ∷ []) commands ≡ answered_by lines commands ++ answered_one command line
answered_by-snoc [] commands left command line h = ap (answered_by (line ∷ [])) h ∙ append-nil (answered_one command line)
answered_by-snoc (first ∷ lines) [] left command line h = absurd (cc)
answered_by-snoc (first ∷ lines) (c ∷ commands) left command line h =
    ap (λ (l : List Command). answered_one c first ++ l) (answered_by-snoc lines commands left command line h) ∙ sym (append_assoc (answered_one c first) (answered_by lines commands) (answered_one command line))

-- what is left after one more line
pub left-snoc : (lines : List (List ℕ)) (commands left : List Command) (command : Command) (line : List ℕ) → drop (length lines) commands ≡ command ∷ left → drop (length (lines ++ line ∷ [])) commands ≡ left
left-snoc [] commands left command line h = ap (drop 1) h
left-snoc (first ∷ lines) [] left command line h = absurd (cc)
left-snoc (first ∷ lines) (c ∷ commands) left command line h = left-snoc lines commands left command line h

abbrev pub IsReference : Command → Type 0
IsReference command = is_reference command ≡ true

one_reference : (command : Command) (b : Bool) → IsReference command → AllByRecursion IsReference (cond b (command ∷ []) [])
one_reference command true h = (h, tt)
one_reference command false h = tt

one_references : (command : Command) (line : List ℕ) → AllByRecursion IsReference (answered_one command line)
one_references (read address) line = one_reference (read address) (is_answer line) refl
one_references (write address block) line = one_reference (write address block) (is_answer line) refl
one_references command line = tt

all_both : (xs ys : List Command) → AllByRecursion IsReference xs → AllByRecursion IsReference ys → AllByRecursion IsReference (xs ++ ys)
all_both [] ys h k = k
all_both (x ∷ xs) ys h k = (h.0, all_both xs ys h.1 k)

all_references : (lines : List (List ℕ)) (commands : List Command) → AllByRecursion IsReference (answered_by lines commands)
all_references [] commands = tt
all_references (line ∷ lines) [] = tt
all_references (line ∷ lines) (command ∷ commands) = all_both (answered_one command line) (answered_by lines commands) (one_references command line) (all_references lines commands)

all_first : (k : ℕ) (xs : List Command) → AllByRecursion IsReference xs → AllByRecursion IsReference (take k xs)
all_first zero xs h = tt
all_first (suc k) [] h = tt
all_first (suc k) (x ∷ xs) h = (h.0, all_first k xs h.1)

count_one : (sizes : Sizes) (s : State) (command : Command) → IsReference command → (after sizes s command).count ≡ suc s.count
count_one sizes s (read address) h = refl
count_one sizes s (write address block) h = refl
count_one sizes s command h = absurd (cc)

count_all : (sizes : Sizes) (s : State) (xs : List Command) → AllByRecursion IsReference xs → (after_all sizes s xs).count ≡ s.count + length xs
count_all sizes s [] h = omega arith
count_all sizes s (x ∷ xs) h = omega (arith, count_all sizes (after sizes s x) xs h.1, count_one sizes s x h.0)

-- each answered reference raises the count by one
pub count_after : (sizes : Sizes) (s : State) (lines : List (List ℕ)) (commands : List Command) (k : ℕ) → k ≤ length (answered_by lines commands)
    → (after_all sizes s (take k (answered_by lines commands))).count ≡ s.count + k
count_after sizes s lines commands k few =
    omega (arith, few, count_all sizes s (take k (answered_by lines commands)) (all_first k _ (all_references lines commands)), length-take k (answered_by lines commands))

or_more_le : (o : Option ℕ) (n m : ℕ) → n ≤ m → IfSome o (λ a. a ≤ m) → or_more o n ≤ m
or_more_le None n m h k = h
or_more_le (Some a) n m h k = omega (arith, h, k)

or_more_parts : (o : Option ℕ) (n m : ℕ) → or_more o n ≤ m → (n ≤ m) × IfSome o (λ a. a ≤ m)
or_more_parts None n m h = (h, tt)
or_more_parts (Some a) n m h = (omega (arith, h), omega (arith, h))

-- what one more line acknowledges
pub acknowledged-snoc : (start m : ℕ) (lines : List (List ℕ)) (line : List ℕ) → acknowledged_in start lines ≤ m → IfSome (acknowledged_by line) (λ a. a ≤ m) → acknowledged_in start (lines ++ line ∷ []) ≤ m
acknowledged-snoc start m [] line h k = or_more_le (acknowledged_by line) start m h k
acknowledged-snoc start m (first ∷ lines) line h k =
    let parts = or_more_parts (acknowledged_by first) (acknowledged_in start lines) m h in
    or_more_le (acknowledged_by first) (acknowledged_in start (lines ++ line ∷ [])) m (acknowledged-snoc start m lines line parts.0 k) parts.1

module _ (print : List ℕ → Fp) (sizes : Sizes) where
  -- one more line answers the next command
  pub answered-snoc : (lines : List (List ℕ)) (s : State) (commands left : List Command) (command : Command) (line : List ℕ) → drop (length lines) commands ≡ command ∷ left
      → Answered print sizes s commands lines → AnswersOne print sizes (after_all sizes s (answered_by lines commands)) command line → Answered print sizes s commands (lines ++ line ∷ [])
  answered-snoc [] s commands left command line h so one = subst (λ (cs : List Command). Answered print sizes s cs (line ∷ [])) (sym h) (one, tt)
  answered-snoc (first ∷ lines) s [] left command line h so one = absurd so
  answered-snoc (first ∷ lines) s (c ∷ commands) left command line h so one = (
    so.0,
    answered-snoc lines (after_all sizes s (answered_one c first)) commands left command line h so.1
        (subst (λ (t : State). AnswersOne print sizes t command line) (after_all-append sizes s (answered_one c first) (answered_by lines commands)) one),
  )

  -- whole lines, and a part of one more
  pub tell-part : (lines : List (List ℕ)) (s : State) (commands : List Command) (rest : List ℕ) → Answered print sizes s commands lines
      → IsPart print sizes (after_all sizes s (answered_by lines commands)) (drop (length lines) commands) rest → Tell print sizes s commands lines rest
  tell-part [] s commands rest so part = part
  tell-part (first ∷ lines) s [] rest so part = absurd so
  tell-part (first ∷ lines) s (c ∷ commands) rest so part =
      inl (
        so.0,
        tell-part lines (after_all sizes s (answered_one c first)) commands rest so.1
            (subst (λ (t : State). IsPart print sizes t (drop (length lines) commands) rest) (after_all-append sizes s (answered_one c first) (answered_by lines commands)) part),
      )

  -- whole lines, and one that stopped the run
  pub tell-stop : (lines : List (List ℕ)) (s : State) (commands : List Command) (line : List ℕ) → Answered print sizes s commands lines → drop (length lines) commands ≢ [] → IsStopped line
      → Tell print sizes s commands (lines ++ line ∷ []) []
  tell-stop [] s [] line so some stop = absurd (some refl)
  tell-stop [] s (c ∷ commands) line so some stop = inr (stop, refl, refl)
  tell-stop (first ∷ lines) s [] line so some stop = absurd so
  tell-stop (first ∷ lines) s (c ∷ commands) line so some stop = inl (so.0, tell-stop lines (after_all sizes s (answered_one c first)) commands line so.1 some stop)
