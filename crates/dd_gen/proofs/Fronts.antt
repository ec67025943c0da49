-- What a part of some lines acknowledges.
use Rattle.std.proofs.Common.{◌≡◌, ⊎_elim, ℕ, zero, suc, ◌+◌, ◌-◌, ◌≤◌, List, [], ◌∷◌, ◌++◌, length, take, refl, sym, ◌∙◌, ap, subst, arith, Some, None, append_assoc, length-append}
use Rattle.std.specs.Prelude.{Option, IfSome}
use Rattle.std.specs.List.{AllByRecursion, flat_map}
use Rattle.std.proofs.lemmas.Bool.{cases_lt}
use Rattle.std.proofs.lemmas.List.{take_all, take-append-le}
use Rattle.dd_script.specs.Answers.{acknowledged, acknowledged_by, acknowledged_in, or_more}
use Rattle.dd_script.specs.Script.{Lines, lines_of}
use Rattle.dd_script.specs.Text.{HasNoEnd, ended}
use Rattle.dd_script.proofs.Lines.{lines_of-lines}
use Rattle.dd_loop.proofs.Standing.{front_no_end}
use Rattle.dd_gen.specs.Large.{IsFront}

-- the first bytes of two texts, where they are more than the first
take_past : (xs ys : List ℕ) (n : ℕ) → take (length xs + n) (xs ++ ys) ≡ xs ++ take n ys
take_past [] ys n =
    let none : length {A = ℕ} [] + n ≡ n = omega arith in
    ap (λ k. take k ys) none
take_past (x ∷ xs) ys n =
    let more : length (x ∷ xs) + n ≡ suc (length xs + n) = omega arith in
    ap (λ k. take k (x ∷ (xs ++ ys))) more ∙ ap (λ l. x ∷ l) (take_past xs ys n)

-- a front of a text is its first bytes
front_take : (front more : List ℕ) → front ≡ take (length front) (front ++ more)
front_take front more = sym (take-append-le (length front) front more (omega arith) ∙ take_all (length front) front (omega arith))

-- the first bytes of lines are whole lines, and a part of one more
record Cut (lines : List (List ℕ)) (text : List ℕ) : Type 0 where
  m : ℕ
  rest : List ℕ
  is : text ≡ flat_map ended (take m lines) ++ rest
  no_end : HasNoEnd rest

cut_at : (lines : List (List ℕ)) (n : ℕ) → AllByRecursion HasNoEnd lines → Cut lines (take n (flat_map ended lines))
cut_at [] zero h = record { m = 0; rest = []; is = refl; no_end = tt }
cut_at [] (suc n) h = record { m = 0; rest = []; is = refl; no_end = tt }
cut_at (line ∷ lines) n h =
    ⊎_elim
    (λ long.
    let size : ℕ = length (ended line) in
    let k : ℕ = n - size in
    let n_is : n ≡ size + k = omega (arith, long, length-append line (10 ∷ [])) in
    let more = cut_at lines k h.1 in
    record {
      m = suc more.m;
      rest = more.rest;
      is = ap (λ j. take j (ended line ++ flat_map ended lines)) n_is ∙ take_past (ended line) (flat_map ended lines) k
          ∙ ap (λ l. ended line ++ l) more.is ∙ sym (append_assoc (ended line) (flat_map ended (take more.m lines)) more.rest);
      no_end = more.no_end;
    })
    (λ short. record {
      m = 0;
      rest = take n line;
      is = take-append-le n (ended line) (flat_map ended lines) (omega (arith, short, length-append line (10 ∷ []))) ∙ take-append-le n line (10 ∷ []) short;
      no_end = front_no_end n line h.0;
    })
    (cases_lt (length line) n)

more_few : (o : Option ℕ) (n most : ℕ) → IfSome o (λ a. a ≤ most) → n ≤ most → or_more o n ≤ most
more_few None n most h le = le
more_few (Some a) n most h le = omega (arith, h, le)

acks_few : (start most : ℕ) (lines : List (List ℕ)) (m : ℕ) → start ≤ most → AllByRecursion (λ line. IfSome (acknowledged_by line) (λ a. a ≤ most)) lines → acknowledged_in start (take m lines) ≤ most
acks_few start most [] zero le h = le
acks_few start most [] (suc m) le h = le
acks_few start most (line ∷ lines) zero le h = le
acks_few start most (line ∷ lines) (suc m) le h = more_few (acknowledged_by line) (acknowledged_in start (take m lines)) most h.0 (acks_few start most lines m le h.1)

-- it acknowledges no more than the lines do
pub acks_front : (start most : ℕ) (lines : List (List ℕ)) (output : List ℕ) → start ≤ most → AllByRecursion HasNoEnd lines → AllByRecursion (λ line. IfSome (acknowledged_by line) (λ a. a ≤ most)) lines
    → IsFront output (flat_map ended lines) → acknowledged start output ≤ most
acks_front start most lines output le whole acks front =
    let n : ℕ = length output in
    let cut = cut_at lines n whole in
    let is : output ≡ flat_map ended (take cut.m lines) ++ cut.rest = front_take output front.0 ∙ ap (take n) (sym front.1) ∙ cut.is in
    let lines_is : lines_of output ≡ record { whole = take cut.m lines; rest = cut.rest } = ap lines_of is ∙ lines_of-lines (take cut.m lines) cut.rest (first_whole lines cut.m whole) cut.no_end in
    subst (λ (l : Lines). acknowledged_in start l.whole ≤ most) (sym lines_is) (acks_few start most lines cut.m le acks)
  where
    first_whole : (lines : List (List ℕ)) (m : ℕ) → AllByRecursion HasNoEnd lines → AllByRecursion HasNoEnd (take m lines)
    first_whole [] zero h = tt
    first_whole [] (suc m) h = tt
    first_whole (line ∷ lines) zero h = tt
    first_whole (line ∷ lines) (suc m) h = (h.0, first_whole lines m h.1)
