-- Both last lines, of which a part may be said.
use Rattle.std.proofs.Common.{◌≡◌, ℕ, List, ◌++◌, take, drop, refl, sym, ◌∙◌, ap, subst, append_assoc}
use Rattle.std.proofs.lemmas.List.{take-append-drop}
use Rattle.dd_rig.specs.World.{World, Outcome, IsOwn, WithinEmit, SaysSome, say}
use Rattle.dd_script.specs.Text.{ended, sum_text, bye_text}
use Rattle.dd_script.specs.declared.reply.Sums.{Sums}
use Rattle.dd_gen.specs.Large.{both_lines, IsFront, SaysFront}

module _ (sums : Sums) (count : ℕ) where
  -- a part of the first line
  front_first : (said out : List ℕ) (n : ℕ) → out ≡ said ++ take n (ended (sum_text sums)) → SaysFront (both_lines sums count) said out
  front_first said out n is =
      let line : List ℕ = ended (sum_text sums) in
      let front : IsFront (take n line) (both_lines sums count) =
      (drop n line ++ ended (bye_text count), ap (λ (l : List ℕ). l ++ ended (bye_text count)) (sym (take-append-drop n line)) ∙ append_assoc (take n line) (drop n line) (ended (bye_text count))) in
      (take n line, is, front)

  -- and a part of the second behind it
  front_second : (said middle out : List ℕ) (n : ℕ) → middle ≡ said ++ ended (sum_text sums) → out ≡ middle ++ take n (ended (bye_text count)) → SaysFront (both_lines sums count) said out
  front_second said middle out n was is =
      let line : List ℕ = ended (sum_text sums) in
      let last : List ℕ = ended (bye_text count) in
      let front : IsFront (line ++ take n last) (both_lines sums count) =
      (drop n last, ap (λ (l : List ℕ). line ++ l) (sym (take-append-drop n last)) ∙ sym (append_assoc line (take n last) (drop n last))) in
      (line ++ take n last, is ∙ ap (λ (l : List ℕ). l ++ take n last) was ∙ append_assoc said line (take n last), front)

  pub first_within : (old : World) (o : Outcome) → WithinEmit (ended (sum_text sums)) old o → IsOwn old o.flash o.disk × SaysFront (both_lines sums count) old.said o.out
  first_within old o w = ((w.1.flash, w.1.disk), front_first old.said o.out w.0 w.1.out)

  pub second_within : (old middle : World) (o : Outcome) → middle ≡ say (ended (sum_text sums)) old → WithinEmit (ended (bye_text count)) middle o → IsOwn old o.flash o.disk × SaysFront (both_lines sums count) old.said o.out
  second_within old middle o is w =
      let from : WithinEmit (ended (bye_text count)) (say (ended (sum_text sums)) old) o = subst (λ (x : World). WithinEmit (ended (bye_text count)) x o) is w in
      ((from.1.flash, from.1.disk), front_second old.said (old.said ++ ended (sum_text sums)) o.out from.0 refl from.1.out)

  pub first_part : (old new : World) → SaysSome (ended (sum_text sums)) old new → SaysFront (both_lines sums count) old.said new.said
  first_part old new some = front_first old.said new.said some.0 (ap (λ (x : World). x.said) some.1)

  pub second_part : (old middle new : World) → middle ≡ say (ended (sum_text sums)) old → SaysSome (ended (bye_text count)) middle new → SaysFront (both_lines sums count) old.said new.said
  second_part old middle new is some = front_second old.said middle.said new.said some.0 (ap (λ (x : World). x.said) is) (ap (λ (x : World). x.said) some.1)

  pub both_said : (old middle new : World) → middle ≡ say (ended (sum_text sums)) old → new ≡ say (ended (bye_text count)) middle → new.said ≡ old.said ++ both_lines sums count
  both_said old middle new is next = ap (λ (x : World). x.said) next ∙ ap (λ (x : World). x.said ++ ended (bye_text count)) is ∙ append_assoc old.said (ended (sum_text sums)) (ended (bye_text count))
