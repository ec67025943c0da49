-- Generated commands, one more behind the others.
use Rattle.std.proofs.Common.{◌≡◌, ℕ, zero, suc, ◌+◌, ◌≤◌, ◌<◌, List, [], ◌∷◌, refl, sym, ◌∙◌, ap, subst, arith}
use Rattle.std.specs.Int.{from_bool}
use Rattle.std.specs.Prelude.{Bool, true, false, Option, Some, None, IfSome, is_some, option_map}
use Rattle.dd_block.specs.declared.print.Fp.{Fp}
use Rattle.dd_record.specs.declared.row.BRow.{BRow}
use Rattle.dd_model.specs.State.{Sizes, State}
use Rattle.dd_model.specs.Reference.{read_answer, write_answer, Answer, Tells}
use Rattle.dd_model.specs.declared.done.Done.{Done}
use Rattle.dd_model.specs.declared.kind.Kind.{Kind}
use Rattle.dd_model.specs.declared.kind.Kind.TheVariants.{Hit, Join, Miss, Dup, New}
use Rattle.dd_script.specs.Command.{Command, read, write, flush, clean, tick, lists, stat, quit, bad, after, after_all}
use Rattle.dd_script.specs.declared.reply.Sums.{Sums}
use Rattle.dd_gen.specs.Generator.{drawn, drawn_on, generated}
use Rattle.dd_gen.specs.Sums.{sums_of, counted, counted_by, with_cut, with_kind, AreBelow}
use Rattle.dd_gen.specs.Running.{AnswersCommand}

module _ (sizes : Sizes) where
  pub on_next : (n x : ℕ) → drawn_on sizes x (suc n) ≡ (drawn sizes (drawn_on sizes x n)).state
  on_next zero x = refl
  on_next (suc n) x = on_next n (drawn sizes x).state

  pub state_next : (n x : ℕ) (s : State) → after_all sizes s (generated sizes x (suc n)) ≡ after sizes (after_all sizes s (generated sizes x n)) (drawn sizes (drawn_on sizes x n)).command
  state_next zero x s = refl
  state_next (suc n) x s = state_next n (drawn sizes x).state (after sizes s (drawn sizes x).command)

  pub sums_next : (n x : ℕ) (s : State) (sums : Sums) → sums_of sizes s (generated sizes x (suc n)) sums
      ≡ counted_by sizes (after_all sizes s (generated sizes x n)) (drawn sizes (drawn_on sizes x n)).command (sums_of sizes s (generated sizes x n) sums)
  sums_next zero x s sums = refl
  sums_next (suc n) x s sums = sums_next n (drawn sizes x).state (after sizes s (drawn sizes x).command) (counted_by sizes s (drawn sizes x).command sums)

  one_more : (s : State) (command : Command) → s.count ≤ (after sizes s command).count
  one_more s (read address) = omega arith
  one_more s (write address block) = omega arith
  one_more s flush = omega arith
  one_more s clean = omega arith
  one_more s tick = omega arith
  one_more s lists = omega arith
  one_more s stat = omega arith
  one_more s quit = omega arith
  one_more s (bad kind) = omega arith

  -- references never become fewer
  pub count_grows : (s : State) (commands : List Command) → s.count ≤ (after_all sizes s commands).count
  count_grows s [] = omega arith
  count_grows s (command ∷ commands) = omega (arith, one_more s command, count_grows (after sizes s command) commands)

-- what fell off is told alike
mapped_some : {A B : Type 0} (f : A → B) (o : Option A) → is_some (option_map f o) ≡ is_some o
mapped_some f None = refl
mapped_some f (Some x) = refl

drops_alike : (print : List ℕ → Fp) (row : Option BRow) (block : Option (List ℕ)) → option_map (λ (r : BRow). r.fp) row ≡ option_map print block → is_some row ≡ is_some block
drops_alike print None None e = refl
drops_alike print None (Some block) e = absurd (cc e)
drops_alike print (Some row) None e = absurd (cc e)
drops_alike print (Some row) (Some block) e = refl

-- one reference is counted as the model has it
counts_answer : (print : List ℕ → Fp) (answer : Answer) (done : Done) (sums now : Sums) → Tells print done answer → now ≡ with_cut (is_some done.cut.out) (is_some done.cut.drop) (with_kind done.kind sums) → now ≡ counted answer sums
counts_answer print answer done sums now tells is = is
    ∙ ap (λ k. with_cut (is_some done.cut.out) (is_some done.cut.drop) (with_kind k sums)) tells.kind
    ∙ ap (λ o. with_cut (is_some o) (is_some done.cut.drop) (with_kind answer.kind sums)) tells.out
    ∙ ap (λ b. with_cut (is_some answer.out) b (with_kind answer.kind sums)) (drops_alike print done.cut.drop answer.drop tells.drop)

-- and so is one command
pub counts_command : (print : List ℕ → Fp) (sizes : Sizes) (s : State) (command : Command) (o : Option Done) (sums now : Sums) → AnswersCommand print sizes s command o
    → ((d : Done) → o ≡ Some d → now ≡ with_cut (is_some d.cut.out) (is_some d.cut.drop) (with_kind d.kind sums)) → (o ≡ None → now ≡ sums) → now ≡ counted_by sizes s command sums
counts_command print sizes s (read address) (Some d) sums now tells some none = counts_answer print (read_answer sizes s address) d sums now tells (some d refl)
counts_command print sizes s (read address) None sums now tells some none = absurd tells
counts_command print sizes s (write address block) (Some d) sums now tells some none = counts_answer print (write_answer sizes s address block) d sums now tells (some d refl)
counts_command print sizes s (write address block) None sums now tells some none = absurd tells
counts_command print sizes s flush (Some d) sums now tells some none = absurd tells
counts_command print sizes s flush None sums now tells some none = none refl
counts_command print sizes s tick (Some d) sums now tells some none = absurd tells
counts_command print sizes s tick None sums now tells some none = none refl
counts_command print sizes s clean o sums now tells some none = absurd tells
counts_command print sizes s lists o sums now tells some none = absurd tells
counts_command print sizes s stat o sums now tells some none = absurd tells
counts_command print sizes s quit o sums now tells some none = absurd tells
counts_command print sizes s (bad kind) o sums now tells some none = absurd tells

-- a greater bound
pub below_more : (n m : ℕ) (sums : Sums) → n ≤ m → AreBelow n sums → AreBelow m sums
below_more n m sums le h = (omega (arith, le, h.0), omega (arith, le, h.1), omega (arith, le, h.2), omega (arith, le, h.3), omega (arith, le, h.4), omega (arith, le, h.5), omega (arith, le, h.6))

one_fits : (b : Bool) (m n : ℕ) → m < n → m + from_bool b < n + 1
one_fits true m n h = omega (arith, h)
one_fits false m n h = omega (arith, h)

counted_below : (kind : Kind) (out drop : Bool) (n : ℕ) (sums : Sums) → AreBelow n sums → AreBelow (n + 1) (with_cut out drop (with_kind kind sums))
counted_below Hit out drop n sums h = (omega (arith, h.0), omega (arith, h.1), omega (arith, h.2), omega (arith, h.3), omega (arith, h.4), one_fits out sums.outs n h.5, one_fits drop sums.drops n h.6)
counted_below Join out drop n sums h = (omega (arith, h.0), omega (arith, h.1), omega (arith, h.2), omega (arith, h.3), omega (arith, h.4), one_fits out sums.outs n h.5, one_fits drop sums.drops n h.6)
counted_below Miss out drop n sums h = (omega (arith, h.0), omega (arith, h.1), omega (arith, h.2), omega (arith, h.3), omega (arith, h.4), one_fits out sums.outs n h.5, one_fits drop sums.drops n h.6)
counted_below Dup out drop n sums h = (omega (arith, h.0), omega (arith, h.1), omega (arith, h.2), omega (arith, h.3), omega (arith, h.4), one_fits out sums.outs n h.5, one_fits drop sums.drops n h.6)
counted_below New out drop n sums h = (omega (arith, h.0), omega (arith, h.1), omega (arith, h.2), omega (arith, h.3), omega (arith, h.4), one_fits out sums.outs n h.5, one_fits drop sums.drops n h.6)

-- each count grows by one at most
pub counts_below : (o : Option Done) (sums now : Sums) → IfSome o (λ d. now ≡ with_cut (is_some d.cut.out) (is_some d.cut.drop) (with_kind d.kind sums)) → (o ≡ None → now ≡ sums) → (n : ℕ) → AreBelow n sums → AreBelow (n + 1) now
counts_below None sums now some none n h = subst (AreBelow (n + 1)) (sym (none refl)) (below_more n (n + 1) sums (omega arith) h)
counts_below (Some d) sums now some none n h = subst (AreBelow (n + 1)) (sym some) (counted_below d.kind (is_some d.cut.out) (is_some d.cut.drop) n sums h)
