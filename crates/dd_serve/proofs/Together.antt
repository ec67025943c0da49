-- Where both lists go together a line that tells the orphans tells none of one kind.
use Rattle.std.proofs.Common.{◌≡◌, inl, inr, ℕ, ◌<◌, Bool, true, false, cond, List, [], ◌∷◌, length, refl, sym, ◌∙◌, ap, subst, arith}
use Rattle.std.specs.Prelude.{Option, ◌&&◌}
use Rattle.std.specs.List.{AllByRecursion}
use Rattle.dd_block.specs.declared.print.Fp.{Fp}
use Rattle.dd_rig.specs.declared.device.Dev.{Dev}
use Rattle.dd_rig.specs.declared.device.Dev.TheVariants as dev
use Rattle.dd_model.specs.Alignment.{Aligned, is_rewrite}
use Rattle.dd_model.specs.Orphans.{orphaned_addresses, orphaned_blocks}
use Rattle.dd_model.specs.Reference.{read_answer, write_answer}
use Rattle.dd_model.specs.State.{Sizes, State, IsState, content}
use Rattle.dd_model.specs.declared.kind.Kind.{Kind}
use Rattle.dd_model.specs.declared.kind.Kind.TheVariants.{Hit, Join, Miss, Dup, New}
use Rattle.dd_model.proofs.AlignmentLaws.{aligned-state, no-orphans, read-no_rewrite}
use Rattle.dd_model.proofs.StateLaws.{state-reference}
use Rattle.dd_store.proofs.Sole.{length_at}
use Rattle.dd_script.specs.declared.line.BadKind.{BadKind}
use Rattle.dd_script.specs.declared.line.BadKind.TheVariants as bad_is
use Rattle.dd_script.specs.declared.reply.Stop.{Stop}
use Rattle.dd_script.specs.declared.reply.Stop.TheVariants as stop
use Rattle.dd_script.specs.Answers.{AnswersOne, Tell, answered_one, is_answer}
use Rattle.dd_script.specs.Command.{Command, read, write, flush, clean, tick, lists, stat, quit, bad, after_all}
use Rattle.dd_script.specs.Text.{bad_text, fault_text, read_text, stop_text, write_text}
use Rattle.dd_serve.specs.Together.{StatsTellNone, TellsNone, is_stat, rewrites}
use Rattle.dd_serve.proofs.Ranges.{InRange}

read_no_stat : (kind : Kind) (block : List ℕ) (out : Option ℕ) (drop : Option Fp) → is_stat (read_text kind block out drop) ≡ false
unfolding read_text
read_no_stat Hit block out drop = refl
read_no_stat Join block out drop = refl
read_no_stat Miss block out drop = refl
read_no_stat Dup block out drop = refl
read_no_stat New block out drop = refl

write_no_stat : (kind : Kind) (out : Option ℕ) (drop : Option Fp) → is_stat (write_text kind out drop) ≡ false
unfolding write_text
write_no_stat Hit out drop = refl
write_no_stat Join out drop = refl
write_no_stat Miss out drop = refl
write_no_stat Dup out drop = refl
write_no_stat New out drop = refl

bad_no_stat : (kind : BadKind) → is_stat (bad_text kind) ≡ false
bad_no_stat bad_is.Long = refl
bad_no_stat bad_is.Word = refl
bad_no_stat bad_is.Address = refl
bad_no_stat (bad_is.Text fault) = refl
bad_no_stat bad_is.Rest = refl

fault_no_stat : (device : Dev) → is_stat (fault_text device) ≡ false
fault_no_stat dev.Flash = refl
fault_no_stat dev.Disk = refl

stop_no_stat : (why : Stop) → is_stat (stop_text why) ≡ false
stop_no_stat stop.Flash = refl
stop_no_stat stop.Disk = refl
stop_no_stat stop.Script = refl
stop_no_stat stop.Length = refl
stop_no_stat stop.Memory = refl

not_both : (b : Bool) → b ≡ true → b ≡ false → ⊥
not_both true h k = cc k
not_both false h k = cc h

never : (line text : List ℕ) → line ≡ text → is_stat text ≡ false → is_stat line ≡ true → TellsNone line
never line text is none told = absurd (not_both (is_stat line) told (ap is_stat is ∙ none))

module _ (print : List ℕ → Fp) (sizes : Sizes) where
  -- a line of a state in which both lists go together
  stat_of : (s : State) → IsState sizes s → Aligned sizes.bcap s → (command : Command) (line : List ℕ) → AnswersOne print sizes s command line → is_stat line ≡ true → TellsNone line
  stat_of s rules together (read address) line (inl is) told = never line _ is (read_no_stat (read_answer sizes s address).kind (content s.array address) _ _) told
  stat_of s rules together (write address block) line (inl is) told = never line _ is (write_no_stat (write_answer sizes s address block).kind _ _) told
  stat_of s rules together flush line (inl is) told = never line _ is refl told
  stat_of s rules together clean line (inl is) told = never line _ is refl told
  stat_of s rules together tick line (inl is) told = never line _ is refl told
  stat_of s rules together lists line (inl is) told = never line _ is refl told
  stat_of s rules together stat line (inl is) told = record {
    count = s.count;
    addresses = orphaned_addresses s;
    blocks = orphaned_blocks s;
    is = is;
    none = no-orphans sizes.bcap s rules.nonzero rules.few_blocks together;
  }
  stat_of s rules together quit line (inl is) told = never line _ is refl told
  stat_of s rules together (bad kind) line (inl is) told = never line _ is (bad_no_stat kind) told
  stat_of s rules together (read address) line (inr (inl is)) told = never line _ is (fault_no_stat dev.Flash) told
  stat_of s rules together (read address) line (inr (inr is)) told = never line _ is (fault_no_stat dev.Disk) told
  stat_of s rules together (write address block) line (inr is) told = never line _ is (fault_no_stat dev.Flash) told
  stat_of s rules together clean line (inr is) told = never line _ is (fault_no_stat dev.Flash) told
  stat_of s rules together tick line (inr is) told = never line _ is (fault_no_stat dev.Flash) told
  stat_of s rules together flush line (inr none) told = absurd none
  stat_of s rules together lists line (inr none) told = absurd none
  stat_of s rules together stat line (inr none) told = absurd none
  stat_of s rules together quit line (inr none) told = absurd none
  stat_of s rules together (bad kind) line (inr none) told = absurd none

  -- behind a command that is no rewrite
  goes_on : (s : State) → IsState sizes s → Aligned sizes.bcap s → (command : Command) (line : List ℕ) → InRange sizes.block sizes.blocks command → rewrites s command line ≡ false
      → IsState sizes (after_all sizes s (answered_one command line)) × Aligned sizes.bcap (after_all sizes s (answered_one command line))
  goes_on s rules together (read address) line below none = by_answer (is_answer line)
    where
      by_answer : (b : Bool) → IsState sizes (after_all sizes s (cond b (read address ∷ []) [])) × Aligned sizes.bcap (after_all sizes s (cond b (read address ∷ []) []))
      by_answer true =
          let inside : address < length s.array = omega (arith, below, rules.array_length) in (
            state-reference sizes s address (content s.array address) rules below (length_at sizes.block s.array address rules.array_blocks inside),
            aligned-state sizes s address (content s.array address) rules below (read-no_rewrite s address) together,
          )
      by_answer false = (rules, together)
  goes_on s rules together (write address block) line range none = by_answer (is_answer line) none
    where
      by_answer : (b : Bool) → (b && is_rewrite s address block) ≡ false → IsState sizes (after_all sizes s (cond b (write address block ∷ []) [])) × Aligned sizes.bcap (after_all sizes s (cond b (write address block ∷ []) []))
      by_answer true stays = (state-reference sizes s address block rules range.0 range.1, aligned-state sizes s address block rules range.0 stays together)
      by_answer false stays = (rules, together)
  goes_on s rules together flush line range none = (rules, together)
  goes_on s rules together clean line range none = (rules, together)
  goes_on s rules together tick line range none = (rules, together)
  goes_on s rules together lists line range none = (rules, together)
  goes_on s rules together stat line range none = (rules, together)
  goes_on s rules together quit line range none = (rules, together)
  goes_on s rules together (bad kind) line range none = (rules, together)

  -- so do all lines up to the first rewrite
  pub stats_tell : (s : State) (commands : List Command) (lines : List (List ℕ)) (rest : List ℕ) → AllByRecursion (InRange sizes.block sizes.blocks) commands → IsState sizes s → Aligned sizes.bcap s
      → Tell print sizes s commands lines rest → StatsTellNone sizes s commands lines
  stats_tell s commands [] rest range rules together tell = tt
  stats_tell s [] (line ∷ lines) rest range rules together tell = tt
  stats_tell s (command ∷ commands) (line ∷ lines) rest range rules together (inl told) = (
    stat_of s rules together command line told.0,
    λ none.
        let next = goes_on s rules together command line range.0 none in
        stats_tell (after_all sizes s (answered_one command line)) commands lines rest range.1 next.0 next.1 told.1,
  )
  stats_tell s (command ∷ commands) (line ∷ lines) rest range rules together (inr stops) = (
    λ told. never line (stop_text stops.0.0) stops.0.1 (stop_no_stat stops.0.0) told,
    λ none. subst (λ (ls : List (List ℕ)). StatsTellNone sizes (after_all sizes s (answered_one command line)) commands ls) (sym stops.1) tt,
  )
