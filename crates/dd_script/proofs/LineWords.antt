-- What a line says of itself: whether it answers a reference, and what it acknowledges.
use Rattle.std.proofs.Common.{rules, ◌≡◌, ℕ, ◌<◌, ◌≤◌, ◌^◌, Bool, true, false, List, [], ◌∷◌, refl, sym, ◌∙◌, ap, subst, cond, Some, None, decimal, drop}
use Rattle.std.specs.Prelude.{Option, IfSome}
use Rattle.std.specs.Str.Parse.{digits_value}
use Rattle.std.proofs.lemmas.Fmt.{decimal_is_IsNumeral}
use Rattle.dd_block.specs.declared.print.Fp.{Fp}
use Rattle.dd_rig.specs.declared.device.Dev.{Dev}
use Rattle.dd_rig.specs.declared.device.Dev.TheVariants as dev
use Rattle.dd_model.specs.declared.kind.Kind.{Kind}
use Rattle.dd_model.specs.declared.kind.Kind.TheVariants.{Hit, Join, Miss, Dup, New}
use Rattle.dd_model.specs.State.{Entry, Sizes, State, content}
use Rattle.dd_model.specs.Reference.{read_answer, write_answer}
use Rattle.dd_script.specs.declared.line.BadKind.{BadKind}
use Rattle.dd_script.specs.declared.line.BadKind.TheVariants as bad_is
use Rattle.dd_script.specs.declared.reply.Stop.{Stop}
use Rattle.dd_script.specs.declared.reply.Stop.TheVariants as stop
use Rattle.dd_script.specs.Line.{is_number}
use Rattle.dd_script.specs.declared.reply.Sums.{Sums}
use Rattle.dd_script.specs.Text.{HasNoEnd, read_text, write_text, flushed_text, cleaned_text, ticked_text, lists_text, stat_text, sum_text, bye_text, bad_text, fault_text, stop_text}
use Rattle.dd_script.specs.Command.{Command, read, write, after, after_all}
use Rattle.dd_script.specs.Output.{reply_line}
use Rattle.dd_script.specs.Answers.{is_answer, answered_one, first_some, acknowledged_by}

pub read_is_answer : (kind : Kind) (block : List ℕ) (out : Option ℕ) (drop : Option Fp) → is_answer (read_text kind block out drop) ≡ true
unfolding read_text
read_is_answer Hit block out drop = refl
read_is_answer Join block out drop = refl
read_is_answer Miss block out drop = refl
read_is_answer Dup block out drop = refl
read_is_answer New block out drop = refl

pub write_is_answer : (kind : Kind) (out : Option ℕ) (drop : Option Fp) → is_answer (write_text kind out drop) ≡ true
unfolding write_text
write_is_answer Hit out drop = refl
write_is_answer Join out drop = refl
write_is_answer Miss out drop = refl
write_is_answer Dup out drop = refl
write_is_answer New out drop = refl

pub read_acks : (kind : Kind) (block : List ℕ) (out : Option ℕ) (drop : Option Fp) → acknowledged_by (read_text kind block out drop) ≡ None
unfolding read_text
read_acks Hit block out drop = refl
read_acks Join block out drop = refl
read_acks Miss block out drop = refl
read_acks Dup block out drop = refl
read_acks New block out drop = refl

pub write_acks : (kind : Kind) (out : Option ℕ) (drop : Option Fp) → acknowledged_by (write_text kind out drop) ≡ None
unfolding write_text
write_acks Hit out drop = refl
write_acks Join out drop = refl
write_acks Miss out drop = refl
write_acks Dup out drop = refl
write_acks New out drop = refl

pub stop_acks : (why : Stop) → acknowledged_by (stop_text why) ≡ None
stop_acks stop.Flash = refl
stop_acks stop.Disk = refl
stop_acks stop.Script = refl
stop_acks stop.Length = refl
stop_acks stop.Memory = refl

pub stop_no_answer : (why : Stop) → is_answer (stop_text why) ≡ false
stop_no_answer stop.Flash = refl
stop_no_answer stop.Disk = refl
stop_no_answer stop.Script = refl
stop_no_answer stop.Length = refl
stop_no_answer stop.Memory = refl

pub stop_no_end : (why : Stop) → HasNoEnd (stop_text why)
stop_no_end stop.Flash = search rules
stop_no_end stop.Disk = search rules
stop_no_end stop.Script = search rules
stop_no_end stop.Length = search rules
stop_no_end stop.Memory = search rules

pub fault_acks : (device : Dev) → acknowledged_by (fault_text device) ≡ None
fault_acks dev.Flash = refl
fault_acks dev.Disk = refl

pub fault_no_answer : (device : Dev) → is_answer (fault_text device) ≡ false
fault_no_answer dev.Flash = refl
fault_no_answer dev.Disk = refl

pub fault_no_end : (device : Dev) → HasNoEnd (fault_text device)
fault_no_end dev.Flash = search rules
fault_no_end dev.Disk = search rules

pub bad_acks : (kind : BadKind) → acknowledged_by (bad_text kind) ≡ None
bad_acks bad_is.Long = refl
bad_acks bad_is.Word = refl
bad_acks bad_is.Address = refl
bad_acks (bad_is.Text fault) = refl
bad_acks bad_is.Rest = refl

pub cleaned_acks : acknowledged_by cleaned_text ≡ None
cleaned_acks = refl

pub ticked_acks : acknowledged_by ticked_text ≡ None
ticked_acks = refl

pub lists_acks : (entries : List Entry) (prints : List Fp) → acknowledged_by (lists_text entries prints) ≡ None
lists_acks entries prints = refl

pub stat_acks : (count addresses blocks : ℕ) → acknowledged_by (stat_text count addresses blocks) ≡ None
stat_acks count addresses blocks = refl

pub sum_acks : (sums : Sums) → acknowledged_by (sum_text sums) ≡ None
sum_acks sums = refl

-- a line that acknowledges nothing
pub no_acks : (line : List ℕ) (m : ℕ) → acknowledged_by line ≡ None → IfSome (acknowledged_by line) (λ n. n ≤ m)
no_acks line m e = subst (λ (o : Option ℕ). IfSome o (λ n. n ≤ m)) (sym e) tt

if_number : (b : Bool) (v m : ℕ) → v ≤ m → IfSome (cond b (Some v) None) (λ n. n ≤ m)
if_number true v m h = h
if_number false v m h = tt

if_first : (b : Bool) (v m : ℕ) → v ≤ m → IfSome (first_some (cond b (Some v) None) None) (λ n. n ≤ m)
if_first true v m h = h
if_first false v m h = tt

value_fits : (n m : ℕ) → n < 2 ^ 64 → n ≤ m → digits_value 10 (decimal n) ≤ m
value_fits n m fits h = subst (λ (v : ℕ). v ≤ m) (sym (decimal_is_IsNumeral n fits).1) h

-- a line that acknowledges a number acknowledges no more
pub flushed_acks : (n m : ℕ) → n < 2 ^ 64 → n ≤ m → IfSome (acknowledged_by (flushed_text n)) (λ a. a ≤ m)
flushed_acks n m fits h = if_first (is_number (decimal n)) (digits_value 10 (decimal n)) m (value_fits n m fits h)

pub bye_acks : (n m : ℕ) → n < 2 ^ 64 → n ≤ m → IfSome (acknowledged_by (bye_text n)) (λ a. a ≤ m)
bye_acks n m fits h = if_number (is_number (decimal n)) (digits_value 10 (decimal n)) m (value_fits n m fits h)

module _ (print : List ℕ → Fp) (sizes : Sizes) (s : State) where
  one_if : (command : Command) (b : Bool) → b ≡ true → after_all sizes s (cond b (command ∷ []) []) ≡ after sizes s command
  one_if command b e = ap (λ (x : Bool). after_all sizes s (cond x (command ∷ []) [])) e

  -- the state after a line that is the reply
  pub after_reply : (command : Command) (line : List ℕ) → line ≡ reply_line print sizes s command → after_all sizes s (answered_one command line) ≡ after sizes s command
  after_reply (read address) line e = one_if (read address) (is_answer line) (ap is_answer e ∙ read_is_answer (read_answer sizes s address).kind (content s.array address) _ _)
  after_reply (write address block) line e = one_if (write address block) (is_answer line) (ap is_answer e ∙ write_is_answer (write_answer sizes s address block).kind _ _)
  after_reply command line e = refl

  none_if : (command : Command) (b : Bool) → b ≡ false → after_all sizes s (cond b (command ∷ []) []) ≡ s
  none_if command b e = ap (λ (x : Bool). after_all sizes s (cond x (command ∷ []) [])) e

  -- a fault line leaves the state
  pub after_fault : (command : Command) (device : Dev) → after_all sizes s (answered_one command (fault_text device)) ≡ s
  after_fault (read address) device = none_if (read address) (is_answer (fault_text device)) (fault_no_answer device)
  after_fault (write address block) device = none_if (write address block) (is_answer (fault_text device)) (fault_no_answer device)
  after_fault command device = refl
