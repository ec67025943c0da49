-- Which lines say that a read failed, and of which device.
use Rattle.std.proofs.Common.{◌≡◌, ℕ, ◌+◌, true, false, List, [], ◌∷◌, refl, ap, subst, sym, arith, if◌then◌else◌}
use Rattle.std.specs.Prelude.{Option}
use Rattle.std.specs.Str.{bytes_eq}
use Rattle.dd_block.specs.declared.print.Fp.{Fp}
use Rattle.dd_rig.specs.declared.device.Dev.{Dev}
use Rattle.dd_rig.specs.declared.device.Dev.TheVariants as dev
use Rattle.dd_rig.specs.declared.tallies.Counts.{Counts}
use Rattle.dd_rig.specs.Counts.{Rose, NeverFalls, calls_of}
use Rattle.dd_model.specs.declared.kind.Kind.{Kind}
use Rattle.dd_model.specs.declared.kind.Kind.TheVariants.{Hit, Join, Miss, Dup, New}
use Rattle.dd_model.specs.State.{Sizes, State, content}
use Rattle.dd_model.specs.Reference.{read_answer, write_answer}
use Rattle.dd_script.specs.declared.line.BadKind.{BadKind}
use Rattle.dd_script.specs.declared.line.BadKind.TheVariants as bad_is
use Rattle.dd_script.specs.Answers.{faults_in}
use Rattle.dd_script.specs.Command.{Command, read, write, flush, clean, tick, lists, stat, quit, bad}
use Rattle.dd_script.specs.Output.{reply_line}
use Rattle.dd_script.specs.Text.{read_text, write_text, bad_text, fault_text}
use Rattle.dd_loop.specs.Answering.{CountsFaults, HasFault}

-- a reply says of no device that its read failed
read_no_fault : (kind : Kind) (block : List ℕ) (out : Option ℕ) (drop : Option Fp) (device : Dev) → bytes_eq (read_text kind block out drop) (fault_text device) ≡ false
unfolding read_text
read_no_fault Hit block out drop dev.Flash = refl
read_no_fault Hit block out drop dev.Disk = refl
read_no_fault Join block out drop dev.Flash = refl
read_no_fault Join block out drop dev.Disk = refl
read_no_fault Miss block out drop dev.Flash = refl
read_no_fault Miss block out drop dev.Disk = refl
read_no_fault Dup block out drop dev.Flash = refl
read_no_fault Dup block out drop dev.Disk = refl
read_no_fault New block out drop dev.Flash = refl
read_no_fault New block out drop dev.Disk = refl

write_no_fault : (kind : Kind) (out : Option ℕ) (drop : Option Fp) (device : Dev) → bytes_eq (write_text kind out drop) (fault_text device) ≡ false
unfolding write_text
write_no_fault Hit out drop dev.Flash = refl
write_no_fault Hit out drop dev.Disk = refl
write_no_fault Join out drop dev.Flash = refl
write_no_fault Join out drop dev.Disk = refl
write_no_fault Miss out drop dev.Flash = refl
write_no_fault Miss out drop dev.Disk = refl
write_no_fault Dup out drop dev.Flash = refl
write_no_fault Dup out drop dev.Disk = refl
write_no_fault New out drop dev.Flash = refl
write_no_fault New out drop dev.Disk = refl

bad_no_fault : (kind : BadKind) (device : Dev) → bytes_eq (bad_text kind) (fault_text device) ≡ false
bad_no_fault bad_is.Long dev.Flash = refl
bad_no_fault bad_is.Long dev.Disk = refl
bad_no_fault bad_is.Word dev.Flash = refl
bad_no_fault bad_is.Word dev.Disk = refl
bad_no_fault bad_is.Address dev.Flash = refl
bad_no_fault bad_is.Address dev.Disk = refl
bad_no_fault (bad_is.Text why) dev.Flash = refl
bad_no_fault (bad_is.Text why) dev.Disk = refl
bad_no_fault bad_is.Rest dev.Flash = refl
bad_no_fault bad_is.Rest dev.Disk = refl

reply_no_fault : (print : List ℕ → Fp) (sizes : Sizes) (s : State) (command : Command) (device : Dev) → bytes_eq (reply_line print sizes s command) (fault_text device) ≡ false
reply_no_fault print sizes s (read address) device = read_no_fault (read_answer sizes s address).kind (content s.array address) _ _ device
reply_no_fault print sizes s (write address block) device = write_no_fault (write_answer sizes s address block).kind _ _ device
reply_no_fault print sizes s flush dev.Flash = refl
reply_no_fault print sizes s flush dev.Disk = refl
reply_no_fault print sizes s clean dev.Flash = refl
reply_no_fault print sizes s clean dev.Disk = refl
reply_no_fault print sizes s tick dev.Flash = refl
reply_no_fault print sizes s tick dev.Disk = refl
reply_no_fault print sizes s lists dev.Flash = refl
reply_no_fault print sizes s lists dev.Disk = refl
reply_no_fault print sizes s stat dev.Flash = refl
reply_no_fault print sizes s stat dev.Disk = refl
reply_no_fault print sizes s quit dev.Flash = refl
reply_no_fault print sizes s quit dev.Disk = refl
reply_no_fault print sizes s (bad kind) device = bad_no_fault kind device

no_faults : (device : Dev) (line : List ℕ) → bytes_eq line (fault_text device) ≡ false → faults_in device (line ∷ []) ≡ 0
no_faults device line e = ap (λ b. 0 + (if b then 1 else 0)) e

pub reply_has_none : (print : List ℕ → Fp) (sizes : Sizes) (s : State) (command : Command) (line : List ℕ) → line ≡ reply_line print sizes s command → HasFault false (line ∷ [])
reply_has_none print sizes s command line is =
    subst (λ (l : List ℕ). HasFault false (l ∷ [])) (sym is)
    (no_faults dev.Flash (reply_line print sizes s command) (reply_no_fault print sizes s command dev.Flash), no_faults dev.Disk (reply_line print sizes s command) (reply_no_fault print sizes s command dev.Disk))

pub fault_has : (device : Dev) → HasFault true (fault_text device ∷ [])
fault_has dev.Flash = omega arith
fault_has dev.Disk = omega arith

-- a fault line was paid by the read that failed
pub fault_counts : (device : Dev) (a b : Counts) → NeverFalls a b → Rose (calls_of device a).failed_reads (calls_of device b).failed_reads → CountsFaults (fault_text device ∷ []) a b
fault_counts dev.Flash a b falls rose = record { flash = omega (arith, rose); disk = omega (arith, falls.disk.failed_reads) }
fault_counts dev.Disk a b falls rose = record { flash = omega (arith, falls.flash.failed_reads); disk = omega (arith, rose) }

-- and a reply by none
pub reply_counts : (line : List ℕ) (a b : Counts) → HasFault false (line ∷ []) → NeverFalls a b → CountsFaults (line ∷ []) a b
reply_counts line a b none falls = record { flash = omega (arith, none.0, falls.flash.failed_reads); disk = omega (arith, none.1, falls.disk.failed_reads) }
