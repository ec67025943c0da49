-- How many lines say that a read failed, and what lines cost.
use Rattle.std.proofs.Common.{◌≡◌, ℕ, ◌+◌, Bool, true, false, List, [], ◌∷◌, ◌++◌, arith, if◌then◌else◌}
use Rattle.std.specs.Prelude.{◌||◌}
use Rattle.std.specs.Str.{bytes_eq}
use Rattle.std.proofs.lemmas.List.Sums.{sum_by-append}
use Rattle.dd_rig.specs.declared.device.Dev.{Dev}
use Rattle.dd_rig.specs.declared.device.Dev.TheVariants as dev
use Rattle.dd_rig.specs.declared.tallies.Counts.{Counts}
use Rattle.dd_rig.specs.Counts.{NeverFalls}
use Rattle.dd_script.specs.Answers.{faults_in}
use Rattle.dd_script.specs.Text.{fault_text}
use Rattle.dd_loop.specs.Answering.{CountsFaults, HasFault}

pub faults_both : (device : Dev) (lines others : List (List ℕ)) → faults_in device (lines ++ others) ≡ faults_in device lines + faults_in device others
faults_both device lines others = sum_by-append (λ l. if bytes_eq l (fault_text device) then 1 else 0) lines others

-- faults of a part and of the next are faults of both
pub counts_both : (lines others : List (List ℕ)) (a b c : Counts) → CountsFaults lines a b → CountsFaults others b c → CountsFaults (lines ++ others) a c
counts_both lines others a b c h k = record {
  flash = omega (arith, h.flash, k.flash, faults_both dev.Flash lines others);
  disk = omega (arith, h.disk, k.disk, faults_both dev.Disk lines others);
}

-- no line says more than failed
pub counts_later : (lines : List (List ℕ)) (a b c : Counts) → CountsFaults lines a b → NeverFalls b c → CountsFaults lines a c
counts_later lines a b c h k = record { flash = omega (arith, h.flash, k.flash.failed_reads); disk = omega (arith, h.disk, k.disk.failed_reads) }

pub counts_none : (a b : Counts) → NeverFalls a b → CountsFaults [] a b
counts_none a b k = record { flash = omega (arith, k.flash.failed_reads); disk = omega (arith, k.disk.failed_reads) }

pub fault_snoc : (faulted failed : Bool) (lines : List (List ℕ)) (line : List ℕ) → HasFault faulted lines → HasFault failed (line ∷ []) → HasFault (faulted || failed) (lines ++ line ∷ [])
fault_snoc true failed lines line h k = omega (arith, h, faults_both dev.Flash lines (line ∷ []), faults_both dev.Disk lines (line ∷ []))
fault_snoc false true lines line h k = omega (arith, k, faults_both dev.Flash lines (line ∷ []), faults_both dev.Disk lines (line ∷ []))
fault_snoc false false lines line h k = (omega (arith, h.0, k.0, faults_both dev.Flash lines (line ∷ [])), omega (arith, h.1, k.1, faults_both dev.Disk lines (line ∷ [])))

pub fault_same : (faulted failed : Bool) (lines : List (List ℕ)) → failed ≡ false → HasFault faulted lines → HasFault (faulted || failed) lines
fault_same true failed lines e h = h
fault_same false true lines e h = absurd (cc)
fault_same false false lines e h = h
