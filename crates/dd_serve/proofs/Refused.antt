-- What is refused, and what a format says.
use Rattle.std.proofs.Common.{◌≡◌, ◌⊎◌, inl, inr, ⊎_elim, ◌∙◌, ℕ, List, Bool, true, false, refl, sym, subst, arith, Some, None}
use Rattle.std.specs.Prelude.{Option, Err, if◌then◌else◌}
use Rattle.std.specs.Option.{option_or}
use Rattle.dd_block.specs.declared.print.Fp.{Fp}
use Rattle.dd_block.specs.declared.geometry.Geometry.{Geometry}
use Rattle.dd_rig.specs.declared.tallies.Counts.{Counts}
use Rattle.dd_rig.specs.Counts.{NeverFalls, Rose}
use Rattle.dd_rig.specs.Clock.{Clock, Elapses}
use Rattle.dd_rig.specs.Device.{IsImage}
use Rattle.dd_rig.specs.World.{World, Outcome}
use Rattle.dd_rig.proofs.Moments.{widens, goes_on}
use Rattle.dd_recover.specs.declared.fault.FormatFault.{FormatFault}
use Rattle.dd_recover.specs.declared.fault.FormatFault.TheVariants as fault
use Rattle.dd_recover.specs.Formatting.{TellsSmall, TellsFault, IsUnusedOrFormatted}
use Rattle.dd_rig.specs.World.{IsOwn}
use Rattle.dd_script.specs.declared.reply.Refusal.{Refusal}
use Rattle.dd_script.specs.declared.reply.Refusal.TheVariants as refusal
use Rattle.dd_loop.specs.Ending.{SaysLast, ending_line, status_of}
use Rattle.dd_loop.proofs.Lastly.{alone_since}
use Rattle.dd_serve.specs.Formats.{ending_of, FormatLeaves, Formats}
use Rattle.dd_serve.specs.Refusing.{Refuses}

-- the last line of a run, where there is one, in front of which nothing was said
pub last_sooner : (o : Option (List ℕ)) (a b d : Counts) (old middle new : World) → NeverFalls a b → middle.said ≡ old.said → SaysLast o b d middle new → SaysLast o a d old new
last_sooner None a b d old middle new falls same said = said ∙ same
last_sooner (Some line) a b d old middle new falls same said = alone_since line a b d old middle new falls same said

-- what a fault of a format says and answers is the first condition's, where byte 0 is 1 or isn't
pub refuses_fault : (why : FormatFault) (used : Bool) (a d : Counts) (old new : World) → TellsSmall (Err why) None → TellsFault (Err why) (if used then Some fault.InUse else None)
    → (why ≡ fault.FlashRead → Rose a.flash.failed_reads d.flash.failed_reads) → SaysLast (ending_line (ending_of why)) a d old new
    → Refuses (if used then Some refusal.InUse else None) (status_of (ending_of why)) a d old new
refuses_fault (fault.FlashSmall need have) used a d old new small first rose says = absurd (cc)
refuses_fault (fault.DiskSmall need have) used a d old new small first rose says = absurd (cc)
refuses_fault fault.InUse true a d old new small first rose says = inl (refl, says)
refuses_fault fault.InUse false a d old new small first rose says = absurd (cc)
refuses_fault fault.FlashRead true a d old new small first rose says = inr (refl, rose refl, says)
refuses_fault fault.FlashRead false a d old new small first rose says = λ e. omega (arith, e)
refuses_fault fault.FlashWrite true a d old new small first rose says = absurd (cc)
refuses_fault fault.FlashWrite false a d old new small first rose says = λ e. omega (arith, e)
refuses_fault fault.DiskWrite true a d old new small first rose says = absurd (cc)
refuses_fault fault.DiskWrite false a d old new small first rose says = λ e. omega (arith, e)

-- the same behind sizes that are large enough
pub refuses_large : (small : Option Refusal) (first : Option Refusal) (status : ℕ) (a d : Counts) (old new : World) → small ≡ None → Refuses first status a d old new → Refuses (option_or small first) status a d old new
refuses_large small first status a d old new none h = subst (λ (o : Option Refusal). Refuses (option_or o first) status a d old new) (sym none) h

-- both spellings of sizes that are large enough
pub small_none : (a b : Bool) (x y : Refusal) (v w : FormatFault) → ◌≡◌ {A = Option Refusal} (if a then Some x else if b then Some y else None) None → ◌≡◌ {A = Option FormatFault} (if a then Some v else if b then Some w else None) None
small_none true b x y v w e = absurd (cc)
small_none false true x y v w e = absurd (cc)
small_none false false x y v w e = refl

-- a crash within a format, or within its line
pub format_leaves : (geo : Geometry) (old middle : World) (first second last : Clock) → ((print : List ℕ → Fp) → Elapses first second (λ o. IsUnusedOrFormatted print geo old o.flash o.disk))
    → ((print : List ℕ → Fp) (flash disk : List ℕ) → IsImage middle.flash flash → IsImage middle.disk disk → IsOwn old flash disk ⊎ IsUnusedOrFormatted print geo old flash disk)
    → Elapses second last (λ o. IsOwn middle o.flash o.disk) → FormatLeaves geo old first last
format_leaves geo old middle first second last crash now line = λ print.
    let P : Outcome → Type 0 = λ o. IsOwn old o.flash o.disk ⊎ IsUnusedOrFormatted print geo old o.flash o.disk in
    let formats : Elapses first second P = widens (crash print) (λ o left. inr left) in
    goes_on {P = P} {Q = λ o. IsOwn middle o.flash o.disk} formats line (λ o own. now print o.flash o.disk own.0 own.1)

fault_fails : (why : FormatFault) → (status_of (ending_of why) ≡ 0 → ⊥) × (status_of (ending_of why) ≡ 6 → ⊥)
fault_fails (fault.FlashSmall need have) = (λ e. omega (arith, e), λ e. omega (arith, e))
fault_fails (fault.DiskSmall need have) = (λ e. omega (arith, e), λ e. omega (arith, e))
fault_fails fault.InUse = (λ e. omega (arith, e), λ e. omega (arith, e))
fault_fails fault.FlashRead = (λ e. omega (arith, e), λ e. omega (arith, e))
fault_fails fault.FlashWrite = (λ e. omega (arith, e), λ e. omega (arith, e))
fault_fails fault.DiskWrite = (λ e. omega (arith, e), λ e. omega (arith, e))

-- a format that failed promises nothing of a line or of the devices
pub formats_none : (why : FormatFault) (geo : Geometry) (a d : Counts) (old new : World) → Formats geo (status_of (ending_of why)) a d old new
formats_none why geo a d old new = record {
  exact = λ e. absurd ((fault_fails why).0 e);
  cut = λ e. absurd ((fault_fails why).1 e);
  done = λ ends. absurd (⊎_elim (fault_fails why).0 (fault_fails why).1 ends);
}
