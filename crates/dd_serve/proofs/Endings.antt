-- The ending of each status, and its cause.
use Rattle.std.proofs.Common.{◌≡◌, ◌≢◌, ◌⊎◌, inl, inr, ⊎_elim, ℕ, ◌≤◌, Bool, true, false, List, Some, refl, arith}
use Rattle.dd_rig.specs.declared.tallies.Counts.{Counts}
use Rattle.dd_rig.specs.Counts.{NeverFalls, Rose}
use Rattle.dd_recover.specs.declared.fault.FormatFault.{FormatFault}
use Rattle.dd_recover.specs.declared.fault.FormatFault.TheVariants as fault
use Rattle.dd_script.specs.declared.reply.Refusal.{Refusal}
use Rattle.dd_script.specs.declared.reply.Refusal.TheVariants as refusal
use Rattle.dd_script.specs.declared.reply.Stop.{Stop}
use Rattle.dd_script.specs.declared.reply.Stop.TheVariants as stop
use Rattle.dd_script.specs.Text.{stop_text}
use Rattle.dd_loop.specs.declared.ending.Ending.{Ending}
use Rattle.dd_loop.specs.declared.ending.Ending.TheVariants.{Served, Refused, Stopped, Unheard}
use Rattle.dd_loop.specs.declared.halt.Halt.TheVariants as halts
use Rattle.dd_loop.specs.Ending.{ending_line, refused_status, status_of}
use Rattle.dd_loop.specs.Halting.{Halts}
use Rattle.dd_loop.proofs.Lastly.{IsFirstSaid}
use Rattle.dd_serve.specs.Answering.{IsFlash}
use Rattle.dd_serve.specs.Formats.{ending_of, FormatEndsFor, FormatIsCaused}
use Rattle.dd_serve.specs.Replays.{ReplayEndsFor}

refused_few : (why : Refusal) → refused_status why ≤ 3
refused_few refusal.Words = omega arith
refused_few (refusal.FlashSmall need have) = omega arith
refused_few (refusal.DiskSmall need have) = omega arith
refused_few refusal.InUse = omega arith
refused_few (refusal.Super fault) = omega arith
refused_few refusal.NoRegion = omega arith
refused_few (refusal.Snapshot region at) = omega arith
refused_few (refusal.Group region at) = omega arith
refused_few (refusal.Worn value) = omega arith
refused_few refusal.Version1 = omega arith

served_few : (faulted : Bool) → status_of (Served faulted) ≤ 1
served_few true = omega arith
served_few false = omega arith

pub served_two : (faulted : Bool) (status : ℕ) → status ≡ status_of (Served faulted) → status ≢ 2
served_two faulted status is = λ two. omega (arith, is, two, served_few faulted)

-- what 5, 6 and 7 of a replay tell
pub told_replay : (Looks : Type 0) (ending : Ending) (status : ℕ) (Says : List ℕ → Type 0) (a b : Counts) (m n : ℕ) → status ≡ status_of ending → ReplayEndsFor Looks ending Says a b m n
    → (status ≡ 5 → Rose m n) × (status ≡ 6 → Rose a.failed_emits b.failed_emits) × (status ≡ 7 → Rose a.flash.failed_writes b.flash.failed_writes ⊎ Looks)
told_replay Looks (Served faulted) status Says a b m n is h = ((λ e. absurd (omega (arith, is, e, served_few faulted))), (λ e. absurd (omega (arith, is, e, served_few faulted))), λ e. absurd (omega (arith, is, e, served_few faulted)))
told_replay Looks (Refused why) status Says a b m n is h = ((λ e. absurd (omega (arith, is, e, refused_few why))), (λ e. absurd (omega (arith, is, e, refused_few why))), λ e. absurd (omega (arith, is, e, refused_few why)))
told_replay Looks (Stopped stop.Flash) status Says a b m n is h = ((λ e. absurd (omega (arith, is, e))), (λ e. absurd (omega (arith, is, e))), λ e. h)
told_replay Looks (Stopped stop.Disk) status Says a b m n is h = absurd h
told_replay Looks (Stopped stop.Script) status Says a b m n is h = ((λ e. h), (λ e. absurd (omega (arith, is, e))), λ e. absurd (omega (arith, is, e)))
told_replay Looks (Stopped stop.Length) status Says a b m n is h = ((λ e. absurd (omega (arith, is, e))), (λ e. absurd (omega (arith, is, e))), λ e. absurd (omega (arith, is, e)))
told_replay Looks (Stopped stop.Memory) status Says a b m n is h = ((λ e. absurd (omega (arith, is, e))), (λ e. absurd (omega (arith, is, e))), λ e. absurd (omega (arith, is, e)))
told_replay Looks Unheard status Says a b m n is h = ((λ e. absurd (omega (arith, is, e))), (λ e. h), λ e. absurd (omega (arith, is, e)))

-- and 6 and 7 of a format
pub told_format : (ending : Ending) (status : ℕ) (Says : List ℕ → Type 0) (a b : Counts) → status ≡ status_of ending → FormatEndsFor ending Says a b
    → (status ≡ 6 → Rose a.failed_emits b.failed_emits) × (status ≡ 7 → FormatEndsFor (Stopped stop.Flash) Says a b ⊎ FormatEndsFor (Stopped stop.Disk) Says a b)
told_format (Served faulted) status Says a b is h = ((λ e. absurd (omega (arith, is, e, served_few faulted))), λ e. absurd (omega (arith, is, e, served_few faulted)))
told_format (Refused why) status Says a b is h = ((λ e. absurd (omega (arith, is, e, refused_few why))), λ e. absurd (omega (arith, is, e, refused_few why)))
told_format (Stopped stop.Flash) status Says a b is h = ((λ e. absurd (omega (arith, is, e))), λ e. inl h)
told_format (Stopped stop.Disk) status Says a b is h = ((λ e. absurd (omega (arith, is, e))), λ e. inr h)
told_format (Stopped stop.Script) status Says a b is h = absurd h
told_format (Stopped stop.Length) status Says a b is h = absurd h
told_format (Stopped stop.Memory) status Says a b is h = absurd h
told_format Unheard status Says a b is h = ((λ e. h), λ e. absurd (omega (arith, is, e)))

-- the cause of a replay, behind the look at byte 0
pub replay_behind : (Looks : Type 0) (ending : Ending) (One Both : List ℕ → Type 0) (a b c : Counts) (m n : ℕ) → NeverFalls a b → ((line : List ℕ) → One line → Both line) → ReplayEndsFor ⊥ ending One b c m n → ReplayEndsFor Looks ending Both a c m n
replay_behind Looks (Served faulted) One Both a b c m n falls says h = tt
replay_behind Looks (Refused why) One Both a b c m n falls says h = tt
replay_behind Looks (Stopped stop.Flash) One Both a b c m n falls says h = ⊎_elim (λ rose. inl (omega (arith, rose, falls.flash.failed_writes))) (λ never. absurd never) h
replay_behind Looks (Stopped stop.Disk) One Both a b c m n falls says h = absurd h
replay_behind Looks (Stopped stop.Script) One Both a b c m n falls says h = h
replay_behind Looks (Stopped stop.Length) One Both a b c m n falls says h = tt
replay_behind Looks (Stopped stop.Memory) One Both a b c m n falls says h = says (stop_text stop.Memory) h
replay_behind Looks Unheard One Both a b c m n falls says h = omega (arith, h, falls.emits)

-- a script that was served up to a call that failed
pub halt_caused : (why : Stop) (long : Type 0) (Says : List ℕ → Type 0) (a b c : Counts) (m n : ℕ) → NeverFalls b c → Halts IsFlash (Rose m n) long (halts.Stopped why) a b → ReplayEndsFor ⊥ (Stopped why) Says a c m n
halt_caused stop.Flash long Says a b c m n falls h = inl (omega (arith, h.1, falls.flash.failed_writes))
halt_caused stop.Disk long Says a b c m n falls h = absurd h.0
halt_caused stop.Script long Says a b c m n falls h = h
halt_caused stop.Length long Says a b c m n falls h = tt
halt_caused stop.Memory long Says a b c m n falls h = absurd h

-- and it isn't stopped for want of memory
pub not_first : (why : Stop) (failed long : Type 0) (a b : Counts) → Halts IsFlash failed long (halts.Stopped why) a b → IsFirstSaid (Stopped why) → ⊥
not_first stop.Flash failed long a b h first = absurd first
not_first stop.Disk failed long a b h first = absurd first
not_first stop.Script failed long a b h first = absurd first
not_first stop.Length failed long a b h first = absurd first
not_first stop.Memory failed long a b h first = absurd h

-- a format that failed, by the device whose call did
pub fault_caused : (why : FormatFault) (Says : List ℕ → Type 0) (a d : Counts)
    → (why ≡ fault.FlashRead → Rose a.flash.failed_reads d.flash.failed_reads) → (why ≡ fault.FlashWrite → Rose a.flash.failed_writes d.flash.failed_writes)
    → (why ≡ fault.DiskWrite → Rose a.disk.failed_writes d.disk.failed_writes) → ((line : List ℕ) → ending_line (ending_of why) ≡ Some line → Says line) → FormatEndsFor (ending_of why) Says a d
fault_caused (fault.FlashSmall need have) Says a d read write disk says = tt
fault_caused (fault.DiskSmall need have) Says a d read write disk says = tt
fault_caused fault.InUse Says a d read write disk says = tt
fault_caused fault.FlashRead Says a d read write disk says = (inl (read refl), says (stop_text stop.Flash) refl)
fault_caused fault.FlashWrite Says a d read write disk says = (inr (write refl), says (stop_text stop.Flash) refl)
fault_caused fault.DiskWrite Says a d read write disk says = (disk refl, says (stop_text stop.Disk) refl)

pub fault_two : (why : FormatFault) (status : ℕ) → status ≡ status_of (ending_of why) → status ≢ 2
fault_two (fault.FlashSmall need have) status is = λ two. omega (arith, is, two)
fault_two (fault.DiskSmall need have) status is = λ two. omega (arith, is, two)
fault_two fault.InUse status is = λ two. omega (arith, is, two)
fault_two fault.FlashRead status is = λ two. omega (arith, is, two)
fault_two fault.FlashWrite status is = λ two. omega (arith, is, two)
fault_two fault.DiskWrite status is = λ two. omega (arith, is, two)

-- a flash that was formatted, and the line that says so
pub formatted_caused : (status : ℕ) (Says : List ℕ → Type 0) (Ends : Ending → Type 0) (a d : Counts) → (status ≡ 0) ⊎ (status ≡ 6) → (status ≡ 6 → Rose a.failed_emits d.failed_emits) → Ends (Served false) → Ends Unheard → FormatIsCaused status Says Ends a d
formatted_caused status Says Ends a d (inl none) emit served unheard = (Served false, none, (λ two. omega (arith, none, two)), refl, served)
formatted_caused status Says Ends a d (inr six) emit served unheard = (Unheard, six, (λ two. omega (arith, six, two)), emit six, unheard)
