-- How a run ends, behind its last line.
use Rattle.std.proofs.Common.{◌≡◌, ◌≢◌, ◌⊎◌, inl, inr, ⊎_elim, ℕ, ◌+◌, ◌≤◌, true, false, List, ◌++◌, take, drop, refl, sym, ◌∙◌, ap, subst, arith, Option, Some, None, Err}
use Rattle.std.proofs.lemmas.List.{take-append-drop}
use Rattle.dd_block.specs.declared.print.Fp.{Fp}
use Rattle.dd_block.specs.declared.geometry.Geometry.{Geometry}
use Rattle.dd_rig.specs.declared.device.Dev.{Dev}
use Rattle.dd_rig.specs.declared.device.Dev.TheVariants as dev
use Rattle.dd_rig.specs.declared.tallies.Calls.{Calls}
use Rattle.dd_rig.specs.declared.tallies.Counts.{Counts}
use Rattle.dd_rig.specs.Counts.{CalledAtMost, IsQuiet, IsStill, Makes, NeverFalls, Quota, Rose, up_to}
use Rattle.dd_rig.specs.Device.{Device, IsImage}
use Rattle.dd_rig.specs.World.{World, Outcome, IsOwn, MayLeave, WithinEmit, shown}
use Rattle.dd_model.specs.State.{Sizes, State}
use Rattle.dd_recover.specs.Opening.{IsFirstFault, OpenFaulted, Opens, TellsOpening}
use Rattle.dd_recover.specs.declared.opening_fault.OpenFault.{OpenFault}
use Rattle.dd_recover.specs.declared.opening_fault.OpenFault.TheVariants as open_fault
use Rattle.dd_script.specs.Command.{Command}
use Rattle.dd_script.specs.Output.{dialect_of}
use Rattle.dd_script.specs.Script.{commands_of}
use Rattle.dd_script.specs.Text.{ended, refusal_text, stop_text}
use Rattle.dd_script.specs.declared.reply.Refusal.{Refusal}
use Rattle.dd_script.specs.declared.reply.Refusal.TheVariants as refusal
use Rattle.dd_script.specs.declared.reply.Stop.{Stop}
use Rattle.dd_script.specs.declared.reply.Stop.TheVariants as stop
use Rattle.dd_loop.specs.declared.ending.Ending.{Ending}
use Rattle.dd_loop.specs.declared.ending.Ending.TheVariants.{Served, Refused, Stopped, Unheard}
use Rattle.dd_loop.specs.declared.halt.Halt.TheVariants as halts
use Rattle.dd_loop.specs.Ending.{ending_line, refused_status, status_of, stopped_status, SaysLast, WithinLast}
use Rattle.dd_loop.specs.Saying.{EndsIn, IsIdle, SaysAlone}
use Rattle.dd_loop.specs.Serving.{ServedUpTo}
use Rattle.dd_loop.proofs.Lastly.{alone_since}
use Rattle.dd_loop.proofs.Reading.{commands_some}
use Rattle.dd_store.specs.Serving.{StoreOf}
use Rattle.dd_answers.specs.Headline.{IsUnopened}
use Rattle.dd_answers.specs.Opening.{ending_of, IsUnserved, RefusesDevices}
use Rattle.dd_answers.specs.Serving.{Caused, Ends, LinesPaid, IsServed, LoopEnds, Serves}
use Rattle.dd_answers.specs.Costs.{calls_of}
use Rattle.dd_answers.proofs.Finishing.{unserved}
use Rattle.dd_answers.proofs.Lasting.{said_some, serves_stopped}
use Rattle.dd_store.specs.Meaning.{Basis}

-- a cause stays one behind more calls
pub caused_later : (opening long some more : Type 0) → (opening → some) → (long → more) → (ending : Ending) (a b c : Counts) (m n : ℕ) → NeverFalls b c → Caused opening long ending a b m n → Caused some more ending a c m n
caused_later opening long some more v w (Served faulted) a b c m n falls h = tt
caused_later opening long some more v w (Refused why) a b c m n falls h = v h
caused_later opening long some more v w (Stopped stop.Flash) a b c m n falls h =
    ⊎_elim (λ r. inl (omega (arith, r, falls.flash.failed_writes))) (λ r. inr (v r.0, omega (arith, r.1, falls.flash.failed_reads))) h
caused_later opening long some more v w (Stopped stop.Disk) a b c m n falls h = omega (arith, h, falls.disk.failed_writes)
caused_later opening long some more v w (Stopped stop.Script) a b c m n falls h = h
caused_later opening long some more v w (Stopped stop.Length) a b c m n falls h = w h
caused_later opening long some more v w (Stopped stop.Memory) a b c m n falls h = tt
caused_later opening long some more v w Unheard a b c m n falls h = omega (arith, h, falls.emits)

refused_two : (why : Refusal) → 2 ≤ refused_status why
refused_two refusal.Words = omega arith
refused_two (refusal.FlashSmall need have) = omega arith
refused_two (refusal.DiskSmall need have) = omega arith
refused_two refusal.InUse = omega arith
refused_two (refusal.Super fault) = omega arith
refused_two refusal.NoRegion = omega arith
refused_two (refusal.Snapshot region at) = omega arith
refused_two (refusal.Group region at) = omega arith
refused_two (refusal.Worn value) = omega arith
refused_two refusal.Version1 = omega arith

stopped_four : (why : Stop) → 4 ≤ stopped_status why
stopped_four stop.Memory = omega arith
stopped_four stop.Script = omega arith
stopped_four stop.Flash = omega arith
stopped_four stop.Disk = omega arith
stopped_four stop.Length = omega arith

-- a status of at most 1 is that of a script that was served
pub served_status : (ending : Ending) → status_of ending ≤ 1 → IsServed ending
served_status (Served faulted) h = tt
served_status (Refused why) h = omega (arith, h, refused_two why)
served_status (Stopped why) h = omega (arith, h, stopped_four why)
served_status Unheard h = omega (arith, h)

-- behind an opening the status 4 is that of want of memory
pub memory_status : (long : Type 0) (ending : Ending) (a b : Counts) (m n : ℕ) → Caused ⊥ long ending a b m n → status_of ending ≡ 4 → ending ≡ Stopped stop.Memory
memory_status long (Served false) a b m n h e = absurd (omega (arith, e))
memory_status long (Served true) a b m n h e = absurd (omega (arith, e))
memory_status long (Refused why) a b m n h e = absurd h
memory_status long (Stopped stop.Flash) a b m n h e = absurd (omega (arith, e))
memory_status long (Stopped stop.Disk) a b m n h e = absurd (omega (arith, e))
memory_status long (Stopped stop.Script) a b m n h e = absurd (omega (arith, e))
memory_status long (Stopped stop.Length) a b m n h e = absurd (omega (arith, e))
memory_status long (Stopped stop.Memory) a b m n h e = refl
memory_status long Unheard a b m n h e = absurd (omega (arith, e))

-- and it isn't refused
pub never_refused : (long : Type 0) (why : Refusal) (ending : Ending) (a b : Counts) (m n : ℕ) → ending ≡ Refused why → Caused ⊥ long ending a b m n → ⊥
never_refused long why ending a b m n is h = subst (λ (e : Ending). Caused ⊥ long e a b m n) is h

-- behind an opening the status is neither 2 nor 3
pub opened_status : (long : Type 0) (ending : Ending) (a b : Counts) (m n : ℕ) → Caused ⊥ long ending a b m n → (status_of ending ≢ 2) × (status_of ending ≢ 3)
opened_status long (Served false) a b m n h = ((λ e. omega (arith, e)), λ e. omega (arith, e))
opened_status long (Served true) a b m n h = ((λ e. omega (arith, e)), λ e. omega (arith, e))
opened_status long (Refused why) a b m n h = absurd h
opened_status long (Stopped why) a b m n h = ((λ e. omega (arith, e, stopped_four why)), λ e. omega (arith, e, stopped_four why))
opened_status long Unheard a b m n h = ((λ e. omega (arith, e)), λ e. omega (arith, e))

still_all : (a b c : ℕ) → b ≤ c → IsStill a c → Rose a b → ⊥
still_all a b c le still rose = omega (arith, le, still.0, still.1, rose)

-- where no call fails and the script is bounded it is served, or there is no memory
pub quiet_ending : (print : List ℕ → Fp) (first : World) (sizes : Sizes) (start : State) (commands : List Command) (long : Type 0) (ending : Ending) (said : List ℕ) (new : World) (a b c : Counts) (m n : ℕ) → LoopEnds print first sizes start commands ending said new a b
    → Caused ⊥ long ending a b m n → NeverFalls b c → IsQuiet a c → IsStill m n → (long → ⊥) → (status_of ending ≡ 0) ⊎ (status_of ending ≡ 4)
quiet_ending print first sizes start commands long (Served false) said new a b c m n ends h falls quiet still bounded = inl refl
quiet_ending print first sizes start commands long (Served true) said new a b c m n ends h falls quiet still bounded =
    absurd (omega (arith, ends.fault, ends.sofar.paid.1.flash, ends.sofar.paid.1.disk, falls.flash.failed_reads, falls.disk.failed_reads, quiet.flash_reads.0, quiet.flash_reads.1, quiet.disk_reads.0, quiet.disk_reads.1))
quiet_ending print first sizes start commands long (Refused why) said new a b c m n ends h falls quiet still bounded = absurd h
quiet_ending print first sizes start commands long (Stopped stop.Flash) said new a b c m n ends h falls quiet still bounded =
    ⊎_elim (λ r. absurd (still_all _ _ _ falls.flash.failed_writes quiet.flash_writes r)) (λ r. absurd r.0) h
quiet_ending print first sizes start commands long (Stopped stop.Disk) said new a b c m n ends h falls quiet still bounded = absurd (still_all _ _ _ falls.disk.failed_writes quiet.disk_writes h)
quiet_ending print first sizes start commands long (Stopped stop.Script) said new a b c m n ends h falls quiet still bounded = absurd (still_all m n n (omega arith) still h)
quiet_ending print first sizes start commands long (Stopped stop.Length) said new a b c m n ends h falls quiet still bounded = absurd (bounded h)
quiet_ending print first sizes start commands long (Stopped stop.Memory) said new a b c m n ends h falls quiet still bounded = inr refl
quiet_ending print first sizes start commands long Unheard said new a b c m n ends h falls quiet still bounded = absurd (still_all _ _ _ falls.emits quiet.emits h)

-- devices that are opened unless there is no memory or a call fails stop the run, and don't refuse it
pub record Stops (fault : OpenFault) : Type 0 where
  pub why : Stop
  pub is : ending_of fault ≡ Stopped why
  pub short : why ≡ stop.Length → ⊥

pub stops : {F : Type 0} (basis : Basis) (print : F) (printed : List ℕ → Fp) (geo : Geometry) (fault : OpenFault) (new : World) (s : State) → Opens basis print printed geo (Err fault) new s → Stops fault
stops basis print printed geo (open_fault.Memory e) new s h = record { why = stop.Memory; is = refl; short = λ e. absurd (cc) }
stops basis print printed geo open_fault.FlashRead new s h = record { why = stop.Flash; is = refl; short = λ e. absurd (cc) }
stops basis print printed geo open_fault.FlashWrite new s h = record { why = stop.Flash; is = refl; short = λ e. absurd (cc) }
stops basis print printed geo open_fault.DiskWrite new s h = record { why = stop.Disk; is = refl; short = λ e. absurd (cc) }
stops basis print printed geo (open_fault.FlashSmall need have) new s h = absurd h
stops basis print printed geo (open_fault.DiskSmall need have) new s h = absurd h
stops basis print printed geo (open_fault.Super fault) new s h = absurd h
stops basis print printed geo open_fault.NoRegion new s h = absurd h
stops basis print printed geo (open_fault.Snapshot region at) new s h = absurd h
stops basis print printed geo (open_fault.Group region at) new s h = absurd h
stops basis print printed geo (open_fault.Worn value) new s h = absurd h
stops basis print printed geo open_fault.Version1 new s h = absurd h

-- where no call fails such an opening fails for want of memory alone
pub quiet_fault : {F : Type 0} (basis : Basis) (print : F) (printed : List ℕ → Fp) (geo : Geometry) (fault : OpenFault) (new : World) (s : State) (a b c : Counts) → Opens basis print printed geo (Err fault) new s → OpenFaulted fault a b → NeverFalls b c → IsQuiet a c
    → status_of (ending_of fault) ≡ 4
quiet_fault basis print printed geo (open_fault.Memory e) new s a b c h rose falls quiet = refl
quiet_fault basis print printed geo open_fault.FlashRead new s a b c h rose falls quiet = absurd (still_all _ _ _ falls.flash.failed_reads quiet.flash_reads rose)
quiet_fault basis print printed geo open_fault.FlashWrite new s a b c h rose falls quiet = absurd (still_all _ _ _ falls.flash.failed_writes quiet.flash_writes rose)
quiet_fault basis print printed geo open_fault.DiskWrite new s a b c h rose falls quiet = absurd (still_all _ _ _ falls.disk.failed_writes quiet.disk_writes rose)
quiet_fault basis print printed geo (open_fault.FlashSmall need have) new s a b c h rose falls quiet = absurd h
quiet_fault basis print printed geo (open_fault.DiskSmall need have) new s a b c h rose falls quiet = absurd h
quiet_fault basis print printed geo (open_fault.Super fault) new s a b c h rose falls quiet = absurd h
quiet_fault basis print printed geo open_fault.NoRegion new s a b c h rose falls quiet = absurd h
quiet_fault basis print printed geo (open_fault.Snapshot region at) new s a b c h rose falls quiet = absurd h
quiet_fault basis print printed geo (open_fault.Group region at) new s a b c h rose falls quiet = absurd h
quiet_fault basis print printed geo (open_fault.Worn value) new s a b c h rose falls quiet = absurd h
quiet_fault basis print printed geo open_fault.Version1 new s a b c h rose falls quiet = absurd h

-- the run was refused, there was no memory, or a device failed
fault_status : (fault : OpenFault) → (status_of (ending_of fault) ≡ 3) ⊎ ((status_of (ending_of fault) ≡ 4) ⊎ (status_of (ending_of fault) ≡ 7))
fault_status (open_fault.Memory e) = inr (inl refl)
fault_status open_fault.FlashRead = inr (inr refl)
fault_status open_fault.FlashWrite = inr (inr refl)
fault_status open_fault.DiskWrite = inr (inr refl)
fault_status (open_fault.FlashSmall need have) = inl refl
fault_status (open_fault.DiskSmall need have) = inl refl
fault_status (open_fault.Super fault) = inl refl
fault_status open_fault.NoRegion = inl refl
fault_status (open_fault.Snapshot region at) = inl refl
fault_status (open_fault.Group region at) = inl refl
fault_status (open_fault.Worn value) = inl refl
fault_status open_fault.Version1 = inl refl

pub fault_asked : (fault : OpenFault) → status_of (ending_of fault) ≢ 2
fault_asked fault = not_asked (fault_status fault)
  where
    not_asked : {status : ℕ} → (status ≡ 3) ⊎ ((status ≡ 4) ⊎ (status ≡ 7)) → status ≢ 2
    not_asked (inl e) = λ two. omega (arith, e, two)
    not_asked (inr (inl e)) = λ two. omega (arith, e, two)
    not_asked (inr (inr e)) = λ two. omega (arith, e, two)

last_since : (line : Option (List ℕ)) (a b c : Counts) (old middle new : World) → NeverFalls a b → middle.said ≡ old.said → SaysLast line b c middle new → SaysLast line a c old new
last_since None a b c old middle new falls same says = says ∙ same
last_since (Some line) a b c old middle new falls same says = alone_since line a b c old middle new falls same says

-- an opening that failed, and its line
pub is_unserved : (fault : OpenFault) (status : ℕ) (ending : Ending) (before between after : Counts) (old middle new : World) → status ≡ status_of ending → ending ≡ ending_of fault
    → NeverFalls before between → middle.said ≡ old.said → ((device : Dev) → shown device middle ≡ shown device old) → SaysLast (ending_line ending) between after middle new → (new.flash ≡ middle.flash) × (new.disk ≡ middle.disk)
    → Makes (up_to 4 1 0) (up_to 0 1 0) before between → IsIdle between after → IsUnserved status before after old new
is_unserved fault status ending before between after old middle new ends is falls same shows says devices makes idle = record {
  fault = fault;
  ends = ends ∙ ap status_of is;
  says = last_since (ending_line (ending_of fault)) before between after old middle new falls same (subst (λ (e : Ending). SaysLast (ending_line e) between after middle new) is says);
  calls = (subst (λ (c : Calls). CalledAtMost (up_to 4 1 0) before.flash c) (sym idle.0) makes.0, subst (λ (c : Calls). CalledAtMost (up_to 0 1 0) before.disk c) (sym idle.1) makes.1);
  flash_same = ap (λ (d : Device). d.shown) devices.0 ∙ shows dev.Flash;
  disk_same = ap (λ (d : Device). d.shown) devices.1 ∙ shows dev.Disk;
}

-- a refusal is of the first fault
pub refuses_first : {F : Type 0} (print : F) (fault : OpenFault) (size : Dev → ℕ) (flash : List ℕ) → TellsOpening {T = StoreOf F} (Err fault) size flash → status_of (ending_of fault) ≡ 3 → IsFirstFault size flash fault × (why : Refusal) × (ending_of fault ≡ Refused why)
refuses_first print (open_fault.Memory e) size flash h is = absurd (omega (arith, is))
refuses_first print open_fault.FlashRead size flash h is = absurd (omega (arith, is))
refuses_first print open_fault.FlashWrite size flash h is = absurd (omega (arith, is))
refuses_first print open_fault.DiskWrite size flash h is = absurd (omega (arith, is))
refuses_first print (open_fault.FlashSmall need have) size flash h is = (h, refusal.FlashSmall need have, refl)
refuses_first print (open_fault.DiskSmall need have) size flash h is = (h, refusal.DiskSmall need have, refl)
refuses_first print (open_fault.Super fault) size flash h is = (h, refusal.Super fault, refl)
refuses_first print open_fault.NoRegion size flash h is = (h, refusal.NoRegion, refl)
refuses_first print (open_fault.Snapshot region at) size flash h is = (h, refusal.Snapshot region at, refl)
refuses_first print (open_fault.Group region at) size flash h is = (h, refusal.Group region at, refl)
refuses_first print (open_fault.Worn value) size flash h is = (h, refusal.Worn value, refl)
refuses_first print open_fault.Version1 size flash h is = (h, refusal.Version1, refl)

-- a crash where some of the line that stops the run was said and nothing was opened
unopened_at : (why : Stop) (old middle : World) (n : ℕ) (o : Outcome) → middle.said ≡ old.said → IsOwn old o.flash o.disk → o.out ≡ middle.said ++ take n (ended (stop_text why)) → IsUnopened old o
unopened_at why old middle n o same own is = record {
  own = own;
  line = stop_text why;
  stopped = (why, refl);
  rest = take n (ended (stop_text why));
  more = drop n (ended (stop_text why));
  part = sym (take-append-drop n (ended (stop_text why)));
  out = is ∙ ap (λ (l : List ℕ). l ++ take n (ended (stop_text why))) same;
}

module _ (fault : OpenFault) (s : Stops fault) (old middle : World) (same : middle.said ≡ old.said) (own : (flash disk : List ℕ) → IsImage middle.flash flash → IsImage middle.disk disk → IsOwn old flash disk) where
  pub unopened_within : (o : Outcome) → WithinLast (ending_line (ending_of fault)) middle o → IsUnopened old o
  unopened_within o within =
      let w : WithinEmit (ended (stop_text s.why)) middle o = subst (λ (e : Ending). WithinLast (ending_line e) middle o) s.is within in
      unopened_at s.why old middle w.0 o same (own o.flash o.disk w.1.flash w.1.disk) w.1.out

  pub unopened_behind : (new : World) (between after : Counts) → SaysLast (ending_line (ending_of fault)) between after middle new → new.flash ≡ middle.flash → new.disk ≡ middle.disk → (o : Outcome) → MayLeave new o → IsUnopened old o
  unopened_behind new between after last flash disk o may =
      let says : SaysAlone (stop_text s.why) between after middle new = subst (λ (e : Ending). SaysLast (ending_line e) between after middle new) s.is last in
      let some = said_some (stop_text s.why) between after middle new says in
      unopened_at s.why old middle some.0 o same (own o.flash o.disk (subst (λ (d : Device). IsImage d o.flash) flash may.flash) (subst (λ (d : Device). IsImage d o.disk) disk may.disk)) (may.out ∙ some.1)

  pub serves_unopened : (print : List ℕ → Fp) (sizes : Sizes) (start : State) (script : List ℕ) (opening : ℕ) (new : World) (before between after : Counts) → NeverFalls before between → NeverFalls between after
      → SaysLast (ending_line (ending_of fault)) between after middle new → Serves print sizes start script opening (status_of (ending_of fault)) old new before after
  serves_unopened print sizes start script opening new before between after falls more last =
      let says : SaysAlone (stop_text s.why) between after middle new = subst (λ (e : Ending). SaysLast (ending_line e) between after middle new) s.is last in
      let StandFor : (flash disk : List ℕ) → State → Type 0 = λ flash disk t. Unit {0} in
      let commands : List Command = commands_of (dialect_of sizes) script in
      serves_stopped print sizes start script opening 0 StandFor s.why (status_of (ending_of fault)) old middle new before between after falls more
      (subst (λ (said : List ℕ). ServedUpTo print sizes StandFor start commands (LinesPaid 0 before between) (halts.Stopped s.why) said middle) same
      (unserved 0 print sizes StandFor s.why start commands middle before between (λ flash disk f d. tt) (commands_some (dialect_of sizes) script) falls))
      says (ap status_of s.is) (λ e. absurd (s.short e))

pub by_three : {A B C : Type 0} (P : A → B → C → Type 0) {a x : A} {b y : B} {d z : C} → a ≡ x → b ≡ y → d ≡ z → P a b d → P x y z
by_three P {a} {x} {b} {y} {d} {z} e f h p = subst (λ (k : _). P x y k) h (subst (λ (k : _). P x k d) f (subst (λ (k : _). P k b d) e p))

-- a cause stays one in front of which other calls stand
pub caused_since : (some more long : Type 0) → (long → more) → (ending : Ending) (a b c : Counts) (m n : ℕ) → NeverFalls a b → Caused ⊥ long ending b c m n → Caused some more ending a c m n
caused_since some more long w (Served faulted) a b c m n falls h = tt
caused_since some more long w (Refused why) a b c m n falls h = absurd h
caused_since some more long w (Stopped stop.Flash) a b c m n falls h = ⊎_elim (λ r. inl (omega (arith, r, falls.flash.failed_writes))) (λ r. absurd r.0) h
caused_since some more long w (Stopped stop.Disk) a b c m n falls h = omega (arith, h, falls.disk.failed_writes)
caused_since some more long w (Stopped stop.Script) a b c m n falls h = h
caused_since some more long w (Stopped stop.Length) a b c m n falls h = w h
caused_since some more long w (Stopped stop.Memory) a b c m n falls h = tt
caused_since some more long w Unheard a b c m n falls h = omega (arith, h, falls.emits)

still_behind : (a b c : ℕ) → a ≤ b → b ≤ c → IsStill a c → IsStill b c
still_behind a b c le more still = (omega (arith, le, more, still.0), still.1)

-- where no call fails none of the later ones does
pub quiet_behind : (a b c : Counts) → NeverFalls a b → NeverFalls b c → IsQuiet a c → IsQuiet b c
quiet_behind a b c falls more quiet = record {
  flash_reads = still_behind _ _ _ falls.flash.failed_reads more.flash.failed_reads quiet.flash_reads;
  flash_writes = still_behind _ _ _ falls.flash.failed_writes more.flash.failed_writes quiet.flash_writes;
  disk_reads = still_behind _ _ _ falls.disk.failed_reads more.disk.failed_reads quiet.disk_reads;
  disk_writes = still_behind _ _ _ falls.disk.failed_writes more.disk.failed_writes quiet.disk_writes;
  emits = still_behind _ _ _ falls.emits more.emits quiet.emits;
}

module _ (line : List ℕ) (before between after : Counts) (falls : NeverFalls before between) where
  ends_since : (output : List ℕ) → EndsIn line output between after → EndsIn line output before after
  ends_since output (front, whole, inl is) = (front, whole, inl is)
  ends_since output (front, whole, inr cut) = (front, whole, inr (omega (arith, cut.0, falls.emits), cut.1, cut.2))

-- the opening syncs the disk at most
pub opened_calls : (flash : Quota) (a b : Counts) → Makes flash (up_to 0 1 0) a b → calls_of b.disk ≤ calls_of a.disk + 1
opened_calls flash a b makes = omega (arith, makes.1.0, makes.1.1)

-- what a run says behind calls that say nothing
pub serves_since : (print : List ℕ → Fp) (sizes : Sizes) (start : State) (script : List ℕ) (opening : ℕ) (status : ℕ) (old middle new : World) (before between after : Counts) → NeverFalls before between → NeverFalls between after → calls_of between.disk ≤ calls_of before.disk + opening → middle.said ≡ old.said
    → Serves print sizes start script 0 status middle new between after → Serves print sizes start script opening status old new before after
serves_since print sizes start script opening status old middle new before between after falls more few same s = record {
  output = s.output;
  said = s.said ∙ ap (λ (l : List ℕ). l ++ s.output) same;
  answers = s.answers;
  whole = λ calm. s.whole (still_behind _ _ _ falls.emits more.emits calm);
  faults = record { flash = omega (arith, s.faults.flash, falls.flash.failed_reads); disk = omega (arith, s.faults.disk, falls.disk.failed_reads) };
  hits = omega (arith, s.hits, falls.flash.reads);
  ending = s.ending;
  status_is = s.status_is;
  ends = ends_so s.ending s.ends;
}
  where
    ends_so : (ending : Ending) → Ends print sizes start script 0 ending s.output new between after → Ends print sizes start script opening ending s.output new before after
    ends_so (Served faulted) ends = record {
      all = ends.all;
      fault = ends.fault;
      exact = ends.exact;
      bounded = ends.bounded;
      calls = λ fine. let little = ends.calls fine in record { loads = omega (arith, few, little.loads); calm = λ calm. omega (arith, few, little.calm calm) };
      drained = ends.drained;
    }
    ends_so (Refused why) ends = absurd ends
    ends_so (Stopped why) ends = (ends_since (stop_text why) before between after falls s.output ends.0, ends.1)
    ends_so Unheard ends = tt

-- how a refused run ends
pub refuses_so : (fault : OpenFault) (size : Dev → ℕ) (before between after : Counts) (old middle new : World) → IsFirstFault size old.flash.shown fault × (why : Refusal) × (ending_of fault ≡ Refused why) → (ending : Ending) → ending ≡ ending_of fault
    → NeverFalls before between → middle.said ≡ old.said → ((device : Dev) → shown device middle ≡ shown device old) → SaysLast (ending_line ending) between after middle new → (new.flash ≡ middle.flash) × (new.disk ≡ middle.disk)
    → RefusesDevices size old.flash.shown before after old new
refuses_so fault size before between after old middle new first ending is falls same shows says devices = record {
  fault = fault;
  first = first.0;
  why = first.1;
  refuses = first.2;
  says = alone_since (refusal_text first.1) before between after old middle new falls same (subst (λ (e : Ending). SaysLast (ending_line e) between after middle new) (is ∙ first.2) says);
  flash_same = ap (λ (d : Device). d.shown) devices.0 ∙ shows dev.Flash;
  disk_same = ap (λ (d : Device). d.shown) devices.1 ∙ shows dev.Disk;
}

-- an opening that failed
pub opening_cause : (opening long : Type 0) → opening → (fault : OpenFault) (a b : Counts) (m n : ℕ) → OpenFaulted fault a b → Caused opening long (ending_of fault) a b m n
opening_cause opening long o (open_fault.Memory e) a b m n h = tt
opening_cause opening long o open_fault.FlashRead a b m n h = inr (o, h)
opening_cause opening long o open_fault.FlashWrite a b m n h = inl h
opening_cause opening long o open_fault.DiskWrite a b m n h = h
opening_cause opening long o (open_fault.FlashSmall need have) a b m n h = o
opening_cause opening long o (open_fault.DiskSmall need have) a b m n h = o
opening_cause opening long o (open_fault.Super fault) a b m n h = o
opening_cause opening long o open_fault.NoRegion a b m n h = o
opening_cause opening long o (open_fault.Snapshot region at) a b m n h = o
opening_cause opening long o (open_fault.Group region at) a b m n h = o
opening_cause opening long o (open_fault.Worn value) a b m n h = o
opening_cause opening long o open_fault.Version1 a b m n h = o
