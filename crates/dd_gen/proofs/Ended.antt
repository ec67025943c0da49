-- How a large run ends, and what a crash leaves behind its last line.
use Rattle.std.proofs.Common.{rules, codes, ◌≡◌, ◌≢◌, ◌⊎◌, inl, inr, ⊎_elim, ℕ, ◌<◌, ◌^◌, Bool, true, false, List, [], ◌∷◌, ◌++◌, take, drop, refl, sym, ◌∙◌, ap, subst, arith, append-nil}
use Rattle.std.proofs.lemmas.List.{take-append-drop}
use Rattle.dd_block.specs.declared.print.Fp.{Fp}
use Rattle.dd_rig.specs.declared.tallies.Counts.{Counts}
use Rattle.dd_rig.specs.Counts.{IsQuiet, IsStill, NeverFalls, Rose}
use Rattle.dd_rig.specs.Device.{Device, IsImage}
use Rattle.dd_rig.specs.World.{World, Outcome, MayLeave}
use Rattle.dd_model.specs.State.{Sizes, State}
use Rattle.dd_recover.specs.Opening.{OpenFaulted}
use Rattle.dd_recover.specs.declared.opening_fault.OpenFault.{OpenFault}
use Rattle.dd_recover.specs.declared.opening_fault.OpenFault.TheVariants as open_fault
use Rattle.dd_script.specs.Text.{ended, stop_text, sum_text, bye_text}
use Rattle.dd_script.specs.declared.reply.Refusal.{Refusal}
use Rattle.dd_script.specs.declared.reply.Stop.{Stop}
use Rattle.dd_script.specs.declared.reply.Stop.TheVariants as stop
use Rattle.dd_script.proofs.LineEnds.{sum_no_end, numbered_no_end}
use Rattle.dd_script.proofs.LineWords.{stop_acks, stop_no_end, sum_acks, bye_acks, no_acks}
use Rattle.dd_recover.proofs.Beginning.{begins_at}
use Rattle.dd_store.specs.declared.fault.StoreFault.{StoreFault}
use Rattle.dd_store.specs.declared.fault.StoreFault.TheVariants as fault
use Rattle.dd_store.specs.Keeping.{StoreView}
use Rattle.dd_store.specs.Meaning.{Basis, Stands}
use Rattle.dd_store.specs.Serving.{Faulted}
use Rattle.dd_loop.specs.declared.ending.Ending.{Ending}
use Rattle.dd_loop.specs.declared.ending.Ending.TheVariants.{Served, Refused, Stopped, Unheard}
use Rattle.dd_loop.specs.Ending.{ending_line, status_of, SaysLast, WithinLast}
use Rattle.dd_loop.specs.Standing.{AllStand}
use Rattle.dd_loop.proofs.Lastly.{alone_since}
use Rattle.dd_answers.specs.Answering.{StandsBy}
use Rattle.dd_script.specs.declared.reply.Sums.{Sums}
use Rattle.dd_answers.specs.Opening.{ending_of}
use Rattle.dd_answers.proofs.Lasting.{said_some}
use Rattle.dd_answers.proofs.Ended.{Stops}
use Rattle.dd_gen.specs.Generator.{generated}
use Rattle.dd_gen.specs.Running.{state_at, sums_at, StandsWithin, Holding}
use Rattle.dd_gen.specs.Large.{both_lines, last_lines, stopped_by, Caused, CommitEnds, IsFront, LeavesGenerated, RunEnds, SaysEnd, SaysFront, Tells, TellsSums, WithinCommit}
use Rattle.dd_gen.proofs.Fronts.{acks_front}
use Rattle.dd_gen.proofs.Generated.{count_grows}
use Rattle.dd_gen.proofs.Ran.{within_either, all_within}

module _ (basis : Basis) (print : List ℕ → Fp) (sizes : Sizes) (start : State) (seed count : ℕ) (said : List ℕ) where
  -- nothing was said
  pub leaves_unsaid : (o : Outcome) → StandsWithin basis print sizes start seed count o.flash o.disk → o.out ≡ said → LeavesGenerated basis print sizes start seed count said o
  leaves_unsaid o h is = record {
    output = [];
    out = is ∙ sym (append-nil said);
    k = h.k;
    few = h.few;
    stands = h.stands;
    again = begins_at basis print (state_at print sizes start seed h.k) o.flash o.disk h.stands;
    acknowledges = count_grows sizes start (generated sizes seed h.k);
    part = inl (last_lines print sizes start seed count, refl);
  }

  -- a part of the line that stops the run was said
  pub leaves_stopped : (why : Stop) (n : ℕ) (o : Outcome) → StandsWithin basis print sizes start seed count o.flash o.disk → o.out ≡ said ++ take n (ended (stop_text why)) → LeavesGenerated basis print sizes start seed count said o
  leaves_stopped why n o h is =
      let line : List ℕ = ended (stop_text why) in
      let whole : line ≡ take n line ++ drop n line = sym (take-append-drop n line) in
      record {
        output = take n line;
        out = is;
        k = h.k;
        few = h.few;
        stands = h.stands;
        again = begins_at basis print (state_at print sizes start seed h.k) o.flash o.disk h.stands;
        acknowledges = omega (
          arith,
          count_grows sizes start (generated sizes seed h.k),
          acks_front start.count start.count (stop_text why ∷ []) (take n line) (omega arith) (stop_no_end why, tt) (no_acks (stop_text why) start.count (stop_acks why), tt) (drop n line, append-nil line ∙ whole),
        );
        part = inr (why, (drop n line, whole));
      }

  -- a part of both last lines was said, or all of them
  pub leaves_said : (o : Outcome) → (state_at print sizes start seed count).count < 2 ^ 64 → Stands basis print o.flash o.disk (state_at print sizes start seed count) → SaysFront (last_lines print sizes start seed count) said o.out
      → LeavesGenerated basis print sizes start seed count said o
  leaves_said o fits stands f =
      let sums = sums_at print sizes start seed count in
      let all : ℕ = (state_at print sizes start seed count).count in
      let sum_line : List ℕ = sum_text sums in
      let bye_line : List ℕ = bye_text all in
      record {
        output = f.0;
        out = f.1;
        k = count;
        few = omega arith;
        stands = stands;
        again = begins_at basis print (state_at print sizes start seed count) o.flash o.disk stands;
        acknowledges = acks_front start.count all (sum_line ∷ bye_line ∷ []) f.0 (count_grows sizes start (generated sizes seed count))
            (sum_no_end sums, (numbered_no_end (codes "bye ") all (search rules), tt))
            (no_acks sum_line all (sum_acks sums), (bye_acks all all fits (omega arith), tt))
            (f.2.0, ap (λ (l : List ℕ). ended sum_line ++ l) (append-nil (ended bye_line)) ∙ f.2.1);
        part = inl f.2;
      }

  -- a crash within the last line
  pub last_within : (ending : Ending) (middle : World) → RunEnds basis print sizes start seed count ending said middle → (o : Outcome) → WithinLast (ending_line ending) middle o → LeavesGenerated basis print sizes start seed count said o
  last_within (Served faulted) middle h o w = absurd w
  last_within (Refused why) middle h o w = absurd h
  last_within (Stopped why) middle h o w = leaves_stopped why w.0 o (h.1 o.flash o.disk w.1.flash w.1.disk) (w.1.out ∙ ap (λ (l : List ℕ). l ++ take w.0 (ended (stop_text why))) h.0)
  last_within Unheard middle h o w = absurd w

  -- and behind it
  pub last_behind : (ending : Ending) (middle new : World) (between after : Counts) → RunEnds basis print sizes start seed count ending said middle → SaysLast (ending_line ending) between after middle new
      → new.flash ≡ middle.flash → new.disk ≡ middle.disk → (o : Outcome) → MayLeave new o → LeavesGenerated basis print sizes start seed count said o
  last_behind (Served faulted) middle new between after h says flash disk o may =
      h.1 o (record { flash = subst (λ (d : Device). IsImage d o.flash) flash may.flash; disk = subst (λ (d : Device). IsImage d o.disk) disk may.disk; out = may.out ∙ says })
  last_behind (Refused why) middle new between after h says flash disk o may = absurd h
  last_behind (Stopped why) middle new between after h says flash disk o may =
      let some = said_some (stop_text why) between after middle new says in
      leaves_stopped why some.0 o (h.1 o.flash o.disk (subst (λ (d : Device). IsImage d o.flash) flash may.flash) (subst (λ (d : Device). IsImage d o.disk) disk may.disk))
      (may.out ∙ some.1 ∙ ap (λ (l : List ℕ). l ++ take some.0 (ended (stop_text why))) h.0)
  last_behind Unheard middle new between after h says flash disk o may =
      h.1 o (record { flash = subst (λ (d : Device). IsImage d o.flash) flash may.flash; disk = subst (λ (d : Device). IsImage d o.disk) disk may.disk; out = may.out ∙ says })

  -- within the last commit and behind it
  pub leaves_within : (sums : Sums) → sums ≡ sums_at print sizes start seed count → (store : StoreView) (world : World) (h : Holding basis print sizes start seed count store world) → (state_at print sizes start seed count).count < 2 ^ 64
      → (o : Outcome) → WithinCommit basis print (state_at print sizes start seed h.k) (state_at print sizes start seed count) sums said o → LeavesGenerated basis print sizes start seed count said o
  leaves_within sums is store world h fits o (inl before) = leaves_unsaid o (within_either basis print sizes start seed count count (omega arith) store world h o.flash o.disk before.0) before.1
  leaves_within sums is store world h fits o (inr behind) =
      leaves_said o fits behind.0 (subst (λ (x : Sums). SaysFront (both_lines x (state_at print sizes start seed count).count) said o.out) is behind.1)

  -- where both lines are said, or a part of them
  all_leave : (new : World) → (state_at print sizes start seed count).count < 2 ^ 64 → AllStand (StandsBy basis print) new (state_at print sizes start seed count) → SaysFront (last_lines print sizes start seed count) said new.said
      → (o : Outcome) → MayLeave new o → LeavesGenerated basis print sizes start seed count said o
  all_leave new fits stands f o may = leaves_said o fits (stands o.flash o.disk may.flash may.disk) (f.0, may.out ∙ f.1, f.2)

  whole_front : (text : List ℕ) → IsFront text text
  whole_front text = ([], sym (append-nil text))

  run_ends : (store : StoreView) (world : World) (h : Holding basis print sizes start seed count store world) → (state_at print sizes start seed count).count < 2 ^ 64 → (ending : Ending) (new : World)
      → CommitEnds basis print (state_at print sizes start seed h.k) (state_at print sizes start seed count) (sums_at print sizes start seed count) ending said new → RunEnds basis print sizes start seed count ending said new
  run_ends store world h fits (Served faulted) new ends = (ends.1, all_leave new fits ends.0 (last_lines print sizes start seed count, ends.1.1, whole_front (last_lines print sizes start seed count)))
  run_ends store world h fits (Refused why) new ends = absurd ends.1
  run_ends store world h fits (Stopped why) new ends = (ends.1, all_within basis print sizes start seed count count (omega arith) store world new h ends.0)
  run_ends store world h fits Unheard new ends = (ends.1, all_leave new fits ends.0 ends.1)

  pub leaves_behind : (sums : Sums) → sums ≡ sums_at print sizes start seed count → (store : StoreView) (world : World) (h : Holding basis print sizes start seed count store world) → (state_at print sizes start seed count).count < 2 ^ 64 → (ending : Ending) (new : World)
      → CommitEnds basis print (state_at print sizes start seed h.k) (state_at print sizes start seed count) sums ending said new → RunEnds basis print sizes start seed count ending said new
  leaves_behind sums is store world h fits ending new ends =
      run_ends store world h fits ending new (subst (λ (x : Sums). CommitEnds basis print (state_at print sizes start seed h.k) (state_at print sizes start seed count) x ending said new) is ends)

-- what was said in all
pub last_tells : (basis : Basis) (print : List ℕ → Fp) (sizes : Sizes) (start : State) (seed count : ℕ) (ending : Ending) (old middle new : World) (before between after : Counts) → NeverFalls before between
    → RunEnds basis print sizes start seed count ending old.said middle → SaysLast (ending_line ending) between after middle new → Tells print sizes start seed count ending before after old new
last_tells basis print sizes start seed count (Served faulted) old middle new before between after falls h says = says ∙ h.0.1
last_tells basis print sizes start seed count (Refused why) old middle new before between after falls h says = absurd h
last_tells basis print sizes start seed count (Stopped why) old middle new before between after falls h says = alone_since (stop_text why) before between after old middle new falls h.0 says
last_tells basis print sizes start seed count Unheard old middle new before between after falls h says = (h.0.0, says ∙ h.0.1, h.0.2)

-- a cause stays one between other calls
pub caused_amid : (some more : Type 0) → (some → more) → (ending : Ending) (a b c d : Counts) → NeverFalls a b → NeverFalls c d → Caused some ending b c → Caused more ending a d
caused_amid some more w (Served faulted) a b c d falls later h = h
caused_amid some more w (Refused why) a b c d falls later h = w h
caused_amid some more w (Stopped stop.Flash) a b c d falls later h =
    ⊎_elim (λ r. inl (omega (arith, r, falls.flash.failed_reads, later.flash.failed_reads))) (λ r. inr (omega (arith, r, falls.flash.failed_writes, later.flash.failed_writes))) h
caused_amid some more w (Stopped stop.Disk) a b c d falls later h =
    ⊎_elim (λ r. inl (omega (arith, r, falls.disk.failed_reads, later.disk.failed_reads))) (λ r. inr (omega (arith, r, falls.disk.failed_writes, later.disk.failed_writes))) h
caused_amid some more w (Stopped stop.Script) a b c d falls later h = h
caused_amid some more w (Stopped stop.Length) a b c d falls later h = h
caused_amid some more w (Stopped stop.Memory) a b c d falls later h = h
caused_amid some more w Unheard a b c d falls later h = omega (arith, h, falls.emits, later.emits)

-- no call of the store wants memory
pub stopped_memory : (f : StoreFault) → Stopped (stopped_by f) ≢ Stopped stop.Memory
stopped_memory fault.FlashRead = λ e. absurd (cc e)
stopped_memory fault.DiskRead = λ e. absurd (cc e)
stopped_memory fault.FlashWrite = λ e. absurd (cc e)
stopped_memory fault.DiskWrite = λ e. absurd (cc e)

-- how the last commit ends behind which both lines are the last
pub commit_ended : (basis : Basis) (print : List ℕ → Fp) (c s : State) (sums : Sums) (ending : Ending) (said : List ℕ) (new : World) → SaysEnd ending (both_lines sums s.count) said new.said → AllStand (StandsBy basis print) new s → CommitEnds basis print c s sums ending said new
commit_ended basis print c s sums (Served faulted) said new says stands = (stands, says)
commit_ended basis print c s sums (Refused why) said new says stands = absurd says
commit_ended basis print c s sums (Stopped why) said new says stands = absurd says
commit_ended basis print c s sums Unheard said new says stands = (stands, says)

-- a call of the store that failed
pub stopped_cause : (f : StoreFault) (a b : Counts) → Faulted f a b → Caused ⊥ (Stopped (stopped_by f)) a b
stopped_cause fault.FlashRead a b h = inl h
stopped_cause fault.DiskRead a b h = inl h
stopped_cause fault.FlashWrite a b h = inr h
stopped_cause fault.DiskWrite a b h = inr h

-- an opening that failed
pub opening_cause : (f : OpenFault) (a b : Counts) → OpenFaulted f a b → Caused (Unit {0}) (ending_of f) a b
opening_cause (open_fault.Memory e) a b h = tt
opening_cause open_fault.FlashRead a b h = inl h
opening_cause open_fault.FlashWrite a b h = inr h
opening_cause open_fault.DiskWrite a b h = inr h
opening_cause (open_fault.FlashSmall need have) a b h = tt
opening_cause (open_fault.DiskSmall need have) a b h = tt
opening_cause (open_fault.Super f) a b h = tt
opening_cause open_fault.NoRegion a b h = tt
opening_cause (open_fault.Snapshot region at) a b h = tt
opening_cause (open_fault.Group region at) a b h = tt
opening_cause (open_fault.Worn value) a b h = tt
opening_cause open_fault.Version1 a b h = tt

still_rose : (a b : ℕ) → IsStill a b → Rose a b → ⊥
still_rose a b still rose = omega (arith, still.0, still.1, rose)

-- behind an opening the status 4 is that of want of memory
pub memory_ending : (ending : Ending) (a b : Counts) → Caused ⊥ ending a b → status_of ending ≡ 4 → ending ≡ Stopped stop.Memory
memory_ending (Served false) a b h e = absurd (omega (arith, e))
memory_ending (Served true) a b h e = absurd (omega (arith, e))
memory_ending (Refused why) a b h e = absurd h
memory_ending (Stopped stop.Flash) a b h e = absurd (omega (arith, e))
memory_ending (Stopped stop.Disk) a b h e = absurd (omega (arith, e))
memory_ending (Stopped stop.Script) a b h e = absurd h
memory_ending (Stopped stop.Length) a b h e = absurd h
memory_ending (Stopped stop.Memory) a b h e = refl
memory_ending Unheard a b h e = absurd (omega (arith, e))

-- and it isn't refused
pub never_refused : (why : Refusal) (ending : Ending) (a b : Counts) → ending ≡ Refused why → Caused ⊥ ending a b → ⊥
never_refused why ending a b is h = subst (λ (e : Ending). Caused ⊥ e a b) is h

-- and it is neither 2 nor 3
pub opened_ending : (ending : Ending) (a b : Counts) → Caused ⊥ ending a b → (status_of ending ≢ 2) × (status_of ending ≢ 3)
opened_ending (Served false) a b h = ((λ e. omega (arith, e)), λ e. omega (arith, e))
opened_ending (Served true) a b h = ((λ e. omega (arith, e)), λ e. omega (arith, e))
opened_ending (Refused why) a b h = absurd h
opened_ending (Stopped stop.Flash) a b h = ((λ e. omega (arith, e)), λ e. omega (arith, e))
opened_ending (Stopped stop.Disk) a b h = ((λ e. omega (arith, e)), λ e. omega (arith, e))
opened_ending (Stopped stop.Script) a b h = absurd h
opened_ending (Stopped stop.Length) a b h = absurd h
opened_ending (Stopped stop.Memory) a b h = ((λ e. omega (arith, e)), λ e. omega (arith, e))
opened_ending Unheard a b h = ((λ e. omega (arith, e)), λ e. omega (arith, e))

-- where no call fails both lines are said, or there is no memory
pub quiet_cause : (ending : Ending) (a b : Counts) → Caused ⊥ ending a b → IsQuiet a b → (status_of ending ≡ 0) ⊎ (status_of ending ≡ 4)
quiet_cause (Served faulted) a b h quiet = inl (ap (λ (f : Bool). status_of (Served f)) h)
quiet_cause (Refused why) a b h quiet = absurd h
quiet_cause (Stopped stop.Flash) a b h quiet = ⊎_elim (λ r. absurd (still_rose _ _ quiet.flash_reads r)) (λ r. absurd (still_rose _ _ quiet.flash_writes r)) h
quiet_cause (Stopped stop.Disk) a b h quiet = ⊎_elim (λ r. absurd (still_rose _ _ quiet.disk_reads r)) (λ r. absurd (still_rose _ _ quiet.disk_writes r)) h
quiet_cause (Stopped stop.Script) a b h quiet = absurd h
quiet_cause (Stopped stop.Length) a b h quiet = absurd h
quiet_cause (Stopped stop.Memory) a b h quiet = inr refl
quiet_cause Unheard a b h quiet = absurd (still_rose _ _ quiet.emits h)

-- devices that couldn't be opened: the line of the ending alone is said
pub unopened_tells : (f : OpenFault) (s : Stops f) (print : List ℕ → Fp) (sizes : Sizes) (start : State) (seed count : ℕ) (old middle new : World) (before between after : Counts) → NeverFalls before between → middle.said ≡ old.said
    → SaysLast (ending_line (ending_of f)) between after middle new → Tells print sizes start seed count (ending_of f) before after old new
unopened_tells f s print sizes start seed count old middle new before between after falls same says =
    subst (λ (e : Ending). Tells print sizes start seed count e before after old new) (sym s.is)
    (alone_since (stop_text s.why) before between after old middle new falls same (subst (λ (e : Ending). SaysLast (ending_line e) between after middle new) s.is says))

-- what is said behind calls that say nothing
pub tells_since : (print : List ℕ → Fp) (sizes : Sizes) (start : State) (seed count status : ℕ) (old middle new : World) (before between after : Counts) → NeverFalls before between → middle.said ≡ old.said
    → TellsSums print sizes start seed count status between after middle new → TellsSums print sizes start seed count status before after old new
tells_since print sizes start seed count status old middle new before between after falls same h = record { ending = h.ending; status_is = h.status_is; tells = since h.ending h.tells }
  where
    since : (ending : Ending) → Tells print sizes start seed count ending between after middle new → Tells print sizes start seed count ending before after old new
    since (Served faulted) says = says ∙ ap (λ (l : List ℕ). l ++ last_lines print sizes start seed count) same
    since (Refused why) says = absurd says
    since (Stopped why) says = alone_since (stop_text why) before between after old middle new falls same says
    since Unheard says = (says.0, says.1 ∙ ap (λ (l : List ℕ). l ++ says.0) same, says.2)
