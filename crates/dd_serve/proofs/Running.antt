-- What a run promises, by what was asked.
use Rattle.std.proofs.Common.{◌≡◌, ◌≢◌, inl, ℕ, Bool, true, false, List, Some, None, ap, subst, arith, if◌then◌else◌}
use Rattle.std.specs.Prelude.{Option, nat_lt}
use Rattle.std.proofs.lemmas.Bool.{le-ltb}
use Rattle.dd_block.specs.declared.print.Fp.{Fp}
use Rattle.dd_block.specs.declared.geometry.Geometry.{Geometry}
use Rattle.dd_rig.specs.declared.device.Dev.{Dev}
use Rattle.dd_rig.specs.declared.device.Dev.TheVariants.{Flash, Disk}
use Rattle.dd_rig.specs.declared.tallies.Calls.{Calls}
use Rattle.dd_rig.specs.declared.tallies.Counts.{Counts}
use Rattle.dd_rig.specs.Clock.{Clock, Elapses}
use Rattle.dd_rig.specs.Counts.{IsQuiet, IsStill, Makes, Quota}
use Rattle.dd_rig.specs.World.{IsOwn, World, shown}
use Rattle.dd_rig.proofs.Moments.{widens}
use Rattle.dd_script.specs.declared.reply.Refusal.{Refusal}
use Rattle.dd_script.specs.declared.reply.Refusal.TheVariants.{Words}
use Rattle.dd_script.specs.Text.{refusal_text}
use Rattle.dd_serve.specs.declared.words.Asked.{Asked}
use Rattle.dd_serve.specs.declared.words.Asked.TheVariants.{Replay, Format, Serve, Gen}
use Rattle.dd_serve.specs.declared.words.Plan.{Plan}
use Rattle.dd_serve.specs.Calls.{looked}
use Rattle.dd_serve.specs.Formats.{FormatIsCaused, IsFormatStatus}
use Rattle.dd_serve.specs.Refusing.{Refuses, refusal_for, small_for}
use Rattle.dd_serve.specs.Replays.{IsReplayStatus, LooksInVain, ReplayIsCaused, Replays}
use Rattle.dd_serve.specs.Run.{RefusesWords, EndsFor, IsCaused, Does, EndsWell, Leaves}
use Rattle.dd_loop.specs.declared.ending.Ending.{Ending}
use Rattle.dd_loop.specs.declared.ending.Ending.TheVariants.{Refused}
use Rattle.dd_loop.specs.Ending.{refused_status, status_of}
use Rattle.dd_loop.specs.Saying.{IsIdle, SaysAlone}
use Rattle.dd_serve.specs.Words.{AsksFor, AsksNothing}
use Rattle.dd_serve.proofs.Endings.{told_format, told_replay}
use Rattle.dd_serve.proofs.Quiet.{quiet_status, quiet_format, replay_failed}
use Rattle.dd_serve.proofs.Written.{only_first}

-- words that ask for nothing
pub words_refused : (words : List (List ℕ)) (status : ℕ) (tells untaken : Type 0) (before after : Counts) (old new : World) → AsksNothing words → status ≡ 2
    → (tells → SaysAlone (refusal_text Words) before after old new) → IsIdle before after → (tells → (new.flash ≡ old.flash) × (new.disk ≡ old.disk)) → untaken
    → RefusesWords words status tells untaken before after old new
words_refused words status tells untaken before after old new none is says idle devices taken = record {
  exactly = (λ e. none, λ n. is);
  says = λ t e. says t;
  idle = λ e. idle;
  devices = λ t e. devices t;
  taken = λ e. taken;
}

-- words that ask for something
pub words_asked : (words : List (List ℕ)) (asked : Asked) (status : ℕ) (tells script_tells untaken : Type 0) (script : List ℕ) (Says : List ℕ → Type 0) (Ends : Ending → Type 0) (before after : Counts) (old new : World) (m n : ℕ) → AsksFor words asked
    → IsCaused asked status Says Ends untaken script_tells script before after m n → RefusesWords words status tells untaken before after old new
words_asked words asked status tells script_tells untaken script Says Ends before after old new m n asks caused =
    let not = caused.2 in
    record {
      exactly = (λ e. absurd (not e), λ none. absurd (none asked asks));
      says = λ t e. absurd (not e);
      idle = λ e. absurd (not e);
      devices = λ t e. absurd (not e);
      taken = λ e. absurd (not e);
    }

not_refused : (o : Option Refusal) (status : ℕ) (before after : Counts) (old new : World) → o ≡ None → Refuses o status before after old new → status ≢ 3
not_refused o status before after old new e h = let R : Option Refusal → Type 0 = λ x. Refuses x status before after old new in subst R e h

-- a replay in which no call fails
pub replay_ends : (print : List ℕ → Fp) (plan : Plan) (status : ℕ) (script_tells : Type 0) (Says : List ℕ → Type 0) (Ends : Ending → Type 0) (size : Dev → ℕ) (script : List ℕ) (before after : Counts) (old new : World) (m n : ℕ) → IsReplayStatus status
    → Refuses (refusal_for (Replay plan) size (shown Flash old)) status before after old new → ReplayIsCaused (LooksInVain Says before after) status Says Ends before after m n
    → (script_tells → refusal_for (Replay plan) size (shown Flash old) ≡ None → Replays print plan (size Disk) status script old new (looked before) after) → IsQuiet before after
    → EndsWell print (Replay plan) status (script_tells × IsStill m n) size script old
replay_ends print plan status script_tells Says Ends size script before after old new m n is refused caused served quiet = λ first calm bounded.
    let three = not_refused (refusal_for (Replay plan) size (shown Flash old)) status before after old new first refused in
    let told = told_replay (LooksInVain Says before after) caused.0 status Says before after m n caused.1 caused.3 in
    quiet_status print plan (size Disk) status script old new (looked before) after m n is.0 is.1 three told.0 told.1 (λ seven. replay_failed Says before after (told.2 seven)) (served calm.0 first)
    (record { flash_reads = quiet.flash_reads; flash_writes = quiet.flash_writes; disk_reads = quiet.disk_reads; disk_writes = quiet.disk_writes; emits = quiet.emits }) calm.1 bounded

-- and a format
pub format_ends : (print : List ℕ → Fp) (geo : Geometry) (status : ℕ) (calm : Type 0) (Says : List ℕ → Type 0) (Ends : Ending → Type 0) (size : Dev → ℕ) (script : List ℕ) (before after : Counts) (old new : World) → IsFormatStatus status
    → Refuses (refusal_for (Format geo) size (shown Flash old)) status before after old new → FormatIsCaused status Says Ends before after → IsQuiet before after
    → EndsWell print (Format geo) status calm size script old
format_ends print geo status calm Says Ends size script before after old new is refused caused quiet = λ first.
    let three = not_refused (refusal_for (Format geo) size (shown Flash old)) status before after old new first refused in
    let told = told_format caused.0 status Says before after caused.1 caused.3 in
    quiet_format Says status before after is three told.0 told.1 quiet

-- no device has fewer than no bytes
none_small : (n m : ℕ) (why x y : Refusal) → ◌≡◌ {A = Option Refusal} (Some why) (if nat_lt n 0 then Some x else if nat_lt m 0 then Some y else None) → ⊥
none_small n m why x y = by_tests (nat_lt n 0) (nat_lt m 0) (le-ltb n 0 (omega arith)) (le-ltb m 0 (omega arith))
  where
    by_tests : (b d : Bool) → b ≡ false → d ≡ false → ◌≡◌ {A = Option Refusal} (Some why) (if b then Some x else if d then Some y else None) → ⊥
    by_tests true d first second same = absurd (cc first)
    by_tests false true first second same = absurd (cc second)
    by_tests false false first second same = cc same

-- a crash within a run that is refused for what the words say of the sizes
pub small_leaves : (print : List ℕ → Fp) (asked : Asked) (why : Refusal) (tells : Type 0) (size : Dev → ℕ) (script : List ℕ) (old new : World) (first last : Clock) → Some why ≡ small_for asked size
    → Elapses first last (λ o. IsOwn old o.flash o.disk) → Leaves print asked tells script old new first last
small_leaves print (Replay plan) why tells size script old new first last small time = widens time (λ o own. record { front = λ place k out. own.0.same_outside place out; disk = own.1 })
small_leaves print (Format geo) why tells size script old new first last small time = λ printed. widens time (λ o own. inl own)
small_leaves print Serve why tells size script old new first last small time = absurd (none_small (size Flash) (size Disk) why _ _ small)
small_leaves print (Gen load) why tells size script old new first last small time = absurd (none_small (size Flash) (size Disk) why _ _ small)

-- and why that run ends
pub small_caused : (asked : Asked) (why : Refusal) (status : ℕ) (Says : List ℕ → Type 0) (Ends : Ending → Type 0) (untaken tells : Type 0) (size : Dev → ℕ) (script : List ℕ) (before after : Counts) (m n : ℕ) → Some why ≡ small_for asked size
    → status ≡ status_of (Refused why) → refused_status why ≡ 3 → Ends (Refused why) → IsCaused asked status Says Ends untaken tells script before after m n
small_caused asked why status Says Ends untaken tells size script before after m n small is three ends = (Refused why, is, (λ two. omega (arith, is, three, two)), by_asked asked small, ends)
  where
    by_asked : (asked : Asked) → Some why ≡ small_for asked size → EndsFor asked (Refused why) Says untaken tells script before after m n
    by_asked (Replay plan) small = tt
    by_asked (Format geo) small = tt
    by_asked Serve small = absurd (none_small (size Flash) (size Disk) why _ _ small)
    by_asked (Gen load) small = tt

makes_idle : (flash disk : Quota) (before after : Counts) → IsIdle before after → Makes flash disk before after
makes_idle flash disk before after idle = (
  (omega (arith, ap (λ (k : Calls). k.reads) idle.0), omega (arith, ap (λ (k : Calls). k.writes) idle.0), omega (arith, ap (λ (k : Calls). k.written) idle.0)),
  (omega (arith, ap (λ (k : Calls). k.reads) idle.1), omega (arith, ap (λ (k : Calls). k.writes) idle.1), omega (arith, ap (λ (k : Calls). k.written) idle.1)),
)

-- and what it calls
pub small_calls : (asked : Asked) (status : ℕ) (before after : Counts) → IsIdle before after → Does asked status before after
small_calls (Replay plan) status before after idle = (only_first plan.block before after idle, λ unbegun. makes_idle _ _ before after idle)
small_calls (Format geo) status before after idle = (makes_idle _ _ before after idle, λ unbegun. makes_idle _ _ before after idle)
small_calls Serve status before after idle = λ unbegun. makes_idle _ _ before after idle
small_calls (Gen load) status before after idle = λ unbegun. makes_idle _ _ before after idle
