use Rattle.std.proofs.Common.{◌≡◌, ℕ, List, ◌++◌, Bool, ap, sym, ◌∙◌, subst, None, Some, arith, ◌==◌, slice_index}
use Rattle.std.specs.Prelude.{Option, Err, nat_lt}
use Rattle.dd_rig.specs.declared.device.Dev.TheVariants.{Flash, Disk}
use Rattle.dd_rig.specs.declared.tallies.Calls.{Calls}
use Rattle.dd_rig.specs.World.{World, shown}
use Rattle.dd_recover.specs.declared.fault.FormatFault.{FormatFault}
use Rattle.dd_recover.specs.Formatting.{FormatFaulted, small_fault, in_use_fault, TellsSmall, TellsFault}
use Rattle.std.specs.Option.{option_or}
use Rattle.dd_rig.specs.Device.{Device, IsImage}
use Rattle.dd_script.specs.declared.reply.Reply.TheVariants as reply
use Rattle.dd_script.specs.Text.{ended, reply_text}
use Rattle.dd_serve.specs.declared.words.Asked.TheVariants.{Format}
use Rattle.dd_loop.specs.Ending.{SaysEnding, SaysLast, ending_line, status_of}
use Rattle.dd_loop.proofs.Lastly.{alone_since, ending_since}
use Rattle.dd_loop.proofs.More.{more_same}
use Rattle.dd_serve.proofs.Endings.{fault_caused, fault_two, formatted_caused}
use Rattle.dd_serve.specs.Formats.{Formats, ending_of}
use Rattle.dd_serve.specs.Refusing.{Refuses, small_for, in_use, flash_needs, disk_needs}
use Rattle.dd_loop.specs.Saying.{SaysAlone}
use Rattle.dd_serve.proofs.Refused.{last_sooner, refuses_fault, refuses_large, small_none, format_leaves, formats_none}
use Rattle.dd_serve.proofs.format.run_format.Goals as goal

pub returns-in-Ok-clause-crash : goal.returns-in-Ok-clause-crash
returns-in-Ok-clause-crash g c = λ t. format_leaves c.args.geo (g.R.Rig.world c.args.rig.now) (g.R.Rig.world c.format_flash.new.rig) _ _ _ (c.in-Ok.ensures.crash t) (c.in-Ok.ensures.now t) (c.say_formatted.ensures.time t)

pub returns-in-Err-clause-crash : goal.returns-in-Err-clause-crash
returns-in-Err-clause-crash g c = λ t. format_leaves c.args.geo (g.R.Rig.world c.args.rig.now) (g.R.Rig.world c.format_flash.new.rig) _ _ _ (c.in-Err.ensures.crash t) (c.in-Err.ensures.now t) (c.finish.ensures.time t)

pub returns-in-Err-clause-refused : goal.returns-in-Err-clause-refused
returns-in-Err-clause-refused g c = λ t.
    let why : FormatFault = c.in-Err.fault in
    let size = g.R.Rig.device_size c.args.rig.now in
    let old : World = g.R.Rig.world c.args.rig.now in
    let middle : World = g.R.Rig.world c.format_flash.new.rig in
    let new : World = g.R.Rig.world c.finish.new.rig in
    let before = g.R.Rig.counts c.args.rig.now in
    let between = g.R.Rig.counts c.format_flash.new.rig in
    let after = g.R.Rig.counts c.finish.new.rig in
    let used : Bool = slice_index (shown Flash old) 0 == 1 in
    let large : small_fault c.args.geo size ≡ None = small_none (nat_lt (size Flash) (flash_needs (Format c.args.geo))) (nat_lt (size Disk) (disk_needs (Format c.args.geo))) _ _ _ _ c.requires in
    let small : TellsSmall (Err why) None = subst (λ (o : Option FormatFault). TellsSmall (Err why) o) large c.in-Err.ensures.small in
    let first : TellsFault (Err why) (in_use_fault (shown Flash old)) = subst (λ (o : Option FormatFault). TellsFault (Err why) (option_or o (in_use_fault (shown Flash old)))) large (c.in-Err.ensures.fault t) in
    let ending : ending_line c.ending_of.result ≡ ending_line (ending_of why) = ap ending_line c.ending_of.ensures in
    let says : SaysLast (ending_line (ending_of why)) before after old new = last_sooner (ending_line (ending_of why)) before between after old middle new c.in-Err.ensures.fails.1.0 (c.in-Err.ensures.leaves t).said
    (subst (λ (o : Option (List ℕ)). SaysLast o between after middle new) ending (c.finish.ensures.said t)) in
    let refuses : Refuses (in_use (shown Flash old)) (status_of (ending_of why)) before after old new = refuses_fault why used before after old new small first
    (λ e. let rose = subst (λ (f : FormatFault). FormatFaulted f before between) e c.in-Err.ensures.fails.0 in omega (arith, rose, ap (λ (d : Calls). d.failed_reads) c.finish.ensures.idle.0)) says in
    subst (λ (n : ℕ). Refuses (option_or (small_for (Format c.args.geo) size) (in_use (shown Flash old))) n before after old new) (sym (c.finish.ensures.status ∙ ap status_of c.ending_of.ensures))
    (refuses_large (small_for (Format c.args.geo) size) (in_use (shown Flash old)) (status_of (ending_of why)) before after old new c.requires refuses)

pub returns-in-Err-clause-caused : goal.returns-in-Err-clause-caused
returns-in-Err-clause-caused g c =
    let why : FormatFault = c.in-Err.fault in
    let old : World = g.R.Rig.world c.args.rig.now in
    let middle : World = g.R.Rig.world c.format_flash.new.rig in
    let new : World = g.R.Rig.world c.finish.new.rig in
    let before = g.R.Rig.counts c.args.rig.now in
    let between = g.R.Rig.counts c.format_flash.new.rig in
    let after = g.R.Rig.counts c.finish.new.rig in
    let ending : ending_line c.ending_of.result ≡ ending_line (ending_of why) = ap ending_line c.ending_of.ensures in
    let says : (line : List ℕ) → ending_line (ending_of why) ≡ Some line → g.R.Rig.tells → SaysAlone line before after old new = λ line is t. last_sooner (Some line) before between after old middle new c.in-Err.ensures.fails.1.0 (c.in-Err.ensures.leaves t).said
    (subst (λ (o : Option (List ℕ)). SaysLast o between after middle new) (ending ∙ is) (c.finish.ensures.said t)) in
    let caused = fault_caused why (λ line. g.R.Rig.tells → SaysAlone line before after old new) before after
    (λ e. let rose = subst (λ (f : FormatFault). FormatFaulted f before between) e c.in-Err.ensures.fails.0 in omega (arith, rose, ap (λ (d : Calls). d.failed_reads) c.finish.ensures.idle.0))
    (λ e. let rose = subst (λ (f : FormatFault). FormatFaulted f before between) e c.in-Err.ensures.fails.0 in omega (arith, rose, ap (λ (d : Calls). d.failed_writes) c.finish.ensures.idle.0))
    (λ e. let rose = subst (λ (f : FormatFault). FormatFaulted f before between) e c.in-Err.ensures.fails.0 in omega (arith, rose, ap (λ (d : Calls). d.failed_writes) c.finish.ensures.idle.1))
    says in
    let is : c.finish.result ≡ status_of (ending_of why) = c.finish.ensures.status ∙ ap status_of c.ending_of.ensures in (
      ending_of why,
      is,
      fault_two why c.finish.result is,
      caused,
      λ t.
          ending_since (ending_of why) before between after old middle new c.in-Err.ensures.fails.1.0 (more_same old middle (c.in-Err.ensures.leaves t).said) (λ first. (c.in-Err.ensures.leaves t).said)
          (subst (λ (o : Option (List ℕ)). SaysLast o between after middle new) ending (c.finish.ensures.said t)),
    )

pub returns-in-Ok-clause-caused : goal.returns-in-Ok-clause-caused
returns-in-Ok-clause-caused g c =
    let old : World = g.R.Rig.world c.args.rig.now in
    let new : World = g.R.Rig.world c.say_formatted.new.rig in
    let before = g.R.Rig.counts c.args.rig.now in
    let after = g.R.Rig.counts c.say_formatted.new.rig in
    formatted_caused c.say_formatted.result (λ line. g.R.Rig.tells → SaysAlone line before after old new) (λ ending. g.R.Rig.tells → SaysEnding ending before after old new) before after c.say_formatted.ensures.status
    (λ six. let rose = c.say_formatted.ensures.emit six in omega (arith, rose, c.in-Ok.ensures.fails.1.0.emits)) (λ t. tt) (λ t. tt)

pub returns-in-Err-clause-formatted : goal.returns-in-Err-clause-formatted
returns-in-Err-clause-formatted g c = λ t.
    let old : World = g.R.Rig.world c.args.rig.now in
    let new : World = g.R.Rig.world c.finish.new.rig in
    subst (λ (n : ℕ). Formats c.args.geo n (g.R.Rig.counts c.args.rig.now) (g.R.Rig.counts c.finish.new.rig) old new) (sym (c.finish.ensures.status ∙ ap status_of c.ending_of.ensures)) (formats_none c.in-Err.fault c.args.geo _ _ old new)

pub returns-in-Ok-clause-formatted : goal.returns-in-Ok-clause-formatted
returns-in-Ok-clause-formatted g c = λ t.
    let old : World = g.R.Rig.world c.args.rig.now in
    let middle : World = g.R.Rig.world c.format_flash.new.rig in
    let new : World = g.R.Rig.world c.say_formatted.new.rig in
    let line : List ℕ = reply_text reply.Formatted in
    record {
      exact = λ e. c.say_formatted.ensures.exact t e ∙ ap (λ (l : List ℕ). l ++ ended line) (c.in-Ok.ensures.leaves t).said;
      cut = λ e. alone_since line (g.R.Rig.counts c.args.rig.now) (g.R.Rig.counts c.format_flash.new.rig) (g.R.Rig.counts c.say_formatted.new.rig) old middle new c.in-Ok.ensures.fails.1.0 (c.in-Ok.ensures.leaves t).said (c.say_formatted.ensures.said t);
      done = λ ends print flash disk a b. c.in-Ok.ensures.ok t print flash disk
          (subst (λ (d : Device). IsImage d flash) (c.say_formatted.ensures.devices t).0 a) (subst (λ (d : Device). IsImage d disk) (c.say_formatted.ensures.devices t).1 b);
    }
