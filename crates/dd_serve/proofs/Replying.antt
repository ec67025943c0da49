-- The line that answers a read, and the state behind it.
use Rattle.std.proofs.Common.{◌≡◌, inr, ℕ, ◌<◌, ◌≤◌, ◌^◌, true, false, List, [], ◌∷◌, refl, sym, ◌∙◌, ap, subst, arith, Some, Ok, Err}
use Rattle.std.specs.Prelude.{Option, Result, option_map, IfSome, IfErr}
use Rattle.dd_block.specs.declared.print.Fp.{Fp}
use Rattle.dd_rig.specs.declared.device.Dev.{Dev}
use Rattle.dd_rig.specs.declared.tallies.Counts.{Counts}
use Rattle.dd_rig.specs.Counts.{Rose, NeverFalls, calls_of}
use Rattle.dd_rig.specs.World.{World}
use Rattle.dd_record.specs.declared.row.BRow.{BRow}
use Rattle.dd_model.specs.declared.kind.Kind.{Kind}
use Rattle.dd_model.specs.declared.done.Done.{Done}
use Rattle.dd_model.specs.Orphans.{orphaned_addresses, orphaned_blocks}
use Rattle.dd_model.specs.declared.orphans.Orphans.{Orphans}
use Rattle.dd_script.proofs.LineEnds.{stat_no_end}
use Rattle.dd_model.specs.State.{Sizes, State, content}
use Rattle.dd_model.specs.Reference.{Tells, read_answer}
use Rattle.dd_model.specs.Reference as step
use Rattle.dd_script.specs.Answers.{acknowledged_by, MayFault}
use Rattle.dd_script.specs.Command.{Command, read, stat, quit, bad, after}
use Rattle.dd_script.specs.Line.{told}
use Rattle.dd_script.specs.Output.{reply_line, read_line}
use Rattle.dd_script.specs.Text.{HasNoEnd, read_text, bye_text, stat_text, bad_text, fault_text}
use Rattle.dd_script.specs.declared.line.BadKind.{BadKind}
use Rattle.dd_script.specs.declared.line.Line.{Line}
use Rattle.dd_script.proofs.LineWords.{read_acks, fault_acks, bad_acks, stat_acks, no_acks, fault_no_end, bye_acks, after_reply, after_fault}
use Rattle.dd_loop.specs.declared.cache.Written.{Written}
use Rattle.dd_loop.specs.declared.halt.Halt.{Halt}
use Rattle.dd_loop.specs.Answering.{HasFault, Pays, GoesOnWith, WritesLine, WritesAnswer}
use Rattle.dd_loop.specs.Standing.{AllStandForEither}
use Rattle.dd_loop.proofs.FaultLines.{reply_has_none, fault_has, fault_counts, reply_counts}
use Rattle.dd_serve.specs.Answering.{HoldsState, StaysBy, CostsLines}
use Rattle.dd_serve.specs.Calls.{AsksFor, AsksForLine, slots_for, looks_for, writes_for}
use Rattle.dd_serve.specs.Laws.{keeps_images}
use Rattle.dd_serve.specs.Scratch.{ScratchView, IsSound, Scratched, scratch_sizes, scratch_state}
use Rattle.dd_serve.proofs.Costs.{line_asks, begun_asks, asks_read, asks_fault, asks_bye, asks_stat, asks_bad}
use Rattle.std.proofs.Common.{inl}

-- what the code answers is the line of the definition
pub read_line_is : (print : List ℕ → Fp) (answer : step.Answer) (done : Done) (block content : List ℕ) → Tells print done answer → block ≡ content
    → read_text done.kind block done.cut.out (option_map (λ (row : BRow). row.fp) done.cut.drop) ≡ read_line print content answer
read_line_is print answer done block content told e =
    ap (λ (k : Kind). read_text k block done.cut.out (option_map (λ (row : BRow). row.fp) done.cut.drop)) told.kind
    ∙ ap (λ (b : List ℕ). read_text answer.kind b done.cut.out (option_map (λ (row : BRow). row.fp) done.cut.drop)) e
    ∙ ap (λ (o : Option ℕ). read_text answer.kind content o (option_map (λ (row : BRow). row.fp) done.cut.drop)) told.out
    ∙ ap (λ (d : Option Fp). read_text answer.kind content answer.out d) told.drop

-- a read that failed leaves rows and devices
pub sound_left : (print : List ℕ → Fp) (old new : ScratchView) (middle world : World) → new ≡ old → world ≡ middle → IsSound print old middle → IsSound print new world
sound_left print old new middle world same e h = subst (λ (k : ScratchView). IsSound print k world) (sym same) (subst (λ (w : World). IsSound print old w) (sym e) h)

pub state_left : (old new : ScratchView) (middle world : World) → new ≡ old → world ≡ middle → scratch_state new world ≡ scratch_state old middle
state_left old new middle world same e = ap (λ (k : ScratchView). scratch_state k world) same ∙ ap (scratch_state old) e

-- A line answers a command, behind which the rows and the devices stand for the state after it.
module _ (print : List ℕ → Fp) (old new : ScratchView) (first world : World) (before end : Counts) (falls : NeverFalls before end) (since : Scratched first world) (same : scratch_sizes new ≡ scratch_sizes old) (sound : IsSound print new world) (c s : State) where
  replies : (command : Command) (line : List ℕ) → HasNoEnd line → line ≡ reply_line print (scratch_sizes old) s command → scratch_state new world ≡ after (scratch_sizes old) s command
      → AsksForLine (scratch_sizes old) line before end → IfSome (acknowledged_by line) (λ n. n ≤ s.count)
      → GoesOnWith print (scratch_sizes old) (λ committed held. HoldsState print new first world held) (λ lines. Pays (CostsLines old new) before end lines 0) c s command false line
  replies command line no_end is state asks sure =
      let none : HasFault false (line ∷ []) = reply_has_none print (scratch_sizes old) s command line is in
      record {
        no_end = no_end;
        one = is;
        fault = none;
        committed = s;
        either = inr refl;
        sure = sure;
        kept = record { sound = sound; is = after_reply print (scratch_sizes old) s command line is ∙ sym state; since = since };
        paid = (record { same = same; asks = line_asks (scratch_sizes old) line before end asks }, reply_counts line before end none falls);
      }

  pub replies_read : (address : ℕ) (block : List ℕ) (done : Done) → HasNoEnd (read_text done.kind block done.cut.out (option_map (λ (row : BRow). row.fp) done.cut.drop))
      → block ≡ content s.array address → Tells print done (read_answer (scratch_sizes old) s address) → scratch_state new world ≡ after (scratch_sizes old) s (read address)
      → AsksFor (scratch_sizes old).block (scratch_sizes old).bcap (slots_for done.kind block) (looks_for done.kind) (writes_for done.kind) before end
      → GoesOnWith print (scratch_sizes old) (λ committed held. HoldsState print new first world held) (λ lines. Pays (CostsLines old new) before end lines 0) c s (read address) false
      (read_text done.kind block done.cut.out (option_map (λ (row : BRow). row.fp) done.cut.drop))
  replies_read address block done no_end block_is told state asks =
      let fp : Option Fp = option_map (λ (row : BRow). row.fp) done.cut.drop in
      let line : List ℕ = read_text done.kind block done.cut.out fp in
      replies (read address) line no_end (read_line_is print (read_answer (scratch_sizes old) s address) done block (content s.array address) told block_is) state
      (asks_read (scratch_sizes old) done.kind block done.cut.out fp before end asks) (no_acks line s.count (read_acks done.kind block done.cut.out fp))

  -- a fault line, behind which the state is what it was
  pub faults : (command : Command) (device : Dev) → MayFault command (fault_text device) → scratch_state new world ≡ s → Rose (calls_of device before).failed_reads (calls_of device end).failed_reads
      → AsksFor (scratch_sizes old).block (scratch_sizes old).bcap 0 1 0 before end
      → GoesOnWith print (scratch_sizes old) (λ committed held. HoldsState print new first world held) (λ lines. Pays (CostsLines old new) before end lines 0) c s command true (fault_text device)
  faults command device may state rose asks = record {
    no_end = fault_no_end device;
    one = may;
    fault = fault_has device;
    committed = s;
    either = inr refl;
    sure = no_acks (fault_text device) s.count (fault_acks device);
    kept = record { sound = sound; is = after_fault print (scratch_sizes old) s command device ∙ sym state; since = since };
    paid = (record { same = same; asks = line_asks (scratch_sizes old) (fault_text device) before end (asks_fault (scratch_sizes old) device before end asks) }, fault_counts device before end falls rose);
  }

-- A line that asks no device.
module _ (print : List ℕ → Fp) (scratch : ScratchView) (first world : World) (counts : Counts) (falls : NeverFalls counts counts) (c s : State) (h : HoldsState print scratch first world s) where
  pub replies_bye : (n : ℕ) → n < 2 ^ 64 → n ≡ scratch.count → HasNoEnd (bye_text n)
      → GoesOnWith print (scratch_sizes scratch) (λ committed held. HoldsState print scratch first world held) (λ lines. Pays (CostsLines scratch scratch) counts counts lines 0) c s quit false (bye_text n)
  replies_bye n fits is no_end =
      let count : n ≡ s.count = is ∙ ap (λ (t : State). t.count) (sym h.is) in
      replies print scratch scratch first world counts counts falls h.since refl h.sound c s quit (bye_text n) no_end (ap bye_text count) (sym h.is) (asks_bye (scratch_sizes scratch) n counts) (bye_acks n s.count fits (omega (arith, count)))

  pub replies_stat : (orphans : Orphans) → orphans ≡ record { a = orphaned_addresses (scratch_state scratch world); b = orphaned_blocks (scratch_state scratch world) }
      → GoesOnWith print (scratch_sizes scratch) (λ committed held. HoldsState print scratch first world held) (λ lines. Pays (CostsLines scratch scratch) counts counts lines 0) c s stat false (stat_text scratch.count orphans.a orphans.b)
  replies_stat orphans are =
      let line : List ℕ = stat_text scratch.count orphans.a orphans.b in
      let count : scratch.count ≡ s.count = ap (λ (t : State). t.count) (sym h.is) in
      let here : orphans ≡ record { a = orphaned_addresses s; b = orphaned_blocks s } = are ∙ ap (λ (t : State). record { a = orphaned_addresses t; b = orphaned_blocks t }) (sym h.is) in
      replies print scratch scratch first world counts counts falls h.since refl h.sound c s stat line (stat_no_end scratch.count orphans.a orphans.b)
      (ap (λ n. stat_text n orphans.a orphans.b) count ∙ ap (λ (o : Orphans). stat_text s.count o.a o.b) here) (sym h.is) (asks_stat (scratch_sizes scratch) scratch.count orphans.a orphans.b counts)
      (no_acks line s.count (stat_acks scratch.count orphans.a orphans.b))

  pub replies_bad : (kind : BadKind) → HasNoEnd (bad_text kind)
      → GoesOnWith print (scratch_sizes scratch) (λ committed held. HoldsState print scratch first world held) (λ lines. Pays (CostsLines scratch scratch) counts counts lines 0) c s (bad kind) false (bad_text kind)
  replies_bad kind no_end =
      replies print scratch scratch first world counts counts falls h.since refl h.sound c s (bad kind) (bad_text kind) no_end refl (sym h.is) (asks_bad (scratch_sizes scratch) kind counts) (no_acks (bad_text kind) s.count (bad_acks kind))

-- the line that answers a line that tells this command
pub told_by : (print : List ℕ → Fp) (sizes : Sizes) (KeptNow : (committed held : State) → Type 0) (PaidNow : List (List ℕ) → Type 0) (c s : State) (block : List ℕ) (line known : Line) (command : Command) (written : Written) (text : List ℕ)
    → line ≡ known → told block known ≡ Some command → WritesLine print sizes KeptNow PaidNow c s command written text → WritesAnswer print sizes KeptNow PaidNow c s (told block line) (Some written) text
told_by print sizes KeptNow PaidNow c s block line known command written text is says w =
    subst (λ (l : Line). WritesAnswer print sizes KeptNow PaidNow c s (told block l) (Some written) text) (sym is)
    (subst (λ (o : Option Command). WritesAnswer print sizes KeptNow PaidNow c s o (Some written) text) (sym says) w)

-- where a write failed a crash leaves what a replay may leave, and one command was begun
pub halts_all : (result : Result (Option Written) Halt) (old new : ScratchView) (first world : World) (before end : Counts) (c s : State) → Scratched first world → scratch_sizes new ≡ scratch_sizes old
    → IfErr result (λ halt. AsksFor (scratch_sizes old).block (scratch_sizes old).bcap 0 1 1 before end)
    → IfErr result (λ halt. AllStandForEither (StaysBy first) c s world × CostsLines old new [] 1 before end)
halts_all (Ok written) old new first world before end c s since same asks = tt
halts_all (Err halt) old new first world before end c s since same asks = (
  λ flash disk flash_image disk_image. inl (keeps_images first world since flash disk flash_image disk_image),
  record { same = same; asks = begun_asks (scratch_sizes old) before end asks },
)
