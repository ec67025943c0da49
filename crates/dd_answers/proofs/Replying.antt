-- The line that answers a call of the store, and the state behind it.
use Rattle.std.proofs.Common.{◌≡◌, inr, ℕ, ◌<◌, ◌≤◌, ◌^◌, Bool, true, false, List, [], ◌∷◌, take, refl, sym, ◌∙◌, ap, subst, arith, Some, None, Ok, Err, IfOk}
use Rattle.std.specs.Prelude.{Option, Result, option_map, IfSome, IfErr}
use Rattle.dd_block.specs.declared.print.Fp.{Fp}
use Rattle.dd_rig.specs.declared.device.Dev.{Dev}
use Rattle.dd_rig.specs.declared.device.Dev.TheVariants as dev
use Rattle.dd_rig.specs.declared.tallies.Counts.{Counts}
use Rattle.dd_rig.specs.Clock.{Clock, Elapses}
use Rattle.dd_rig.specs.Counts.{NeverFalls}
use Rattle.dd_rig.specs.World.{World}
use Rattle.dd_record.specs.declared.row.BRow.{BRow}
use Rattle.dd_model.specs.declared.kind.Kind.{Kind}
use Rattle.dd_model.specs.declared.done.Done.{Done}
use Rattle.dd_model.specs.State.{Sizes, State, content}
use Rattle.dd_model.specs.Reference.{Tells, read_answer, write_answer}
use Rattle.dd_model.specs.Reference as reference
use Rattle.dd_model.specs.Orphans.{orphaned_addresses, orphaned_blocks}
use Rattle.dd_model.specs.declared.orphans.Orphans.{Orphans}
use Rattle.dd_script.proofs.LineEnds.{stat_no_end}
use Rattle.dd_script.specs.Answers.{acknowledged_by, MayFault}
use Rattle.dd_script.specs.Command.{Command, read, write, flush, clean, tick, stat, quit, bad, after}
use Rattle.dd_script.specs.Output.{reply_line, read_line, write_line}
use Rattle.dd_script.specs.Text.{HasNoEnd, ended, read_text, write_text, flushed_text, cleaned_text, ticked_text, stat_text, bye_text, bad_text, fault_text}
use Rattle.dd_script.specs.declared.line.BadKind.{BadKind}
use Rattle.dd_script.specs.declared.line.Line.{Line}
use Rattle.dd_script.specs.Line.{told}
use Rattle.dd_script.proofs.LineWords.{read_acks, write_acks, fault_acks, bad_acks, cleaned_acks, ticked_acks, stat_acks, no_acks, fault_no_end, flushed_acks, bye_acks, after_reply, after_fault}
use Rattle.dd_store.specs.declared.fault.StoreFault.{StoreFault}
use Rattle.dd_store.specs.declared.fault.StoreFault.TheVariants.{FlashRead, DiskRead, FlashWrite, DiskWrite}
use Rattle.dd_store.specs.Committing.{StandForEither as StoreStandsForEither}
use Rattle.dd_store.specs.Keeping.{StoreView, Kept}
use Rattle.dd_store.specs.Bringing.{IsReadFault}
use Rattle.dd_store.specs.Serving.{GoesOn, Leaves, Faulted}
use Rattle.dd_store.proofs.Moments.{elapses_both}
use Rattle.dd_loop.specs.declared.cache.Written.{Written}
use Rattle.dd_loop.specs.declared.halt.Halt.{Halt}
use Rattle.dd_loop.specs.Answering.{CountsFaults, HasFault, Pays, GoesOnWith, WritesLine, WritesAnswer}
use Rattle.dd_loop.specs.Standing.{AllStandForEither, WithinCall}
use Rattle.dd_loop.proofs.FaultLines.{reply_has_none, fault_has, fault_counts, reply_counts}
use Rattle.dd_answers.specs.Answering.{StandsBy, TellsFault}
use Rattle.dd_store.specs.Meaning.{Basis}

-- a crash within a call of the store leaves the output as it was
pub within_call : (basis : Basis) (print : List ℕ → Fp) (c s : State) (old : World) {first last : Clock} → Elapses first last (λ o. StoreStandsForEither basis print c s o.flash o.disk) → Elapses first last (λ o. o.out ≡ old.said)
    → Elapses first last (WithinCall (StandsBy basis print) c s old)
within_call basis print c s old crash unsaid = elapses_both crash unsaid

-- what the code answers is the line of the definition
read_line_is : (print : List ℕ → Fp) (answer : reference.Answer) (done : Done) (block content : List ℕ) → Tells print done answer → block ≡ content
    → read_text done.kind block done.cut.out (option_map (λ (row : BRow). row.fp) done.cut.drop) ≡ read_line print content answer
read_line_is print answer done block content told e =
    ap (λ (k : Kind). read_text k block done.cut.out (option_map (λ (row : BRow). row.fp) done.cut.drop)) told.kind
    ∙ ap (λ (b : List ℕ). read_text answer.kind b done.cut.out (option_map (λ (row : BRow). row.fp) done.cut.drop)) e
    ∙ ap (λ (o : Option ℕ). read_text answer.kind content o (option_map (λ (row : BRow). row.fp) done.cut.drop)) told.out
    ∙ ap (λ (d : Option Fp). read_text answer.kind content answer.out d) told.drop

write_line_is : (print : List ℕ → Fp) (answer : reference.Answer) (done : Done) → Tells print done answer
    → write_text done.kind done.cut.out (option_map (λ (row : BRow). row.fp) done.cut.drop) ≡ write_line print answer
write_line_is print answer done told =
    ap (λ (k : Kind). write_text k done.cut.out (option_map (λ (row : BRow). row.fp) done.cut.drop)) told.kind
    ∙ ap (λ (o : Option ℕ). write_text answer.kind o (option_map (λ (row : BRow). row.fp) done.cut.drop)) told.out
    ∙ ap (λ (d : Option Fp). write_text answer.kind answer.out d) told.drop

module _ (basis : Basis) (print : List ℕ → Fp) (sizes : Sizes) (store : StoreView) (world : World) (Costs : List (List ℕ) → ℕ → Counts → Counts → Type 0) (before end : Counts) (falls : NeverFalls before end) (c s : State) where
  -- a reply, behind which the store goes on
  pub replies : (command : Command) (line : List ℕ) → HasNoEnd line → line ≡ reply_line print sizes s command → (g : GoesOn basis print c s store world (after sizes s command))
      → IfSome (acknowledged_by line) (λ n. n ≤ g.committed.count) → Costs (line ∷ []) 0 before end
      → GoesOnWith print sizes (λ committed held. Kept basis print store world committed held) (λ lines. Pays Costs before end lines 0) c s command false line
  replies command line no_end is g sure cost =
      let none : HasFault false (line ∷ []) = reply_has_none print sizes s command line is in
      record {
        no_end = no_end;
        one = is;
        fault = none;
        committed = g.committed;
        either = g.either;
        sure = sure;
        kept = subst (λ (t : State). Kept basis print store world g.committed t) (sym (after_reply print sizes s command line is)) g.kept;
        paid = (cost, reply_counts line before end none falls);
      }

  pub replies_read : (address : ℕ) (block : List ℕ) (done : Done) → HasNoEnd (read_text done.kind block done.cut.out (option_map (λ (row : BRow). row.fp) done.cut.drop))
      → block ≡ content s.array address → Tells print done (read_answer sizes s address) → GoesOn basis print c s store world (after sizes s (read address))
      → Costs (read_text done.kind block done.cut.out (option_map (λ (row : BRow). row.fp) done.cut.drop) ∷ []) 0 before end
      → GoesOnWith print sizes (λ committed held. Kept basis print store world committed held) (λ lines. Pays Costs before end lines 0) c s (read address) false (read_text done.kind block done.cut.out (option_map (λ (row : BRow). row.fp) done.cut.drop))
  replies_read address block done no_end same told g cost =
      let fp : Option Fp = option_map (λ (row : BRow). row.fp) done.cut.drop in
      let line : List ℕ = read_text done.kind block done.cut.out fp in
      replies (read address) line no_end (read_line_is print (read_answer sizes s address) done block (content s.array address) told same) g
      (no_acks line g.committed.count (read_acks done.kind block done.cut.out fp)) cost

  pub replies_write : (address : ℕ) (block : List ℕ) (done : Done) → HasNoEnd (write_text done.kind done.cut.out (option_map (λ (row : BRow). row.fp) done.cut.drop))
      → Tells print done (write_answer sizes s address block) → GoesOn basis print c s store world (after sizes s (write address block))
      → Costs (write_text done.kind done.cut.out (option_map (λ (row : BRow). row.fp) done.cut.drop) ∷ []) 0 before end
      → GoesOnWith print sizes (λ committed held. Kept basis print store world committed held) (λ lines. Pays Costs before end lines 0) c s (write address block) false (write_text done.kind done.cut.out (option_map (λ (row : BRow). row.fp) done.cut.drop))
  replies_write address block done no_end told g cost =
      let fp : Option Fp = option_map (λ (row : BRow). row.fp) done.cut.drop in
      let line : List ℕ = write_text done.kind done.cut.out fp in
      replies (write address block) line no_end (write_line_is print (write_answer sizes s address block) done told) g
      (no_acks line g.committed.count (write_acks done.kind done.cut.out fp)) cost

  -- behind a commit
  pub replies_flush : (n : ℕ) → n < 2 ^ 64 → HasNoEnd (flushed_text n) → n ≡ s.count → Kept basis print store world s s → Costs (flushed_text n ∷ []) 0 before end
      → GoesOnWith print sizes (λ committed held. Kept basis print store world committed held) (λ lines. Pays Costs before end lines 0) c s flush false (flushed_text n)
  replies_flush n fits no_end is kept cost = replies flush (flushed_text n) no_end (ap flushed_text is) (record { committed = s; either = inr refl; kept = kept }) (flushed_acks n s.count fits (omega (arith, is))) cost

  pub replies_bye : (n : ℕ) → n < 2 ^ 64 → HasNoEnd (bye_text n) → n ≡ s.count → Kept basis print store world s s → Costs (bye_text n ∷ []) 0 before end
      → GoesOnWith print sizes (λ committed held. Kept basis print store world committed held) (λ lines. Pays Costs before end lines 0) c s quit false (bye_text n)
  replies_bye n fits no_end is kept cost = replies quit (bye_text n) no_end (ap bye_text is) (record { committed = s; either = inr refl; kept = kept }) (bye_acks n s.count fits (omega (arith, is))) cost

  pub replies_clean : HasNoEnd cleaned_text → GoesOn basis print c s store world s → Costs (cleaned_text ∷ []) 0 before end
      → GoesOnWith print sizes (λ committed held. Kept basis print store world committed held) (λ lines. Pays Costs before end lines 0) c s clean false cleaned_text
  replies_clean no_end g cost = replies clean cleaned_text no_end refl g (no_acks cleaned_text g.committed.count cleaned_acks) cost

  pub replies_tick : HasNoEnd ticked_text → GoesOn basis print c s store world s → Costs (ticked_text ∷ []) 0 before end
      → GoesOnWith print sizes (λ committed held. Kept basis print store world committed held) (λ lines. Pays Costs before end lines 0) c s tick false ticked_text
  replies_tick no_end g cost = replies tick ticked_text no_end refl g (no_acks ticked_text g.committed.count ticked_acks) cost

  pub replies_stat : (count : ℕ) (orphans : Orphans) → count ≡ s.count → orphans ≡ record { a = orphaned_addresses s; b = orphaned_blocks s } → GoesOn basis print c s store world s
      → Costs (stat_text count orphans.a orphans.b ∷ []) 0 before end
      → GoesOnWith print sizes (λ committed held. Kept basis print store world committed held) (λ lines. Pays Costs before end lines 0) c s stat false (stat_text count orphans.a orphans.b)
  replies_stat count orphans is counts g cost =
      let line : List ℕ = stat_text count orphans.a orphans.b in
      replies stat line (stat_no_end count orphans.a orphans.b) (ap (λ n. stat_text n orphans.a orphans.b) is ∙ ap (λ (o : Orphans). stat_text s.count o.a o.b) counts) g
      (no_acks line g.committed.count (stat_acks count orphans.a orphans.b)) cost

  pub replies_bad : (kind : BadKind) → HasNoEnd (bad_text kind) → GoesOn basis print c s store world s → Costs (bad_text kind ∷ []) 0 before end
      → GoesOnWith print sizes (λ committed held. Kept basis print store world committed held) (λ lines. Pays Costs before end lines 0) c s (bad kind) false (bad_text kind)
  replies_bad kind no_end g cost = replies (bad kind) (bad_text kind) no_end refl g (no_acks (bad_text kind) g.committed.count (bad_acks kind)) cost

  -- a fault line, behind which the store holds what it held
  faults : (command : Command) (device : Dev) → MayFault command (fault_text device) → CountsFaults (fault_text device ∷ []) before end → GoesOn basis print c s store world s → Costs (fault_text device ∷ []) 0 before end
      → GoesOnWith print sizes (λ committed held. Kept basis print store world committed held) (λ lines. Pays Costs before end lines 0) c s command true (fault_text device)
  faults command device may paid g cost = record {
    no_end = fault_no_end device;
    one = may;
    fault = fault_has device;
    committed = g.committed;
    either = g.either;
    sure = no_acks (fault_text device) g.committed.count (fault_acks device);
    kept = subst (λ (t : State). Kept basis print store world g.committed t) (sym (after_fault print sizes s command device)) g.kept;
    paid = (cost, paid);
  }

  written_fault : (command : Command) (device : Dev) (written : Written) (text : List ℕ) → MayFault command (fault_text device) → CountsFaults (fault_text device ∷ []) before end
      → (written.faulted ≡ true) × (take written.size text ≡ ended (fault_text device)) → GoesOn basis print c s store world s → Costs (fault_text device ∷ []) 0 before end
      → WritesLine print sizes (λ committed held. Kept basis print store world committed held) (λ lines. Pays Costs before end lines 0) c s command written text
  written_fault command device written text may paid told g cost =
      (fault_text device, told.1, subst (λ (b : Bool). GoesOnWith print sizes (λ committed held. Kept basis print store world committed held) (λ lines. Pays Costs before end lines 0) c s command b (fault_text device)) (sym told.0) (faults command device may paid g cost))

  -- which faults a command may tell: of the flash, and a read of the disk too
  pub tells_fault : (T : Type 0) (command : Command) (next : State) (fault : StoreFault) (result : Result Written Halt) (text : List ℕ)
      → (fault ≡ FlashRead → MayFault command (fault_text dev.Flash)) → (fault ≡ DiskRead → MayFault command (fault_text dev.Disk))
      → TellsFault fault result text → Leaves {T = T} basis print (Err fault) c s next store world → Faulted fault before end → (IsReadFault fault → (device : Dev) → Costs (fault_text device ∷ []) 0 before end)
      → IfOk result (λ written. WritesLine print sizes (λ committed held. Kept basis print store world committed held) (λ lines. Pays Costs before end lines 0) c s command written text)
  tells_fault T command next FlashRead (Ok written) text flash disk told left rose cost = written_fault command dev.Flash written text (flash refl) (fault_counts dev.Flash before end falls rose) told left (cost tt dev.Flash)
  tells_fault T command next FlashRead (Err halt) text flash disk told left rose cost = tt
  tells_fault T command next DiskRead (Ok written) text flash disk told left rose cost = written_fault command dev.Disk written text (disk refl) (fault_counts dev.Disk before end falls rose) told left (cost tt dev.Disk)
  tells_fault T command next DiskRead (Err halt) text flash disk told left rose cost = tt
  tells_fault T command next FlashWrite (Ok written) text flash disk told left rose cost = absurd told
  tells_fault T command next FlashWrite (Err halt) text flash disk told left rose cost = tt
  tells_fault T command next DiskWrite (Ok written) text flash disk told left rose cost = absurd told
  tells_fault T command next DiskWrite (Err halt) text flash disk told left rose cost = tt

-- where a call halts a crash now leaves one of the two, and the line was begun
pub halts_either : (T : Type 0) (basis : Basis) (print : List ℕ → Fp) (c s next : State) (store : StoreView) (world : World) (Cost : Type 0) → Cost → (fault : StoreFault) (result : Result Written Halt) (text : List ℕ) → TellsFault fault result text
    → Leaves {T = T} basis print (Err fault) c s next store world → IfErr result (λ halt. AllStandForEither (StandsBy basis print) c s world × Cost)
halts_either T basis print c s next store world Cost cost FlashRead (Ok written) text told left = tt
halts_either T basis print c s next store world Cost cost FlashRead (Err halt) text told left = absurd told
halts_either T basis print c s next store world Cost cost DiskRead (Ok written) text told left = tt
halts_either T basis print c s next store world Cost cost DiskRead (Err halt) text told left = absurd told
halts_either T basis print c s next store world Cost cost FlashWrite (Ok written) text told left = tt
halts_either T basis print c s next store world Cost cost FlashWrite (Err halt) text told left = (left, cost)
halts_either T basis print c s next store world Cost cost DiskWrite (Ok written) text told left = tt
halts_either T basis print c s next store world Cost cost DiskWrite (Err halt) text told left = (left, cost)

-- the line that answers a line that tells this command
pub told_by : (print : List ℕ → Fp) (sizes : Sizes) (KeptNow : (committed held : State) → Type 0) (PaidNow : List (List ℕ) → Type 0) (c s : State) (block : List ℕ) (line known : Line) (command : Command) (written : Written) (text : List ℕ)
    → line ≡ known → told block known ≡ Some command → WritesLine print sizes KeptNow PaidNow c s command written text → WritesAnswer print sizes KeptNow PaidNow c s (told block line) (Some written) text
told_by print sizes KeptNow PaidNow c s block line known command written text is says w =
    subst (λ (l : Line). WritesAnswer print sizes KeptNow PaidNow c s (told block l) (Some written) text) (sym is)
    (subst (λ (o : Option Command). WritesAnswer print sizes KeptNow PaidNow c s o (Some written) text) (sym says) w)

-- what an answer keeps by one account, it keeps by another
module _ (print : List ℕ → Fp) (sizes : Sizes) (KeptThen KeptNow : (committed held : State) → Type 0) (Paid : List (List ℕ) → Type 0)
    (keeps : (one another : State) → KeptThen one another → KeptNow one another) (c s : State) where
  line_by : (command : Command) (written : Written) (text : List ℕ) → WritesLine print sizes KeptThen Paid c s command written text → WritesLine print sizes KeptNow Paid c s command written text
  line_by command written text w = (
    w.0,
    w.1,
    record {
      no_end = w.2.no_end;
      one = w.2.one;
      fault = w.2.fault;
      committed = w.2.committed;
      either = w.2.either;
      sure = w.2.sure;
      kept = keeps w.2.committed _ w.2.kept;
      paid = w.2.paid;
    },
  )

  answer_by : (o : Option Command) (written : Option Written) (text : List ℕ) → WritesAnswer print sizes KeptThen Paid c s o written text → WritesAnswer print sizes KeptNow Paid c s o written text
  answer_by None None text w = (keeps c s w.0, w.1)
  answer_by None (Some written) text w = absurd w
  answer_by (Some command) None text w = absurd w
  answer_by (Some command) (Some written) text w = line_by command written text w

  pub answers_by : (o : Option Command) (result : Result (Option Written) Halt) (text : List ℕ) → IfOk result (λ written. WritesAnswer print sizes KeptThen Paid c s o written text)
      → IfOk result (λ written. WritesAnswer print sizes KeptNow Paid c s o written text)
  answers_by o (Ok written) text w = answer_by o written text w
  answers_by o (Err halt) text w = tt
