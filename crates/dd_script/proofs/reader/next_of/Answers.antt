use Rattle.std.proofs.Common.{◌≤◌, ℕ, List, length, subst, sym}
use Rattle.dd_script.specs.Script.{EndsWithin}
use Rattle.dd_script.specs.Reading.{left, fuel, first_line, Fails}
use Rattle.dd_script.specs.declared.pieces.ScriptFault.{ScriptFault}
use Rattle.dd_script.proofs.Commanding.{command_step, bounds_step, passes_step, passes_end, too_long, fails_by}
use Rattle.dd_script.proofs.Handing.{handed_on}
use Rattle.dd_script.proofs.reader.next_of.Goals as goal

pub returns-in_err-next_line-clause-fault : goal.returns-in_err-next_line-clause-fault
returns-in_err-next_line-clause-fault g c =
    let before : List ℕ = left c.args.pieces.now (g.S.Source.rest c.args.source.now) in
    let budget : ℕ = fuel c.args.pieces.now in
    let failed = g.S.Source.failures c.args.source.now in
    let failed_after = g.S.Source.failures c.next_line.new.source in
    let P : Type 0 = g.S.Source.tells → budget ≤ length (first_line before) in
    let Q : Type 0 = g.S.Source.tells → EndsWithin budget c.args.dialect before → ⊥ in
    let held : Fails P c.in_err-next_line.field-0.0 failed failed_after = c.in_err-next_line.ensures.fault in
    handed_on c.from_residual.result _ (λ (fault : ScriptFault). Fails Q fault failed failed_after) c.from_residual.ensures.1
    (λ fault same. subst (λ (f : ScriptFault). Fails Q f failed failed_after) (sym same) (fails_by P Q (λ long t. too_long c.args.dialect budget before (long t)) c.in_err-next_line.field-0.0 failed failed_after held))

pub returns-in-Some-clause-command : goal.returns-in-Some-clause-command
returns-in-Some-clause-command g c = λ t.
    let before = left c.args.pieces.now (g.S.Source.rest c.args.source.now) in
    let after = left c.next_line.new.self (g.S.Source.rest c.next_line.new.source) in
    command_step c.args.dialect c.in-Some.size c.next_line.new.into c.parse.new.into before after c.parse.result (rw c.in-Some.is at (c.in_ok-next_line.ensures.line t)) c.parse.ensures.line

pub returns-in-Some-clause-bounds : goal.returns-in-Some-clause-bounds
returns-in-Some-clause-bounds g c = λ t.
    let before = left c.args.pieces.now (g.S.Source.rest c.args.source.now) in
    let after = left c.next_line.new.self (g.S.Source.rest c.next_line.new.source) in
    bounds_step c.args.dialect c.in-Some.size (fuel c.args.pieces.now) (fuel c.next_line.new.self) c.next_line.new.into c.parse.new.into before after c.parse.result
    (rw c.in-Some.is at (c.in_ok-next_line.ensures.line t)) c.parse.ensures.line (c.in_ok-next_line.ensures.spends t) (c.in_ok-next_line.ensures.inside t)

pub returns-in-Some-clause-passes : goal.returns-in-Some-clause-passes
returns-in-Some-clause-passes g c = λ t.
    let before = left c.args.pieces.now (g.S.Source.rest c.args.source.now) in
    let after = left c.next_line.new.self (g.S.Source.rest c.next_line.new.source) in
    passes_step c.args.dialect c.in-Some.size c.next_line.new.into c.parse.new.into before after c.parse.result (rw c.in-Some.is at (c.in_ok-next_line.ensures.line t)) c.parse.ensures.line

pub returns-in-None-clause-passes : goal.returns-in-None-clause-passes
returns-in-None-clause-passes g c = λ t.
    let before = left c.args.pieces.now (g.S.Source.rest c.args.source.now) in
    let after = left c.next_line.new.self (g.S.Source.rest c.next_line.new.source) in
    let none = rw c.in-None.is at (c.in_ok-next_line.ensures.line t) in
    passes_end c.args.dialect before after none.0 none.1
