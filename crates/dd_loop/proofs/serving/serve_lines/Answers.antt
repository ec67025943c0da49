use Rattle.std.proofs.Common.{◌≡◌, ◌+◌, inl, ℕ, Bool, false, List, [], take, refl, sym, ◌∙◌, subst, arith}
use Rattle.std.specs.Prelude.{Option, ◌||◌}
use Rattle.dd_rig.specs.World.{World}
use Rattle.dd_rig.specs.Clock.{Elapses}
use Rattle.dd_rig.proofs.Falling.{falls_self, falls_trans}
use Rattle.dd_rig.proofs.Moments.{starts, goes_on}
use Rattle.dd_model.specs.State.{State}
use Rattle.dd_script.specs.Answers.{answered_by}
use Rattle.dd_script.specs.Command.{Command, after_all}
use Rattle.dd_script.specs.Line.{told}
use Rattle.dd_script.specs.Reading.{left, fuel, fronted, quits}
use Rattle.dd_script.specs.Script.{commands_of}
use Rattle.dd_script.proofs.Commanding.{burns_other, same_quits}
use Rattle.dd_script.proofs.Handing.{handed_on}
use Rattle.dd_loop.specs.declared.halt.Halt.{Halt}
use Rattle.dd_loop.specs.declared.halt.Halt.TheVariants.{Stopped}
use Rattle.dd_loop.specs.Answering.{Pays, AnswersLine, WithinLine, CutsLine}
use Rattle.dd_loop.specs.Serving.{ServedUpTo}
use Rattle.dd_loop.specs.Standing.{AllStand, AllStandForEither}
use Rattle.dd_loop.specs.Terms.{Terms, dialect_in}
use Rattle.dd_script.specs.Line.{IsIn}
use Rattle.dd_script.specs.declared.dialect.Dialect.{Dialect}
use Rattle.dd_loop.proofs.Faults.{counts_none}
use Rattle.dd_loop.proofs.Keeping.{SomeKept, some_after, some_moments}
use Rattle.dd_loop.proofs.More.{more_both, more_same}
use Rattle.dd_loop.proofs.Paying.{pays_more, pays_begun, pays_cut}
use Rattle.dd_loop.proofs.Reading.{same_front, bounds_for, passes_for, commands_some}
use Rattle.dd_loop.proofs.Standing.{Going, going_first, going_line, prefix_within, halts_between, halts_within, served_all, after_front, front_quit, front_other}
use Rattle.dd_loop.proofs.Taken.{goes_first, goes_on as goes_through, taken_to}
use Rattle.dd_loop.proofs.serving.serve_lines.Goals as goal

pub lines-init : goal.lines-init
lines-init g c = record {
  going = λ t u first start kept.
      let terms : Terms = g.C.Cache.terms c.args.cache.now in
      let counts = g.R.Rig.counts c.args.rig.now in
      going_first (g.C.Cache.stands terms first) terms.print terms.sizes start (commands_of (dialect_in terms) (left c.args.reader.now (g.S.Source.rest c.args.source.now))) (g.R.Rig.world c.args.rig.now).said
      (g.C.Cache.kept c.args.cache.now first (g.R.Rig.world c.args.rig.now)) (λ lines. Pays (g.C.Cache.costs c.args.cache.now c.args.cache.now) counts counts lines 0) kept
      (g.met.C.Cache.free c.args.cache.now counts, counts_none counts counts (falls_self counts));
  crash = λ t u first start kept. starts (g.R.Rig.clock c.args.rig.now) _;
  holds = λ t first one s kept. record { committed = one; held = s; kept = kept };
  moments = λ t first one s kept. starts (g.R.Rig.clock c.args.rig.now) _;
  same = refl;
  ready = c.requires.ready;
  falls = falls_self (g.R.Rig.counts c.args.rig.now);
  size = refl;
  does = g.met.C.Cache.does_none (g.C.Cache.terms c.args.cache.now) (g.R.Rig.counts c.args.rig.now);
  leaves = λ t. g.met.C.Cache.leaves_all (g.R.Rig.world c.args.rig.now);
  more = λ t. more_same (g.R.Rig.world c.args.rig.now) (g.R.Rig.world c.args.rig.now) refl;
  later = omega arith;
  bounds = λ u h. h;
  bounds_back = λ u h. h;
  passes = λ u. goes_first (dialect_in (g.C.Cache.terms c.args.cache.now)) (left c.args.reader.now (g.S.Source.rest c.args.source.now));
}

pub returns-in-Err-clause-some : goal.returns-in-Err-clause-some
returns-in-Err-clause-some g c = λ t u first start kept.
    let world = g.R.Rig.world in
    let counts = g.R.Rig.counts in
    let rest = g.S.Source.rest in
    let terms : Terms = g.C.Cache.terms c.args.cache.now in
    let StandFor : (flash disk : List ℕ) → State → Type 0 = g.C.Cache.stands terms first in
    let commands : List Command = commands_of (dialect_in terms) (left c.args.reader.now (rest c.args.source.now)) in
    let said : List ℕ = (world c.args.rig.now).said in
    let old : World = world c.lines.rig in
    let now : List Command = commands_of (dialect_in terms) (left c.lines.reader (rest c.lines.source)) in
    let Kept : (committed held : State) → Type 0 = g.C.Cache.kept c.lines.cache first old in
    let Paid : List (List ℕ) → Type 0 = λ lines. Pays (g.C.Cache.costs c.args.cache.now c.lines.cache) (counts c.args.rig.now) (counts c.lines.rig) lines 0 in
    let so : Going StandFor terms.print terms.sizes start commands said Kept Paid c.lines.faulted old.said now = c.lines.invariant.going t u first start kept in
    let committed : State = after_all terms.sizes start (take so.k (answered_by so.lines commands)) in
    let held : State = after_all terms.sizes start (answered_by so.lines commands) in
    let stands : AllStandForEither StandFor committed held old =
    λ flash disk flash_image disk_image. inl (subst (λ (x : Terms). AllStand (g.C.Cache.stands x first) old committed) c.lines.invariant.same (g.met.C.Cache.stood c.lines.cache first old committed held so.kept) flash disk flash_image disk_image) in
    halts_between StandFor terms.print terms.sizes start commands said Kept Paid c.lines.faulted old.said now so (Pays (g.C.Cache.costs c.args.cache.now c.lines.cache) (counts c.args.rig.now) (counts c.lines.rig))
    (Stopped c.stop_of.result) old refl stands (commands_some (dialect_in terms) (left c.lines.reader (rest c.lines.source)))
    (g.met.C.Cache.begun c.args.cache.now c.lines.cache so.lines (counts c.args.rig.now) (counts c.lines.rig) so.paid.0, so.paid.1)

pub returns-in_err-failed-clause-crash : goal.returns-in_err-failed-clause-crash
returns-in_err-failed-clause-crash g c = λ t u first start kept.
    let world = g.R.Rig.world in
    let counts = g.R.Rig.counts in
    let rest = g.S.Source.rest in
    let terms : Terms = g.C.Cache.terms c.args.cache.now in
    let StandFor : (flash disk : List ℕ) → State → Type 0 = g.C.Cache.stands terms first in
    let commands : List Command = commands_of (dialect_in terms) (left c.args.reader.now (rest c.args.source.now)) in
    let said : List ℕ = (world c.args.rig.now).said in
    let old : World = world c.lines.rig in
    let now : List Command = commands_of (dialect_in terms) (left c.lines.reader (rest c.lines.source)) in
    let Kept : (committed held : State) → Type 0 = g.C.Cache.kept c.lines.cache first old in
    let Paid : List (List ℕ) → Type 0 = λ lines. Pays (g.C.Cache.costs c.args.cache.now c.lines.cache) (counts c.args.rig.now) (counts c.lines.rig) lines 0 in
    let so : Going StandFor terms.print terms.sizes start commands said Kept Paid c.lines.faulted old.said now = c.lines.invariant.going t u first start kept in
    let committed : State = after_all terms.sizes start (take so.k (answered_by so.lines commands)) in
    let held : State = after_all terms.sizes start (answered_by so.lines commands) in
    let new : World = world c.answer_line.new.rig in
    let next : List Command = commands_of (dialect_in terms) (left c.next.new.self (rest c.next.new.source)) in
    let o : Option Command = told c.next.new.into c.in-Ok.line in
    let front : now ≡ fronted o next = same_front c.dialect-dialect.result (dialect_in terms) o (left c.lines.reader (rest c.lines.source)) (left c.next.new.self (rest c.next.new.source)) c.dialect-dialect.ensures.dialect (c.in-Ok.ensures.command u) in
    let call : Elapses (g.R.Rig.clock c.lines.rig) (g.R.Rig.clock c.answer_line.new.rig) (WithinLine terms.print terms.sizes StandFor committed held o old) =
    subst (λ (x : Terms). Elapses (g.R.Rig.clock c.lines.rig) (g.R.Rig.clock c.answer_line.new.rig) (WithinLine x.print x.sizes (g.C.Cache.stands x first) committed held o old)) c.lines.invariant.same
    (c.answer_line.ensures.crash t first committed held so.kept) in
    goes_on (c.lines.invariant.crash t u first start kept) call
    (λ outcome h. prefix_within StandFor terms.print terms.sizes start commands said Kept Paid c.lines.faulted old.said now so o next front old refl outcome h)

pub returns-then-is_quit-clause-crash : goal.returns-then-is_quit-clause-crash
returns-then-is_quit-clause-crash g c = λ t u first start kept.
    let world = g.R.Rig.world in
    let counts = g.R.Rig.counts in
    let rest = g.S.Source.rest in
    let terms : Terms = g.C.Cache.terms c.args.cache.now in
    let StandFor : (flash disk : List ℕ) → State → Type 0 = g.C.Cache.stands terms first in
    let commands : List Command = commands_of (dialect_in terms) (left c.args.reader.now (rest c.args.source.now)) in
    let said : List ℕ = (world c.args.rig.now).said in
    let old : World = world c.lines.rig in
    let now : List Command = commands_of (dialect_in terms) (left c.lines.reader (rest c.lines.source)) in
    let Kept : (committed held : State) → Type 0 = g.C.Cache.kept c.lines.cache first old in
    let Paid : List (List ℕ) → Type 0 = λ lines. Pays (g.C.Cache.costs c.args.cache.now c.lines.cache) (counts c.args.rig.now) (counts c.lines.rig) lines 0 in
    let so : Going StandFor terms.print terms.sizes start commands said Kept Paid c.lines.faulted old.said now = c.lines.invariant.going t u first start kept in
    let committed : State = after_all terms.sizes start (take so.k (answered_by so.lines commands)) in
    let held : State = after_all terms.sizes start (answered_by so.lines commands) in
    let new : World = world c.answer_line.new.rig in
    let next : List Command = commands_of (dialect_in terms) (left c.next.new.self (rest c.next.new.source)) in
    let o : Option Command = told c.next.new.into c.in-Ok.line in
    let front : now ≡ fronted o next = same_front c.dialect-dialect.result (dialect_in terms) o (left c.lines.reader (rest c.lines.source)) (left c.next.new.self (rest c.next.new.source)) c.dialect-dialect.ensures.dialect (c.in-Ok.ensures.command u) in
    let call : Elapses (g.R.Rig.clock c.lines.rig) (g.R.Rig.clock c.answer_line.new.rig) (WithinLine terms.print terms.sizes StandFor committed held o old) =
    subst (λ (x : Terms). Elapses (g.R.Rig.clock c.lines.rig) (g.R.Rig.clock c.answer_line.new.rig) (WithinLine x.print x.sizes (g.C.Cache.stands x first) committed held o old)) c.lines.invariant.same
    (c.answer_line.ensures.crash t first committed held so.kept) in
    goes_on (c.lines.invariant.crash t u first start kept) call
    (λ outcome h. prefix_within StandFor terms.print terms.sizes start commands said Kept Paid c.lines.faulted old.said now so o next front old refl outcome h)

pub returns-in_err-failed-clause-some : goal.returns-in_err-failed-clause-some
returns-in_err-failed-clause-some g c = λ t u first start kept.
    let world = g.R.Rig.world in
    let counts = g.R.Rig.counts in
    let rest = g.S.Source.rest in
    let terms : Terms = g.C.Cache.terms c.args.cache.now in
    let StandFor : (flash disk : List ℕ) → State → Type 0 = g.C.Cache.stands terms first in
    let commands : List Command = commands_of (dialect_in terms) (left c.args.reader.now (rest c.args.source.now)) in
    let said : List ℕ = (world c.args.rig.now).said in
    let old : World = world c.lines.rig in
    let now : List Command = commands_of (dialect_in terms) (left c.lines.reader (rest c.lines.source)) in
    let Kept : (committed held : State) → Type 0 = g.C.Cache.kept c.lines.cache first old in
    let Paid : List (List ℕ) → Type 0 = λ lines. Pays (g.C.Cache.costs c.args.cache.now c.lines.cache) (counts c.args.rig.now) (counts c.lines.rig) lines 0 in
    let so : Going StandFor terms.print terms.sizes start commands said Kept Paid c.lines.faulted old.said now = c.lines.invariant.going t u first start kept in
    let committed : State = after_all terms.sizes start (take so.k (answered_by so.lines commands)) in
    let held : State = after_all terms.sizes start (answered_by so.lines commands) in
    let new : World = world c.answer_line.new.rig in
    let next : List Command = commands_of (dialect_in terms) (left c.next.new.self (rest c.next.new.source)) in
    let o : Option Command = told c.next.new.into c.in-Ok.line in
    let front : now ≡ fronted o next = same_front c.dialect-dialect.result (dialect_in terms) o (left c.lines.reader (rest c.lines.source)) (left c.next.new.self (rest c.next.new.source)) c.dialect-dialect.ensures.dialect (c.in-Ok.ensures.command u) in
    let halt : Halt = c.in_err-failed.field-0.0 in
    let PaidLine : List (List ℕ) → ℕ → Type 0 = Pays (g.C.Cache.costs c.lines.cache c.answer_line.new.cache) (counts c.lines.rig) (counts c.answer_line.new.rig) in
    let PaidNow : List (List ℕ) → ℕ → Type 0 = Pays (g.C.Cache.costs c.args.cache.now c.answer_line.new.cache) (counts c.args.rig.now) (counts c.answer_line.new.rig) in
    let cut : CutsLine terms.print terms.sizes StandFor PaidLine halt committed held o old new =
    subst (λ (x : Terms). CutsLine x.print x.sizes (g.C.Cache.stands x first) PaidLine halt committed held o old new) c.lines.invariant.same (c.in_err-failed.ensures.cut t first committed held so.kept) in
    let falls = c.answer_line.ensures.frame.0 in
    let served : ServedUpTo terms.print terms.sizes StandFor start commands PaidNow halt said new =
    halts_within StandFor terms.print terms.sizes start commands said Kept Paid c.lines.faulted old.said now so PaidLine PaidNow halt o next old new front (commands_some (dialect_in terms) (left c.lines.reader (rest c.lines.source))) refl
    (λ p. pays_begun _ g.C.Cache.costs g.met.C.Cache.sums c.args.cache.now c.lines.cache c.answer_line.new.cache (counts c.args.rig.now) (counts c.lines.rig) (counts c.answer_line.new.rig) so.lines so.paid falls p.0)
    (pays_cut _ g.C.Cache.costs g.met.C.Cache.sums c.args.cache.now c.lines.cache c.answer_line.new.cache (counts c.args.rig.now) (counts c.lines.rig) (counts c.answer_line.new.rig) so.lines so.paid falls g.met.C.Cache.cut g.met.C.Cache.begun)
    cut in
    handed_on c.from_residual.result _ (λ (h : Halt). ServedUpTo terms.print terms.sizes StandFor start commands PaidNow h said new) c.from_residual.ensures.1
    (λ h same. subst (λ (k : Halt). ServedUpTo terms.print terms.sizes StandFor start commands PaidNow k said new) (sym same) served)

pub returns-then-is_quit-clause-all : goal.returns-then-is_quit-clause-all
returns-then-is_quit-clause-all g c = λ t u first start kept.
    let world = g.R.Rig.world in
    let counts = g.R.Rig.counts in
    let rest = g.S.Source.rest in
    let terms : Terms = g.C.Cache.terms c.args.cache.now in
    let StandFor : (flash disk : List ℕ) → State → Type 0 = g.C.Cache.stands terms first in
    let commands : List Command = commands_of (dialect_in terms) (left c.args.reader.now (rest c.args.source.now)) in
    let said : List ℕ = (world c.args.rig.now).said in
    let old : World = world c.lines.rig in
    let now : List Command = commands_of (dialect_in terms) (left c.lines.reader (rest c.lines.source)) in
    let Kept : (committed held : State) → Type 0 = g.C.Cache.kept c.lines.cache first old in
    let Paid : List (List ℕ) → Type 0 = λ lines. Pays (g.C.Cache.costs c.args.cache.now c.lines.cache) (counts c.args.rig.now) (counts c.lines.rig) lines 0 in
    let so : Going StandFor terms.print terms.sizes start commands said Kept Paid c.lines.faulted old.said now = c.lines.invariant.going t u first start kept in
    let committed : State = after_all terms.sizes start (take so.k (answered_by so.lines commands)) in
    let held : State = after_all terms.sizes start (answered_by so.lines commands) in
    let new : World = world c.answer_line.new.rig in
    let next : List Command = commands_of (dialect_in terms) (left c.next.new.self (rest c.next.new.source)) in
    let o : Option Command = told c.next.new.into c.in-Ok.line in
    let front : now ≡ fronted o next = same_front c.dialect-dialect.result (dialect_in terms) o (left c.lines.reader (rest c.lines.source)) (left c.next.new.self (rest c.next.new.source)) c.dialect-dialect.ensures.dialect (c.in-Ok.ensures.command u) in
    let Later : (committed held : State) → Type 0 = g.C.Cache.kept c.answer_line.new.cache first new in
    let PaidLine : List (List ℕ) → Type 0 = λ lines. Pays (g.C.Cache.costs c.lines.cache c.answer_line.new.cache) (counts c.lines.rig) (counts c.answer_line.new.rig) lines 0 in
    let PaidNow : List (List ℕ) → Type 0 = λ lines. Pays (g.C.Cache.costs c.args.cache.now c.answer_line.new.cache) (counts c.args.rig.now) (counts c.answer_line.new.rig) lines 0 in
    let answer : AnswersLine terms.print terms.sizes Later PaidLine committed held o c.in_ok-failed.failed old.said new.said =
    subst (λ (x : Terms). AnswersLine x.print x.sizes Later PaidLine committed held o c.in_ok-failed.failed old.said new.said) c.lines.invariant.same (c.in_ok-failed.ensures.answer t first committed held so.kept) in
    let faulted : Bool = c.lines.faulted || c.in_ok-failed.failed in
    let going : Going StandFor terms.print terms.sizes start commands said Later PaidNow faulted new.said (after_front o next) =
    going_line StandFor terms.print terms.sizes start commands said Kept Paid c.lines.faulted old.said now so Later PaidLine PaidNow o c.in_ok-failed.failed next new.said front
    (pays_more _ g.C.Cache.costs g.met.C.Cache.sums c.args.cache.now c.lines.cache c.answer_line.new.cache (counts c.args.rig.now) (counts c.lines.rig) (counts c.answer_line.new.rig) so.lines so.paid) answer in
    let none : after_front o next ≡ [] = front_quit o next (sym (c.is_quit.ensures c.next.new.into) ∙ c.if-is_quit.true) in
    let sure : State = after_all terms.sizes start (take going.k (answered_by going.lines commands)) in
    let last : State = after_all terms.sizes start (answered_by going.lines commands) in
    served_all StandFor terms.print terms.sizes start commands said Later PaidNow faulted new.said (after_front o next) going
    (Pays (g.C.Cache.costs c.args.cache.now c.answer_line.new.cache) (counts c.args.rig.now) (counts c.answer_line.new.rig)) new refl
    (subst (λ (x : Terms). AllStand (g.C.Cache.stands x first) new sure) (c.answer_line.ensures.same ∙ c.lines.invariant.same) (g.met.C.Cache.stood c.answer_line.new.cache first new sure last going.kept)) none going.paid

pub lines-preserved : goal.lines-preserved
lines-preserved g c =
    let other : quits (told c.next.new.into c.in-Ok.line) ≡ false = sym (c.is_quit.ensures c.next.new.into) ∙ c.if-is_quit.false in
    let rest = g.S.Source.rest in
    let burns = burns_other c.next.new.into c.in-Ok.line _ _ other c.in-Ok.ensures.fuel in
    let bounds = λ (u : g.S.Source.tells). bounds_for c.dialect-dialect.result (dialect_in (g.C.Cache.terms c.args.cache.now)) c.next.new.into c.in-Ok.line (fuel c.lines.reader) (fuel c.next.new.self)
    (left c.lines.reader (rest c.lines.source)) (left c.next.new.self (rest c.next.new.source)) c.dialect-dialect.ensures.dialect other (c.in-Ok.ensures.bounds u) in
    record {
      going = λ t u first start kept.
          let world = g.R.Rig.world in
          let counts = g.R.Rig.counts in
          let rest = g.S.Source.rest in
          let terms : Terms = g.C.Cache.terms c.args.cache.now in
          let StandFor : (flash disk : List ℕ) → State → Type 0 = g.C.Cache.stands terms first in
          let commands : List Command = commands_of (dialect_in terms) (left c.args.reader.now (rest c.args.source.now)) in
          let said : List ℕ = (world c.args.rig.now).said in
          let old : World = world c.lines.rig in
          let now : List Command = commands_of (dialect_in terms) (left c.lines.reader (rest c.lines.source)) in
          let Kept : (committed held : State) → Type 0 = g.C.Cache.kept c.lines.cache first old in
          let Paid : List (List ℕ) → Type 0 = λ lines. Pays (g.C.Cache.costs c.args.cache.now c.lines.cache) (counts c.args.rig.now) (counts c.lines.rig) lines 0 in
          let so : Going StandFor terms.print terms.sizes start commands said Kept Paid c.lines.faulted old.said now = c.lines.invariant.going t u first start kept in
          let committed : State = after_all terms.sizes start (take so.k (answered_by so.lines commands)) in
          let held : State = after_all terms.sizes start (answered_by so.lines commands) in
          let new : World = world c.answer_line.new.rig in
          let next : List Command = commands_of (dialect_in terms) (left c.next.new.self (rest c.next.new.source)) in
          let o : Option Command = told c.next.new.into c.in-Ok.line in
          let front : now ≡ fronted o next = same_front c.dialect-dialect.result (dialect_in terms) o (left c.lines.reader (rest c.lines.source)) (left c.next.new.self (rest c.next.new.source)) c.dialect-dialect.ensures.dialect (c.in-Ok.ensures.command u) in
          let Later : (committed held : State) → Type 0 = g.C.Cache.kept c.answer_line.new.cache first new in
          let PaidLine : List (List ℕ) → Type 0 = λ lines. Pays (g.C.Cache.costs c.lines.cache c.answer_line.new.cache) (counts c.lines.rig) (counts c.answer_line.new.rig) lines 0 in
          let PaidNow : List (List ℕ) → Type 0 = λ lines. Pays (g.C.Cache.costs c.args.cache.now c.answer_line.new.cache) (counts c.args.rig.now) (counts c.answer_line.new.rig) lines 0 in
          let answer : AnswersLine terms.print terms.sizes Later PaidLine committed held o c.in_ok-failed.failed old.said new.said =
          subst (λ (x : Terms). AnswersLine x.print x.sizes Later PaidLine committed held o c.in_ok-failed.failed old.said new.said) c.lines.invariant.same (c.in_ok-failed.ensures.answer t first committed held so.kept) in
          let faulted : Bool = c.lines.faulted || c.in_ok-failed.failed in
          let going : Going StandFor terms.print terms.sizes start commands said Later PaidNow faulted new.said (after_front o next) =
          going_line StandFor terms.print terms.sizes start commands said Kept Paid c.lines.faulted old.said now so Later PaidLine PaidNow o c.in_ok-failed.failed next new.said front
          (pays_more _ g.C.Cache.costs g.met.C.Cache.sums c.args.cache.now c.lines.cache c.answer_line.new.cache (counts c.args.rig.now) (counts c.lines.rig) (counts c.answer_line.new.rig) so.lines so.paid) answer in
          subst (λ (l : List Command). Going StandFor terms.print terms.sizes start commands said Later PaidNow faulted new.said l) (front_other o next other) going;
      crash = λ t u first start kept.
          let world = g.R.Rig.world in
          let counts = g.R.Rig.counts in
          let rest = g.S.Source.rest in
          let terms : Terms = g.C.Cache.terms c.args.cache.now in
          let StandFor : (flash disk : List ℕ) → State → Type 0 = g.C.Cache.stands terms first in
          let commands : List Command = commands_of (dialect_in terms) (left c.args.reader.now (rest c.args.source.now)) in
          let said : List ℕ = (world c.args.rig.now).said in
          let old : World = world c.lines.rig in
          let now : List Command = commands_of (dialect_in terms) (left c.lines.reader (rest c.lines.source)) in
          let Kept : (committed held : State) → Type 0 = g.C.Cache.kept c.lines.cache first old in
          let Paid : List (List ℕ) → Type 0 = λ lines. Pays (g.C.Cache.costs c.args.cache.now c.lines.cache) (counts c.args.rig.now) (counts c.lines.rig) lines 0 in
          let so : Going StandFor terms.print terms.sizes start commands said Kept Paid c.lines.faulted old.said now = c.lines.invariant.going t u first start kept in
          let committed : State = after_all terms.sizes start (take so.k (answered_by so.lines commands)) in
          let held : State = after_all terms.sizes start (answered_by so.lines commands) in
          let new : World = world c.answer_line.new.rig in
          let next : List Command = commands_of (dialect_in terms) (left c.next.new.self (rest c.next.new.source)) in
          let o : Option Command = told c.next.new.into c.in-Ok.line in
          let front : now ≡ fronted o next = same_front c.dialect-dialect.result (dialect_in terms) o (left c.lines.reader (rest c.lines.source)) (left c.next.new.self (rest c.next.new.source)) c.dialect-dialect.ensures.dialect (c.in-Ok.ensures.command u) in
          let call : Elapses (g.R.Rig.clock c.lines.rig) (g.R.Rig.clock c.answer_line.new.rig) (WithinLine terms.print terms.sizes StandFor committed held o old) =
          subst (λ (x : Terms). Elapses (g.R.Rig.clock c.lines.rig) (g.R.Rig.clock c.answer_line.new.rig) (WithinLine x.print x.sizes (g.C.Cache.stands x first) committed held o old)) c.lines.invariant.same
          (c.answer_line.ensures.crash t first committed held so.kept) in
          goes_on (c.lines.invariant.crash t u first start kept) call
          (λ outcome h. prefix_within StandFor terms.print terms.sizes start commands said Kept Paid c.lines.faulted old.said now so o next front old refl outcome h);
      holds = λ t first one s kept.
          let so : SomeKept (g.C.Cache.kept c.lines.cache first (g.R.Rig.world c.lines.rig)) = c.lines.invariant.holds t first one s kept in
          some_after _ _ so.committed so.held (g.C.Cache.kept c.answer_line.new.cache first (g.R.Rig.world c.answer_line.new.rig)) (λ lines. Pays (g.C.Cache.costs c.lines.cache c.answer_line.new.cache) (g.R.Rig.counts c.lines.rig) (g.R.Rig.counts c.answer_line.new.rig) lines 0) (told c.next.new.into c.in-Ok.line) c.in_ok-failed.failed _ _ (c.in_ok-failed.ensures.answer t first so.committed so.held so.kept);
      moments = λ t first one s kept.
          let terms : Terms = g.C.Cache.terms c.args.cache.now in
          let old : World = g.R.Rig.world c.lines.rig in
          let o : Option Command = told c.next.new.into c.in-Ok.line in
          let so : SomeKept (g.C.Cache.kept c.lines.cache first old) = c.lines.invariant.holds t first one s kept in
          let call : Elapses (g.R.Rig.clock c.lines.rig) (g.R.Rig.clock c.answer_line.new.rig) (WithinLine terms.print terms.sizes (g.C.Cache.stands terms first) so.committed so.held o old) =
          subst (λ (x : Terms). Elapses (g.R.Rig.clock c.lines.rig) (g.R.Rig.clock c.answer_line.new.rig) (WithinLine x.print x.sizes (g.C.Cache.stands x first) so.committed so.held o old)) c.lines.invariant.same
          (c.answer_line.ensures.crash t first so.committed so.held so.kept) in
          some_moments terms.print terms.sizes so.committed so.held (g.C.Cache.stands terms first) o old (c.lines.invariant.moments t first one s kept) call;
      same = c.answer_line.ensures.same ∙ c.lines.invariant.same;
      ready = c.in_ok-failed.ensures.ready (fuel c.next.new.self + 1)
          (g.met.C.Cache.fewer c.lines.cache (fuel c.lines.reader + 1) (fuel c.next.new.self + 1 + 1) (g.R.Rig.device_size c.lines.rig) (omega (arith, burns)) c.lines.invariant.ready);
      falls = falls_trans _ _ _ c.lines.invariant.falls c.answer_line.ensures.frame.0;
      size = c.answer_line.ensures.frame.1 ∙ c.lines.invariant.size;
      does = g.met.C.Cache.does_both (g.C.Cache.terms c.args.cache.now) _ _ _ c.lines.invariant.does (subst (λ (x : Terms). g.C.Cache.does x (g.R.Rig.counts c.lines.rig) (g.R.Rig.counts c.answer_line.new.rig)) c.lines.invariant.same c.answer_line.ensures.does);
      leaves = λ t. g.met.C.Cache.leaves_both _ _ _ (c.lines.invariant.leaves t) (c.answer_line.ensures.leaves t);
      more = λ t. more_both _ _ _ (c.lines.invariant.more t) (c.answer_line.ensures.more t);
      later = omega (arith, c.lines.invariant.later, c.next.ensures.later);
      bounds = λ u h. c.lines.invariant.bounds u ((bounds u).1 h);
      bounds_back = λ u h. (bounds u).0 (c.lines.invariant.bounds_back u h);
      passes = λ u. goes_through (dialect_in (g.C.Cache.terms c.args.cache.now)) c.in-Ok.line (left c.args.reader.now (rest c.args.source.now)) (left c.lines.reader (rest c.lines.source)) (left c.next.new.self (rest c.next.new.source))
          (c.lines.invariant.passes u) (passes_for c.dialect-dialect.result (dialect_in (g.C.Cache.terms c.args.cache.now)) c.in-Ok.line _ _ c.dialect-dialect.ensures.dialect (c.in-Ok.ensures.passes u)) (same_quits [] c.next.new.into c.in-Ok.line ∙ other);
    }

pub returns-then-is_quit-clause-taken : goal.returns-then-is_quit-clause-taken
returns-then-is_quit-clause-taken g c = λ u.
    let rest = g.S.Source.rest in
    let dialect = dialect_in (g.C.Cache.terms c.args.cache.now) in
    let now : List ℕ = left c.lines.reader (rest c.lines.source) in
    let next : List ℕ = left c.next.new.self (rest c.next.new.source) in
    taken_to dialect c.in-Ok.line (left c.args.reader.now (rest c.args.source.now)) now (rest c.next.new.source) c.next.new.self (c.lines.invariant.passes u)
    (passes_for c.dialect-dialect.result dialect c.in-Ok.line now next c.dialect-dialect.ensures.dialect (c.in-Ok.ensures.passes u)) c.in-Ok.ensures.piece

pub returns-in_err-failed-clause-does : goal.returns-in_err-failed-clause-does
returns-in_err-failed-clause-does g c = g.met.C.Cache.does_both (g.C.Cache.terms c.args.cache.now) _ _ _ c.lines.invariant.does (subst (λ (x : Terms). g.C.Cache.does x (g.R.Rig.counts c.lines.rig) (g.R.Rig.counts c.answer_line.new.rig)) c.lines.invariant.same c.answer_line.ensures.does)

pub returns-in_err-failed-clause-leaves : goal.returns-in_err-failed-clause-leaves
returns-in_err-failed-clause-leaves g c = λ t. g.met.C.Cache.leaves_both _ _ _ (c.lines.invariant.leaves t) (c.answer_line.ensures.leaves t)

pub returns-then-is_quit-clause-does : goal.returns-then-is_quit-clause-does
returns-then-is_quit-clause-does g c = g.met.C.Cache.does_both (g.C.Cache.terms c.args.cache.now) _ _ _ c.lines.invariant.does (subst (λ (x : Terms). g.C.Cache.does x (g.R.Rig.counts c.lines.rig) (g.R.Rig.counts c.answer_line.new.rig)) c.lines.invariant.same c.answer_line.ensures.does)

pub returns-then-is_quit-clause-leaves : goal.returns-then-is_quit-clause-leaves
returns-then-is_quit-clause-leaves g c = λ t. g.met.C.Cache.leaves_both _ _ _ (c.lines.invariant.leaves t) (c.answer_line.ensures.leaves t)

pub returns-in_err-failed-clause-moments : goal.returns-in_err-failed-clause-moments
returns-in_err-failed-clause-moments g c = λ t first one s kept.
    let terms : Terms = g.C.Cache.terms c.args.cache.now in
    let old : World = g.R.Rig.world c.lines.rig in
    let o : Option Command = told c.next.new.into c.in-Ok.line in
    let so : SomeKept (g.C.Cache.kept c.lines.cache first old) = c.lines.invariant.holds t first one s kept in
    let call : Elapses (g.R.Rig.clock c.lines.rig) (g.R.Rig.clock c.answer_line.new.rig) (WithinLine terms.print terms.sizes (g.C.Cache.stands terms first) so.committed so.held o old) =
    subst (λ (x : Terms). Elapses (g.R.Rig.clock c.lines.rig) (g.R.Rig.clock c.answer_line.new.rig) (WithinLine x.print x.sizes (g.C.Cache.stands x first) so.committed so.held o old)) c.lines.invariant.same
    (c.answer_line.ensures.crash t first so.committed so.held so.kept) in
    some_moments terms.print terms.sizes so.committed so.held (g.C.Cache.stands terms first) o old (c.lines.invariant.moments t first one s kept) call

pub returns-then-is_quit-clause-moments : goal.returns-then-is_quit-clause-moments
returns-then-is_quit-clause-moments g c = λ t first one s kept.
    let terms : Terms = g.C.Cache.terms c.args.cache.now in
    let old : World = g.R.Rig.world c.lines.rig in
    let o : Option Command = told c.next.new.into c.in-Ok.line in
    let so : SomeKept (g.C.Cache.kept c.lines.cache first old) = c.lines.invariant.holds t first one s kept in
    let call : Elapses (g.R.Rig.clock c.lines.rig) (g.R.Rig.clock c.answer_line.new.rig) (WithinLine terms.print terms.sizes (g.C.Cache.stands terms first) so.committed so.held o old) =
    subst (λ (x : Terms). Elapses (g.R.Rig.clock c.lines.rig) (g.R.Rig.clock c.answer_line.new.rig) (WithinLine x.print x.sizes (g.C.Cache.stands x first) so.committed so.held o old)) c.lines.invariant.same
    (c.answer_line.ensures.crash t first so.committed so.held so.kept) in
    some_moments terms.print terms.sizes so.committed so.held (g.C.Cache.stands terms first) o old (c.lines.invariant.moments t first one s kept) call

pub answer_line-requires-clause-within : goal.answer_line-requires-clause-within
answer_line-requires-clause-within g c =
    subst (λ (x : Terms). IsIn (dialect_in x) c.in-Ok.line) (sym c.lines.invariant.same) (subst (λ (d : Dialect). IsIn d c.in-Ok.line) c.dialect-dialect.ensures.dialect c.in-Ok.ensures.within)

pub returns-in_err-failed-clause-more : goal.returns-in_err-failed-clause-more
returns-in_err-failed-clause-more g c = λ t. more_both _ _ _ (c.lines.invariant.more t) (c.answer_line.ensures.more t)

pub returns-then-is_quit-clause-more : goal.returns-then-is_quit-clause-more
returns-then-is_quit-clause-more g c = λ t. more_both _ _ _ (c.lines.invariant.more t) (c.answer_line.ensures.more t)
