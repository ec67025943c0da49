use Rattle.std.proofs.Common.{◌≡◌, ◌≤◌, ◌+◌}
use Rattle.dd_rig.specs.Clock.{Elapses}
use Rattle.dd_rig.specs.Counts.{NeverFalls}
use Rattle.dd_rig.specs.World.{World}
use Rattle.dd_model.specs.State.{State}
use Rattle.dd_script.specs.Reading.{left, fuel}
use Rattle.dd_script.specs.Script.{commands_of, EndsWithin}
use Rattle.dd_loop.specs.Answering.{Pays}
use Rattle.dd_loop.specs.Saying.{SaysMore}
use Rattle.dd_loop.specs.Standing.{StandForPrefix, StandForSome}
use Rattle.dd_loop.proofs.Keeping.{SomeKept}
use Rattle.dd_loop.specs.Terms.{dialect_in}
use Rattle.dd_loop.proofs.Standing.{Going}
use Rattle.dd_loop.proofs.Taken.{GoesThrough}
use Rattle.dd_loop.proofs.serving.serve_lines.Given as goal

-- Whole lines were said so far, and they answer the commands up to those that are left. Each outcome since the beginning stands for a
-- prefix, which is a property of the outcome alone and doesn't change while the output grows.
abbrev pub invariant-lines : goal.invariant-lines
invariant-lines g l =
    let terms = g.C.Cache.terms l.fn.cache in
    let world = g.R.Rig.world in
    let commands = commands_of (dialect_in terms) (left l.fn.reader (g.S.Source.rest l.fn.source)) in
    record {
      going : g.R.Rig.tells → g.S.Source.tells → (first : World) (start : State) → g.C.Cache.kept l.fn.cache first (world l.fn.rig) start start
          → Going (g.C.Cache.stands terms first) terms.print terms.sizes start commands (world l.fn.rig).said (g.C.Cache.kept l.cache first (world l.rig))
          (λ lines. Pays (g.C.Cache.costs l.fn.cache l.cache) (g.R.Rig.counts l.fn.rig) (g.R.Rig.counts l.rig) lines 0) l.faulted (world l.rig).said
          (commands_of (dialect_in terms) (left l.reader (g.S.Source.rest l.source)));
      crash : g.R.Rig.tells → g.S.Source.tells → (first : World) (start : State) → g.C.Cache.kept l.fn.cache first (world l.fn.rig) start start
          → Elapses (g.R.Rig.clock l.fn.rig) (g.R.Rig.clock l.rig) (StandForPrefix (g.C.Cache.stands terms first) terms.print terms.sizes start commands (world l.fn.rig).said);
      holds : g.R.Rig.tells → (first : World) (c s : State) → g.C.Cache.kept l.fn.cache first (world l.fn.rig) c s → SomeKept (g.C.Cache.kept l.cache first (world l.rig));
      moments : g.R.Rig.tells → (first : World) (c s : State) → g.C.Cache.kept l.fn.cache first (world l.fn.rig) c s
          → Elapses (g.R.Rig.clock l.fn.rig) (g.R.Rig.clock l.rig) (StandForSome (g.C.Cache.stands terms first));
      same : g.C.Cache.terms l.cache ≡ terms;
      ready : g.C.Cache.ready l.cache (fuel l.reader + 1) (g.R.Rig.device_size l.rig);
      falls : NeverFalls (g.R.Rig.counts l.fn.rig) (g.R.Rig.counts l.rig);
      size : g.R.Rig.device_size l.rig ≡ g.R.Rig.device_size l.fn.rig;
      does : g.C.Cache.does terms (g.R.Rig.counts l.fn.rig) (g.R.Rig.counts l.rig);
      leaves : g.R.Rig.tells → g.C.Cache.leaves (world l.fn.rig) (world l.rig);
      more : g.R.Rig.tells → SaysMore (world l.fn.rig) (world l.rig);
      later : g.S.Source.failures l.fn.source ≤ g.S.Source.failures l.source;
      bounds : g.S.Source.tells
          → (EndsWithin (fuel l.reader) (dialect_in terms) (left l.reader (g.S.Source.rest l.source)) → EndsWithin (fuel l.fn.reader) (dialect_in terms) (left l.fn.reader (g.S.Source.rest l.fn.source)));
      bounds_back : g.S.Source.tells
          → (EndsWithin (fuel l.fn.reader) (dialect_in terms) (left l.fn.reader (g.S.Source.rest l.fn.source)) → EndsWithin (fuel l.reader) (dialect_in terms) (left l.reader (g.S.Source.rest l.source)));
      passes : g.S.Source.tells → GoesThrough (dialect_in terms) (left l.fn.reader (g.S.Source.rest l.fn.source)) (left l.reader (g.S.Source.rest l.source));
    }

abbrev pub decreases-lines : goal.decreases-lines
decreases-lines g l = fuel l.reader
