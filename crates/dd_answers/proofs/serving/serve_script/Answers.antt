use Rattle.std.proofs.Common.{◌≤◌, ℕ, List, length, ap, subst, arith}
use Rattle.std.specs.Prelude.{IfOk, IfErr, OnOk}
use Rattle.dd_block.specs.declared.geometry.Geometry.{Geometry}
use Rattle.dd_block.specs.declared.print.Fp.{Fp}
use Rattle.dd_rig.specs.Clock.{Elapses}
use Rattle.dd_rig.specs.Counts.{Rose}
use Rattle.dd_rig.specs.World.{World}
use Rattle.dd_model.specs.State.{Sizes}
use Rattle.dd_script.specs.Command.{Command}
use Rattle.dd_script.specs.Output.{dialect_of}
use Rattle.dd_script.specs.Reading.{Held, left, fuel, IsTakenTo}
use Rattle.dd_script.specs.Script.{commands_of, EndsWithin}
use Rattle.dd_store.specs.Meaning.{sizes_of}
use Rattle.dd_loop.specs.Answering.{Pays}
use Rattle.dd_loop.specs.Halting.{Halts}
use Rattle.dd_loop.specs.Terms.{Terms}
use Rattle.dd_loop.specs.Serving.{ServedAll, ServedUpTo}
use Rattle.dd_loop.specs.Standing.{IsHeld, StandForPrefix}
use Rattle.dd_loop.proofs.Served.{all_by, some_by}
use Rattle.dd_answers.specs.Answering.{KeptSince, StandsSince}
use Rattle.dd_answers.specs.Costs.{CostsLines, HasArrayBehind}
use Rattle.dd_answers.specs.Serving.{LinesPaid}
use Rattle.dd_answers.proofs.Finishing.{ok_both}
use Rattle.dd_answers.proofs.Spent.{drained_by, listed_rows, ok_map, err_map, spent_by}
use Rattle.dd_answers.proofs.serving.serve_script.Goals as goal

pub returns-clause-crash : goal.returns-clause-crash
returns-clause-crash g c = λ t u start kept.
    let old : World = g.R.Rig.world c.args.rig.now in
    let print : List ℕ → Fp = g.F.Fingerprint.printed c.args.store.print in
    let sizes : Sizes = sizes_of c.args.store.store.journal.geo in
    subst (λ (h : Held). Elapses (g.R.Rig.clock c.args.rig.now) (g.R.Rig.clock c.serve_lines-served.new.rig)
    (StandForPrefix (StandsSince print old) print sizes start (commands_of (dialect_of sizes) (left h (g.S.Source.rest c.args.source.now))) old.said)) c.in_ok-reader.ensures
    (c.serve_lines-served.ensures.crash t u old start kept)

pub returns-clause-all : goal.returns-clause-all
returns-clause-all g c = λ t u start kept.
    let old : World = g.R.Rig.world c.args.rig.now in
    let new : World = g.R.Rig.world c.serve_lines-served.new.rig in
    let before = g.R.Rig.counts c.args.rig.now in
    let after = g.R.Rig.counts c.serve_lines-served.new.rig in
    let print : List ℕ → Fp = g.F.Fingerprint.printed c.args.store.print in
    let geo : Geometry = c.args.store.store.journal.geo in
    let commands : List Command = commands_of (dialect_of (sizes_of geo)) (left c.in_ok-reader.reader (g.S.Source.rest c.args.source.now)) in
    let store = c.serve_lines-served.new.cache.store in
    let few : length c.args.store.store.dirty ≤ length start.addresses = omega (arith, c.knows_dirty.ensures.listed, listed_rows kept.0 print c.args.store.store old start start kept.2) in
    subst (λ (h : Held). IfOk c.serve_lines-served.result (λ faulted. ServedAll print (sizes_of geo) (StandsSince print old) start (commands_of (dialect_of (sizes_of geo)) (left h (g.S.Source.rest c.args.source.now)))
    (LinesPaid (length start.addresses) before after) (HasArrayBehind (sizes_of geo) new) faulted old.said new)) c.in_ok-reader.ensures
    (ok_map c.serve_lines-served.result _ _
    (all_by print (sizes_of geo) (StandsSince print old) start commands (Pays (CostsLines c.args.store.store store.store) before after) (LinesPaid (length start.addresses) before after)
    (spent_by (length start.addresses) c.args.store.store store.store before after few) old.said new
    (λ lines s. IsHeld (λ committed held. KeptSince (g.F.Fingerprint.printed store.print) store.store old new committed held) s) (HasArrayBehind (sizes_of geo) new)
    (drained_by (g.F.Fingerprint.printed store.print) c.args.store.store store.store old new before after (ap (λ (terms : Terms). terms.sizes) c.serve_lines-served.ensures.same) c.requires.few c.knows_dirty-2.ensures.none))
    (c.serve_lines-served.ensures.all t u old start kept))

pub returns-clause-some : goal.returns-clause-some
returns-clause-some g c = λ t u start kept.
    let old : World = g.R.Rig.world c.args.rig.now in
    let new : World = g.R.Rig.world c.serve_lines-served.new.rig in
    let before = g.R.Rig.counts c.args.rig.now in
    let after = g.R.Rig.counts c.serve_lines-served.new.rig in
    let print : List ℕ → Fp = g.F.Fingerprint.printed c.args.store.print in
    let geo : Geometry = c.args.store.store.journal.geo in
    let commands : List Command = commands_of (dialect_of (sizes_of geo)) (left c.in_ok-reader.reader (g.S.Source.rest c.args.source.now)) in
    let store = c.serve_lines-served.new.cache.store in
    let few : length c.args.store.store.dirty ≤ length start.addresses = omega (arith, c.knows_dirty.ensures.listed, listed_rows kept.0 print c.args.store.store old start start kept.2) in
    subst (λ (h : Held). IfErr c.serve_lines-served.result (λ halt. ServedUpTo print (sizes_of geo) (StandsSince print old) start (commands_of (dialect_of (sizes_of geo)) (left h (g.S.Source.rest c.args.source.now)))
    (LinesPaid (length start.addresses) before after) halt old.said new)) c.in_ok-reader.ensures
    (err_map c.serve_lines-served.result _ _
    (some_by print (sizes_of geo) (StandsSince print old) start commands (Pays (CostsLines c.args.store.store store.store) before after) (LinesPaid (length start.addresses) before after)
    (spent_by (length start.addresses) c.args.store.store store.store before after few) old.said new)
    (c.serve_lines-served.ensures.some t u old start kept))

pub returns-clause-taken : goal.returns-clause-taken
returns-clause-taken g c = λ u.
    let sizes : Sizes = sizes_of c.args.store.store.journal.geo in
    let rest : List ℕ = g.S.Source.rest c.args.source.now in
    subst (λ (h : Held). OnOk c.serve_lines-served.result (IsTakenTo (dialect_of sizes) (left h rest) (g.S.Source.rest c.serve_lines-served.new.source) × EndsWithin (fuel h) (dialect_of sizes) (left h rest))) c.in_ok-reader.ensures
    (ok_both c.serve_lines-served.result (IsTakenTo (dialect_of sizes) (left c.in_ok-reader.reader rest) (g.S.Source.rest c.serve_lines-served.new.source)) (EndsWithin (fuel c.in_ok-reader.reader) (dialect_of sizes) (left c.in_ok-reader.reader rest))
    (c.serve_lines-served.ensures.taken u) (c.serve_lines-served.ensures.bounded u))

pub returns-clause-halt : goal.returns-clause-halt
returns-clause-halt g c =
    let sizes : Sizes = sizes_of c.args.store.store.journal.geo in
    let rest : List ℕ = g.S.Source.rest c.args.source.now in
    subst (λ (h : Held). IfErr c.serve_lines-served.result (λ halt. Halts (λ device. Unit {0}) (Rose (g.S.Source.failures c.args.source.now) (g.S.Source.failures c.serve_lines-served.new.source))
    (g.S.Source.tells → EndsWithin (fuel h) (dialect_of sizes) (left h rest) → ⊥) halt (g.R.Rig.counts c.args.rig.now) (g.R.Rig.counts c.serve_lines-served.new.rig))) c.in_ok-reader.ensures
    c.serve_lines-served.ensures.halt
