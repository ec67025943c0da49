use Rattle.std.proofs.Common.{◌≡◌, ◌∙◌, ◌/◌, ℕ, List, length, take, take_all, Result, ap, sym, arith}
use Rattle.std.specs.Prelude.{OnOk, OnErr}
use Rattle.std.proofs.lemmas.Result.{on_ok_weaker}
use Rattle.std.specs.Prelude.{true}
use Rattle.dd_rig.specs.World.{say}
use Rattle.dd_rigmem.specs.declared.event.Event.TheVariants.{Emitted}
use Rattle.dd_rigmem.specs.declared.plan.Fate.{Fate}
use Rattle.dd_rigmem.specs.Records.{EmitRecord}
use Rattle.dd_rigmem.specs.Effects.{said_by}
use Rattle.dd_rigmem.specs.History.{History, Emits, grown, world_of, unfinished_of}
use Rattle.dd_rigmem.proofs.Growth.{world_grown, emitted, emitted_none, either_way, say_nothing}
use Rattle.dd_rigmem.proofs.Picks.{last_unfinished_new}
use Rattle.dd_rigmem.proofs.past.Past.emit_by.Goals as goal

-- what a piece of which so many bytes came out leaves
emits : {T E : Type 0} (result : Result T E) (piece : List ℕ) (count : ℕ) (old new : History) → OnOk result (new ≡ grown (Emitted (record { piece = piece; count = count })) old) → OnErr result (new ≡ old) → Emits piece old new
emits result piece count old new ok err =
    let e : EmitRecord = record { piece = piece; count = count } in
    either_way result (Emits piece old) old (grown (Emitted e) old) new ok err (emitted e old) (emitted_none piece old)

says : {T E : Type 0} (result : Result T E) (piece : List ℕ) (count : ℕ) (old new : History) → OnOk result (new ≡ grown (Emitted (record { piece = piece; count = count })) old) → OnOk result (world_of new ≡ say (take count piece) (world_of old))
says result piece count old new ok = on_ok_weaker result (λ done. ap world_of done ∙ world_grown (Emitted (record { piece = piece; count = count })) old) ok

pub returns-in-Goes-clause-ok : goal.returns-in-Goes-clause-ok
returns-in-Goes-clause-ok c =
    let piece = c.args.piece.now in
    let old = world_of c.args.self.now in
    on_ok_weaker c.emit.result (λ said. said ∙ ap (λ (p : List ℕ). say p old) (take_all (length piece) piece (omega arith)) ∙ ap (λ (f : Fate). said_by f piece old) (sym c.in-Goes.is)) (says c.emit.result piece (length piece) c.args.self.now c.emit.new.self c.emit.ensures.ok)

pub returns-in-Goes-clause-model : goal.returns-in-Goes-clause-model
returns-in-Goes-clause-model c = emits c.emit.result c.args.piece.now (length c.args.piece.now) c.args.self.now c.emit.new.self c.emit.ensures.ok c.emit.ensures.err

pub returns-in-Fails-clause-ok : goal.returns-in-Fails-clause-ok
returns-in-Fails-clause-ok c =
    let piece = c.args.piece.now in
    let old = world_of c.args.self.now in
    on_ok_weaker c.emit-in-Fails.result (λ said. said ∙ ap (λ (f : Fate). said_by f piece old) (sym c.in-Fails.is)) (says c.emit-in-Fails.result piece (length piece / 2) c.args.self.now c.emit-in-Fails.new.self c.emit-in-Fails.ensures.ok)

pub returns-in-Fails-clause-model : goal.returns-in-Fails-clause-model
returns-in-Fails-clause-model c = emits c.emit-in-Fails.result c.args.piece.now (length c.args.piece.now / 2) c.args.self.now c.emit-in-Fails.new.self c.emit-in-Fails.ensures.ok c.emit-in-Fails.ensures.err

pub returns-in-Stops-clause-ok : goal.returns-in-Stops-clause-ok
returns-in-Stops-clause-ok c =
    let piece = c.args.piece.now in
    let old = world_of c.args.self.now in
    on_ok_weaker c.emit-in-Stops.result (λ said. said ∙ say_nothing old ∙ ap (λ (f : Fate). said_by f piece old) (sym c.in-Stops.is)) (says c.emit-in-Stops.result piece 0 c.args.self.now c.emit-in-Stops.new.self c.emit-in-Stops.ensures.ok)

pub returns-in-Stops-clause-stops : goal.returns-in-Stops-clause-stops
returns-in-Stops-clause-stops c = λ stops.
    let e : EmitRecord = record { piece = c.args.piece.now; count = 0 } in
    on_ok_weaker c.emit-in-Stops.result (λ done. ap (λ (h : History). unfinished_of true h.events) done ∙ last_unfinished_new (Emitted e) c.args.self.now.events) c.emit-in-Stops.ensures.ok

pub returns-in-Stops-clause-model : goal.returns-in-Stops-clause-model
returns-in-Stops-clause-model c = emits c.emit-in-Stops.result c.args.piece.now 0 c.args.self.now c.emit-in-Stops.new.self c.emit-in-Stops.ensures.ok c.emit-in-Stops.ensures.err
