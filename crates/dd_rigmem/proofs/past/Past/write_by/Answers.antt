use Rattle.std.proofs.Common.{◌∙◌, length, ap, sym}
use Rattle.std.proofs.lemmas.Result.{on_ok_weaker}
use Rattle.dd_rigmem.specs.declared.event.Event.TheVariants.{Wrote}
use Rattle.dd_rigmem.specs.declared.plan.Fate.{Fate}
use Rattle.dd_rigmem.specs.Records.{WriteRecord}
use Rattle.dd_rigmem.specs.Effects.{written_by}
use Rattle.dd_rigmem.specs.History.{Writes, grown, world_of}
use Rattle.dd_rigmem.proofs.Growth.{world_grown, wrote, wrote_none, either_way}
use Rattle.dd_rigmem.proofs.past.Past.write_by.Goals as goal

pub returns-in-Goes-clause-ok : goal.returns-in-Goes-clause-ok
returns-in-Goes-clause-ok c =
    let w : WriteRecord = record { dev = c.args.dev; at = c.args.at; bytes = c.args.from.now } in
    on_ok_weaker c.write.result (λ done. ap world_of done ∙ world_grown (Wrote w) c.args.self.now ∙ ap (λ (f : Fate). written_by f c.args.dev c.args.at c.args.from.now (world_of c.args.self.now)) (sym c.in-Goes.is)) c.write.ensures.ok

pub returns-in-Goes-clause-model : goal.returns-in-Goes-clause-model
returns-in-Goes-clause-model c =
    let old = c.args.self.now in
    let w : WriteRecord = record { dev = c.args.dev; at = c.args.at; bytes = c.args.from.now } in
    either_way c.write.result (Writes c.args.dev c.args.at (length c.args.from.now) old) old (grown (Wrote w) old) c.write.new.self c.write.ensures.ok c.write.ensures.err (wrote w old) (wrote_none c.args.dev c.args.at (length c.args.from.now) old)

pub returns-in-Stops-clause-ok : goal.returns-in-Stops-clause-ok
returns-in-Stops-clause-ok c =
    let w : WriteRecord = record { dev = c.args.dev; at = c.args.at; bytes = c.args.from.now } in
    on_ok_weaker c.write-in-Stops.result (λ done. ap world_of done ∙ world_grown (Wrote w) c.args.self.now ∙ ap (λ (f : Fate). written_by f c.args.dev c.args.at c.args.from.now (world_of c.args.self.now)) (sym c.in-Stops.is)) c.write-in-Stops.ensures.ok

pub returns-in-Stops-clause-model : goal.returns-in-Stops-clause-model
returns-in-Stops-clause-model c =
    let old = c.args.self.now in
    let w : WriteRecord = record { dev = c.args.dev; at = c.args.at; bytes = c.args.from.now } in
    either_way c.write-in-Stops.result (Writes c.args.dev c.args.at (length c.args.from.now) old) old (grown (Wrote w) old) c.write-in-Stops.new.self c.write-in-Stops.ensures.ok c.write-in-Stops.ensures.err (wrote w old) (wrote_none c.args.dev c.args.at (length c.args.from.now) old)
