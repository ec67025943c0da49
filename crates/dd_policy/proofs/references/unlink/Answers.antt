use Rattle.std.proofs.Common.{◌∙◌, ap, sym, map}
use Rattle.std.specs.Prelude.{Option}
use Rattle.dd_record.specs.declared.row.BRow.{BRow}
use Rattle.dd_record.specs.Replay.{unlinked_from}
use Rattle.dd_meta.specs.Entries.{rows_of}
use Rattle.dd_policy.proofs.Marking.{none_unlinked}
use Rattle.dd_policy.proofs.references.unlink.Goals as goal

pub returns-in-None-clause-rows : goal.returns-in-None-clause-rows
returns-in-None-clause-rows c = none_unlinked (rows_of c.args.meta.now) ∙ ap (λ (o : Option BRow). map (unlinked_from o) (rows_of c.args.meta.now)) (sym c.in-None.is)
