use Rattle.std.proofs.Common.{arith}
use Rattle.std.proofs.lemmas.List.Sums.{count_by-le-length}
use Rattle.std.specs.Str.{bytes_eq}
use Rattle.dd_record.specs.declared.row.BRow.{BRow}
use Rattle.dd_model.specs.Listing.{Listing}
use Rattle.dd_serve.proofs.Written.{only_asked}
use Rattle.dd_serve.proofs.blocks.find.Goals as goal

pub returns-clause-asks : goal.returns-clause-asks
returns-clause-asks g c =
    let lists : Listing = g.L.Lists.listing c.args.lists.now in
    let few = count_by-le-length (λ (row : BRow). bytes_eq row.fp.0 c.args.fp.0) lists.table.b in
    let short = (g.met.L.Lists.kept c.args.lists.now).b_few in
    let calls = c.confirm.ensures.calls in (
      c.confirm.ensures.reads,
      (
        (omega (arith, calls.0.0, few, short), omega (arith, calls.0.1), omega (arith, calls.0.2)),
        (omega (arith, calls.1.0), omega (arith, calls.1.1), omega (arith, calls.1.2)),
      ),
    )

pub returns-clause-blocks : goal.returns-clause-blocks
returns-clause-blocks g c = only_asked c.args.slots.now.block _ (g.R.Rig.counts c.args.rig.now) (g.R.Rig.counts c.confirm.new.rig) c.confirm.ensures.calls c.confirm.ensures.frame.0
