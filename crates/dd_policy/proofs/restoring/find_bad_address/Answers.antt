use Rattle.std.proofs.Common.{◌<◌, ◌∙◌, ap, sym, arith, length}
use Rattle.std.specs.Prelude.{is_some}
use Rattle.dd_meta.specs.Entries.{rows_of}
use Rattle.dd_policy.proofs.Taken.{address_rows, address_good}
use Rattle.dd_policy.proofs.restoring.find_bad_address.Goals as goal

pub loop-row-preserved : goal.loop-row-preserved
loop-row-preserved c =
    let i = c.loop-row.invariant in
    let here : c.loop-row.row-index < length c.args.a.now = omega arith in
    let alone = ap is_some (sym c.look.ensures) ∙ sym c.is_some.ensures ∙ c.if-is_some.false in
    record {
      rows = c.front.ensures.after.rows ∙ address_rows c.args.blocks.now.rows c.args.a.now c.loop-row.row-index _ here (rows_of c.loop-row.meta) i.rows alone;
      acap = c.front.ensures.after.acap ∙ i.acap;
      slots = c.front.ensures.after.slots ∙ i.slots;
      so_far = address_good c.args.blocks.now.rows c.args.a.now c.loop-row.row-index _ here (rows_of c.loop-row.meta) i.rows alone (sym c.link_fits.ensures ∙ c.if-not-link_fits.false) i.so_far;
    }
