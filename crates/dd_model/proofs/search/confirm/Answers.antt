use Rattle.std.proofs.Common.{◌≡◌, ◌≢◌, ◌<◌, ◌+◌, length, get_or, take, [], arith, subst, ◌∙◌}
use Rattle.std.specs.Prelude.{if◌then◌else◌}
use Rattle.std.specs.Str.{bytes_eq}
use Rattle.dd_rig.specs.declared.device.Dev.TheVariants.{Flash}
use Rattle.dd_rig.specs.World.{World, shown}
use Rattle.dd_rig.proofs.Moments.{goes_on_same}
use Rattle.dd_record.specs.declared.row.BRow.{BRow}
use Rattle.dd_slots.specs.Slots.{block_in}
use Rattle.dd_rig.proofs.Falling.{frame_trans}
use Rattle.dd_model.specs.Confirming.{candidates}
use Rattle.dd_model.proofs.Searching.{all_more, row_at, candidate, count_next, count_so_far, reads_more}
use Rattle.dd_model.proofs.search.confirm.Goals as goal

abbrev no_row : BRow
no_row = record { slot = 0; fp = record { 0 = [] } }

pub returns-then-branch-clause-listed : goal.returns-then-branch-clause-listed
returns-then-branch-clause-listed g c =
    let here : c.loop-row.row-index < length c.args.rows.now = omega arith in
    let row : BRow = get_or c.args.rows.now c.loop-row.row-index no_row in
    candidate c.args.rows.now c.args.fp row (row_at c.args.rows.now c.loop-row.row-index no_row c.requires.apart here) (c.in_ok-is_this.ensures.print c.if-branch.true)

pub returns-then-branch-clause-found : goal.returns-then-branch-clause-found
returns-then-branch-clause-found g c = λ t.
    let here : c.loop-row.row-index < length c.args.rows.now = omega arith in
    let row : BRow = get_or c.args.rows.now c.loop-row.row-index no_row in
    let is = rw c.if-branch.true at (c.in_ok-is_this.ensures.found t) in (
      candidate c.args.rows.now c.args.fp row (row_at c.args.rows.now c.loop-row.row-index no_row c.requires.apart here) is.0,
      subst (λ (w : World). block_in c.args.slots.now (shown Flash w) row.slot ≡ c.args.block.now) (c.loop-row.invariant.same t) is.1,
    )

pub returns-then-branch-clause-calls : goal.returns-then-branch-clause-calls
returns-then-branch-clause-calls g c =
    let here : c.loop-row.row-index < length c.args.rows.now = omega arith in
    let row : BRow = get_or c.args.rows.now c.loop-row.row-index no_row in
    reads_more (candidates c.args.fp (take c.loop-row.row-index c.args.rows.now)) (if bytes_eq row.fp.0 c.args.fp.0 then 1 else 0) (candidates c.args.fp c.args.rows.now)
    (g.R.Rig.counts c.args.rig.now) (g.R.Rig.counts c.loop-row.rig) (g.R.Rig.counts c.is_this.new.rig) c.loop-row.invariant.calls c.in_ok-is_this.ensures.calls
    (count_so_far (λ (r : BRow). bytes_eq r.fp.0 c.args.fp.0) c.args.rows.now c.loop-row.row-index no_row here)

pub loop-row-preserved : goal.loop-row-preserved
loop-row-preserved g c =
    let i = c.loop-row.invariant in
    let here : c.loop-row.row-index < length c.args.rows.now = omega arith in
    let row : BRow = get_or c.args.rows.now c.loop-row.row-index no_row in
    let Differs : BRow → Type 0 = λ r. r.fp ≡ c.args.fp → block_in c.args.slots.now (shown Flash (g.R.Rig.world c.args.rig.now)) r.slot ≢ c.args.block.now in
    record {
      room = omega (arith, i.room);
      none = λ t. all_more Differs c.args.rows.now c.loop-row.row-index no_row here (i.none t)
          (subst (λ (w : World). row.fp ≡ c.args.fp → block_in c.args.slots.now (shown Flash w) row.slot ≢ c.args.block.now) (i.same t) (rw c.if-branch.false at (c.in_ok-is_this.ensures.found t)));
      same = λ t. c.in_ok-is_this.ensures.world t ∙ i.same t;
      time = λ t. goes_on_same (i.time t) (c.in_ok-is_this.ensures.time t);
      calls = reads_more (candidates c.args.fp (take c.loop-row.row-index c.args.rows.now)) (if bytes_eq row.fp.0 c.args.fp.0 then 1 else 0) (candidates c.args.fp (take (c.loop-row.row-index + 1) c.args.rows.now))
          (g.R.Rig.counts c.args.rig.now) (g.R.Rig.counts c.loop-row.rig) (g.R.Rig.counts c.is_this.new.rig) i.calls c.in_ok-is_this.ensures.calls
          (count_next (λ (r : BRow). bytes_eq r.fp.0 c.args.fp.0) c.args.rows.now c.loop-row.row-index no_row here);
      reads = omega (arith, i.reads, c.in_ok-is_this.ensures.reads);
      disk = c.in_ok-is_this.ensures.disk ∙ i.disk;
      frame = frame_trans (g.R.Rig.counts c.args.rig.now) (g.R.Rig.counts c.loop-row.rig) (g.R.Rig.counts c.is_this.new.rig) (g.R.Rig.device_size c.args.rig.now) (g.R.Rig.device_size c.loop-row.rig) (g.R.Rig.device_size c.is_this.new.rig) i.frame c.in_ok-is_this.ensures.frame;
    }
