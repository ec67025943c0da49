use Rattle.std.proofs.Common.{◌≡◌, ◌≢◌, ◌<◌, ◌≤◌, ◌+◌, true, length, arith, subst, ◌∙◌, Some, slice_get}
use Rattle.std.specs.Prelude.{if◌then◌else◌}
use Rattle.std.specs.Str.{bytes_eq}
use Rattle.std.proofs.lemmas.List.Sums.{length-filter}
use Rattle.std.proofs.lemmas.Option.{slice_get_within}
use Rattle.dd_rig.specs.declared.device.Dev.TheVariants.{Flash}
use Rattle.dd_rig.specs.World.{World, shown}
use Rattle.dd_rig.proofs.Moments.{goes_on_same}
use Rattle.dd_rig.proofs.Falling.{frame_trans, makes_none}
use Rattle.dd_record.specs.declared.row.BRow.{BRow}
use Rattle.dd_record.specs.Table.{b_row}
use Rattle.dd_slots.specs.Slots.{block_in}
use Rattle.dd_data.specs.Blocks.{alike}
use Rattle.dd_data.proofs.Candidates.{alike_apart, alike_found, alike_all}
use Rattle.dd_model.specs.Confirming.{candidates}
use Rattle.dd_model.proofs.Kept.{got, all_filter, all_of}
use Rattle.dd_model.proofs.Searching.{candidate, reads_more}
use Rattle.dd_policy.proofs.Steps.{stands, ended, walk_next, all_next, all_past, all_taken, one_most}
use Rattle.dd_policy.proofs.searching.search.Goals as goal

pub is_this-requires-clause-slot : goal.is_this-requires-clause-slot
is_this-requires-clause-slot g c =
    let rows = c.args.blocks.now.rows in
    let all = alike c.args.fp rows in
    let row : BRow = c.in-Some.row in
    let here : slice_get all c.loop-place._place ≡ Some row = stands all c.loop-place._place c.loop-place.at row c.loop-place.invariant.next c.in-Some.is in
    let below : row.slot < c.args.blocks.now.slots =
    got (λ (r : BRow). r.slot < c.args.blocks.now.slots) all c.loop-place._place row here
    (all_filter (λ (r : BRow). r.slot < c.args.blocks.now.slots) (λ r. bytes_eq r.fp.0 c.args.fp.0) rows
    (all_of (λ (r : BRow). r.slot < c.args.blocks.now.slots) (λ r. bytes_eq r.fp.0 c.args.fp.0 ≡ true → r.slot < c.args.blocks.now.slots) rows (λ r h like. h) c.len-all.ensures.kept.below)) in
    omega (arith, below, c.requires.slots)

pub returns-then-branch-clause-listed : goal.returns-then-branch-clause-listed
returns-then-branch-clause-listed g c =
    let rows = c.args.blocks.now.rows in
    let all = alike c.args.fp rows in
    let row : BRow = c.in-Some.row in
    let here : slice_get all c.loop-place._place ≡ Some row = stands all c.loop-place._place c.loop-place.at row c.loop-place.invariant.next c.in-Some.is in
    let found = got (λ (r : BRow). (b_row r.slot rows ≡ Some r) × (r.fp ≡ c.args.fp)) all c.loop-place._place row here (alike_found c.args.fp rows c.len-all.ensures.kept.apart) in
    candidate rows c.args.fp row found.0 found.1

pub returns-then-branch-clause-found : goal.returns-then-branch-clause-found
returns-then-branch-clause-found g c = λ t.
    let rows = c.args.blocks.now.rows in
    let all = alike c.args.fp rows in
    let row : BRow = c.in-Some.row in
    let here : slice_get all c.loop-place._place ≡ Some row = stands all c.loop-place._place c.loop-place.at row c.loop-place.invariant.next c.in-Some.is in
    let found = got (λ (r : BRow). (b_row r.slot rows ≡ Some r) × (r.fp ≡ c.args.fp)) all c.loop-place._place row here (alike_found c.args.fp rows c.len-all.ensures.kept.apart) in
    let is = rw c.if-branch.true at (c.in_ok-is_this-in-Some.ensures.found t) in (
      candidate rows c.args.fp row found.0 found.1,
      subst (λ (w : World). block_in c.args.slots.now (shown Flash w) row.slot ≡ c.args.block.now) (c.loop-place.invariant.same t) is.1,
    )

pub returns-then-branch-clause-calls : goal.returns-then-branch-clause-calls
returns-then-branch-clause-calls g c =
    let rows = c.args.blocks.now.rows in
    let all = alike c.args.fp rows in
    let row : BRow = c.in-Some.row in
    let here : slice_get all c.loop-place._place ≡ Some row = stands all c.loop-place._place c.loop-place.at row c.loop-place.invariant.next c.in-Some.is in
    reads_more c.loop-place._place (if bytes_eq row.fp.0 c.args.fp.0 then 1 else 0) (candidates c.args.fp rows) (g.R.Rig.counts c.args.rig.now) (g.R.Rig.counts c.loop-place.rig) (g.R.Rig.counts c.is_this.new.rig) c.loop-place.invariant.calls c.is_this.ensures.calls
    (omega (arith, one_most (bytes_eq row.fp.0 c.args.fp.0), slice_get_within all c.loop-place._place row here, length-filter (λ (r : BRow). bytes_eq r.fp.0 c.args.fp.0) rows))

pub returns-in_err-is_this-in-Some-clause-calls : goal.returns-in_err-is_this-in-Some-clause-calls
returns-in_err-is_this-in-Some-clause-calls g c =
    let rows = c.args.blocks.now.rows in
    let all = alike c.args.fp rows in
    let row : BRow = c.in-Some.row in
    let here : slice_get all c.loop-place._place ≡ Some row = stands all c.loop-place._place c.loop-place.at row c.loop-place.invariant.next c.in-Some.is in
    reads_more c.loop-place._place (if bytes_eq row.fp.0 c.args.fp.0 then 1 else 0) (candidates c.args.fp rows) (g.R.Rig.counts c.args.rig.now) (g.R.Rig.counts c.loop-place.rig) (g.R.Rig.counts c.is_this.new.rig) c.loop-place.invariant.calls c.is_this.ensures.calls
    (omega (arith, one_most (bytes_eq row.fp.0 c.args.fp.0), slice_get_within all c.loop-place._place row here, length-filter (λ (r : BRow). bytes_eq r.fp.0 c.args.fp.0) rows))

pub loop-place-preserved : goal.loop-place-preserved
loop-place-preserved g c =
    let rows = c.args.blocks.now.rows in
    let all = alike c.args.fp rows in
    let row : BRow = c.in-Some.row in
    let i = c.loop-place.invariant in
    let here : slice_get all c.loop-place._place ≡ Some row = stands all c.loop-place._place c.loop-place.at row i.next c.in-Some.is in
    let low : c.loop-place._place < length all = slice_get_within all c.loop-place._place row here in
    let found = got (λ (r : BRow). (b_row r.slot rows ≡ Some r) × (r.fp ≡ c.args.fp)) all c.loop-place._place row here (alike_found c.args.fp rows c.len-all.ensures.kept.apart) in
    record {
      next = c.candidate-at-in-Some.ensures ∙ walk_next (λ (r : BRow). r.slot) all c.loop-place._place row (alike_apart c.args.fp rows c.len-all.ensures.kept.apart) here;
      few = omega (arith, low);
      room = omega (arith, i.room);
      none = λ t. all_next (λ (r : BRow). block_in c.args.slots.now (shown Flash (g.R.Rig.world c.args.rig.now)) r.slot ≢ c.args.block.now) all c.loop-place._place row here (i.none t)
          (subst (λ (w : World). block_in c.args.slots.now (shown Flash w) row.slot ≢ c.args.block.now) (i.same t) ((rw c.if-branch.false at (c.in_ok-is_this-in-Some.ensures.found t)) found.1));
      same = λ t. c.is_this.ensures.world t ∙ i.same t;
      time = λ t. goes_on_same (i.time t) (c.is_this.ensures.time t);
      calls = reads_more c.loop-place._place (if bytes_eq row.fp.0 c.args.fp.0 then 1 else 0) (c.loop-place._place + 1) (g.R.Rig.counts c.args.rig.now) (g.R.Rig.counts c.loop-place.rig) (g.R.Rig.counts c.is_this.new.rig) i.calls c.is_this.ensures.calls
          (omega (arith, one_most (bytes_eq row.fp.0 c.args.fp.0)));
      reads = omega (arith, i.reads, c.is_this.ensures.reads);
      disk = c.is_this.ensures.disk ∙ i.disk;
      frame = frame_trans (g.R.Rig.counts c.args.rig.now) (g.R.Rig.counts c.loop-place.rig) (g.R.Rig.counts c.is_this.new.rig) (g.R.Rig.device_size c.args.rig.now) (g.R.Rig.device_size c.loop-place.rig) (g.R.Rig.device_size c.is_this.new.rig) i.frame c.is_this.ensures.frame;
    }

pub returns-in-None-clause-found : goal.returns-in-None-clause-found
returns-in-None-clause-found g c = λ t.
    let rows = c.args.blocks.now.rows in
    let all = alike c.args.fp rows in
    let Differs : BRow → Type 0 = λ r. block_in c.args.slots.now (shown Flash (g.R.Rig.world c.args.rig.now)) r.slot ≢ c.args.block.now in
    let past : length all ≤ c.loop-place._place = ended all c.loop-place._place c.loop-place.at c.loop-place.invariant.next c.in-None.is in
    alike_all Differs c.args.fp rows (all_taken Differs all c.loop-place._place past (c.loop-place.invariant.none t))

pub returns-in-None-clause-calls : goal.returns-in-None-clause-calls
returns-in-None-clause-calls g c =
    let rows = c.args.blocks.now.rows in
    reads_more c.loop-place._place 0 (candidates c.args.fp rows) (g.R.Rig.counts c.args.rig.now) (g.R.Rig.counts c.loop-place.rig) (g.R.Rig.counts c.loop-place.rig) c.loop-place.invariant.calls (makes_none (g.R.Rig.counts c.loop-place.rig))
    (omega (arith, c.loop-place.invariant.few, length-filter (λ (r : BRow). bytes_eq r.fp.0 c.args.fp.0) rows))

pub returns-clause-found : goal.returns-clause-found
returns-clause-found g c = λ t.
    let rows = c.args.blocks.now.rows in
    let all = alike c.args.fp rows in
    let Differs : BRow → Type 0 = λ r. block_in c.args.slots.now (shown Flash (g.R.Rig.world c.args.rig.now)) r.slot ≢ c.args.block.now in
    let end : length rows ≤ c.loop-place._place = omega (arith, c.loop-place-test.false, c.len-all.ensures.count) in
    let past : length all ≤ c.loop-place._place = all_past (λ (r : BRow). bytes_eq r.fp.0 c.args.fp.0) rows c.loop-place._place end in
    alike_all Differs c.args.fp rows (all_taken Differs all c.loop-place._place past (c.loop-place.invariant.none t))

pub returns-clause-calls : goal.returns-clause-calls
returns-clause-calls g c =
    let rows = c.args.blocks.now.rows in
    reads_more c.loop-place._place 0 (candidates c.args.fp rows) (g.R.Rig.counts c.args.rig.now) (g.R.Rig.counts c.loop-place.rig) (g.R.Rig.counts c.loop-place.rig) c.loop-place.invariant.calls (makes_none (g.R.Rig.counts c.loop-place.rig))
    (omega (arith, c.loop-place.invariant.few, length-filter (λ (r : BRow). bytes_eq r.fp.0 c.args.fp.0) rows))
