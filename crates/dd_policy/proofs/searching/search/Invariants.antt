use Rattle.std.proofs.Common.{◌≡◌, ◌≢◌, ◌≤◌, take, length}
use Rattle.std.specs.Prelude.{slice_get}
use Rattle.std.specs.List.{AllByRecursion}
use Rattle.dd_rig.specs.declared.device.Dev.TheVariants.{Flash}
use Rattle.dd_rig.specs.World.{shown}
use Rattle.dd_rig.specs.Clock.{AddsNone}
use Rattle.dd_rig.specs.Counts.{Frame, Makes, plus, up_to, nothing}
use Rattle.dd_slots.specs.Slots.{block_in}
use Rattle.dd_data.specs.Blocks.{alike}
use Rattle.dd_policy.proofs.searching.search.Given as goal

abbrev pub invariant-loop-place : goal.invariant-loop-place
invariant-loop-place g l = record {
  next : l.at ≡ slice_get (alike l.fp l.blocks.rows) l._place;
  few : l._place ≤ length (alike l.fp l.blocks.rows);
  room : length l.scratch ≡ l.slots.block;
  none : g.R.Rig.tells → AllByRecursion (λ row. block_in l.slots (shown Flash (g.R.Rig.world l.fn.rig)) row.slot ≢ l.block) (take l._place (alike l.fp l.blocks.rows));
  same : g.R.Rig.tells → g.R.Rig.world l.rig ≡ g.R.Rig.world l.fn.rig;
  time : g.R.Rig.tells → AddsNone (g.R.Rig.clock l.fn.rig) (g.R.Rig.clock l.rig);
  calls : Makes (up_to l._place 0 0) nothing (g.R.Rig.counts l.fn.rig) (g.R.Rig.counts l.rig);
  reads : plus (g.R.Rig.counts l.fn.rig).flash.reads 0 ≤ (g.R.Rig.counts l.rig).flash.reads;
  disk : (g.R.Rig.counts l.rig).disk ≡ (g.R.Rig.counts l.fn.rig).disk;
  frame : Frame (g.R.Rig.counts l.fn.rig) (g.R.Rig.counts l.rig) (g.R.Rig.device_size l.fn.rig) (g.R.Rig.device_size l.rig);
}
