use Rattle.std.proofs.Common.{◌≡◌, ◌≤◌, take, length}
use Rattle.dd_rig.specs.declared.device.Dev.TheVariants.{Flash}
use Rattle.dd_rig.specs.World.{shown}
use Rattle.dd_rig.specs.Clock.{AddsNone}
use Rattle.dd_rig.specs.Counts.{Frame, Makes, plus, up_to, nothing}
use Rattle.dd_model.specs.Confirming.{candidates, Confirms}
use Rattle.std.specs.Prelude.{None}
use Rattle.dd_model.proofs.search.confirm.Given as goal

abbrev pub invariant-loop-row : goal.invariant-loop-row
invariant-loop-row g l = record {
  room : length l.scratch ≡ l.slots.block;
  none : g.R.Rig.tells → Confirms l.fp l.block l.slots (shown Flash (g.R.Rig.world l.fn.rig)) (take l.row-index l.rows) None;
  same : g.R.Rig.tells → g.R.Rig.world l.rig ≡ g.R.Rig.world l.fn.rig;
  time : g.R.Rig.tells → AddsNone (g.R.Rig.clock l.fn.rig) (g.R.Rig.clock l.rig);
  calls : Makes (up_to (candidates l.fp (take l.row-index l.rows)) 0 0) nothing (g.R.Rig.counts l.fn.rig) (g.R.Rig.counts l.rig);
  reads : plus (g.R.Rig.counts l.fn.rig).flash.reads 0 ≤ (g.R.Rig.counts l.rig).flash.reads;
  disk : (g.R.Rig.counts l.rig).disk ≡ (g.R.Rig.counts l.fn.rig).disk;
  frame : Frame (g.R.Rig.counts l.fn.rig) (g.R.Rig.counts l.rig) (g.R.Rig.device_size l.fn.rig) (g.R.Rig.device_size l.rig);
}
