use Rattle.std.proofs.Common.{◌≡◌, length}
use Rattle.dd_rig.specs.Counts.{Frame}
use Rattle.dd_loop.specs.Saying.{IsIdle}
use Rattle.dd_record.specs.declared.row.BRow.{BRow}
use Rattle.dd_answers.specs.Listed.{b_entry}
use Rattle.dd_answers.proofs.Pieces.{SaidTo, rows_left}
use Rattle.dd_answers.proofs.listing.say_blocks.Given as goal

abbrev pub invariant-loop-next : goal.invariant-loop-next
invariant-loop-next g l = record {
  said : SaidTo b_entry (λ (row : BRow). row.slot) (g.T.Rows.b_rows l.rows) g.R.Rig.tells l.next (g.R.Rig.clock l.initial.rig) (g.R.Rig.clock l.rig) (g.R.Rig.world l.initial.rig) (g.R.Rig.world l.rig);
  idle : IsIdle (g.R.Rig.counts l.initial.rig) (g.R.Rig.counts l.rig);
  frame : Frame (g.R.Rig.counts l.initial.rig) (g.R.Rig.counts l.rig) (g.R.Rig.device_size l.initial.rig) (g.R.Rig.device_size l.rig);
  room : length l.text ≡ length l.initial.text;
}

abbrev pub decreases-loop-next : goal.decreases-loop-next
decreases-loop-next g l = rows_left (λ (row : BRow). row.slot) l.next (g.T.Rows.b_rows l.rows)
