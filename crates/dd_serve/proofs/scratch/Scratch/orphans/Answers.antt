use Rattle.std.proofs.Common.{subst, ◌∙◌, ap}
use Rattle.dd_record.specs.Table.{RowsFit}
use Rattle.dd_model.specs.Orphans.{orphans_of}
use Rattle.dd_model.proofs.Orphaned.{orphans_shown}
use Rattle.dd_serve.specs.Scratch.{ScratchView, held_in, scratch_state}
use Rattle.dd_serve.proofs.scratch.Scratch.orphans.Goals as goal

pub returns-clause-state : goal.returns-clause-state
returns-clause-state g c = λ printed world sound.
    let scratch : ScratchView = c.args.self.now in
    let kept = g.met.L.Lists.kept c.self.inside.lists in
    let fit : RowsFit scratch.lists.table = subst (λ (v : ScratchView). RowsFit v.lists.table) c.self.view_is kept.fit in
    let counted = c.orphans.ensures ∙ ap (λ (v : ScratchView). orphans_of v.lists.table) c.self.view_is in
    counted ∙ orphans_shown printed (held_in scratch.slots world) scratch.lists.table scratch.count (scratch_state scratch world) sound.0 fit
