use Rattle.std.proofs.Common.{ℕ, replicate, ◌∙◌, ap}
use Rattle.dd_store.proofs.LayingRow.{slot_content, zero_content}
use Rattle.dd_store.proofs.lay.lay_row.Goals as goal

pub returns-in-Slot-clause-crash : goal.returns-in-Slot-clause-crash
returns-in-Slot-clause-crash g c = λ told basis print store s same is may kept. c.lay_slot.ensures.crash told basis print store s same is may.may kept

pub returns-in-Slot-clause-kept : goal.returns-in-Slot-clause-kept
returns-in-Slot-clause-kept g c = λ told basis print store s same is may kept. c.lay_slot.ensures.kept told basis print store s same is may.may kept

pub returns-in-Slot-clause-laid : goal.returns-in-Slot-clause-laid
returns-in-Slot-clause-laid g c = λ told basis print store s same is may kept.
    c.lay_slot.ensures.laid told basis print store s same is may.may kept (slot_content print store (g.R.Rig.world c.args.rig.now) c.args.geo same s kept.holds c.args.row may c.args.slots.now _ c.requires.slots c.in-Slot.is)

pub returns-in-Err-clause-crash : goal.returns-in-Err-clause-crash
returns-in-Err-clause-crash g c = λ told basis print store s same is may kept. c.lay_block.ensures.crash told basis print store s same is may.may kept

pub returns-in-Err-clause-kept : goal.returns-in-Err-clause-kept
returns-in-Err-clause-kept g c = λ told basis print store s same is may kept. c.lay_block.ensures.kept told basis print store s same is may.may kept

pub returns-in-Ok-clause-crash : goal.returns-in-Ok-clause-crash
returns-in-Ok-clause-crash g c = λ told basis print store s same is may kept. c.lay_block.ensures.crash told basis print store s same is may.may kept

pub returns-in-Ok-clause-kept : goal.returns-in-Ok-clause-kept
returns-in-Ok-clause-kept g c = λ told basis print store s same is may kept. c.lay_block.ensures.kept told basis print store s same is may.may kept

pub returns-in-Ok-clause-laid : goal.returns-in-Ok-clause-laid
returns-in-Ok-clause-laid g c = λ told basis print store s same is may kept.
    c.in-Ok.ensures.laid told basis print store s same is may.may kept (zero_content print store (g.R.Rig.world c.args.rig.now) c.args.geo same s kept.holds c.args.row may c.fill.new.self
    (c.fill.ensures.after (λ y same. same) ∙ ap (λ (n : ℕ). replicate n 0) c.requires.block) (c.fill.ensures.len ∙ c.requires.block) c.in-Zero.is)

pub returns-in-Slot-clause-holds : goal.returns-in-Slot-clause-holds
returns-in-Slot-clause-holds g c = λ told print store s same is may holds. c.lay_slot.ensures.holds told print store s same is may.may holds

pub returns-in-Slot-clause-holds_laid : goal.returns-in-Slot-clause-holds_laid
returns-in-Slot-clause-holds_laid g c = λ told print store s same is may holds.
    c.lay_slot.ensures.holds_laid told print store s same is may.may holds (slot_content print store (g.R.Rig.world c.args.rig.now) c.args.geo same s holds c.args.row may c.args.slots.now _ c.requires.slots c.in-Slot.is)

pub returns-in-Err-clause-holds : goal.returns-in-Err-clause-holds
returns-in-Err-clause-holds g c = λ told print store s same is may holds. c.lay_block.ensures.holds told print store s same is may.may holds

pub returns-in-Ok-clause-holds : goal.returns-in-Ok-clause-holds
returns-in-Ok-clause-holds g c = λ told print store s same is may holds. c.lay_block.ensures.holds told print store s same is may.may holds

pub returns-in-Ok-clause-holds_laid : goal.returns-in-Ok-clause-holds_laid
returns-in-Ok-clause-holds_laid g c = λ told print store s same is may holds.
    c.in-Ok.ensures.holds_laid told print store s same is may.may holds (zero_content print store (g.R.Rig.world c.args.rig.now) c.args.geo same s holds c.args.row may c.fill.new.self
    (c.fill.ensures.after (λ y same. same) ∙ ap (λ (n : ℕ). replicate n 0) c.requires.block) (c.fill.ensures.len ∙ c.requires.block) c.in-Zero.is)
