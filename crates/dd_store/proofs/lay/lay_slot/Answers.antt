use Rattle.std.proofs.Common.{◌∙◌}
use Rattle.dd_rig.proofs.Moments.{widens}
use Rattle.dd_store.proofs.LayingRow.{kept_read, holds_read, behind_read}
use Rattle.dd_store.proofs.lay.lay_slot.Goals as goal

pub returns-in-Err-clause-crash : goal.returns-in-Err-clause-crash
returns-in-Err-clause-crash g c = λ told basis print store s same is may kept. widens (c.load.ensures.time told) (λ o never. absurd never)

pub returns-in-Err-clause-kept : goal.returns-in-Err-clause-kept
returns-in-Err-clause-kept g c = λ told basis print store s same is may kept. kept_read basis print store _ (g.R.Rig.world c.load.new.rig) s s (c.load.ensures.world told) kept

pub returns-in-Err-lay_block-clause-crash : goal.returns-in-Err-lay_block-clause-crash
returns-in-Err-lay_block-clause-crash g c = λ told basis print store s same is may kept.
    behind_read (c.load.ensures.time told) (c.lay_block.ensures.crash told basis print store s same is may (kept_read basis print store _ (g.R.Rig.world c.load.new.rig) s s (c.load.ensures.world told) kept))

pub returns-in-Err-lay_block-clause-kept : goal.returns-in-Err-lay_block-clause-kept
returns-in-Err-lay_block-clause-kept g c = λ told basis print store s same is may kept.
    c.lay_block.ensures.kept told basis print store s same is may (kept_read basis print store _ (g.R.Rig.world c.load.new.rig) s s (c.load.ensures.world told) kept)

pub returns-in-Ok-lay_block-clause-crash : goal.returns-in-Ok-lay_block-clause-crash
returns-in-Ok-lay_block-clause-crash g c = λ told basis print store s same is may kept.
    behind_read (c.load.ensures.time told) (c.lay_block.ensures.crash told basis print store s same is may (kept_read basis print store _ (g.R.Rig.world c.load.new.rig) s s (c.load.ensures.world told) kept))

pub returns-in-Ok-lay_block-clause-kept : goal.returns-in-Ok-lay_block-clause-kept
returns-in-Ok-lay_block-clause-kept g c = λ told basis print store s same is may kept.
    c.lay_block.ensures.kept told basis print store s same is may (kept_read basis print store _ (g.R.Rig.world c.load.new.rig) s s (c.load.ensures.world told) kept)

pub returns-in-Ok-lay_block-clause-laid : goal.returns-in-Ok-lay_block-clause-laid
returns-in-Ok-lay_block-clause-laid g c = λ told basis print store s same is may kept content_is.
    c.in-Ok-lay_block.ensures.laid told basis print store s same is may (kept_read basis print store _ (g.R.Rig.world c.load.new.rig) s s (c.load.ensures.world told) kept)
    (c.in-Ok.ensures.bytes told ∙ content_is)

pub returns-in-Err-lay_block-clause-holds : goal.returns-in-Err-lay_block-clause-holds
returns-in-Err-lay_block-clause-holds g c = λ told print store s same is may holds.
    c.lay_block.ensures.holds told print store s same is may (holds_read print store _ (g.R.Rig.world c.load.new.rig) s (c.load.ensures.world told) holds)

pub returns-in-Ok-lay_block-clause-holds : goal.returns-in-Ok-lay_block-clause-holds
returns-in-Ok-lay_block-clause-holds g c = λ told print store s same is may holds.
    c.lay_block.ensures.holds told print store s same is may (holds_read print store _ (g.R.Rig.world c.load.new.rig) s (c.load.ensures.world told) holds)

pub returns-in-Ok-lay_block-clause-holds_laid : goal.returns-in-Ok-lay_block-clause-holds_laid
returns-in-Ok-lay_block-clause-holds_laid g c = λ told print store s same is may holds content_is.
    c.in-Ok-lay_block.ensures.holds_laid told print store s same is may (holds_read print store _ (g.R.Rig.world c.load.new.rig) s (c.load.ensures.world told) holds)
    (c.in-Ok.ensures.bytes told ∙ content_is)
