use Rattle.std.proofs.Common.{◌≡◌, ◌++◌, take}
use Rattle.dd_block.specs.Geometry.{HasNumbers}
use Rattle.std.proofs.lemmas.List.{append_assoc}
use Rattle.std.proofs.lemmas.Result.{IfOk-weaker}
use Rattle.dd_layout.specs.Super.{numbers_text}
use Rattle.dd_layout.proofs.superblock.numbers.Goals as goal

pub returns-clause-spelled : goal.returns-clause-spelled
returns-clause-spelled c = IfOk-weaker c.new.result
    (λ geo. HasNumbers geo c.u32_at.result c.u32_at-2.result c.u32_at-3.result c.u32_at-4.result c.u32_at-5.result c.u32_at-6.result c.u32_at-7.result)
    (λ geo. take 40 c.args.from.now ≡ take 12 c.args.from.now ++ numbers_text geo)
    (λ geo has. rw (
      c.u32_at-7.ensures.spelled,
      c.u32_at-6.ensures.spelled,
      c.u32_at-5.ensures.spelled,
      c.u32_at-4.ensures.spelled,
      c.u32_at-3.ensures.spelled,
      c.u32_at-2.ensures.spelled,
      c.u32_at.ensures.spelled,
      has.block_size,
      has.block_count,
      has.address_capacity,
      has.block_capacity,
      has.spare_count,
      has.group_size,
      has.log_size,
    ) (simp append_assoc))
    c.new.ensures.numbers
