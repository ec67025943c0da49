use Rattle.std.proofs.Common.{sym, ◌∙◌, refl, arith}
use Rattle.std.proofs.lemmas.List.{take_all}
use Rattle.dd_layout.proofs.superblock.write_super.Goals as goal

pub returns : goal.returns
returns c =
    sym (take_all 64 c.put_bytes-3.new.into (omega (arith, c.told-into, c.put_bytes-3.auto.into)))
    ∙ rw (
      c.put_bytes-3.ensures.spelled,
      c.put_u32-8.ensures.spelled,
      c.put_u32-7.ensures.spelled,
      c.put_u32-6.ensures.spelled,
      c.put_u32-5.ensures.spelled,
      c.put_u32-4.ensures.spelled,
      c.put_u32-3.ensures.spelled,
      c.put_u32-2.ensures.spelled,
      c.put_u32.ensures.spelled,
      c.put_bytes-2.ensures.spelled,
      c.put_bytes.ensures.spelled,
    ) refl
