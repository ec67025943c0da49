use Rattle.std.proofs.Common.{sym, ◌∙◌, refl, arith}
use Rattle.std.proofs.lemmas.List.{take_all}
use Rattle.dd_record.proofs.head.put_head.Goals as goal

pub returns : goal.returns
returns c =
    sym (take_all 32 c.put_u32-3.new.into (omega (arith, c.told-into, c.put_u32-3.auto.into)))
    ∙ rw (
      c.put_u32-3.ensures.spelled,
      c.put_u32-2.ensures.spelled,
      c.put_u64-2.ensures.spelled,
      c.put_u64.ensures.spelled,
      c.put_u32.ensures.spelled,
      c.put_bytes.ensures.spelled,
    ) refl
