use Rattle.std.proofs.Common.{arith}
use Rattle.dd_recover.proofs.Texts.{first_text_is}
use Rattle.dd_recover.proofs.format.first_text.Goals as goal

pub returns : goal.returns
returns c =
    first_text_is c.put_head.new.into c.put_bytes.new.into c.put_bytes-2.new.into c.put_bytes-3.new.into c.put_head.ensures
    c.put_bytes.ensures.spelled c.put_bytes-2.ensures.spelled c.put_bytes-3.ensures.spelled (omega (arith, c.put_bytes-3.auto.into))
