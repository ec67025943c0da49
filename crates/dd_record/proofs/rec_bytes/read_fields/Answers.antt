use Rattle.std.proofs.Common.{sym, ◌∙◌, refl, arith}
use Rattle.std.proofs.lemmas.List.{take_all}
use Rattle.std.proofs.Math.Seq.{take-add}
use Rattle.dd_record.proofs.rec_bytes.read_fields.Goals as goal

pub returns-clause-spelled : goal.returns-clause-spelled
returns-clause-spelled c =
    let from = c.args.from.now in
    sym (take_all 48 from (omega (arith, c.told-from))) ∙ take-add 16 32 from
    ∙ rw (c.u32_at-4.ensures.spelled, c.u32_at-3.ensures.spelled, c.u32_at-2.ensures.spelled, c.u32_at.ensures.spelled, ← c.fp_at.ensures.bytes) refl
