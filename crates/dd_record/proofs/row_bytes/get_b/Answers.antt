use Rattle.std.proofs.Common.{refl, ap, sym, ◌∙◌, Ok, arith}
use Rattle.std.proofs.lemmas.Bool.{ltb-true}
use Rattle.std.proofs.lemmas.List.{take_all}
use Rattle.std.proofs.Math.Seq.{take-add}
use Rattle.dd_record.specs.declared.fault.What.TheVariants.{Slot}
use Rattle.dd_record.proofs.Checks.{kept_of}
use Rattle.dd_record.proofs.RowLaws.{b_back}
use Rattle.dd_record.proofs.row_bytes.get_b.Goals as goal

pub returns-clause-ok : goal.returns-clause-ok
returns-clause-ok c =
    let from = c.args.from.now in (
      sym (take_all 36 from (omega (arith, c.told-from))) ∙ take-add 4 32 from ∙ rw (c.u32_at-slot.ensures.spelled, c.fp_at.ensures.bytes) refl,
      record {
        slot = omega (arith, c.slots.ensures, ltb-true _ _ (kept_of 0 Slot _ c.check.result c.in_ok-check.was c.check.ensures));
        fp = c.fp_at.ensures.whole;
      },
    )

pub returns-clause-back : goal.returns-clause-back
returns-clause-back c = λ row is e. ap Ok (b_back c.args.geo row _ c.args.from.now is e c.u32_at-slot.ensures.number c.fp_at.ensures.bytes)
