use Rattle.std.proofs.Common.{◌++◌, take, drop, ap, sym, ◌∙◌, arith, length-drop}
use Rattle.std.proofs.lemmas.List.{take_rest}
use Rattle.byteorder.specs.Endian.{little_from}
use Rattle.std.proofs.Math.Seq.{take-add}
use Rattle.dd_block.proofs.Fields.{u32_spelled, rest_small}
use Rattle.dd_block.proofs.field.u32_at.Goals as goal

pub returns-clause-spelled : goal.returns-clause-spelled
returns-clause-spelled c =
    let bytes = c.args.bytes.now in
    let at = c.args.at in
    let long = length-drop at bytes in
    take-add at 4 bytes ∙ ap (λ text. take at bytes ++ text)
    (sym (u32_spelled (drop at bytes) c.read_u32.result (omega (arith, long)) (rest_small at bytes (λ i. omega (arith, c.type_inv.bytes i))) (c.read_u32.ensures ∙ ap (little_from 0 4) (take_rest bytes at))))
