use Rattle.std.proofs.Common.{◌≡◌, ◌-◌, replicate, ap, sym, ◌∙◌, arith}
use Rattle.std.proofs.lemmas.Slice.Eq.{bytes_eq-Decides}
use Rattle.std.specs.Str.{bytes_eq}
use Rattle.dd_block.specs.Bytes.{part}
use Rattle.dd_block.proofs.Zeros.{step_zeros}
use Rattle.dd_block.proofs.text.without_steps.Goals as goal

pub loop-end-preserved : goal.loop-end-preserved
loop-end-preserved c =
    let block = c.args.block.now in
    let end = c.loop-end.end in
    let start = end - 64 in
    let size : end - start ≡ 64 = omega arith in
    let step : part block start (end - start) ≡ replicate 64 0 =
    (bytes_eq-Decides (part block start (end - start)) (replicate 64 0)).0 (ap (bytes_eq (part block start (end - start))) (sym c.as_slice.ensures) ∙ sym c.eq.ensures ∙ c.if-eq.true) in
    let zeros = step_zeros block end start 64 (omega arith) (ap (part block start) (sym size) ∙ step) in
    record { within = omega arith; zeros = omega (arith, zeros) }
