use Rattle.std.proofs.Common.{◌≡◌, ◌*◌, ◌/◌, length, take, length-take, arith}
use Rattle.dd_block.proofs.DigitPlace.{digit_place}
use Rattle.dd_block.proofs.text.read_block_text.Goals as goal

pub overflow_cast-result : goal.overflow_cast-result
overflow_cast-result c =
    let digit = c.in-Err-InvalidHexCharacter in
    let long : length c.args.text.now ≡ 2 * length (take (length c.args.text.now / 2) c.args.into.now) =
    omega (arith, length-take (length c.args.text.now / 2) c.args.into.now) in
    let within = digit_place c.args.text.now _ digit.field-0-0 digit.index c.decode_to_slice.result c.decode_to_slice.new.out long
    c.decode_to_slice.ensures.value (cc (digit.is, digit.field-0-is)) in
    omega (arith, within)
