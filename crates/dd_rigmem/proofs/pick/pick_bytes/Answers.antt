use Rattle.std.proofs.Common.{◌≡◌, ◌∙◌, ap, arith, ◌<◌, length, false, Bool, if◌then◌else◌, get_or}
use Rattle.std.proofs.lemmas.List.{get_or_default}
use Rattle.dd_block.specs.Lcg.{next_state, draw}
use Rattle.dd_rigmem.specs.Pick.{is_free, picked_byte}
use Rattle.dd_rigmem.proofs.Picks.{bytes_step, rest_step}
use Rattle.dd_rigmem.proofs.pick.pick_bytes.Goals as goal

pub loop-place-preserved : goal.loop-place-preserved
loop-place-preserved c =
    let place = c.loop-place.place in
    let ranges = c.args.device.now.ranges in
    let stable = c.stable-stable.result.now in
    let shown = c.shown-shown.result.now in
    let x = c.loop-place.numbers.state in
    let low : place < length c.args.device.now.stable = omega (arith, ap length c.loop-place.invariant.stable) in
    let free : c.index.result.now ≡ is_free ranges place =
    c.index.ensures ∙ get_or_default c.in_ok-free.free.items place c.index.result.now false (omega (arith, low, c.in_ok-free.ensures.long)) ∙ c.in_ok-free.ensures.each place low in
    let moved = c.pick_next.ensures.number ∙ ap (λ (b : Bool). if b then next_state x else x) free in
    record {
      bytes = bytes_step c.args.pick ranges place x c.pick_next.new.numbers.state c.pick_next.result c.loop-place.bytes.items c.push.new.self.items stable shown _
          (omega arith) (omega (arith, c.loop-place.invariant.long))
          (c.pick_next.ensures.byte ∙ ap (λ (b : Bool). if b then picked_byte c.args.pick (draw x) (get_or stable place 0) (get_or shown place 0) else get_or stable place 0) free)
          moved c.in_ok-push.ensures.items c.loop-place.invariant.bytes;
      numbers = rest_step ranges place x c.pick_next.new.numbers.state stable _ (omega arith) moved c.loop-place.invariant.numbers;
      long = c.loop-place.invariant.long;
      stable = c.loop-place.invariant.stable;
      shown = c.loop-place.invariant.shown;
    }
