use Rattle.std.proofs.Common.{◌≡◌, ◌∙◌, ◌||◌, Bool, false, List, length, get_or, ap, sym, arith}
use Rattle.dd_rigmem.specs.Pick.{is_in}
use Rattle.dd_rigmem.proofs.Free.{free_more, free_all, written_back}
use Rattle.dd_rigmem.proofs.device_mem.free_places.Goals as goal

pub loop-range-preserved : goal.loop-range-preserved
loop-range-preserved c =
    let before = c.loop-range.free.items in
    let same : length c.mark.new.free ≡ length before = c.mark.ensures.long ∙ ap length c.deref_mut.ensures.value in
    let after = written_back c.loop-range.free.len c.mark.new.free before same (omega (arith, c.loop-range.free.ok.0)) in
    record {
      long = ap length after ∙ same ∙ c.loop-range.invariant.long;
      each = λ place lt.
          let r = get_or c.args.ranges.now c.loop-range.range-index (0, 0) in
          ap (λ (l : List Bool). get_or l place false) after
          ∙ c.mark.ensures.each place (omega (arith, lt, c.loop-range.invariant.long, ap length c.deref_mut.ensures.value))
          ∙ ap (λ (l : List Bool). is_in r place || get_or l place false) c.deref_mut.ensures.value
          ∙ ap (λ (b : Bool). is_in r place || b) (c.loop-range.invariant.each place lt)
          ∙ sym (free_more c.args.ranges.now c.loop-range.range-index place (0, 0) c.loop-range-test.true);
    }

pub returns-clause-each : goal.returns-clause-each
returns-clause-each c = λ place lt. c.loop-range.invariant.each place lt ∙ free_all c.args.ranges.now c.loop-range.range-index place c.loop-range-test.false
