use Rattle.std.proofs.Common.{◌≡◌, true, false, Some, option_map, sym, ◌∙◌, ap}
use Rattle.std.specs.Str.{bytes_eq}
use Rattle.dd_record.specs.declared.row.BRow.{BRow}
use Rattle.dd_data.specs.Matching.{key_of, row_at, has_print}
use Rattle.dd_data.proofs.Seeking.{sought_in, sought_found, sought_on, sought_less}
use Rattle.dd_data.proofs.walks.seek.Goals as goal

pub row_at-row-requires : goal.row_at-row-requires
row_at-row-requires c = c.requires.held c.in-Some.slot (sought_in c.loop-at.invariant c.in-Some.slot c.in-Some.is)

pub returns-then-is_like : goal.returns-then-is_like
returns-then-is_like c =
    let passes : has_print c.args.prints.now c.args.fp c.in-Some.slot ≡ true = ap (λ (r : BRow). bytes_eq r.fp.0 c.args.fp.0) (sym c.row_at-row.ensures) ∙ sym c.is_like.ensures ∙ c.if-is_like.true in
    ap Some c.row_at-row.ensures ∙ sym (ap (option_map (row_at c.args.prints.now)) (sought_found c.loop-at.invariant c.requires.distinct c.in-Some.slot c.in-Some.is passes))

pub next_same-at-requires : goal.next_same-at-requires
next_same-at-requires c = (key_of c.args.fp, sought_in c.loop-at.invariant c.in-Some.slot c.in-Some.is)

pub loop-at-smaller : goal.loop-at-smaller
loop-at-smaller c =
    sought_less c.loop-at.invariant c.requires.distinct c.in-Some.slot c.in-Some.is c.next_same-at.result
    (c.next_same-at.ensures (key_of c.args.fp) (sought_in c.loop-at.invariant c.in-Some.slot c.in-Some.is))

pub loop-at-preserved : goal.loop-at-preserved
loop-at-preserved c =
    let out : has_print c.args.prints.now c.args.fp c.in-Some.slot ≡ false = ap (λ (r : BRow). bytes_eq r.fp.0 c.args.fp.0) (sym c.row_at-row.ensures) ∙ sym c.is_like.ensures ∙ c.if-is_like.false in
    sought_on c.loop-at.invariant c.requires.distinct c.in-Some.slot c.in-Some.is c.next_same-at.result out
    (c.next_same-at.ensures (key_of c.args.fp) (sought_in c.loop-at.invariant c.in-Some.slot c.in-Some.is))
