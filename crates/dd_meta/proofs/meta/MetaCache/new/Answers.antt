use Rattle.std.proofs.Common.{arith}
use Rattle.dd_meta.proofs.Rows.{new_matches, new_view}
use Rattle.dd_meta.proofs.Facts.{meta_kept}
use Rattle.dd_meta.proofs.meta.MetaCache.new.Goals as goal

pub invariant_of-result : goal.invariant_of-result
invariant_of-result c =
    new_matches c.args.acap c.args.slots c.in-Some.lists c.in_ok-reserve.field-0 c.in_ok-new.field-0 (omega (arith, c.requires)) c.in-Some.ensures.1 c.in-Some.ensures.0 c.in_ok-reserve.ensures c.in_ok-new.ensures.room c.in_ok-new.ensures.empty

pub returns-clause-empty : goal.returns-clause-empty
returns-clause-empty c = new_view c.args.acap c.args.slots c.in-Some.lists c.in_ok-reserve.field-0 c.in-Some.ensures.1 c.in_ok-reserve.ensures

pub returns-clause-keeps : goal.returns-clause-keeps
returns-clause-keeps c =
    meta_kept
    (new_matches c.args.acap c.args.slots c.in-Some.lists c.in_ok-reserve.field-0 c.in_ok-new.field-0 (omega (arith, c.requires)) c.in-Some.ensures.1 c.in-Some.ensures.0 c.in_ok-reserve.ensures c.in_ok-new.ensures.room c.in_ok-new.ensures.empty)
