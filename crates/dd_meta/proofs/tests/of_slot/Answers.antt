use Rattle.std.proofs.Common.{sym, ◌∙◌}
use Rattle.dd_lists.proofs.Found.{first_in_list}
use Rattle.dd_meta.specs.Entries.{owed_to}
use Rattle.dd_meta.specs.Walks.{but}
use Rattle.dd_meta.proofs.tests.of_slot.Goals as goal

pub next_referrer-requires-in-Some-clause-walked : goal.next_referrer-requires-in-Some-clause-walked
next_referrer-requires-in-Some-clause-walked c = first_in_list c.in-Some.first (but c.args.skip (owed_to c.args.slot c.args.cache.now)) (sym c.next_referrer.ensures ∙ c.in-Some.is)
