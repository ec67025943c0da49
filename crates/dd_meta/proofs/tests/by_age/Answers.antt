use Rattle.std.proofs.Common.{sym, ◌∙◌}
use Rattle.dd_lists.proofs.Found.{first_in_list}
use Rattle.dd_meta.proofs.tests.by_age.Goals as goal

pub next_dirty-requires-in-Some : goal.next_dirty-requires-in-Some
next_dirty-requires-in-Some c = first_in_list c.in-Some.first c.args.cache.now.dirty (sym c.next_dirty.ensures ∙ c.in-Some.is)
