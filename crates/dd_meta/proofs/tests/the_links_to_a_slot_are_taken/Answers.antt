use Rattle.std.proofs.Common.{refl}
use Rattle.dd_meta.proofs.Filled.{three_apart}
use Rattle.dd_meta.proofs.tests.the_links_to_a_slot_are_taken.Goals as goal

pub fill-requires-clause-addresses : goal.fill-requires-clause-addresses
fill-requires-clause-addresses c given = three_apart _ _ _ refl refl refl
