use Rattle.std.proofs.Common.{refl}
use Rattle.dd_meta.proofs.Filled.{three_apart}
use Rattle.dd_meta.proofs.tests.rows_are_taken_in_and_given_back.Goals as goal

pub fill-requires-clause-addresses : goal.fill-requires-clause-addresses
fill-requires-clause-addresses c given = three_apart _ _ _ refl refl refl
