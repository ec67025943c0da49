-- What a result's fault says of it.
use Rattle.std.proofs.Common.{◌≡◌}
use Rattle.std.specs.Prelude.{Result, Ok, Err, Option, None}
use Rattle.dd_block.specs.Geometry.{GivesFault}

-- no fault where it is Ok
pub ok_none : {T F : Type 0} (r : Result T F) (x : T) (fault : Option F) → r ≡ Ok x → GivesFault r fault → fault ≡ None
ok_none (Ok v) x fault is h = h
ok_none (Err e) x fault is h = absurd (cc is)
