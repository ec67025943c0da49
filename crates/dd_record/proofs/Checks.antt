-- What a check that passed shows.
use Rattle.std.proofs.Common.{◌≡◌, ℕ, Bool, true, false, [], ◌∷◌, refl}
use Rattle.std.specs.Prelude.{Result, Ok}
use Rattle.dd_block.specs.Geometry.{GivesFault}
use Rattle.dd_block.proofs.Results.{ok_none}
use Rattle.dd_record.specs.declared.fault.RowFault.{RowFault}
use Rattle.dd_record.specs.declared.fault.What.{What}
use Rattle.dd_record.specs.Faults.{check, first_fault}

-- the rule is kept
pub kept_of : (at : ℕ) (what : What) (kept : Bool) (r : Result Unit RowFault) → r ≡ Ok tt
    → GivesFault r (first_fault (check at what kept ∷ [])) → kept ≡ true
kept_of at what true r ok h = refl
kept_of at what false r ok h = absurd (cc (ok_none r tt (first_fault (check at what false ∷ [])) ok h))
