-- What an error says that a `?` hands on.
use Rattle.std.specs.Prelude.{Result, Ok, Err, IfErr, IsErrAnd}

-- the error that it hands on
pub handed_on : {T E : Type 0} (r : Result T E) (P Q : E → Type 0) → IsErrAnd r P → ((e : E) → P e → Q e) → IfErr r Q
handed_on (Ok x) P Q h w = tt
handed_on (Err e) P Q h w = w e h

-- any error
pub any_error : {T E : Type 0} (r : Result T E) (Q : E → Type 0) → ((e : E) → Q e) → IfErr r Q
any_error (Ok x) Q w = tt
any_error (Err e) Q w = w e
