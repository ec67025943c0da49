-- What plain vectors walk along.
use Rattle.std.specs.Prelude.{ℕ, ◌==◌, ◌&&◌, List, [], ◌∷◌, map, filter, find, Option, Some, None, option_map, if◌then◌else◌}
use Rattle.dd_record.specs.declared.row.ARow.{ARow}
use Rattle.dd_model.specs.Listing.{is_owed, refers}

-- the dirty addresses that are linked to a slot, in the order of their rows
abbrev pub owed_to : ℕ → List ARow → List ℕ
owed_to slot rows = map (λ row. row.address) (filter (λ row. is_owed slot row) rows)

-- the first of them but for one
abbrev pub first_referrer : ℕ → ℕ → List ARow → Option ℕ
first_referrer slot skip rows = option_map (λ row. row.address) (find (λ row. refers slot skip row) rows)

-- the first of them behind an address that is one of them
abbrev pub behind_row : ℕ → ℕ → ℕ → List ARow → Option ℕ
behind_row slot skip address [] = None
behind_row slot skip address (row ∷ rows) = if refers slot skip row && row.address == address then first_referrer slot skip rows else behind_row slot skip address rows

-- the first of them, or the next one behind an address
abbrev pub referrer_behind : ℕ → ℕ → Option ℕ → List ARow → Option ℕ
referrer_behind slot skip None rows = first_referrer slot skip rows
referrer_behind slot skip (Some address) rows = behind_row slot skip address rows
