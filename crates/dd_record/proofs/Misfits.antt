-- There is no first row that doesn't fit, exactly where the rows fit each other.
use Rattle.std.proofs.Common.{◌≡◌, ℕ, suc, ◌==◌, Bool, true, false, cond, List, [], ◌∷◌, Option, Some, None, refl}
use Rattle.std.specs.Prelude.{is_none, ◌&&◌, IsTrue}
use Rattle.std.specs.List.{AllByRecursion, IsDistinct, find}
use Rattle.dd_record.specs.declared.row.ARow.{ARow}
use Rattle.dd_record.specs.declared.row.BRow.{BRow}
use Rattle.dd_record.specs.Table.{Table, RowsFit, first_bad, first_bad_a, first_bad_b, a_row, a_fits, b_row, b_fits, link_fits}

passes : {X : Type 0} (t : Bool) (x : X) (rest : Option X) → t ≡ true → rest ≡ None → cond t rest (Some x) ≡ None
passes true x rest is none = none
passes false x rest is none = absurd (cc is)

passed : {X : Type 0} (t : Bool) (x : X) (rest : Option X) → cond t rest (Some x) ≡ None → (t ≡ true) × (rest ≡ None)
passed true x rest none = (refl, none)
passed false x rest none = absurd (cc none)

-- what isn't found in a list isn't its first element, nor found in the rest
not_first : {X : Type 0} (t : Bool) (x : X) (rest : Option X) → is_none (cond t (Some x) rest) ≡ true → (t ≡ false) × (is_none rest ≡ true)
not_first true x rest none = absurd (cc none)
not_first false x rest none = (refl, none)

nor_first : {X : Type 0} (t : Bool) (x : X) (rest : Option X) → t ≡ false → is_none rest ≡ true → is_none (cond t (Some x) rest) ≡ true
nor_first true x rest is none = absurd (cc is)
nor_first false x rest is none = none

-- a row fits those before it where none has its key, and where it is right by itself
module _ {Row : Type 0} (key : Row → ℕ) (fits : List Row → Row → Bool) (Right : Row → Type 0)
    (takes : (before : List Row) (row : Row) → is_none (find (λ r. key r == key row) before) ≡ true → Right row → fits before row ≡ true)
    (gives : (before : List Row) (row : Row) → fits before row ≡ true → (is_none (find (λ r. key r == key row) before) ≡ true) × Right row) where
  NoneHas : List Row → Row → Type 0
  NoneHas before row = is_none (find (λ r. key r == key row) before) ≡ true

  behind : (row : Row) (before rows : List Row) → AllByRecursion (λ other. (key row == key other) ≡ false) rows → AllByRecursion (NoneHas before) rows → AllByRecursion (NoneHas (row ∷ before)) rows
  unfolding NoneHas
  behind row before [] apart none = tt
  behind row before (other ∷ rows) apart none =
      (nor_first (key row == key other) row (find (λ r. key r == key other) before) apart.0 none.0, behind row before rows apart.1 none.1)

  apart_of : (row : Row) (before rows : List Row) → AllByRecursion (NoneHas (row ∷ before)) rows → AllByRecursion (λ other. (key row == key other) ≡ false) rows × AllByRecursion (NoneHas before) rows
  unfolding NoneHas
  apart_of row before [] none = (tt, tt)
  apart_of row before (other ∷ rows) none =
      let first = not_first (key row == key other) row (find (λ r. key r == key other) before) none.0 in
      let rest = apart_of row before rows none.1 in
      ((first.0, rest.0), (first.1, rest.1))

  none_bad : (before : List Row) (place : ℕ) (rows : List Row) → IsDistinct (λ x y. key x == key y) rows → AllByRecursion Right rows → AllByRecursion (NoneHas before) rows
      → first_bad fits before place rows ≡ None
  unfolding IsDistinct NoneHas
  none_bad before place [] apart right none = refl
  none_bad before place (row ∷ rows) apart right none =
      passes (fits before row) place (first_bad fits (row ∷ before) (suc place) rows) (takes before row none.0 right.0)
      (none_bad (row ∷ before) (suc place) rows apart.1 right.1 (behind row before rows apart.0 none.1))

  all_right : (before : List Row) (place : ℕ) (rows : List Row) → first_bad fits before place rows ≡ None
      → IsDistinct (λ x y. key x == key y) rows × AllByRecursion Right rows × AllByRecursion (NoneHas before) rows
  unfolding IsDistinct NoneHas
  all_right before place [] none = (tt, tt, tt)
  all_right before place (row ∷ rows) none =
      let here = passed (fits before row) place (first_bad fits (row ∷ before) (suc place) rows) none in
      let is = gives before row here.0 in
      let rest = all_right (row ∷ before) (suc place) rows here.1 in
      let apart = apart_of row before rows rest.2 in
      ((apart.0, rest.0), (is.1, rest.1), (is.0, apart.1))

  none_first : (rows : List Row) → AllByRecursion (NoneHas []) rows
  unfolding NoneHas
  none_first [] = tt
  none_first (row ∷ rows) = (refl, none_first rows)

both : (a b : Bool) → a ≡ true → b ≡ true → (a && b) ≡ true
both true b is_a is_b = is_b
both false b is_a is_b = absurd (cc is_a)

each : (a b : Bool) → (a && b) ≡ true → (a ≡ true) × (b ≡ true)
each true b h = (refl, h)
each false b h = absurd (cc h)

Any : BRow → Type 0
Any row = true ≡ true

all_any : (rows : List BRow) → AllByRecursion Any rows
unfolding Any
all_any [] = tt
all_any (row ∷ rows) = (refl, all_any rows)

b_takes : (before : List BRow) (row : BRow) → is_none (b_row row.slot before) ≡ true → Any row → b_fits before row ≡ true
b_takes before row none right = none

b_gives : (before : List BRow) (row : BRow) → b_fits before row ≡ true → (is_none (b_row row.slot before) ≡ true) × Any row
unfolding Any
b_gives before row fits = (fits, refl)

a_takes : (b : List BRow) (before : List ARow) (row : ARow) → is_none (a_row row.address before) ≡ true → IsTrue (link_fits b row) → a_fits b before row ≡ true
a_takes b before row none right = both (is_none (a_row row.address before)) (link_fits b row) none right

a_gives : (b : List BRow) (before : List ARow) (row : ARow) → a_fits b before row ≡ true → (is_none (a_row row.address before) ≡ true) × IsTrue (link_fits b row)
a_gives b before row fits = each (is_none (a_row row.address before)) (link_fits b row) fits

-- rows that fit have no first misfit
pub no_misfit : (table : Table) → RowsFit table → (first_bad_b table ≡ None) × (first_bad_a table ≡ None)
no_misfit table fit = (
  none_bad (λ row. row.slot) b_fits Any b_takes b_gives [] 0 table.b fit.slots (all_any table.b) (none_first (λ row. row.slot) b_fits Any b_takes b_gives table.b),
  none_bad (λ row. row.address) (a_fits table.b) (λ row. IsTrue (link_fits table.b row)) (a_takes table.b) (a_gives table.b) [] 0 table.a fit.addresses fit.links
      (none_first (λ row. row.address) (a_fits table.b) (λ row. IsTrue (link_fits table.b row)) (a_takes table.b) (a_gives table.b) table.a),
)

-- and rows without a first misfit fit
pub rows_fit : (table : Table) → first_bad_b table ≡ None → first_bad_a table ≡ None → RowsFit table
rows_fit table b_none a_none =
    let blocks = all_right (λ row. row.slot) b_fits Any b_takes b_gives [] 0 table.b b_none in
    let addresses = all_right (λ row. row.address) (a_fits table.b) (λ row. IsTrue (link_fits table.b row)) (a_takes table.b) (a_gives table.b) [] 0 table.a a_none in
    record { slots = blocks.0; addresses = addresses.0; links = addresses.1 }
