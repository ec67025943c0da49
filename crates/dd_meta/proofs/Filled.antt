-- Rows taken in from the last one on.
use Rattle.std.proofs.Common.{◌≡◌, ℕ, zero, suc, ◌+◌, ◌<◌, ◌==◌, not, Bool, true, false, List, [], ◌∷◌, ◌++◌, length, map, refl, sym, ◌∙◌, ap, subst, cond, reverse, drop, get_or}
use Rattle.std.specs.Prelude.{filter, ◌||◌}
use Rattle.std.specs.List.{AllByRecursion, IsDistinct, list_any}
use Rattle.std.proofs.lemmas.Bool.{or_parts}
use Rattle.std.proofs.lemmas.List.{reverse-append, map-append, drop_more}
use Rattle.std.proofs.lemmas.List.Elements.{filter-append}
use Rattle.dd_record.specs.declared.row.ARow.{ARow}
use Rattle.dd_lists.specs.Lists.{is_in, without}
use Rattle.dd_lists.proofs.Members.{without_none}
use Rattle.dd_meta.specs.Entries.{Meta, Fronts, rows_of, dirty_by}
use Rattle.dd_meta.specs.Walks.{dirty_of_rows}
use Rattle.dd_meta.proofs.Numbers.{in_append, filter_all}
use Rattle.dd_meta.proofs.Stepping.{turn}

split : (row : ARow) (rows : List ARow) → dirty_of_rows (row ∷ rows) ≡ dirty_of_rows rows ++ cond row.dirty (row.address ∷ []) []
split row rows =
    ap (λ (l : List ARow). map (λ (r : ARow). r.address) (filter (λ (r : ARow). r.dirty) l)) (reverse-append (row ∷ []) rows)
    ∙ ap (map (λ (r : ARow). r.address)) (filter-append (λ (r : ARow). r.dirty) (reverse rows) (row ∷ []))
    ∙ map-append (λ (r : ARow). r.address) (filter (λ (r : ARow). r.dirty) (reverse rows)) (cond row.dirty (row ∷ []) [])
    ∙ ap (λ (l : List ℕ). dirty_of_rows rows ++ l) (one row.dirty)
  where
    one : (b : Bool) → map (λ (r : ARow). r.address) (cond b (row ∷ []) []) ≡ cond b (row.address ∷ []) []
    one true = refl
    one false = refl

-- an address that no row has isn't among the dirty ones of the rows
absent : (a : ℕ) (rows : List ARow) → list_any (λ (row : ARow). row.address == a) rows ≡ false → is_in a (dirty_of_rows rows) ≡ false
absent a [] h = refl
absent a (row ∷ rows) h =
    let parts = or_parts (row.address == a) (list_any (λ (r : ARow). r.address == a) rows) h in
    ap (is_in a) (split row rows) ∙ in_append a (dirty_of_rows rows) (cond row.dirty (row.address ∷ []) [])
    ∙ ap (λ t. t || is_in a (cond row.dirty (row.address ∷ []) [])) (absent a rows parts.1) ∙ one row.dirty (turn a row.address ∙ parts.0)
  where
    one : (b : Bool) → (a == row.address) ≡ false → is_in a (cond b (row.address ∷ []) []) ≡ false
    one true e = ap (λ t. t || false) e
    one false e = refl

append_nil : (xs : List ℕ) → xs ++ [] ≡ xs
append_nil [] = refl
append_nil (x ∷ xs) = ap (λ (l : List ℕ). x ∷ l) (append_nil xs)

dirty_more : (row : ARow) (rows : List ARow) → list_any (λ (r : ARow). r.address == row.address) rows ≡ false → dirty_by row (dirty_of_rows rows) ≡ dirty_of_rows (row ∷ rows)
dirty_more row rows out = step row.dirty ∙ sym (split row rows)
  where
    step : (b : Bool) → cond b (cond (is_in row.address (dirty_of_rows rows)) (dirty_of_rows rows) (dirty_of_rows rows ++ row.address ∷ [])) (without row.address (dirty_of_rows rows)) ≡ dirty_of_rows rows ++ cond b (row.address ∷ []) []
    step true = ap (λ t. cond t (dirty_of_rows rows) (dirty_of_rows rows ++ row.address ∷ [])) (absent row.address rows out)
    step false = without_none row.address (dirty_of_rows rows) (absent row.address rows out) ∙ sym (append_nil (dirty_of_rows rows))

others : (row : ARow) (rows : List ARow) → AllByRecursion (λ (r : ARow). (row.address == r.address) ≡ false) rows → list_any (λ (r : ARow). r.address == row.address) rows ≡ false
others row [] all = refl
others row (r ∷ rows) all = ap (λ t. t || list_any (λ (x : ARow). x.address == row.address) rows) (turn r.address row.address ∙ all.0) ∙ others row rows all.1

first_apart : (row : ARow) (rows : List ARow) → IsDistinct (λ (x y : ARow). x.address == y.address) (row ∷ rows) → list_any (λ (r : ARow). r.address == row.address) rows ≡ false
unfolding IsDistinct
first_apart row rows d = others row rows d.0

drop_apart : (n : ℕ) (rows : List ARow) → IsDistinct (λ (x y : ARow). x.address == y.address) rows → IsDistinct (λ (x y : ARow). x.address == y.address) (drop n rows)
unfolding IsDistinct
drop_apart zero rows d = d
drop_apart (suc n) [] d = d
drop_apart (suc n) (row ∷ rows) d = drop_apart n rows d.1

pub fill_step : (rows : List ARow) (n : ℕ) (blank : ARow) → n < length rows → IsDistinct (λ (x y : ARow). x.address == y.address) rows → (old new : Meta) → Fronts old new (get_or rows n blank)
    → rows_of old ≡ drop (n + 1) rows → old.dirty ≡ dirty_of_rows (drop (n + 1) rows) → (rows_of new ≡ drop n rows) × (new.dirty ≡ dirty_of_rows (drop n rows))
fill_step rows n blank low d old new f have dirty = (
  f.rows
      ∙ ap (λ (l : List ARow). get_or rows n blank ∷ l)
      (ap (filter (λ (row : ARow). not (row.address == (get_or rows n blank).address))) have
      ∙ filter_all (λ (row : ARow). row.address == (get_or rows n blank).address) (drop (n + 1) rows) out)
      ∙ sym next,
  f.dirty ∙ ap (dirty_by (get_or rows n blank)) dirty ∙ dirty_more (get_or rows n blank) (drop (n + 1) rows) out ∙ ap dirty_of_rows (sym next),
)
  where
    next : drop n rows ≡ get_or rows n blank ∷ drop (n + 1) rows
    next = drop_more rows n blank low

    out : list_any (λ (row : ARow). row.address == (get_or rows n blank).address) (drop (n + 1) rows) ≡ false
    out = first_apart (get_or rows n blank) (drop (n + 1) rows) (subst (λ (l : List ARow). IsDistinct (λ (x y : ARow). x.address == y.address) l) next (drop_apart n rows d))

pub drop_all : (rows : List ARow) → drop (length rows) rows ≡ []
drop_all [] = refl
drop_all (row ∷ rows) = drop_all rows

-- three rows of three addresses
pub three_apart : (a b c : ARow) → (a.address == b.address) ≡ false → (a.address == c.address) ≡ false → (b.address == c.address) ≡ false → IsDistinct (λ (x y : ARow). x.address == y.address) (a ∷ b ∷ c ∷ [])
unfolding IsDistinct
three_apart a b c ab ac bc = ((ab, (ac, tt)), ((bc, tt), (tt, tt)))
