-- What falls off for an address, and for a block that isn't listed.
use Rattle.std.proofs.Common.{◌≡◌, ℕ, ◌-◌, ◌<◌, ◌≤◌, ◌==◌, ⊎_elim, Bool, true, false, cond, List, [], ◌∷◌, length, map, take, refl, sym, ◌∙◌, ap, subst, arith, Some, None}
use Rattle.std.specs.Prelude.{Option, slice_get, is_some, if◌then◌else◌, option_map, IfSome, ◌||◌}
use Rattle.std.specs.List.{list_any}
use Rattle.std.proofs.lemmas.Bool.{false≢true, eq-eqb, ne_eqb, cases_eq, eqb-true}
use Rattle.std.proofs.lemmas.List.{length-map}
use Rattle.std.proofs.lemmas.Option.{slice_get-map, slice_get-get_or}
use Rattle.dd_record.specs.declared.row.ARow.{ARow}
use Rattle.dd_record.specs.declared.row.BRow.{BRow}
use Rattle.dd_record.specs.Table.{a_row}
use Rattle.dd_meta.specs.Entries.{Meta, Entry, rows_of, blank, is_listed_address, last_address}
use Rattle.dd_meta.specs.Keeping.{IsMeta}
use Rattle.dd_data.specs.Blocks.{last_row}
use Rattle.dd_model.specs.Listing.{last_of_full}
use Rattle.dd_policy.specs.Coupling.{roomy_for, out_for}

-- an address is listed where it has a row
pub listed_is : (address : ℕ) (entries : List Entry) → list_any (λ (e : Entry). e.row.address == address) entries ≡ is_some (a_row address (map (λ (e : Entry). e.row) entries))
listed_is address [] = refl
listed_is address (e ∷ es) = by_test (e.row.address == address) (listed_is address es)
  where
    by_test : (b : Bool) → list_any (λ (x : Entry). x.row.address == address) es ≡ is_some (a_row address (map (λ (x : Entry). x.row) es))
        → (b || list_any (λ (x : Entry). x.row.address == address) es) ≡ is_some (cond b (Some e.row) (a_row address (map (λ (x : Entry). x.row) es)))
    by_test true rest = refl
    by_test false rest = rest

address_map : (o : Option Entry) → option_map (λ (e : Entry). e.row.address) o ≡ option_map (λ (r : ARow). r.address) (option_map (λ (e : Entry). e.row) o)
address_map None = refl
address_map (Some e) = refl

last_is : (meta : Meta) → (if length meta.entries == meta.acap then last_address meta else None) ≡ option_map (λ (r : ARow). r.address) (last_of_full meta.acap (rows_of meta))
last_is meta = ⊎_elim
    (λ full.
    ap (λ b. if b then last_address meta else None) (eq-eqb (length meta.entries) meta.acap full)
    ∙ ap (λ n. option_map (λ (e : Entry). e.row.address) (slice_get meta.entries (n - 1))) full
    ∙ address_map (slice_get meta.entries (meta.acap - 1))
    ∙ ap (option_map (λ (r : ARow). r.address)) (sym (slice_get-map (λ (e : Entry). e.row) meta.entries (meta.acap - 1)))
    ∙ ap (λ b. option_map (λ (r : ARow). r.address) (if b then slice_get (rows_of meta) (meta.acap - 1) else None)) (sym (eq-eqb (length (rows_of meta)) meta.acap (length-map meta.entries (λ (e : Entry). e.row) ∙ full))))
    (λ less.
    ap (λ b. if b then last_address meta else None) (ne_eqb (length meta.entries) meta.acap less)
    ∙ ap (λ b. option_map (λ (r : ARow). r.address) (if b then slice_get (rows_of meta) (meta.acap - 1) else None))
    (sym (ne_eqb (length (rows_of meta)) meta.acap (λ e. less (sym (length-map meta.entries (λ (e : Entry). e.row)) ∙ e)))))
    (cases_eq (length meta.entries) meta.acap)

pub victim_is : (address : ℕ) (meta : Meta) → (if is_listed_address address meta then None else if length meta.entries == meta.acap then last_address meta else None) ≡ out_for address meta.acap (rows_of meta)
victim_is address meta =
    ap (λ b. if b then None else if length meta.entries == meta.acap then last_address meta else None) (listed_is address meta.entries)
    ∙ ap (λ (o : Option ℕ). if is_some (a_row address (rows_of meta)) then None else o) (last_is meta)

-- the same of a block
pub drop_is : (bcap : ℕ) (rows : List BRow) → (if length rows == bcap then last_row rows else None) ≡ last_of_full bcap rows
drop_is bcap rows = by_test (length rows == bcap) refl
  where
    by_test : (b : Bool) → (length rows == bcap) ≡ b → cond b (last_row rows) None ≡ cond b (slice_get rows (bcap - 1)) None
    by_test true e = ap (λ n. slice_get rows (n - 1)) (eqb-true (length rows) bcap e)
    by_test false e = refl

module _ (address acap : ℕ) (rows : List ARow) where
  pub roomy_some : (out : ℕ) → out_for address acap rows ≡ Some out → take (length rows - 1) rows ≡ roomy_for address acap rows
  roomy_some out h = by_tests (is_some (a_row address rows)) (length rows == acap) (slice_get rows (acap - 1)) h
    where
      by_tests : (s f : Bool) (last : Option ARow) → cond s None (option_map (λ (r : ARow). r.address) (cond f last None)) ≡ Some out → take (length rows - 1) rows ≡ cond s rows (cond f (take (length rows - 1) rows) rows)
      by_tests true f last e = absurd (cc e)
      by_tests false true last e = refl
      by_tests false false last e = absurd (cc e)

  pub roomy_none : 1 ≤ acap → out_for address acap rows ≡ None → rows ≡ roomy_for address acap rows
  roomy_none some h = by_tests (is_some (a_row address rows)) (length rows == acap) (slice_get rows (acap - 1)) (λ e. there (eqb-true (length rows) acap e)) h
    where
      there : length rows ≡ acap → is_some (slice_get rows (acap - 1)) ≡ true
      there full = ap is_some (slice_get-get_or rows (acap - 1) blank (omega (arith, some, full)))

      by_tests : (s f : Bool) (last : Option ARow) → (f ≡ true → is_some last ≡ true) → cond s None (option_map (λ (r : ARow). r.address) (cond f last None)) ≡ None → rows ≡ cond s rows (cond f (take (length rows - 1) rows) rows)
      by_tests true f last have e = refl
      by_tests false true None have e = absurd (cc (have refl))
      by_tests false true (Some row) have e = absurd (cc e)
      by_tests false false last have e = refl

  pub clean_last : (out : ℕ) → out_for address acap rows ≡ Some out → (a_row address rows ≡ None → IfSome (last_of_full acap rows) (λ row. row.dirty ≡ false)) → IfSome (slice_get rows (length rows - 1)) (λ row. row.dirty ≡ false)
  clean_last out h clean = by_tests (a_row address rows) (length rows == acap) refl h clean
    where
      by_tests : (o : Option ARow) (f : Bool) → (length rows == acap) ≡ f → cond (is_some o) None (option_map (λ (r : ARow). r.address) (cond f (slice_get rows (acap - 1)) None)) ≡ Some out
          → (o ≡ None → IfSome (cond f (slice_get rows (acap - 1)) None) (λ row. row.dirty ≡ false)) → IfSome (slice_get rows (length rows - 1)) (λ row. row.dirty ≡ false)
      by_tests (Some row) f e h clean = absurd (cc h)
      by_tests None false e h clean = absurd (cc h)
      by_tests None true e h clean = subst (λ n. IfSome (slice_get rows (n - 1)) (λ (row : ARow). row.dirty ≡ false)) (sym (eqb-true (length rows) acap e)) (clean refl)

-- where none falls off for an address that isn't listed there is room
pub room_none : (address : ℕ) (meta : Meta) → IsMeta meta → (if is_listed_address address meta then None else if length meta.entries == meta.acap then last_address meta else None) ≡ None
    → is_listed_address address meta ≡ false → length meta.entries < meta.acap
room_none address meta m h unlisted = ⊎_elim (λ full. absurd (never full)) (λ less. omega (arith, m.few, less)) (cases_eq (length meta.entries) meta.acap)
  where
    no_entry : Entry
    no_entry = record { node = 0; row = blank }

    never : length meta.entries ≡ meta.acap → ⊥
    never full =
        let gone : last_address meta ≡ None = sym (ap (λ b. cond b None (cond (length meta.entries == meta.acap) (last_address meta) None)) unlisted ∙ ap (λ b. cond b (last_address meta) None) (eq-eqb (length meta.entries) meta.acap full)) ∙ h in
        let last = slice_get-get_or meta.entries (length meta.entries - 1) no_entry (omega (arith, m.some, full)) in
        let both = sym (ap is_some (ap (option_map (λ (e : Entry). e.row.address)) last)) ∙ ap is_some gone in false≢true (sym both)
