-- A dirty address that is linked to a slot, found among the rows.
use Rattle.std.proofs.Common.{◌≡◌, ℕ, ◌==◌, Bool, true, false, cond, List, [], ◌∷◌, ◌+◌, ◌<◌, length, get_or, drop, map, refl, sym, ◌∙◌, ap, subst, Some, None}
use Rattle.std.specs.Prelude.{Option, filter, find, not, option_map, slice_get, ◌&&◌, ◌||◌}
use Rattle.std.specs.List.{AllByRecursion, IsDistinct, list_any}
use Rattle.std.proofs.lemmas.Bool.{eq-eqb, and_from}
use Rattle.dd_record.specs.declared.row.ARow.{ARow}
use Rattle.dd_record.specs.Table.{a_row, is_slot}
use Rattle.dd_record.specs.Listed.{row_behind}
use Rattle.dd_record.specs.Replay.{cleaned}
use Rattle.dd_model.specs.Plain.{owed_to, first_referrer, behind_row, referrer_behind}
use Rattle.dd_model.proofs.Walking.{at_place}
use Rattle.dd_model.specs.Listing.{Listing, IsListing, is_owed, refers, IsReferrer, without, next_of}

none_found : {X : Type 0} (p : X → Bool) (xs : List X) → find p xs ≡ None → list_any p xs ≡ false
none_found p [] h = refl
none_found p (x ∷ xs) h = by_test (p x) h (λ e. none_found p xs e)
  where
    by_test : (b : Bool) → cond b (Some x) (find p xs) ≡ None → (find p xs ≡ None → list_any p xs ≡ false) → (b || list_any p xs) ≡ false
    by_test true e rest = absurd (cc e)
    by_test false e rest = rest e

found_holds : {X : Type 0} (P : X → Type 0) (p : X → Bool) (xs : List X) (x : X) → find p xs ≡ Some x → AllByRecursion P xs → P x
found_holds P p [] x h all = absurd (cc h)
found_holds P p (y ∷ xs) x h all = by_test (p y) h (λ e. found_holds P p xs x e all.1)
  where
    by_test : (b : Bool) → cond b (Some y) (find p xs) ≡ Some x → (find p xs ≡ Some x → P x) → P x
    by_test true e rest = let same : y ≡ x = cc e in subst P same all.0
    by_test false e rest = rest e

-- where the addresses are apart the row that passes is that of its address
found_passes : (p : ARow → Bool) (rows : List ARow) (row : ARow) → IsDistinct (λ x y. x.address == y.address) rows → find p rows ≡ Some row → option_map p (a_row row.address rows) ≡ Some true
unfolding IsDistinct
found_passes p [] row apart h = absurd (cc h)
found_passes p (r ∷ rows) row apart h = by_test (p r) refl h (λ e. found_passes p rows row apart.1 e)
  where
    by_test : (b : Bool) → p r ≡ b → cond b (Some r) (find p rows) ≡ Some row → (find p rows ≡ Some row → option_map p (a_row row.address rows) ≡ Some true)
        → option_map p (cond (r.address == row.address) (Some r) (a_row row.address rows)) ≡ Some true
    by_test true is e rest =
        let same : r ≡ row = cc e in
        ap (λ b. option_map p (cond b (Some r) (a_row row.address rows))) (eq-eqb r.address row.address (ap (λ (x : ARow). x.address) same)) ∙ ap Some is
    by_test false is e rest =
        let other : (r.address == row.address) ≡ false = found_holds (λ x. (r.address == x.address) ≡ false) p rows row e apart.0 in
        ap (λ b. option_map p (cond b (Some r) (a_row row.address rows))) other ∙ rest e

by_found : (slot skip : ℕ) (rows : List ARow) (o : Option ARow) → IsDistinct (λ x y. x.address == y.address) rows → find (λ row. refers slot skip row) rows ≡ o → IsReferrer slot skip rows (option_map (λ row. row.address) o)
by_found slot skip rows None apart h = none_found (λ row. refers slot skip row) rows h
by_found slot skip rows (Some row) apart h = found_passes (λ r. refers slot skip r) rows row apart h

pub referrer_found : (lists : Listing) (slot skip : ℕ) → IsListing lists → IsReferrer slot skip lists.table.a (option_map (λ (row : ARow). row.address) (find (λ row. refers slot skip row) lists.table.a))
referrer_found lists slot skip kept = by_found slot skip lists.table.a (find (λ row. refers slot skip row) lists.table.a) kept.fit.addresses refl

-- the dirty addresses that are linked to the slot, but for one
abbrev pub referrers_of : ℕ → ℕ → List ARow → List ℕ
referrers_of slot skip rows = map (λ row. row.address) (filter (λ row. refers slot skip row) rows)

by_three : (s d k : Bool) (n : ℕ) (ns : List ℕ) (owed : List ARow) (row : ARow) → (row.address == n) ≡ k → without n (map (λ (r : ARow). r.address) owed) ≡ ns
    → without n (map (λ (r : ARow). r.address) (cond (s && d) (row ∷ owed) owed)) ≡ cond (s && d && not k) (row.address ∷ ns) ns
by_three true true true n ns owed row at is = ap (λ b. cond (not b) (row.address ∷ without n (map (λ (r : ARow). r.address) owed)) (without n (map (λ (r : ARow). r.address) owed))) at ∙ is
by_three true true false n ns owed row at is = ap (λ b. cond (not b) (row.address ∷ without n (map (λ (r : ARow). r.address) owed)) (without n (map (λ (r : ARow). r.address) owed))) at ∙ ap (λ (ms : List ℕ). row.address ∷ ms) is
by_three true false k n ns owed row at is = is
by_three false d k n ns owed row at is = is

map_if : (b : Bool) (row : ARow) (rows : List ARow) → cond b (row.address ∷ map (λ (r : ARow). r.address) rows) (map (λ (r : ARow). r.address) rows) ≡ map (λ (r : ARow). r.address) (cond b (row ∷ rows) rows)
map_if true row rows = refl
map_if false row rows = refl

pub owed_without : (slot skip : ℕ) (rows : List ARow) → without skip (owed_to slot rows) ≡ referrers_of slot skip rows
owed_without slot skip [] = refl
owed_without slot skip (row ∷ rows) =
    by_three (is_slot slot row.link) row.dirty (row.address == skip) skip (referrers_of slot skip rows) (filter (λ r. is_owed slot r) rows) row refl (owed_without slot skip rows)
    ∙ map_if (refers slot skip row) row (filter (λ r. refers slot skip r) rows)

first_is : (slot skip : ℕ) (rows : List ARow) → first_referrer slot skip rows ≡ slice_get (referrers_of slot skip rows) 0
first_is slot skip [] = refl
first_is slot skip (row ∷ rows) = by_test (refers slot skip row) (first_is slot skip rows)
  where
    by_test : (b : Bool) → first_referrer slot skip rows ≡ slice_get (referrers_of slot skip rows) 0
        → option_map (λ (r : ARow). r.address) (cond b (Some row) (find (λ r. refers slot skip r) rows)) ≡ slice_get (map (λ (r : ARow). r.address) (cond b (row ∷ filter (λ r. refers slot skip r) rows) (filter (λ r. refers slot skip r) rows))) 0
    by_test true rest = refl
    by_test false rest = rest

behind_is : (slot skip address : ℕ) (rows : List ARow) → behind_row slot skip address rows ≡ row_behind (λ other. other == address) (referrers_of slot skip rows)
behind_is slot skip address [] = refl
behind_is slot skip address (row ∷ rows) = by_test (refers slot skip row) (row.address == address) refl (behind_is slot skip address rows)
  where
    by_test : (b k : Bool) → (row.address == address) ≡ k → behind_row slot skip address rows ≡ row_behind (λ other. other == address) (referrers_of slot skip rows)
        → cond (b && k) (first_referrer slot skip rows) (behind_row slot skip address rows) ≡ row_behind (λ other. other == address) (map (λ (r : ARow). r.address) (cond b (row ∷ filter (λ r. refers slot skip r) rows) (filter (λ r. refers slot skip r) rows)))
    by_test true true at rest = first_is slot skip rows ∙ sym (ap (λ t. cond t (slice_get (referrers_of slot skip rows) 0) (row_behind (λ other. other == address) (referrers_of slot skip rows))) at)
    by_test true false at rest = rest ∙ sym (ap (λ t. cond t (slice_get (referrers_of slot skip rows) 0) (row_behind (λ other. other == address) (referrers_of slot skip rows))) at)
    by_test false k at rest = rest

-- a walk along the rows is one along these addresses
pub walk_is : (slot skip : ℕ) (after : Option ℕ) (rows : List ARow) → referrer_behind slot skip after rows ≡ next_of after (without skip (owed_to slot rows))
walk_is slot skip None rows = first_is slot skip rows ∙ ap (λ (ns : List ℕ). slice_get ns 0) (sym (owed_without slot skip rows))
walk_is slot skip (Some address) rows = behind_is slot skip address rows ∙ ap (row_behind (λ other. other == address)) (sym (owed_without slot skip rows))

-- an address that is clean is none of them
pub owed_cleaned : (slot address : ℕ) (rows : List ARow) → owed_to slot (cleaned address rows) ≡ without address (owed_to slot rows)
owed_cleaned slot address [] = refl
owed_cleaned slot address (row ∷ rows) = by_address (row.address == address) refl (owed_cleaned slot address rows)
  where
    no_owed : (s : Bool) → (s && false) ≡ false
    no_owed true = refl
    no_owed false = refl

    by_address : (k : Bool) → (row.address == address) ≡ k → owed_to slot (cleaned address rows) ≡ without address (owed_to slot rows)
        → owed_to slot (cond k (record row { dirty = false }) row ∷ cleaned address rows) ≡ without address (owed_to slot (row ∷ rows))
    by_address true at rest = ap (λ b. map (λ (r : ARow). r.address) (cond b (record row { dirty = false } ∷ filter (λ r. is_owed slot r) (cleaned address rows)) (filter (λ r. is_owed slot r) (cleaned address rows)))) (no_owed (is_slot slot row.link))
        ∙ rest ∙ sym (gone (is_owed slot row))
      where
        gone : (b : Bool) → without address (map (λ (r : ARow). r.address) (cond b (row ∷ filter (λ r. is_owed slot r) rows) (filter (λ r. is_owed slot r) rows))) ≡ without address (owed_to slot rows)
        gone true = ap (λ t. cond (not t) (row.address ∷ without address (owed_to slot rows)) (without address (owed_to slot rows))) at
        gone false = refl
    by_address false away rest = stays (is_owed slot row)
      where
        stays : (b : Bool) → map (λ (r : ARow). r.address) (cond b (row ∷ filter (λ r. is_owed slot r) (cleaned address rows)) (filter (λ r. is_owed slot r) (cleaned address rows)))
            ≡ without address (map (λ (r : ARow). r.address) (cond b (row ∷ filter (λ r. is_owed slot r) rows) (filter (λ r. is_owed slot r) rows)))
        stays true = ap (λ (ns : List ℕ). row.address ∷ ns) rest ∙ sym (ap (λ t. cond (not t) (row.address ∷ without address (owed_to slot rows)) (without address (owed_to slot rows))) away)
        stays false = rest

-- the row that a walk goes on behind
pub behind_here : (slot skip address : ℕ) (rows : List ARow) (i : ℕ) (d : ARow) → i < length rows → refers slot skip (get_or rows i d) ≡ true → ((get_or rows i d).address == address) ≡ true
    → behind_row slot skip address (drop i rows) ≡ first_referrer slot skip (drop (i + 1) rows)
behind_here slot skip address rows i d h refer at =
    ap (behind_row slot skip address) (at_place (λ (r : ARow). true) rows i d h)
    ∙ ap (λ b. cond b (first_referrer slot skip (drop (i + 1) rows)) (behind_row slot skip address (drop (i + 1) rows))) (and_from (refers slot skip (get_or rows i d)) ((get_or rows i d).address == address) refer at)
