-- The addresses of a walk: dirty ones, each once.
use Rattle.std.proofs.Common.{◌≡◌, ℕ, zero, suc, ◌<◌, ◌≤◌, ◌==◌, not, Bool, true, false, cond, List, [], ◌∷◌, ◌++◌, length, take, refl, sym, ◌∙◌, ap, Some, None, arith}
use Rattle.std.specs.Prelude.{Option, ◌&&◌, ◌||◌, option_map, is_some, slice_get}
use Rattle.std.specs.List.{AllByRecursion, IsDistinct, list_any}
use Rattle.std.proofs.lemmas.Bool.{eqb-true}
use Rattle.dd_slots.specs.Numbers.{is_among, Enumerates}
use Rattle.dd_slots.proofs.Numbers.{same_number}
use Rattle.dd_record.specs.declared.row.ARow.{ARow}
use Rattle.dd_record.specs.Table.{Table, a_row, is_slot, is_dirty, is_dirty_at}
use Rattle.dd_model.specs.Listing.{Listing, IsListing, is_owed, refers, is_referrer, IsReferrer, without, next_of, left_of}
use Rattle.dd_model.proofs.Kept.{apart_filter}
use Rattle.dd_model.proofs.Stepping.{next_left, left_next}
use Rattle.dd_store.specs.declared.along.Along.{Along}
use Rattle.dd_store.specs.declared.along.Along.TheVariants.{Age, Referrers}
use Rattle.dd_store.specs.Keeping.{StoreView}
use Rattle.dd_store.specs.Rounds.{walk_of, has_along}
use Rattle.dd_store.proofs.Marking.{all_among}

or_true : (a b : Bool) → b ≡ true → (a || b) ≡ true
or_true true b h = refl
or_true false b h = h

both_true : (a b : Bool) → (a && b) ≡ true → (a ≡ true) × (b ≡ true)
both_true true b h = (refl, h)
both_true false b h = absurd (cc h)

either_true : (a b : Bool) → (a || b) ≡ true → a ≡ false → b ≡ true
either_true true b h no_ = absurd (cc no_)
either_true false b h no_ = h

-- a walk finds one where one refers to the slot
pub referrer_any : (slot skip : ℕ) (rows : List ARow) (found : Option ℕ) → IsReferrer slot skip rows found → is_some found ≡ list_any (λ row. refers slot skip row) rows
referrer_any slot skip rows None none = sym none
referrer_any slot skip rows (Some address) one = sym (any_row slot skip address rows one)
  where
    any_row : (slot skip address : ℕ) (rows : List ARow) → option_map (λ row. refers slot skip row) (a_row address rows) ≡ Some true → list_any (λ row. refers slot skip row) rows ≡ true
    any_row slot skip address [] is = absurd (cc is)
    any_row slot skip address (row ∷ rows) is = by_test (row.address == address) is (λ later. any_row slot skip address rows later)
      where
        by_test : (b : Bool) → option_map (λ r. refers slot skip r) (cond b (Some row) (a_row address rows)) ≡ Some true
            → (option_map (λ r. refers slot skip r) (a_row address rows) ≡ Some true → list_any (λ r. refers slot skip r) rows ≡ true) → (refers slot skip row || list_any (λ r. refers slot skip r) rows) ≡ true
        by_test true e next = let here : refers slot skip row ≡ true = cc e in ap (λ b. b || list_any (λ r. refers slot skip r) rows) here
        by_test false e next = or_true (refers slot skip row) (list_any (λ r. refers slot skip r) rows) (next e)

-- an address that is dirty and linked to the slot is dirty
referrer_dirty : (slot address : ℕ) (rows : List ARow) → IsDistinct (λ x y. x.address == y.address) rows → is_referrer slot rows address ≡ true → is_dirty_at address rows ≡ true
unfolding IsDistinct
referrer_dirty slot address [] apart is = absurd (cc is)
referrer_dirty slot address (row ∷ rows) apart is = by_test (row.address == address) refl (λ later. referrer_dirty slot address rows apart.1 later)
  where
    none_later : (others : List ARow) → AllByRecursion (λ other. (row.address == other.address) ≡ false) others → (row.address == address) ≡ true → is_referrer slot others address ≡ false
    none_later [] h here = refl
    none_later (other ∷ others) h here =
        ap (λ b. (is_owed slot other && b) || is_referrer slot others address) (ap (λ n. n == other.address) (sym (eqb-true row.address address here)) ∙ h.0)
        ∙ ap (λ b. b || is_referrer slot others address) (and_false (is_owed slot other)) ∙ none_later others h.1 here
      where
        and_false : (b : Bool) → (b && false) ≡ false
        and_false true = refl
        and_false false = refl

    owed_dirty : (s d e : Bool) → ((s && d) && e) ≡ true → d ≡ true
    owed_dirty true true e h = refl
    owed_dirty true false e h = absurd (cc h)
    owed_dirty false d e h = absurd (cc h)

    or_here : (a b : Bool) → (a || b) ≡ true → b ≡ false → a ≡ true
    or_here true b h none = refl
    or_here false b h none = absurd (cc (h, none))

    away_later : (o e r : Bool) → ((o && e) || r) ≡ true → e ≡ false → r ≡ true
    away_later true true r h none = absurd (cc none)
    away_later false true r h none = absurd (cc none)
    away_later true false r h none = h
    away_later false false r h none = h

    turned : (row.address == address) ≡ false → (address == row.address) ≡ false
    turned e = grind arith

    by_test : (b : Bool) → (row.address == address) ≡ b → (is_referrer slot rows address ≡ true → is_dirty_at address rows ≡ true) → is_dirty (cond b (Some row) (a_row address rows)) ≡ true
    by_test true here next = owed_dirty (is_slot slot row.link) row.dirty (address == row.address) (or_here (is_owed slot row && address == row.address) (is_referrer slot rows address) is (none_later rows apart.0 here))
    by_test false away next = next (away_later (is_owed slot row) (address == row.address) (is_referrer slot rows address) is (turned away))

-- what passes one more test is among them
among_without : (skip number : ℕ) (numbers : List ℕ) → is_among number (without skip numbers) ≡ true → is_among number numbers ≡ true
among_without skip number [] is = is
among_without skip number (other ∷ numbers) is = by_test (other == skip) is (λ later. among_without skip number numbers later)
  where
    by_test : (b : Bool) → is_among number (cond (not b) (other ∷ without skip numbers) (without skip numbers)) ≡ true → (is_among number (without skip numbers) ≡ true → is_among number numbers ≡ true)
        → (number == other || is_among number numbers) ≡ true
    by_test true e next = or_true (number == other) (is_among number numbers) (next e)
    by_test false e next = by_number (number == other) e
      where
        by_number : (d : Bool) → (d || is_among number (without skip numbers)) ≡ true → (d || is_among number numbers) ≡ true
        by_number true h = refl
        by_number false h = next h

-- and what isn't that one stays
among_other : (skip number : ℕ) (numbers : List ℕ) → is_among number numbers ≡ true → (number == skip) ≡ false → 0 < length (without skip numbers)
among_other skip number [] is other = absurd (cc is)
among_other skip number (first ∷ numbers) is other = by_test (first == skip) refl (λ later. among_other skip number numbers later other)
  where
    by_test : (b : Bool) → (first == skip) ≡ b → (is_among number numbers ≡ true → 0 < length (without skip numbers)) → 0 < length (cond (not b) (first ∷ without skip numbers) (without skip numbers))
    by_test false away next = omega arith
    by_test true here next = next (either_true (number == first) (is_among number numbers) is (ap (λ n. number == n) (eqb-true first skip here) ∙ other))

-- a row that refers to the slot tells an address of the walk
referrer_some : (slot skip : ℕ) (rows : List ARow) (numbers : List ℕ) → ((n : ℕ) → is_referrer slot rows n ≡ true → is_among n numbers ≡ true) → list_any (λ row. refers slot skip row) rows ≡ true → 0 < length (without skip numbers)
referrer_some slot skip [] numbers all is = absurd (cc is)
referrer_some slot skip (row ∷ rows) numbers all is = by_test (refers slot skip row) refl is
    (λ later. referrer_some slot skip rows numbers (λ n there. all n (or_true (is_owed slot row && n == row.address) (is_referrer slot rows n) there)) later)
  where
    parts : (s d e : Bool) → (s && d && not e) ≡ true → ((s && d) ≡ true) × (e ≡ false)
    parts true true false h = (refl, refl)
    parts true true true h = absurd (cc h)
    parts true false e h = absurd (cc h)
    parts false d e h = absurd (cc h)

    here : (s e r : Bool) → s ≡ true → e ≡ true → ((s && e) || r) ≡ true
    here true true r h k = refl
    here true false r h k = absurd (cc k)
    here false e r h k = absurd (cc h)

    by_test : (b : Bool) → refers slot skip row ≡ b → (b || list_any (λ r. refers slot skip r) rows) ≡ true → (list_any (λ r. refers slot skip r) rows ≡ true → 0 < length (without skip numbers)) → 0 < length (without skip numbers)
    by_test true one e next =
        let its = parts (is_slot slot row.link) row.dirty (row.address == skip) one in
        among_other skip row.address numbers (all row.address (here (is_owed slot row) (row.address == row.address) (is_referrer slot rows row.address) its.0 (same_number row.address))) its.1
    by_test false none e next = next e

first_of : (numbers : List ℕ) → is_some (slice_get numbers 0) ≡ true → 0 < length numbers
first_of [] is = absurd (cc is)
first_of (number ∷ numbers) is = omega arith

pub none_of : (numbers : List ℕ) → is_some (next_of None numbers) ≡ false → numbers ≡ []
none_of [] is = refl
none_of (number ∷ numbers) is = absurd (cc is)

-- the first of some numbers
pub all_take : (P : ℕ → Type 0) (n : ℕ) (numbers : List ℕ) → AllByRecursion P numbers → AllByRecursion P (take n numbers)
all_take P zero numbers h = tt
all_take P (suc n) [] h = tt
all_take P (suc n) (number ∷ numbers) h = (h.0, all_take P n numbers h.1)

pub apart_take : (n : ℕ) (numbers : List ℕ) → IsDistinct (λ x y. x == y) numbers → IsDistinct (λ x y. x == y) (take n numbers)
unfolding IsDistinct
apart_take zero numbers h = tt
apart_take (suc n) [] h = tt
apart_take (suc n) (number ∷ numbers) h = (all_take (λ m. (number == m) ≡ false) n numbers h.0, apart_take n numbers h.1)

-- what lists and their walks along referrers are
module _ (lists : Listing) (referrers : ℕ → List ℕ) (kept : IsListing lists) (walked : (slot : ℕ) → Enumerates (is_referrer slot lists.table.a) (referrers slot)) where
  walk_dirty : (along : Along) (address : ℕ) → is_among address (walk_of along lists.dirty referrers) ≡ true → is_dirty_at address lists.table.a ≡ true
  walk_dirty Age address among = sym (kept.dirty_ones.each address) ∙ among
  walk_dirty (Referrers slot skip) address among =
      referrer_dirty slot address lists.table.a kept.fit.addresses (sym ((walked slot).each address) ∙ among_without skip address (referrers slot) among)

  pub walk_apart : (along : Along) → IsDistinct (λ x y. x == y) (walk_of along lists.dirty referrers)
  walk_apart Age = kept.dirty_ones.once
  walk_apart (Referrers slot skip) = apart_filter (λ n. n) (λ other. not (other == skip)) (referrers slot) (walked slot).once

  -- the first ones
  pub first_dirty : (along : Along) (n : ℕ) → AllByRecursion (λ address. is_dirty_at address lists.table.a ≡ true) (take n (walk_of along lists.dirty referrers))
  first_dirty along n =
      let walk = walk_of along lists.dirty referrers in
      all_take (λ address. is_dirty_at address lists.table.a ≡ true) n walk (all_among (λ address. is_dirty_at address lists.table.a ≡ true) walk (walk_dirty along))

  pub first_apart : (along : Along) (n : ℕ) → IsDistinct (λ x y. x == y) (take n (walk_of along lists.dirty referrers))
  first_apart along n = apart_take n (walk_of along lists.dirty referrers) (walk_apart along)

  walk_some : (along : Along) (store : StoreView) → store.table ≡ lists.table → store.dirty ≡ lists.dirty → has_along along store ≡ true → 0 < length (walk_of along lists.dirty referrers)
  walk_some Age store table dirty has = first_of lists.dirty (ap (λ (ns : List ℕ). is_some (next_of None ns)) (sym dirty) ∙ has)
  walk_some (Referrers slot skip) store table dirty has =
      referrer_some slot skip lists.table.a (referrers slot) (λ n is. (walked slot).each n ∙ is) (ap (λ (t : Table). list_any (λ row. refers slot skip row) t.a) (sym table) ∙ has)

  pub first_some : (along : Along) (n : ℕ) (store : StoreView) → 0 < n → store.table ≡ lists.table → store.dirty ≡ lists.dirty → has_along along store ≡ true → 0 < length (take n (walk_of along lists.dirty referrers))
  first_some along n store some table dirty has = taken n (walk_of along lists.dirty referrers) some (walk_some along store table dirty has)
    where
      taken : (m : ℕ) (ns : List ℕ) → 0 < m → 0 < length ns → 0 < length (take m ns)
      taken zero ns a b = absurd (omega (arith, a))
      taken (suc m) [] a b = absurd (omega (arith, b))
      taken (suc m) (n_ ∷ ns) a b = omega arith

-- a walk that is gathered: what was taken, and what is left
pub taken_more : (walk taken : List ℕ) (after : Option ℕ) (next : ℕ) → IsDistinct (λ x y. x == y) walk → taken ++ left_of after walk ≡ walk → next_of after walk ≡ Some next → (taken ++ next ∷ []) ++ left_of (Some next) walk ≡ walk
taken_more walk taken after next apart so_far is = by_left (left_of after walk) refl
  where
    by_left : (rest : List ℕ) → left_of after walk ≡ rest → (taken ++ next ∷ []) ++ left_of (Some next) walk ≡ walk
    by_left [] left = absurd (cc (sym is ∙ next_left after walk ∙ ap (λ (ns : List ℕ). slice_get ns 0) left))
    by_left (first ∷ rest) left =
        let same : first ≡ next = cc (sym (ap (λ (ns : List ℕ). slice_get ns 0) left) ∙ sym (next_left after walk) ∙ is) in
        let its : left_of after walk ≡ next ∷ rest = left ∙ ap (λ n. n ∷ rest) same in
        ap (λ (ns : List ℕ). (taken ++ next ∷ []) ++ ns) (left_next after next rest walk apart its) ∙ grouped taken next rest ∙ ap (λ (ns : List ℕ). taken ++ ns) (sym its) ∙ so_far
      where
        grouped : (xs : List ℕ) (n : ℕ) (ys : List ℕ) → (xs ++ n ∷ []) ++ ys ≡ xs ++ n ∷ ys
        grouped [] n ys = refl
        grouped (x ∷ xs) n ys = ap (λ (ns : List ℕ). x ∷ ns) (grouped xs n ys)

pub taken_all : (walk taken : List ℕ) (after : Option ℕ) (most : ℕ) → taken ++ left_of after walk ≡ walk → next_of after walk ≡ None → length taken ≤ most → taken ≡ take most walk
taken_all walk taken after most so_far is few = by_left (left_of after walk) refl
  where
    by_left : (rest : List ℕ) → left_of after walk ≡ rest → taken ≡ take most walk
    by_left [] left =
        let all : taken ≡ walk = sym (append_none taken) ∙ ap (λ (ns : List ℕ). taken ++ ns) (sym left) ∙ so_far in
        take_all most taken few ∙ ap (take most) all
      where
        append_none : (ns : List ℕ) → ns ++ [] ≡ ns
        append_none [] = refl
        append_none (n ∷ ns) = ap (λ (ms : List ℕ). n ∷ ms) (append_none ns)

        take_all : (m : ℕ) (ns : List ℕ) → length ns ≤ m → ns ≡ take m ns
        take_all zero [] le = refl
        take_all zero (n ∷ ns) le = absurd (omega (arith, le))
        take_all (suc m) [] le = refl
        take_all (suc m) (n ∷ ns) le = ap (λ (ms : List ℕ). n ∷ ms) (take_all m ns (omega (arith, le)))
    by_left (first ∷ rest) left = absurd (cc (sym is ∙ next_left after walk ∙ ap (λ (ns : List ℕ). slice_get ns 0) left))
