-- Rows that are taken in, row by row.
use Rattle.std.proofs.Common.{◌≡◌, ℕ, zero, suc, ◌+◌, ◌<◌, ◌==◌, Bool, true, false, cond, List, [], ◌∷◌, length, get_or, take, drop, refl, sym, ◌∙◌, ap, subst, arith, Some, None, Ok, Err, add-one}
use Rattle.std.specs.Prelude.{Option, Result, filter, not, reverse, is_some, is_none, ◌&&◌, ◌||◌, IfOk, OnErr}
use Rattle.std.specs.Str.{bytes_eq}
use Rattle.std.specs.List.{AllByRecursion, IsDistinct, list_any}
use Rattle.std.proofs.Math.Seq.{take-suc}
use Rattle.std.proofs.lemmas.Bool.{eqb-true}
use Rattle.std.proofs.lemmas.List.{reverse-append}
use Rattle.std.proofs.lemmas.Cmp.{nat_eq_equiv}
use Rattle.dd_block.specs.Geometry.{GivesFault}
use Rattle.dd_block.specs.declared.print.Fp.{Fp}
use Rattle.dd_record.specs.declared.row.ARow.{ARow}
use Rattle.dd_record.specs.declared.row.BRow.{BRow}
use Rattle.dd_record.specs.declared.row.Link.{Link}
use Rattle.dd_record.specs.declared.row.Link.TheVariants as links
use Rattle.dd_record.specs.Table.{Table, RowsFit, empty_table, a_row, b_row, a_fits, b_fits, link_fits, first_bad}
use Rattle.dd_record.proofs.Misfits.{no_misfit, rows_fit}
use Rattle.dd_meta.specs.Entries.{Meta, rows_of}
use Rattle.dd_meta.specs.Keeping.{IsMeta}
use Rattle.dd_meta.specs.Matching.{IsBelow}
use Rattle.dd_data.specs.Blocks.{Data}
use Rattle.dd_model.specs.declared.given.Misfit.{Misfit}
use Rattle.dd_model.specs.Listing.{Listing, IsListing, IsLinkBelow, MayRestore, misfit_of, restored, dirty_of_rows}
use Rattle.dd_model.proofs.Answering.{and_both, or_false}
use Rattle.dd_model.proofs.Kept.{all_of, filter_none}
use Rattle.dd_model.proofs.Restored.{restore_kept, none_dirty}
use Rattle.dd_model.proofs.Walking.{bad_from, bad_later}
use Rattle.dd_policy.specs.Coupling.{listing_in, Couples, taken}
use Rattle.dd_policy.proofs.Coupled.{coupled}

none_or : {Row : Type 0} (b : Bool) (x : Row) (o : Option Row) → cond b (Some x) o ≡ None → (b ≡ false) × (o ≡ None)
none_or true x o h = absurd (cc h)
none_or false x o h = (refl, h)

none_of : {Row : Type 0} (o : Option Row) → is_some o ≡ false → o ≡ None
none_of None h = refl
none_of (Some row) h = absurd (cc h)

before_more : {Row : Type 0} (rows : List Row) (i : ℕ) (d : Row) → i < length rows → reverse (take (i + 1) rows) ≡ get_or rows i d ∷ reverse (take i rows)
before_more rows i d h = rw add-one (ap reverse (take-suc rows i d h) ∙ reverse-append (take i rows) (get_or rows i d ∷ []))

-- the next address, behind those that are listed
module _ (b : List BRow) (a : List ARow) (i : ℕ) (d : ARow) (h : i < length a) (rows : List ARow) (is : rows ≡ reverse (take i a)) (alone : is_some (a_row (get_or a i d).address rows) ≡ false) where
  pub address_rows : get_or a i d ∷ filter (λ other. not (other.address == (get_or a i d).address)) rows ≡ reverse (take (i + 1) a)
  address_rows =
      ap (λ (rs : List ARow). get_or a i d ∷ rs) (filter_none (λ (r : ARow). r.address) (get_or a i d).address rows (none_of (a_row (get_or a i d).address rows) alone) ∙ is)
      ∙ sym (before_more a i d h)

  pub address_good : link_fits b (get_or a i d) ≡ true → first_bad (a_fits b) [] 0 a ≡ bad_from (a_fits b) a i → first_bad (a_fits b) [] 0 a ≡ bad_from (a_fits b) a (i + 1)
  address_good right so_far =
      let none : is_none (a_row (get_or a i d).address (reverse (take i a))) ≡ true = ap (λ (rs : List ARow). is_none (a_row (get_or a i d).address rs)) (sym is) ∙ ap is_none (none_of (a_row (get_or a i d).address rows) alone) in
      so_far ∙ bad_later (a_fits b) a i d h (and_both (is_none (a_row (get_or a i d).address (reverse (take i a)))) (link_fits b (get_or a i d)) none right)

-- no row behind has the slot
none_found : (slot : ℕ) (rows : List BRow) → AllByRecursion (λ row. (slot == row.slot) ≡ false) rows → b_row slot rows ≡ None
none_found slot [] h = refl
none_found slot (row ∷ rows) h = ap (λ b. cond b (Some row) (b_row slot rows)) (nat_eq_equiv.symm row.slot slot ∙ h.0) ∙ none_found slot rows h.1

pub drop_fresh : (b : List BRow) (i : ℕ) (d : BRow) → i < length b → IsDistinct (λ x y. x.slot == y.slot) b → b_row (get_or b i d).slot (drop (i + 1) b) ≡ None
unfolding IsDistinct
drop_fresh [] i d h apart = absurd (omega (arith, h))
drop_fresh (row ∷ rows) zero d h apart = none_found row.slot rows apart.0
drop_fresh (row ∷ rows) (suc i) d h apart =
    let more : suc i + 1 ≡ suc (i + 1) = omega arith in
    ap (λ n. b_row (get_or rows i d).slot (drop n (row ∷ rows))) more ∙ drop_fresh rows i d (omega (arith, h)) apart.1

-- whether a listed block has the slot and the fingerprint
abbrev pub is_that : ℕ → Fp → BRow → Bool
is_that slot fp block = block.slot == slot && bytes_eq block.fp.0 fp.0

pub that_none : (slot : ℕ) (fp : Fp) (rows : List BRow) → b_row slot rows ≡ None → list_any (is_that slot fp) rows ≡ false
that_none slot fp [] h = refl
that_none slot fp (row ∷ rows) h =
    let parts = none_or (row.slot == slot) row (b_row slot rows) h in
    ap (λ b. (b && bytes_eq row.fp.0 fp.0) || list_any (is_that slot fp) rows) parts.0 ∙ that_none slot fp rows parts.1

pub that_some : (slot : ℕ) (fp : Fp) (rows : List BRow) (block : BRow) → IsDistinct (λ x y. x.slot == y.slot) rows → b_row slot rows ≡ Some block → list_any (is_that slot fp) rows ≡ bytes_eq block.fp.0 fp.0
unfolding IsDistinct
that_some slot fp [] block apart is = absurd (cc is)
that_some slot fp (row ∷ rows) block apart is = by_test (row.slot == slot) refl is (λ later. that_some slot fp rows block apart.1 later)
  where
    by_test : (b : Bool) → (row.slot == slot) ≡ b → cond b (Some row) (b_row slot rows) ≡ Some block → (b_row slot rows ≡ Some block → list_any (is_that slot fp) rows ≡ bytes_eq block.fp.0 fp.0)
        → ((b && bytes_eq row.fp.0 fp.0) || list_any (is_that slot fp) rows) ≡ bytes_eq block.fp.0 fp.0
    by_test true here e rest =
        let same : row ≡ block = cc e in
        let slots : row.slot ≡ slot = eqb-true row.slot slot here in
        let others : b_row slot rows ≡ None = subst (λ n. b_row n rows ≡ None) slots (none_found row.slot rows apart.0) in
        ap (λ t. bytes_eq row.fp.0 fp.0 || t) (that_none slot fp rows others)
        ∙ or_false (bytes_eq row.fp.0 fp.0)
        ∙ ap (λ (r : BRow). bytes_eq r.fp.0 fp.0) same
    by_test false away e rest = rest e

-- rows of which none is a misfit are apart
pub slots_apart : (b : List BRow) → first_bad b_fits [] 0 b ≡ None → IsDistinct (λ x y. x.slot == y.slot) b
slots_apart b none = let fit = rows_fit (record { b = b; a = [] }) none refl in fit.slots

fit_alone : (b : List BRow) → IsDistinct (λ x y. x.slot == y.slot) b → RowsFit (record { b = b; a = [] })
unfolding IsDistinct
fit_alone b apart = record { slots = apart; addresses = tt; links = tt }

pub addresses_apart : (b : List BRow) (a : List ARow) → IsDistinct (λ x y. x.slot == y.slot) b → first_bad (a_fits b) [] 0 a ≡ None → IsDistinct (λ x y. x.address == y.address) a
addresses_apart b a apart none = let fit = rows_fit (record { b = b; a = a }) (no_misfit (record { b = b; a = [] }) (fit_alone b apart)).0 none in fit.addresses

link_below : (slots : ℕ) (link : Link) → IsLinkBelow slots link → IsBelow slots link
link_below slots links.Lost h = tt
link_below slots (links.Slot slot) h = h
link_below slots links.Zero h = tt

pub links_below : (slots : ℕ) (a : List ARow) → AllByRecursion (λ row. IsLinkBelow slots row.link) a → AllByRecursion (λ row. IsBelow slots row.link) a
links_below slots a all = all_of (λ (row : ARow). IsLinkBelow slots row.link) (λ (row : ARow). IsBelow slots row.link) a (λ row h. link_below slots row.link h) all

-- lists that refuse rows are empty as before
pub refused_same : (meta new : Meta) (blocks mid after : Data) (b : List BRow) (a : List ARow) (o : Option ℕ) (index : ℕ) → IsListing (listing_in meta blocks) → (listing_in meta blocks).table ≡ empty_table → o ≡ Some index
    → rows_of new ≡ taken o a → new.dirty ≡ dirty_of_rows (taken o a) → new.acap ≡ meta.acap → mid ≡ record { bcap = blocks.bcap; slots = blocks.slots; rows = b } → after ≡ record { bcap = mid.bcap; slots = mid.slots; rows = [] }
    → listing_in new after ≡ listing_in meta blocks
refused_same meta new blocks mid after b a o index kept empty bad rows dirty acap mid_is after_is =
    let none : rows_of meta ≡ [] = ap (λ (t : Table). t.a) empty in
    let clean : meta.dirty ≡ [] = none_dirty (listing_in meta blocks) kept none in
    let whole : after ≡ record { bcap = blocks.bcap; slots = blocks.slots; rows = [] } = after_is ∙ ap (λ (d : Data). record { bcap = d.bcap; slots = d.slots; rows = [] }) mid_is in
    let rows_is : rows_of new ≡ rows_of meta = rows ∙ ap (λ (x : Option ℕ). taken x a) bad ∙ sym none in
    let dirty_is : new.dirty ≡ meta.dirty = dirty ∙ ap (λ (x : Option ℕ). dirty_of_rows (taken x a)) bad ∙ sym clean in
    let blocks_is : after.rows ≡ blocks.rows = ap (λ (d : Data). d.rows) whole ∙ sym (ap (λ (t : Table). t.b) empty) in
    λ i. record { acap = acap i; bcap = (ap (λ (d : Data). d.bcap) whole) i; slots = (ap (λ (d : Data). d.slots) whole) i; table = record { b = blocks_is i; a = rows_is i }; dirty = dirty_is i }

-- both caches stay coupled where rows are taken in or refused
pub restored_coupled : (T : Type 0) (r : Result T Misfit) (slots : ℕ) (meta new : Meta) (blocks after : Data) (table : Table) → Couples slots meta blocks → MayRestore (listing_in meta blocks) table
    → IfOk r (λ _. listing_in new after ≡ restored table (listing_in meta blocks)) → GivesFault r (misfit_of table) → OnErr r (listing_in new after ≡ listing_in meta blocks) → new.slots ≡ meta.slots → IsMeta new → Couples slots new after
restored_coupled T (Ok value) slots meta new blocks after table k may ok fault refused same m =
    coupled slots new after m (subst IsListing (sym ok) (restore_kept (listing_in meta blocks) table k.kept may fault)) (same ∙ k.meta_slots) (ap (λ (l : Listing). l.slots) ok ∙ k.data_slots)
restored_coupled T (Err misfit) slots meta new blocks after table k may ok fault refused same m =
    coupled slots new after m (subst IsListing (sym refused) k.kept) (same ∙ k.meta_slots) (ap (λ (l : Listing). l.slots) refused ∙ k.data_slots)
