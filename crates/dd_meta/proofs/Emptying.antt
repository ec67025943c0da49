-- A metadata cache from which the last address falls off until none is left.
use Rattle.std.proofs.Common.{◌≡◌, ℕ, ◌-◌, ◌==◌, true, false, List, [], ◌∷◌, length, map, refl, sym, ◌∙◌, ap, subst, arith, Option, Some, None, cond, slice_get, replicate, is_some, IfSome}
use Rattle.std.specs.Prelude.{option_map, ◌&&◌}
use Rattle.std.specs.List.{list_any}
use Rattle.std.proofs.lemmas.Bool.{eq-eqb, both_ways}
use Rattle.std.proofs.lemmas.List.{length-map, length-replicate, ext_get_or}
use Rattle.std.proofs.lemmas.Option.{slice_get-map}
use Rattle.dd_record.specs.declared.row.ARow.{ARow}
use Rattle.dd_record.specs.Table.{is_dirty_at}
use Rattle.dd_lists.specs.Lists.{is_in, list_at}
use Rattle.dd_lists.specs.Nodes.{Nodes, is_live}
use Rattle.dd_lists.proofs.Members.{in_here}
use Rattle.dd_index.specs.Index.{Index}
use Rattle.dd_meta.specs.Entries.{Entry, Meta, row_of, written}
use Rattle.dd_meta.specs.Matching.{row_at, listed, shown, Matches}
use Rattle.dd_meta.specs.Keeping.{IsMeta, is_owed}
use Rattle.dd_meta.proofs.Rows.{row_is, find_itself, no_list}

pub live_named : {acap slots : ℕ} {nodes : Nodes ARow} {index : Index} → Matches acap slots nodes index → (now : Meta) → shown acap slots nodes ≡ now → (o : Option ℕ) → IfSome o (λ n. is_live n nodes ≡ true) → IfSome o (λ n. is_some (row_of n now) ≡ true)
live_named k now is None live = tt
live_named {nodes = nodes} k now is (Some n) live =
    sym (ap (λ (m : Meta). is_some (row_of n m)) is) ∙ ap is_some (row_is k n ∙ ap (option_map (row_at nodes)) (find_itself n (listed nodes) (sym (k.live n) ∙ live)))

pub last_map : {X Y : Type 0} (f : X → Y) (xs : List X) → slice_get (map f xs) (length (map f xs) - 1) ≡ option_map f (slice_get xs (length xs - 1))
last_map f xs = slice_get-map f xs (length (map f xs) - 1) ∙ ap (λ n. option_map f (slice_get xs (n - 1))) (length-map xs f)

-- the last entry, written clean
pub last_clean : (entries now : List Entry) (node : ℕ) (row : ARow) → row.dirty ≡ false → now ≡ map (written node row) entries → Some node ≡ option_map (λ (e : Entry). e.node) (slice_get entries (length entries - 1))
    → let rows = map (λ (e : Entry). e.row) now in IfSome (slice_get rows (length rows - 1)) (λ r. r.dirty ≡ false)
last_clean entries now node row clean is last =
    let P : Option ARow → Type 0 = λ o. IfSome o (λ r. r.dirty ≡ false) in
    subst P
    (sym (ap (λ (es : List Entry). slice_get (map (λ (e : Entry). e.row) es) (length (map (λ (e : Entry). e.row) es) - 1)) is
    ∙ last_map (λ (e : Entry). e.row) (map (written node row) entries) ∙ ap (option_map (λ (e : Entry). e.row)) (last_map (written node row) entries)))
    (by_last (slice_get entries (length entries - 1)) last)
  where
    by_last : (o : Option Entry) → Some node ≡ option_map (λ (e : Entry). e.node) o → IfSome (option_map (λ (e : Entry). e.row) (option_map (written node row) o)) (λ r. r.dirty ≡ false)
    by_last None e = tt
    by_last (Some entry) e =
        let own : node ≡ entry.node = cc in
        ap (λ t. (cond t (record { node = entry.node; row = row }) entry).row.dirty) (eq-eqb entry.node node (sym own)) ∙ clean

-- no last entry, no entries
pub no_last : (entries : List Entry) (o : Option ℕ) → o ≡ option_map (λ (e : Entry). e.node) (slice_get entries (length entries - 1)) → ((m : ℕ) → o ≡ Some m → ⊥) → entries ≡ []
no_last [] o is none = refl
no_last (entry ∷ entries) o is none = absurd (by_last (slice_get (entry ∷ entries) (length entries)) refl)
  where
    less : length (entry ∷ entries) - 1 ≡ length entries
    less = omega arith

    some_last : (e : Entry) (es : List Entry) → slice_get (e ∷ es) (length es) ≡ None → ⊥
    some_last e [] h = cc
    some_last e (f ∷ es) h = some_last f es h

    by_last : (p : Option Entry) → slice_get (entry ∷ entries) (length entries) ≡ p → ⊥
    by_last None e = some_last entry entries e
    by_last (Some last) e = none last.node (is ∙ ap (λ n. option_map (λ (x : Entry). x.node) (slice_get (entry ∷ entries) n)) less ∙ ap (option_map (λ (x : Entry). x.node)) e)

none_all : (xs : List ℕ) → ((a : ℕ) → is_in a xs ≡ false) → xs ≡ []
none_all [] none = refl
none_all (x ∷ xs) none = absurd (both_ways _ (none x) (in_here x xs))

-- of no entries nothing is dirty
pub nothing_dirty : (m : Meta) → IsMeta m → m.entries ≡ [] → m.dirty ≡ []
nothing_dirty m k empty = none_all m.dirty (λ a. k.dirty a ∙ ap (λ (es : List Entry). is_dirty_at a (map (λ (e : Entry). e.row) es)) empty)

abbrev no_addresses : List ℕ
no_addresses = []

pub cleared : (m : Meta) (acap slots : ℕ) → IsMeta m → m.entries ≡ [] → m.acap ≡ acap → m.slots ≡ slots → m ≡ record { acap = acap; slots = slots; entries = []; dirty = []; owed = replicate slots [] }
cleared m acap slots k empty same size =
    let dirty = nothing_dirty m k empty in
    λ i. record { acap = same i; slots = size i; entries = empty i; dirty = dirty i; owed = owed i }
  where
    each : (slot : ℕ) → list_at slot m.owed ≡ []
    each slot = none_all (list_at slot m.owed) (λ a. k.owed slot a ∙ ap (λ (es : List Entry). list_any (λ row. is_owed slot row && a == row.address) (map (λ (e : Entry). e.row) es)) empty)

    owed : m.owed ≡ replicate slots no_addresses
    owed = ext_get_or [] m.owed (replicate slots no_addresses) (k.sized ∙ size ∙ sym (length-replicate slots no_addresses)) (λ slot low. each slot ∙ sym (no_list slots slot))
