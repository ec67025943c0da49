-- A text that is said in pieces, one behind the other.
use Rattle.std.proofs.Common.{◌≡◌, ℕ, ◌+◌, ◌<◌, ◌≤◌, ◌==◌, Bool, List, [], ◌∷◌, ◌++◌, Some, None, length, take, drop, refl, sym, ◌∙◌, ap, subst, arith, append-nil, append_assoc, ⊎_elim}
use Rattle.std.specs.Prelude.{Option, find, is_some, slice_get, suc, if◌then◌else◌, IsTrue}
use Rattle.std.specs.List.{flat_map}
use Rattle.std.proofs.Math.Seq.{take-append-add}
use Rattle.std.proofs.lemmas.Bool.{cases_lt, eq-eqb}
use Rattle.std.proofs.lemmas.Grind.{flat_map-append}
use Rattle.std.proofs.lemmas.List.{take_all, take-append-le}
use Rattle.dd_rig.specs.Clock.{Clock, Elapses}
use Rattle.dd_rig.specs.World.{World, Outcome, MayLeave, SaysSome, WithinEmit, say}
use Rattle.dd_rig.proofs.Moments.{goes_on, starts, widens}
use Rattle.dd_record.specs.Listed.{row_behind}
use Rattle.dd_record.proofs.Walks.{row_behind-append}
use Rattle.dd_journal.proofs.Walks.{NoneHas, Apart, found, none_before}
use Rattle.dd_loop.specs.Saying.{SaysPiece}

abbrev with_said : World → List ℕ → World
with_said old text = record { flash = old.flash; disk = old.disk; said = text }

module _ (front back : List ℕ) where
  -- a part of the first piece is one of both, and so is the first and a part of the second
  part_front : (n : ℕ) → (m : ℕ) × (take n front ≡ take m (front ++ back))
  part_front n =
      ⊎_elim
      (λ long. (length front, take_all n front (omega (arith, long)) ∙ sym (take_all (length front) front (omega arith)) ∙ sym (take-append-le (length front) front back (omega arith))))
      (λ short. (n, sym (take-append-le n front back short)))
      (cases_lt (length front) n)

  part_back : (n : ℕ) → front ++ take n back ≡ take (length front + n) (front ++ back)
  part_back n = sym (take-append-add front back n)

  module _ (old : World) where
    within_front : (o : Outcome) → WithinEmit front old o → WithinEmit (front ++ back) old o
    within_front o w = let m = part_front w.0 in (m.0, subst (λ (piece : List ℕ). MayLeave (say piece old) o) m.1 w.1)

    some_front : (new : World) → SaysSome front old new → SaysSome (front ++ back) old new
    some_front new w = let m = part_front w.0 in (m.0, w.1 ∙ ap (λ (piece : List ℕ). say piece old) m.1)

    behind_front : (n : ℕ) → say (take n back) (say front old) ≡ say (take (length front + n) (front ++ back)) old
    behind_front n = ap (λ (l : List ℕ). with_said old l) (append_assoc old.said front (take n back) ∙ ap (λ (l : List ℕ). old.said ++ l) (part_back n))

    module _ (middle : World) (is : middle ≡ say front old) where
      within_back : (o : Outcome) → WithinEmit back middle o → WithinEmit (front ++ back) old o
      within_back o w =
          (length front + w.0, subst (λ (v : World). MayLeave v o) (behind_front w.0) (subst (λ (v : World). MayLeave (say (take w.0 back) v) o) is w.1))

      some_back : (new : World) → SaysSome back middle new → SaysSome (front ++ back) old new
      some_back new w = (length front + w.0, w.1 ∙ ap (λ (v : World). say (take w.0 back) v) is ∙ behind_front w.0)

      -- both pieces were said
      pub said_both : (new : World) → new ≡ say back middle → new ≡ say (front ++ back) old
      said_both new w = w ∙ ap (λ (v : World). say back v) is ∙ ap (λ (l : List ℕ). with_said old l) (append_assoc old.said front back)

      -- the second goes out behind the first
      pub says_behind : {first now last : Clock} (new : World) → Elapses first now (WithinEmit front old) → SaysPiece back now last middle new → SaysPiece (front ++ back) first last old new
      says_behind new sofar p = record { part = some_back new p.part; within = goes_on (widens sofar within_front) p.within within_back }

    -- the second doesn't come to it
    pub says_front : {first last : Clock} (new : World) → SaysPiece front first last old new → SaysPiece (front ++ back) first last old new
    says_front new p = record { part = some_front new p.part; within = widens p.within within_front }

-- how many rows there are from this one on
abbrev pub rows_left : {Row : Type 0} → (Row → ℕ) → Option Row → List Row → ℕ
rows_left key None rows = 0
rows_left key (Some row) [] = 0
rows_left key (Some row) (r ∷ rows) = if key r == key row then suc (length rows) else rows_left key (Some row) rows

left_at : {Row : Type 0} (key : Row → ℕ) (front : List Row) (row : Row) (behind : List Row) → NoneHas key (key row) front → rows_left key (Some row) (front ++ row ∷ behind) ≡ suc (length behind)
left_at key [] row behind none = ap (λ (b : Bool). if b then suc (length behind) else rows_left key (Some row) behind) (eq-eqb (key row) (key row) refl)
left_at key (r ∷ front) row behind none = ap (λ (b : Bool). if b then suc (length (front ++ row ∷ behind)) else rows_left key (Some row) (front ++ row ∷ behind)) none.0 ∙ left_at key front row behind none.1

module _ {Row : Type 0} (text : Row → List ℕ) (key : Row → ℕ) (rows : List Row) (tells : Type 0) where
  -- the texts of some rows were said, and the walk goes on behind them
  pub record SaidTo (next : Option Row) (first now : Clock) (old new : World) : Type 0 where
    pub front : List Row
    pub behind : List Row
    pub rows_are : rows ≡ front ++ behind
    pub next_is : next ≡ slice_get behind 0
    pub said : tells → new ≡ say (flat_map text front) old
    pub within : tells → Elapses first now (WithinEmit (flat_map text front) old)

  pub said_first : (next : Option Row) (clock : Clock) (old : World) → next ≡ slice_get rows 0 → SaidTo next clock clock old old
  said_first next clock old is = record {
    front = [];
    behind = rows;
    rows_are = refl;
    next_is = is;
    said = λ t. ap (λ (l : List ℕ). with_said old l) (sym (append-nil old.said));
    within = λ t. starts clock (WithinEmit [] old);
  }

  first_of : (behind : List Row) (row : Row) → Some row ≡ slice_get behind 0 → behind ≡ row ∷ drop 1 behind
  first_of [] row is = absurd (cc is)
  first_of (r ∷ behind) row is = cc is

  none_left : (behind : List Row) → None ≡ slice_get behind 0 → behind ≡ []
  none_left [] is = refl
  none_left (r ∷ behind) is = absurd (cc is)

  module _ (first now : Clock) (old new : World) where
    -- the walk is at this row
    pub at_row : (next : Option Row) (row : Row) → next ≡ Some row → SaidTo next first now old new → SaidTo (Some row) first now old new
    at_row next row is s = subst (λ (n : Option Row). SaidTo n first now old new) is s

    pub at_end : (next : Option Row) → next ≡ None → SaidTo next first now old new → SaidTo None first now old new
    at_end next is s = subst (λ (n : Option Row). SaidTo n first now old new) is s

    -- all were said
    all_front : (s : SaidTo None first now old new) → s.front ≡ rows
    all_front s = sym (append-nil s.front) ∙ ap (λ (b : List Row). s.front ++ b) (sym (none_left s.behind s.next_is)) ∙ sym s.rows_are

    pub said_all : SaidTo None first now old new → tells → new ≡ say (flat_map text rows) old
    said_all s t = s.said t ∙ ap (λ (l : List Row). say (flat_map text l) old) (all_front s)

    pub says_all : SaidTo None first now old new → tells → SaysPiece (flat_map text rows) first now old new
    says_all s t =
        let piece : List ℕ = flat_map text rows in
        let is : new ≡ say piece old = said_all s t in
        record {
          part = (length piece, is ∙ ap (λ (l : List ℕ). say l old) (sym (take_all (length piece) piece (omega arith))));
          within = subst (λ (l : List Row). Elapses first now (WithinEmit (flat_map text l) old)) (all_front s) (s.within t);
        }

    module _ (apart : Apart key rows) (row : Row) (s : SaidTo (Some row) first now old new) where
      here : rows ≡ s.front ++ row ∷ drop 1 s.behind
      here = s.rows_are ∙ ap (λ (b : List Row). s.front ++ b) (first_of s.behind row s.next_is)

      new_key : NoneHas key (key row) s.front
      new_key = none_before key s.front row (drop 1 s.behind) (subst (Apart key) here apart)

      is_found : (x : Option Row) → x ≡ Some row → IsTrue (is_some x)
      is_found None is = absurd (cc is)
      is_found (Some r) is = refl

      -- the walk may go on behind it
      pub said_listed : (k : ℕ) → Some (key row) ≡ Some k → IsTrue (is_some (find (λ r. key r == k) rows))
      said_listed k is =
          let same : key row ≡ k = cc is in
          subst (λ (n : ℕ). IsTrue (is_some (find (λ r. key r == n) rows))) same
          (is_found (find (λ r. key r == key row) rows) (ap (find (λ r. key r == key row)) here ∙ found key s.front row (drop 1 s.behind) new_key))

      texts_snoc : flat_map text (s.front ++ row ∷ []) ≡ flat_map text s.front ++ text row
      texts_snoc = flat_map-append text s.front (row ∷ []) ∙ ap (λ (l : List ℕ). flat_map text s.front ++ l) (append-nil (text row))

      texts_are : flat_map text rows ≡ flat_map text s.front ++ text row ++ flat_map text (drop 1 s.behind)
      texts_are = ap (flat_map text) here ∙ flat_map-append text s.front (row ∷ drop 1 s.behind) ∙ sym (append_assoc (flat_map text s.front) (text row) (flat_map text (drop 1 s.behind)))

      -- its text goes out behind the others
      so_far : (piece : List ℕ) → piece ≡ text row → {last : Clock} (newer : World) → tells → SaysPiece piece now last new newer → SaysPiece (flat_map text s.front ++ text row) first last old newer
      so_far piece is {last} newer t p = subst (λ (l : List ℕ). SaysPiece (flat_map text s.front ++ l) first last old newer) is (says_behind (flat_map text s.front) piece old new (s.said t) newer (s.within t) p)

      pub said_on : (piece : List ℕ) → piece ≡ text row → (next : Option Row) {last : Clock} (newer : World) → next ≡ row_behind (λ r. key r == key row) rows
          → (tells → newer ≡ say piece new) → (tells → SaysPiece piece now last new newer) → SaidTo next first last old newer
      said_on piece is next {last} newer next_is says p = record {
        front = s.front ++ row ∷ [];
        behind = drop 1 s.behind;
        rows_are = here ∙ sym (append_assoc s.front (row ∷ []) (drop 1 s.behind));
        next_is = next_is ∙ ap (row_behind (λ r. key r == key row)) here ∙ row_behind-append (λ r. key r == key row) s.front row (drop 1 s.behind) new_key (eq-eqb (key row) (key row) refl);
        said = λ t. said_both (flat_map text s.front) (text row) old new (s.said t) newer (says t ∙ ap (λ (l : List ℕ). say l new) is) ∙ ap (λ (l : List ℕ). say l old) (sym texts_snoc);
        within = λ t. subst (λ (l : List ℕ). Elapses first last (WithinEmit l old)) (sym texts_snoc) (so_far piece is newer t (p t)).within;
      }

      -- or in part, and no more comes
      pub said_cut : (piece : List ℕ) → piece ≡ text row → {last : Clock} (newer : World) → (tells → SaysPiece piece now last new newer) → tells → SaysPiece (flat_map text rows) first last old newer
      said_cut piece is {last} newer p t =
          subst (λ (l : List ℕ). SaysPiece l first last old newer) (sym texts_are) (says_front (flat_map text s.front ++ text row) (flat_map text (drop 1 s.behind)) old newer (so_far piece is newer t (p t)))

      left_here : rows_left key (Some row) rows ≡ suc (length (drop 1 s.behind))
      left_here = ap (rows_left key (Some row)) here ∙ left_at key s.front row (drop 1 s.behind) new_key

  left_next : (apart : Apart key rows) (front behind : List Row) → rows ≡ front ++ behind → rows_left key (slice_get behind 0) rows ≤ length behind
  left_next apart front [] is = omega arith
  left_next apart front (row ∷ behind) is =
      let left : rows_left key (Some row) rows ≡ suc (length behind) = ap (rows_left key (Some row)) is ∙ left_at key front row behind (none_before key front row behind (subst (Apart key) is apart)) in
      omega (arith, left)

  -- the walk comes to an end
  pub walk_shrinks : (first now last : Clock) (old new newer : World) (apart : Apart key rows) (row : Row) (next : Option Row) (s : SaidTo (Some row) first now old new) → next ≡ row_behind (λ r. key r == key row) rows
      → rows_left key next rows < rows_left key (Some row) rows
  walk_shrinks first now last old new newer apart row next s is =
      let here = here first now old new apart row s in
      let behind : List Row = drop 1 s.behind in
      let goes : next ≡ slice_get behind 0 = is ∙ ap (row_behind (λ r. key r == key row)) here ∙ row_behind-append (λ r. key r == key row) s.front row behind (new_key first now old new apart row s) (eq-eqb (key row) (key row) refl) in
      let few : rows_left key (slice_get behind 0) rows ≤ length behind = left_next apart (s.front ++ row ∷ []) behind (here ∙ sym (append_assoc s.front (row ∷ []) behind)) in
      omega (arith, left_here first now old new apart row s, few, ap (λ (n : Option Row). rows_left key n rows) goes)
