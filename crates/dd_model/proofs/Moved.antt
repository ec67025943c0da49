-- The contents of the listed addresses after a reference.
use Rattle.std.proofs.Common.{◌≡◌, ℕ, ◌<◌, ◌==◌, Bool, true, false, cond, not, List, [], ◌∷◌, map, take, length, refl, ap, sym, ◌∙◌, Option, Some, None, eq-eqb, get_or-set_other, get_or-set_same}
use Rattle.std.specs.Prelude.{filter, slice_set, ◌||◌, ◌&&◌}
use Rattle.std.specs.List.{AllByRecursion}
use Rattle.std.specs.Str.{bytes_eq}
use Rattle.std.proofs.lemmas.Bool.{false≢true, eqb-true}
use Rattle.std.proofs.lemmas.List.{take-map}
use Rattle.std.proofs.lemmas.Slice.Eq.{bytes_eq-Decides}
use Rattle.dd_model.specs.State.{Sizes, Entry, State, content, is_zero_block, is_listed}
use Rattle.dd_model.specs.Reference.{unlinked_from, reference, address_moved, block_moved, dropped}
use Rattle.dd_model.specs.Alignment.{firsts, nonzero, contents, listed_contents}
use Rattle.dd_model.proofs.Filters.{filter-filter, filter-take}
use Rattle.dd_model.proofs.Firsts.{firsts-take, firsts-filter}
use Rattle.dd_model.proofs.Answering.{not_false}

abbrev Blocks : Type 0
Blocks = List (List ℕ)

-- an entry that loses its link keeps its address
pub keeps_address : (array : Blocks) (drop : Option (List ℕ)) (entry : Entry) → (unlinked_from array drop entry).address ≡ entry.address
keeps_address array None entry = refl
keeps_address array (Some drop) entry =
    elim (bytes_eq (content array entry.address) drop) as (λ t. (let e : Entry = cond t (record entry { linked = false }) entry in e.address) ≡ entry.address) [ true ↦ refl | false ↦ refl ]

contents_kept : (array : Blocks) (drop : Option (List ℕ)) (entries : List Entry) → contents array (map (unlinked_from array drop) entries) ≡ contents array entries
contents_kept array drop [] = refl
contents_kept array drop (entry ∷ entries) =
    ap (λ address. content array address ∷ contents array (map (unlinked_from array drop) entries)) (keeps_address array drop entry)
    ∙ ap (λ rest. content array entry.address ∷ rest) (contents_kept array drop entries)

-- the entries of other addresses
abbrev pub others : ℕ → List Entry → List Entry
others a entries = filter (λ entry. not (entry.address == a)) entries

-- an entry of this address has this content already
abbrev pub HasContent : Blocks → ℕ → List ℕ → Entry → Type 0
HasContent array a x entry = (entry.address == a) ≡ true → content array entry.address ≡ x

-- another address keeps its content
pub other_content : (array : Blocks) (a b : ℕ) (x : List ℕ) → (b == a) ≡ false → content (slice_set array a x) b ≡ content array b
other_content array a b x isnt = get_or-set_other array a b x [] (λ e. false≢true (sym isnt ∙ eq-eqb b a e))

pub own_content : (array : Blocks) (a : ℕ) (x : List ℕ) → a < length array → content (slice_set array a x) a ≡ x
own_content array a x inside = get_or-set_same array a x [] inside

and_or_false : (t r q : Bool) → ((t || r) && q) ≡ false → (r && q) ≡ false
and_or_false true true q h = h
and_or_false true false q h = refl
and_or_false false r q h = h

-- where a reference is no rewrite, the entries of its address have its content
pub has_content : (array : Blocks) (a : ℕ) (x : List ℕ) (entries : List Entry) → (is_listed a entries && not (bytes_eq (content array a) x)) ≡ false → AllByRecursion (HasContent array a x) entries
has_content array a x [] h = tt
has_content array a x (entry ∷ entries) h = (
  (λ is. ap (content array) (eqb-true entry.address a is)
      ∙ (bytes_eq-Decides (content array a) x).0 (not_false (bytes_eq (content array a) x) (sym (ap (λ t. (t || is_listed a entries) && not (bytes_eq (content array a) x)) is) ∙ h))),
  has_content array a x entries (and_or_false (entry.address == a) (is_listed a entries) (not (bytes_eq (content array a) x)) h),
)

-- but for blocks that fail a test as that content does, the contents of the other entries are those of all
module _ (p : List ℕ → Bool) (array : Blocks) (a : ℕ) (x : List ℕ) (fails : p x ≡ false) where
  one_less : (t : Bool) (entry : Entry) (rest : List Entry) (old : Blocks) → (entry.address == a) ≡ t → HasContent array a x entry
      → filter p (contents (slice_set array a x) rest) ≡ filter p old
      → filter p (contents (slice_set array a x) (cond (not t) (entry ∷ rest) rest)) ≡ cond (p (content array entry.address)) (content array entry.address ∷ filter p old) (filter p old)
  one_less true entry rest old is has ih = ih ∙ sym (ap (λ s. cond s (content array entry.address ∷ filter p old) (filter p old)) (ap p (has is) ∙ fails))
  one_less false entry rest old isnt has ih =
      ap (λ b. cond (p b) (b ∷ filter p (contents (slice_set array a x) rest)) (filter p (contents (slice_set array a x) rest))) (other_content array a entry.address x isnt)
      ∙ ap (λ ys. cond (p (content array entry.address)) (content array entry.address ∷ ys) ys) ih

  pub others_contents : (entries : List Entry) → AllByRecursion (HasContent array a x) entries → filter p (contents (slice_set array a x) (others a entries)) ≡ filter p (contents array entries)
  others_contents [] h = refl
  others_contents (entry ∷ entries) h = one_less (entry.address == a) entry (others a entries) (contents array entries) refl h.0 (others_contents entries h.1)

abbrev is_nonzero : List ℕ → Bool
is_nonzero block = not (is_zero_block block)

-- the contents after a move, before any cut
module _ (array : Blocks) (a : ℕ) (x : List ℕ) (inside : a < length array) (entries : List Entry) (has : AllByRecursion (HasContent array a x) entries) where
  abbrev pub moved : Blocks
  moved = contents (slice_set array a x) (others a entries)

  pub front_is : contents (slice_set array a x) (address_moved a entries) ≡ x ∷ moved
  front_is = ap (λ block. block ∷ moved) (own_content array a x inside)

  -- zeros change nothing
  pub zeros_moved : is_zero_block x ≡ true → firsts (nonzero (contents (slice_set array a x) (address_moved a entries))) ≡ firsts (nonzero (contents array entries))
  zeros_moved is =
      ap (λ blocks. firsts (nonzero blocks)) front_is
      ∙ ap (λ t. firsts (cond (not t) (x ∷ nonzero moved) (nonzero moved))) is
      ∙ ap firsts (others_contents is_nonzero array a x (ap not is) entries has)

  -- another content moves to the front
  pub block_moved_too : is_zero_block x ≡ false → firsts (nonzero (contents (slice_set array a x) (address_moved a entries))) ≡ block_moved x (firsts (nonzero (contents array entries)))
  block_moved_too isnt =
      let isnt_x : List ℕ → Bool = λ other. not (bytes_eq other x) in
      let fails : isnt_x x ≡ false = ap not ((bytes_eq-Decides x x).1 refl) in
      ap (λ blocks. firsts (nonzero blocks)) front_is
      ∙ ap (λ t. firsts (cond (not t) (x ∷ nonzero moved) (nonzero moved))) isnt
      ∙ ap (λ blocks. x ∷ blocks) (
      sym (firsts-filter isnt_x (nonzero moved))
      ∙ ap firsts (filter-filter isnt_x is_nonzero moved ∙ ap nonzero (others_contents isnt_x array a x fails entries has) ∙ filter-filter is_nonzero isnt_x (contents array entries))
      ∙ firsts-filter isnt_x (nonzero (contents array entries))
      )

-- what a reference lists are the contents after the move, cut
pub listed_cut : (sizes : Sizes) (s : State) (a : ℕ) (x : List ℕ)
    → (m : ℕ) × (listed_contents (reference sizes s a x) ≡ take m (firsts (nonzero (contents (slice_set s.array a x) (address_moved a s.addresses)))))
listed_cut sizes s a x =
    let array : Blocks = slice_set s.array a x in
    let all : Blocks = contents array (address_moved a s.addresses) in
    let kept : contents array (reference sizes s a x).addresses ≡ take sizes.acap all =
    contents_kept array (dropped sizes s x) (take sizes.acap (address_moved a s.addresses)) ∙ sym (take-map (λ entry. content array entry.address) sizes.acap (address_moved a s.addresses)) in
    let first : (m : ℕ) × (nonzero (take sizes.acap all) ≡ take m (nonzero all)) = filter-take is_nonzero sizes.acap all in
    let second : (m : ℕ) × (firsts (take first.0 (nonzero all)) ≡ take m (firsts (nonzero all))) = firsts-take first.0 (nonzero all) in
    (second.0, ap (λ blocks. firsts (nonzero blocks)) kept ∙ ap firsts first.1 ∙ second.1)
