-- The two lists go together until a write changes the content of a listed address, and then one count of orphans is 0.
use Rattle.std.proofs.Common.{◌≡◌, ◌⊎◌, inl, inr, ⊎_elim, ℕ, ◌≤◌, ◌<◌, Bool, true, false, cond, not, List, [], ◌∷◌, map, take, length, refl, ap, sym, ◌∙◌, subst, arith, Option, Some, None}
use Rattle.std.specs.Prelude.{filter, slice_get, slice_set, count_by, ◌&&◌}
use Rattle.std.specs.List.{AllByRecursion, IsDistinct}
use Rattle.std.specs.Str.{bytes_eq}
use Rattle.std.proofs.lemmas.List.{take-map}
use Rattle.std.proofs.lemmas.Option.{none-some}
use Rattle.std.proofs.lemmas.List.Sums.{length-filter}
use Rattle.dd_model.specs.State.{Sizes, Entry, State, IsState, content, fresh, is_zero_block, is_known, is_listed}
use Rattle.dd_model.specs.Reference.{unlinked_from, reference, address_moved, block_moved, dropped}
use Rattle.dd_model.specs.Orphans.{is_referred, orphaned_addresses, orphaned_blocks}
use Rattle.dd_model.specs.Alignment.{firsts, nonzero, contents, variety, listed_contents, OnePrefixesOther, UnlinkedLieBehind, Aligned, is_rewrite}
use Rattle.dd_model.proofs.Filters.{all_filter}
use Rattle.dd_model.proofs.Known.{eq_same, known_all, known_filter, known_unfilter, known_get, all_known}
use Rattle.dd_model.proofs.Firsts.{firsts_within, within_firsts, distinct_front, until, variety_until}
use Rattle.dd_model.proofs.Together.{together-cut, together-cut_second, together-front, far, near}
use Rattle.dd_model.proofs.Moved.{HasContent, has_content, zeros_moved, block_moved_too, listed_cut}
use Rattle.dd_model.proofs.Behind.{behind-take, behind-moved, behind-unlinked, near_is_linked, linked_or_far}

abbrev Blocks : Type 0
Blocks = List (List ℕ)

-- where nothing fell off, all entries stay
none_unlinked : (array : Blocks) (entries : List Entry) → map (unlinked_from array None) entries ≡ entries
none_unlinked array [] = refl
none_unlinked array (entry ∷ entries) = ap (λ rest. entry ∷ rest) (none_unlinked array entries)

module _ (sizes : Sizes) (s : State) (a : ℕ) (x : List ℕ) (inside : a < length s.array) (nonzero_blocks : AllByRecursion (λ block. is_zero_block block ≡ false) s.blocks)
    (distinct_blocks : IsDistinct bytes_eq s.blocks) (has : AllByRecursion (HasContent s.array a x) s.addresses) where
  abbrev array : Blocks
  array = slice_set s.array a x

  abbrev all : List Entry
  all = address_moved a s.addresses

  together_by : (t : Bool) → is_zero_block x ≡ t → OnePrefixesOther (listed_contents s) s.blocks
      → OnePrefixesOther (listed_contents (reference sizes s a x)) (cond t s.blocks (take sizes.bcap (block_moved x s.blocks)))
  together_by true is h =
      let cut : (m : ℕ) × (listed_contents (reference sizes s a x) ≡ take m (firsts (nonzero (contents array all)))) = listed_cut sizes s a x in
      subst (λ blocks. OnePrefixesOther blocks s.blocks) (sym (cut.1 ∙ ap (take cut.0) (zeros_moved s.array a x inside s.addresses has is)))
      (together-cut cut.0 (listed_contents s) s.blocks h)
  together_by false isnt h =
      let cut : (m : ℕ) × (listed_contents (reference sizes s a x) ≡ take m (firsts (nonzero (contents array all)))) = listed_cut sizes s a x in
      subst (λ blocks. OnePrefixesOther blocks (take sizes.bcap (block_moved x s.blocks))) (sym (cut.1 ∙ ap (take cut.0) (block_moved_too s.array a x inside s.addresses has isnt)))
      (together-cut cut.0 (block_moved x (listed_contents s)) (take sizes.bcap (block_moved x s.blocks))
      (together-cut_second sizes.bcap (block_moved x (listed_contents s)) (block_moved x s.blocks) (together-front x (listed_contents s) s.blocks h)))

  -- before the block that falls off stand as many contents as blocks are listed
  drop_is_far : is_zero_block x ≡ false → OnePrefixesOther (listed_contents s) s.blocks → (d : List ℕ) → slice_get (block_moved x s.blocks) sizes.bcap ≡ Some d
      → is_known d (contents array all) ≡ true → sizes.bcap ≤ variety (until d (contents array all))
  drop_is_far isnt h d at known =
      let listed : Blocks = firsts (nonzero (contents array all)) in
      let d_nonzero : is_zero_block d ≡ false = known_all (λ block. is_zero_block block ≡ false) d (block_moved x s.blocks)
      (isnt, all_filter (λ block. is_zero_block block ≡ false) (λ other. not (bytes_eq other x)) s.blocks nonzero_blocks) (known_get d sizes.bcap (block_moved x s.blocks) at) in
      let in_listed : is_known d listed ≡ true =
      within_firsts (nonzero (contents array all)) d (known_filter (λ block. not (is_zero_block block)) d (contents array all) (ap not d_nonzero) known) in
      let side : OnePrefixesOther listed (block_moved x s.blocks) =
      subst (λ blocks. OnePrefixesOther blocks (block_moved x s.blocks)) (sym (block_moved_too s.array a x inside s.addresses has isnt)) (together-front x (listed_contents s) s.blocks h) in
      subst (λ n. sizes.bcap ≤ n) (variety_until d d_nonzero (contents array all)) (far d sizes.bcap listed (block_moved x s.blocks) side (distinct_front x s.blocks distinct_blocks) at in_listed)

  behind_drop : (drop : Option (List ℕ)) → UnlinkedLieBehind sizes.bcap s.array [] s.addresses
      → ((d : List ℕ) → drop ≡ Some d → is_known d (contents array all) ≡ true → sizes.bcap ≤ variety (until d (contents array all)))
      → UnlinkedLieBehind sizes.bcap array [] (map (unlinked_from array drop) (take sizes.acap all))
  behind_drop None h reach =
      subst (λ entries. UnlinkedLieBehind sizes.bcap array [] entries) (sym (none_unlinked array (take sizes.acap all)))
      (behind-take sizes.bcap sizes.acap array [] all (behind-moved sizes.bcap s.array a x inside s.addresses has h))
  behind_drop (Some d) h reach =
      subst (λ entries. UnlinkedLieBehind sizes.bcap array [] entries) (take-map (unlinked_from array (Some d)) sizes.acap all)
      (behind-take sizes.bcap sizes.acap array [] (map (unlinked_from array (Some d)) all)
      (behind-unlinked sizes.bcap array d all [] (behind-moved sizes.bcap s.array a x inside s.addresses has h) (reach d refl)))

  drop_by : (t : Bool) → is_zero_block x ≡ t → OnePrefixesOther (listed_contents s) s.blocks → (d : List ℕ) → cond t None (slice_get (block_moved x s.blocks) sizes.bcap) ≡ Some d
      → is_known d (contents array all) ≡ true → sizes.bcap ≤ variety (until d (contents array all))
  drop_by true is h d never = absurd (none-some d never)
  drop_by false isnt h d at = drop_is_far isnt h d at

  pub aligned-same : Aligned sizes.bcap s → Aligned sizes.bcap (reference sizes s a x)
  aligned-same aligned = record {
    together = together_by (is_zero_block x) refl aligned.together;
    behind = behind_drop (dropped sizes s x) aligned.behind (drop_by (is_zero_block x) refl aligned.together);
  }

-- a reference that is no rewrite keeps the two lists together
pub aligned-reference : (sizes : Sizes) (s : State) (a : ℕ) (x : List ℕ) → a < length s.array → AllByRecursion (λ block. is_zero_block block ≡ false) s.blocks → IsDistinct bytes_eq s.blocks
    → is_rewrite s a x ≡ false → Aligned sizes.bcap s → Aligned sizes.bcap (reference sizes s a x)
aligned-reference sizes s a x inside nonzero_blocks distinct_blocks none aligned =
    aligned-same sizes s a x inside nonzero_blocks distinct_blocks (has_content s.array a x s.addresses none) aligned

-- so does one of a state that keeps its rules
pub aligned-state : (sizes : Sizes) (s : State) (a : ℕ) (x : List ℕ) → IsState sizes s → a < sizes.blocks → is_rewrite s a x ≡ false
    → Aligned sizes.bcap s → Aligned sizes.bcap (reference sizes s a x)
aligned-state sizes s a x rules inside none aligned =
    aligned-reference sizes s a x (subst (λ n. a < n) (sym rules.array_length) inside) rules.nonzero rules.distinct none aligned

and_not_same : (t : Bool) (x : List ℕ) → (t && not (bytes_eq x x)) ≡ false
and_not_same true x = ap not (eq_same x)
and_not_same false x = refl

-- a read is no rewrite
pub read-no_rewrite : (s : State) (a : ℕ) → is_rewrite s a (content s.array a) ≡ false
read-no_rewrite s a = and_not_same (is_listed a s.addresses) (content s.array a)

-- a formatted cache is aligned
pub aligned-fresh : (bcap : ℕ) (disk : Blocks) → Aligned bcap (fresh disk)
aligned-fresh bcap disk = record { together = tt; behind = tt }

none_pass : {X : Type 0} (p : X → Bool) (xs : List X) → AllByRecursion (λ x. p x ≡ false) xs → filter p xs ≡ []
none_pass p [] h = refl
none_pass p (x ∷ xs) h = ap (λ t. cond t (x ∷ filter p xs) (filter p xs)) h.0 ∙ none_pass p xs h.1

none_counted : {X : Type 0} (p : X → Bool) (xs : List X) → AllByRecursion (λ x. p x ≡ false) xs → count_by p xs ≡ 0
none_counted p xs h = sym (length-filter p xs) ∙ ap length (none_pass p xs h)

linked_no_orphan : (entries : List Entry) → AllByRecursion (λ entry. entry.linked ≡ true) entries → AllByRecursion (λ entry. not entry.linked ≡ false) entries
linked_no_orphan [] h = tt
linked_no_orphan (entry ∷ entries) h = (ap not h.0, linked_no_orphan entries h.1)

-- where an address is unlinked, each block is the content of a linked address
all_referred : (bcap : ℕ) (s : State) → AllByRecursion (λ block. is_zero_block block ≡ false) s.blocks → length s.blocks ≤ bcap → Aligned bcap s → bcap ≤ length (listed_contents s)
    → (b : List ℕ) → is_known b s.blocks ≡ true → is_referred s.array s.addresses b ≡ true
all_referred bcap s nonzero_blocks few_blocks aligned long b known =
    let there : (is_known b (listed_contents s) ≡ true) × (length (until b (listed_contents s)) < length s.blocks) =
    near b (listed_contents s) s.blocks aligned.together (omega (arith, long, few_blocks)) known in
    let b_nonzero : is_zero_block b ≡ false = known_all (λ block. is_zero_block block ≡ false) b s.blocks nonzero_blocks known in
    let in_contents : is_known b (contents s.array s.addresses) ≡ true =
    known_unfilter (λ block. not (is_zero_block block)) b (contents s.array s.addresses) (firsts_within (nonzero (contents s.array s.addresses)) b there.0) in
    let few : variety (until b (contents s.array s.addresses)) < bcap =
    subst (λ n. n < bcap) (variety_until b b_nonzero (contents s.array s.addresses)) (omega (arith, there.1, few_blocks)) in
    near_is_linked bcap s.array b s.addresses [] aligned.behind in_contents few

-- one of the two counts of orphans is 0
pub no-orphans : (bcap : ℕ) (s : State) → AllByRecursion (λ block. is_zero_block block ≡ false) s.blocks → length s.blocks ≤ bcap → Aligned bcap s → (orphaned_addresses s ≡ 0) ⊎ (orphaned_blocks s ≡ 0)
no-orphans bcap s nonzero_blocks few_blocks aligned =
    ⊎_elim
    (λ linked. inl (none_counted (λ entry. not entry.linked) s.addresses (linked_no_orphan s.addresses linked)))
    (λ long. inr (none_counted (λ block. not (is_referred s.array s.addresses block)) s.blocks
    (all_known (λ block. not (is_referred s.array s.addresses block) ≡ false) s.blocks (λ b known. ap not (all_referred bcap s nonzero_blocks few_blocks aligned long b known)))))
    (linked_or_far bcap s.array s.addresses [] aligned.behind)
