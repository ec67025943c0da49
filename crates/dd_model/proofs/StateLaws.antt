-- A reference keeps what holds of each state.
use Rattle.std.proofs.Common.{◌≡◌, ⊎_elim, ℕ, zero, suc, ◌≤◌, ◌<◌, ◌==◌, Bool, true, false, cond, not, List, [], ◌∷◌, map, take, length, refl, ap, sym, ◌∙◌, subst, arith, Option, Some, None, length-take, set}
use Rattle.std.proofs.lemmas.List.{length-map, length-set}
use Rattle.std.specs.Prelude.{filter, slice_get, slice_set, unwrap_or}
use Rattle.std.specs.List.{AllByRecursion, IsDistinct}
use Rattle.std.specs.Str.{bytes_eq}
use Rattle.std.proofs.lemmas.Bool.{false≢true}
use Rattle.std.proofs.lemmas.Option.{none-some}
use Rattle.std.proofs.lemmas.Slice.Eq.{bytes_eq-Decides}
use Rattle.dd_model.specs.State.{Sizes, Entry, State, IsState, IsLinkedRightly, content, fresh, is_zero_block, is_known, is_at_hand}
use Rattle.dd_model.specs.Reference.{unlinked_from, reference, address_moved, block_moved, dropped}
use Rattle.dd_model.proofs.Filters.{all_filter, all_take, all_map, all_passing, distinct_filter, distinct_take, filter_short}
use Rattle.dd_model.proofs.Known.{known_all, known_filter, known_front, known_behind, known_get, known_cut, eq_turned}
use Rattle.dd_model.proofs.Firsts.{distinct_front}
use Rattle.dd_model.proofs.Moved.{keeps_address, other_content, own_content}
use Rattle.dd_model.proofs.Answering.{or_cases, or_left, or_right, not_true, number_turned}

abbrev Blocks : Type 0
Blocks = List (List ℕ)

-- one element written over
all_set : {X : Type 0} (P : X → Type 0) (xs : List X) (i : ℕ) (x : X) → AllByRecursion P xs → P x → AllByRecursion P (set xs i x)
all_set P [] i x h hx = tt
all_set P (y ∷ ys) zero x h hx = (hx, h.1)
all_set P (y ∷ ys) (suc i) x h hx = (h.0, all_set P ys i x h.1 hx)

-- entries apart by their addresses, also where links are lost
abbrev pub one_address : Entry → Entry → Bool
one_address x y = x.address == y.address

apart_others : (a : ℕ) (entries : List Entry) → AllByRecursion (λ (entry : Entry). (a == entry.address) ≡ false) (filter (λ entry. not (entry.address == a)) entries)
apart_others a [] = tt
apart_others a (entry ∷ entries) =
    elim (entry.address == a) as (λ t. (entry.address == a) ≡ t → AllByRecursion (λ (e : Entry). (a == e.address) ≡ false) (cond (not t) (entry ∷ filter (λ e. not (e.address == a)) entries) (filter (λ e. not (e.address == a)) entries)))
    [ true ↦ λ same. apart_others a entries | false ↦ λ apart. (number_turned entry.address a apart, apart_others a entries) ] refl

apart_moved : (a : ℕ) (entries : List Entry) → IsDistinct one_address entries → IsDistinct one_address (address_moved a entries)
unfolding IsDistinct
apart_moved a entries h = (apart_others a entries, distinct_filter one_address (λ entry. not (entry.address == a)) entries h)

apart_from : (array : Blocks) (drop : Option (List ℕ)) (entry : Entry) (entries : List Entry) → AllByRecursion (λ (e : Entry). (entry.address == e.address) ≡ false) entries
    → AllByRecursion (λ (e : Entry). ((unlinked_from array drop entry).address == e.address) ≡ false) (map (unlinked_from array drop) entries)
apart_from array drop entry [] h = tt
apart_from array drop entry (other ∷ entries) h = (
  ap (λ n. n == (unlinked_from array drop other).address) (keeps_address array drop entry) ∙ ap (λ n. entry.address == n) (keeps_address array drop other) ∙ h.0,
  apart_from array drop entry entries h.1,
)

apart_unlinked : (array : Blocks) (drop : Option (List ℕ)) (entries : List Entry) → IsDistinct one_address entries → IsDistinct one_address (map (unlinked_from array drop) entries)
unfolding IsDistinct
apart_unlinked array drop [] h = tt
apart_unlinked array drop (entry ∷ entries) h = (apart_from array drop entry entries h.0, apart_unlinked array drop entries h.1)

-- a block that is at hand stays so where another is moved to the front
at_hand_moved : (x c : List ℕ) (blocks : Blocks) → is_at_hand c blocks ≡ true → is_at_hand c (block_moved x blocks) ≡ true
at_hand_moved x c blocks h =
    ⊎_elim (λ zeros. or_left (is_zero_block c) (is_known c (block_moved x blocks)) zeros)
    (λ known. or_right (is_zero_block c) (is_known c (block_moved x blocks))
    (elim (bytes_eq x c) as (λ t. bytes_eq x c ≡ t → is_known c (block_moved x blocks) ≡ true) [
      | true ↦ λ same. or_left (bytes_eq x c) (is_known c (filter (λ other. not (bytes_eq other x)) blocks)) same
      | false ↦ λ apart. known_behind x c (filter (λ other. not (bytes_eq other x)) blocks) (known_filter (λ other. not (bytes_eq other x)) c blocks (ap not (eq_turned x c apart)) known)
    ] refl))
    (or_cases (is_zero_block c) (is_known c blocks) h)

-- an entry behind the cut of a list of blocks that is at most one too long
module _ (array moved : Blocks) (bcap : ℕ) (short : length moved ≤ suc bcap) (nonzero : AllByRecursion (λ block. is_zero_block block ≡ false) moved) where
  at_hand_cut : (c : List ℕ) → (slice_get moved bcap ≡ Some c → ⊥) → is_at_hand c moved ≡ true → is_at_hand c (take bcap moved) ≡ true
  at_hand_cut c stays h =
      ⊎_elim (λ zeros. or_left (is_zero_block c) (is_known c (take bcap moved)) zeros)
      (λ known. or_right (is_zero_block c) (is_known c (take bcap moved)) (⊎_elim (λ kept. kept) (λ last. absurd (stays last)) (known_cut c bcap moved short known)))
      (or_cases (is_zero_block c) (is_known c moved) h)

  one_cut : (d : List ℕ) (entry : Entry) (t : Bool) → bytes_eq (content array entry.address) d ≡ t → slice_get moved bcap ≡ Some d → IsLinkedRightly array moved entry
      → IsLinkedRightly array (take bcap moved) (cond t (record entry { linked = false }) entry)
  one_cut d entry true same at h = (
    (λ never. absurd (false≢true never)),
    (λ zeros. absurd (false≢true (sym (known_all (λ block. is_zero_block block ≡ false) d moved nonzero (known_get d bcap moved at)) ∙ ap is_zero_block (sym ((bytes_eq-Decides (content array entry.address) d).0 same)) ∙ zeros))),
  )
  one_cut d entry false apart at h = (
    (λ linked. at_hand_cut (content array entry.address)
        (λ last. false≢true (sym apart ∙ (bytes_eq-Decides (content array entry.address) d).1 (ap (λ o. unwrap_or o d) (sym last ∙ at)))) (h.0 linked)),
    h.1,
  )

  entry_cut : (drop : Option (List ℕ)) → slice_get moved bcap ≡ drop → (entry : Entry) → IsLinkedRightly array moved entry → IsLinkedRightly array (take bcap moved) (unlinked_from array drop entry)
  entry_cut None at entry h = ((λ linked. at_hand_cut (content array entry.address) (λ last. none-some (content array entry.address) (sym at ∙ last)) (h.0 linked)), h.1)
  entry_cut (Some d) at entry h = one_cut d entry (bytes_eq (content array entry.address) d) refl at h

module _ (sizes : Sizes) (s : State) (a : ℕ) (x : List ℕ) (rules : IsState sizes s) (inside : a < length s.array) where
  abbrev array : Blocks
  array = slice_set s.array a x

  abbrev moved : Blocks
  moved = block_moved x s.blocks

  -- the list of blocks stays for zeros, and is moved and cut for all else
  blocks_by : (P : Blocks → Type 0) (t : Bool) → is_zero_block x ≡ t → (is_zero_block x ≡ true → P s.blocks) → (is_zero_block x ≡ false → P (take sizes.bcap moved))
      → P (cond t s.blocks (take sizes.bcap moved))
  blocks_by P true is zeros others = zeros is
  blocks_by P false isnt zeros others = others isnt

  others_linked : (blocks : Blocks) → ((c : List ℕ) → is_at_hand c s.blocks ≡ true → is_at_hand c blocks ≡ true)
      → AllByRecursion (IsLinkedRightly array blocks) (filter (λ entry. not (entry.address == a)) s.addresses)
  others_linked blocks more =
      all_passing (IsLinkedRightly s.array s.blocks) (IsLinkedRightly array blocks) (λ entry. not (entry.address == a))
      (λ entry isnt h. subst (λ c. (entry.linked ≡ true → is_at_hand c blocks ≡ true) × (is_zero_block c ≡ true → entry.linked ≡ true))
      (sym (other_content s.array a entry.address x (not_true (entry.address == a) isnt))) ((λ linked. more (content s.array entry.address) (h.0 linked)), h.1))
      s.addresses rules.linked

  -- the front entry is linked, and its content is at hand
  all_linked : (blocks : Blocks) → is_at_hand x blocks ≡ true → ((c : List ℕ) → is_at_hand c s.blocks ≡ true → is_at_hand c blocks ≡ true)
      → AllByRecursion (IsLinkedRightly array blocks) (take sizes.acap (address_moved a s.addresses))
  all_linked blocks front more =
      all_take (IsLinkedRightly array blocks) sizes.acap (address_moved a s.addresses)
      (((λ linked. subst (λ c. is_at_hand c blocks ≡ true) (sym (own_content s.array a x inside)) front), (λ zeros. refl)), others_linked blocks more)

  moved_nonzero : is_zero_block x ≡ false → AllByRecursion (λ block. is_zero_block block ≡ false) moved
  moved_nonzero isnt = (isnt, all_filter (λ block. is_zero_block block ≡ false) (λ other. not (bytes_eq other x)) s.blocks rules.nonzero)

  moved_short : length moved ≤ suc sizes.bcap
  moved_short = omega (arith, filter_short (λ other. not (bytes_eq other x)) s.blocks, rules.few_blocks)

  linked_by : (t : Bool) → is_zero_block x ≡ t
      → AllByRecursion (IsLinkedRightly array (cond t s.blocks (take sizes.bcap moved))) (map (unlinked_from array (cond t None (slice_get moved sizes.bcap))) (take sizes.acap (address_moved a s.addresses)))
  linked_by true is =
      all_map (IsLinkedRightly array s.blocks) (IsLinkedRightly array s.blocks) (unlinked_from array None) (λ entry h. h) (take sizes.acap (address_moved a s.addresses))
      (all_linked s.blocks (or_left (is_zero_block x) (is_known x s.blocks) is) (λ c h. h))
  linked_by false isnt =
      all_map (IsLinkedRightly array moved) (IsLinkedRightly array (take sizes.bcap moved)) (unlinked_from array (slice_get moved sizes.bcap))
      (λ entry h. entry_cut array moved sizes.bcap moved_short (moved_nonzero isnt) (slice_get moved sizes.bcap) refl entry h) (take sizes.acap (address_moved a s.addresses))
      (all_linked moved (or_right (is_zero_block x) (is_known x moved) (known_front x (filter (λ other. not (bytes_eq other x)) s.blocks))) (λ c h. at_hand_moved x c s.blocks h))

  keeps_rules : a < sizes.blocks → length x ≡ sizes.block → IsState sizes (reference sizes s a x)
  keeps_rules below long = record {
    array_length = length-set s.array a x ∙ rules.array_length;
    array_blocks = all_set (λ block. length block ≡ sizes.block) s.array a x rules.array_blocks long;
    few_addresses = rw length-map (rw length-take (omega arith));
    in_array = all_map (λ entry. entry.address < sizes.blocks) (λ entry. entry.address < sizes.blocks) (unlinked_from array (dropped sizes s x))
        (λ entry h. subst (λ n. n < sizes.blocks) (sym (keeps_address array (dropped sizes s x) entry)) h) (take sizes.acap (address_moved a s.addresses))
        (all_take (λ entry. entry.address < sizes.blocks) sizes.acap (address_moved a s.addresses) (below, all_filter (λ entry. entry.address < sizes.blocks) (λ entry. not (entry.address == a)) s.addresses rules.in_array));
    apart = apart_unlinked array (dropped sizes s x) (take sizes.acap (address_moved a s.addresses)) (distinct_take one_address sizes.acap (address_moved a s.addresses) (apart_moved a s.addresses rules.apart));
    few_blocks = blocks_by (λ blocks. length blocks ≤ sizes.bcap) (is_zero_block x) refl (λ is. rules.few_blocks) (λ isnt. rw length-take (omega arith));
    block_lengths = blocks_by (λ blocks. AllByRecursion (λ block. length block ≡ sizes.block) blocks) (is_zero_block x) refl (λ is. rules.block_lengths)
        (λ isnt. all_take (λ block. length block ≡ sizes.block) sizes.bcap moved (long, all_filter (λ block. length block ≡ sizes.block) (λ other. not (bytes_eq other x)) s.blocks rules.block_lengths));
    nonzero = blocks_by (λ blocks. AllByRecursion (λ block. is_zero_block block ≡ false) blocks) (is_zero_block x) refl (λ is. rules.nonzero)
        (λ isnt. all_take (λ block. is_zero_block block ≡ false) sizes.bcap moved (moved_nonzero isnt));
    distinct = blocks_by (λ blocks. IsDistinct bytes_eq blocks) (is_zero_block x) refl (λ is. rules.distinct) (λ isnt. distinct_take bytes_eq sizes.bcap moved (distinct_front x s.blocks rules.distinct));
    linked = linked_by (is_zero_block x) refl;
  }

-- a reference to an address of the array, with a block of its length, keeps what holds of each state
pub state-reference : (sizes : Sizes) (s : State) (a : ℕ) (x : List ℕ) → IsState sizes s → a < sizes.blocks → length x ≡ sizes.block → IsState sizes (reference sizes s a x)
state-reference sizes s a x rules below long = keeps_rules sizes s a x rules (subst (λ n. a < n) (sym rules.array_length) below) below long

-- an array of blocks with empty lists is a state
pub state-fresh : (sizes : Sizes) (disk : Blocks) → length disk ≡ sizes.blocks → AllByRecursion (λ block. length block ≡ sizes.block) disk → IsState sizes (fresh disk)
unfolding IsDistinct
state-fresh sizes disk long blocks = record {
  array_length = long;
  array_blocks = blocks;
  few_addresses = omega arith;
  in_array = tt;
  apart = tt;
  few_blocks = omega arith;
  block_lengths = tt;
  nonzero = tt;
  distinct = tt;
  linked = tt;
}
