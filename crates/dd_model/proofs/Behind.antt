-- Unlinked addresses stay behind enough contents.
use Rattle.std.proofs.Common.{◌≡◌, ◌⊎◌, inl, inr, ⊎_elim, ℕ, zero, suc, ◌≤◌, ◌<◌, ◌==◌, Bool, true, false, cond, not, List, [], ◌∷◌, ◌++◌, map, take, length, refl, ap, sym, ◌∙◌, subst, arith, Some}
use Rattle.std.specs.Prelude.{slice_set, ◌||◌, ◌&&◌}
use Rattle.std.specs.List.{AllByRecursion}
use Rattle.std.specs.Str.{bytes_eq}
use Rattle.std.proofs.lemmas.Bool.{false≢true}
use Rattle.dd_model.specs.State.{Entry, content, is_known}
use Rattle.dd_model.specs.Reference.{unlinked_from, address_moved}
use Rattle.dd_model.specs.Alignment.{contents, variety, UnlinkedLieBehind}
use Rattle.dd_model.specs.Orphans.{is_referred}
use Rattle.dd_model.proofs.Known.{known_cases, known_front, known_behind, append_cases, append_left, append_right}
use Rattle.dd_model.proofs.Pigeon.{Within}
use Rattle.dd_model.proofs.Firsts.{variety_more, until}
use Rattle.dd_model.proofs.Moved.{HasContent, others, other_content, own_content}

abbrev Blocks : Type 0
Blocks = List (List ℕ)

-- a content that is counted in front or behind
front_first : (c : List ℕ) (front rest : Blocks) → Within (front ++ (c ∷ rest)) ((c ∷ front) ++ rest)
front_first c front rest z h =
    ⊎_elim (λ before. known_behind c z (front ++ rest) (append_left z front rest before))
    (λ after. ⊎_elim (λ same. subst (λ b. is_known z (b ∷ front ++ rest) ≡ true) (sym same) (known_front z (front ++ rest)))
    (λ there. known_behind c z (front ++ rest) (append_right z front rest there)) (known_cases c z rest after))
    (append_cases z front (c ∷ rest) h)

front_last : (c : List ℕ) (front rest : Blocks) → Within ((c ∷ front) ++ rest) (front ++ (c ∷ rest))
front_last c front rest z h =
    ⊎_elim (λ same. append_right z front (c ∷ rest) (subst (λ b. is_known z (b ∷ rest) ≡ true) (sym same) (known_front z rest)))
    (λ there. ⊎_elim (λ before. append_left z front (c ∷ rest) before) (λ after. append_right z front (c ∷ rest) (known_behind c z rest after)) (append_cases z front rest there))
    (known_cases c z (front ++ rest) h)

in_front : (front rest : Blocks) → Within front (front ++ rest)
in_front front rest z h = append_left z front rest h

nothing_behind : (front : Blocks) → Within (front ++ []) front
nothing_behind front z h = ⊎_elim (λ there. there) (λ never. absurd (false≢true never)) (append_cases z front [] h)

-- a cut at the end
pub behind-take : (bcap n : ℕ) (array front : Blocks) (entries : List Entry) → UnlinkedLieBehind bcap array front entries → UnlinkedLieBehind bcap array front (take n entries)
behind-take bcap zero array front entries h = tt
behind-take bcap (suc n) array front [] h = tt
behind-take bcap (suc n) array front (entry ∷ entries) h = (h.0, behind-take bcap n array (content array entry.address ∷ front) entries h.1)

-- an address with the content that stands in front of all leaves the others behind no less
module _ (bcap : ℕ) (array : Blocks) (a : ℕ) (x : List ℕ) where
  one_entry : (t : Bool) (entry : Entry) (rest : List Entry) (front front' : Blocks) → (entry.address == a) ≡ t → Within front front' → is_known x front' ≡ true → HasContent array a x entry
      → ((entry.linked ≡ true) ⊎ (bcap ≤ variety front))
      → ((wider : Blocks) → Within (content array entry.address ∷ front) wider → is_known x wider ≡ true → UnlinkedLieBehind bcap (slice_set array a x) wider rest)
      → UnlinkedLieBehind bcap (slice_set array a x) front' (cond (not t) (entry ∷ rest) rest)
  one_entry true entry rest front front' is within known has lies ih =
      ih front' (λ z h. ⊎_elim (λ same. subst (λ b. is_known b front' ≡ true) (sym (has is) ∙ same) known) (λ there. within z there) (known_cases (content array entry.address) z front h)) known
  one_entry false entry rest front front' isnt within known has lies ih =
      let c : List ℕ = content array entry.address in
      let same_content : content (slice_set array a x) entry.address ≡ c = other_content array a entry.address x isnt in
      let wider : Within (c ∷ front) (c ∷ front') = λ z h. ⊎_elim (λ same. subst (λ b. is_known z (b ∷ front') ≡ true) (sym same) (known_front z front'))
      (λ there. known_behind c z front' (within z there)) (known_cases c z front h) in (
        ⊎_elim (λ linked. inl linked) (λ (far : bcap ≤ variety front). inr (omega (arith, far, variety_more front front' within))) lies,
        subst (λ b. UnlinkedLieBehind bcap (slice_set array a x) (b ∷ front') rest) (sym same_content) (ih (c ∷ front') wider (known_behind c x front' known)),
      )

  behind-others : (entries : List Entry) (front front' : Blocks) → AllByRecursion (HasContent array a x) entries → Within front front' → is_known x front' ≡ true
      → UnlinkedLieBehind bcap array front entries → UnlinkedLieBehind bcap (slice_set array a x) front' (others a entries)
  behind-others [] front front' has within known h = tt
  behind-others (entry ∷ entries) front front' has within known h =
      one_entry (entry.address == a) entry (others a entries) front front' refl within known has.0 h.0
      (λ wider w k. behind-others entries (content array entry.address ∷ front) wider has.1 w k h.1)

  pub behind-moved : a < length array → (entries : List Entry) → AllByRecursion (HasContent array a x) entries
      → UnlinkedLieBehind bcap array [] entries → UnlinkedLieBehind bcap (slice_set array a x) [] (address_moved a entries)
  behind-moved inside entries has h = (
    inl refl,
    behind-others entries [] (content (slice_set array a x) a ∷ []) has (λ z never. absurd (false≢true never))
        (subst (λ b. is_known x (b ∷ []) ≡ true) (sym (own_content array a x inside)) (known_front x [])) h,
  )

-- addresses of a content before which enough contents stand may lose their links
module _ (bcap : ℕ) (array : Blocks) (d : List ℕ) where
  one_unlinked : (t : Bool) (entry : Entry) (entries : List Entry) (front : Blocks) → ((entry.linked ≡ true) ⊎ (bcap ≤ variety front))
      → ((t || is_known d (contents array entries)) ≡ true → bcap ≤ variety (front ++ cond t [] (content array entry.address ∷ until d (contents array entries))))
      → ((is_known d (contents array entries) ≡ true → bcap ≤ variety ((content array entry.address ∷ front) ++ until d (contents array entries)))
      → UnlinkedLieBehind bcap array (content array entry.address ∷ front) (map (unlinked_from array (Some d)) entries))
      → UnlinkedLieBehind bcap array front (cond t (record entry { linked = false }) entry ∷ map (unlinked_from array (Some d)) entries)
  one_unlinked true entry entries front lies far ih =
      let c : List ℕ = content array entry.address in
      let rest : Blocks = until d (contents array entries) in
      let here : bcap ≤ variety front = omega (arith, far refl, variety_more (front ++ []) front (nothing_behind front)) in
      (inr here, ih (λ known. omega (arith, here, variety_more front ((c ∷ front) ++ rest) (λ z h. known_behind c z (front ++ rest) (in_front front rest z h)))))
  one_unlinked false entry entries front lies far ih =
      let c : List ℕ = content array entry.address in
      let rest : Blocks = until d (contents array entries) in
      (lies, ih (λ known. omega (arith, far known, variety_more (front ++ (c ∷ rest)) ((c ∷ front) ++ rest) (front_first c front rest))))

  pub behind-unlinked : (entries : List Entry) (front : Blocks) → UnlinkedLieBehind bcap array front entries
      → (is_known d (contents array entries) ≡ true → bcap ≤ variety (front ++ until d (contents array entries)))
      → UnlinkedLieBehind bcap array front (map (unlinked_from array (Some d)) entries)
  behind-unlinked [] front h far = tt
  behind-unlinked (entry ∷ entries) front h far =
      one_unlinked (bytes_eq (content array entry.address) d) entry entries front h.0 far (λ reach. behind-unlinked entries (content array entry.address ∷ front) h.1 reach)

or_later : (l r : Bool) → r ≡ true → (l && false || r) ≡ true
or_later true r h = h
or_later false r h = h

-- an address with fewer contents in front than that is linked
pub near_is_linked : (bcap : ℕ) (array : Blocks) (b : List ℕ) (entries : List Entry) (front : Blocks) → UnlinkedLieBehind bcap array front entries
    → is_known b (contents array entries) ≡ true → variety (front ++ until b (contents array entries)) < bcap → is_referred array entries b ≡ true
near_is_linked bcap array b [] front h known few = absurd (false≢true known)
near_is_linked bcap array b (entry ∷ entries) front h known few =
    let c : List ℕ = content array entry.address in
    let rest : Blocks = until b (contents array entries) in
    elim (bytes_eq c b) as (λ t. (t || is_known b (contents array entries)) ≡ true → variety (front ++ cond t [] (c ∷ rest)) < bcap → (entry.linked && t || is_referred array entries b) ≡ true) [
      | true ↦ λ here (less : variety (front ++ []) < bcap).
          ⊎_elim (λ linked. ap (λ l. l && true || is_referred array entries b) linked)
          (λ (far : bcap ≤ variety front). absurd (omega (arith, far, less, variety_more front (front ++ []) (in_front front [])))) h.0
      | false ↦ λ there (less : variety (front ++ (c ∷ rest)) < bcap).
          or_later entry.linked (is_referred array entries b)
          (near_is_linked bcap array b entries (c ∷ front) h.1 there (omega (arith, less, variety_more ((c ∷ front) ++ rest) (front ++ (c ∷ rest)) (front_last c front rest))))
    ] known few

-- all are linked, or enough contents are listed
pub linked_or_far : (bcap : ℕ) (array : Blocks) (entries : List Entry) (front : Blocks) → UnlinkedLieBehind bcap array front entries
    → (AllByRecursion (λ entry. entry.linked ≡ true) entries) ⊎ (bcap ≤ variety (front ++ contents array entries))
linked_or_far bcap array [] front h = inl tt
linked_or_far bcap array (entry ∷ entries) front h =
    let c : List ℕ = content array entry.address in
    let rest : Blocks = contents array entries in
    ⊎_elim
    (λ linked. ⊎_elim (λ all. inl (linked, all))
    (λ (far : bcap ≤ variety ((c ∷ front) ++ rest)). inr (omega (arith, far, variety_more ((c ∷ front) ++ rest) (front ++ (c ∷ rest)) (front_last c front rest))))
    (linked_or_far bcap array entries (c ∷ front) h.1))
    (λ (far : bcap ≤ variety front). inr (omega (arith, far, variety_more front (front ++ (c ∷ rest)) (in_front front (c ∷ rest)))))
    h.0
