-- Distinct blocks that all occur in a list are no more than it has.
use Rattle.std.proofs.Common.{◌≡◌, ℕ, suc, ◌<◌, ◌≤◌, true, false, cond, not, List, [], ◌∷◌, length, ap, arith}
use Rattle.std.specs.Prelude.{filter, ◌||◌}
use Rattle.std.specs.List.{IsDistinct}
use Rattle.std.specs.Str.{bytes_eq}
use Rattle.std.proofs.lemmas.Bool.{false≢true}
use Rattle.dd_model.specs.State.{is_known}
use Rattle.dd_model.proofs.Filters.{filter_short}
use Rattle.dd_model.proofs.Known.{eq_turned, known_behind, known_filter, known_front, known_all}

-- each block of the first is among the second
abbrev pub Within : List (List ℕ) → List (List ℕ) → Type 0
Within zs ys = (z : List ℕ) → is_known z zs ≡ true → is_known z ys ≡ true

abbrev without : List ℕ → List (List ℕ) → List (List ℕ)
without block blocks = filter (λ other. not (bytes_eq other block)) blocks

-- a block that occurs is taken out
fewer : (block : List ℕ) (ys : List (List ℕ)) → is_known block ys ≡ true → length (without block ys) < length ys
fewer block [] h = absurd (false≢true h)
fewer block (y ∷ ys) h = elim (bytes_eq y block) as (λ t. (t || is_known block ys) ≡ true → length (cond (not t) (y ∷ without block ys) (without block ys)) < suc (length ys))
    [ true ↦ λ known. omega (arith, filter_short (λ other. not (bytes_eq other block)) ys) | false ↦ λ known. omega (arith, fewer block ys known) ] h

pub pigeonhole : (zs ys : List (List ℕ)) → IsDistinct bytes_eq zs → Within zs ys → length zs ≤ length ys
unfolding IsDistinct
pigeonhole [] ys distinct h = omega arith
pigeonhole (z ∷ zs) ys distinct h =
    let rest : Within zs (without z ys) = λ w known. known_filter (λ other. not (bytes_eq other z)) w ys
    (ap not (eq_turned z w (known_all (λ other. bytes_eq z other ≡ false) w zs distinct.0 known))) (h w (known_behind z w zs known)) in
    omega (arith, pigeonhole zs (without z ys) distinct.1 rest, fewer z ys (h z (known_front z zs)))
