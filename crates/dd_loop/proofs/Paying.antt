-- What lines cost, one behind the other.
use Rattle.std.proofs.Common.{ℕ, List, [], ◌∷◌, ◌++◌, subst, append-nil}
use Rattle.dd_rig.specs.declared.tallies.Counts.{Counts}
use Rattle.dd_rig.specs.Counts.{NeverFalls}
use Rattle.dd_loop.specs.Answering.{Pays}
use Rattle.dd_loop.proofs.Faults.{counts_both, counts_later}

module _ (K : Type 0) (Costs : (old new : K) → List (List ℕ) → ℕ → Counts → Counts → Type 0)
    (sums : (one two three : K) (lines others : List (List ℕ)) (more : ℕ) (p q r : Counts) → Costs one two lines 0 p q → Costs two three others more q r → Costs one three (lines ++ others) more p r)
    (one two three : K) (a b c : Counts) (lines : List (List ℕ)) (paid : Pays (Costs one two) a b lines 0) where
  -- lines, and further ones
  pub pays_more : (others : List (List ℕ)) → Pays (Costs two three) b c others 0 → Pays (Costs one three) a c (lines ++ others) 0
  pays_more others p = (sums one two three lines others 0 a b c paid.0 p.0, counts_both lines others a b c paid.1 p.1)

  -- lines, and the beginning of one more
  pub pays_begun : NeverFalls b c → Costs two three [] 1 b c → Pays (Costs one three) a c lines 1
  pays_begun falls p = (subst (λ (ls : List (List ℕ)). Costs one three ls 1 a c) (append-nil lines) (sums one two three lines [] 1 a b c paid.0 p), counts_later lines a b c paid.1 falls)

  -- lines, and one more that was said in part or whole
  pub pays_cut : NeverFalls b c → ((one two : K) (line : List ℕ) (p q : Counts) → Costs one two (line ∷ []) 0 p q → Costs one two [] 1 p q)
      → ((one two : K) (lines : List (List ℕ)) (p q : Counts) → Costs one two lines 0 p q → Costs one two lines 1 p q)
      → (line : List ℕ) → Pays (Costs two three) b c (line ∷ []) 0 → Pays (Costs one three) a c lines 1 × Pays (Costs one three) a c (lines ++ line ∷ []) 1
  pays_cut falls cut begun line p =
      (pays_begun falls (cut two three line b c p.0), (begun one three (lines ++ line ∷ []) a c (sums one two three lines (line ∷ []) 0 a b c paid.0 p.0), counts_both lines (line ∷ []) a b c paid.1 p.1))
