use Rattle.std.proofs.Common.{ℕ, List, ◌∷◌, ◌∙◌, ap}
use Rattle.dd_lists.specs.Lists.{is_in}
use Rattle.dd_index.proofs.tests.the_last_of_a_key_comes_first.Goals as goal

pub next_same-requires : goal.next_same-requires
next_same-requires g c = (5, ap (is_in 2) (c.insert-3.ensures.nodes 5))

pub next_same-requires-2 : goal.next_same-requires-2
next_same-requires-2 g c = (5, ap (is_in 0) (c.insert-3.ensures.nodes 5 ∙ ap (λ (l : List ℕ). 2 ∷ l) (c.insert-2.ensures.nodes 5 ∙ c.insert.ensures.nodes 5)))
