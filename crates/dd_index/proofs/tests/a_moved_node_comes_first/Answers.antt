use Rattle.std.proofs.Common.{ℕ, List, ◌∷◌, ◌∙◌, ap}
use Rattle.dd_lists.specs.Lists.{is_in, fronted}
use Rattle.dd_index.proofs.tests.a_moved_node_comes_first.Goals as goal

pub move_front-requires : goal.move_front-requires
move_front-requires g c = (5, ap (is_in 0) (c.insert-3.ensures.nodes 5 ∙ ap (λ (l : List ℕ). 2 ∷ l) (c.insert-2.ensures.nodes 5 ∙ c.insert.ensures.nodes 5)))

pub next_same-requires : goal.next_same-requires
next_same-requires g c = (5, ap (is_in 0) (c.move_front.ensures.nodes 5 ∙ ap (fronted 0) (c.insert-3.ensures.nodes 5 ∙ ap (λ (l : List ℕ). 2 ∷ l) (c.insert-2.ensures.nodes 5 ∙ c.insert.ensures.nodes 5))))
