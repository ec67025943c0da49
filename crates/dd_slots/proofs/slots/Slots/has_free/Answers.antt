use Rattle.std.proofs.Common.{◌≡◌, ◌==◌, ◌∙◌, ap, not, length, arith}
use Rattle.std.specs.Prelude.{vec_len}
use Rattle.dd_slots.specs.Slots.{has_free}
use Rattle.dd_slots.proofs.Marks.{free_listed}
use Rattle.dd_slots.proofs.slots.Slots.has_free.Goals as goal

pub returns : goal.returns
returns c =
    let same : vec_len c.self.inside.free ≡ length c.self.inside.free.items = omega arith in
    ap not (c.is_empty.ensures ∙ ap (λ n. n == 0) same) ∙ free_listed c.self.inside.free.items c.self.invariant ∙ ap has_free c.self.view_is
