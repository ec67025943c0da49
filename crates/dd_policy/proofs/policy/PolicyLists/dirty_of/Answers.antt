use Rattle.std.proofs.Common.{◌≤◌, ◌∙◌, ap, sym, arith, List, ℕ, length}
use Rattle.dd_slots.specs.Numbers.{is_among}
use Rattle.dd_meta.specs.Entries.{rows_of}
use Rattle.dd_policy.proofs.Marking.{none_refers, no_list}
use Rattle.dd_policy.proofs.policy.PolicyLists.dirty_of.Goals as goal

pub returns-else-slot-self : goal.returns-else-slot-self
returns-else-slot-self c =
    let lists = c.args.self.now in
    let past : length lists.meta.owed ≤ c.args.slot = omega (arith, lists.keeps.sized, c.if-slot-self.false) in
    none_refers c.args.slot c.args.skip (rows_of lists.meta) (λ n. sym ((lists.keeps.walked c.args.slot).each n) ∙ ap (λ (xs : List ℕ). is_among n xs) (no_list lists.meta.owed c.args.slot past))
