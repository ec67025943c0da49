use Rattle.std.proofs.Common.{◌≡◌, ℕ, ◌<◌, ◌∙◌, ap, sym, subst, length, arith, false}
use Rattle.dd_record.specs.Table.{b_row}
use Rattle.dd_lists.specs.Lists.{is_in}
use Rattle.dd_index.specs.Index.{Inserts}
use Rattle.dd_data.specs.Blocks.{Data}
use Rattle.dd_data.specs.Matching.{listed}
use Rattle.dd_data.proofs.Shown.{count_is, isnt_there}
use Rattle.dd_data.proofs.Changing.{out_of_lists, out_of_index, added_matches, added_view}
use Rattle.dd_data.proofs.cache.DataCache.front_new.Goals as goal

pub push_front-requires-clause-free : goal.push_front-requires-clause-free
push_front-requires-clause-free c =
    let out : is_in c.args.row.slot (listed c.self.inside.recency) ≡ false = isnt_there c.self.invariant c.args.row.slot (ap (λ (d : Data). b_row c.args.row.slot d.rows) c.self.view_is ∙ c.requires.fresh) in
    out_of_lists c.self.invariant c.args.row.slot out

pub insert-requires-clause-fresh : goal.insert-requires-clause-fresh
insert-requires-clause-fresh c =
    let out : is_in c.args.row.slot (listed c.self.inside.recency) ≡ false = isnt_there c.self.invariant c.args.row.slot (ap (λ (d : Data). b_row c.args.row.slot d.rows) c.self.view_is ∙ c.requires.fresh) in
    out_of_index c.self.invariant c.args.row.slot out

pub invariant_of-self : goal.invariant_of-self
invariant_of-self c =
    let out : is_in c.args.row.slot (listed c.self.inside.recency) ≡ false = isnt_there c.self.invariant c.args.row.slot (ap (λ (d : Data). b_row c.args.row.slot d.rows) c.self.view_is ∙ c.requires.fresh) in
    let low = subst (λ (d : Data). c.args.row.slot < d.slots) (sym c.self.view_is) c.requires.slot in
    let few = subst (λ (d : Data). length d.rows < d.bcap) (sym c.self.view_is) c.requires.room in
    let inserts = subst (λ (key : ℕ). Inserts c.self.inside.index c.insert.new.self key c.args.row.slot) c.key_of.ensures c.insert.ensures in
    added_matches c.self.invariant c.args.row.slot c.args.row.fp low out c.push_front.new.self c.insert.new.self (omega (arith, few, count_is c.self.invariant)) c.push_front.ensures inserts

pub returns : goal.returns
returns c =
    let out : is_in c.args.row.slot (listed c.self.inside.recency) ≡ false = isnt_there c.self.invariant c.args.row.slot (ap (λ (d : Data). b_row c.args.row.slot d.rows) c.self.view_is ∙ c.requires.fresh) in
    let low = subst (λ (d : Data). c.args.row.slot < d.slots) (sym c.self.view_is) c.requires.slot in
    added_view c.self.invariant c.args.row.slot c.args.row.fp low out c.args.self.now c.push_front.new.self c.push_front.ensures c.self.view_is
