use Rattle.std.proofs.Common.{◌≡◌, ◌≤◌, ◌+◌, List, [], ◌∷◌, ◌++◌, length, sym, ap, ◌∙◌, subst, arith, rules}
use Rattle.std.specs.Prelude.{vec_capacity, true}
use Rattle.dd_rigmem.specs.declared.event.Event.{Event}
use Rattle.dd_rigmem.specs.declared.event.Event.TheVariants.{Wrote}
use Rattle.dd_rigmem.specs.declared.marks.Marks.{Marks}
use Rattle.dd_rigmem.specs.Keeping.{IsKept, set_mark, marked}
use Rattle.dd_rigmem.specs.History.{History, size_of}
use Rattle.dd_rigmem.proofs.Kept.{kept_written, shown_size}
use Rattle.dd_rigmem.proofs.past.Past.write.Goals as goal

pub put-requires : goal.put-requires
put-requires c = omega (arith, c.requires, ap (λ (h : History). size_of h.start c.args.dev) c.self.view_is, shown_size (record { start = c.self.inside.start; events = c.self.inside.events.items }) c.self.inside.shown c.self.inside.unsynced (vec_capacity c.self.inside.events) (vec_capacity c.self.inside.events) c.self.invariant c.args.dev)

pub invariant_of-self-2 : goal.invariant_of-self-2
invariant_of-self-2 c =
    let history : History = record { start = c.self.inside.start; events = c.self.inside.events.items } in
    let event : Event = Wrote (record { dev = c.args.dev; at = c.args.at; bytes = c.args.bytes.now }) in
    let events : c.push_reserved.new.self.items ≡ history.events ++ event ∷ [] = search rules in
    let marks = set_mark c.args.dev true c.self.inside.unsynced in
    let count : c.count.result ≡ marked marks = c.count.ensures ∙ ap marked c.set.ensures in
    let capacity = vec_capacity c.push_reserved.new.self in
    let room : length history.events + 1 + marked marks ≤ capacity = omega (arith, count, c.in_ok-reserve.ensures.ok, c.reserve.ensures.len, c.push_reserved.ensures.capacity, c.self.inside.events.ok.0) in
    let kept = kept_written history c.self.inside.shown c.self.inside.unsynced (vec_capacity c.self.inside.events) capacity c.self.invariant c.args.dev c.args.at c.args.bytes.now c.put.new.self c.put.ensures room in
    subst (λ (l : List Event). IsKept (record { start = history.start; events = l }) c.put.new.self c.set.new.self capacity) (sym events)
    (subst (λ (m : Marks). IsKept (record { start = history.start; events = history.events ++ event ∷ [] }) c.put.new.self m capacity) (sym c.set.ensures) kept)
