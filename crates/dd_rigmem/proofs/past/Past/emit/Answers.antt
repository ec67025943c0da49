use Rattle.std.proofs.Common.{◌≡◌, ◌≤◌, ◌+◌, List, [], ◌∷◌, ◌++◌, length, sym, subst, arith, rules}
use Rattle.std.specs.Prelude.{vec_capacity}
use Rattle.dd_rigmem.specs.declared.event.Event.{Event}
use Rattle.dd_rigmem.specs.declared.event.Event.TheVariants.{Emitted}
use Rattle.dd_rigmem.specs.Records.{EmitRecord}
use Rattle.dd_rigmem.specs.Keeping.{IsKept, marked}
use Rattle.dd_rigmem.specs.History.{History}
use Rattle.dd_rigmem.proofs.Kept.{kept_emitted}
use Rattle.dd_rigmem.proofs.past.Past.emit.Goals as goal

pub invariant_of-self-2 : goal.invariant_of-self-2
invariant_of-self-2 c =
    let history : History = record { start = c.self.inside.start; events = c.self.inside.events.items } in
    let e : EmitRecord = record { piece = c.args.piece.now; count = c.args.count } in
    let event : Event = Emitted e in
    let events : c.push_reserved.new.self.items ≡ history.events ++ event ∷ [] = search rules in
    let capacity = vec_capacity c.push_reserved.new.self in
    let room : length history.events + 1 + marked c.self.inside.unsynced ≤ capacity = omega (arith, c.count.ensures, c.in_ok-reserve.ensures.ok, c.reserve.ensures.len, c.push_reserved.ensures.capacity, c.self.inside.events.ok.0) in
    subst (λ (l : List Event). IsKept (record { start = history.start; events = l }) c.self.inside.shown c.self.inside.unsynced capacity) (sym events)
    (kept_emitted history c.self.inside.shown c.self.inside.unsynced (vec_capacity c.self.inside.events) capacity c.self.invariant e room)
