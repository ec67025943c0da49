use Rattle.std.proofs.Common.{◌≡◌, List, [], ◌∷◌, ◌++◌, sym, ap, ◌∙◌, subst, arith, rules}
use Rattle.std.specs.Prelude.{vec_capacity}
use Rattle.dd_rigmem.specs.declared.event.Event.{Event}
use Rattle.dd_rigmem.specs.declared.event.Event.TheVariants.{Synced}
use Rattle.dd_rigmem.specs.declared.marks.Marks.{Marks}
use Rattle.dd_rigmem.specs.Keeping.{IsKept}
use Rattle.dd_rigmem.specs.History.{History, Syncs, grown, world_of}
use Rattle.dd_rigmem.proofs.Growth.{world_grown, synced}
use Rattle.dd_rigmem.proofs.Kept.{kept_synced}
use Rattle.dd_rigmem.proofs.past.Past.sync.Goals as goal

pub invariant_of-self : goal.invariant_of-self
invariant_of-self c =
    let history : History = record { start = c.self.inside.start; events = c.self.inside.events.items } in
    let event : Event = Synced c.args.dev in
    let events : c.push_reserved.new.self.items ≡ history.events ++ event ∷ [] = search rules in
    let capacity = vec_capacity c.push_reserved.new.self in
    let kept = kept_synced history c.self.inside.shown c.self.inside.unsynced (vec_capacity c.self.inside.events) capacity c.self.invariant c.args.dev (sym c.get.ensures ∙ c.if-get.true) (omega (arith, c.push_reserved.ensures.capacity)) in
    subst (λ (l : List Event). IsKept (record { start = history.start; events = l }) c.self.inside.shown c.set.new.self capacity) (sym events)
    (subst (λ (m : Marks). IsKept (record { start = history.start; events = history.events ++ event ∷ [] }) c.self.inside.shown m capacity) (sym c.set.ensures) kept)

-- the history with the sync
synced_history : (c : goal.After-push_reserved) → ◌≡◌ {A = History} (record { start = c.self.inside.start; events = c.push_reserved.new.self.items }) (grown (Synced c.args.dev) c.args.self.now)
synced_history c =
    ap (λ (l : List Event). let h : History = record { start = c.self.inside.start; events = l } in h) c.push_reserved.ensures.items ∙ ap (grown (Synced c.args.dev)) c.self.view_is

pub returns-then-get-clause-world : goal.returns-then-get-clause-world
returns-then-get-clause-world c = ap world_of (synced_history c) ∙ world_grown (Synced c.args.dev) c.args.self.now

pub returns-then-get-clause-model : goal.returns-then-get-clause-model
returns-then-get-clause-model c = subst (Syncs c.args.dev c.args.self.now) (sym (synced_history c)) (synced c.args.dev c.args.self.now)
