use Rattle.std.proofs.Common.{List, ℕ, length, ◌∙◌, ap, subst, sym, arith, ⊎_elim}
use Rattle.std.specs.Prelude.{OnOk}
use Rattle.dd_block.specs.declared.print.Fp.{Fp}
use Rattle.dd_store.specs.Keeping.{StoreView, IsStore, Kept}
use Rattle.dd_store.specs.Serving.{StoreOf, store_of}
use Rattle.dd_store.specs.Rounds.{Cleans}
use Rattle.dd_store.proofs.Cleaning.{dirty_few, none_left, clean_shows, commit_cleans, cleans_on}
use Rattle.dd_store.proofs.Holding.{holds_next}
use Rattle.dd_store.proofs.Serves.{serves_next, kept_sure, on_leaves}
use Rattle.dd_store.proofs.store.Store.clean.Goals as goal

pub rounds-requires-clause-epoch : goal.rounds-requires-clause-epoch
rounds-requires-clause-epoch g c =
    let i = c.self.inside in
    let was : StoreView = store_of i.up i.journal (g.L.Lists.listing i.lists) i.count i.pending.items i.slots.uses i.laid.items in
    let is : IsStore was = c.self.invariant.7 (ap (λ (v : StoreOf g.row.F.Denot). v.store.is_up) c.self.view_is ∙ c.requires.up) in
    let few = dirty_few was is in
    let same = ap (λ (v : StoreOf g.row.F.Denot). length v.store.dirty) c.self.view_is in
    let kept = ap (λ (ns : List ℕ). length ns) c.commit.ensures.rows.1 in
    ⊎_elim (λ stays. omega (arith, c.requires.epoch, few, same, kept, stays, i.journal.geo.acap_most)) (λ rises. omega (arith, c.requires.epoch, few, same, kept, rises, i.journal.geo.acap_most)) c.commit.ensures.epoch

pub returns-in-Ok-clause-serves : goal.returns-in-Ok-clause-serves
returns-in-Ok-clause-serves g c = λ told basis was s kept.
    let print = g.F.Fingerprint.printed in
    serves_next basis (print c.args.self.now.print) (print c.commit.new.self.print) (ap print c.commit.ensures.rests.print) (g.R.Rig.clock c.args.rig.now) (g.R.Rig.clock c.commit.new.rig) (g.R.Rig.clock c.rounds.new.rig)
    c.commit.new.self.store c.rounds.new.self.store (g.R.Rig.world c.commit.new.rig) (g.R.Rig.world c.rounds.new.rig) was s s tt c.rounds.result
    (c.in-Ok.ensures.serves told basis was s kept) (λ k held. c.rounds.ensures.serves told basis k s held)

pub returns-in-Ok-clause-committed : goal.returns-in-Ok-clause-committed
returns-in-Ok-clause-committed g c = λ told basis was s kept.
    let print = g.F.Fingerprint.printed in
    subst (λ (p : List ℕ → Fp). OnOk c.rounds.result (Kept basis p c.rounds.new.self.store (g.R.Rig.world c.rounds.new.rig) s s)) (ap print c.commit.ensures.rests.print)
    (kept_sure basis (print c.commit.new.self.print) c.rounds.result c.rounds.new.self.store (g.R.Rig.world c.rounds.new.rig) s
    (on_leaves basis (print c.commit.new.self.print) c.rounds.result s s s c.rounds.new.self.store (g.R.Rig.world c.rounds.new.rig) (c.rounds.ensures.serves told basis s s
    (subst (λ (p : List ℕ → Fp). Kept basis p c.commit.new.self.store (g.R.Rig.world c.commit.new.rig) s s) (sym (ap print c.commit.ensures.rests.print)) (c.in-Ok.ensures.committed told basis was s kept))).leaves))

pub returns-in-Ok-clause-none : goal.returns-in-Ok-clause-none
returns-in-Ok-clause-none g c = none_left c.rounds.result c.rounds.new.self.store c.rounds.ensures.none

pub returns-in-Ok-clause-shows : goal.returns-in-Ok-clause-shows
returns-in-Ok-clause-shows g c = λ told s holds.
    let i = c.self.inside in
    let print = g.F.Fingerprint.printed in
    let was : StoreView = store_of i.up i.journal (g.L.Lists.listing i.lists) i.count i.pending.items i.slots.uses i.laid.items in
    let is : IsStore was = c.self.invariant.7 (ap (λ (v : StoreOf g.row.F.Denot). v.store.is_up) c.self.view_is ∙ c.requires.up) in
    let geometry = c.rounds.ensures.geometry ∙ c.commit.ensures.geometry in
    let first : Cleans c.args.self.now.store c.commit.new.self.store = commit_cleans c.args.self.now.store c.commit.new.self.store c.commit.new.self.store.journal c.in-Ok.ensures.store c.commit.ensures.geometry in
    clean_shows (print c.args.self.now.print) c.rounds.result c.args.self.now.store c.rounds.new.self.store (g.R.Rig.world c.rounds.new.rig) s
    (subst (λ (v : StoreOf g.row.F.Denot). IsStore v.store) c.self.view_is is) geometry
    (cleans_on c.rounds.result c.args.self.now.store c.commit.new.self.store c.rounds.new.self.store first c.rounds.ensures.rows)
    (none_left c.rounds.result c.rounds.new.self.store c.rounds.ensures.none)
    (holds_next {T = Unit {0}} (print c.args.self.now.print) (print c.commit.new.self.print) (ap print c.commit.ensures.rests.print) c.commit.new.self.store c.rounds.new.self.store (g.R.Rig.world c.commit.new.rig) (g.R.Rig.world c.rounds.new.rig) s s c.rounds.result
    (c.in-Ok.ensures.holds told s holds) (λ held. c.rounds.ensures.holds told s held))
