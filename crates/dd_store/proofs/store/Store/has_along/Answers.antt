use Rattle.std.proofs.Common.{sym, ◌∙◌, ap}
use Rattle.std.specs.List.{list_any}
use Rattle.dd_model.specs.Listing.{refers}
use Rattle.dd_store.specs.declared.along.Along.{Along}
use Rattle.dd_store.specs.Rounds.{has_along}
use Rattle.dd_store.specs.Serving.{StoreOf}
use Rattle.dd_store.proofs.Walks.{referrer_any}
use Rattle.dd_store.proofs.store.Store.has_along.Goals as goal

pub returns-in-Referrers : goal.returns-in-Referrers
returns-in-Referrers g c =
    let rows = (g.L.Lists.listing c.self.inside.lists).table.a in
    c.is_some-in-Referrers.ensures
    ∙ referrer_any c.in-Referrers.slot c.in-Referrers.skip rows c.dirty_of.result c.dirty_of.ensures
    ∙ ap (λ (v : StoreOf g.row.F.Denot). list_any (λ row. refers c.in-Referrers.slot c.in-Referrers.skip row) v.store.table.a) c.self.view_is
    ∙ ap (λ (along : Along). has_along along c.args.self.now.store) (sym c.in-Referrers.is)
