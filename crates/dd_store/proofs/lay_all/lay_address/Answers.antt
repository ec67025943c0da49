use Rattle.std.proofs.Common.{◌≡◌, ℕ, sym, ◌∙◌, subst, Some}
use Rattle.std.specs.Prelude.{OnOk}
use Rattle.dd_record.specs.Table.{a_row}
use Rattle.dd_store.specs.Keeping.{Holds, Kept}
use Rattle.dd_store.specs.Laying.{laid_store, IsPlacedRow}
use Rattle.dd_store.proofs.LayingRow.{found_row}
use Rattle.dd_store.proofs.LayingAll.{found_linked, found_may, found_at}
use Rattle.dd_store.proofs.lay_all.lay_address.Goals as goal

pub lay_row-requires-clause-row : goal.lay_row-requires-clause-row
lay_row-requires-clause-row g c =
    let rows = (g.L.Lists.listing c.args.lists.now).table.a in
    found_row (IsPlacedRow c.args.geo) c.args.address rows c.in-Some.row c.requires.rows (sym c.look.ensures ∙ c.in-Some.is)

pub lay_row-requires-clause-linked : goal.lay_row-requires-clause-linked
lay_row-requires-clause-linked g c =
    let rows = (g.L.Lists.listing c.args.lists.now).table.a in
    found_linked c.args.address rows c.in-Some.row (g.met.L.Lists.kept c.args.lists.now).linked c.requires.dirty (sym c.look.ensures ∙ c.in-Some.is)

pub returns-in-Some-clause-crash : goal.returns-in-Some-clause-crash
returns-in-Some-clause-crash g c = λ told basis print store s geo same is may kept.
    let table = (g.L.Lists.listing c.args.lists.now).table in
    let found : a_row c.args.address table.a ≡ Some c.in-Some.row = sym c.look.ensures ∙ c.in-Some.is in
    c.lay_row.ensures.crash told basis print store s geo is (found_may store table same is c.args.address c.in-Some.row found may) kept

pub returns-in-Some-clause-kept : goal.returns-in-Some-clause-kept
returns-in-Some-clause-kept g c = λ told basis print store s geo same is may kept.
    let table = (g.L.Lists.listing c.args.lists.now).table in
    let found : a_row c.args.address table.a ≡ Some c.in-Some.row = sym c.look.ensures ∙ c.in-Some.is in
    c.lay_row.ensures.kept told basis print store s geo is (found_may store table same is c.args.address c.in-Some.row found may) kept

pub returns-in-Some-clause-laid : goal.returns-in-Some-clause-laid
returns-in-Some-clause-laid g c = λ told basis print store s geo same is may kept.
    let table = (g.L.Lists.listing c.args.lists.now).table in
    let found : a_row c.args.address table.a ≡ Some c.in-Some.row = sym c.look.ensures ∙ c.in-Some.is in
    subst (λ (n : ℕ). OnOk c.lay_row.result (Kept basis print (laid_store n store) (g.R.Rig.world c.lay_row.new.rig) s s)) (found_at store table same is c.args.address c.in-Some.row found)
    (c.lay_row.ensures.laid told basis print store s geo is (found_may store table same is c.args.address c.in-Some.row found may) kept)

pub returns-in-Some-clause-holds : goal.returns-in-Some-clause-holds
returns-in-Some-clause-holds g c = λ told print store s geo same is may holds.
    let table = (g.L.Lists.listing c.args.lists.now).table in
    let found : a_row c.args.address table.a ≡ Some c.in-Some.row = sym c.look.ensures ∙ c.in-Some.is in
    c.lay_row.ensures.holds told print store s geo is (found_may store table same is c.args.address c.in-Some.row found may) holds

pub returns-in-Some-clause-holds_laid : goal.returns-in-Some-clause-holds_laid
returns-in-Some-clause-holds_laid g c = λ told print store s geo same is may holds.
    let table = (g.L.Lists.listing c.args.lists.now).table in
    let found : a_row c.args.address table.a ≡ Some c.in-Some.row = sym c.look.ensures ∙ c.in-Some.is in
    subst (λ (n : ℕ). OnOk c.lay_row.result (Holds print (laid_store n store) (g.R.Rig.world c.lay_row.new.rig) s)) (found_at store table same is c.args.address c.in-Some.row found)
    (c.lay_row.ensures.holds_laid told print store s geo is (found_may store table same is c.args.address c.in-Some.row found may) holds)
