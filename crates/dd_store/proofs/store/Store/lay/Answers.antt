use Rattle.std.proofs.Common.{◌≡◌, ℕ, ◌<◌, List, [], ◌∷◌, length, sym, ◌∙◌, ap, subst, false, Some, arith, length-append}
use Rattle.std.proofs.lemmas.Grind.{common_steps}
use Rattle.dd_block.specs.declared.geometry.Geometry.{Geometry}
use Rattle.dd_rig.specs.declared.device.Dev.TheVariants.{Flash, Disk}
use Rattle.dd_record.specs.Table.{a_row}
use Rattle.dd_store.specs.Keeping.{StoreView, IsStore, Holds, Kept}
use Rattle.dd_store.specs.Laying.{MayLay, laid_store}
use Rattle.dd_store.specs.Serving.{StoreOf, store_of}
use Rattle.dd_store.proofs.Flushing.{unlaid_is, kept_unlaid}
use Rattle.dd_store.proofs.Holding.{holds_unlaid, holds_read_failed, holds_write_failed}
use Rattle.dd_store.proofs.LayingOne.{laid_one_is, row_at, row_placed, row_linked, row_may, one_state, lay_serves, read_fails, write_fails}
use Rattle.dd_store.proofs.store.Store.lay.Goals as goal

pub lay_row-requires-clause-row : goal.lay_row-requires-clause-row
lay_row-requires-clause-row g c =
    let i = c.self.inside in
    let was : StoreView = store_of i.up i.journal (g.L.Lists.listing i.lists) i.count i.pending.items i.slots.uses i.laid.items in
    let is : IsStore was = c.self.invariant.7 (ap (λ (v : StoreOf g.row.F.Denot). v.store.is_up) c.self.view_is ∙ c.requires.call.up) in
    row_placed was is c.args.address c.in-Some.row (sym c.look.ensures ∙ c.in-Some.is) i.geo c.self.invariant.0

pub lay_row-requires-clause-linked : goal.lay_row-requires-clause-linked
lay_row-requires-clause-linked g c =
    let i = c.self.inside in
    let was : StoreView = store_of i.up i.journal (g.L.Lists.listing i.lists) i.count i.pending.items i.slots.uses i.laid.items in
    let is : IsStore was = c.self.invariant.7 (ap (λ (v : StoreOf g.row.F.Denot). v.store.is_up) c.self.view_is ∙ c.requires.call.up) in
    let may : MayLay was c.args.address = subst (λ (v : StoreOf g.row.F.Denot). MayLay v.store c.args.address) (sym c.self.view_is) c.requires.may in
    row_linked was is c.args.address c.in-Some.row (sym c.look.ensures ∙ c.in-Some.is) may

pub invariant_of-self : goal.invariant_of-self
invariant_of-self g c =
    let i = c.self.inside in
    let few : length i.laid.items < i.journal.geo.group = subst (λ (v : StoreOf g.row.F.Denot). length v.store.laid < v.store.journal.geo.group) (sym c.self.view_is) c.requires.few in
    let was : StoreView = store_of i.up i.journal (g.L.Lists.listing i.lists) i.count i.pending.items i.slots.uses i.laid.items in (
      c.self.invariant.0,
      grind (arith, common_steps),
      omega (arith, c.self.invariant.2, c.push_reserved.ensures.capacity),
      c.self.invariant.3,
      c.self.invariant.4,
      c.self.invariant.5,
      omega (arith, ap length c.push_reserved.ensures.items, length-append i.laid.items (c.args.address ∷ []), few, ap (λ (g : Geometry). g.group) c.self.invariant.0),
      λ up.
          let is : IsStore was = c.self.invariant.7 (ap (λ (v : StoreOf g.row.F.Denot). v.store.is_up) c.self.view_is ∙ c.requires.call.up) in
          let may : MayLay was c.args.address = subst (λ (v : StoreOf g.row.F.Denot). MayLay v.store c.args.address) (sym c.self.view_is) c.requires.may in
          subst (λ (ns : List ℕ). IsStore (record was { laid = ns })) (sym c.push_reserved.ensures.items) (laid_one_is was c.args.address is may few),
      c.self.invariant.8,
    )

pub invariant_of-self-in-FlashRead : goal.invariant_of-self-in-FlashRead
invariant_of-self-in-FlashRead g c =
    let i = c.self.inside in
    let was : StoreView = store_of i.up i.journal (g.L.Lists.listing i.lists) i.count i.pending.items i.slots.uses i.laid.items in (
      c.self.invariant.0,
      grind (arith, common_steps),
      omega (arith, c.self.invariant.2, c.clear.ensures.capacity),
      c.self.invariant.3,
      c.self.invariant.4,
      c.self.invariant.5,
      omega (arith, ap length c.clear.ensures.items),
      λ up. subst (λ (ns : List ℕ). IsStore (record was { laid = ns })) (sym c.clear.ensures.items) (unlaid_is was (c.self.invariant.7 up)),
      c.self.invariant.8,
    )

pub returns-in-Ok-clause-serves : goal.returns-in-Ok-clause-serves
returns-in-Ok-clause-serves g c = λ told basis was_it s kept.
    let i = c.self.inside in
    let was : StoreView = store_of i.up i.journal (g.L.Lists.listing i.lists) i.count i.pending.items i.slots.uses i.laid.items in
    let is : IsStore was = c.self.invariant.7 (ap (λ (v : StoreOf g.row.F.Denot). v.store.is_up) c.self.view_is ∙ c.requires.call.up) in
    let may : MayLay was c.args.address = subst (λ (v : StoreOf g.row.F.Denot). MayLay v.store c.args.address) (sym c.self.view_is) c.requires.may in
    let found : a_row c.args.address was.table.a ≡ Some c.in-Some.row = sym c.look.ensures ∙ c.in-Some.is in
    let world = g.R.Rig.world c.args.rig.now in
    let print = g.F.Fingerprint.printed c.args.self.now.print in
    let its : Kept basis print was world was_it s = subst (λ (v : StoreOf g.row.F.Denot). Kept basis print v.store world was_it s) (sym c.self.view_is) kept in
    let one : Kept basis print was world s s = one_state basis print was world (g.met.R.Rig.shows_image c.args.rig.now Flash told) (g.met.R.Rig.shows_image c.args.rig.now Disk told) was_it s is its may.none in
    let row = row_may was is c.args.address c.in-Some.row found may in
    lay_serves basis print (g.R.Rig.world c.lay_row.new.rig) was_it s (g.R.Rig.clock c.args.rig.now) (g.R.Rig.clock c.lay_row.new.rig)
    (c.lay_row.ensures.crash told basis print was s c.self.invariant.0 is row one) tt (record was { laid = c.push_reserved.new.self.items })
    (subst (λ (ns : List ℕ). Kept basis print (record was { laid = ns }) (g.R.Rig.world c.lay_row.new.rig) s s) (sym c.push_reserved.ensures.items)
    (subst (λ n. Kept basis print (laid_store n was) (g.R.Rig.world c.lay_row.new.rig) s s) (row_at was is c.args.address c.in-Some.row found) (c.in-Ok.ensures.laid told basis print was s c.self.invariant.0 is row one)))

pub returns-in-FlashRead-clause-serves : goal.returns-in-FlashRead-clause-serves
returns-in-FlashRead-clause-serves g c = λ told basis was_it s kept.
    let i = c.self.inside in
    let was : StoreView = store_of i.up i.journal (g.L.Lists.listing i.lists) i.count i.pending.items i.slots.uses i.laid.items in
    let is : IsStore was = c.self.invariant.7 (ap (λ (v : StoreOf g.row.F.Denot). v.store.is_up) c.self.view_is ∙ c.requires.call.up) in
    let may : MayLay was c.args.address = subst (λ (v : StoreOf g.row.F.Denot). MayLay v.store c.args.address) (sym c.self.view_is) c.requires.may in
    let found : a_row c.args.address was.table.a ≡ Some c.in-Some.row = sym c.look.ensures ∙ c.in-Some.is in
    let world = g.R.Rig.world c.args.rig.now in
    let print = g.F.Fingerprint.printed c.args.self.now.print in
    let its : Kept basis print was world was_it s = subst (λ (v : StoreOf g.row.F.Denot). Kept basis print v.store world was_it s) (sym c.self.view_is) kept in
    let one : Kept basis print was world s s = one_state basis print was world (g.met.R.Rig.shows_image c.args.rig.now Flash told) (g.met.R.Rig.shows_image c.args.rig.now Disk told) was_it s is its may.none in
    let row = row_may was is c.args.address c.in-Some.row found may in
    read_fails basis print (g.R.Rig.world c.lay_row.new.rig) was_it s (g.R.Rig.clock c.args.rig.now) (g.R.Rig.clock c.lay_row.new.rig)
    (c.lay_row.ensures.crash told basis print was s c.self.invariant.0 is row one) c.in-Err.fault c.in-FlashRead.is (record was { laid = c.clear.new.self.items })
    (subst (λ (ns : List ℕ). Kept basis print (record was { laid = ns }) (g.R.Rig.world c.lay_row.new.rig) s s) (sym c.clear.ensures.items)
    (kept_unlaid basis print was (g.R.Rig.world c.lay_row.new.rig) s s (c.lay_row.ensures.kept told basis print was s c.self.invariant.0 is row one)))

pub returns-in-DiskWrite-clause-serves : goal.returns-in-DiskWrite-clause-serves
returns-in-DiskWrite-clause-serves g c = λ told basis was_it s kept.
    let i = c.self.inside in
    let was : StoreView = store_of i.up i.journal (g.L.Lists.listing i.lists) i.count i.pending.items i.slots.uses i.laid.items in
    let is : IsStore was = c.self.invariant.7 (ap (λ (v : StoreOf g.row.F.Denot). v.store.is_up) c.self.view_is ∙ c.requires.call.up) in
    let may : MayLay was c.args.address = subst (λ (v : StoreOf g.row.F.Denot). MayLay v.store c.args.address) (sym c.self.view_is) c.requires.may in
    let found : a_row c.args.address was.table.a ≡ Some c.in-Some.row = sym c.look.ensures ∙ c.in-Some.is in
    let world = g.R.Rig.world c.args.rig.now in
    let print = g.F.Fingerprint.printed c.args.self.now.print in
    let its : Kept basis print was world was_it s = subst (λ (v : StoreOf g.row.F.Denot). Kept basis print v.store world was_it s) (sym c.self.view_is) kept in
    let one : Kept basis print was world s s = one_state basis print was world (g.met.R.Rig.shows_image c.args.rig.now Flash told) (g.met.R.Rig.shows_image c.args.rig.now Disk told) was_it s is its may.none in
    let row = row_may was is c.args.address c.in-Some.row found may in
    write_fails basis print (g.R.Rig.world c.lay_row.new.rig) was_it s (g.R.Rig.clock c.args.rig.now) (g.R.Rig.clock c.lay_row.new.rig)
    (c.lay_row.ensures.crash told basis print was s c.self.invariant.0 is row one) c.in-Err.fault c.in-DiskWrite.is was (record was { is_up = false }) (c.lay_row.ensures.kept told basis print was s c.self.invariant.0 is row one)

pub returns-in-Ok-clause-holds : goal.returns-in-Ok-clause-holds
returns-in-Ok-clause-holds g c = λ told s holds.
    let i = c.self.inside in
    let was : StoreView = store_of i.up i.journal (g.L.Lists.listing i.lists) i.count i.pending.items i.slots.uses i.laid.items in
    let is : IsStore was = c.self.invariant.7 (ap (λ (v : StoreOf g.row.F.Denot). v.store.is_up) c.self.view_is ∙ c.requires.call.up) in
    let may : MayLay was c.args.address = subst (λ (v : StoreOf g.row.F.Denot). MayLay v.store c.args.address) (sym c.self.view_is) c.requires.may in
    let found : a_row c.args.address was.table.a ≡ Some c.in-Some.row = sym c.look.ensures ∙ c.in-Some.is in
    let world = g.R.Rig.world c.args.rig.now in
    let print = g.F.Fingerprint.printed c.args.self.now.print in
    let its : Holds print was world s = subst (λ (v : StoreOf g.row.F.Denot). Holds print v.store world s) (sym c.self.view_is) holds in
    let row = row_may was is c.args.address c.in-Some.row found may in
    subst (λ (ns : List ℕ). Holds print (record was { laid = ns }) (g.R.Rig.world c.lay_row.new.rig) s) (sym c.push_reserved.ensures.items)
    (subst (λ n. Holds print (laid_store n was) (g.R.Rig.world c.lay_row.new.rig) s) (row_at was is c.args.address c.in-Some.row found) (c.in-Ok.ensures.holds_laid told print was s c.self.invariant.0 is row its))

pub returns-in-FlashRead-clause-holds : goal.returns-in-FlashRead-clause-holds
returns-in-FlashRead-clause-holds g c = λ told s holds.
    let i = c.self.inside in
    let was : StoreView = store_of i.up i.journal (g.L.Lists.listing i.lists) i.count i.pending.items i.slots.uses i.laid.items in
    let is : IsStore was = c.self.invariant.7 (ap (λ (v : StoreOf g.row.F.Denot). v.store.is_up) c.self.view_is ∙ c.requires.call.up) in
    let may : MayLay was c.args.address = subst (λ (v : StoreOf g.row.F.Denot). MayLay v.store c.args.address) (sym c.self.view_is) c.requires.may in
    let found : a_row c.args.address was.table.a ≡ Some c.in-Some.row = sym c.look.ensures ∙ c.in-Some.is in
    let world = g.R.Rig.world c.args.rig.now in
    let print = g.F.Fingerprint.printed c.args.self.now.print in
    let its : Holds print was world s = subst (λ (v : StoreOf g.row.F.Denot). Holds print v.store world s) (sym c.self.view_is) holds in
    let row = row_may was is c.args.address c.in-Some.row found may in
    holds_read_failed (Unit {0}) print c.in-Err.fault c.in-FlashRead.is s s (record was { laid = c.clear.new.self.items }) (g.R.Rig.world c.lay_row.new.rig)
    (subst (λ (ns : List ℕ). Holds print (record was { laid = ns }) (g.R.Rig.world c.lay_row.new.rig) s) (sym c.clear.ensures.items)
    (holds_unlaid print was (g.R.Rig.world c.lay_row.new.rig) s (c.lay_row.ensures.holds told print was s c.self.invariant.0 is row its)))

pub returns-in-DiskWrite-clause-holds : goal.returns-in-DiskWrite-clause-holds
returns-in-DiskWrite-clause-holds g c = λ told s holds. holds_write_failed (Unit {0}) _ c.in-Err.fault c.in-DiskWrite.is s s _ _
