use Rattle.dd_model.specs.declared.given.Want.TheVariants as wants
use Rattle.dd_store.specs.Rounds.{HasRoom}
use Rattle.dd_model.specs.declared.given.Want.{Want}
use Rattle.dd_store.proofs.Untouched.{for_dup, fresh_dup}
use Rattle.dd_store.proofs.Holding.{holds_behind, holds_read_failed}
use Rattle.std.proofs.Common.{◌≡◌, ◌<◌, inl, length, false, sym, ◌∙◌, ap, subst, if◌then◌else◌, true, rules}
use Rattle.std.specs.Prelude.{◌||◌, IfOk, IfSome}
use Rattle.dd_block.specs.Geometry.{slot_count}
use Rattle.dd_rig.specs.Counts.{Makes, up_to, nothing}
use Rattle.dd_rig.specs.World.{World}
use Rattle.dd_layout.specs.Layout.{slot_block}
use Rattle.dd_model.specs.declared.done.Done.{Done}
use Rattle.dd_model.specs.declared.given.Block.TheVariants.{Known}
use Rattle.dd_model.specs.declared.kind.Kind.TheVariants.{Dup, Join}
use Rattle.dd_model.specs.Listing.{IsGiven}
use Rattle.dd_model.specs.Confirming.{candidates}
use Rattle.dd_model.specs.Reference.{reference, Tells}
use Rattle.dd_model.specs.State.{is_zero_block, is_known, is_at_hand}
use Rattle.dd_store.specs.Bringing.{FoundAs, answer_for}
use Rattle.dd_store.specs.Keeping.{StoreView, IsStore, Kept, Holds, slots_shown}
use Rattle.dd_store.specs.Meaning.{sizes_of}
use Rattle.dd_store.specs.Referring.{listing_in}
use Rattle.dd_store.specs.Serving.{StoreOf, Serves, store_of, HoldsThen}
use Rattle.dd_store.proofs.Answered.{kind_at_hand}
use Rattle.dd_store.proofs.Brought.{kept_behind, serves_behind, serves_failed}
use Rattle.dd_store.proofs.Costs.{references_behind, little_fresh, little_known, disk_fresh, given_below, none_then, room_fresh, room_known}
use Rattle.dd_store.proofs.Hits.{known_no_hit, fresh_no_hit}
use Rattle.dd_store.proofs.Located.{carries_listed, carries_zeros}
use Rattle.dd_store.proofs.store.Store.bring.Goals as goal

pub returns-then-is_zero-clause-serves : goal.returns-then-is_zero-clause-serves
returns-then-is_zero-clause-serves g c = λ told basis was s kept read.
    c.join.ensures.serves told basis was s kept c.args.block.now
    (carries_zeros (g.F.Fingerprint.printed c.args.self.now.print) c.args.self.now.store (g.R.Rig.world c.args.rig.now) s kept.holds c.args.address c.requires.below c.args.block.now c.args.dirty c.requires.long read (sym c.is_zero.ensures ∙ c.if-is_zero.true))

pub returns-then-is_zero-clause-tells : goal.returns-then-is_zero-clause-tells
returns-then-is_zero-clause-tells g c = λ told s holds read.
    let zeros = sym c.is_zero.ensures ∙ c.if-is_zero.true in
    let i = c.self.inside in
    let typed : IsStore c.args.self.now.store = subst (λ (v : StoreOf g.row.F.Denot). IsStore v.store) c.self.view_is (c.self.invariant.7 (ap (λ (v : StoreOf g.row.F.Denot). v.store.is_up) c.self.view_is ∙ c.requires.call.up)) in
    c.join.ensures.tells told s holds c.args.block.now
    (carries_zeros (g.F.Fingerprint.printed c.args.self.now.print) c.args.self.now.store (g.R.Rig.world c.args.rig.now) s holds c.args.address c.requires.below c.args.block.now c.args.dirty c.requires.long read zeros)
    (kind_at_hand (g.F.Fingerprint.printed c.args.self.now.print) c.args.self.now.store (g.R.Rig.world c.args.rig.now) s typed holds c.args.address c.args.block.now c.args.dirty c.requires.anew read (ap (λ b. b || is_known c.args.block.now s.blocks) zeros))

pub join-requires-in-Some-clause-record : goal.join-requires-in-Some-clause-record
join-requires-in-Some-clause-record g c =
    let i = c.self.inside in
    let was : StoreView = store_of i.up i.journal (g.L.Lists.listing i.lists) i.count i.pending.items i.slots.uses i.laid.items in
    let is : IsStore was = c.self.invariant.7 (ap (λ (v : StoreOf g.row.F.Denot). v.store.is_up) c.self.view_is ∙ c.requires.call.up) in
    let old_is : IsStore c.args.self.now.store = subst (λ (v : StoreOf g.row.F.Denot). IsStore v.store) c.self.view_is is in
    let is_given = subst (λ o. IfSome o (λ slot. IsGiven (listing_in c.args.self.now.store) (Known slot))) c.in-Some.is c.in-Ok.ensures.listed in (
      subst (λ (v : StoreView). c.args.address < v.journal.geo.blocks) (sym c.find_block.ensures.store) c.requires.below,
      subst (λ (v : StoreView). c.in-Some.slot < slot_count v.journal.geo) (sym c.find_block.ensures.store) (given_below c.args.self.now.store.journal.geo c.in-Some.slot c.args.self.now.store.table.b old_is.rows.b_rows is_given),
    )

pub returns-in-Err-clause-serves : goal.returns-in-Err-clause-serves
returns-in-Err-clause-serves g c = λ told basis was s kept read.
    let print = g.F.Fingerprint.printed c.args.self.now.print in
    serves_failed basis Done print c.in-Err.fault (inl c.in-Err.ensures.fault) (g.R.Rig.clock c.args.rig.now) (g.R.Rig.clock c.find_block.new.rig) c.find_block.new.self.store (g.R.Rig.world c.find_block.new.rig) was s _ (c.find_block.ensures.time told)
    (kept_behind basis print c.args.self.now.store c.find_block.new.self.store (g.R.Rig.world c.args.rig.now) (g.R.Rig.world c.find_block.new.rig) was s c.find_block.ensures.store (c.find_block.ensures.world told) kept)

pub returns-in-None-clause-serves : goal.returns-in-None-clause-serves
returns-in-None-clause-serves g c = λ told basis was s kept read.
    let print = g.F.Fingerprint.printed c.args.self.now.print in
    let first = g.R.Rig.clock c.args.rig.now in
    let second = g.R.Rig.clock c.find_block.new.rig in
    let before = g.R.Rig.world c.args.rig.now in
    let middle = g.R.Rig.world c.find_block.new.rig in
    let held : Kept basis print c.find_block.new.self.store middle was s = kept_behind basis print c.args.self.now.store c.find_block.new.self.store before middle was s c.find_block.ensures.store (c.find_block.ensures.world told) kept in
    let held_too = subst (λ f. Kept basis (g.F.Fingerprint.printed f) c.find_block.new.self.store middle was s) (sym c.find_block.ensures.print) held in
    let fp_is : c.print-fp.result ≡ g.F.Fingerprint.printed c.args.self.now.print c.args.block.now = c.print-fp.ensures ∙ ap (λ (v : StoreOf g.row.F.Denot). g.F.Fingerprint.printed v.print c.args.block.now) c.self.view_is in
    let printed : c.print-fp.result ≡ g.F.Fingerprint.printed c.find_block.new.self.print c.args.block.now = fp_is ∙ ap (λ f. g.F.Fingerprint.printed f c.args.block.now) (sym c.find_block.ensures.print) in
    let some : is_zero_block c.args.block.now ≡ false = sym c.is_zero.ensures ∙ c.if-is_zero.false in
    let found = subst (FoundAs c.args.self.now.store.journal.geo before.flash.shown s c.args.block.now) c.in-None.is (c.in-Ok.ensures.found told print s kept.holds fp_is) in
    subst (λ (v : StoreView). Serves basis print c.enter.result first (g.R.Rig.clock c.enter.new.rig) c.enter.new.self.store (g.R.Rig.world c.enter.new.rig) was s (reference (sizes_of v.journal.geo) s c.args.address c.args.block.now)) c.find_block.ensures.store
    (serves_behind basis print c.enter.result (c.find_block.ensures.time told)
    (subst (λ f. Serves basis (g.F.Fingerprint.printed f) c.enter.result second (g.R.Rig.clock c.enter.new.rig) c.enter.new.self.store (g.R.Rig.world c.enter.new.rig) was s (reference (sizes_of c.find_block.new.self.store.journal.geo) s c.args.address c.args.block.now)) c.find_block.ensures.print
    (c.enter.ensures.serves told basis was s held_too printed some found read)))

pub returns-in-None-clause-tells : goal.returns-in-None-clause-tells
returns-in-None-clause-tells g c = λ told s holds read.
    let print = g.F.Fingerprint.printed c.args.self.now.print in
    let before = g.R.Rig.world c.args.rig.now in
    let middle = g.R.Rig.world c.find_block.new.rig in
    let held : Holds print c.find_block.new.self.store middle s = holds_behind print c.args.self.now.store c.find_block.new.self.store before middle s c.find_block.ensures.store (c.find_block.ensures.world told) holds in
    let held_too = subst (λ f. Holds (g.F.Fingerprint.printed f) c.find_block.new.self.store middle s) (sym c.find_block.ensures.print) held in
    let fp_is : c.print-fp.result ≡ g.F.Fingerprint.printed c.args.self.now.print c.args.block.now = c.print-fp.ensures ∙ ap (λ (v : StoreOf g.row.F.Denot). g.F.Fingerprint.printed v.print c.args.block.now) c.self.view_is in
    let printed : c.print-fp.result ≡ g.F.Fingerprint.printed c.find_block.new.self.print c.args.block.now = fp_is ∙ ap (λ f. g.F.Fingerprint.printed f c.args.block.now) (sym c.find_block.ensures.print) in
    let some : is_zero_block c.args.block.now ≡ false = sym c.is_zero.ensures ∙ c.if-is_zero.false in
    let found = subst (FoundAs c.args.self.now.store.journal.geo before.flash.shown s c.args.block.now) c.in-None.is (c.in-Ok.ensures.found told print s holds fp_is) in
    subst (λ (v : StoreView). IfOk c.enter.result (λ done. Tells print done (answer_for c.args.dirty (sizes_of v.journal.geo) s c.args.address c.args.block.now))) c.find_block.ensures.store
    (subst (λ f. IfOk c.enter.result (λ done. Tells (g.F.Fingerprint.printed f) done (answer_for c.args.dirty (sizes_of c.find_block.new.self.store.journal.geo) s c.args.address c.args.block.now))) c.find_block.ensures.print
    (c.enter.ensures.tells told s held_too printed some found read))

pub returns-in-None-clause-rows : goal.returns-in-None-clause-rows
returns-in-None-clause-rows g c = record {
  made = references_behind c.args.address c.args.dirty c.args.self.now.store c.find_block.new.self.store c.enter.new.self.store c.find_block.ensures.store c.enter.result c.enter.ensures.rows.made;
  failed = search rules;
  grows = search rules;
}

pub returns-in-None-clause-little : goal.returns-in-None-clause-little
returns-in-None-clause-little g c = little_fresh c.args.address (candidates (g.F.Fingerprint.printed c.args.self.now.print c.args.block.now) c.args.self.now.store.table.b) c.args.dirty c.args.self.now.store c.find_block.new.self.store c.find_block.ensures.store
    (g.R.Rig.counts c.args.rig.now) (g.R.Rig.counts c.find_block.new.rig) (g.R.Rig.counts c.enter.new.rig)
    (subst (λ fp. Makes (up_to (candidates fp c.args.self.now.store.table.b) 0 0) nothing (g.R.Rig.counts c.args.rig.now) (g.R.Rig.counts c.find_block.new.rig)) (c.print-fp.ensures ∙ ap (λ (v : StoreOf g.row.F.Denot). g.F.Fingerprint.printed v.print c.args.block.now) c.self.view_is) c.find_block.ensures.calls)
    c.enter.result c.enter.ensures.kind c.enter.ensures.at_once

pub returns-in-None-clause-disk : goal.returns-in-None-clause-disk
returns-in-None-clause-disk g c = disk_fresh c.args.address (candidates c.print-fp.result c.args.self.now.store.table.b) c.args.dirty c.args.self.now.store c.find_block.new.self.store c.find_block.ensures.store
    (g.R.Rig.counts c.args.rig.now) (g.R.Rig.counts c.find_block.new.rig) (g.R.Rig.counts c.enter.new.rig) c.find_block.ensures.calls c.enter.result c.enter.ensures.kind c.enter.ensures.disk

pub returns-in-Some-clause-serves : goal.returns-in-Some-clause-serves
returns-in-Some-clause-serves g c = λ told basis was s kept read.
    let print = g.F.Fingerprint.printed c.args.self.now.print in
    let first = g.R.Rig.clock c.args.rig.now in
    let second = g.R.Rig.clock c.find_block.new.rig in
    let before = g.R.Rig.world c.args.rig.now in
    let middle = g.R.Rig.world c.find_block.new.rig in
    let held : Kept basis print c.find_block.new.self.store middle was s = kept_behind basis print c.args.self.now.store c.find_block.new.self.store before middle was s c.find_block.ensures.store (c.find_block.ensures.world told) kept in
    let held_too = subst (λ f. Kept basis (g.F.Fingerprint.printed f) c.find_block.new.self.store middle was s) (sym c.find_block.ensures.print) held in
    let fp_is : c.print-fp.result ≡ g.F.Fingerprint.printed c.args.self.now.print c.args.block.now = c.print-fp.ensures ∙ ap (λ (v : StoreOf g.row.F.Denot). g.F.Fingerprint.printed v.print c.args.block.now) c.self.view_is in
    let printed : c.print-fp.result ≡ g.F.Fingerprint.printed c.find_block.new.self.print c.args.block.now = fp_is ∙ ap (λ f. g.F.Fingerprint.printed f c.args.block.now) (sym c.find_block.ensures.print) in
    let some : is_zero_block c.args.block.now ≡ false = sym c.is_zero.ensures ∙ c.if-is_zero.false in
    let found = subst (FoundAs c.args.self.now.store.journal.geo before.flash.shown s c.args.block.now) c.in-Some.is (c.in-Ok.ensures.found told print s kept.holds fp_is) in
    let slot_holds = subst (λ (v : StoreView). slot_block v.journal.geo middle.flash.shown c.in-Some.slot ≡ c.args.block.now) (sym c.find_block.ensures.store) (ap (λ (w : World). slot_block c.args.self.now.store.journal.geo w.flash.shown c.in-Some.slot) (c.find_block.ensures.world told) ∙ found.1) in
    let below = subst (λ (v : StoreView). c.args.address < v.journal.geo.blocks) (sym c.find_block.ensures.store) c.requires.below in
    let long = subst (λ (v : StoreView). length c.args.block.now ≡ v.journal.geo.block) (sym c.find_block.ensures.store) c.requires.long in
    let is_given = subst (λ (v : StoreView). IsGiven (listing_in v) (Known c.in-Some.slot)) (sym c.find_block.ensures.store) (subst (λ o. IfSome o (λ slot. IsGiven (listing_in c.args.self.now.store) (Known slot))) c.in-Some.is c.in-Ok.ensures.listed) in
    let carries = carries_listed (g.F.Fingerprint.printed c.find_block.new.self.print) c.find_block.new.self.store middle s held_too.holds c.args.address below c.args.block.now c.args.dirty long read c.in-Some.slot is_given slot_holds in
    subst (λ (v : StoreView). Serves basis print c.join-in-Some.result first (g.R.Rig.clock c.join-in-Some.new.rig) c.join-in-Some.new.self.store (g.R.Rig.world c.join-in-Some.new.rig) was s (reference (sizes_of v.journal.geo) s c.args.address c.args.block.now)) c.find_block.ensures.store
    (serves_behind basis print c.join-in-Some.result (c.find_block.ensures.time told)
    (subst (λ f. Serves basis (g.F.Fingerprint.printed f) c.join-in-Some.result second (g.R.Rig.clock c.join-in-Some.new.rig) c.join-in-Some.new.self.store (g.R.Rig.world c.join-in-Some.new.rig) was s (reference (sizes_of c.find_block.new.self.store.journal.geo) s c.args.address c.args.block.now)) c.find_block.ensures.print
    (c.join-in-Some.ensures.serves told basis was s held_too c.args.block.now carries)))

pub returns-in-Some-clause-tells : goal.returns-in-Some-clause-tells
returns-in-Some-clause-tells g c = λ told s holds read.
    let print = g.F.Fingerprint.printed c.args.self.now.print in
    let before = g.R.Rig.world c.args.rig.now in
    let middle = g.R.Rig.world c.find_block.new.rig in
    let held : Holds print c.find_block.new.self.store middle s = holds_behind print c.args.self.now.store c.find_block.new.self.store before middle s c.find_block.ensures.store (c.find_block.ensures.world told) holds in
    let held_too = subst (λ f. Holds (g.F.Fingerprint.printed f) c.find_block.new.self.store middle s) (sym c.find_block.ensures.print) held in
    let fp_is : c.print-fp.result ≡ g.F.Fingerprint.printed c.args.self.now.print c.args.block.now = c.print-fp.ensures ∙ ap (λ (v : StoreOf g.row.F.Denot). g.F.Fingerprint.printed v.print c.args.block.now) c.self.view_is in
    let printed : c.print-fp.result ≡ g.F.Fingerprint.printed c.find_block.new.self.print c.args.block.now = fp_is ∙ ap (λ f. g.F.Fingerprint.printed f c.args.block.now) (sym c.find_block.ensures.print) in
    let some : is_zero_block c.args.block.now ≡ false = sym c.is_zero.ensures ∙ c.if-is_zero.false in
    let found = subst (FoundAs c.args.self.now.store.journal.geo before.flash.shown s c.args.block.now) c.in-Some.is (c.in-Ok.ensures.found told print s holds fp_is) in
    let slot_holds = subst (λ (v : StoreView). slot_block v.journal.geo middle.flash.shown c.in-Some.slot ≡ c.args.block.now) (sym c.find_block.ensures.store) (ap (λ (w : World). slot_block c.args.self.now.store.journal.geo w.flash.shown c.in-Some.slot) (c.find_block.ensures.world told) ∙ found.1) in
    let below = subst (λ (v : StoreView). c.args.address < v.journal.geo.blocks) (sym c.find_block.ensures.store) c.requires.below in
    let long = subst (λ (v : StoreView). length c.args.block.now ≡ v.journal.geo.block) (sym c.find_block.ensures.store) c.requires.long in
    let is_given = subst (λ (v : StoreView). IsGiven (listing_in v) (Known c.in-Some.slot)) (sym c.find_block.ensures.store) (subst (λ o. IfSome o (λ slot. IsGiven (listing_in c.args.self.now.store) (Known slot))) c.in-Some.is c.in-Ok.ensures.listed) in
    let carries = carries_listed (g.F.Fingerprint.printed c.find_block.new.self.print) c.find_block.new.self.store middle s held_too c.args.address below c.args.block.now c.args.dirty long read c.in-Some.slot is_given slot_holds in
    let i = c.self.inside in
    let typed : IsStore c.args.self.now.store = subst (λ (v : StoreOf g.row.F.Denot). IsStore v.store) c.self.view_is (c.self.invariant.7 (ap (λ (v : StoreOf g.row.F.Denot). v.store.is_up) c.self.view_is ∙ c.requires.call.up)) in
    let kind = kind_at_hand print c.args.self.now.store before s typed holds c.args.address c.args.block.now c.args.dirty c.requires.anew read (ap (λ b. b || is_known c.args.block.now s.blocks) some ∙ found.0) in
    subst (λ (v : StoreView). IfOk c.join-in-Some.result (λ done. Tells print done (answer_for c.args.dirty (sizes_of v.journal.geo) s c.args.address c.args.block.now))) c.find_block.ensures.store
    (subst (λ f. IfOk c.join-in-Some.result (λ done. Tells (g.F.Fingerprint.printed f) done (answer_for c.args.dirty (sizes_of c.find_block.new.self.store.journal.geo) s c.args.address c.args.block.now))) c.find_block.ensures.print
    (c.join-in-Some.ensures.tells told s held_too c.args.block.now carries
    (subst (λ (v : StoreView). (if c.args.dirty then Dup else Join) ≡ (answer_for c.args.dirty (sizes_of v.journal.geo) s c.args.address c.args.block.now).kind) (sym c.find_block.ensures.store) kind)))

pub returns-in-Some-clause-rows : goal.returns-in-Some-clause-rows
returns-in-Some-clause-rows g c = record {
  made = references_behind c.args.address c.args.dirty c.args.self.now.store c.find_block.new.self.store c.join-in-Some.new.self.store c.find_block.ensures.store c.join-in-Some.result c.join-in-Some.ensures.rows.made;
  failed = search rules;
  grows = search rules;
}

pub returns-in-Some-clause-little : goal.returns-in-Some-clause-little
returns-in-Some-clause-little g c = little_known c.args.address (candidates (g.F.Fingerprint.printed c.args.self.now.print c.args.block.now) c.args.self.now.store.table.b) c.args.dirty c.args.self.now.store c.find_block.new.self.store c.find_block.ensures.store
    (g.R.Rig.counts c.args.rig.now) (g.R.Rig.counts c.find_block.new.rig) (g.R.Rig.counts c.join-in-Some.new.rig)
    (subst (λ fp. Makes (up_to (candidates fp c.args.self.now.store.table.b) 0 0) nothing (g.R.Rig.counts c.args.rig.now) (g.R.Rig.counts c.find_block.new.rig)) (c.print-fp.ensures ∙ ap (λ (v : StoreOf g.row.F.Denot). g.F.Fingerprint.printed v.print c.args.block.now) c.self.view_is) c.find_block.ensures.calls)
    c.in-Some.slot (λ prepared. ap g.R.Rig.counts (c.join-in-Some.ensures.at_once prepared).1) c.join-in-Some.result c.join-in-Some.ensures.kind

pub returns-then-is_zero-clause-no_hit : goal.returns-then-is_zero-clause-no_hit
returns-then-is_zero-clause-no_hit g c = known_no_hit c.args.dirty c.join.result c.join.ensures.kind

pub returns-in-None-clause-no_hit : goal.returns-in-None-clause-no_hit
returns-in-None-clause-no_hit g c = fresh_no_hit c.args.dirty c.enter.result c.enter.ensures.kind

pub returns-in-Some-clause-no_hit : goal.returns-in-Some-clause-no_hit
returns-in-Some-clause-no_hit g c = known_no_hit c.args.dirty c.join-in-Some.result c.join-in-Some.ensures.kind

pub returns-then-is_zero-clause-holds : goal.returns-then-is_zero-clause-holds
returns-then-is_zero-clause-holds g c = λ told s holds read.
    c.join.ensures.holds told s holds c.args.block.now
    (carries_zeros (g.F.Fingerprint.printed c.args.self.now.print) c.args.self.now.store (g.R.Rig.world c.args.rig.now) s holds c.args.address c.requires.below c.args.block.now c.args.dirty c.requires.long read (sym c.is_zero.ensures ∙ c.if-is_zero.true))

pub returns-in-Err-clause-holds : goal.returns-in-Err-clause-holds
returns-in-Err-clause-holds g c = λ told s holds read.
    let print = g.F.Fingerprint.printed c.args.self.now.print in
    holds_read_failed Done print c.in-Err.fault c.in-Err.ensures.fault s _ c.find_block.new.self.store (g.R.Rig.world c.find_block.new.rig)
    (holds_behind print c.args.self.now.store c.find_block.new.self.store (g.R.Rig.world c.args.rig.now) (g.R.Rig.world c.find_block.new.rig) s c.find_block.ensures.store (c.find_block.ensures.world told) holds)

pub returns-in-None-clause-holds : goal.returns-in-None-clause-holds
returns-in-None-clause-holds g c = λ told s holds read.
    let print = g.F.Fingerprint.printed c.args.self.now.print in
    let before = g.R.Rig.world c.args.rig.now in
    let middle = g.R.Rig.world c.find_block.new.rig in
    let held : Holds print c.find_block.new.self.store middle s = holds_behind print c.args.self.now.store c.find_block.new.self.store before middle s c.find_block.ensures.store (c.find_block.ensures.world told) holds in
    let held_too = subst (λ f. Holds (g.F.Fingerprint.printed f) c.find_block.new.self.store middle s) (sym c.find_block.ensures.print) held in
    let fp_is : c.print-fp.result ≡ g.F.Fingerprint.printed c.args.self.now.print c.args.block.now = c.print-fp.ensures ∙ ap (λ (v : StoreOf g.row.F.Denot). g.F.Fingerprint.printed v.print c.args.block.now) c.self.view_is in
    let printed : c.print-fp.result ≡ g.F.Fingerprint.printed c.find_block.new.self.print c.args.block.now = fp_is ∙ ap (λ f. g.F.Fingerprint.printed f c.args.block.now) (sym c.find_block.ensures.print) in
    let some : is_zero_block c.args.block.now ≡ false = sym c.is_zero.ensures ∙ c.if-is_zero.false in
    let found = subst (FoundAs c.args.self.now.store.journal.geo before.flash.shown s c.args.block.now) c.in-None.is (c.in-Ok.ensures.found told print s holds fp_is) in
    subst (λ (v : StoreView). HoldsThen print c.enter.result s (reference (sizes_of v.journal.geo) s c.args.address c.args.block.now) c.enter.new.self.store (g.R.Rig.world c.enter.new.rig)) c.find_block.ensures.store
    (subst (λ f. HoldsThen (g.F.Fingerprint.printed f) c.enter.result s (reference (sizes_of c.find_block.new.self.store.journal.geo) s c.args.address c.args.block.now) c.enter.new.self.store (g.R.Rig.world c.enter.new.rig)) c.find_block.ensures.print
    (c.enter.ensures.holds told s held_too printed some found read))

pub returns-in-Some-clause-holds : goal.returns-in-Some-clause-holds
returns-in-Some-clause-holds g c = λ told s holds read.
    let print = g.F.Fingerprint.printed c.args.self.now.print in
    let before = g.R.Rig.world c.args.rig.now in
    let middle = g.R.Rig.world c.find_block.new.rig in
    let held : Holds print c.find_block.new.self.store middle s = holds_behind print c.args.self.now.store c.find_block.new.self.store before middle s c.find_block.ensures.store (c.find_block.ensures.world told) holds in
    let held_too = subst (λ f. Holds (g.F.Fingerprint.printed f) c.find_block.new.self.store middle s) (sym c.find_block.ensures.print) held in
    let fp_is : c.print-fp.result ≡ g.F.Fingerprint.printed c.args.self.now.print c.args.block.now = c.print-fp.ensures ∙ ap (λ (v : StoreOf g.row.F.Denot). g.F.Fingerprint.printed v.print c.args.block.now) c.self.view_is in
    let printed : c.print-fp.result ≡ g.F.Fingerprint.printed c.find_block.new.self.print c.args.block.now = fp_is ∙ ap (λ f. g.F.Fingerprint.printed f c.args.block.now) (sym c.find_block.ensures.print) in
    let some : is_zero_block c.args.block.now ≡ false = sym c.is_zero.ensures ∙ c.if-is_zero.false in
    let found = subst (FoundAs c.args.self.now.store.journal.geo before.flash.shown s c.args.block.now) c.in-Some.is (c.in-Ok.ensures.found told print s holds fp_is) in
    let slot_holds = subst (λ (v : StoreView). slot_block v.journal.geo middle.flash.shown c.in-Some.slot ≡ c.args.block.now) (sym c.find_block.ensures.store) (ap (λ (w : World). slot_block c.args.self.now.store.journal.geo w.flash.shown c.in-Some.slot) (c.find_block.ensures.world told) ∙ found.1) in
    let below = subst (λ (v : StoreView). c.args.address < v.journal.geo.blocks) (sym c.find_block.ensures.store) c.requires.below in
    let long = subst (λ (v : StoreView). length c.args.block.now ≡ v.journal.geo.block) (sym c.find_block.ensures.store) c.requires.long in
    let is_given = subst (λ (v : StoreView). IsGiven (listing_in v) (Known c.in-Some.slot)) (sym c.find_block.ensures.store) (subst (λ o. IfSome o (λ slot. IsGiven (listing_in c.args.self.now.store) (Known slot))) c.in-Some.is c.in-Ok.ensures.listed) in
    let carries = carries_listed (g.F.Fingerprint.printed c.find_block.new.self.print) c.find_block.new.self.store middle s held_too c.args.address below c.args.block.now c.args.dirty long read c.in-Some.slot is_given slot_holds in
    subst (λ (v : StoreView). HoldsThen print c.join-in-Some.result s (reference (sizes_of v.journal.geo) s c.args.address c.args.block.now) c.join-in-Some.new.self.store (g.R.Rig.world c.join-in-Some.new.rig)) c.find_block.ensures.store
    (subst (λ f. HoldsThen (g.F.Fingerprint.printed f) c.join-in-Some.result s (reference (sizes_of c.find_block.new.self.store.journal.geo) s c.args.address c.args.block.now) c.join-in-Some.new.self.store (g.R.Rig.world c.join-in-Some.new.rig)) c.find_block.ensures.print
    (c.join-in-Some.ensures.holds told s held_too c.args.block.now carries))

pub returns-then-is_zero-clause-dup_slots : goal.returns-then-is_zero-clause-dup_slots
returns-then-is_zero-clause-dup_slots g c = λ told. for_dup (slots_shown c.args.self.now.store.journal.geo (g.R.Rig.world c.join.new.rig) ≡ slots_shown c.args.self.now.store.journal.geo (g.R.Rig.world c.args.rig.now)) c.join.result (c.join.ensures.slots told)

pub returns-in-None-clause-dup_slots : goal.returns-in-None-clause-dup_slots
returns-in-None-clause-dup_slots g c = λ told. fresh_dup (slots_shown c.args.self.now.store.journal.geo (g.R.Rig.world c.enter.new.rig) ≡ slots_shown c.args.self.now.store.journal.geo (g.R.Rig.world c.args.rig.now)) c.args.dirty c.enter.result c.enter.ensures.kind

pub returns-in-Some-clause-dup_slots : goal.returns-in-Some-clause-dup_slots
returns-in-Some-clause-dup_slots g c = λ told. for_dup (slots_shown c.args.self.now.store.journal.geo (g.R.Rig.world c.join-in-Some.new.rig) ≡ slots_shown c.args.self.now.store.journal.geo (g.R.Rig.world c.args.rig.now)) c.join-in-Some.result
    (subst (λ (v : StoreView). slots_shown v.journal.geo (g.R.Rig.world c.join-in-Some.new.rig) ≡ slots_shown v.journal.geo (g.R.Rig.world c.find_block.new.rig)) c.find_block.ensures.store (c.join-in-Some.ensures.slots told)
    ∙ ap (λ (w : World). slots_shown c.args.self.now.store.journal.geo w) (c.find_block.ensures.world told))

pub returns-then-is_zero-clause-idle_held : goal.returns-then-is_zero-clause-idle_held
returns-then-is_zero-clause-idle_held g c = λ told s holds room.
    let at_hand : is_at_hand c.args.block.now s.blocks ≡ true = ap (λ b. b || is_known c.args.block.now s.blocks) (sym c.is_zero.ensures ∙ c.if-is_zero.true) in
    c.join.ensures.disk (subst (λ (w : Want). HasRoom c.args.address w c.args.self.now.store) (ap (λ b. if b then wants.Zero else wants.Fresh) at_hand) room)

pub returns-in-None-clause-idle_held : goal.returns-in-None-clause-idle_held
returns-in-None-clause-idle_held g c = λ told s holds room.
    let print = g.F.Fingerprint.printed c.args.self.now.print in
    let before = g.R.Rig.world c.args.rig.now in
    let fp_is : c.print-fp.result ≡ g.F.Fingerprint.printed c.args.self.now.print c.args.block.now = c.print-fp.ensures ∙ ap (λ (v : StoreOf g.row.F.Denot). g.F.Fingerprint.printed v.print c.args.block.now) c.self.view_is in
    let some : is_zero_block c.args.block.now ≡ false = sym c.is_zero.ensures ∙ c.if-is_zero.false in
    let found = subst (FoundAs c.args.self.now.store.journal.geo before.flash.shown s c.args.block.now) c.in-None.is (c.in-Ok.ensures.found told print s holds fp_is) in
    let old = c.args.self.now.store in
    let counts = g.R.Rig.counts in
    let away : is_at_hand c.args.block.now s.blocks ≡ false = ap (λ b. b || is_known c.args.block.now s.blocks) some ∙ found in
    let fresh : HasRoom c.args.address wants.Fresh old = subst (λ (w : Want). HasRoom c.args.address w old) (ap (λ b. if b then wants.Zero else wants.Fresh) away) room in
    none_then (counts c.args.rig.now).disk (counts c.find_block.new.rig).disk (counts c.enter.new.rig).disk c.find_block.ensures.calls.1
    (c.enter.ensures.disk (subst (λ (v : StoreView). HasRoom c.args.address wants.Fresh v) (sym c.find_block.ensures.store) (room_fresh old c.args.address fresh)))

pub returns-in-Some-clause-idle_held : goal.returns-in-Some-clause-idle_held
returns-in-Some-clause-idle_held g c = λ told s holds room.
    let print = g.F.Fingerprint.printed c.args.self.now.print in
    let before = g.R.Rig.world c.args.rig.now in
    let fp_is : c.print-fp.result ≡ g.F.Fingerprint.printed c.args.self.now.print c.args.block.now = c.print-fp.ensures ∙ ap (λ (v : StoreOf g.row.F.Denot). g.F.Fingerprint.printed v.print c.args.block.now) c.self.view_is in
    let some : is_zero_block c.args.block.now ≡ false = sym c.is_zero.ensures ∙ c.if-is_zero.false in
    let found = subst (FoundAs c.args.self.now.store.journal.geo before.flash.shown s c.args.block.now) c.in-Some.is (c.in-Ok.ensures.found told print s holds fp_is) in
    let old = c.args.self.now.store in
    let counts = g.R.Rig.counts in
    let at_hand : is_at_hand c.args.block.now s.blocks ≡ true = ap (λ b. b || is_known c.args.block.now s.blocks) some ∙ found.0 in
    let there : HasRoom c.args.address wants.Zero old = subst (λ (w : Want). HasRoom c.args.address w old) (ap (λ b. if b then wants.Zero else wants.Fresh) at_hand) room in
    none_then (counts c.args.rig.now).disk (counts c.find_block.new.rig).disk (counts c.join-in-Some.new.rig).disk c.find_block.ensures.calls.1
    (c.join-in-Some.ensures.disk (subst (λ (v : StoreView). HasRoom c.args.address (wants.Slot c.in-Some.slot) v) (sym c.find_block.ensures.store) (room_known old c.args.address c.in-Some.slot there)))
