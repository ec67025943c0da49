use Rattle.dd_store.proofs.Holding.{holds_behind, holds_disk_failed, holds_read_failed}
use Rattle.std.proofs.Common.{◌≡◌, ◌<◌, inl, inr, rules, ℕ, List, length, false, Some, refl, sym, ◌∙◌, ap, subst, replicate}
use Rattle.std.specs.Prelude.{IfOk}
use Rattle.dd_block.specs.Geometry.{slot_count}
use Rattle.dd_rig.specs.Counts.{CalledAtMost, Rose, nothing}
use Rattle.dd_rig.specs.declared.tallies.Counts.{Counts}
use Rattle.dd_record.specs.declared.rec.Rec.TheVariants.{Hit}
use Rattle.dd_record.specs.declared.row.Link.TheVariants.{Lost, Slot, Zero}
use Rattle.dd_record.specs.Table.{is_link, link_at, is_dirty_at}
use Rattle.dd_record.specs.Replay.{touch_of}
use Rattle.dd_model.specs.declared.done.Done.{Done}
use Rattle.dd_model.specs.declared.given.Block.TheVariants.{Known}
use Rattle.dd_model.specs.declared.given.Want.TheVariants as wants
use Rattle.dd_model.specs.Confirming.{candidates}
use Rattle.dd_model.specs.Listing.{IsGiven, touch_by}
use Rattle.dd_model.specs.Reference.{reference, read_answer, Tells}
use Rattle.dd_model.specs.State.{content, is_zero_block}
use Rattle.dd_model.proofs.Records.{hit_touch, link_given}
use Rattle.dd_model.proofs.Zeros.{zeros_are, zeros_same}
use Rattle.dd_store.specs.Keeping.{StoreView, IsStore, Kept, Holds}
use Rattle.dd_store.specs.Meaning.{sizes_of}
use Rattle.dd_store.specs.Referring.{listing_in}
use Rattle.dd_store.specs.Serving.{Serves, HoldsThen}
use Rattle.dd_store.proofs.Brought.{kept_behind, serves_behind, serves_failed}
use Rattle.dd_store.proofs.Calm.{calm_by, calm_fetched, calm_hit}
use Rattle.dd_store.proofs.Costs.{references_behind, listed_below, lost_clean, little_read, also}
use Rattle.dd_store.proofs.Hits.{hit_never, hit_rose, hit_zeros}
use Rattle.dd_store.proofs.Located.{content_long, slot_linked, zero_linked, carries_listed, carries_zeros}
use Rattle.dd_store.proofs.Prepared.{room_hit}
use Rattle.dd_store.proofs.Telling.{kind_hit}
use Rattle.dd_store.proofs.store.Store.read.Goals as goal

pub read_slot-requires-clause-below : goal.read_slot-requires-clause-below
read_slot-requires-clause-below g c =
    let lists = listing_in c.args.self.now.store in
    let linked : link_at c.args.address c.args.self.now.store.table.a ≡ Slot c.in-Slot.slot = sym c.link.ensures.link ∙ c.in-Slot.is in
    listed_below (slot_count c.args.self.now.store.journal.geo) c.in-Slot.slot c.args.self.now.store.table.b c.link.ensures.listing.b_slots (link_given lists c.args.address c.in-Slot.slot c.link.ensures.listing linked)

pub join-requires-clause-given : goal.join-requires-clause-given
join-requires-clause-given g c =
    let linked : link_at c.args.address c.args.self.now.store.table.a ≡ Slot c.in-Slot.slot = sym c.link.ensures.link ∙ c.in-Slot.is in
    subst (λ (v : StoreView). IsGiven (listing_in v) (Known c.in-Slot.slot)) (sym c.read_slot.ensures.store) (link_given (listing_in c.args.self.now.store) c.args.address c.in-Slot.slot c.link.ensures.listing linked)

pub join-requires-clause-touches : goal.join-requires-clause-touches
join-requires-clause-touches g c =
    let linked : link_at c.args.address c.args.self.now.store.table.a ≡ Slot c.in-Slot.slot = sym c.link.ensures.link ∙ c.in-Slot.is in
    subst (λ (v : StoreView). touch_of (Hit c.args.address) v.table ≡ Some (touch_by c.args.address (Known c.in-Slot.slot) false (listing_in v))) (sym c.read_slot.ensures.store)
    (hit_touch (listing_in c.args.self.now.store) c.args.address c.in-Slot.slot c.link.ensures.listing linked)

pub returns-in-Err-clause-serves : goal.returns-in-Err-clause-serves
returns-in-Err-clause-serves g c = λ told basis was s kept.
    let print = g.F.Fingerprint.printed c.args.self.now.print in
    serves_failed basis Done print c.in-Err.fault (inr c.in-Err.ensures.fault) (g.R.Rig.clock c.args.rig.now) (g.R.Rig.clock c.read_disk.new.rig) c.read_disk.new.self.store (g.R.Rig.world c.read_disk.new.rig) was s _ (c.read_disk.ensures.time told)
    (kept_behind basis print c.args.self.now.store c.read_disk.new.self.store (g.R.Rig.world c.args.rig.now) (g.R.Rig.world c.read_disk.new.rig) was s c.read_disk.ensures.store (c.read_disk.ensures.world told) kept)

pub returns-in-Err-read_slot-clause-serves : goal.returns-in-Err-read_slot-clause-serves
returns-in-Err-read_slot-clause-serves g c = λ told basis was s kept.
    let print = g.F.Fingerprint.printed c.args.self.now.print in
    serves_failed basis Done print c.in-Err-read_slot.fault (inl c.in-Err-read_slot.ensures.fault) (g.R.Rig.clock c.args.rig.now) (g.R.Rig.clock c.read_slot.new.rig) c.read_slot.new.self.store (g.R.Rig.world c.read_slot.new.rig) was s _ (c.read_slot.ensures.time told)
    (kept_behind basis print c.args.self.now.store c.read_slot.new.self.store (g.R.Rig.world c.args.rig.now) (g.R.Rig.world c.read_slot.new.rig) was s c.read_slot.ensures.store (c.read_slot.ensures.world told) kept)

pub returns-in-Ok-clause-serves : goal.returns-in-Ok-clause-serves
returns-in-Ok-clause-serves g c = λ told basis was s kept.
    let print = g.F.Fingerprint.printed c.args.self.now.print in
    let first = g.R.Rig.clock c.args.rig.now in
    let second = g.R.Rig.clock c.read_disk.new.rig in
    let before = g.R.Rig.world c.args.rig.now in
    let middle = g.R.Rig.world c.read_disk.new.rig in
    let held : Kept basis print c.read_disk.new.self.store middle was s = kept_behind basis print c.args.self.now.store c.read_disk.new.self.store before middle was s c.read_disk.ensures.store (c.read_disk.ensures.world told) kept in
    let held_too = subst (λ f. Kept basis (g.F.Fingerprint.printed f) c.read_disk.new.self.store middle was s) (sym c.read_disk.ensures.print) held in
    let lost : link_at c.args.address c.args.self.now.store.table.a ≡ Lost = sym c.link.ensures.link ∙ c.in-Lost.is in
    let clean : is_dirty_at c.args.address c.args.self.now.store.table.a ≡ false = lost_clean c.args.address c.args.self.now.store.table.a c.link.ensures.listing.linked lost in
    let has : c.read_disk.new.into ≡ content s.array c.args.address = c.in-Ok.ensures.shows told ∙ sym (kept.holds.means.clean c.args.address c.requires.below clean) in
    subst (λ (v : StoreView). Serves basis print c.bring.result first (g.R.Rig.clock c.bring.new.rig) c.bring.new.self.store (g.R.Rig.world c.bring.new.rig) was s (reference (sizes_of v.journal.geo) s c.args.address (content s.array c.args.address))) c.read_disk.ensures.store
    (serves_behind basis print c.bring.result (c.read_disk.ensures.time told)
    (subst (λ f. Serves basis (g.F.Fingerprint.printed f) c.bring.result second (g.R.Rig.clock c.bring.new.rig) c.bring.new.self.store (g.R.Rig.world c.bring.new.rig) was s (reference (sizes_of c.read_disk.new.self.store.journal.geo) s c.args.address (content s.array c.args.address))) c.read_disk.ensures.print
    (subst (λ (x : List ℕ). Serves basis (g.F.Fingerprint.printed c.read_disk.new.self.print) c.bring.result second (g.R.Rig.clock c.bring.new.rig) c.bring.new.self.store (g.R.Rig.world c.bring.new.rig) was s (reference (sizes_of c.read_disk.new.self.store.journal.geo) s c.args.address x)) has
    (c.bring.ensures.serves told basis was s held_too (λ clean_read. has)))))

pub returns-in-Ok-read_slot-clause-serves : goal.returns-in-Ok-read_slot-clause-serves
returns-in-Ok-read_slot-clause-serves g c = λ told basis was s kept.
    let print = g.F.Fingerprint.printed c.args.self.now.print in
    let first = g.R.Rig.clock c.args.rig.now in
    let second = g.R.Rig.clock c.read_slot.new.rig in
    let before = g.R.Rig.world c.args.rig.now in
    let middle = g.R.Rig.world c.read_slot.new.rig in
    let held : Kept basis print c.read_slot.new.self.store middle was s = kept_behind basis print c.args.self.now.store c.read_slot.new.self.store before middle was s c.read_slot.ensures.store (c.read_slot.ensures.world told) kept in
    let held_too = subst (λ f. Kept basis (g.F.Fingerprint.printed f) c.read_slot.new.self.store middle was s) (sym c.read_slot.ensures.print) held in
    let linked : link_at c.args.address c.args.self.now.store.table.a ≡ Slot c.in-Slot.slot = sym c.link.ensures.link ∙ c.in-Slot.is in
    let has : c.read_slot.new.into ≡ content s.array c.args.address = c.in-Ok-read_slot.ensures.shows told ∙ slot_linked print c.args.self.now.store before s kept.holds c.args.address c.requires.below c.in-Slot.slot linked in
    let below = subst (λ (v : StoreView). c.args.address < v.journal.geo.blocks) (sym c.read_slot.ensures.store) c.requires.below in
    let still = subst (λ (v : StoreView). link_at c.args.address v.table.a ≡ Slot c.in-Slot.slot) (sym c.read_slot.ensures.store) linked in
    let is_given = subst (λ (v : StoreView). IsGiven (listing_in v) (Known c.in-Slot.slot)) (sym c.read_slot.ensures.store) (link_given (listing_in c.args.self.now.store) c.args.address c.in-Slot.slot c.link.ensures.listing linked) in
    let printed = g.F.Fingerprint.printed c.read_slot.new.self.print in
    let carries = carries_listed printed c.read_slot.new.self.store middle s held_too.holds c.args.address below (content s.array c.args.address) false (content_long printed c.read_slot.new.self.store middle s held_too.holds c.args.address below) (λ clean_read. refl)
    c.in-Slot.slot is_given (slot_linked printed c.read_slot.new.self.store middle s held_too.holds c.args.address below c.in-Slot.slot still) in
    subst (λ (v : StoreView). Serves basis print c.join.result first (g.R.Rig.clock c.join.new.rig) c.join.new.self.store (g.R.Rig.world c.join.new.rig) was s (reference (sizes_of v.journal.geo) s c.args.address (content s.array c.args.address))) c.read_slot.ensures.store
    (serves_behind basis print c.join.result (c.read_slot.ensures.time told)
    (subst (λ f. Serves basis (g.F.Fingerprint.printed f) c.join.result second (g.R.Rig.clock c.join.new.rig) c.join.new.self.store (g.R.Rig.world c.join.new.rig) was s (reference (sizes_of c.read_slot.new.self.store.journal.geo) s c.args.address (content s.array c.args.address))) c.read_slot.ensures.print
    (c.join.ensures.serves told basis was s held_too (content s.array c.args.address) carries)))

pub returns-in-Zero-clause-serves : goal.returns-in-Zero-clause-serves
returns-in-Zero-clause-serves g c = λ told basis was s kept.
    let print = g.F.Fingerprint.printed c.args.self.now.print in
    let before = g.R.Rig.world c.args.rig.now in
    let linked : link_at c.args.address c.args.self.now.store.table.a ≡ Zero = sym c.link.ensures.link ∙ c.in-Zero.is in
    let zeros = zero_linked print c.args.self.now.store before s kept.holds c.args.address c.requires.below linked in
    let long = content_long print c.args.self.now.store before s kept.holds c.args.address c.requires.below in
    let carries = carries_zeros print c.args.self.now.store before s kept.holds c.args.address c.requires.below (content s.array c.args.address) false long (λ clean_read. refl) zeros in
    c.join-in-Zero.ensures.serves told basis was s kept (content s.array c.args.address) carries

pub returns-in-Err-clause-holds : goal.returns-in-Err-clause-holds
returns-in-Err-clause-holds g c = λ told s holds.
    let print = g.F.Fingerprint.printed c.args.self.now.print in
    holds_disk_failed Done print c.in-Err.fault c.in-Err.ensures.fault s _ c.read_disk.new.self.store (g.R.Rig.world c.read_disk.new.rig)
    (holds_behind print c.args.self.now.store c.read_disk.new.self.store (g.R.Rig.world c.args.rig.now) (g.R.Rig.world c.read_disk.new.rig) s c.read_disk.ensures.store (c.read_disk.ensures.world told) holds)

pub returns-in-Err-read_slot-clause-holds : goal.returns-in-Err-read_slot-clause-holds
returns-in-Err-read_slot-clause-holds g c = λ told s holds.
    let print = g.F.Fingerprint.printed c.args.self.now.print in
    holds_read_failed Done print c.in-Err-read_slot.fault c.in-Err-read_slot.ensures.fault s _ c.read_slot.new.self.store (g.R.Rig.world c.read_slot.new.rig)
    (holds_behind print c.args.self.now.store c.read_slot.new.self.store (g.R.Rig.world c.args.rig.now) (g.R.Rig.world c.read_slot.new.rig) s c.read_slot.ensures.store (c.read_slot.ensures.world told) holds)

pub returns-in-Ok-read_slot-clause-holds : goal.returns-in-Ok-read_slot-clause-holds
returns-in-Ok-read_slot-clause-holds g c = λ told s holds.
    let print = g.F.Fingerprint.printed c.args.self.now.print in
    let before = g.R.Rig.world c.args.rig.now in
    let middle = g.R.Rig.world c.read_slot.new.rig in
    let held : Holds print c.read_slot.new.self.store middle s = holds_behind print c.args.self.now.store c.read_slot.new.self.store before middle s c.read_slot.ensures.store (c.read_slot.ensures.world told) holds in
    let held_too = subst (λ f. Holds (g.F.Fingerprint.printed f) c.read_slot.new.self.store middle s) (sym c.read_slot.ensures.print) held in
    let linked : link_at c.args.address c.args.self.now.store.table.a ≡ Slot c.in-Slot.slot = sym c.link.ensures.link ∙ c.in-Slot.is in
    let has : c.read_slot.new.into ≡ content s.array c.args.address = c.in-Ok-read_slot.ensures.shows told ∙ slot_linked print c.args.self.now.store before s holds c.args.address c.requires.below c.in-Slot.slot linked in
    let below = subst (λ (v : StoreView). c.args.address < v.journal.geo.blocks) (sym c.read_slot.ensures.store) c.requires.below in
    let still = subst (λ (v : StoreView). link_at c.args.address v.table.a ≡ Slot c.in-Slot.slot) (sym c.read_slot.ensures.store) linked in
    let is_given = subst (λ (v : StoreView). IsGiven (listing_in v) (Known c.in-Slot.slot)) (sym c.read_slot.ensures.store) (link_given (listing_in c.args.self.now.store) c.args.address c.in-Slot.slot c.link.ensures.listing linked) in
    let printed = g.F.Fingerprint.printed c.read_slot.new.self.print in
    let carries = carries_listed printed c.read_slot.new.self.store middle s held_too c.args.address below (content s.array c.args.address) false (content_long printed c.read_slot.new.self.store middle s held_too c.args.address below) (λ clean_read. refl)
    c.in-Slot.slot is_given (slot_linked printed c.read_slot.new.self.store middle s held_too c.args.address below c.in-Slot.slot still) in
    subst (λ (v : StoreView). HoldsThen print c.join.result s (reference (sizes_of v.journal.geo) s c.args.address (content s.array c.args.address)) c.join.new.self.store (g.R.Rig.world c.join.new.rig)) c.read_slot.ensures.store
    (subst (λ f. HoldsThen (g.F.Fingerprint.printed f) c.join.result s (reference (sizes_of c.read_slot.new.self.store.journal.geo) s c.args.address (content s.array c.args.address)) c.join.new.self.store (g.R.Rig.world c.join.new.rig)) c.read_slot.ensures.print
    (c.join.ensures.holds told s held_too (content s.array c.args.address) carries))

pub returns-in-Zero-clause-holds : goal.returns-in-Zero-clause-holds
returns-in-Zero-clause-holds g c = λ told s holds.
    let print = g.F.Fingerprint.printed c.args.self.now.print in
    let before = g.R.Rig.world c.args.rig.now in
    let linked : link_at c.args.address c.args.self.now.store.table.a ≡ Zero = sym c.link.ensures.link ∙ c.in-Zero.is in
    let zeros = zero_linked print c.args.self.now.store before s holds c.args.address c.requires.below linked in
    let long = content_long print c.args.self.now.store before s holds c.args.address c.requires.below in
    let carries = carries_zeros print c.args.self.now.store before s holds c.args.address c.requires.below (content s.array c.args.address) false long (λ clean_read. refl) zeros in
    c.join-in-Zero.ensures.holds told s holds (content s.array c.args.address) carries

pub returns-in-Ok-clause-holds : goal.returns-in-Ok-clause-holds
returns-in-Ok-clause-holds g c = λ told s holds.
    let print = g.F.Fingerprint.printed c.args.self.now.print in
    let before = g.R.Rig.world c.args.rig.now in
    let middle = g.R.Rig.world c.read_disk.new.rig in
    let held : Holds print c.read_disk.new.self.store middle s = holds_behind print c.args.self.now.store c.read_disk.new.self.store before middle s c.read_disk.ensures.store (c.read_disk.ensures.world told) holds in
    let held_too = subst (λ f. Holds (g.F.Fingerprint.printed f) c.read_disk.new.self.store middle s) (sym c.read_disk.ensures.print) held in
    let lost : link_at c.args.address c.args.self.now.store.table.a ≡ Lost = sym c.link.ensures.link ∙ c.in-Lost.is in
    let clean : is_dirty_at c.args.address c.args.self.now.store.table.a ≡ false = lost_clean c.args.address c.args.self.now.store.table.a c.link.ensures.listing.linked lost in
    let has : c.read_disk.new.into ≡ content s.array c.args.address = c.in-Ok.ensures.shows told ∙ sym (holds.means.clean c.args.address c.requires.below clean) in
    subst (λ (v : StoreView). HoldsThen print c.bring.result s (reference (sizes_of v.journal.geo) s c.args.address (content s.array c.args.address)) c.bring.new.self.store (g.R.Rig.world c.bring.new.rig)) c.read_disk.ensures.store
    (subst (λ f. HoldsThen (g.F.Fingerprint.printed f) c.bring.result s (reference (sizes_of c.read_disk.new.self.store.journal.geo) s c.args.address (content s.array c.args.address)) c.bring.new.self.store (g.R.Rig.world c.bring.new.rig)) c.read_disk.ensures.print
    (subst (λ (x : List ℕ). HoldsThen (g.F.Fingerprint.printed c.read_disk.new.self.print) c.bring.result s (reference (sizes_of c.read_disk.new.self.store.journal.geo) s c.args.address x) c.bring.new.self.store (g.R.Rig.world c.bring.new.rig)) has
    (c.bring.ensures.holds told s held_too (λ clean_read. has))))

pub returns-in-Ok-clause-tells : goal.returns-in-Ok-clause-tells
returns-in-Ok-clause-tells g c = λ told s holds.
    let print = g.F.Fingerprint.printed c.args.self.now.print in
    let before = g.R.Rig.world c.args.rig.now in
    let middle = g.R.Rig.world c.read_disk.new.rig in
    let held : Holds print c.read_disk.new.self.store middle s = holds_behind print c.args.self.now.store c.read_disk.new.self.store before middle s c.read_disk.ensures.store (c.read_disk.ensures.world told) holds in
    let held_too = subst (λ f. Holds (g.F.Fingerprint.printed f) c.read_disk.new.self.store middle s) (sym c.read_disk.ensures.print) held in
    let lost : link_at c.args.address c.args.self.now.store.table.a ≡ Lost = sym c.link.ensures.link ∙ c.in-Lost.is in
    let clean : is_dirty_at c.args.address c.args.self.now.store.table.a ≡ false = lost_clean c.args.address c.args.self.now.store.table.a c.link.ensures.listing.linked lost in
    let has : c.read_disk.new.into ≡ content s.array c.args.address = c.in-Ok.ensures.shows told ∙ sym (holds.means.clean c.args.address c.requires.below clean) in
    also (c.read_disk.new.into ≡ content s.array c.args.address) (λ done. Tells print done (read_answer (sizes_of c.args.self.now.store.journal.geo) s c.args.address)) c.bring.result has
    (subst (λ (v : StoreView). IfOk c.bring.result (λ done. Tells print done (read_answer (sizes_of v.journal.geo) s c.args.address))) c.read_disk.ensures.store
    (subst (λ f. IfOk c.bring.result (λ done. Tells (g.F.Fingerprint.printed f) done (read_answer (sizes_of c.read_disk.new.self.store.journal.geo) s c.args.address))) c.read_disk.ensures.print
    (c.bring.ensures.tells told s held_too (λ clean_read. has))))

pub returns-in-Ok-read_slot-clause-tells : goal.returns-in-Ok-read_slot-clause-tells
returns-in-Ok-read_slot-clause-tells g c = λ told s holds.
    let print = g.F.Fingerprint.printed c.args.self.now.print in
    let before = g.R.Rig.world c.args.rig.now in
    let middle = g.R.Rig.world c.read_slot.new.rig in
    let held : Holds print c.read_slot.new.self.store middle s = holds_behind print c.args.self.now.store c.read_slot.new.self.store before middle s c.read_slot.ensures.store (c.read_slot.ensures.world told) holds in
    let held_too = subst (λ f. Holds (g.F.Fingerprint.printed f) c.read_slot.new.self.store middle s) (sym c.read_slot.ensures.print) held in
    let linked : link_at c.args.address c.args.self.now.store.table.a ≡ Slot c.in-Slot.slot = sym c.link.ensures.link ∙ c.in-Slot.is in
    let has : c.read_slot.new.into ≡ content s.array c.args.address = c.in-Ok-read_slot.ensures.shows told ∙ slot_linked print c.args.self.now.store before s holds c.args.address c.requires.below c.in-Slot.slot linked in
    let below = subst (λ (v : StoreView). c.args.address < v.journal.geo.blocks) (sym c.read_slot.ensures.store) c.requires.below in
    let still = subst (λ (v : StoreView). link_at c.args.address v.table.a ≡ Slot c.in-Slot.slot) (sym c.read_slot.ensures.store) linked in
    let is_given = subst (λ (v : StoreView). IsGiven (listing_in v) (Known c.in-Slot.slot)) (sym c.read_slot.ensures.store) (link_given (listing_in c.args.self.now.store) c.args.address c.in-Slot.slot c.link.ensures.listing linked) in
    let printed = g.F.Fingerprint.printed c.read_slot.new.self.print in
    let carries = carries_listed printed c.read_slot.new.self.store middle s held_too c.args.address below (content s.array c.args.address) false (content_long printed c.read_slot.new.self.store middle s held_too c.args.address below) (λ clean_read. refl)
    c.in-Slot.slot is_given (slot_linked printed c.read_slot.new.self.store middle s held_too c.args.address below c.in-Slot.slot still) in
    let is : IsStore c.args.self.now.store = c.link.ensures.keeps c.requires.call.up in
    let hit = sym (kind_hit print c.args.self.now.store before s is holds c.args.address (ap is_link linked)) in
    also (c.read_slot.new.into ≡ content s.array c.args.address) (λ done. Tells print done (read_answer (sizes_of c.args.self.now.store.journal.geo) s c.args.address)) c.join.result has
    (subst (λ (v : StoreView). IfOk c.join.result (λ done. Tells print done (read_answer (sizes_of v.journal.geo) s c.args.address))) c.read_slot.ensures.store
    (subst (λ f. IfOk c.join.result (λ done. Tells (g.F.Fingerprint.printed f) done (read_answer (sizes_of c.read_slot.new.self.store.journal.geo) s c.args.address))) c.read_slot.ensures.print
    (c.join.ensures.tells told s held_too (content s.array c.args.address) carries hit)))

pub returns-in-Zero-clause-tells : goal.returns-in-Zero-clause-tells
returns-in-Zero-clause-tells g c = λ told s holds.
    let print = g.F.Fingerprint.printed c.args.self.now.print in
    let before = g.R.Rig.world c.args.rig.now in
    let linked : link_at c.args.address c.args.self.now.store.table.a ≡ Zero = sym c.link.ensures.link ∙ c.in-Zero.is in
    let zeros = zero_linked print c.args.self.now.store before s holds c.args.address c.requires.below linked in
    let long = content_long print c.args.self.now.store before s holds c.args.address c.requires.below in
    let carries = carries_zeros print c.args.self.now.store before s holds c.args.address c.requires.below (content s.array c.args.address) false long (λ clean_read. refl) zeros in
    let is : IsStore c.args.self.now.store = c.link.ensures.keeps c.requires.call.up in
    let hit = sym (kind_hit print c.args.self.now.store before s is holds c.args.address (ap is_link linked)) in
    let filled : c.fill.new.self ≡ replicate (length c.args.into.now) 0 = c.fill.ensures.after (λ y same. same) in
    let has : c.fill.new.self ≡ content s.array c.args.address =
    zeros_same c.fill.new.self (content s.array c.args.address) (ap is_zero_block filled ∙ zeros_are (length c.args.into.now)) zeros (c.fill.ensures.len ∙ c.requires.long ∙ sym long) in
    also (c.fill.new.self ≡ content s.array c.args.address) (λ done. Tells print done (read_answer (sizes_of c.args.self.now.store.journal.geo) s c.args.address)) c.join-in-Zero.result has
    (c.join-in-Zero.ensures.tells told s holds (content s.array c.args.address) carries hit)

pub returns-in-Ok-clause-rows : goal.returns-in-Ok-clause-rows
returns-in-Ok-clause-rows g c = record {
  made = references_behind c.args.address false c.args.self.now.store c.read_disk.new.self.store c.bring.new.self.store c.read_disk.ensures.store c.bring.result c.bring.ensures.rows.made;
  failed = search rules;
  grows = search rules;
}

pub returns-in-Ok-clause-costs : goal.returns-in-Ok-clause-costs
returns-in-Ok-clause-costs g c = record {
  hit = search rules;
  hit_calls = search rules;
  hit_reads = hit_never (Rose (g.R.Rig.counts c.args.rig.now).flash.reads (g.R.Rig.counts c.bring.new.rig).flash.reads) (is_zero_block c.read_disk.new.into ≡ false) c.bring.result c.bring.ensures.no_hit;
  little = little_read c.args.address (candidates (g.F.Fingerprint.printed c.read_disk.new.self.print c.read_disk.new.into) c.read_disk.new.self.store.table.b) (candidates (g.F.Fingerprint.printed c.args.self.now.print c.read_disk.new.into) c.args.self.now.store.table.b)
      c.args.self.now.store c.read_disk.new.self.store c.read_disk.ensures.store
      (ap (λ f. candidates (g.F.Fingerprint.printed f c.read_disk.new.into) c.read_disk.new.self.store.table.b) c.read_disk.ensures.print ∙ ap (λ (v : StoreView). candidates (g.F.Fingerprint.printed c.args.self.now.print c.read_disk.new.into) v.table.b) c.read_disk.ensures.store)
      (g.R.Rig.counts c.args.rig.now) (g.R.Rig.counts c.read_disk.new.rig) (g.R.Rig.counts c.bring.new.rig) c.read_disk.result c.read_disk.ensures.counts (is_link (link_at c.args.address c.args.self.now.store.table.a)) c.bring.result c.bring.ensures.little;
  disk = search rules;
  calm = (let middle = g.R.Rig.counts c.read_disk.new.rig in
      let last = g.R.Rig.counts c.bring.new.rig in
      calm_fetched (g.R.Rig.counts c.args.rig.now) middle last c.read_disk.result c.read_disk.ensures.counts c.bring.result c.bring.ensures.no_hit
      (calm_by c.args.address false c.read_disk.new.self.store c.bring.new.self.store (CalledAtMost nothing middle.disk last.disk) c.bring.result c.bring.ensures.rows.made c.bring.ensures.disk));
  idle = search rules;
  loads = search rules;
}

pub returns-in-Ok-read_slot-clause-rows : goal.returns-in-Ok-read_slot-clause-rows
returns-in-Ok-read_slot-clause-rows g c = record {
  made = references_behind c.args.address false c.args.self.now.store c.read_slot.new.self.store c.join.new.self.store c.read_slot.ensures.store c.join.result c.join.ensures.rows.made;
  failed = search rules;
  grows = search rules;
}

pub returns-in-Ok-read_slot-clause-costs : goal.returns-in-Ok-read_slot-clause-costs
returns-in-Ok-read_slot-clause-costs g c = record {
  hit = search rules;
  hit_calls = search rules;
  hit_reads = hit_rose (is_zero_block c.read_slot.new.into ≡ false) (g.R.Rig.counts c.args.rig.now) (g.R.Rig.counts c.read_slot.new.rig) (g.R.Rig.counts c.join.new.rig) c.read_slot.result c.read_slot.ensures.counts c.join.ensures.fails.1.0.flash.reads c.join.result;
  little = search rules;
  disk = search rules;
  calm = (let linked : link_at c.args.address c.args.self.now.store.table.a ≡ Slot c.in-Slot.slot = sym c.link.ensures.link ∙ c.in-Slot.is in
      let still : link_at c.args.address c.read_slot.new.self.store.table.a ≡ Slot c.in-Slot.slot = ap (λ (v : StoreView). link_at c.args.address v.table.a) c.read_slot.ensures.store ∙ linked in
      let last = g.R.Rig.counts c.join.new.rig in
      let none = c.join.ensures.disk (room_hit c.read_slot.new.self.store c.args.address (wants.Slot c.in-Slot.slot) (ap is_link still) refl) in
      calm_hit (g.R.Rig.counts c.args.rig.now).disk last.disk (subst (λ (m : Counts). CalledAtMost nothing m.disk last.disk) c.read_slot.ensures.counts none) c.join.result);
  idle = search rules;
  loads = search rules;
}

pub returns-in-Zero-clause-costs : goal.returns-in-Zero-clause-costs
returns-in-Zero-clause-costs g c = record {
  hit = search rules;
  hit_calls = search rules;
  hit_reads = (let filled : c.fill.new.self ≡ replicate (length c.args.into.now) 0 = c.fill.ensures.after (λ y same. same) in
      hit_zeros (Rose (g.R.Rig.counts c.args.rig.now).flash.reads (g.R.Rig.counts c.join-in-Zero.new.rig).flash.reads) c.fill.new.self (ap is_zero_block filled ∙ zeros_are (length c.args.into.now)) c.join-in-Zero.result);
  little = search rules;
  disk = search rules;
  calm = (let linked : link_at c.args.address c.args.self.now.store.table.a ≡ Zero = sym c.link.ensures.link ∙ c.in-Zero.is in
      calm_hit (g.R.Rig.counts c.args.rig.now).disk (g.R.Rig.counts c.join-in-Zero.new.rig).disk (c.join-in-Zero.ensures.disk (room_hit c.args.self.now.store c.args.address wants.Zero (ap is_link linked) refl)) c.join-in-Zero.result);
  idle = search rules;
  loads = search rules;
}
