-- Where nothing fell off nothing had to be written back.
use Rattle.std.proofs.Common.{◌≡◌, ◌≢◌, ℕ, zero, suc, ◌-◌, ◌==◌, Bool, true, false, List, ◌∷◌, length, refl, sym, ◌∙◌, ap, subst, arith, Some, None, Ok, Err, if◌then◌else◌}
use Rattle.std.specs.Prelude.{Option, Result, IfOk, IfSome, filter, not, slice_get, is_some, is_none, option_map, ◌&&◌, ◌||◌}
use Rattle.std.specs.List.{list_any}
use Rattle.dd_block.specs.declared.print.Fp.{Fp}
use Rattle.dd_rig.specs.Counts.{CalledAtMost, up_to, nothing, count_read}
use Rattle.dd_rig.specs.declared.device.Dev.TheVariants.{Disk}
use Rattle.dd_rig.specs.declared.tallies.Calls.{Calls}
use Rattle.dd_rig.specs.declared.tallies.Counts.{Counts}
use Rattle.dd_record.specs.declared.rec.Rec.{Rec}
use Rattle.dd_record.specs.declared.rec.Rec.TheVariants.{Hit as HitRec, Link as ToSlot, Store, Zero as ToZero, Clean}
use Rattle.dd_record.specs.declared.row.ARow.{ARow}
use Rattle.dd_record.specs.declared.row.BRow.{BRow}
use Rattle.dd_record.specs.declared.row.Link.{Link}
use Rattle.dd_record.specs.declared.row.Link.TheVariants as links
use Rattle.dd_record.specs.Table.{a_row, b_row, is_link, link_at, is_dirty_at}
use Rattle.dd_record.specs.Replay.{Touch, cut_address, cut_block, hit_of, linked_row, touch_of}
use Rattle.dd_model.specs.declared.done.Done.{Done}
use Rattle.dd_model.specs.declared.done.Victims.{Victims}
use Rattle.dd_model.specs.declared.kind.Kind.{Kind}
use Rattle.dd_model.specs.declared.kind.Kind.TheVariants as kind
use Rattle.dd_model.specs.Listing.{last_of_full, refers, victims_of}
use Rattle.dd_model.proofs.Kept.{filter_none}
use Rattle.dd_store.specs.declared.fault.StoreFault.{StoreFault}
use Rattle.dd_store.specs.Bringing.{References, IsCalm, fetches, want_for}
use Rattle.dd_store.specs.Keeping.{StoreView}
use Rattle.dd_store.specs.Referring.{kind_of, listing_in}
use Rattle.dd_store.specs.Rounds.{HasRoom}
use Rattle.dd_store.proofs.Prepared.{same_links}
use Rattle.dd_store.proofs.RoomBehind.{same_victims}

-- where nothing falls off behind one more row the list isn't full
not_full : {Row : Type 0} (cap : ℕ) (row : Row) (rows : List Row) → slice_get (row ∷ rows) cap ≡ None → last_of_full cap rows ≡ None
not_full zero row rows none = absurd (cc none)
not_full (suc n) row rows none = by_test (length rows == suc n)
  where
    by_test : (t : Bool) → (if t then slice_get rows (suc n - 1) else None) ≡ None
    by_test true = let at : suc n - 1 ≡ n = omega arith in ap (slice_get rows) at ∙ none
    by_test false = refl

no_row : (o : Option ARow) → option_map (λ (row : ARow). row.address) o ≡ None → o ≡ None
no_row None none = refl
no_row (Some row) none = absurd (cc none)

-- no address falls off
calm_out : (acap address : ℕ) (touch : Touch) (a : List ARow) → touch.address ≡ address → option_map (λ (row : ARow). row.address) (cut_address acap touch a) ≡ None → (o : Option ARow) → a_row address a ≡ o
    → (if is_some o then None else option_map (λ (row : ARow). row.address) (last_of_full acap a)) ≡ None
calm_out acap address touch a at none (Some row) found = refl
calm_out acap address touch a at none None found =
    let all : filter (λ (row : ARow). not (row.address == touch.address)) a ≡ a = filter_none (λ (row : ARow). row.address) touch.address a (ap (λ n. a_row n a) at ∙ found) in
    ap (option_map (λ (row : ARow). row.address)) (not_full acap (linked_row touch a) a (ap (λ rows. slice_get (linked_row touch a ∷ rows) acap) (sym all) ∙ no_row (cut_address acap touch a) none))

-- no block falls off
block_of : Option Touch → Option BRow
block_of None = None
block_of (Some touch) = touch.block

calm_fresh : (bcap slot : ℕ) (fp : Fp) (b : List BRow) → b_row slot b ≡ None → cut_block bcap (Some (record { slot = slot; fp = fp })) b ≡ None → last_of_full bcap b ≡ None
calm_fresh bcap slot fp b new none =
    let row : BRow = record { slot = slot; fp = fp } in
    let all : filter (λ (other : BRow). not (other.slot == slot)) b ≡ b = filter_none (λ (other : BRow). other.slot) slot b new in
    not_full bcap row b (ap (λ rows. slice_get (row ∷ rows) bcap) (sym all) ∙ none)

-- the record of a block that isn't listed
fresh_touch : (address slot : ℕ) (fp : Fp) (dirty : Bool) (touch : Touch) (b : List BRow) (may : Bool) (o : Option BRow) → b_row slot b ≡ o
    → (if may && is_none o then Some (record { address = address; block = Some (record { slot = slot; fp = fp }); dirty = dirty }) else None) ≡ Some touch
    → (b_row slot b ≡ None) × (touch.block ≡ Some (record { slot = slot; fp = fp }))
unfolding block_of
fresh_touch address slot fp dirty touch b false o found is = absurd (cc is)
fresh_touch address slot fp dirty touch b true (Some row) found is = absurd (cc is)
fresh_touch address slot fp dirty touch b true None found is = (found, sym (ap block_of is))

module _ (middle : StoreView) (touch : Touch) where
  abbrev b : List BRow
  b = middle.table.b

  abbrev bcap : ℕ
  bcap = middle.journal.geo.bcap

  calm_store : (address slot : ℕ) (fp : Fp) (dirty : Bool) → touch_of (Store address slot fp dirty) middle.table ≡ Some touch → cut_block bcap touch.block b ≡ None → last_of_full bcap b ≡ None
  calm_store address slot fp dirty is none =
      let both = fresh_touch address slot fp dirty touch b (dirty || not (is_link (link_at address middle.table.a))) (b_row slot b) refl is in
      calm_fresh bcap slot fp b both.0 (ap (λ o. cut_block bcap o b) (sym both.1) ∙ none)

  calm_drop : (address : ℕ) (its : Rec) → touch_of its middle.table ≡ Some touch → cut_block bcap touch.block b ≡ None → (victims_of address (want_for (kind_of its)) (listing_in middle)).drop ≡ None
  calm_drop address (HitRec n) is none = refl
  calm_drop address (ToSlot n slot true) is none = refl
  calm_drop address (ToSlot n slot false) is none = refl
  calm_drop address (Store n slot fp true) is none = calm_store n slot fp true is none
  calm_drop address (Store n slot fp false) is none = calm_store n slot fp false is none
  calm_drop address (ToZero n true) is none = refl
  calm_drop address (ToZero n false) is none = refl
  calm_drop address (Clean n) is none = refl

-- a reference by which nothing fell off had room
pub room_if_calm : (address : ℕ) (dirty : Bool) (old new : StoreView) (done : Done) → References address dirty old new done → done.cut.out ≡ None → done.cut.drop ≡ None → HasRoom address (want_for done.kind) old
room_if_calm address dirty old new done made out drop = record {
  out = subst (λ (o : Option ℕ). IfSome o (λ at. is_dirty_at at old.table.a ≡ false)) (sym (ap (λ (v : Victims). v.out) same ∙ no_out)) tt;
  drop = subst (λ (o : Option BRow). IfSome o (λ row. list_any (λ other. refers row.slot address other) old.table.a ≡ false)) (sym (ap (λ (v : Victims). v.drop) same ∙ no_drop)) tt;
}
  where
    middle : StoreView
    middle = made.middle

    same : victims_of address (want_for done.kind) (listing_in old) ≡ victims_of address (want_for done.kind) (listing_in made.middle)
    same = sym (same_victims address (want_for done.kind) old made.middle made.cleans)

    no_out : (victims_of address (want_for done.kind) (listing_in made.middle)).out ≡ None
    no_out = calm_out made.middle.journal.geo.acap address made.touch made.middle.table.a made.at (ap (λ (d : Done). d.cut.out) (sym made.tells) ∙ out) (a_row address made.middle.table.a) refl

    no_drop : (victims_of address (want_for done.kind) (listing_in made.middle)).drop ≡ None
    no_drop = ap (λ (d : Done). (victims_of address (want_for d.kind) (listing_in made.middle)).drop) made.tells
        ∙ calm_drop made.middle made.touch address made.its made.fits.touches (ap (λ (d : Done). d.cut.drop) (sym made.tells) ∙ drop)

address_of : ℕ → Option Touch → ℕ
address_of n None = n
address_of n (Some touch) = touch.address

-- a record Hit is of a linked address
hit_address : (n : ℕ) (link : Link) (b : List BRow) (touch : Touch) → hit_of n link b ≡ Some touch → (is_link link ≡ true) × (n ≡ touch.address)
unfolding address_of
hit_address n links.Lost b touch is = absurd (cc is)
hit_address n (links.Slot slot) b touch is = (refl, mapped (b_row slot b) is)
  where
    mapped : (o : Option BRow) → option_map (λ (row : BRow). record { address = n; block = Some row; dirty = false }) o ≡ Some touch → n ≡ touch.address
    mapped None never = absurd (cc never)
    mapped (Some row) here = ap (address_of n) here
hit_address n links.Zero b touch is = (refl, ap (address_of n) is)

hit_record : (its : Rec) (table : _) (touch : Touch) → touch_of its table ≡ Some touch → kind_of its ≡ kind.Hit → is_link (link_at touch.address table.a) ≡ true
hit_record (HitRec n) table touch is hit =
    let both = hit_address n (link_at n table.a) table.b touch is in
    ap (λ m. is_link (link_at m table.a)) (sym both.1) ∙ both.0
hit_record (ToSlot n slot true) table touch is hit = absurd (cc hit)
hit_record (ToSlot n slot false) table touch is hit = absurd (cc hit)
hit_record (Store n slot fp true) table touch is hit = absurd (cc hit)
hit_record (Store n slot fp false) table touch is hit = absurd (cc hit)
hit_record (ToZero n true) table touch is hit = absurd (cc hit)
hit_record (ToZero n false) table touch is hit = absurd (cc hit)
hit_record (Clean n) table touch is hit = absurd (cc is)

-- a hit is of an address that was linked
pub hit_linked : (address : ℕ) (dirty : Bool) (old new : StoreView) (done : Done) → References address dirty old new done → done.kind ≡ kind.Hit → is_link (link_at address old.table.a) ≡ true
hit_linked address dirty old new done made hit =
    ap is_link (sym (same_links old made.middle made.cleans address))
    ∙ ap (λ n. is_link (link_at n made.middle.table.a)) (sym made.at)
    ∙ hit_record made.its made.middle.table made.touch made.fits.touches (ap (λ (d : Done). d.kind) (sym made.tells) ∙ hit)

-- so what is called where there is room is called where nothing fell off
pub calm_by : (address : ℕ) (dirty : Bool) (old new : StoreView) (P : Type 0) (result : Result Done StoreFault) → IfOk result (References address dirty old new) → IfOk result (λ done. HasRoom address (want_for done.kind) old → P)
    → IfOk result (λ done. IsCalm done.cut → P)
calm_by address dirty old new P (Ok done) made roomy = λ calm. roomy (room_if_calm address dirty old new done made calm.0 calm.1)
calm_by address dirty old new P (Err fault) made roomy = tt

fetches_one : (k : Kind) → k ≢ kind.Hit → fetches k ≡ 1
fetches_one kind.Hit never = absurd (never refl)
fetches_one kind.Join never = refl
fetches_one kind.Miss never = refl
fetches_one kind.Dup never = refl
fetches_one kind.New never = refl

-- behind a read of the disk
pub calm_fetched : {T E : Type 0} (before middle after : Counts) (read : Result T E) → middle ≡ count_read Disk read before → (result : Result Done StoreFault) → IfOk result (λ done. done.kind ≢ kind.Hit)
    → IfOk result (λ done. IsCalm done.cut → CalledAtMost nothing middle.disk after.disk) → IfOk result (λ done. IsCalm done.cut → CalledAtMost (up_to (fetches done.kind) 0 0) before.disk after.disk)
calm_fetched before middle after read counted (Ok done) never few = λ calm.
    let one = fetches_one done.kind never in
    let h = subst (λ (c : Counts). CalledAtMost nothing c.disk after.disk) counted (few calm) in (omega (arith, h.0, one), omega (arith, h.1), omega (arith, h.2))
calm_fetched before middle after read counted (Err fault) never few = tt

-- where no disk was called
pub calm_hit : (before after : Calls) → CalledAtMost nothing before after → (result : Result Done StoreFault) → IfOk result (λ done. IsCalm done.cut → CalledAtMost (up_to (fetches done.kind) 0 0) before after)
calm_hit before after none (Ok done) = λ calm. (omega (arith, none.0), omega (arith, none.1), omega (arith, none.2))
calm_hit before after none (Err fault) = tt
