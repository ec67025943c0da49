-- A reference for which room was made: its record fits, also where addresses were made clean since it was looked for.
use Rattle.std.proofs.Common.{◌≡◌, ◌⊎◌, ⊎_elim, inl, inr, ℕ, ◌<◌, ◌==◌, Bool, true, false, cond, List, [], ◌∷◌, refl, sym, ◌∙◌, ap, subst, Some, None}
use Rattle.std.specs.Prelude.{Option, IfSome, option_map, is_some, not, ◌&&◌, ◌||◌, is_none, if◌then◌else◌}
use Rattle.std.specs.List.{list_any}
use Rattle.dd_block.specs.declared.geometry.Geometry.{Geometry}
use Rattle.dd_block.specs.Geometry.{slot_count}
use Rattle.dd_record.specs.declared.row.ARow.{ARow}
use Rattle.dd_record.specs.declared.row.BRow.{BRow}
use Rattle.dd_record.specs.declared.row.Link.TheVariants as links
use Rattle.dd_record.specs.declared.rec.Rec.{Rec}
use Rattle.dd_record.specs.declared.rec.Rec.TheVariants.{Hit, Link as ToSlot, Store, Zero, Clean}
use Rattle.dd_record.specs.Table.{Table, a_row, b_row, is_link, link_of, link_at, is_dirty_at}
use Rattle.dd_record.specs.Replay.{touch_of, hit_of, raises, cleaned}
use Rattle.dd_model.specs.declared.done.Victims.{Victims}
use Rattle.dd_model.specs.declared.given.Block.{Block}
use Rattle.dd_model.specs.declared.given.Block.TheVariants as given
use Rattle.dd_model.specs.declared.given.Want.{Want}
use Rattle.dd_model.specs.Listing.{IsListing, IsGiven, is_fresh, want_of, touch_by, may_refer, last_of_full, victims_of, victims_from, cut_of, refers}
use Rattle.dd_model.proofs.Allowed.{may_touch_now}
use Rattle.dd_model.proofs.Falling.{victims_next}
use Rattle.dd_store.specs.Keeping.{StoreView}
use Rattle.dd_store.specs.Laying.{all_cleaned}
use Rattle.dd_store.specs.Referring.{RecordFits, listing_in}
use Rattle.dd_store.specs.Rounds.{Cleans, HasRoom}

-- an address that is made clean stays linked as it is
link_cleaned : (address n : ℕ) (rows : List ARow) → link_at n (cleaned address rows) ≡ link_at n rows
link_cleaned address n [] = refl
link_cleaned address n (row ∷ rows) = by_test (row.address == address) (link_cleaned address n rows)
  where
    by_test : (t : Bool) → link_at n (cleaned address rows) ≡ link_at n rows → link_of (a_row n (cond t (record row { dirty = false }) row ∷ cleaned address rows)) ≡ link_of (a_row n (row ∷ rows))
    by_test true rest = by_here (row.address == n) rest
      where
        by_here : (t : Bool) → link_at n (cleaned address rows) ≡ link_at n rows → link_of (cond t (Some (record row { dirty = false })) (a_row n (cleaned address rows))) ≡ link_of (cond t (Some row) (a_row n rows))
        by_here true e = refl
        by_here false e = e
    by_test false rest = by_here (row.address == n) rest
      where
        by_here : (t : Bool) → link_at n (cleaned address rows) ≡ link_at n rows → link_of (cond t (Some row) (a_row n (cleaned address rows))) ≡ link_of (cond t (Some row) (a_row n rows))
        by_here true e = refl
        by_here false e = e

pub links_cleaned : (done : List ℕ) (n : ℕ) (rows : List ARow) → link_at n (all_cleaned done rows) ≡ link_at n rows
links_cleaned [] n rows = refl
links_cleaned (address ∷ done) n rows = links_cleaned done n (cleaned address rows) ∙ link_cleaned address n rows

-- so a record references what it did
touch_cleaned : (its : Rec) (done : List ℕ) (table : Table) → touch_of its (record table { a = all_cleaned done table.a }) ≡ touch_of its table
touch_cleaned (Hit address) done table = ap (λ l. hit_of address l table.b) (links_cleaned done address table.a)
touch_cleaned (ToSlot address slot dirty) done table =
    ap (λ l. if dirty || not (is_link l) then option_map (λ row. record { address = address; block = Some row; dirty = dirty }) (b_row slot table.b) else None) (links_cleaned done address table.a)
touch_cleaned (Store address slot fp dirty) done table =
    ap (λ l. if (dirty || not (is_link l)) && is_none (b_row slot table.b) then Some (record { address = address; block = Some (record { slot = slot; fp = fp }); dirty = dirty }) else None) (links_cleaned done address table.a)
touch_cleaned (Zero address dirty) done table =
    ap (λ l. if dirty || not (is_link l) then Some (record { address = address; block = None; dirty = dirty }) else None) (links_cleaned done address table.a)
touch_cleaned (Clean address) done table = refl

-- the same where a store's addresses were made clean
module _ (old now : StoreView) (cleans : Cleans old now) where
  pub same_b : now.table.b ≡ old.table.b
  same_b = ap (λ (t : Table). t.b) cleans.rows

  pub same_links : (n : ℕ) → link_at n now.table.a ≡ link_at n old.table.a
  same_links n = ap (λ (t : Table). link_at n t.a) cleans.rows ∙ links_cleaned cleans.done n old.table.a

  pub same_touch : (address : ℕ) (block : Block) (dirty : Bool) → touch_by address block dirty (listing_in now) ≡ touch_by address block dirty (listing_in old)
  same_touch address block dirty = ap (λ (b : List BRow). touch_by address block dirty (record (listing_in old) { table = record old.table { b = b } })) same_b

  pub touches_still : (its : Rec) (address : ℕ) (block : Block) (dirty : Bool) → touch_of its old.table ≡ Some (touch_by address block dirty (listing_in old))
      → touch_of its now.table ≡ Some (touch_by address block dirty (listing_in now))
  touches_still its address block dirty is = ap (touch_of its) cleans.rows ∙ touch_cleaned its cleans.done old.table ∙ is ∙ ap Some (sym (same_touch address block dirty))

  pub anew_still : (dirty : Bool) (address : ℕ) → (dirty ≡ true) ⊎ (link_at address old.table.a ≡ links.Lost) → (dirty ≡ true) ⊎ (link_at address now.table.a ≡ links.Lost)
  anew_still dirty address anew = ⊎_elim (λ is. inl is) (λ lost. inr (same_links address ∙ lost)) anew

  pub given_still : (block : Block) → IsGiven (listing_in old) block → IsGiven (listing_in now) block
  given_still (given.Known slot) is = subst (λ (b : List BRow). is_some (b_row slot b) ≡ true) (sym same_b) is
  given_still (given.Fresh row) is = (
    subst (λ (g : Geometry). row.slot < slot_count g) (sym cleans.geometry) is.0,
    subst (λ (b : List BRow). b_row row.slot b ≡ None) (sym same_b) is.1,
  )
  given_still given.Zero is = tt

-- where nothing dirty falls off the step is allowed
pub room_may : (store : StoreView) → IsListing (listing_in store) → (address : ℕ) (block : Block) (dirty : Bool) → IsGiven (listing_in store) block → HasRoom address (want_of block) store
    → may_refer (touch_by address block dirty (listing_in store)) (listing_in store) ≡ true
room_may store listing address block dirty is_given room =
    let lists = listing_in store in
    let touch = touch_by address block dirty lists in
    let next : victims_of address (want_of block) lists ≡ victims_from (cut_of touch lists) = victims_next lists address (want_of block) listing block dirty is_given refl in
    may_touch_now lists touch listing
    (subst (λ (v : Victims). IfSome v.out (λ out. is_dirty_at out store.table.a ≡ false)) next room.out)
    (subst (λ (v : Victims). IfSome v.drop (λ row. list_any (λ other. refers row.slot address other) store.table.a ≡ false)) next room.drop)

pub fits_prepared : (store : StoreView) → IsListing (listing_in store) → (its : Rec) (address : ℕ) (block : Block) (dirty : Bool) → IsGiven (listing_in store) block → HasRoom address (want_of block) store
    → raises its ≡ true → touch_of its store.table ≡ Some (touch_by address block dirty (listing_in store)) → RecordFits store its (touch_by address block dirty (listing_in store))
fits_prepared store listing its address block dirty is_given room raised touches = record { touches = touches; raised = raised; may = room_may store listing address block dirty is_given room }

-- a listed address leaves room for what is listed
linked_some : (o : Option ARow) → is_link (link_of o) ≡ true → is_some o ≡ true
linked_some None h = absurd (cc h)
linked_some (Some row) h = refl

pub room_hit : (store : StoreView) (address : ℕ) (want : Want) → is_link (link_at address store.table.a) ≡ true → is_fresh want ≡ false → HasRoom address want store
room_hit store address want linked known = record {
  out = subst (λ b. IfSome (if b then None else option_map (λ (row : ARow). row.address) (last_of_full store.journal.geo.acap store.table.a)) (λ out. is_dirty_at out store.table.a ≡ false))
      (sym (linked_some (a_row address store.table.a) linked)) tt;
  drop = subst (λ b. IfSome (if b then last_of_full store.journal.geo.bcap store.table.b else None) (λ row. list_any (λ other. refers row.slot address other) store.table.a ≡ false)) (sym known) tt;
}
