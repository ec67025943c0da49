-- What a reference has room for, behind rounds of write-back.
use Rattle.std.proofs.Common.{◌≡◌, ℕ, zero, suc, ◌-◌, ◌==◌, not, Bool, true, false, cond, List, [], ◌∷◌, length, refl, sym, ◌∙◌, ap, subst, Some, None}
use Rattle.std.specs.Prelude.{Option, IfSome, is_some, option_map, slice_get, if◌then◌else◌, ◌&&◌, Result, Ok, Err, OnOk}
use Rattle.std.specs.List.{list_any}
use Rattle.std.proofs.lemmas.List.{length-map}
use Rattle.dd_block.specs.declared.geometry.Geometry.{Geometry}
use Rattle.dd_record.specs.declared.row.ARow.{ARow}
use Rattle.dd_record.specs.declared.row.BRow.{BRow}
use Rattle.dd_record.specs.Table.{Table, a_row, is_dirty_at}
use Rattle.dd_record.specs.Replay.{cleaned_row, cleaned}
use Rattle.dd_model.specs.declared.done.Victims.{Victims}
use Rattle.dd_model.specs.declared.given.Want.{Want}
use Rattle.dd_model.specs.Listing.{last_of_full, victims_of, is_fresh, refers}
use Rattle.dd_model.proofs.Dirty.{dirty_cleaned}
use Rattle.dd_store.specs.Keeping.{StoreView}
use Rattle.dd_store.specs.Laying.{all_cleaned}
use Rattle.dd_store.specs.Referring.{listing_in}
use Rattle.dd_store.specs.Rounds.{Cleans, HasRoom}
use Rattle.dd_store.proofs.Cleaning.{cleans_none}

-- the address that falls off by these rows
abbrev out_of : ℕ → ℕ → List ARow → Option ℕ
out_of address acap rows = if is_some (a_row address rows) then None else option_map (λ row. row.address) (last_of_full acap rows)

if_address : (b : Bool) (row : ARow) → (if b then record row { dirty = false } else row).address ≡ row.address
if_address true row = refl
if_address false row = refl

same_address : (clean : ℕ) (row : ARow) → (cleaned_row clean row).address ≡ row.address
same_address clean row = if_address (row.address == clean) row

listed_cleaned : (address clean : ℕ) (rows : List ARow) → is_some (a_row address (cleaned clean rows)) ≡ is_some (a_row address rows)
listed_cleaned address clean [] = refl
listed_cleaned address clean (row ∷ rows) = ap (λ n. is_some (cond (n == address) (Some (cleaned_row clean row)) (a_row address (cleaned clean rows)))) (same_address clean row) ∙ by_test (row.address == address) (listed_cleaned address clean rows)
  where
    by_test : (b : Bool) → is_some (a_row address (cleaned clean rows)) ≡ is_some (a_row address rows) → is_some (cond b (Some (cleaned_row clean row)) (a_row address (cleaned clean rows))) ≡ is_some (cond b (Some row) (a_row address rows))
    by_test true rest = refl
    by_test false rest = rest

at_cleaned : (clean n : ℕ) (rows : List ARow) → option_map (λ row. row.address) (slice_get (cleaned clean rows) n) ≡ option_map (λ row. row.address) (slice_get rows n)
at_cleaned clean n [] = refl
at_cleaned clean zero (row ∷ rows) = ap (λ n. Some n) (same_address clean row)
at_cleaned clean (suc n) (row ∷ rows) = at_cleaned clean n rows

last_cleaned : (clean cap : ℕ) (rows : List ARow) → option_map (λ row. row.address) (last_of_full cap (cleaned clean rows)) ≡ option_map (λ row. row.address) (last_of_full cap rows)
last_cleaned clean cap rows = ap (λ n. option_map (λ (row : ARow). row.address) (if n == cap then slice_get (cleaned clean rows) (cap - 1) else None)) (length-map rows (cleaned_row clean)) ∙ by_test (length rows == cap)
  where
    by_test : (b : Bool) → option_map (λ (row : ARow). row.address) (if b then slice_get (cleaned clean rows) (cap - 1) else None) ≡ option_map (λ (row : ARow). row.address) (if b then slice_get rows (cap - 1) else None)
    by_test true = at_cleaned clean (cap - 1) rows
    by_test false = refl

out_cleaned : (address cap clean : ℕ) (rows : List ARow) → out_of address cap (cleaned clean rows) ≡ out_of address cap rows
out_cleaned address cap clean rows =
    ap (λ (b : Bool). if b then None else option_map (λ (row : ARow). row.address) (last_of_full cap (cleaned clean rows))) (listed_cleaned address clean rows)
    ∙ ap (λ (o : Option ℕ). if is_some (a_row address rows) then None else o) (last_cleaned clean cap rows)

out_all : (address cap : ℕ) (done : List ℕ) (rows : List ARow) → out_of address cap (all_cleaned done rows) ≡ out_of address cap rows
out_all address cap [] rows = refl
out_all address cap (clean ∷ done) rows = out_all address cap done (cleaned clean rows) ∙ out_cleaned address cap clean rows

-- what is clean stays so
pub clean_all : (at : ℕ) (done : List ℕ) (rows : List ARow) → is_dirty_at at rows ≡ false → is_dirty_at at (all_cleaned done rows) ≡ false
clean_all at [] rows clean = clean
clean_all at (address ∷ done) rows clean = clean_all at done (cleaned address rows) (dirty_cleaned address rows at ∙ ap (λ b. b && not (at == address)) clean)

module _ (address : ℕ) (want : Want) where
  -- what falls off, by the rows alone
  abbrev victims_by : Geometry → Table → Victims
  victims_by geo table = record { out = out_of address geo.acap table.a; drop = if is_fresh want then last_of_full geo.bcap table.b else None }

  -- rounds change nothing of what falls off
  pub same_victims : (old new : StoreView) → Cleans old new → victims_of address want (listing_in new) ≡ victims_of address want (listing_in old)
  same_victims old new cleans =
      ap (λ (geo : Geometry). victims_by geo new.table) cleans.geometry
      ∙ ap (victims_by old.journal.geo) cleans.rows
      ∙ ap (λ (o : Option ℕ). record { out = o; drop = if is_fresh want then last_of_full old.journal.geo.bcap old.table.b else None }) (out_all address old.journal.geo.acap cleans.done old.table.a)

  stays_clean : (middle new : StoreView) → Cleans middle new → (out : Option ℕ) → IfSome out (λ at. is_dirty_at at middle.table.a ≡ false) → IfSome out (λ at. is_dirty_at at new.table.a ≡ false)
  stays_clean middle new cleans None clean = clean
  stays_clean middle new cleans (Some at) clean = ap (λ (t : Table). is_dirty_at at t.a) cleans.rows ∙ clean_all at cleans.done middle.table.a clean

  pub room_behind : (old middle new : StoreView) → Cleans old middle → Cleans middle new → (victims : Victims) → victims ≡ victims_of address want (listing_in old)
      → IfSome victims.out (λ at. is_dirty_at at middle.table.a ≡ false)
      → IfSome victims.drop (λ row. list_any (λ other. refers row.slot address other) new.table.a ≡ false) → HasRoom address want new
  room_behind old middle new first next victims are out drop =
      let same : victims ≡ victims_of address want (listing_in new) = are ∙ sym (same_victims old middle first) ∙ sym (same_victims middle new next) in
      record {
        out = subst (λ (v : Victims). IfSome v.out (λ at. is_dirty_at at new.table.a ≡ false)) same (stays_clean middle new next victims.out out);
        drop = subst (λ (v : Victims). IfSome v.drop (λ row. list_any (λ other. refers row.slot address other) new.table.a ≡ false)) same drop;
      }

  pub room_on : {T E : Type 0} (result : Result T E) (old middle new : StoreView) (victims : Victims) (row : BRow) → Cleans old middle → OnOk result (Cleans middle new) → victims ≡ victims_of address want (listing_in old)
      → IfSome victims.out (λ at. is_dirty_at at middle.table.a ≡ false) → victims.drop ≡ Some row → OnOk result (list_any (λ other. refers row.slot address other) new.table.a ≡ false) → OnOk result (HasRoom address want new)
  room_on (Ok done) old middle new victims row first next are out drop none =
      room_behind old middle new first next victims are out (subst (λ (o : Option BRow). IfSome o (λ r. list_any (λ other. refers r.slot address other) new.table.a ≡ false)) (sym drop) none)
  room_on (Err fault) old middle new victims row first next are out drop none = tt

  pub room_without : (old new : StoreView) (victims : Victims) → Cleans old new → victims ≡ victims_of address want (listing_in old) → IfSome victims.out (λ at. is_dirty_at at new.table.a ≡ false) → victims.drop ≡ None → HasRoom address want new
  room_without old new victims first are out drop =
      room_behind old new new first (cleans_none new new refl refl refl refl) victims are out (subst (λ (o : Option BRow). IfSome o (λ r. list_any (λ other. refers r.slot address other) new.table.a ≡ false)) (sym drop) tt)

  -- where there is room nothing is to be written back
  pub room_out : (old : StoreView) (victims : Victims) → victims ≡ victims_of address want (listing_in old) → HasRoom address want old → IfSome victims.out (λ at. is_dirty_at at old.table.a ≡ false)
  room_out old victims are room = subst (λ (v : Victims). IfSome v.out (λ at. is_dirty_at at old.table.a ≡ false)) (sym are) room.out

  pub room_drop : (old : StoreView) (victims : Victims) (row : BRow) → victims ≡ victims_of address want (listing_in old) → HasRoom address want old → victims.drop ≡ Some row → list_any (λ other. refers row.slot address other) old.table.a ≡ false
  room_drop old victims row are room drop =
      subst (λ (o : Option BRow). IfSome o (λ r. list_any (λ other. refers r.slot address other) old.table.a ≡ false)) drop
      (subst (λ (v : Victims). IfSome v.drop (λ r. list_any (λ other. refers r.slot address other) old.table.a ≡ false)) (sym are) room.drop)
