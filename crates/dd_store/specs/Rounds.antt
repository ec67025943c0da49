-- Rounds of write-back: which addresses they make clean, what they cost, and what a reference has room for behind them.
use Rattle.std.specs.Prelude.{◌≡◌, ℕ, ◌+◌, ◌*◌, ◌≤◌, Bool, false, List, length, Result, Ok, Err, None, IfSome, is_some, ⊤}
use Rattle.std.specs.List.{list_any}
use Rattle.dd_rig.specs.declared.tallies.Calls.{Calls}
use Rattle.dd_slots.specs.Numbers.{is_among}
use Rattle.dd_record.specs.Table.{is_dirty_at}
use Rattle.dd_model.specs.declared.given.Want.{Want}
use Rattle.dd_model.specs.Listing.{victims_of, refers, without, next_of}
use Rattle.dd_store.specs.declared.along.Along.{Along}
use Rattle.dd_store.specs.declared.along.Along.TheVariants.{Age, Referrers}
use Rattle.dd_store.specs.declared.fault.StoreFault.{StoreFault}
use Rattle.dd_store.specs.declared.fault.StoreFault.TheVariants.{FlashRead, DiskRead, FlashWrite, DiskWrite}
use Rattle.dd_store.specs.Keeping.{StoreView}
use Rattle.dd_store.specs.Laying.{all_cleaned, all_without, all_laid}
use Rattle.dd_store.specs.Referring.{listing_in}
use Rattle.dd_store.specs.Serving.{unlaid, downed}

-- dirty addresses were made clean, in this order; the rows, the ages and the count are as they were but for that
pub record Cleans (old new : StoreView) : Type 0 where
  pub done : List ℕ
  pub rows : new.table ≡ record old.table { a = all_cleaned done old.table.a }
  pub ages : new.dirty ≡ all_without done old.dirty
  pub fewer : length new.dirty + length done ≡ length old.dirty
  pub count : new.count ≡ old.count
  pub geometry : new.journal.geo ≡ old.journal.geo

-- The disk's calls, and twice the dirty addresses, together rise by so many at most. A round writes each of its addresses and syncs once,
-- and as many addresses are clean behind it: it raises neither.
abbrev pub LoadsAtMost : ℕ → (old new : StoreView) → Calls → Calls → Type 0
LoadsAtMost more old new before after = after.reads + after.writes + 2 * length new.dirty ≤ before.reads + before.writes + 2 * length old.dirty + more

-- a reference of the address with such a block lets nothing dirty fall off, but what the address itself replaces
pub record HasRoom (address : ℕ) (want : Want) (store : StoreView) : Type 0 where
  pub out : IfSome (victims_of address want (listing_in store)).out (λ out. is_dirty_at out store.table.a ≡ false)
  pub drop : IfSome (victims_of address want (listing_in store)).drop (λ row. list_any (λ other. refers row.slot address other) store.table.a ≡ false)

-- the addresses of a walk: the dirty ones by age, or the dirty referrers of a slot but one address
abbrev pub walk_of : Along → List ℕ → (ℕ → List ℕ) → List ℕ
walk_of Age dirty referrers = dirty
walk_of (Referrers slot skip) dirty referrers = without skip (referrers slot)

-- a walk along referrers passes over its address
abbrev pub PassesOver : Along → List ℕ → Type 0
PassesOver Age laid = ⊤
PassesOver (Referrers slot skip) laid = is_among skip laid ≡ false

-- so that is as dirty as it was
abbrev pub KeepsSkipped : Along → (old new : StoreView) → Type 0
KeepsSkipped Age old new = ⊤
KeepsSkipped (Referrers slot skip) old new = is_dirty_at skip new.table.a ≡ is_dirty_at skip old.table.a

-- whether a walk has an address
abbrev pub has_along : Along → StoreView → Bool
has_along Age store = is_some (next_of None store.dirty)
has_along (Referrers slot skip) store = list_any (λ row. refers slot skip row) store.table.a

-- what laying some addresses leaves of the store: these are laid; or none is, and behind a failed write it is down
abbrev pub LaysSome : Result Unit StoreFault → (old new : StoreView) → Type 0
LaysSome (Ok done) old new = new ≡ all_laid new.laid old
LaysSome (Err FlashRead) old new = new ≡ unlaid old
LaysSome (Err DiskRead) old new = ⊥
LaysSome (Err FlashWrite) old new = ⊥
LaysSome (Err DiskWrite) old new = new ≡ downed (unlaid old)
