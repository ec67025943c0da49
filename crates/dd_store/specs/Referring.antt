-- A reference, told by its record.
use Rattle.std.specs.Prelude.{◌≡◌, ◌⊎◌, ℕ, suc, ◌<◌, Bool, true, false, List, [], ◌∷◌, ◌++◌, length, Option, Some, None, if◌then◌else◌, slice_set, ⊤}
use Rattle.dd_block.specs.Geometry.{slot_count}
use Rattle.dd_block.specs.declared.print.Fp.{Fp}
use Rattle.dd_slots.specs.declared.usage.Usage.{Usage}
use Rattle.dd_slots.specs.declared.usage.Usage.TheVariants.{Used, Waiting}
use Rattle.dd_slots.specs.Slots.{SlotsView}
use Rattle.dd_layout.specs.Layout.{slot_block}
use Rattle.dd_record.specs.declared.row.BRow.{BRow}
use Rattle.dd_record.specs.declared.rec.Rec.{Rec}
use Rattle.dd_record.specs.declared.rec.Rec.TheVariants as rec
use Rattle.dd_record.specs.Table.{Table, has_slot}
use Rattle.dd_record.specs.Replay.{Touch, may_touch, touch_of, touched, raises, cut_block}
use Rattle.dd_model.specs.declared.kind.Kind.{Kind}
use Rattle.dd_model.specs.declared.kind.Kind.TheVariants as kind
use Rattle.dd_model.specs.declared.done.Done.{Done}
use Rattle.dd_model.specs.State.{State, content, is_zero_block, is_known}
use Rattle.dd_model.specs.declared.given.Block.{Block}
use Rattle.dd_model.specs.declared.given.Block.TheVariants as given
use Rattle.dd_model.specs.Listing.{Listing, dirtied, cut_by}
use Rattle.dd_store.specs.Keeping.{StoreView}

-- a block's slot holds it with its fingerprint, and what has no slot is zeros
abbrev pub IsThere : (List ℕ → Fp) → (ℕ → List ℕ) → Option BRow → List ℕ → Type 0
IsThere print held None block = is_zero_block block ≡ true
IsThere print held (Some row) block = (held row.slot ≡ block) × (row.fp ≡ print block) × (is_zero_block block ≡ false)

-- a block's slot is listed; or it isn't, as no listed block is this one
abbrev pub IsPlaced : State → Table → Option BRow → List ℕ → Type 0
IsPlaced s table None block = ⊤
IsPlaced s table (Some row) block = (has_slot row.slot table.b ≡ true) ⊎ ((has_slot row.slot table.b ≡ false) × (is_known block s.blocks ≡ false))

-- a record of a reference fits the store's rows, and nothing dirty falls off but what the address itself replaces
pub record RecordFits (store : StoreView) (its : Rec) (touch : Touch) : Type 0 where
  pub touches : touch_of its store.table ≡ Some touch
  pub raised : raises its ≡ true
  pub may : may_touch store.journal.geo.acap store.journal.geo.bcap touch store.table ≡ true

-- A record references an address with this content, which is there. A read references an address with the content that it has.
pub record Refers (print : List ℕ → Fp) (store : StoreView) (flash : List ℕ) (s : State) (its : Rec) (touch : Touch) (block : List ℕ) : Type 0 where
  pub fits : RecordFits store its touch
  pub below : touch.address < store.journal.geo.blocks
  pub long : length block ≡ store.journal.geo.block
  pub there : IsThere print (slot_block store.journal.geo flash) touch.block block
  pub placed : IsPlaced s store.table touch.block block
  pub read : touch.dirty ≡ false → block ≡ content s.array touch.address

-- the slot of a block is used
abbrev pub used_by : Option BRow → List Usage → List Usage
used_by None uses = uses
used_by (Some row) uses = slice_set uses row.slot Used

-- the slot of a block that fell off waits for a commit
abbrev pub let_go : Option BRow → List Usage → List Usage
let_go None uses = uses
let_go (Some cut) uses = slice_set uses cut.slot Waiting

-- the rows after it, and one record and one reference more
abbrev pub referred_store : Rec → Touch → StoreView → StoreView
referred_store its touch store = record store {
  table = touched store.journal.geo.acap store.journal.geo.bcap touch store.table;
  count = suc store.count;
  pending = store.pending ++ its ∷ [];
  dirty = dirtied touch.address touch.dirty store.dirty;
  uses = let_go (cut_block store.journal.geo.bcap touch.block store.table.b) (used_by touch.block store.uses);
  laid = [];
}

-- the kind of reference that a record tells: zeros are joined by a read, and are a dup of a write; a Clean record tells none
abbrev pub kind_of : Rec → Kind
kind_of (rec.Hit address) = kind.Hit
kind_of (rec.Link address slot dirty) = if dirty then kind.Dup else kind.Join
kind_of (rec.Store address slot fp dirty) = if dirty then kind.New else kind.Miss
kind_of (rec.Zero address dirty) = if dirty then kind.Dup else kind.Join
kind_of (rec.Clean address) = kind.Hit

-- what a reference answers
abbrev pub done_of : StoreView → Rec → Touch → Done
done_of store its touch = record { kind = kind_of its; cut = cut_by store.journal.geo.acap store.journal.geo.bcap touch store.table }

-- the same of the slots themselves
abbrev pub slots_let_go : Option BRow → SlotsView → SlotsView
slots_let_go cut slots = record slots { uses = let_go cut slots.uses }

-- the lists of a store, as long as its geometry says
abbrev pub listing_in : StoreView → Listing
listing_in store = record { acap = store.journal.geo.acap; bcap = store.journal.geo.bcap; slots = slot_count store.journal.geo; table = store.table; dirty = store.dirty }

-- whether a block is one that isn't listed yet
abbrev pub is_fresh_block : Block → Bool
is_fresh_block (given.Known slot) = false
is_fresh_block (given.Fresh row) = true
is_fresh_block given.Zero = false
