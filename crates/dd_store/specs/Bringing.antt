-- A reference from its beginning to its end: what it waits for, what it leaves of the store, what it answers, and what it costs.
use Rattle.std.specs.Prelude.{◌≡◌, ℕ, ◌<◌, not, ◌&&◌, ◌||◌, nat_le, Bool, true, false, List, length, Option, Some, None, Result, ⊤, if◌then◌else◌}
use Rattle.std.specs.List.{list_any}
use Rattle.dd_block.specs.declared.geometry.Geometry.{Geometry}
use Rattle.dd_block.specs.declared.print.Fp.{Fp}
use Rattle.dd_rig.specs.declared.device.Dev.TheVariants.{Flash}
use Rattle.dd_rig.specs.declared.tallies.Counts.{Counts}
use Rattle.dd_rig.specs.Counts.{count_read}
use Rattle.dd_slots.specs.declared.usage.Usage.{Usage}
use Rattle.dd_slots.specs.Slots.{is_free}
use Rattle.dd_layout.specs.Layout.{slot_block}
use Rattle.dd_record.specs.declared.rec.Rec.{Rec}
use Rattle.dd_record.specs.declared.rec.Rec.TheVariants.{Store}
use Rattle.dd_record.specs.declared.row.Link.{Link}
use Rattle.dd_record.specs.declared.row.Link.TheVariants as links
use Rattle.dd_record.specs.Replay.{Touch}
use Rattle.dd_record.specs.Table.{is_dirty_at}
use Rattle.dd_model.specs.declared.done.Cut.{Cut}
use Rattle.dd_model.specs.declared.done.Done.{Done}
use Rattle.dd_model.specs.declared.given.Block.TheVariants.{Fresh}
use Rattle.dd_model.specs.declared.given.Want.{Want}
use Rattle.dd_model.specs.declared.given.Want.TheVariants as wants
use Rattle.dd_model.specs.declared.kind.Kind.{Kind}
use Rattle.dd_model.specs.declared.kind.Kind.TheVariants as kind
use Rattle.dd_model.specs.Listing.{is_fresh, touch_by, cut_of}
use Rattle.dd_model.specs.Reference.{Answer, read_answer, write_answer}
use Rattle.dd_model.specs.State.{Sizes, State, content, is_known, is_at_hand}
use Rattle.dd_store.specs.Keeping.{StoreView, is_spare}
use Rattle.dd_store.specs.Referring.{IsThere, IsPlaced, RecordFits, referred_store, done_of, listing_in}
use Rattle.dd_store.specs.Rounds.{Cleans, HasRoom}
use Rattle.dd_store.specs.declared.fault.StoreFault.{StoreFault}
use Rattle.dd_store.specs.declared.fault.StoreFault.TheVariants.{FlashRead, DiskRead, FlashWrite, DiskWrite}

-- whether some slot is free
abbrev pub has_spare : List Usage → Bool
has_spare uses = list_any (λ usage. is_free (Some usage)) uses

-- a reference of the address with such a block may be made at once: nothing dirty falls off, and there is room for its record and, for a
-- block that isn't listed, a free slot
pub record IsPrepared (address : ℕ) (want : Want) (store : StoreView) : Type 0 where
  pub room : HasRoom address want store
  pub free : length store.pending < store.journal.geo.group
  pub slot : is_fresh want ≡ true → has_spare store.uses ≡ true

-- a touch carries this content, which lies in its block's slot or is zeros; a read carries the content that its address has
pub record Carries (print : List ℕ → Fp) (store : StoreView) (flash : List ℕ) (s : State) (touch : Touch) (block : List ℕ) : Type 0 where
  pub below : touch.address < store.journal.geo.blocks
  pub long : length block ≡ store.journal.geo.block
  pub there : IsThere print (slot_block store.journal.geo flash) touch.block block
  pub placed : IsPlaced s store.table touch.block block
  pub read : touch.dirty ≡ false → block ≡ content s.array touch.address

-- A reference was made. Dirty addresses were made clean first, none of them its own; then the rows moved as one record tells, which is
-- pending.
pub record References (address : ℕ) (dirty : Bool) (old new : StoreView) (done : Done) : Type 0 where
  pub middle : StoreView
  pub cleans : Cleans old middle
  pub own : is_dirty_at address middle.table.a ≡ is_dirty_at address old.table.a
  pub its : Rec
  pub touch : Touch
  pub fits : RecordFits middle its touch
  pub at : touch.address ≡ address
  pub becomes : touch.dirty ≡ dirty
  pub after : new ≡ referred_store its touch middle
  pub tells : done ≡ done_of middle its touch

-- what a reference answers by the definition: a write where the address becomes dirty, else a read
abbrev pub answer_for : Bool → Sizes → State → ℕ → List ℕ → Answer
answer_for true sizes s address block = write_answer sizes s address block
answer_for false sizes s address block = read_answer sizes s address

-- what is wanted of a block where the reference was of that kind
abbrev pub want_for : Kind → Want
want_for kind.Hit = wants.Zero
want_for kind.Join = wants.Zero
want_for kind.Miss = wants.Fresh
want_for kind.Dup = wants.Zero
want_for kind.New = wants.Fresh

-- what is wanted of a block by the state: a slot of its own where it isn't at hand
abbrev pub want_by : List ℕ → List (List ℕ) → Want
want_by block blocks = if is_at_hand block blocks then wants.Zero else wants.Fresh

-- a fault of a read, behind which the store is up
abbrev pub IsReadFault : StoreFault → Type 0
IsReadFault FlashRead = ⊤
IsReadFault DiskRead = ⊤
IsReadFault FlashWrite = ⊥
IsReadFault DiskWrite = ⊥

-- A read of a linked address calls no disk. Where there is room for its record it makes one read of the flash, or none where the address is
-- zeros.
abbrev pub HitCalls : {T : Type 0} → Link → Result T StoreFault → Counts → Counts → Type 0
HitCalls links.Lost result before after = ⊤
HitCalls (links.Slot slot) result before after = after ≡ count_read Flash result before
HitCalls links.Zero result before after = after ≡ before

-- how many bytes a reference of this kind writes to the flash where it may be made at once
abbrev pub saves : Kind → ℕ
saves kind.Hit = 0
saves kind.Join = 0
saves kind.Miss = 1
saves kind.Dup = 0
saves kind.New = 1

-- nothing fell off both lists
abbrev pub IsCalm : Cut → Type 0
IsCalm cut = (cut.out ≡ None) × (cut.drop ≡ None)

-- how many reads of the disk a read of this kind makes, where nothing falls off
abbrev pub fetches : Kind → ℕ
fetches kind.Hit = 0
fetches kind.Join = 1
fetches kind.Miss = 1
fetches kind.Dup = 1
fetches kind.New = 1

-- whether a reference of such a block has to wait for a commit: there is no room for its record, or no free slot for its block
abbrev pub must_commit : Want → StoreView → Bool
must_commit want store = nat_le store.journal.geo.group (length store.pending) || (is_fresh want && not (has_spare store.uses))

-- what a search for a block by its fingerprint and its bytes tells of a state
abbrev pub FoundAs : Geometry → (flash : List ℕ) → State → (block : List ℕ) → Option ℕ → Type 0
FoundAs geo flash s block None = is_known block s.blocks ≡ false
FoundAs geo flash s block (Some slot) = (is_known block s.blocks ≡ true) × (slot_block geo flash slot ≡ block)

-- a reference gave a block that isn't listed a slot that was free
pub record Enters (address : ℕ) (fp : Fp) (dirty : Bool) (old new : StoreView) (cut : Cut) : Type 0 where
  pub slot : ℕ
  pub spare : is_spare slot old.uses ≡ true
  pub fits : RecordFits old (Store address slot fp dirty) (touch_by address (Fresh (record { slot = slot; fp = fp })) dirty (listing_in old))
  pub after : new ≡ referred_store (Store address slot fp dirty) (touch_by address (Fresh (record { slot = slot; fp = fp })) dirty (listing_in old)) old
  pub falls : cut ≡ cut_of (touch_by address (Fresh (record { slot = slot; fp = fp })) dirty (listing_in old)) (listing_in old)
