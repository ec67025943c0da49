-- Records, applied to lists.
use Rattle.std.specs.Prelude.{◌≡◌, ℕ, ◌<◌, Bool, false, List, Option, Some, None, if◌then◌else◌, option_and_then, ⊤}
use Rattle.std.specs.List.{list_any}
use Rattle.dd_record.specs.declared.row.BRow.{BRow}
use Rattle.dd_record.specs.declared.row.ARow.{ARow}
use Rattle.dd_record.specs.declared.rec.Rec.{Rec}
use Rattle.dd_record.specs.declared.rec.Rec.TheVariants.{Hit, Link, Store, Zero, Clean}
use Rattle.dd_record.specs.Table.{is_dirty_at}
use Rattle.dd_record.specs.Replay.{Touch, touch_of}
use Rattle.dd_model.specs.declared.done.Cut.{Cut}
use Rattle.dd_model.specs.Listing.{Listing, may_refer, referred, cut_of, made_clean, refers}

-- whether an address that falls off is dirty
abbrev pub is_dirty_out : List ARow → Option ℕ → Bool
is_dirty_out rows None = false
is_dirty_out rows (Some address) = is_dirty_at address rows

-- whether a block that falls off has a dirty address linked to it, other than that one
abbrev pub is_referred : ℕ → List ARow → Option BRow → Bool
is_referred skip rows None = false
is_referred skip rows (Some block) = list_any (λ row. refers block.slot skip row) rows

-- the lists after a record, and what fell off
pub record Applied : Type 0 where
  pub lists : Listing
  pub cut : Cut

-- a touch, where nothing dirty falls off
abbrev pub by_touch : Listing → Touch → Option Applied
by_touch lists touch = if may_refer touch lists then Some (record { lists = referred touch lists; cut = cut_of touch lists }) else None

-- a record, where it fits
abbrev pub applied : Rec → Listing → Option Applied
applied (Hit address) lists = option_and_then (by_touch lists) (touch_of (Hit address) lists.table)
applied (Link address slot dirty) lists = option_and_then (by_touch lists) (touch_of (Link address slot dirty) lists.table)
applied (Store address slot fp dirty) lists = option_and_then (by_touch lists) (touch_of (Store address slot fp dirty) lists.table)
applied (Zero address dirty) lists = option_and_then (by_touch lists) (touch_of (Zero address dirty) lists.table)
applied (Clean address) lists = if is_dirty_at address lists.table.a then Some (record { lists = made_clean address lists; cut = record { out = None; drop = None } }) else None

-- what an answer tells of it: what fell off, or that it doesn't fit and nothing changed
abbrev pub IsApplied : Option Applied → (old new : Listing) → Option Cut → Type 0
IsApplied None old new result = (new ≡ old) × (result ≡ None)
IsApplied (Some after) old new result = (new ≡ after.lists) × (result ≡ Some after.cut)

-- the slot of a record, where it has one
abbrev pub IsSlotBelow : ℕ → Rec → Type 0
IsSlotBelow slots (Hit address) = ⊤
IsSlotBelow slots (Link address slot dirty) = slot < slots
IsSlotBelow slots (Store address slot fp dirty) = slot < slots
IsSlotBelow slots (Zero address dirty) = ⊤
IsSlotBelow slots (Clean address) = ⊤

-- how much may be listed stays as it was
abbrev pub SameLimits : (old new : Listing) → Type 0
SameLimits old new = (new.acap ≡ old.acap) × (new.bcap ≡ old.bcap) × (new.slots ≡ old.slots)
