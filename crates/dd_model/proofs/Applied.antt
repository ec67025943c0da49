-- What is applied is what replay makes of a record.
use Rattle.std.proofs.Common.{◌≡◌, ℕ, ◌==◌, Bool, true, false, cond, List, [], ◌∷◌, not, refl, sym, ◌∙◌, ap, subst, Some, None}
use Rattle.std.specs.Prelude.{Option, ◌&&◌, ◌||◌, is_some, option_map, option_and_then, if◌then◌else◌, MatchOption, IfSome}
use Rattle.std.specs.List.{list_any}
use Rattle.dd_record.specs.declared.row.ARow.{ARow}
use Rattle.dd_record.specs.declared.row.BRow.{BRow}
use Rattle.dd_record.specs.declared.rec.Rec.{Rec}
use Rattle.dd_record.specs.declared.rec.Rec.TheVariants.{Hit, Link, Store, Zero, Clean}
use Rattle.dd_record.specs.Table.{Table, a_row, is_dirty_at}
use Rattle.dd_record.specs.Replay.{Touch, touched, touch_of, after_touch, after_rec, is_clean_cut, is_free_cut, cut_address, cut_block}
use Rattle.dd_model.specs.declared.done.Cut.{Cut}
use Rattle.dd_model.specs.declared.done.Victims.{Victims}
use Rattle.dd_model.specs.Listing.{Listing, IsListing, IsReferrer, refers, may_refer, referred, cut_of, victims_from, made_clean}
use Rattle.dd_model.specs.Applying.{is_dirty_out, is_referred, Applied, by_touch, applied, IsApplied, SameLimits}
use Rattle.dd_model.proofs.Allowed.{cut_dirty}

-- an address that is found and passes is among the rows
any_of_row : (p : ARow → Bool) (address : ℕ) (rows : List ARow) → option_map p (a_row address rows) ≡ Some true → list_any p rows ≡ true
any_of_row p address [] h = absurd (cc h)
any_of_row p address (row ∷ rows) h = by_test (row.address == address) h (λ e. any_of_row p address rows e)
  where
    or_true : (b : Bool) → (b || true) ≡ true
    or_true true = refl
    or_true false = refl

    by_test : (b : Bool) → option_map p (cond b (Some row) (a_row address rows)) ≡ Some true → (option_map p (a_row address rows) ≡ Some true → list_any p rows ≡ true) → (p row || list_any p rows) ≡ true
    by_test true e rest = let is : p row ≡ true = cc e in ap (λ b. b || list_any p rows) is
    by_test false e rest = ap (λ b. p row || b) (rest e) ∙ or_true (p row)

-- whether there is one is told by the answer
pub referrer_is : (slot skip : ℕ) (rows : List ARow) (o : Option ℕ) → IsReferrer slot skip rows o → is_some o ≡ list_any (λ row. refers slot skip row) rows
referrer_is slot skip rows None h = sym h
referrer_is slot skip rows (Some address) h = sym (any_of_row (λ row. refers slot skip row) address rows h)

clean_is : (lists : Listing) (touch : Touch) (o : Option ARow) → IsListing lists → cut_address lists.acap touch lists.table.a ≡ o
    → is_clean_cut o ≡ not (is_dirty_out lists.table.a (option_map (λ (row : ARow). row.address) o))
clean_is lists touch None kept is = refl
clean_is lists touch (Some row) kept is = ap not (sym (cut_dirty lists touch row kept is))

free_is : (address : ℕ) (rows : List ARow) (o : Option BRow) → is_free_cut address rows o ≡ not (is_referred address rows o)
free_is address rows None = refl
free_is address rows (Some block) = refl

-- a touch may be done exactly where nothing dirty falls off
pub may_is : (lists : Listing) (touch : Touch) → IsListing lists
    → may_refer touch lists ≡ (not (is_dirty_out lists.table.a (cut_of touch lists).out) && not (is_referred touch.address lists.table.a (cut_of touch lists).drop))
may_is lists touch kept =
    ap (λ b. b && is_free_cut touch.address lists.table.a (cut_block lists.bcap touch.block lists.table.b)) (clean_is lists touch (cut_address lists.acap touch lists.table.a) kept refl)
    ∙ ap (λ b. not (is_dirty_out lists.table.a (cut_of touch lists).out) && b) (free_is touch.address lists.table.a (cut_block lists.bcap touch.block lists.table.b))

-- so the answers on what falls off tell it
pub may_told : (lists : Listing) (touch : Touch) (victims : Victims) (out drop result : Bool) → IsListing lists → victims ≡ victims_from (cut_of touch lists) → out ≡ is_dirty_out lists.table.a victims.out
    → drop ≡ is_referred touch.address lists.table.a victims.drop → result ≡ (not out && not drop) → result ≡ may_refer touch lists
may_told lists touch victims out drop result kept next out_is drop_is is =
    is
    ∙ ap (λ b. not b && not drop) (out_is ∙ ap (λ (v : Victims). is_dirty_out lists.table.a v.out) next)
    ∙ ap (λ b. not (is_dirty_out lists.table.a (cut_of touch lists).out) && not b) (drop_is ∙ ap (λ (v : Victims). is_referred touch.address lists.table.a v.drop) next)
    ∙ sym (may_is lists touch kept)

-- the table after what is applied is the one after replay
abbrev table_of : Applied → Table
table_of after = after.lists.table

by_may : (b : Bool) (lists : Listing) (touch : Touch)
    → option_map table_of (if b then Some (record { lists = referred touch lists; cut = cut_of touch lists }) else None) ≡ (if b then Some (touched lists.acap lists.bcap touch lists.table) else None)
by_may true lists touch = refl
by_may false lists touch = refl

by_option : (lists : Listing) (o : Option Touch)
    → option_map table_of (option_and_then (by_touch lists) o) ≡ option_and_then (after_touch lists.acap lists.bcap lists.table) o
by_option lists None = refl
by_option lists (Some touch) = by_may (may_refer touch lists) lists touch

by_dirty : (b : Bool) (lists : Listing) (address : ℕ)
    → option_map table_of (if b then Some (record { lists = made_clean address lists; cut = record { out = None; drop = None } }) else None) ≡ (if b then Some (made_clean address lists).table else None)
by_dirty true lists address = refl
by_dirty false lists address = refl

pub applied_replay : (lists : Listing) (rec : Rec) → option_map table_of (applied rec lists) ≡ after_rec lists.acap lists.bcap rec lists.table
applied_replay lists (Hit address) = by_option lists (touch_of (Hit address) lists.table)
applied_replay lists (Link address slot dirty) = by_option lists (touch_of (Link address slot dirty) lists.table)
applied_replay lists (Store address slot fp dirty) = by_option lists (touch_of (Store address slot fp dirty) lists.table)
applied_replay lists (Zero address dirty) = by_option lists (touch_of (Zero address dirty) lists.table)
applied_replay lists (Clean address) = by_dirty (is_dirty_at address lists.table.a) lists address

told : (o : Option Applied) (old new : Listing) (result : Option Cut) (after : Option Table) → IsApplied o old new result → option_map table_of o ≡ after → MatchOption result (after ≡ None) (λ cut. after ≡ Some new.table)
told None old new result after h e = subst (λ r. MatchOption r (after ≡ None) (λ cut. after ≡ Some new.table)) (sym h.1) (sym e)
told (Some a) old new result after h e = subst (λ r. MatchOption r (after ≡ None) (λ cut. after ≡ Some new.table)) (sym h.1) (sym e ∙ ap (λ (l : Listing). Some l.table) (sym h.0))

-- so the answer tells what replay does
pub replay_told : (lists new : Listing) (rec : Rec) (result : Option Cut) → IsApplied (applied rec lists) lists new result
    → MatchOption result (after_rec lists.acap lists.bcap rec lists.table ≡ None) (λ cut. after_rec lists.acap lists.bcap rec lists.table ≡ Some new.table)
replay_told lists new rec result h = told (applied rec lists) lists new result (after_rec lists.acap lists.bcap rec lists.table) h (applied_replay lists rec)

limits_touch : (b : Bool) (lists : Listing) (touch : Touch) → IfSome {T = Applied} (if b then Some (record { lists = referred touch lists; cut = cut_of touch lists }) else None) (λ after. SameLimits lists after.lists)
limits_touch true lists touch = (refl, refl, refl)
limits_touch false lists touch = tt

limits_option : (lists : Listing) (o : Option Touch) → IfSome (option_and_then (by_touch lists) o) (λ after. SameLimits lists after.lists)
limits_option lists None = tt
limits_option lists (Some touch) = limits_touch (may_refer touch lists) lists touch

limits_clean : (b : Bool) (lists : Listing) (address : ℕ)
    → IfSome {T = Applied} (if b then Some (record { lists = made_clean address lists; cut = record { out = None; drop = None } }) else None) (λ after. SameLimits lists after.lists)
limits_clean true lists address = (refl, refl, refl)
limits_clean false lists address = tt

limits_applied : (lists : Listing) (rec : Rec) → IfSome (applied rec lists) (λ after. SameLimits lists after.lists)
limits_applied lists (Hit address) = limits_option lists (touch_of (Hit address) lists.table)
limits_applied lists (Link address slot dirty) = limits_option lists (touch_of (Link address slot dirty) lists.table)
limits_applied lists (Store address slot fp dirty) = limits_option lists (touch_of (Store address slot fp dirty) lists.table)
limits_applied lists (Zero address dirty) = limits_option lists (touch_of (Zero address dirty) lists.table)
limits_applied lists (Clean address) = limits_clean (is_dirty_at address lists.table.a) lists address

limits_told : (o : Option Applied) (old new : Listing) (result : Option Cut) → IsApplied o old new result → IfSome o (λ after. SameLimits old after.lists) → SameLimits old new
limits_told None old new result h same = (ap (λ (l : Listing). l.acap) h.0, ap (λ (l : Listing). l.bcap) h.0, ap (λ (l : Listing). l.slots) h.0)
limits_told (Some a) old new result h same = (ap (λ (l : Listing). l.acap) h.0 ∙ same.0, ap (λ (l : Listing). l.bcap) h.0 ∙ same.1, ap (λ (l : Listing). l.slots) h.0 ∙ same.2)

-- and the capacities stay
pub limits_stay : (lists new : Listing) (rec : Rec) (result : Option Cut) → IsApplied (applied rec lists) lists new result → SameLimits lists new
limits_stay lists new rec result h = limits_told (applied rec lists) lists new result h (limits_applied lists rec)
