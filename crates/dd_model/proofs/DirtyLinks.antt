-- Dirty addresses stay linked where both lists may be cut.
use Rattle.std.proofs.Common.{◌≡◌, ℕ, zero, suc, ◌≤◌, ◌==◌, Bool, true, false, cond, not, List, [], ◌∷◌, map, take, refl, ap, sym, ◌∙◌, arith, Option, Some, None}
use Rattle.std.specs.Prelude.{filter, slice_get, IfSome, ◌&&◌, ⊤}
use Rattle.std.specs.List.{AllByRecursion, list_any}
use Rattle.std.proofs.lemmas.Bool.{false≢true}
use Rattle.dd_record.specs.declared.row.ARow.{ARow}
use Rattle.dd_record.specs.declared.row.BRow.{BRow}
use Rattle.dd_record.specs.declared.row.Link.TheVariants as links
use Rattle.dd_record.specs.Table.{Table, is_slot, IsDirtyLinked}
use Rattle.dd_record.specs.Replay.{Touch, a_moved, b_moved, cut_block, cut_address, is_clean_cut, is_free_cut, linked_row, may_touch, touched, unlinked_from}
use Rattle.dd_model.proofs.Filters.{all_both, all_true, all_filter, all_take, all_map, all_get, all_passing}
use Rattle.dd_model.proofs.Answering.{not_true, and_second, or_none, and_true, number_turned}

pub none_any : {X : Type 0} (p : X → Bool) (xs : List X) → list_any p xs ≡ false → AllByRecursion (λ x. p x ≡ false) xs
none_any p [] h = tt
none_any p (x ∷ xs) h = ((or_none (p x) (list_any p xs) h).0, none_any p xs (or_none (p x) (list_any p xs) h).1)

module _ (address : ℕ) (cut : BRow) where
  -- only the address itself may refer to the block that falls off
  abbrev IsNoReferrer : ARow → Type 0
  IsNoReferrer row = (is_slot cut.slot row.link && row.dirty) ≡ false

  no_referrer : (s d t : Bool) → (s && d && t) ≡ false → t ≡ true → (s && d) ≡ false
  no_referrer s d true h is = and_true (s && d) h
  no_referrer s d false h never = absurd (false≢true never)

  stays_linked : (t : Bool) (row : ARow) → is_slot cut.slot row.link ≡ t → IsDirtyLinked row → IsNoReferrer row → IsDirtyLinked (cond t (record row { link = links.Lost }) row)
  stays_linked true row is linked none = λ dirty. absurd (false≢true (sym none ∙ ap (λ t. t && row.dirty) is ∙ dirty))
  stays_linked false row isnt linked none = linked

  others_apart : (a : List ARow) → is_free_cut address a (Some cut) ≡ true → AllByRecursion IsDirtyLinked a → AllByRecursion (λ row. IsDirtyLinked row × IsNoReferrer row) (filter (λ row. not (row.address == address)) a)
  others_apart a free linked =
      all_passing (λ row. IsDirtyLinked row × ((is_slot cut.slot row.link && row.dirty && not (row.address == address)) ≡ false)) (λ row. IsDirtyLinked row × IsNoReferrer row)
      (λ row. not (row.address == address)) (λ row isnt h. (h.0, no_referrer (is_slot cut.slot row.link) row.dirty (not (row.address == address)) h.1 isnt)) a
      (all_both IsDirtyLinked (λ row. (is_slot cut.slot row.link && row.dirty && not (row.address == address)) ≡ false) a linked
      (none_any (λ row. is_slot cut.slot row.link && row.dirty && not (row.address == address)) a (not_true (list_any (λ row. is_slot cut.slot row.link && row.dirty && not (row.address == address)) a) free)))

-- what falls off isn't the row in front
pub cut_apart : (row : BRow) (b : List BRow) (bcap : ℕ) → 1 ≤ bcap → IfSome (slice_get (b_moved row b) bcap) (λ cut. (row.slot == cut.slot) ≡ false)
cut_apart row b zero h = absurd (omega (arith, h))
cut_apart row b (suc n) h =
    all_get (λ cut. (row.slot == cut.slot) ≡ false) n (filter (λ other. not (other.slot == row.slot)) b)
    (all_passing (λ (other : BRow). ⊤) (λ other. (row.slot == other.slot) ≡ false) (λ other. not (other.slot == row.slot))
    (λ other isnt h. number_turned other.slot row.slot (not_true (other.slot == row.slot) isnt)) b (all_true b))

module _ (acap bcap : ℕ) (room : 1 ≤ bcap) (address : ℕ) (dirty : Bool) (table : Table) (linked : AllByRecursion IsDirtyLinked table.a) where
  abbrev touch_by : Option BRow → Touch
  touch_by block = record { address = address; block = block; dirty = dirty }

  uncut : (block : Option BRow) → IsDirtyLinked (linked_row (touch_by block) table.a) → AllByRecursion IsDirtyLinked (map (unlinked_from None) (take acap (a_moved (touch_by block) table.a)))
  uncut block front =
      all_map IsDirtyLinked IsDirtyLinked (unlinked_from None) (λ row h. h) (take acap (a_moved (touch_by block) table.a))
      (all_take IsDirtyLinked acap (a_moved (touch_by block) table.a) (front, all_filter IsDirtyLinked (λ row. not (row.address == address)) table.a linked))

  with_cut : (row : BRow) (cut : Option BRow) → IfSome cut (λ c. (row.slot == c.slot) ≡ false) → is_free_cut address table.a cut ≡ true
      → AllByRecursion IsDirtyLinked (map (unlinked_from cut) (take acap (a_moved (touch_by (Some row)) table.a)))
  with_cut row None apart free = uncut (Some row) (λ is. refl)
  with_cut row (Some cut) apart free =
      all_map (λ r. IsDirtyLinked r × IsNoReferrer address cut r) IsDirtyLinked (unlinked_from (Some cut)) (λ r h. stays_linked address cut (is_slot cut.slot r.link) r refl h.0 h.1)
      (take acap (a_moved (touch_by (Some row)) table.a))
      (all_take (λ r. IsDirtyLinked r × IsNoReferrer address cut r) acap (a_moved (touch_by (Some row)) table.a)
      (((λ is. refl), ap (λ t. t && (linked_row (touch_by (Some row)) table.a).dirty) apart), others_apart address cut table.a free linked))

  -- a reference keeps dirty rows linked
  pub dirty-touched : (block : Option BRow) → may_touch acap bcap (touch_by block) table ≡ true → AllByRecursion IsDirtyLinked (touched acap bcap (touch_by block) table).a
  dirty-touched None may = uncut None (λ is. refl)
  dirty-touched (Some row) may =
      with_cut row (cut_block bcap (Some row) table.b) (cut_apart row table.b bcap room) (and_second (is_clean_cut (cut_address acap (touch_by (Some row)) table.a)) (is_free_cut address table.a (cut_block bcap (Some row) table.b)) may)
