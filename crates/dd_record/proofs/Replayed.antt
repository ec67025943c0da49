-- Rows that keep their rules, that are few enough and that fit each other stay so through each record that fits.
use Rattle.std.proofs.Common.{◌≡◌, inl, inr, ℕ, ◌<◌, ◌≤◌, ◌==◌, Bool, true, false, List, [], ◌∷◌, length, take, refl, sym, ap, ◌∙◌, subst, arith, Some, None, cond, length-take}
use Rattle.std.specs.Prelude.{Option, not, ◌&&◌, ◌||◌, is_none, option_map, option_and_then}
use Rattle.std.specs.List.{AllByRecursion}
use Rattle.std.proofs.lemmas.Bool.{eqb-true}
use Rattle.std.proofs.lemmas.List.{length-map}
use Rattle.dd_block.specs.declared.geometry.Geometry.{Geometry}
use Rattle.dd_block.specs.declared.print.Fp.{Fp}
use Rattle.dd_record.specs.declared.row.ARow.{ARow}
use Rattle.dd_record.specs.declared.row.BRow.{BRow}
use Rattle.dd_record.specs.declared.row.Link.{Link}
use Rattle.dd_record.specs.declared.row.Link.TheVariants as links
use Rattle.dd_record.specs.declared.rec.Rec.{Rec}
use Rattle.dd_record.specs.declared.rec.Rec.TheVariants.{Hit, Link as ToSlot, Store, Zero, Clean}
use Rattle.dd_record.specs.Spelling.{IsA, IsB, IsFp, IsLinkWith, IsRec}
use Rattle.dd_record.specs.Table.{Table, RowsFit, IsDirtyLinked, a_row, b_row, is_dirty_at, is_link, is_slot, link_at, link_of}
use Rattle.dd_record.specs.Replay.{Touch, a_moved, after_rec, after_touch, b_after, b_moved, cleaned, cleaned_row, cut_block, hit_of, link_to, may_touch, print_beside, replay, touch_of, touched, unlinked_from}
use Rattle.dd_record.proofs.Lists.{all_both, all_filter, all_map, all_of, all_take}
use Rattle.dd_record.proofs.Fitting.{IsOneOf, cleaned_fits, touched_fits}
use Rattle.dd_record.proofs.Linked.{replay_linked}

-- rows that fit each other and keep their rules in a version, no more than there may be
pub record AreListed (geo : Geometry) (version : ℕ) (table : Table) : Type 0 where
  pub fit : RowsFit table
  pub b_rows : AllByRecursion (IsB geo) table.b
  pub a_rows : AllByRecursion (IsA geo version) table.a
  pub len_b : length table.b ≤ geo.bcap
  pub len_a : length table.a ≤ geo.acap

-- the rules of the row of an address, but that it is linked where it is dirty
IsRight : Geometry → ℕ → ARow → Type 0
IsRight geo version row = (row.address < geo.blocks) × IsLinkWith geo version row.link row.fp × IsFp row.fp

right_of : (geo : Geometry) (version : ℕ) (row : ARow) → IsA geo version row → IsRight geo version row
unfolding IsRight
right_of geo version row is = (is.address, is.link, is.fp)

with_link : (geo : Geometry) (version : ℕ) (row : ARow) → IsRight geo version row → IsDirtyLinked row → IsA geo version row
unfolding IsRight
with_link geo version row right linked = record { address = right.0; link = right.1; linked = linked; fp = right.2 }

-- a block that is referenced keeps the rules of its row, and zeros are in version 2 alone
IsRowOrZero : Geometry → ℕ → Option BRow → Type 0
IsRowOrZero geo version None = version ≡ 2
IsRowOrZero geo version (Some row) = IsB geo row

record IsRightTouch (geo : Geometry) (version : ℕ) (rows : List BRow) (touch : Touch) : Type 0 where
  address : touch.address < geo.blocks
  block : IsRowOrZero geo version touch.block
  one : IsOneOf rows touch.block

-- the row of a slot has that slot, and what holds of each row
found : (P : BRow → Type 0) (slot : ℕ) (rows : List BRow) (row : BRow) → b_row slot rows ≡ Some row → AllByRecursion P rows → P row × (row.slot ≡ slot)
found P slot [] row is all = absurd (cc is)
found P slot (first ∷ rows) row is all = by_test (first.slot == slot) refl is (λ rest. found P slot rows row rest all.1)
  where
    by_test : (b : Bool) → (first.slot == slot) ≡ b → cond b (Some first) (b_row slot rows) ≡ Some row → (b_row slot rows ≡ Some row → P row × (row.slot ≡ slot)) → P row × (row.slot ≡ slot)
    by_test true here same rest =
        let it : first ≡ row = cc same in
        (subst P it all.0, ap (λ (r : BRow). r.slot) (sym it) ∙ eqb-true first.slot slot here)
    by_test false other same rest = rest same

-- an address is zero in version 2 alone
zero_version : (geo : Geometry) (version address : ℕ) (rows : List ARow) → AllByRecursion (IsA geo version) rows → link_at address rows ≡ links.Zero → version ≡ 2
zero_version geo version address [] all is = absurd (cc is)
zero_version geo version address (row ∷ rows) all is = by_test (row.address == address) is (zero_version geo version address rows all.1)
  where
    by_link : (link : Link) (fp : Fp) → IsLinkWith geo version link fp → link ≡ links.Zero → version ≡ 2
    by_link links.Lost fp right same = absurd (cc same)
    by_link (links.Slot slot) fp right same = absurd (cc same)
    by_link links.Zero fp right same = right.0

    by_test : (b : Bool) → link_of (cond b (Some row) (a_row address rows)) ≡ links.Zero → (link_at address rows ≡ links.Zero → version ≡ 2) → version ≡ 2
    by_test true same rest = by_link row.link row.fp all.0.link same
    by_test false same rest = rest same

module _ (geo : Geometry) (version : ℕ) (table : Table) (listed : AreListed geo version table) where
  -- a reference to a listed slot
  to_listed : (address slot : ℕ) (dirty : Bool) (row : Option BRow) (touch : Touch) → address < geo.blocks → b_row slot table.b ≡ row
      → option_map (λ block. record { address = address; block = Some block; dirty = dirty }) row ≡ Some touch → IsRightTouch geo version table.b touch
  unfolding IsRowOrZero
  to_listed address slot dirty None touch below is same = absurd (cc same)
  to_listed address slot dirty (Some row) touch below is same =
      let it : record { address = address; block = Some row; dirty = dirty } ≡ touch = cc same in
      let here = found (IsB geo) slot table.b row is listed.b_rows in
      subst (IsRightTouch geo version table.b) it (record { address = below; block = here.0; one = inl (ap (λ n. b_row n table.b) here.1 ∙ is) })

  -- a reference to zeros
  to_zeros : (address : ℕ) (dirty : Bool) (touch : Touch) → address < geo.blocks → version ≡ 2 → Some (record { address = address; block = None; dirty = dirty }) ≡ Some touch → IsRightTouch geo version table.b touch
  unfolding IsRowOrZero
  to_zeros address dirty touch below two same =
      let it : record { address = address; block = None; dirty = dirty } ≡ touch = cc same in
      subst (IsRightTouch geo version table.b) it (record { address = below; block = two; one = tt })

  hit_right : (address : ℕ) (link : Link) (touch : Touch) → address < geo.blocks → link_at address table.a ≡ link → hit_of address link table.b ≡ Some touch → IsRightTouch geo version table.b touch
  hit_right address links.Lost touch below is same = absurd (cc same)
  hit_right address (links.Slot slot) touch below is same = to_listed address slot false (b_row slot table.b) touch below refl same
  hit_right address links.Zero touch below is same = to_zeros address false touch below (zero_version geo version address table.a listed.a_rows is) same

  only_if : (b : Bool) (t : Option Touch) (touch : Touch) → cond b t None ≡ Some touch → (b ≡ true) × (t ≡ Some touch)
  only_if true t touch same = (refl, same)
  only_if false t touch same = absurd (cc same)

  none_is : (row : Option BRow) → is_none row ≡ true → row ≡ None
  none_is None is = refl
  none_is (Some row) is = absurd (cc is)

  second : (a b : Bool) → (a && b) ≡ true → b ≡ true
  second true b h = h
  second false b h = absurd (cc h)

  touch_right : (rec : Rec) (touch : Touch) → IsRec geo version rec → touch_of rec table ≡ Some touch → IsRightTouch geo version table.b touch
  unfolding IsRowOrZero
  touch_right (Hit address) touch is same = hit_right address (link_at address table.a) touch is refl same
  touch_right (ToSlot address slot dirty) touch is same =
      let may = only_if (dirty || not (is_link (link_at address table.a))) (option_map (λ block. record { address = address; block = Some block; dirty = dirty }) (b_row slot table.b)) touch same in
      to_listed address slot dirty (b_row slot table.b) touch is.0 refl may.1
  touch_right (Store address slot fp dirty) touch is same =
      let may = only_if ((dirty || not (is_link (link_at address table.a))) && is_none (b_row slot table.b)) (Some (record { address = address; block = Some (record { slot = slot; fp = fp }); dirty = dirty })) touch same in
      let it : record { address = address; block = Some (record { slot = slot; fp = fp }); dirty = dirty } ≡ touch = cc may.1 in
      let none = none_is (b_row slot table.b) (second (dirty || not (is_link (link_at address table.a))) (is_none (b_row slot table.b)) may.0) in
      subst (IsRightTouch geo version table.b) it (record { address = is.0; block = record { slot = is.1; fp = is.2 }; one = inr none })
  touch_right (Zero address dirty) touch is same =
      let may = only_if (dirty || not (is_link (link_at address table.a))) (Some (record { address = address; block = None; dirty = dirty })) touch same in
      to_zeros address dirty touch is.0 is.1 may.1
  touch_right (Clean address) touch is same = absurd (cc same)

unlinked_right : (geo : Geometry) (version : ℕ) (cut : Option BRow) (row : ARow) → IsRight geo version row → IsRight geo version (unlinked_from cut row)
unfolding IsRight
unlinked_right geo version None row right = right
unlinked_right geo version (Some cut) row right = by_test (is_slot cut.slot row.link)
  where
    by_test : (b : Bool) → IsRight geo version (cond b (record row { link = links.Lost }) row)
    by_test true = (right.0, tt, right.2)
    by_test false = right

linked_right : (geo : Geometry) (version address : ℕ) (dirty : Bool) (block : Option BRow) → address < geo.blocks → IsRowOrZero geo version block
    → IsRight geo version (record { address = address; link = link_to block; dirty = dirty; fp = print_beside block })
unfolding IsRight IsRowOrZero
linked_right geo version address dirty None below block = (below, (block, refl), refl)
linked_right geo version address dirty (Some row) below block = (below, block.slot, block.fp)

b_right : (geo : Geometry) (version : ℕ) (block : Option BRow) (rows : List BRow) → IsRowOrZero geo version block → AllByRecursion (IsB geo) rows → AllByRecursion (IsB geo) (b_after geo.bcap block rows)
unfolding IsRowOrZero
b_right geo version None rows block all = all
b_right geo version (Some row) rows block all =
    all_take (IsB geo) geo.bcap (b_moved row rows)
    (block, all_filter (IsB geo) (λ other. not (other.slot == row.slot)) rows (all_of (IsB geo) (λ other. not (other.slot == row.slot) ≡ true → IsB geo other) rows (λ other is passes. is) all))

b_short : (bcap : ℕ) (block : Option BRow) (rows : List BRow) → length rows ≤ bcap → length (b_after bcap block rows) ≤ bcap
b_short bcap None rows short = short
b_short bcap (Some row) rows short = omega (arith, length-take bcap (b_moved row rows))

-- what is kept of a table, but that dirty addresses are linked
record AreRight (geo : Geometry) (version : ℕ) (table : Table) : Type 0 where
  fit : RowsFit table
  b_rows : AllByRecursion (IsB geo) table.b
  a_rows : AllByRecursion (IsRight geo version) table.a
  len_b : length table.b ≤ geo.bcap
  len_a : length table.a ≤ geo.acap

module _ (geo : Geometry) (version : ℕ) where
  are_right : (table : Table) → AreListed geo version table → AreRight geo version table
  are_right table listed = record {
    fit = listed.fit;
    b_rows = listed.b_rows;
    a_rows = all_of (IsA geo version) (IsRight geo version) table.a (right_of geo version) listed.a_rows;
    len_b = listed.len_b;
    len_a = listed.len_a;
  }

  touched_right : (table : Table) (touch : Touch) → AreListed geo version table → IsRightTouch geo version table.b touch → AreRight geo version (touched geo.acap geo.bcap touch table)
  touched_right table touch listed right =
      let cut : Option BRow = cut_block geo.bcap touch.block table.b in
      let rows : List ARow = take geo.acap (a_moved touch table.a) in
      record {
        fit = touched_fits geo.acap geo.bcap touch.address touch.dirty table listed.fit listed.len_b touch.block right.one;
        b_rows = b_right geo version touch.block table.b right.block listed.b_rows;
        a_rows = all_map (IsRight geo version) (IsRight geo version) (unlinked_from cut) rows (unlinked_right geo version cut)
            (all_take (IsRight geo version) geo.acap (a_moved touch table.a) (
              linked_right geo version touch.address (touch.dirty || is_dirty_at touch.address table.a) touch.block right.address right.block,
              all_filter (IsRight geo version) (λ row. not (row.address == touch.address)) table.a
                  (all_of (IsA geo version) (λ row. not (row.address == touch.address) ≡ true → IsRight geo version row) table.a (λ row is passes. right_of geo version row is) listed.a_rows),
            ));
        len_b = b_short geo.bcap touch.block table.b listed.len_b;
        len_a = omega (arith, length-map rows (unlinked_from cut), length-take geo.acap (a_moved touch table.a));
      }

  cleaned_right : (address : ℕ) (row : ARow) → IsRight geo version row → IsRight geo version (cleaned_row address row)
  unfolding IsRight
  cleaned_right address row right = by_test (row.address == address)
    where
      by_test : (b : Bool) → IsRight geo version (cond b (record row { dirty = false }) row)
      by_test true = right
      by_test false = right

  clean_right : (address : ℕ) (table : Table) → AreListed geo version table → AreRight geo version (record table { a = cleaned address table.a })
  clean_right address table listed = record {
    fit = cleaned_fits address table listed.fit;
    b_rows = listed.b_rows;
    a_rows = all_map (IsRight geo version) (IsRight geo version) (cleaned_row address) table.a (cleaned_right address) (are_right table listed).a_rows;
    len_b = listed.len_b;
    len_a = omega (arith, length-map table.a (cleaned_row address), listed.len_a);
  }

  touch_after : (touch : Option Touch) (table after : Table) → AreListed geo version table → ((t : Touch) → touch ≡ Some t → IsRightTouch geo version table.b t)
      → option_and_then (after_touch geo.acap geo.bcap table) touch ≡ Some after → AreRight geo version after
  touch_after None table after listed right is = absurd (cc is)
  touch_after (Some touch) table after listed right is = by_test (may_touch geo.acap geo.bcap touch table) is
    where
      by_test : (b : Bool) → cond b (Some (touched geo.acap geo.bcap touch table)) None ≡ Some after → AreRight geo version after
      by_test true same =
          let it : touched geo.acap geo.bcap touch table ≡ after = cc same in
          subst (AreRight geo version) it (touched_right table touch listed (right touch refl))
      by_test false same = absurd (cc same)

  clean_after : (b : Bool) (address : ℕ) (table after : Table) → AreListed geo version table → cond b (Some (record table { a = cleaned address table.a })) None ≡ Some after → AreRight geo version after
  clean_after true address table after listed same =
      let it : record table { a = cleaned address table.a } ≡ after = cc same in
      subst (AreRight geo version) it (clean_right address table listed)
  clean_after false address table after listed same = absurd (cc same)

  rec_after : (rec : Rec) (table after : Table) → AreListed geo version table → IsRec geo version rec → after_rec geo.acap geo.bcap rec table ≡ Some after → AreRight geo version after
  rec_after (Hit address) table after listed is same = touch_after (touch_of (Hit address) table) table after listed (λ t here. touch_right geo version table listed (Hit address) t is here) same
  rec_after (ToSlot address slot dirty) table after listed is same =
      touch_after (touch_of (ToSlot address slot dirty) table) table after listed (λ t here. touch_right geo version table listed (ToSlot address slot dirty) t is here) same
  rec_after (Store address slot fp dirty) table after listed is same =
      touch_after (touch_of (Store address slot fp dirty) table) table after listed (λ t here. touch_right geo version table listed (Store address slot fp dirty) t is here) same
  rec_after (Zero address dirty) table after listed is same =
      touch_after (touch_of (Zero address dirty) table) table after listed (λ t here. touch_right geo version table listed (Zero address dirty) t is here) same
  rec_after (Clean address) table after listed is same = clean_after (is_dirty_at address table.a) address table after listed same

  -- one record: the rows behind it are listed
  listed_after : (rec : Rec) (table after : Table) → AreListed geo version table → IsRec geo version rec → after_rec geo.acap geo.bcap rec table ≡ Some after → AreListed geo version after
  listed_after rec table after listed is same =
      let right = rec_after rec table after listed is same in
      let linked = replay_linked geo.acap geo.bcap geo.bcap_least (rec ∷ []) table after (ap (option_and_then (replay geo.acap geo.bcap [])) same)
      (all_of (IsA geo version) IsDirtyLinked table.a (λ row is. is.linked) listed.a_rows) in
      record {
        fit = right.fit;
        b_rows = right.b_rows;
        a_rows = all_both (IsRight geo version) IsDirtyLinked (IsA geo version) after.a (with_link geo version) right.a_rows linked;
        len_b = right.len_b;
        len_a = right.len_a;
      }

  and_then : (recs : List Rec) (middle : Option Table) (after : Table) → ((t : Table) → middle ≡ Some t → AreListed geo version t)
      → ((t : Table) → AreListed geo version t → replay geo.acap geo.bcap recs t ≡ Some after → AreListed geo version after) → option_and_then (replay geo.acap geo.bcap recs) middle ≡ Some after → AreListed geo version after
  and_then recs None after here rest is = absurd (cc is)
  and_then recs (Some t) after here rest is = rest t (here t refl) is

  -- and behind records that fit one after the other
  pub replay_listed : (recs : List Rec) (table after : Table) → AllByRecursion (IsRec geo version) recs → AreListed geo version table → replay geo.acap geo.bcap recs table ≡ Some after → AreListed geo version after
  replay_listed [] table after are listed same =
      let it : table ≡ after = cc same in
      subst (AreListed geo version) it listed
  replay_listed (rec ∷ recs) table after are listed same =
      and_then recs (after_rec geo.acap geo.bcap rec table) after (λ t here. listed_after rec table t listed are.0 here) (λ t here rest. replay_listed recs t after are.1 here rest) same
