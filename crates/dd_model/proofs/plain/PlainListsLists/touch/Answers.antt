use Rattle.std.proofs.Common.{◌≡◌, ◌≤◌, ℕ, Bool, List, [], ◌∷◌, ◌++◌, length, length-append, sym, subst, ◌∙◌, ap, arith}
use Rattle.std.specs.Prelude.{Option, ◌&&◌, not, if◌then◌else◌}
use Rattle.dd_record.specs.declared.row.ARow.{ARow}
use Rattle.dd_record.specs.declared.row.BRow.{BRow}
use Rattle.dd_record.specs.Table.{Table, is_dirty_at}
use Rattle.dd_record.specs.Replay.{touched}
use Rattle.dd_slots.specs.Numbers.{is_among}
use Rattle.dd_model.specs.Listing.{Listing, IsListing, listing_of, row_of, touch_by, referred}
use Rattle.dd_model.proofs.Restored.{dirty_few}
use Rattle.dd_model.proofs.TouchKept.{touch_kept}
use Rattle.dd_model.proofs.plain.PlainListsLists.touch.Goals as goal

pub mark_dirty-requires : goal.mark_dirty-requires
mark_dirty-requires c = λ is.
    let lists = c.args.self.now in
    let listing : Listing = listing_of lists.acap lists.bcap lists.slots lists.b.items lists.a.items lists.dirty.items in
    let after : IsListing (referred (touch_by c.args.address c.args.block c.args.dirty listing) listing) = touch_kept listing c.args.address c.args.block c.args.dirty lists.keeps c.requires.block c.requires.clean in
    let new : c.is_new-new.result ≡ (c.args.dirty && not (is_among c.args.address lists.dirty.items)) =
    c.is_new-new.ensures ∙ ap (λ (rows : List ARow). c.args.dirty && not (is_dirty_at c.args.address rows)) c.deref-2.ensures.value ∙ ap (λ (b : Bool). c.args.dirty && not b) (sym (lists.keeps.dirty_ones.each c.args.address)) in
    let few : length (lists.dirty.items ++ c.args.address ∷ []) ≤ lists.acap =
    subst (λ (b : Bool). length (if b then lists.dirty.items ++ c.args.address ∷ [] else lists.dirty.items) ≤ lists.acap) (sym new ∙ is) (dirty_few (referred (touch_by c.args.address c.args.block c.args.dirty listing) listing) after) in
    omega (arith, few, length-append lists.dirty.items (c.args.address ∷ []), lists.dirty_room)

pub invariant_of-self : goal.invariant_of-self
invariant_of-self c =
    let lists = c.args.self.now in
    let listing : Listing = listing_of lists.acap lists.bcap lists.slots lists.b.items lists.a.items lists.dirty.items in
    let after : IsListing (referred (touch_by c.args.address c.args.block c.args.dirty listing) listing) = touch_kept listing c.args.address c.args.block c.args.dirty lists.keeps c.requires.block c.requires.clean in
    let new : c.is_new-new.result ≡ (c.args.dirty && not (is_among c.args.address lists.dirty.items)) =
    c.is_new-new.ensures ∙ ap (λ (rows : List ARow). c.args.dirty && not (is_dirty_at c.args.address rows)) c.deref-2.ensures.value ∙ ap (λ (b : Bool). c.args.dirty && not b) (sym (lists.keeps.dirty_ones.each c.args.address)) in
    let row : c.row_of-block.result ≡ row_of c.args.block lists.b.items = c.row_of-block.ensures ∙ ap (row_of c.args.block) c.deref.ensures.value in
    let rows : Table = record { b = lists.b.items; a = lists.a.items } in
    let by : Option BRow → Table = λ r. touched lists.acap lists.bcap (record { address = c.args.address; block = r; dirty = c.args.dirty }) rows in
    let b_is : c.touch_rows-cut.new.b.items ≡ (by (row_of c.args.block lists.b.items)).b = c.touch_rows-cut.ensures.b_rows ∙ ap (λ (r : Option BRow). (by r).b) row in
    let a_is : c.touch_rows-cut.new.a.items ≡ (by (row_of c.args.block lists.b.items)).a = c.touch_rows-cut.ensures.a_rows ∙ ap (λ (r : Option BRow). (by r).a) row in
    let dirty_is : c.mark_dirty.new.dirty.items ≡ (if (c.args.dirty && not (is_among c.args.address lists.dirty.items)) then lists.dirty.items ++ c.args.address ∷ [] else lists.dirty.items) =
    c.mark_dirty.ensures.dirty ∙ ap (λ (n : Bool). if n then lists.dirty.items ++ c.args.address ∷ [] else lists.dirty.items) new in
    record {
      a_room = omega (arith, lists.a_room, c.touch_rows-cut.ensures.a_capacity);
      b_room = omega (arith, lists.b_room, c.touch_rows-cut.ensures.b_capacity);
      dirty_room = omega (arith, lists.dirty_room, c.mark_dirty.ensures.capacity);
      keeps =
          subst (λ (b : List BRow). IsListing (listing_of lists.acap lists.bcap lists.slots b c.touch_rows-cut.new.a.items c.mark_dirty.new.dirty.items)) (sym b_is)
          (subst (λ (a : List ARow). IsListing (listing_of lists.acap lists.bcap lists.slots (by (row_of c.args.block lists.b.items)).b a c.mark_dirty.new.dirty.items)) (sym a_is)
          (subst (λ (ns : List ℕ). IsListing (listing_of lists.acap lists.bcap lists.slots (by (row_of c.args.block lists.b.items)).b (by (row_of c.args.block lists.b.items)).a ns)) (sym dirty_is) after));
    }
