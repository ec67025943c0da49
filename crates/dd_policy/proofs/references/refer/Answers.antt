use Rattle.std.proofs.Common.{◌≡◌, ◌≤◌, ◌∙◌, ◌∷◌, ap, sym, arith, length}
use Rattle.std.specs.Prelude.{◌==◌, not, filter}
use Rattle.std.proofs.lemmas.List.{length-map}
use Rattle.dd_record.specs.declared.row.ARow.{ARow}
use Rattle.dd_record.specs.Table.{is_dirty_at}
use Rattle.dd_record.specs.Replay.{Touch, is_clean_cut, linked_row}
use Rattle.dd_meta.specs.Entries.{Meta, Entry, rows_of, dirty_by}
use Rattle.dd_model.proofs.Falling.{last_falls}
use Rattle.dd_model.specs.Listing.{last_of_full}
use Rattle.dd_policy.proofs.Marking.{dirty_after}
use Rattle.dd_policy.proofs.Roomy.{address_front, address_out}
use Rattle.dd_policy.proofs.Touched.{clean_some}
use Rattle.dd_policy.proofs.references.refer.Goals as goal

pub make_room-out-requires : goal.make_room-out-requires
make_room-out-requires c = λ none.
    let old : Meta = c.args.meta.now in
    let few : length (rows_of old) ≤ old.acap = omega (arith, length-map old.entries (λ (e : Entry). e.row), c.is_dirty_then-dirty_now.ensures.keeps.few) in
    let touch : Touch = record { address = c.args.address; block = c.args.block; dirty = c.args.dirty } in
    clean_some (last_of_full old.acap (rows_of old))
    (ap is_clean_cut (sym (last_falls (λ (r : ARow). r.address) old.acap c.is_dirty_then-dirty_now.ensures.keeps.some c.args.address (linked_row touch (rows_of old)) (rows_of old) few none)) ∙ c.requires.clean)

pub returns-clause-rows : goal.returns-clause-rows
returns-clause-rows c =
    let old : Meta = c.args.meta.now in
    let few : length (rows_of old) ≤ old.acap = omega (arith, length-map old.entries (λ (e : Entry). e.row), c.is_dirty_then-dirty_now.ensures.keeps.few) in
    let touch : Touch = record { address = c.args.address; block = c.args.block; dirty = c.args.dirty } in
    let front : record { address = c.args.address; link = c.link_to.result; dirty = c.is_dirty_then-dirty_now.result; fp = c.print_beside.result } ≡ linked_row touch (rows_of old) =
    λ i. record { address = c.args.address; link = c.link_to.ensures i; dirty = c.is_dirty_then-dirty_now.ensures.is i; fp = c.print_beside.ensures i } in
    c.front.ensures.after.rows
    ∙ (λ i. front i ∷ filter (λ (other : ARow). not (other.address == c.args.address)) (c.make_room-out.ensures.rows i))
    ∙ address_front c.args.address old.acap (linked_row touch (rows_of old)) (rows_of old) c.is_dirty_then-dirty_now.ensures.keeps.some few

pub returns-clause-out : goal.returns-clause-out
returns-clause-out c =
    let old : Meta = c.args.meta.now in
    let few : length (rows_of old) ≤ old.acap = omega (arith, length-map old.entries (λ (e : Entry). e.row), c.is_dirty_then-dirty_now.ensures.keeps.few) in
    let touch : Touch = record { address = c.args.address; block = c.args.block; dirty = c.args.dirty } in
    c.make_room-out.ensures.out ∙ address_out c.args.address old.acap (linked_row touch (rows_of old)) (rows_of old) c.is_dirty_then-dirty_now.ensures.keeps.some few

pub returns-clause-dirty : goal.returns-clause-dirty
returns-clause-dirty c =
    let old : Meta = c.args.meta.now in
    let row : ARow = record { address = c.args.address; link = c.link_to.result; dirty = c.is_dirty_then-dirty_now.result; fp = c.print_beside.result } in
    c.front.ensures.after.dirty
    ∙ ap (dirty_by row) c.make_room-out.ensures.dirty
    ∙ dirty_after row c.args.dirty (is_dirty_at c.args.address (rows_of old)) old.dirty c.is_dirty_then-dirty_now.ensures.is (c.is_dirty_then-dirty_now.ensures.keeps.dirty c.args.address)
