use Rattle.std.proofs.Common.{◌≡◌, ◌<◌, ◌∙◌, ap, sym, subst, ℕ, List, true, false, take}
use Rattle.std.specs.Prelude.{Option, IfSome}
use Rattle.std.specs.List.{AllByRecursion}
use Rattle.dd_record.specs.declared.row.ARow.{ARow}
use Rattle.dd_record.specs.declared.row.BRow.{BRow}
use Rattle.dd_record.specs.Table.{is_slot}
use Rattle.dd_record.specs.Replay.{is_clean_cut, is_free_cut, cut_address, cut_block, a_moved}
use Rattle.dd_meta.specs.Entries.{Meta, rows_of}
use Rattle.dd_data.specs.Blocks.{Data}
use Rattle.dd_model.specs.Listing.{row_of, touch_by}
use Rattle.dd_model.proofs.Answering.{and_second}
use Rattle.dd_policy.specs.Coupling.{listing_in}
use Rattle.dd_policy.proofs.Marking.{clean_cut}
use Rattle.dd_policy.proofs.Touched.{given_below, drop_below}
use Rattle.dd_policy.proofs.references.refer_both.Goals as goal

pub refer-out-requires-clause-below : goal.refer-out-requires-clause-below
refer-out-requires-clause-below c =
    let meta : Meta = c.args.meta.now in
    let blocks : Data = c.args.blocks.now in
    let below = given_below (listing_in meta blocks) c.requires.kept c.args.block c.requires.block in
    subst (λ (o : Option BRow). IfSome o (λ row. row.slot < meta.slots)) (sym c.row_of-row.ensures)
    (subst (λ (n : ℕ). IfSome (row_of c.args.block blocks.rows) (λ row. row.slot < n)) (sym c.requires.same) below)

pub unlink-requires-clause-below : goal.unlink-requires-clause-below
unlink-requires-clause-below c =
    let meta : Meta = c.args.meta.now in
    let blocks : Data = c.args.blocks.now in
    let below = drop_below (listing_in meta blocks) c.requires.kept c.args.block c.requires.block in
    subst (λ (o : Option BRow). IfSome o (λ row. row.slot < c.refer-out.new.meta.slots)) (sym c.bring_block-drop.ensures.drop)
    (subst (λ (n : ℕ). IfSome (cut_block blocks.bcap (row_of c.args.block blocks.rows) blocks.rows) (λ row. row.slot < n)) (sym (c.refer-out.ensures.slots ∙ c.requires.same)) below)

pub unlink-requires-clause-clean : goal.unlink-requires-clause-clean
unlink-requires-clause-clean c =
    let meta : Meta = c.args.meta.now in
    let blocks : Data = c.args.blocks.now in
    let row : Option BRow = row_of c.args.block blocks.rows in
    let touch = touch_by c.args.address c.args.block c.args.dirty (listing_in meta blocks) in
    let free : is_free_cut c.args.address (rows_of meta) (cut_block blocks.bcap row blocks.rows) ≡ true =
    and_second (is_clean_cut (cut_address meta.acap touch (rows_of meta))) (is_free_cut c.args.address (rows_of meta) (cut_block blocks.bcap row blocks.rows)) c.requires.clean in
    let clean = clean_cut meta.acap blocks.bcap c.requires.kept.bcap_least c.args.address c.args.dirty (rows_of meta) blocks.rows row free in
    let rows = c.refer-out.ensures.rows ∙ ap (λ (o : Option BRow). take meta.acap (a_moved (record { address = c.args.address; block = o; dirty = c.args.dirty }) (rows_of meta))) c.row_of-row.ensures in
    subst (λ (o : Option BRow). IfSome o (λ cut. AllByRecursion (λ row. is_slot cut.slot row.link ≡ true → row.dirty ≡ false) (rows_of c.refer-out.new.meta))) (sym c.bring_block-drop.ensures.drop)
    (subst (λ (rs : List ARow). IfSome (cut_block blocks.bcap row blocks.rows) (λ cut. AllByRecursion (λ row. is_slot cut.slot row.link ≡ true → row.dirty ≡ false) rs)) (sym rows) clean)
