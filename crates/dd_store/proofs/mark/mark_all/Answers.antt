use Rattle.std.proofs.Common.{◌≡◌, suc, ◌+◌, ◌<◌, List, [], ◌∷◌, ◌++◌, length, take, get_or, ◌∙◌, ap, arith}
use Rattle.dd_record.specs.declared.rec.Rec.{Rec}
use Rattle.dd_record.specs.declared.rec.Rec.TheVariants.{Clean}
use Rattle.dd_record.specs.Table.{is_dirty_at}
use Rattle.dd_model.specs.Listing.{Listing, made_clean}
use Rattle.dd_store.specs.Laying.{all_marked, clean_records}
use Rattle.dd_store.proofs.MarkingAll.{marked_more, pending_more, next_dirty}
use Rattle.dd_store.proofs.mark.mark_all.Goals as goal

pub set_clean-requires : goal.set_clean-requires
set_clean-requires g c =
    let i = c.loop-address.address-index in
    let lt : i < length c.args.addresses.now = omega arith in
    ap (λ (lists : Listing). is_dirty_at (get_or c.args.addresses.now i 0) lists.table.a) c.loop-address.invariant.0
    ∙ next_dirty c.args.addresses.now i (g.L.Lists.listing c.args.lists.now).table.a c.requires.once c.requires.dirty lt

pub loop-address-preserved : goal.loop-address-preserved
loop-address-preserved g c =
    let i = c.loop-address.address-index in
    let all = c.args.addresses.now in
    let inv = c.loop-address.invariant in
    let lt : i < length all = omega arith in
    let next : suc i ≡ i + 1 = omega arith in (
      c.set_clean.ensures.after ∙ ap (made_clean (get_or all i 0)) inv.0 ∙ marked_more all i (g.L.Lists.listing c.args.lists.now) lt ∙ ap (λ n. all_marked (take n all) (g.L.Lists.listing c.args.lists.now)) next,
      c.push_reserved.ensures.items ∙ ap (λ (recs : List Rec). recs ++ Clean (get_or all i 0) ∷ []) inv.1 ∙ pending_more c.args.pending.now.items all i lt ∙ ap (λ n. c.args.pending.now.items ++ clean_records (take n all)) next,
      c.push_reserved.ensures.capacity ∙ inv.2,
      omega (arith, c.push_reserved.ensures.len, inv.3),
    )
