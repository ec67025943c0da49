use Rattle.std.proofs.Common.{◌∙◌, ap, List, []}
use Rattle.dd_record.specs.declared.row.ARow.{ARow}
use Rattle.dd_record.specs.declared.row.BRow.{BRow}
use Rattle.dd_model.specs.Listing.{listing_of, victims_of}
use Rattle.dd_model.proofs.Falling.{victims_next}
use Rattle.dd_model.proofs.plain.PlainListsLists.victims.Goals as goal

pub returns-clause-next : goal.returns-clause-next
returns-clause-next c = λ block dirty given is.
    let lists = c.args.self.now in
    c.victims_in.ensures
    ∙ ap (λ (rows : List BRow). victims_of c.args.address c.args.want (listing_of lists.acap lists.bcap 0 rows c.deref-2.result.now [])) c.deref.ensures.value
    ∙ ap (λ (rows : List ARow). victims_of c.args.address c.args.want (listing_of lists.acap lists.bcap 0 lists.b.items rows [])) c.deref-2.ensures.value
    ∙ victims_next (listing_of lists.acap lists.bcap lists.slots lists.b.items lists.a.items lists.dirty.items) c.args.address c.args.want lists.keeps block dirty given is
