use Rattle.std.proofs.Common.{◌∙◌, ap, arith}
use Rattle.dd_model.specs.Listing.{listing_of}
use Rattle.dd_model.specs.Plain.{owed_to}
use Rattle.dd_model.proofs.Cleaned.{clean_kept}
use Rattle.dd_model.proofs.Referring.{owed_cleaned}
use Rattle.dd_model.proofs.plain.PlainListsLists.set_clean.Goals as goal

pub invariant_of-self : goal.invariant_of-self
invariant_of-self c =
    let lists = c.args.self.now in
    record {
      a_room = omega (arith, lists.a_room, c.clean.ensures.capacity);
      b_room = lists.b_room;
      dirty_room = omega (arith, lists.dirty_room, c.take_out_number.ensures.capacity);
      keeps = rw (c.clean.ensures.rows, c.take_out_number.ensures.numbers) (clean_kept (listing_of lists.acap lists.bcap lists.slots lists.b.items lists.a.items lists.dirty.items) c.args.address lists.keeps);
    }

pub returns-clause-walk : goal.returns-clause-walk
returns-clause-walk c = λ slot. ap (owed_to slot) c.clean.ensures.rows ∙ owed_cleaned slot c.args.address c.args.self.now.a.items
