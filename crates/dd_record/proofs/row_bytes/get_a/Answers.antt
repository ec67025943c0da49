use Rattle.std.proofs.Common.{◌≡◌, ap, sym, ◌∙◌, Ok}
use Rattle.std.proofs.lemmas.Bool.{ltb-true}
use Rattle.std.specs.Prelude.{true}
use Rattle.dd_record.specs.declared.fault.What.TheVariants.{Address, Flags, Slot, Unused}
use Rattle.dd_record.specs.Faults.{are_flags, are_dirty_flags, is_print_field, is_slot_field}
use Rattle.dd_record.specs.Spelling.{flags_of, slot_field}
use Rattle.dd_record.specs.Table.{is_link}
use Rattle.dd_record.proofs.Checks.{kept_of}
use Rattle.dd_record.proofs.RowLaws.{a_back, a_spelled, flags_kept, slot_kept, link_kept, linked_kept}
use Rattle.dd_record.proofs.row_bytes.get_a.Goals as goal

pub returns-clause-ok : goal.returns-clause-ok
returns-clause-ok c =
    let geo = c.args.geo in
    let version = c.args.version in
    let flags = c.u32_at-flags.result in
    let slot = c.u32_at-slot.result in
    let flags_are : are_flags version flags ≡ true = sym c.are_flags.ensures ∙ kept_of 4 Flags _ c.check-2.result c.in_ok-check-2.was c.check-2.ensures in
    let slot_is : is_slot_field geo flags slot ≡ true =
    sym c.is_slot_field.ensures ∙ kept_of 8 Slot _ c.check-3.result c.in_ok-check-3.was c.check-3.ensures in
    let print_is : is_print_field flags c.fp_at-fp.result.0 ≡ true =
    sym c.is_print_field.ensures ∙ kept_of 12 Unused _ c.check-4.result c.in_ok-check-4.was c.check-4.ensures in
    let dirty_is = c.are_dirty_flags.ensures in (
      a_spelled c.args.from.now _ flags slot c.told-from c.u32_at-address.ensures.spelled c.u32_at-flags.ensures.spelled
          c.u32_at-slot.ensures.spelled c.fp_at-fp.ensures.bytes
          (ap (flags_of c.link_of.result) dirty_is ∙ ap (λ link. flags_of link (are_dirty_flags flags)) c.link_of.ensures ∙ flags_kept version flags slot flags_are)
          (ap slot_field c.link_of.ensures ∙ slot_kept geo flags slot slot_is),
      record {
        address = ltb-true _ _ (kept_of 0 Address _ c.check.result c.in_ok-check.was c.check.ensures);
        link = rw c.link_of.ensures (link_kept geo version flags slot c.fp_at-fp.result flags_are slot_is print_is c.fp_at-fp.ensures.whole);
        linked = λ dirty. ap is_link c.link_of.ensures ∙ linked_kept flags slot (sym dirty_is ∙ dirty);
        fp = c.fp_at-fp.ensures.whole;
      },
    )

pub returns-clause-back : goal.returns-clause-back
returns-clause-back c = λ row is e. ap Ok (a_back c.args.geo c.args.version row _ c.args.from.now is e c.u32_at-address.ensures.number
    (rw (← c.u32_at-flags.ensures.number, ← c.u32_at-slot.ensures.number) c.link_of.ensures)
    (c.are_dirty_flags.ensures ∙ ap are_dirty_flags c.u32_at-flags.ensures.number)
    c.fp_at-fp.ensures.bytes)
