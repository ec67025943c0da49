use Rattle.std.proofs.Common.{sym, ap, ◌∙◌, Ok}
use Rattle.dd_block.proofs.Results.{ok_none}
use Rattle.dd_record.specs.Spelling.{rec_text}
use Rattle.dd_record.proofs.RecordLaws.{fields_spelled, rec_back, AreFields}
use Rattle.dd_record.proofs.Sound.{fields_sound}
use Rattle.dd_record.proofs.rec_bytes.get_rec.Goals as goal

pub returns-clause-ok : goal.returns-clause-ok
returns-clause-ok c =
    let fields = c.read_fields-fields.result in
    let spelled = fields_spelled c.args.geo c.args.version fields.kind fields.dirty fields.address fields.slot fields.fp c.read_fields-fields.ensures.whole
    (ok_none c.check_fields.result _ _ c.in_ok-check_fields.was c.check_fields.ensures) in
    (c.read_fields-fields.ensures.spelled ∙ spelled.0 ∙ ap rec_text (sym c.rec_of.ensures), rw c.rec_of.ensures spelled.1)

pub returns-clause-back : goal.returns-clause-back
returns-clause-back c =
    let fields = c.read_fields-fields.result in
    let read = c.read_fields-fields.ensures in
    let are : AreFields c.args.from.now fields.kind fields.dirty fields.address fields.slot fields.fp =
    record { kind_is = read.kind; dirty_is = read.dirty; address_is = read.address; slot_is = read.slot; print_is = read.print } in
    λ rec is e. ap Ok (c.rec_of.ensures ∙ rec_back c.args.geo c.args.version rec c.args.from.now _ _ _ _ _ is e are)

pub returns-in_err-check_fields-clause-back : goal.returns-in_err-check_fields-clause-back
returns-in_err-check_fields-clause-back c =
    let fields = c.read_fields-fields.result in
    let read = c.read_fields-fields.ensures in
    let are : AreFields c.args.from.now fields.kind fields.dirty fields.address fields.slot fields.fp =
    record { kind_is = read.kind; dirty_is = read.dirty; address_is = read.address; slot_is = read.slot; print_is = read.print } in
    λ rec is e. absurd (cc (c.in_err-check_fields.ensures, fields_sound c.args.geo c.args.version rec c.args.from.now _ _ _ _ _ is e are))
