use Rattle.std.proofs.Common.{ap, sym, ◌∙◌, Ok, rules}
use Rattle.dd_block.proofs.Results.{ok_none}
use Rattle.dd_layout.specs.Super.{kind_fault}
use Rattle.dd_layout.proofs.Superblocks.{super_spelled, super_text_same}
use Rattle.dd_layout.proofs.superblock.read_super.Goals as goal

pub returns-in-None-clause-ok : goal.returns-in-None-clause-ok
returns-in-None-clause-ok c =
    let from = c.args.from.now in
    super_spelled from c.in_ok-geo.geo c.told-from c.fits-from
    (ok_none c.check_kind.result _ (kind_fault from) c.in_ok-check_kind.was c.check_kind.ensures)
    (search rules)
    (sym c.padding_fault.ensures ∙ c.in-None.is)

pub returns-in-None-clause-back : goal.returns-in-None-clause-back
returns-in-None-clause-back c = λ geo h. ap Ok (super_text_same c.in_ok-geo.geo geo (sym (returns-in-None-clause-ok c) ∙ h))
