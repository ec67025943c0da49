use Rattle.std.proofs.Common.{◌≡◌, true, sym, ap, ◌∙◌, refl, arith}
use Rattle.std.proofs.lemmas.List.{take_all}
use Rattle.std.proofs.lemmas.Bool.{leb-true}
use Rattle.std.proofs.lemmas.Slice.Eq.{bytes_eq-Decides}
use Rattle.std.specs.Str.{bytes_eq}
use Rattle.dd_block.specs.Bytes.{part}
use Rattle.dd_record.specs.declared.fault.What.TheVariants.{Magic, Version, LenA, LenB}
use Rattle.dd_record.specs.Spelling.{head_magic, is_version}
use Rattle.dd_record.proofs.Checks.{kept_of}
use Rattle.dd_record.proofs.head.get_head.Goals as goal

pub returns-clause-ok : goal.returns-clause-ok
returns-clause-ok c =
    let from = c.args.from.now in
    let named : part from 0 4 ≡ head_magic = (bytes_eq-Decides (part from 0 4) head_magic).0
    (ap (bytes_eq (part from 0 4)) (sym c.as_slice.ensures) ∙ sym c.eq.ensures ∙ kept_of 0 Magic _ c.check.result c.in_ok-check.was c.check.ensures) in
    let version : is_version c.u32_at-version.result ≡ true = sym c.is_version.ensures ∙ kept_of 4 Version _ c.check-2.result c.in_ok-check-2.was c.check-2.ensures in (
      sym (take_all 32 from (omega (arith, c.told-from)))
          ∙ rw (
            c.u32_at-len_b.ensures.spelled,
            c.u32_at-len_a.ensures.spelled,
            c.u64_at-2.ensures.spelled,
            c.u64_at.ensures.spelled,
            c.u32_at-version.ensures.spelled,
            named,
          ) refl,
      record {
        version = version;
        epoch = omega arith;
        count = omega arith;
        len_a = leb-true _ _ (kept_of 24 LenA _ c.check-3.result c.in_ok-check-3.was c.check-3.ensures);
        len_b = leb-true _ _ (kept_of 28 LenB _ c.check-4.result c.in_ok-check-4.was c.check-4.ensures);
      },
    )
