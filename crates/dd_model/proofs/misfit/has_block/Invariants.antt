use Rattle.std.proofs.Common.{◌≡◌, drop}
use Rattle.std.specs.Prelude.{◌==◌, ◌&&◌}
use Rattle.std.specs.Str.{bytes_eq}
use Rattle.std.specs.List.{list_any}
use Rattle.dd_model.proofs.misfit.has_block.Given as goal

abbrev pub invariant-loop-block : goal.invariant-loop-block
invariant-loop-block l =
    list_any (λ block. block.slot == l.slot && bytes_eq block.fp.0 l.fp.0) l.b ≡ list_any (λ block. block.slot == l.slot && bytes_eq block.fp.0 l.fp.0) (drop l.block-index l.b)
