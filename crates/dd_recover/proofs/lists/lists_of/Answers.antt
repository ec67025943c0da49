use Rattle.dd_block.specs.Geometry.{slot_count}
use Rattle.dd_recover.proofs.Replaying.{restored_behind}
use Rattle.dd_recover.proofs.lists.lists_of.Goals as goal

pub returns-clause-rows : goal.returns-clause-rows
returns-clause-rows g c =
    restored_behind c.args.geo c.args.found.now (slot_count c.args.geo) (g.L.Lists.listing c.in_ok-lists.lists) c.deref.result.now (g.L.Lists.listing c.apply_records.new.lists).table
    c.requires c.in_ok-check_version.ensures.fault (g.met.L.Lists.kept c.in_ok-lists.lists).fit c.in_ok-lists.ensures.lists c.deref.ensures.value c.in_ok-apply_records.ensures.rows
