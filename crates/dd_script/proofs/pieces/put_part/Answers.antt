use Rattle.dd_script.proofs.Reading.{part_put}
use Rattle.dd_script.proofs.pieces.put_part.Goals as goal

pub returns-clause-text : goal.returns-clause-text
returns-clause-text c = part_put c.args.size c.min-count.result c.args.into.now c.put_bytes.new.into c.args.bytes.now c.requires.room c.requires.fits c.min-count.ensures c.put_bytes.ensures.spelled
