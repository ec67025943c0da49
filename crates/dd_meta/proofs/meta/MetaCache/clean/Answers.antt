use Rattle.dd_meta.proofs.Cleaning.{clean_rows, clean_dirty, clean_owed}
use Rattle.dd_meta.proofs.meta.MetaCache.clean.Goals as goal

pub returns-clause-rows : goal.returns-clause-rows
returns-clause-rows c = clean_rows c.args.self.now c.set_clean.new.self c.find.ensures.keeps c.args.address c.in-Some.node c.in-Some.ensures.live c.in-Some.ensures.row c.set_clean.ensures.after

pub returns-clause-dirty : goal.returns-clause-dirty
returns-clause-dirty c = clean_dirty c.args.self.now c.set_clean.new.self c.find.ensures.keeps c.args.address c.in-Some.node c.in-Some.ensures.live c.in-Some.ensures.row c.set_clean.ensures.after

pub returns-clause-owed : goal.returns-clause-owed
returns-clause-owed c = clean_owed c.args.self.now c.set_clean.new.self c.find.ensures.keeps c.args.address c.in-Some.node c.in-Some.ensures.live c.in-Some.ensures.row c.set_clean.ensures.after
