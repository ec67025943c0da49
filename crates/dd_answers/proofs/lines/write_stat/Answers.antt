use Rattle.std.proofs.Common.{sym, ◌∙◌, ap}
use Rattle.dd_model.specs.declared.orphans.Orphans.{Orphans}
use Rattle.dd_script.specs.Text.{ended, stat_text}
use Rattle.dd_answers.proofs.lines.write_stat.Goals as goal

pub returns-clause-text : goal.returns-clause-text
returns-clause-text g c =
    c.write_reply.ensures.text ∙ ap (λ n. ended (stat_text n c.orphans-orphans.result.a c.orphans-orphans.result.b)) c.count-count.ensures ∙ ap (λ (o : Orphans). ended (stat_text c.args.store.now.store.count o.a o.b)) c.orphans-orphans.ensures.table

pub returns-clause-state : goal.returns-clause-state
returns-clause-state g c = λ world s holds. sym c.orphans-orphans.ensures.table ∙ c.orphans-orphans.ensures.state world s holds
