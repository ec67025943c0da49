use Rattle.std.proofs.Common.{◌∙◌, sym}
use Rattle.dd_meta.specs.Entries.{rows_of}
use Rattle.dd_policy.proofs.Victims.{victim_is, roomy_some, roomy_none, clean_last, room_none}
use Rattle.dd_policy.proofs.references.make_room.Goals as goal

pub drop_back-requires-clause-clean : goal.drop_back-requires-clause-clean
drop_back-requires-clause-clean c =
    let old = c.args.meta.now in
    clean_last c.args.address old.acap (rows_of old) c.in-Some.out (sym (victim_is c.args.address old) ∙ sym c.victim.ensures ∙ c.in-Some.is) c.requires

pub returns-in-Some-clause-rows : goal.returns-in-Some-clause-rows
returns-in-Some-clause-rows c =
    let old = c.args.meta.now in
    c.drop_back.ensures.rows ∙ roomy_some c.args.address old.acap (rows_of old) c.in-Some.out (sym (victim_is c.args.address old) ∙ sym c.victim.ensures ∙ c.in-Some.is)

pub returns-in-Some-clause-out : goal.returns-in-Some-clause-out
returns-in-Some-clause-out c = sym c.in-Some.is ∙ c.victim.ensures ∙ victim_is c.args.address c.args.meta.now

pub returns-in-None-clause-rows : goal.returns-in-None-clause-rows
returns-in-None-clause-rows c =
    let old = c.args.meta.now in
    roomy_none c.args.address old.acap (rows_of old) c.len.ensures.keeps.some (sym (victim_is c.args.address old) ∙ sym c.victim.ensures ∙ c.in-None.is)

pub returns-in-None-clause-out : goal.returns-in-None-clause-out
returns-in-None-clause-out c = sym c.in-None.is ∙ c.victim.ensures ∙ victim_is c.args.address c.args.meta.now

pub returns-in-None-clause-room : goal.returns-in-None-clause-room
returns-in-None-clause-room c = room_none c.args.address c.args.meta.now c.len.ensures.keeps (sym c.victim.ensures ∙ c.in-None.is)
