use Rattle.std.proofs.Common.{refl}
use Rattle.dd_rig.specs.World.{World}
use Rattle.dd_rig.proofs.Moments.{goes_on, widens}
use Rattle.dd_loop.proofs.More.{more_both, more_some}
use Rattle.dd_gen.proofs.Said.{first_within, second_within, first_part, second_part, both_said}
use Rattle.dd_gen.proofs.saying.say_end.Goals as goal

pub returns-in-Err-clause-crash : goal.returns-in-Err-clause-crash
returns-in-Err-clause-crash g c = λ t. widens (c.say_reply.ensures.time t) (λ o h. first_within c.args.sums c.args.count (g.R.Rig.world c.args.rig.now) o h)

pub returns-in-Err-clause-said : goal.returns-in-Err-clause-said
returns-in-Err-clause-said g c = λ t. first_part c.args.sums c.args.count (g.R.Rig.world c.args.rig.now) (g.R.Rig.world c.say_reply.new.rig) (c.say_reply.ensures.part t)

pub returns-in-Err-say_reply-clause-crash : goal.returns-in-Err-say_reply-clause-crash
returns-in-Err-say_reply-clause-crash g c = λ t.
    let old : World = g.R.Rig.world c.args.rig.now in
    goes_on (widens (c.say_reply.ensures.time t) (λ o h. first_within c.args.sums c.args.count old o h)) (c.say_reply-in-Ok.ensures.time t)
    (λ o h. second_within c.args.sums c.args.count old (g.R.Rig.world c.say_reply.new.rig) o (c.in-Ok.ensures.said t) h)

pub returns-in-Err-say_reply-clause-said : goal.returns-in-Err-say_reply-clause-said
returns-in-Err-say_reply-clause-said g c = λ t.
    second_part c.args.sums c.args.count (g.R.Rig.world c.args.rig.now) (g.R.Rig.world c.say_reply.new.rig) (g.R.Rig.world c.say_reply-in-Ok.new.rig) (c.in-Ok.ensures.said t) (c.say_reply-in-Ok.ensures.part t)

pub returns-in-Ok-say_reply-clause-crash : goal.returns-in-Ok-say_reply-clause-crash
returns-in-Ok-say_reply-clause-crash g c = λ t.
    let old : World = g.R.Rig.world c.args.rig.now in
    goes_on (widens (c.say_reply.ensures.time t) (λ o h. first_within c.args.sums c.args.count old o h)) (c.say_reply-in-Ok.ensures.time t)
    (λ o h. second_within c.args.sums c.args.count old (g.R.Rig.world c.say_reply.new.rig) o (c.in-Ok.ensures.said t) h)

pub returns-in-Ok-say_reply-clause-said : goal.returns-in-Ok-say_reply-clause-said
returns-in-Ok-say_reply-clause-said g c = λ t.
    (refl, both_said c.args.sums c.args.count (g.R.Rig.world c.args.rig.now) (g.R.Rig.world c.say_reply.new.rig) (g.R.Rig.world c.say_reply-in-Ok.new.rig) (c.in-Ok.ensures.said t) (c.in-Ok-say_reply.ensures.said t))

pub returns-in-Err-say_reply-clause-more : goal.returns-in-Err-say_reply-clause-more
returns-in-Err-say_reply-clause-more g c = λ t.
    let old : World = g.R.Rig.world c.args.rig.now in
    let middle : World = g.R.Rig.world c.say_reply.new.rig in
    let new : World = g.R.Rig.world c.say_reply-in-Ok.new.rig in
    more_both old middle new (more_some _ old middle (c.say_reply.ensures.part t)) (more_some _ middle new (c.say_reply-in-Ok.ensures.part t))

pub returns-in-Ok-say_reply-clause-more : goal.returns-in-Ok-say_reply-clause-more
returns-in-Ok-say_reply-clause-more g c = λ t.
    let old : World = g.R.Rig.world c.args.rig.now in
    let middle : World = g.R.Rig.world c.say_reply.new.rig in
    let new : World = g.R.Rig.world c.say_reply-in-Ok.new.rig in
    more_both old middle new (more_some _ old middle (c.say_reply.ensures.part t)) (more_some _ middle new (c.say_reply-in-Ok.ensures.part t))
