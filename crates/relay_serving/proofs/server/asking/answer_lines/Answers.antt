use Rattle.std.proofs.Common.{◌∙◌, arith, refl}
use Rattle.relay_serving.proofs.Askings.{IsAsking-few, IsAsking-none, IsAsking-then, round_ended, round_full}
use Rattle.relay_serving.proofs.server.asking.answer_lines.Goals as goal

pub loop-init : goal.loop-init
loop-init g c = record { asking = IsAsking-none _ _; room = refl }

pub returns-in-None-clause-round : goal.returns-in-None-clause-round
returns-in-None-clause-round g c = round_ended _ _ _ _ _ _ c.loop.invariant.asking c.in-None.ensures.next c.loop-test.true

pub returns-in-None-clause-few : goal.returns-in-None-clause-few
returns-in-None-clause-few g c =
    let few = IsAsking-few _ _ _ _ _ c.loop.invariant.asking in
    omega (arith, few, c.loop-test.true)

pub loop-preserved : goal.loop-preserved
loop-preserved g c = record {
  asking = IsAsking-then (g.A.Replies.texts c.args.held.now) c.args.starved _ _ _ _ _ _ _ c.loop.invariant.asking c.in-Some.ensures.next c.and-lines.ensures.stops c.and-lines.ensures.refused;
  room = c.in-Some.ensures.room ∙ c.loop.invariant.room;
}

pub returns-clause-round : goal.returns-clause-round
returns-clause-round g c = round_full _ _ _ _ _ c.loop.invariant.asking (omega (arith, c.loop-test.false, c.loop.auto.counter-end))

pub returns-clause-few : goal.returns-clause-few
returns-clause-few g c =
    let few = IsAsking-few _ _ _ _ _ c.loop.invariant.asking in
    omega (arith, few, c.loop.auto.counter-end)
