use Rattle.std.proofs.Common.{◌≤◌, ◌+◌, ◌*◌, Bool, arith, subst}
use Rattle.relay_serving.{specs.{AskingServers.{AsksSo}, Controls.{controls_at}, Servers.{counts_in, tally_in}}, proofs.Running.{IsRunning-none, IsRunning-then, RunsSo-all, RunsSo-cut, RunsSo-stopped}}
use Rattle.relay_serving.proofs.server.Server.run.Goals as goal

pub loop-done-init : goal.loop-done-init
loop-done-init g c = record { running = IsRunning-none _ _ _ _ _ c.requires.fresh c.requires.uncounted c.new-renewal.ensures.latest c.new-renewal.ensures.renewed }

pub turn-requires : goal.turn-requires
turn-requires g c =
    let run = c.loop-done.invariant.running in
    let few : tally_in c.loop-done.self ≤ 195 * c.loop-done.done = run.few in
    let packets : (counts_in c.loop-done.self).packets ≤ 64 * c.loop-done.done = run.few_packets in record {
      room = omega (arith, run.does.same_room, c.requires.room);
      few = omega (arith, few, c.loop-done-test.true, c.requires.plan.few_turns);
      few_packets = omega (arith, packets, c.loop-done-test.true, c.requires.plan.few_turns);
    }

pub returns-in-Err : goal.returns-in-Err
returns-in-Err g c =
    let few : tally_in c.loop-done.self ≤ 195 * c.loop-done.done = c.loop-done.invariant.running.few in
    let more : tally_in c.turn.new.self ≤ tally_in c.loop-done.self + 131 * 1 = c.in-Err.ensures.turns.does.few in record {
      few = omega (arith, few, more, c.loop-done-test.true, c.requires.plan.few_turns);
      runs = RunsSo-cut _ _ _ _ _ _ _ _ _ _ c.loop-done.invariant.running c.in-Err.ensures.turns c.loop-done-test.true;
    }

pub answer-requires : goal.answer-requires
answer-requires g c =
    let run = c.loop-done.invariant.running in
    let few : tally_in c.loop-done.self ≤ 195 * c.loop-done.done = run.few in
    let more : tally_in c.turn.new.self ≤ tally_in c.loop-done.self + 131 * 1 = c.in-Ok.ensures.turns.does.few in record {
      room = omega (arith, run.does.same_room, c.in-Ok.ensures.turns.does.same_room, c.requires.room);
      few = omega (arith, few, more, c.loop-done-test.true, c.requires.plan.few_turns);
    }

pub returns-then-answer : goal.returns-then-answer
returns-then-answer g c =
    let run = IsRunning-then _ _ _ _ _ _ _ _ _ _ _ _ _ _ c.loop-done.invariant.running c.in-Ok.ensures.turns c.answer.ensures.asks c.answer.ensures.room in
    let few : tally_in c.answer.new.self ≤ 195 * (c.loop-done.done + 1) = run.few in record {
      few = omega (arith, few, c.loop-done-test.true, c.requires.plan.few_turns);
      runs = RunsSo-stopped _ _ _ _ _ _ _ _ run c.if-answer.true c.loop-done-test.true;
    }

pub loop-done-preserved : goal.loop-done-preserved
loop-done-preserved g c =
    let asks = subst (λ (stops : Bool). AsksSo c.args.plan.now.workers (c.loop-done.done + 1) c.turn.new.self c.answer.new.self (controls_at g.K.Link g.N.Copies c.loop-done.control) (controls_at g.K.Link g.N.Copies c.answer.new.control) stops)
    c.if-answer.false c.answer.ensures.asks in
    record { running = IsRunning-then _ _ _ _ _ _ _ _ _ _ _ _ _ _ c.loop-done.invariant.running c.in-Ok.ensures.turns asks c.answer.ensures.room }

pub returns : goal.returns
returns g c =
    let few : tally_in c.loop-done.self ≤ 195 * c.loop-done.done = c.loop-done.invariant.running.few in
    record {
      few = omega (arith, few, c.loop-done.auto.done-end, c.requires.plan.few_turns);
      runs = RunsSo-all _ _ _ _ _ _ _ c.loop-done.invariant.running (omega (arith, c.loop-done-test.false, c.loop-done.auto.done-end));
    }
