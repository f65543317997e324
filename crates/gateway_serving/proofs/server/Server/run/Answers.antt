use Rattle.std.proofs.Common.{◌≤◌, ◌+◌, ◌*◌, length, arith}
use Rattle.gateway_serving.{specs.{Answering.{waiting_in}, Servers.{tally_in}}, proofs.Running.{IsRunning-none, IsRunning-on, IsRunning-then, RunsSo-all, RunsSo-cut, RunsSo-stopped, few_asking, few_running}}
use Rattle.gateway_serving.proofs.server.Server.run.Goals as goal

pub loop-done-init : goal.loop-done-init
loop-done-init g c = record { running = IsRunning-none _ c.requires.no_askers }

pub turn-requires : goal.turn-requires
turn-requires g c =
    let run = c.loop-done.invariant.running in
    let few : tally_in c.loop-done.self ≤ tally_in c.args.self.now + 322 * c.loop-done.done = few_running run in record {
      room = omega (arith, run.does.same_room, c.requires.room);
      few = omega (arith, few, c.loop-done-test.true, c.requires.turns.1, c.requires.few);
      no_askers = run.no_askers;
    }

pub returns-in-Err : goal.returns-in-Err
returns-in-Err g c = record { runs = RunsSo-cut _ _ c.loop-done.invariant.running c.in-Err.ensures.turns c.loop-done-test.true }

pub end_turn-requires : goal.end_turn-requires
end_turn-requires g c =
    let run = c.loop-done.invariant.running in
    let few : tally_in c.loop-done.self ≤ tally_in c.args.self.now + 322 * c.loop-done.done = few_running run in
    let more : tally_in c.turn.new.self ≤ tally_in c.loop-done.self + 258 * 1 = c.in-Ok.ensures.turns.does.few in
    let asked : length (waiting_in c.turn.new.askers) ≤ 64 = few_asking run c.in-Ok.ensures.turns in
    record { few = omega (arith, few, more, asked, c.loop-done-test.true, c.requires.turns.1, c.requires.few) }

pub returns-then-end_turn : goal.returns-then-end_turn
returns-then-end_turn g c = record {
  runs = RunsSo-stopped _ (IsRunning-then c.loop-done.invariant.running c.in-Ok.ensures.turns c.end_turn.ensures.ends) c.if-end_turn.true c.loop-done-test.true;
}

pub loop-done-preserved : goal.loop-done-preserved
loop-done-preserved g c = record { running = IsRunning-on c.loop-done.invariant.running c.in-Ok.ensures.turns c.end_turn.ensures.ends c.if-end_turn.false }

pub returns : goal.returns
returns g c = record { runs = RunsSo-all _ c.loop-done.invariant.running (omega (arith, c.loop-done-test.false, c.loop-done.auto.done-end)) }
