use Rattle.std.proofs.{Common.{◌≤◌, ◌+◌, arith}, lemmas.Result.{err_from_is_err_and}}
use Rattle.gateway_serving.{specs.Servers.{tally_in}, proofs.{Stages.{ends_begun, ends_heard, ends_read, hears_few}, Traces.{alone}}}
use Rattle.gateway_serving.proofs.server.Server.turn.Goals as goal

pub hear-requires-clause-few : goal.hear-requires-clause-few
hear-requires-clause-few g c =
    let few : tally_in c.begin_turn.new.self ≤ tally_in c.args.self.now + 2 = (c.in_ok-begin_turn.ensures.begins (alone c.args.self.now)).does.few in
    omega (arith, few, c.requires.few)

pub hear_control-requires : goal.hear_control-requires
hear_control-requires g c =
    let few : tally_in c.begin_turn.new.self ≤ tally_in c.args.self.now + 2 = (c.in_ok-begin_turn.ensures.begins (alone c.args.self.now)).does.few in
    let heard = hears_few c.in_ok-hear.ensures.hears in record {
      room = omega (arith, heard.1, c.requires.room);
      few = omega (arith, few, heard.0, c.requires.few);
      no_askers = c.requires.no_askers;
    }

pub returns-in_err-begin_turn : goal.returns-in_err-begin_turn
returns-in_err-begin_turn g c =
    let p = err_from_is_err_and c.from_residual.result c.from_residual.ensures.1 in
    record { turns = rw (p.1, p.2) (ends_begun _ _ _ _ _ c.in_err-begin_turn.ensures.begins) }

pub returns-in_err-hear : goal.returns-in_err-hear
returns-in_err-hear g c =
    let p = err_from_is_err_and c.from_residual-in_err-hear.result c.from_residual-in_err-hear.ensures.1 in
    record { turns = rw (p.1, p.2) (ends_heard _ _ _ _ _ _ c.in_ok-begin_turn.ensures.begins _ c.in_err-hear.ensures.hears) }

pub returns : goal.returns
returns g c = record { turns = ends_read _ _ _ _ _ _ c.in_ok-begin_turn.ensures.begins _ _ _ c.in_ok-hear.ensures.hears c.hear_control.ensures.lines }
