use Rattle.std.proofs.Math.Logic.{∥∥₁_map}
use Rattle.serving_commands.proofs.{GatewayRuns.{ran}, Lending.{has_room}}
use Rattle.serving_commands.proofs.gateway.running.run_by.Goals as goal

pub returns-in-Err-clause-refused : goal.returns-in-Err-clause-refused
returns-in-Err-clause-refused g c =
    let opening = c.in-Err.ensures in
    record { asked = c.open_gateway.ensures.asked; sets = opening.kept; returned = c.open_gateway.ensures.returned; room = opening.same_room }

pub return_gateway-requires : goal.return_gateway-requires
return_gateway-requires g c = has_room _ _ c.in-Ok.ensures.room

pub returns-clause-ran : goal.returns-clause-ran
returns-clause-ran g c =
    let opening = c.in-Ok.ensures in
    let back = c.return_gateway.ensures in
    let served = c.serve_on-devices in
    ∥∥₁_map served.ensures
    (ran _ _ c.args.config.now c.args.turns c.args.live.now c.open_gateway.new.self c.return_gateway.new.self c.in-Ok.devices served.result.devices served.result.given
    c.open_gateway.ensures.asked opening.first opening.tells c.open_gateway.ensures.returned opening.room
    back.returned back.tells back.room back.kept back.asked)
