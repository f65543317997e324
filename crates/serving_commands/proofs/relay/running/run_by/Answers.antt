use Rattle.std.proofs.Math.Logic.{∥∥₁_map}
use Rattle.published_table.specs.Views.{views_of}
use Rattle.serving_commands.proofs.{RelayRuns.{ran, refused}, Lending.{has_room}}
use Rattle.serving_commands.proofs.relay.running.run_by.Goals as goal

pub returns-in-Err-clause-refused : goal.returns-in-Err-clause-refused
returns-in-Err-clause-refused g c =
    let opening = c.in-Err.ensures in
    refused g.V.Live c.args.config.now c.args.plan.now c.args.live.now c.open_relay.new.self c.max-slots.result c.max-slots.ensures
    c.open_relay.ensures.asked opening.kept c.open_relay.ensures.returned opening.same_room

pub return_relay-requires : goal.return_relay-requires
return_relay-requires g c = has_room _ _ c.in-Ok.ensures.room

pub returns-clause-ran : goal.returns-clause-ran
returns-clause-ran g c =
    let opening = c.in-Ok.ensures in
    let back = c.return_relay.ensures in
    let served = c.serve_on-devices in
    ∥∥₁_map served.ensures
    (ran _ _ c.args.config.now c.args.plan.now c.args.live.now c.open_relay.new.self c.return_relay.new.self c.in-Ok.devices
    served.result.devices (views_of served.result.given.views) served.result.given.report c.settings.result c.max-slots.result c.settings.ensures c.max-slots.ensures
    opening.outs opening.control c.open_relay.ensures.asked opening.first opening.tells c.open_relay.ensures.returned opening.room
    back.returned back.tells back.room back.kept back.asked)
