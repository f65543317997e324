use Rattle.std.proofs.Common.{refl}
use Rattle.gateway_machine.proofs.Onward.{GatewayAt-new}
use Rattle.gateway_machine.proofs.gateway.Gateway.new.Goals as goal

pub returns : goal.returns
returns c = record { stands = GatewayAt-new _ c.args.settings c.args.nonce refl c.start.ensures c.in_ok-sockets.ensures.stands }
