use Rattle.gateway_serving.proofs.Stages.{draws}
use Rattle.gateway_serving.proofs.server.Server.draw.Goals as goal

pub returns : goal.returns
returns g c = record { takes = draws c.nonce_of.ensures c.in-Ok.ensures.takes }
