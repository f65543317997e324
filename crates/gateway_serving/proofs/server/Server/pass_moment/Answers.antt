use Rattle.std.proofs.Common.{refl}
use Rattle.gateway_serving.proofs.{Stages.{passes}, Traces.{Tallies-none}}
use Rattle.gateway_serving.proofs.server.Server.pass_moment.Goals as goal

pub returns : goal.returns
returns g c = record { passes = passes c.later-self.result c.now.result (refl, refl, refl, refl) (Tallies-none _) c.later-self.ensures refl c.now.ensures.given c.offer.ensures.offers }
