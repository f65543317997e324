use Rattle.gateway_serving.proofs.Answering.{leaves_by, leaves_not}
use Rattle.gateway_serving.proofs.server.Server.leave.Goals as goal

pub returns-then-asked : goal.returns-then-asked
returns-then-asked g c = record { leaves = leaves_by c.args.asked c.offer.ensures.offers.starved c.if-asked.true c.offer.ensures.offers.does }

pub returns-else-asked : goal.returns-else-asked
returns-else-asked g c = record { leaves = leaves_not _ c.args.asked c.if-asked.false }
